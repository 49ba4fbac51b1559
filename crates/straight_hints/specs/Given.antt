-- What a call gives, beside what a definition says (docs/ANALYSER.md, "Hints").
use Rattle.std.specs.Prelude.{◌≡◌, ◌≢◌, List, [], Result, MatchResult}
use Rattle.std.specs.Global.{Vec}
use Rattle.sym_state.specs.Demands.{Rule}
use Rattle.sym_state.specs.declared.demand.EffectFault.{EffectFault}
use Rattle.sym_state.specs.declared.demand.EffectFault.TheVariants.{NoMemory}
use Rattle.sym_state.specs.declared.hint.Hint.{Hint}
use Rattle.straight_hints.specs.Found.{rule_hints}
use Rattle.straight_hints.specs.declared.at.At.{At}

-- the hints for a rule where they are looked for
abbrev pub hints_at : At → Rule → List Hint
hints_at at rule = rule_hints at.finding at.cond.now at.state.now rule

-- the hints that are found are what a definition says, and it says that there are none where a demand isn't met; want of memory
-- is free
abbrev pub Finds : Result (Vec Hint) EffectFault → List Hint → Type 0
Finds result wanted = MatchResult result (λ hints. hints.items ≡ wanted) (λ fault. fault ≢ NoMemory → wanted ≡ [])
