-- What a call gives, beside what a rule comes to (docs/EFFECTS.md, "Effects").
use Rattle.std.specs.Prelude.{◌≡◌, List, ◌++◌, Result, MatchResult}
use Rattle.std.specs.Option.{option_to_list}
use Rattle.bv_base.specs.Answers.{Refuses}
use Rattle.lin_facts.specs.declared.row.Row.{Row}
use Rattle.sym_state.specs.declared.demand.EffectFault.{EffectFault}
use Rattle.sym_state.specs.declared.demand.EffectFault.TheVariants.{NoMemory}
use Rattle.sym_state.specs.declared.hint.Hint.{Hint}
use Rattle.sym_state.specs.State.{State}
use Rattle.sym_state.specs.declared.symbol.Fact.{Fact}
use Rattle.sym_state.specs.Demands.{Outcome, Rule, gives, outcome}
use Rattle.builtin_effects.specs.declared.at.At.{At}
use Rattle.builtin_effects.specs.declared.results.Said.{Said}

-- what a rule comes to where an effect is asked for
abbrev pub outcome_at : At → Rule → List Hint → Outcome
outcome_at at rule hints = outcome at.cond.now at.state.now rule hints

-- what is given, with the hints that are left, is what a definition says; want of memory is free
abbrev pub Gives : Result State EffectFault → List Hint → Outcome → Type 0
Gives result left wanted = MatchResult result (λ after. wanted ≡ gives left after) (Refuses NoMemory wanted)

-- the facts and rows that are said of a new symbol
abbrev pub facts_of : Said → List Fact
facts_of said = option_to_list said.fact

-- the rows that are said of it
abbrev pub rows_of : Said → List Row
rows_of said = option_to_list said.first ++ option_to_list said.second
