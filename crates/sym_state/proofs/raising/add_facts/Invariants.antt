use Rattle.std.proofs.Common.{◌≡◌, ◌++◌, map, take}
use Rattle.sym_state.specs.Renaming.{fact_renamed}
use Rattle.sym_state.specs.Starting.{raised}
use Rattle.sym_state.proofs.raising.add_facts.Given as goal

-- so far the facts are added
abbrev pub invariant-loop-fact : goal.invariant-loop-fact
invariant-loop-fact l = l.all.items ≡ l.fn.all.items ++ map (fact_renamed (raised l.from)) (take l.fact-index l.facts)
