use Rattle.std.proofs.Common.{◌≡◌, ◌++◌, map, take}
use Rattle.sym_state.specs.Matches.{matched_by}
use Rattle.sym_state.specs.Renaming.{fact_renamed}
use Rattle.cert_check.proofs.uses.add_facts.Given as goal

-- the facts so far are added
abbrev pub invariant-loop-fact : goal.invariant-loop-fact
invariant-loop-fact l = l.all.items ≡ l.fn.all.items ++ map (fact_renamed (matched_by l.matching)) (take l.fact-index l.facts)
