-- Those of the facts so far, and those of the facts that are left.
use Rattle.std.proofs.Common.{◌≡◌, ◌++◌, drop, map, nat_eq}
use Rattle.std.specs.List.{filter}
use Rattle.sym_state.specs.Facts.{subject}
use Rattle.loop_templates.specs.Cases.{moved_to}
use Rattle.loop_templates.proofs.facts.push_facts_on.Given as goal

abbrev pub invariant-loop-fact : goal.invariant-loop-fact
invariant-loop-fact l = l.all.items ++ moved_to l.sym (filter (λ fact. nat_eq (subject fact) l.s) (map (λ fact. fact.now) (drop l.fact-index l.facts)))
    ≡ l.initial.all.items ++ moved_to l.sym (filter (λ fact. nat_eq (subject fact) l.s) (map (λ fact. fact.now) l.facts))
