-- The facts that are left are kept behind those so far as all are.
use Rattle.std.proofs.Common.{◌≡◌}
use Rattle.std.specs.List.{fold}
use Rattle.std.specs.Vec.Iter.{into_iter_items}
use Rattle.loop_templates.specs.Cases.{keep, ordered_facts}
use Rattle.loop_templates.proofs.in_order.ordered_facts.Given as goal

abbrev pub invariant-loop-fact : goal.invariant-loop-fact
invariant-loop-fact l = fold (keep l.given) l.kept.items (into_iter_items l.fact-iterator) ≡ ordered_facts l.given l.fn.facts.items
