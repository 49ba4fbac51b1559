-- The facts of the symbols so far, and of those that are left.
use Rattle.std.proofs.Common.{◌≡◌, ◌++◌, drop}
use Rattle.loop_templates.specs.Cases.{skeleton_facts}
use Rattle.loop_templates.proofs.facts.push_skeleton.Given as goal

abbrev pub invariant-loop-k : goal.invariant-loop-k
invariant-loop-k l = l.all.items ++ skeleton_facts l.k (drop l.k l.bones) ≡ l.initial.all.items ++ skeleton_facts 0 l.bones
