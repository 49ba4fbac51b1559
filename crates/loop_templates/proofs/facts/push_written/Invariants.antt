-- The facts of the places so far, and of those that are left.
use Rattle.std.proofs.Common.{◌≡◌, ◌++◌, drop}
use Rattle.std.specs.List.{flat_map}
use Rattle.loop_templates.specs.Cases.{written_facts}
use Rattle.loop_templates.proofs.facts.push_written.Given as goal

abbrev pub invariant-loop-place : goal.invariant-loop-place
invariant-loop-place l = l.all.items ++ flat_map (written_facts l.writes l.state) (drop l.place-index l.places)
    ≡ l.initial.all.items ++ flat_map (written_facts l.writes l.state) l.places
