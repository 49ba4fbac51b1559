-- The names of the bodies that are left are marked yet.
use Rattle.std.proofs.Common.{◌≡◌, drop}
use Rattle.loop_templates.specs.Reaching.{named_in, names_from, quoted_in}
use Rattle.loop_templates.proofs.reaching.mark_names.Given as goal

abbrev pub invariant-loop-k : goal.invariant-loop-k
invariant-loop-k l = record {
  named : names_from named_in l.reach l.k (drop l.k l.style.bodies) l.found.named ≡ names_from named_in l.reach 0 l.style.bodies l.initial.found.named;
  quoted : names_from quoted_in l.reach l.k (drop l.k l.style.bodies) l.found.quoted ≡ names_from quoted_in l.reach 0 l.style.bodies l.initial.found.quoted;
}
