-- The names of the tokens that are left are marked yet.
use Rattle.std.proofs.Common.{◌≡◌, drop}
use Rattle.loop_templates.specs.Reaching.{named_in, quoted_in, with_names}
use Rattle.loop_templates.proofs.reaching.mark_named.Given as goal

abbrev pub invariant-loop-at : goal.invariant-loop-at
invariant-loop-at l = record {
  named : with_names named_in (drop l.at-index l.tokens) l.found.named ≡ with_names named_in l.tokens l.initial.found.named;
  quoted : with_names quoted_in (drop l.at-index l.tokens) l.found.quoted ≡ with_names quoted_in l.tokens l.initial.found.quoted;
}
