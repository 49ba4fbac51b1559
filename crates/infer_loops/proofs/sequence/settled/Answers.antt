-- The states at the ends are well made.
use Rattle.std.proofs.Common.{List, true, ap, ◌∙◌}
use Rattle.cert_check.specs.declared.tours.Ended.{Ended}
use Rattle.infer_loops.specs.Invariants.{ended_states}
use Rattle.infer_loops.proofs.EndStates.{ends_made}
use Rattle.infer_loops.proofs.sequence.settled.Goals as goal

pub next_after-requires-clause-turned : goal.next_after-requires-clause-turned
next_after-requires-clause-turned c =
    ends_made c.args.frame.now.style true c.args.tour.ends c.as_slice-2.result.now
    (c.as_slice-2.ensures.value ∙ c.in_ok-turned.ensures ∙ ap (λ (ends : List Ended). ended_states true ends) c.as_slice.ensures)
    c.requires.ends
