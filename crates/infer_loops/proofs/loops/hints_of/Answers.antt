-- The hints at one end more, and those behind the last.
use Rattle.std.specs.Vec.Iter.{into_iter_items}
use Rattle.infer_loops.specs.Invariants.{hints_at_end}
use Rattle.infer_loops.proofs.EndStates.{ends_left, hints_more}
use Rattle.infer_loops.proofs.HintsWritten.{written_more}
use Rattle.infer_loops.proofs.loops.hints_of.Goals as goal

pub loop-end-preserved : goal.loop-end-preserved
loop-end-preserved c = record {
  hints = hints_more (hints_at_end c.args.frame.now c.args.candidate.now c.args.exits.now) (into_iter_items c.loop-end.end-iterator)
      (into_iter_items c.next.new.self) c.in-Some.end c.loop-end.hints.items c.push_hints.new.hints.items _ c.in-Some.ensures.steps.0
      c.loop-end.invariant.hints c.in_ok-push_hints.ensures.hints;
  written = c.in_ok-push_hints.ensures.written;
  ends = ends_left c.args.frame.now.style (into_iter_items c.loop-end.end-iterator) (into_iter_items c.next.new.self) c.in-Some.end
      c.in-Some.ensures.steps.0 c.loop-end.invariant.ends;
}

pub returns-clause-written : goal.returns-clause-written
returns-clause-written c =
    written_more _ _ _ c.in_ok-append.ensures.items c.loop-end.invariant.written c.take_found-last.ensures.written
