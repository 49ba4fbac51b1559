-- The bytes below `done` were taken.
use Rattle.std.proofs.Common.{length, ◌-◌, ◌≡◌, ◌≤◌, take}
use Rattle.bv_base.specs.Outside.{appended}
use Rattle.bv_base.proofs.write_all.write_all.Given as goal

abbrev pub invariant-loop-done : goal.invariant-loop-done
invariant-loop-done g l = record {
  within : l.done ≤ length l.text;
  taken : g.S.Sink.written l.sink ≡ appended (g.S.Sink.written l.initial.sink) (take l.done l.text);
  steady : g.S.Sink.faults l.sink ≡ g.S.Sink.faults l.initial.sink;
}

abbrev pub decreases-loop-done : goal.decreases-loop-done
decreases-loop-done g l = length l.text - l.done
