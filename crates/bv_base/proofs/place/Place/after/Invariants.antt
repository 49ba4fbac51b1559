use Rattle.std.proofs.Common.{◌≡◌, ◌+◌, ◌≤◌, drop}
use Rattle.bv_base.specs.Places.{after_bytes}
use Rattle.bv_base.proofs.place.Place.after.Given as goal

abbrev pub invariant-loop-b : goal.invariant-loop-b
invariant-loop-b l = record {
  place : after_bytes (drop l.b-index l.bytes) (record { line = l.line; column = l.column }) ≡ after_bytes l.bytes l.fn.self;
  line : l.line ≤ l.fn.self.line + l.b-index;
  column : l.column ≤ l.fn.self.column + l.b-index;
}
