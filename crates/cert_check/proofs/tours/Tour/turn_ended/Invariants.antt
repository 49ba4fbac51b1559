use Rattle.std.proofs.Common.{◌≡◌, true}
use Rattle.std.specs.Vec.Iter.{into_iter_items}
use Rattle.cert_check.specs.Tours as rule
use Rattle.cert_check.proofs.tours.Tour.turn_ended.Given as goal

-- the states that are left come to the ends that all of them come to
abbrev pub invariant-loop-state : goal.invariant-loop-state
invariant-loop-state l = record {
  ended : rule.all_ended true (into_iter_items l.state-iterator) l.self ≡ rule.turn_ended l.fn.self.ends l.fn.self.course;
}
