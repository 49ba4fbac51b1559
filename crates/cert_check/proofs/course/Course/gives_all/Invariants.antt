use Rattle.std.proofs.Common.{◌≡◌}
use Rattle.std.specs.Vec.Iter.{into_iter_items}
use Rattle.cert_check.specs.Courses.{gives_all}
use Rattle.cert_check.proofs.course.Course.gives_all.Given as goal

-- the states that are left are given after what was given as all are
abbrev pub invariant-loop-state : goal.invariant-loop-state
invariant-loop-state l =
    gives_all l.fn.place (into_iter_items l.state-iterator) l.self ≡ gives_all l.fn.place l.fn.states.items l.initial.self
