-- The states that are left give what all of them do.
use Rattle.std.proofs.Common.{◌≡◌, [], drop, take}
use Rattle.std.specs.List.{All}
use Rattle.cert_check.specs.Certified.{AreMade}
use Rattle.cert_check.specs.Here.{here}
use Rattle.cert_check.specs.Room.{HasRoom}
use Rattle.cert_check.specs.Walks.{made_by, whiles_taken}
use Rattle.cert_check.proofs.whiles.whiles_taken.Given as goal

abbrev pub invariant-loop-k : goal.invariant-loop-k
invariant-loop-k g l = record {
  taken : whiles_taken (made_by (g.M.Loops.made l.at.maker.now)) (here g.M.Loops.made l.at) l.at.place l.states (take l.k l.states)
      (drop l.k l.states) (record { made = l.made.items; course = l.course })
      ≡ whiles_taken (made_by (g.M.Loops.made l.at.maker.now)) (here g.M.Loops.made l.at) l.at.place l.states [] l.states
      (record { made = l.initial.made.items; course = l.initial.course });
  made : AreMade l.at.scope.now.style (record { made = l.made.items; course = l.course });
  room : All (HasRoom l.at.scope.now.style 0 l.course.count) l.states;
}
