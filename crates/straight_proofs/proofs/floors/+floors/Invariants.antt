use Rattle.std.proofs.Common.{◌≡◌, ◌+◌, ◌*◌, drop}
use Rattle.straight_proofs.specs.Asked.{IsReady}
use Rattle.straight_proofs.specs.Floors.{greatest, greatest_behind}
use Rattle.straight_proofs.specs.Remembered.{IsNear}
use Rattle.straight_proofs.proofs.Gathered.{floor_over}
use Rattle.straight_proofs.proofs.floors.+floors.Given as goal

-- behind a row one fewer may follow
abbrev pub decreases-floor_within : goal.decreases-floor_within
decreases-floor_within l = 5 * l.most + 4

abbrev pub decreases-floor_if_new : goal.decreases-floor_if_new
decreases-floor_if_new l = 5 * l.most + 3

abbrev pub decreases-greatest_behind : goal.decreases-greatest_behind
decreases-greatest_behind l = 5 * l.most + 6

abbrev pub decreases-floor_behind : goal.decreases-floor_behind
decreases-floor_behind l = 5 * l.most + 5

-- the greatest floor is that so far or one of the rows that are left, and what is remembered are floors
abbrev pub invariant-greatest_behind-loop-row : goal.invariant-greatest_behind-loop-row
invariant-greatest_behind-loop-row l = record {
  greatest : greatest l.found (greatest_behind (floor_over l.most l.known.cond.now l.known.state.now l.remainder l.term) (drop l.row-index l.rows))
      ≡ greatest_behind (floor_over l.most l.known.cond.now l.known.state.now l.remainder l.term) l.rows;
  near : IsNear (l.most + 1) l.remainder l.found;
  ready : IsReady l.known.cond.now l.known.state.now l.known.rows.items l.learnt;
}
