-- The next state.
use Rattle.std.proofs.Common.{◌+◌, drop, take}
use Rattle.std.proofs.lemmas.Result.{err_from_is_err_and}
use Rattle.cert_check.specs.Here.{here}
use Rattle.cert_check.specs.Walks.{made_by}
use Rattle.cert_check.proofs.WhileSteps.{all_later, all_made_well, among_at, count_refused, counted_later, counted_made, counted_room, next_at, next_whiled, room_at, taken_before, while_refused}
use Rattle.cert_check.proofs.whiles.whiles_taken.Goals as goal

pub while_taken-requires-clause-room : goal.while_taken-requires-clause-room
while_taken-requires-clause-room g c =
    let states = c.args.states.now in
    let k = c.loop-k.k in
    let state = c.index-states-k.result in
    counted_room c.args.at.now.scope.now.style state c.args.at.now.place c.loop-k.course c.counts.new.self c.in_ok-counts.ensures.takes
    (room_at c.args.at.now.scope.now.style c.loop-k.course.count states (drop (k + 1) states) state k (next_at states k state c.loop-k-test.true c.index-states-k.is)
    c.loop-k.invariant.room)

pub while_taken-requires-clause-states : goal.while_taken-requires-clause-states
while_taken-requires-clause-states g c = all_made_well c.args.at.now.scope.now.style c.loop-k.course.count c.args.states.now c.loop-k.invariant.room

pub while_taken-requires-clause-among : goal.while_taken-requires-clause-among
while_taken-requires-clause-among g c =
    let states = c.args.states.now in
    let k = c.loop-k.k in
    let state = c.index-states-k.result in
    among_at states (drop (k + 1) states) state k (next_at states k state c.loop-k-test.true c.index-states-k.is)

pub while_taken-requires-clause-made : goal.while_taken-requires-clause-made
while_taken-requires-clause-made g c =
    counted_made c.args.at.now.scope.now.style c.args.at.now.place c.loop-k.made.items c.loop-k.course c.counts.new.self c.in_ok-counts.ensures.takes
    c.loop-k.invariant.made

pub returns-in_err-counts-clause-takes : goal.returns-in_err-counts-clause-takes
returns-in_err-counts-clause-takes g c =
    let p = err_from_is_err_and c.from_residual.result c.from_residual.ensures.1 in
    let states = c.args.states.now in
    let k = c.loop-k.k in
    let state = c.index-states-k.result in
    rw (p.1, p.2)
    (count_refused (made_by (g.M.Loops.made c.args.at.now.maker.now)) (here g.M.Loops.made c.args.at.now) c.args.at.now.place states (take k states) (drop k states)
    (drop (k + 1) states) state (record { made = c.loop-k.made.items; course = c.loop-k.course }) _ c.in_err-counts.field-0.0
    (next_at states k state c.loop-k-test.true c.index-states-k.is) c.loop-k.invariant.taken c.in_err-counts.ensures.takes)

pub returns-in_err-while_taken-clause-takes : goal.returns-in_err-while_taken-clause-takes
returns-in_err-while_taken-clause-takes g c =
    let p = err_from_is_err_and c.from_residual-in_err-while_taken.result c.from_residual-in_err-while_taken.ensures.1 in
    let states = c.args.states.now in
    let k = c.loop-k.k in
    let state = c.index-states-k.result in
    rw (p.1, p.2)
    (while_refused (made_by (g.M.Loops.made c.args.at.now.maker.now)) (here g.M.Loops.made c.args.at.now) c.args.at.now.place states (take k states) (drop k states)
    (drop (k + 1) states) state (record { made = c.loop-k.made.items; course = c.loop-k.course }) c.counts.new.self _ c.in_err-while_taken.field-0.0
    (next_at states k state c.loop-k-test.true c.index-states-k.is) c.loop-k.invariant.taken c.in_ok-counts.ensures.takes c.in_err-while_taken.ensures.takes)

pub loop-k-preserved : goal.loop-k-preserved
loop-k-preserved g c =
    let states = c.args.states.now in
    let k = c.loop-k.k in
    let state = c.index-states-k.result in
    let is = next_at states k state c.loop-k-test.true c.index-states-k.is in record {
      taken = next_whiled (made_by (g.M.Loops.made c.args.at.now.maker.now)) (here g.M.Loops.made c.args.at.now) c.args.at.now.place states (take k states)
          (take (k + 1) states) (drop k states) (drop (k + 1) states) state (record { made = c.loop-k.made.items; course = c.loop-k.course }) _ c.counts.new.self _ is
          (taken_before states (drop (k + 1) states) state k is) c.loop-k.invariant.taken c.in_ok-counts.ensures.takes c.in_ok-while_taken.ensures.takes;
      made = c.in_ok-while_taken.ensures.made;
      room = all_later c.args.at.now.scope.now.style c.loop-k.course.count c.while_taken.new.course.count states
          (counted_later c.args.at.now.place c.loop-k.course c.counts.new.self c.while_taken.new.course c.in_ok-counts.ensures.takes c.in_ok-while_taken.ensures.rises)
          c.loop-k.invariant.room;
    }
