use Rattle.sym_state.proofs.SharedLists.{found_here, found_later}
use Rattle.sym_state.proofs.shared_list.SharedList.find.Goals as goal

pub loop-item-preserved-then-test : goal.loop-item-preserved-then-test
loop-item-preserved-then-test g c passes pure =
    found_here passes c.loop-item.left c.next.new.self c.in-Some.item.now _ _ c.in-Some.ensures
    (pure c.in-Some.item _ c.if-test.ensures) (c.loop-item.invariant passes pure)

pub loop-item-preserved : goal.loop-item-preserved
loop-item-preserved g c passes pure =
    found_later passes c.loop-item.left c.next.new.self c.in-Some.item.now _ _ c.in-Some.ensures
    (pure c.in-Some.item _ c.if-test.ensures) (c.loop-item.invariant passes pure)
