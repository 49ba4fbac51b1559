use Rattle.std.proofs.Common.{ap, ◌∙◌, sym, ◌∷◌, length, ◌<◌, arith, slice_get}
use Rattle.sym_state.proofs.SharedLists.{behind, goes_on, one_less, taken}
use Rattle.sym_state.proofs.shared_list.SharedList.get.Goals as goal

pub loop-preserved : goal.loop-preserved
loop-preserved g c =
    let some : 0 < length c.loop.items = omega (arith, c.loop.invariant.left, c.loop-test.true, c.self.invariant, ap length c.self.view_is) in
    let found = taken (λ item. item.now) c.next.result _ _ c.next.ensures some in
    record {
      passed = found.0 ∷ c.loop.invariant.passed;
      all = goes_on _ _ _ _ found.0 found.1 c.loop.invariant.all;
      left = omega (arith, c.loop.invariant.left, one_less _ _ found.0 found.1);
      within = omega (arith, c.loop.invariant.within);
    }

pub returns : goal.returns
returns g c =
    let long : c.args.index < length c.args.self.now = omega (arith, c.self.invariant, ap length c.self.view_is, c.if-index-self.false) in
    let some : 0 < length c.loop.items = omega (arith, long, c.loop.invariant.left, c.loop-test.false, c.self.invariant, ap length c.self.view_is, c.loop.auto.counter-end, c.loop.invariant.within) in
    let found = taken (λ item. item.now) c.next-2.result _ _ c.next-2.ensures some in
    found.2
    ∙ sym (behind c.next-2.new.self c.loop.invariant.passed found.0)
    ∙ ap (λ xs. slice_get xs (length c.next-2.new.self)) (goes_on _ _ _ _ found.0 found.1 c.loop.invariant.all)
    ∙ ap (slice_get c.args.self.now) (omega (arith, long, c.loop.invariant.left, one_less _ _ found.0 found.1, c.loop-test.false, c.self.invariant, ap length c.self.view_is, c.loop.auto.counter-end))
