-- The states that enter are well made, and there is one.
use Rattle.std.proofs.Common.{◌≡◌, ◌≤◌, ◌∙◌, IfOk, List, length, subst, sym}
use Rattle.sym_state.specs.State.{State}
use Rattle.cert_check.specs.Here.{here}
use Rattle.cert_check.specs.Walks.{While, entering_with, made_by}
use Rattle.cert_check.proofs.WhileSteps.{entering_made, found_entering, found_is, found_sound, loop_sound, ok_has}
use Rattle.cert_check.proofs.whiles.loop_found.Goals as goal

pub make-requires-clause-some : goal.make-requires-clause-some
make-requires-clause-some g c =
    let are = c.as_slice.ensures.value ∙ ok_has (λ v. v.items ≡ entering_with (here g.M.Loops.made c.args.at.now) c.args.one.now c.args.states.now)
    c.entering_with.result c.in_ok-entering.entering c.in_ok-entering.ensures (c.entering_with.ensures (g.M.Loops.made c.args.at.now.maker.now)) in
    subst (λ (l : List State). 1 ≤ length l) (sym are) c.requires.enters

pub make-requires-clause-made : goal.make-requires-clause-made
make-requires-clause-made g c =
    let are = c.as_slice.ensures.value ∙ ok_has (λ v. v.items ≡ entering_with (here g.M.Loops.made c.args.at.now) c.args.one.now c.args.states.now)
    c.entering_with.result c.in_ok-entering.entering c.in_ok-entering.ensures (c.entering_with.ensures (g.M.Loops.made c.args.at.now.maker.now)) in
    entering_made c.args.at.now.scope.now (g.M.Loops.style c.args.at.now.maker.now) (g.M.Loops.made c.args.at.now.maker.now) c.args.one.now c.args.states.now
    c.as_slice.result.now c.requires.sound c.requires.states are

pub returns-clause-found : goal.returns-clause-found
returns-clause-found g c =
    let are = c.as_slice.ensures.value ∙ ok_has (λ v. v.items ≡ entering_with (here g.M.Loops.made c.args.at.now) c.args.one.now c.args.states.now)
    c.entering_with.result c.in_ok-entering.entering c.in_ok-entering.ensures (c.entering_with.ensures (g.M.Loops.made c.args.at.now.maker.now)) in
    found_is c.make.result _ c.held-2.result c.held-2.ensures
    (found_entering (made_by (g.M.Loops.made c.args.at.now.maker.now)) c.args.one.now.test c.args.one.now.body c.as_slice.result.now _ c.make.result are
    (subst (λ (w : While). IfOk c.make.result (λ found. found ≡ made_by (g.M.Loops.made c.args.at.now.maker.now) w.test w.body c.as_slice.result.now)) c.one.view_is
    c.make.ensures))

pub returns-clause-sound : goal.returns-clause-sound
returns-clause-sound g c =
    let are = c.as_slice.ensures.value ∙ ok_has (λ v. v.items ≡ entering_with (here g.M.Loops.made c.args.at.now) c.args.one.now c.args.states.now)
    c.entering_with.result c.in_ok-entering.entering c.in_ok-entering.ensures (c.entering_with.ensures (g.M.Loops.made c.args.at.now.maker.now)) in
    found_sound c.args.at.now.scope.now.style c.make.result _ c.held-2.result c.held-2.ensures
    (found_entering (made_by (g.M.Loops.made c.args.at.now.maker.now)) c.args.one.now.test c.args.one.now.body c.as_slice.result.now _ c.make.result are
    (subst (λ (w : While). IfOk c.make.result (λ found. found ≡ made_by (g.M.Loops.made c.args.at.now.maker.now) w.test w.body c.as_slice.result.now)) c.one.view_is
    c.make.ensures))
    (loop_sound c.args.at.now.scope.now (g.M.Loops.style c.args.at.now.maker.now) (g.M.Loops.made c.args.at.now.maker.now) c.args.one.now c.args.states.now
    c.requires.sound c.requires.states c.requires.enters)
