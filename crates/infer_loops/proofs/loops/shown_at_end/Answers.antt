-- There are few cases and exits, and the hints by which the state entails one may be written.
use Rattle.std.proofs.Common.{ℕ, ◌+◌, ◌≤◌, List, length, ap, arith}
use Rattle.loop_templates.specs.declared.candidates.Added.{Added}
use Rattle.sym_state.specs.declared.piece.Piece.{Piece}
use Rattle.infer_loops.proofs.LoopsTold.{entailing_told}
use Rattle.infer_loops.proofs.loops.shown_at_end.Goals as goal

pub entailing_one-requires-else-end-clause-few : goal.entailing_one-requires-else-end-clause-few
entailing_one-requires-else-end-clause-few c = let few = c.requires.few in omega (arith, few)

pub returns-then-end-clause-written : goal.returns-then-end-clause-written
returns-then-end-clause-written c =
    let few = c.requires.few in
    let first = ap (λ (l : List Piece). length l) c.as_slice.ensures in
    let added = ap (λ (l : List Added). length l) c.as_slice-then-end.ensures in
    entailing_told c.frame.inside.admits.now c.args.end.now.state (length c.as_slice.result.now) c.as_slice-then-end.result.now c.entailing_one.result
    c.requires.end.state.few (omega (arith, few, first, added)) c.entailing_one.ensures

pub returns-else-end-clause-written : goal.returns-else-end-clause-written
returns-else-end-clause-written c =
    let few = c.requires.few in
    entailing_told c.frame.inside.admits.now c.args.end.now.state 0 c.args.exits.now c.entailing_one-else-end.result c.requires.end.state.few
    (omega (arith, few)) c.entailing_one-else-end.ensures
