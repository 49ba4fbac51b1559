-- The case is that of the skeleton.
use Rattle.std.proofs.Common.{ap, ◌∙◌}
use Rattle.sym_state.specs.declared.piece.Piece.{Piece}
use Rattle.loop_templates.specs.Cases.{case_of}
use Rattle.loop_templates.specs.declared.candidates.Added.{Added}
use Rattle.loop_templates.proofs.candidates.added_for.Goals as goal

pub returns : goal.returns
returns c =
    ap (λ (case : Piece). let one : Added = record { bones = c.args.bones; case = case } in one)
    (c.in_ok-case.ensures ∙ ap (case_of c.args.frame.now c.args.states.now) c.as_slice.ensures)
