-- The copies are the pieces.
use Rattle.std.proofs.Common.{◌≡◌, true, [], ◌∷◌, ap, ◌∙◌}
use Rattle.std.proofs.lemmas.Result.{IfOk-weaker}
use Rattle.sym_state.specs.Starting.{started}
use Rattle.sym_state.specs.declared.piece.Piece.{Piece}
use Rattle.command_flow.specs.Commands.{started_visit}
use Rattle.command_flow.proofs.templates.visit_start.Goals as goal

pub returns-clause-started : goal.returns-clause-started
returns-clause-started c =
    let style = c.args.at.now.style.now in
    let admits = c.args.at.now.cond.now in
    IfOk-weaker c.state_of.result (λ state. state ≡ started style admits (c.in_ok-copied.field-0 ∷ (c.in_ok-copied-2.field-0 ∷ [])) true true)
    (λ state. state ≡ started_visit style admits c.args.visit.now c.args.entry.now)
    (λ state is. is ∙ ap (λ (p : Piece). started style admits (p ∷ (c.in_ok-copied-2.field-0 ∷ [])) true true) c.in_ok-copied.ensures
    ∙ ap (λ (p : Piece). started style admits (c.args.visit.now ∷ (p ∷ [])) true true) c.in_ok-copied-2.ensures) c.state_of.ensures.started
