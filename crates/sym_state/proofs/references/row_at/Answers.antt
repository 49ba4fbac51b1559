use Rattle.std.proofs.Common.{ap, sym, ◌∙◌, option_map, subst}
use Rattle.lin_facts.specs.Rows.{IsSmall}
use Rattle.sym_state.proofs.Bounds.{row_bounded, small_row}
use Rattle.sym_state.proofs.references.row_at.Goals as goal

pub returns-in_ok-copied-in-Some-clause-small : goal.returns-in_ok-copied-in-Some-clause-small
returns-in_ok-copied-in-Some-clause-small c =
    subst IsSmall (sym c.in_ok-copied-in-Some.ensures)
    (small_row c.in-Some.row.now (row_bounded c.args.state.now.rows c.args.k c.in-Some.row.now c.requires.rows
    (sym c.row.ensures ∙ ap (option_map (λ row. row.now)) c.in-Some.is)))
