-- It is a row of the state, or one that is said of its first term.
use Rattle.std.proofs.Common.{sym, ◌∙◌}
use Rattle.loop_templates.specs.Rows.{said_of_first, same_row}
use Rattle.loop_templates.proofs.Among.{any_before, any_behind}
use Rattle.loop_templates.proofs.rows.is_said.Goals as goal

pub returns-then-is_row_of : goal.returns-then-is_row_of
returns-then-is_row_of c =
    any_before (same_row c.args.row.now) c.args.state.now.rows (said_of_first c.args.cond.now c.args.state.now c.args.row.now.parts)
    (sym c.is_row_of.ensures ∙ c.if-is_row_of.true)

pub returns : goal.returns
returns c =
    any_behind (same_row c.args.row.now) c.args.state.now.rows (said_of_first c.args.cond.now c.args.state.now c.args.row.now.parts)
    c.is_said_of_first.result (sym c.is_row_of.ensures ∙ c.if-is_row_of.false) c.is_said_of_first.ensures
