-- The rows of a field are within their bounds.
use Rattle.std.proofs.lemmas.List.Elements.{All-push, All-same}
use Rattle.sym_state.specs.WellMade.{IsBounded}
use Rattle.sym_state.proofs.start.push_rows.Goals as goal

pub returns-in_ok-push_name_row-in-Field-clause-bounded :
    goal.returns-in_ok-push_name_row-in-Field-clause-bounded
returns-in_ok-push_name_row-in-Field-clause-bounded c = λ before.
    c.in_ok-push_name_row-in-Field.ensures.bounded
    (All-same IsBounded _ _ c.in_ok-push-in-Field.ensures.items
    (All-push IsBounded c.args.rows.now.items c.in_ok-at_most-in-Field.field-0 before c.in_ok-at_most-in-Field.ensures.bounded))
