-- As many entries are seen as there are rows.
use Rattle.std.proofs.Common.{◌∙◌, List, ap, length, sym}
use Rattle.std.proofs.lemmas.List.{length-map}
use Rattle.bst_step.specs.EntryStates.{EntryState, state_at}
use Rattle.bst_step.specs.Variables.{names_in}
use Rattle.bst_step.proofs.entry_states.EntryTable.len.Goals as goal

pub returns : goal.returns
returns c =
    ap length c.as_slice.ensures.value
    ∙ sym (length-map c.self.inside.rows.items (state_at (names_in c.self.inside.own) c.self.inside.values c.self.inside.list.now.entries))
    ∙ ap (λ (es : List EntryState). length es) c.self.view_is
