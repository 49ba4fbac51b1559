-- The position is the place of the row's entry.
use Rattle.std.proofs.Common.{◌∙◌, List, ℕ, ap, slice_get}
use Rattle.bst_step.proofs.TableSteps.{place_there}
use Rattle.bst_step.proofs.entry_states.EntryTable.position.Goals as goal

pub returns-in-Some : goal.returns-in-Some
returns-in-Some c =
    c.in-Some.ensures
    ∙ ap (λ (rows : List ℕ). slice_get rows c.args.at) c.as_slice.ensures.value
    ∙ place_there _ _ _ _ _ c.args.at c.self.view_is

pub returns-in-None : goal.returns-in-None
returns-in-None c =
    c.in-None.ensures
    ∙ ap (λ (rows : List ℕ). slice_get rows c.args.at) c.as_slice.ensures.value
    ∙ place_there _ _ _ _ _ c.args.at c.self.view_is
