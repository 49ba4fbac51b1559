-- The entry is that of the row at the place.
use Rattle.std.proofs.Common.{◌∙◌, None, Some, ap}
use Rattle.bst_step.proofs.TableSteps.{entry_seen}
use Rattle.bst_step.proofs.entry_states.EntryTable.entry.Goals as goal

pub returns-in-Some : goal.returns-in-Some
returns-in-Some c =
    ap Some c.new.ensures
    ∙ entry_seen _ _ _ _ _ _ _ c.args.at (Some c.in-Some.entry) (λ e. e) c.self.invariant.0 c.self.view_is c.as_slice-rows.ensures.value
    c.in-Some.ensures

pub returns-in-None : goal.returns-in-None
returns-in-None c =
    entry_seen _ _ _ _ _ _ _ c.args.at None (λ e. e) c.self.invariant.0 c.self.view_is c.as_slice-rows.ensures.value c.in-None.ensures
