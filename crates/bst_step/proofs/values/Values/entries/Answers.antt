-- As many entries are seen as are held.
use Rattle.std.proofs.Common.{◌∙◌, ap, length, sym}
use Rattle.std.proofs.lemmas.List.{length-map}
use Rattle.bst_step.specs.EntryStates.{state_in}
use Rattle.bst_step.specs.Values.{Holding}
use Rattle.bst_step.proofs.values.Values.entries.Goals as goal

pub returns : goal.returns
returns c =
    c.len.ensures
    ∙ sym (length-map c.self.inside.entries (state_in c.self.inside.pool.items))
    ∙ ap (λ (h : Holding). length h.entries) c.self.view_is
