use Rattle.bst_step.proofs.AddedPages.{front_stays, parts_added, whole_page}
use Rattle.bst_step.proofs.laws.pages_add_up.Goals as goal

pub returns : goal.returns
returns c = record { parts = parts_added; front = front_stays; whole = whole_page }
