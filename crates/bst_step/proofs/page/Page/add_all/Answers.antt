use Rattle.std.proofs.Common.{rules}
use Rattle.bst_step.specs.Lines.{page_in}
use Rattle.bst_step.proofs.AddedPages.{goes_on}
use Rattle.bst_step.proofs.page.Page.add_all.Goals as goal

pub loop-at-preserved : goal.loop-at-preserved
loop-at-preserved c =
    goes_on c.loop-at.at c.args.events.now _ (page_in c.loop-at.self) (page_in c.add.new.self) _ c.at.ensures (search rules) c.in_ok-add.ensures
    c.loop-at.invariant
