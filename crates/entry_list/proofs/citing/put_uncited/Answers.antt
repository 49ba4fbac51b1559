use Rattle.std.proofs.Common.{◌∙◌, sym}
use Rattle.entry_list.proofs.Lists.{drop_found}
use Rattle.entry_list.proofs.Unseen.{uncited_step}
use Rattle.entry_list.proofs.citing.put_uncited.Goals as goal

pub loop-at-preserved : goal.loop-at-preserved
loop-at-preserved c =
    let entries = c.args.table.now in
    let entry = c.in-Some.entry in
    uncited_step c.args.items.now entry entries c.loop-at.at _ _ _
    (drop_found entries c.loop-at.at entry (sym c.in-Some.ensures))
    (c.in_ok-cited.ensures entry.key) c.in_ok-push_uncited.ensures
    ∙ c.loop-at.invariant
