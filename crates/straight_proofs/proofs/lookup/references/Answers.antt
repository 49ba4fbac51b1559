-- The rows, the references to symbols and those to none are all references.
use Rattle.straight_proofs.proofs.Numbered.{all_in_order}
use Rattle.straight_proofs.proofs.lookup.references.Goals as goal

pub returns : goal.returns
returns c =
    all_in_order c.args.state.now c.named.result c.next.result c.new-all.result.items c.push_rows.new.all.items c.push_kinds.new.all.items
    c.push_on_entries.new.all.items c.named.ensures.value c.next.ensures c.new-all.ensures.items c.in_ok-push_rows.ensures
    c.in_ok-push_kinds.ensures c.in_ok-push_on_entries.ensures
