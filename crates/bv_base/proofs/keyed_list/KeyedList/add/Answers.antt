use Rattle.std.proofs.Common.{◌≡◌, rules}
use Rattle.bv_base.proofs.KeyLists.{item_added}
use Rattle.bv_base.proofs.keyed_list.KeyedList.add.Goals as goal

pub invariant_of-self-in-Ok : goal.invariant_of-self-in-Ok
invariant_of-self-in-Ok g c =
    let copied : c.in_ok-key.key.items ≡ g.T.Keyed.key c.args.item = search rules in
    λ key. item_added g.T.Keyed.key c.self.inside.list _ c.args.item c.self.inside.keys _ c.in_ok-key.key.items key
    c.in_ok-push.ensures.ok (c.self.invariant key) copied (c.in-Ok.ensures.members key)
