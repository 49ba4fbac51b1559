use Rattle.std.proofs.Common.{◌∙◌, sym, ap}
use Rattle.bv_base.specs.KeySets.{has_item}
use Rattle.bv_base.proofs.keyed_list.KeyedList.has.Goals as goal

pub returns : goal.returns
returns g c =
    c.has.ensures ∙ sym (c.self.invariant c.args.key.now) ∙ ap (has_item g.T.Keyed.key c.args.key.now) c.self.view_is
