use Rattle.std.proofs.Common.{◌∙◌, ap, ◌||◌}
use Rattle.bv_base.specs.KeySets.{has_lowered}
use Rattle.entry_list.specs.Keys.{is_listed}
use Rattle.entry_list.proofs.listed.keys_of.Goals as goal

-- at first no key is there
pub returns : goal.returns
returns c =
    λ key. c.in_ok-add_keys.ensures key
    ∙ ap (λ set. has_lowered key set || is_listed key c.args.parents.now) c.new-set.ensures
