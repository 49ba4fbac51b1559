use Rattle.std.proofs.Common.{◌∙◌, ap, ◌||◌}
use Rattle.bv_base.specs.KeySets.{has_lowered}
use Rattle.entry_list.specs.Parents.{is_named_twice}
use Rattle.entry_list.proofs.parents.named_twice.Goals as goal

-- at first no key is there
pub returns : goal.returns
returns c =
    λ key. c.in_ok-add_named_twice.ensures key
    ∙ ap (λ set. has_lowered key set || is_named_twice key c.args.parents.now) c.new-twice.ensures
