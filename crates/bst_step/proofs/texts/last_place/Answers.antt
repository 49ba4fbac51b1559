-- The last bytes up to the end.
use Rattle.std.proofs.Common.{◌∙◌, ◌-◌, ℕ, ap, drop, take}
use Rattle.bst_step.proofs.CutValues.{last_part}
use Rattle.bst_step.proofs.texts.last_place.Goals as goal

pub returns : goal.returns
returns c =
    ap (λ (n : ℕ). take (c.args.end - n) (drop n c.args.text.now)) c.saturating_sub-from.ensures
    ∙ last_part c.args.text.now c.args.end c.args.count c.requires
