use Rattle.std.proofs.Common.{◌≡◌, ℕ, ◌&&◌, ◌||◌, List, drop}
use Rattle.bv_base.specs.KeySets.{has_lowered}
use Rattle.entry_list.specs.Keys.{is_listed}
use Rattle.entry_list.proofs.listed.listed_among.Given as goal

abbrev pub invariant-loop-chosen : goal.invariant-loop-chosen
invariant-loop-chosen l =
    (key : List ℕ)
    → (has_lowered key l.listed || (has_lowered key l.named && is_listed key (drop l.chosen-index l.list)))
    ≡ (has_lowered key l.named && is_listed key l.list)
