use Rattle.std.proofs.Common.{◌≡◌, ℕ, ◌||◌, List, drop}
use Rattle.bv_base.specs.KeySets.{has_lowered}
use Rattle.entry_list.specs.Keys.{is_listed}
use Rattle.entry_list.proofs.listed.add_keys.Given as goal

abbrev pub invariant-loop-parent : goal.invariant-loop-parent
invariant-loop-parent l =
    (key : List ℕ)
    → (has_lowered key l.set || is_listed key (drop l.parent-index l.parents)) ≡ (has_lowered key l.initial.set || is_listed key l.parents)
