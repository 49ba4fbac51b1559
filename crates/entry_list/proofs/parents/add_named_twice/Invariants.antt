use Rattle.std.proofs.Common.{◌≡◌, ◌||◌, ℕ, List, drop}
use Rattle.bv_base.specs.KeySets.{has_lowered}
use Rattle.entry_list.specs.Parents.{is_named_twice}
use Rattle.entry_list.proofs.Naming.{twice_with}
use Rattle.entry_list.proofs.parents.add_named_twice.Given as goal

abbrev pub invariant-loop-parent : goal.invariant-loop-parent
invariant-loop-parent l =
    (key : List ℕ)
    → twice_with (has_lowered key l.twice) (has_lowered key l.once) key (drop l.parent-index l.parents)
    ≡ (has_lowered key l.initial.twice || is_named_twice key l.parents)
