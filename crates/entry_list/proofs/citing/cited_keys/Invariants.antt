use Rattle.std.proofs.Common.{◌≡◌, ℕ, ◌||◌, List, drop}
use Rattle.bv_base.specs.KeySets.{has_lowered}
use Rattle.entry_list.specs.Citing.{is_cited}
use Rattle.entry_list.proofs.citing.cited_keys.Given as goal

abbrev pub invariant-loop-item : goal.invariant-loop-item
invariant-loop-item l =
    (key : List ℕ)
    → (has_lowered key l.keys || is_cited key (drop l.item-index l.items)) ≡ is_cited key l.items
