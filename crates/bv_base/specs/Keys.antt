-- Keys of entries (docs/DATA.md, "Entries").
use Rattle.std.specs.Prelude.{◌≡◌, ℕ, true, not, List, [], ◌∷◌}
use Rattle.std.specs.List.{list_all}
use Rattle.bv_base.specs.Bytes.{is_white}

-- a key has a byte, and no white space
abbrev pub IsKey : List ℕ → Type 0
IsKey [] = ⊥
IsKey (b ∷ bytes) = list_all (λ c. not (is_white c)) (b ∷ bytes) ≡ true
