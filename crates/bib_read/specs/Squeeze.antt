-- White space in values (docs/DATA.md, "Values").
use Rattle.std.specs.Prelude.{ℕ, ◌-◌, Bool, true, false, nat_eq, if◌then◌else◌, List, [], ◌∷◌, length, take, slice_index}
use Rattle.bv_base.specs.Bytes.{is_white}

-- one space for each run of white space, and none for a run that began before these bytes
abbrev pub squeezed : Bool → List ℕ → List ℕ
squeezed begun [] = []
squeezed begun (b ∷ bytes) =
    if is_white b then (if begun then squeezed true bytes else 32 ∷ squeezed true bytes)
    else b ∷ squeezed false bytes

-- the bytes without a space at their end
abbrev pub without_last_space : List ℕ → List ℕ
without_last_space bytes =
    if nat_eq (slice_index bytes (length bytes - 1)) 32 then take (length bytes - 1) bytes else bytes

-- one space for each run of white space, and none at the ends
abbrev pub trimmed : List ℕ → List ℕ
trimmed text = without_last_space (squeezed true text)
