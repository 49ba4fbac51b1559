-- The columns of a source's places fit 32 bits.
use Rattle.std.proofs.Common.{◌≡◌, ℕ, ◌+◌, ◌≤◌, Bool, true, false, cond, nat_eq, List, [], ◌∷◌, length, take, drop, ap, arith}
use Rattle.std.proofs.lemmas.List.{length-take, length-drop}
use Rattle.bv_base.specs.declared.place.Place.{Place}
use Rattle.bv_base.specs.Places.{after_byte, after_bytes, place_at}
use Rattle.bv_base.specs.declared.limits.TheConstants.{STYLE_BYTES}

next_column : (b : Bool) (line column : ℕ)
    → (cond {A = Place} b (record { line = line + 1; column = 1 }) (record { line = line; column = column + 1 })).column ≤ column + 1
next_column true line column = omega arith
next_column false line column = omega arith

column-after : (bytes : List ℕ) (place : Place) → (after_bytes bytes place).column ≤ place.column + length bytes
column-after [] place = omega arith
column-after (b ∷ bytes) place =
    let more = column-after bytes (after_byte b place) in
    let next = next_column (nat_eq b 10) place.line place.column in
    omega arith

-- a part of a source that is cut out at a place ends at a column of 32 bits
pub column_within : (source text : List ℕ) (start : ℕ) (place : Place) → length source ≤ STYLE_BYTES
    → text ≡ take (length text) (drop start source) → place ≡ place_at source start
    → place.column + length text ≤ 4294967295
column_within source text start place small cut stands =
    let column = column-after (take start source) (record { line = 1; column = 1 }) in
    let same = ap (λ (p : Place). p.column) stands in
    let long = ap (λ (l : List ℕ). length l) cut in
    omega (arith, column, same, long, length-take start source, length-take (length text) (drop start source), length-drop start source)
