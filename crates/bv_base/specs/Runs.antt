-- Runs of bytes by a test, digits and the numbers that they write (docs/LANGUAGE.md, "Bytes").
use Rattle.std.specs.Prelude.{◌≡◌, ℕ, suc, ◌+◌, ◌-◌, ◌*◌, Bool, true, false, ◌&&◌, not, nat_le, if◌then◌else◌, List, [], ◌∷◌, drop}
use Rattle.bv_base.specs.Bytes.{is_white}

-- every byte but white space
abbrev pub is_black : ℕ → Bool
is_black b = not (is_white b)

-- the digits `0` to `9`
abbrev pub is_digit : ℕ → Bool
is_digit b = nat_le 48 b && nat_le b 57

-- every byte but digits
abbrev pub ends_digits : ℕ → Bool
ends_digits b = not (is_digit b)

-- how many bytes stand before the first that passes a test: all where none does
abbrev pub length_before : (ℕ → Bool) → List ℕ → ℕ
length_before test [] = 0
length_before test (b ∷ bytes) = if test b then 0 else suc (length_before test bytes)

-- no byte passes the test
abbrev pub NoneOf : (ℕ → Bool) → List ℕ → Type 0
NoneOf test [] = Unit {0}
NoneOf test (b ∷ bytes) = (test b ≡ false) × NoneOf test bytes

-- nothing follows, or a byte that passes the test
abbrev pub EndsBy : (ℕ → Bool) → List ℕ → Type 0
EndsBy test [] = Unit {0}
EndsBy test (b ∷ _) = test b ≡ true

-- what is left after the white space that stands first
abbrev pub after_white : List ℕ → List ℕ
after_white bytes = drop (length_before is_black bytes) bytes

-- the number that digits write, after the number that the digits before them write
abbrev pub number_from : ℕ → List ℕ → ℕ
number_from n [] = n
number_from n (d ∷ digits) = number_from (10 * n + (d - 48)) digits
