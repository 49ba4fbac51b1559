-- Digits of base 16, two by two.
use Rattle.std.proofs.Common.{◌≡◌, ℕ, ◌-◌, ◌≤◌, Option, Some, None, List, [], ◌∷◌, ◌++◌, length, take, drop, get_or, refl, sym, ap, ◌∙◌, append_assoc, le_refl, arith}
use Rattle.std.proofs.Math.Seq.{take_all}
use Rattle.std.specs.Option.{option_map}
use Rattle.cert_format.specs.PieceItems.{byte_of, hex_bytes, hex_value, with_byte}

one_more : (bytes : List ℕ) (byte : ℕ) (r : Option (List ℕ))
    → option_map (λ more. (bytes ++ byte ∷ []) ++ more) r ≡ option_map (λ more. bytes ++ more) (option_map (λ more. byte ∷ more) r)
one_more bytes byte (Some more) = ap Some (append_assoc bytes (byte ∷ []) more)
one_more bytes byte None = refl

-- what is left after two digits goes on from their byte
pub hex_step : (rest bytes : List ℕ) (byte : ℕ) → 2 ≤ length rest
    → byte_of (hex_value (get_or rest 0 0)) (hex_value (get_or rest 1 0)) ≡ Some byte
    → option_map (λ more. (bytes ++ byte ∷ []) ++ more) (hex_bytes (take (length rest - 2) (drop 2 rest)))
    ≡ option_map (λ more. bytes ++ more) (hex_bytes rest)
hex_step [] bytes byte some is = absurd (omega (arith, some))
hex_step (high ∷ []) bytes byte some is = absurd (omega (arith, some))
hex_step (high ∷ (low ∷ digits)) bytes byte some is =
    let count : length (high ∷ (low ∷ digits)) - 2 ≡ length digits = omega arith in
    ap (λ (n : ℕ). option_map (λ more. (bytes ++ byte ∷ []) ++ more) (hex_bytes (take n digits))) count
    ∙ ap (λ (d : List ℕ). option_map (λ more. (bytes ++ byte ∷ []) ++ more) (hex_bytes d)) (take_all (length digits) digits (le_refl (length digits)))
    ∙ one_more bytes byte (hex_bytes digits)
    ∙ ap (λ (b : Option ℕ). option_map (λ more. bytes ++ more) (with_byte b (hex_bytes digits))) (sym is)
