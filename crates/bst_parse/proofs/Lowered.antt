-- A name that may be defined may be defined once it is lowered, and lowering it again changes nothing.
use Rattle.std.proofs.Common.{◌≡◌, ℕ, ◌≤◌, Bool, true, false, ◌&&◌, not, List, [], ◌∷◌, length, refl, ap, ◌∙◌, arith}
use Rattle.std.proofs.lemmas.Bool.{and_parts}
use Rattle.std.proofs.lemmas.Bool.Decides.{nat_tests}
use Rattle.std.proofs.lemmas.List.{length-map}
use Rattle.std.specs.List.{list_all}
use Rattle.bv_base.specs.Bytes.{is_name_byte, lower}
use Rattle.bv_base.specs.Runs.{is_digit}
use Rattle.bv_base.specs.declared.limits.TheConstants.{STYLE_BYTES}
use Rattle.name_table.specs.Names.{lowered, is_definable}
use Rattle.name_table.specs.Sound.{IsDeclared}

lower-lower : (b : ℕ) → lower (lower b) ≡ lower b
lower-lower b = grind (arith, nat_tests)

digit-lower : (b : ℕ) → is_digit (lower b) ≡ is_digit b
digit-lower b = grind (arith, nat_tests)

name_byte-lower : (b : ℕ) → is_name_byte b ≡ true → is_name_byte (lower b) ≡ true
name_byte-lower b h = grind (arith, nat_tests)

lowered-lowered : (name : List ℕ) → lowered (lowered name) ≡ lowered name
lowered-lowered [] = refl
lowered-lowered (b ∷ name) = ap (λ c. c ∷ lowered (lowered name)) (lower-lower b) ∙ ap (λ l. lower b ∷ l) (lowered-lowered name)

both : (a b : Bool) → a ≡ true → b ≡ true → (a && b) ≡ true
both true true e f = refl
both true false e f = f
both false b e f = e

name_bytes-lowered : (name : List ℕ) → list_all is_name_byte name ≡ true → list_all is_name_byte (lowered name) ≡ true
name_bytes-lowered [] h = refl
name_bytes-lowered (b ∷ name) h =
    both _ _ (name_byte-lower b (and_parts _ _ h).0) (name_bytes-lowered name (and_parts _ _ h).1)

definable-lowered : (name : List ℕ) → is_definable name ≡ true → is_definable (lowered name) ≡ true
definable-lowered [] h = h
definable-lowered (b ∷ name) h =
    both _ _ (ap not (digit-lower b) ∙ (and_parts _ _ h).0) (name_bytes-lowered (b ∷ name) (and_parts _ _ h).1)

pub declared-lowered : (name : List ℕ) → is_definable name ≡ true → length name ≤ STYLE_BYTES → IsDeclared (lowered name)
declared-lowered name h short =
    record {
      definable = definable-lowered name h;
      lower = lowered-lowered name;
      short = omega (arith, length-map name lower);
    }
