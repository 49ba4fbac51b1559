-- The names of a sound style can be items.
use Rattle.std.proofs.Common.{◌≡◌, ℕ, ◌≤◌, Bool, true, false, ◌&&◌, ◌||◌, not, nat_le, List, [], ◌∷◌, ◌++◌, refl, sym, subst, arith}
use Rattle.std.specs.List.{list_all}
use Rattle.std.proofs.lemmas.Bool.{and_from, and_parts}
use Rattle.std.proofs.lemmas.Bool.Decides.{nat_tests}
use Rattle.bv_base.specs.Bytes.{is_mark, is_name_byte}
use Rattle.bv_base.specs.Runs.{is_black, is_digit}
use Rattle.name_table.specs.Names.{is_definable}
use Rattle.name_table.specs.Opening.{opening_names}
use Rattle.name_table.specs.Sound.{Each, IsDeclared, IsSound}
use Rattle.name_table.specs.declared.names.Kind.{Kind}
use Rattle.name_table.specs.declared.style.Style.{Style}
use Rattle.cert_format.specs.CondText.{ArePlain}
use Rattle.cert_format.specs.Items.{is_empty, is_type}
use Rattle.cert_format.proofs.Numerals.{some_bytes}

high_black : (b : ℕ) → 33 ≤ b → is_black b ≡ true
high_black b high = grind (arith, nat_tests)

name_black : (b : ℕ) → is_name_byte b ≡ true → is_black b ≡ true
name_black b e = by_low (nat_le 33 b) refl (nat_le b 126) (not (is_mark b)) (nat_le 128 b) refl e
  where
    by_high : (h : Bool) → nat_le 128 b ≡ h → h ≡ true → is_black b ≡ true
    by_high h is e = high_black b (grind (arith, nat_tests))

    by_low : (t : Bool) → nat_le 33 b ≡ t → (m k h : Bool) → nat_le 128 b ≡ h → (((t && m) && k) || h) ≡ true → is_black b ≡ true
    by_low true low m k h is e = high_black b (grind (arith, nat_tests))
    by_low false low m k h is e = by_high h is e

names_black : (text : List ℕ) → list_all is_name_byte text ≡ true → list_all is_black text ≡ true
names_black [] e = refl
names_black (b ∷ text) e =
    let both = and_parts (is_name_byte b) (list_all is_name_byte text) e in
    and_from (is_black b) (list_all is_black text) (name_black b both.0) (names_black text both.1)

declared_type : (name : List ℕ) → is_definable name ≡ true → is_type name ≡ true
declared_type [] e = absurd (cc)
declared_type (first ∷ rest) e =
    let both = and_parts (not (is_digit first)) (list_all is_name_byte (first ∷ rest)) e in
    and_from (not (is_empty (first ∷ rest))) (list_all is_black (first ∷ rest)) (some_bytes (first ∷ rest) (omega arith)) (names_black (first ∷ rest) both.1)

all_declared : (declared : List (List ℕ × Kind)) → Each (λ entry. IsDeclared entry.0) declared → Each (λ entry. is_type entry.0 ≡ true) declared
all_declared [] each = tt
all_declared (entry ∷ declared) each = (declared_type entry.0 each.0.definable, all_declared declared each.1)

pub each_append : {A : Type 0} (P : A → Type 0) (xs ys : List A) → Each P xs → Each P ys → Each P (xs ++ ys)
each_append P [] ys first second = second
each_append P (x ∷ xs) ys first second = (first.0, each_append P xs ys first.1 second)

pub each_of : {A : Type 0} (test : A → Bool) (xs : List A) → list_all test xs ≡ true → Each (λ x. test x ≡ true) xs
each_of test [] e = tt
each_of test (x ∷ xs) e = let both = and_parts (test x) (list_all test xs) e in (both.0, each_of test xs both.1)

pub plain_names : (style : Style) → IsSound style → ArePlain style.names
plain_names style sound =
    record {
      apart = sound.apart;
      solid = subst (λ (names : List (List ℕ × Kind)). Each (λ entry. is_type entry.0 ≡ true) names) (sym sound.names)
          (each_append (λ entry. is_type entry.0 ≡ true) opening_names sound.declared (each_of (λ entry. is_type entry.0) opening_names refl)
          (all_declared sound.declared sound.spelled));
    }
