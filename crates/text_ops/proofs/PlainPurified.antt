-- A text without `{` is purified byte by byte.
use Rattle.std.proofs.Common.{◌≡◌, ℕ, List, [], ◌∷◌, ◌++◌, ap, refl, arith, true, false}
use Rattle.std.specs.List.{flat_map, list_all}
use Rattle.std.proofs.lemmas.Bool.{and_parts}
use Rattle.std.proofs.lemmas.Bool.Decides.{nat_tests}
use Rattle.bv_base.specs.Levels.{begins_special, next_level, pieces_after}
use Rattle.text_ops.specs.Purify.{is_plain_byte, purified_byte, purified_piece}

begins_none : (level b : ℕ) (bs : List ℕ) → is_plain_byte b ≡ true → begins_special level (b ∷ bs) ≡ false
begins_none level b [] plain = refl
begins_none level b (c ∷ bs) plain = grind (arith, nat_tests)

pub plain_purified : (level : ℕ) (text : List ℕ) → list_all is_plain_byte text ≡ true
    → flat_map purified_byte text ≡ flat_map purified_piece (pieces_after 0 level text)
plain_purified level [] plain = refl
plain_purified level (b ∷ bs) plain =
    let both = and_parts (is_plain_byte b) (list_all is_plain_byte bs) plain in
    rw (begins_none level b bs both.0) (ap (λ rest. purified_byte b ++ rest) (plain_purified (next_level level b) bs both.1))
