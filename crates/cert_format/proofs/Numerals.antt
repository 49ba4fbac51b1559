-- Numbers of items, and what they spell.
use Rattle.std.proofs.Common.{◌≡◌, ℕ, zero, suc, ◌^◌, ◌<◌, ◌≤◌, Bool, true, false, not, nat_eq, nat_lt, Ok, List, [], ◌∷◌, length, get_or, refl, sym, ap, ◌∙◌, arith, rules}
use Rattle.std.specs.Fmt.{decimal}
use Rattle.std.specs.List.{list_all}
use Rattle.std.proofs.lemmas.Bool.{and_from, and_parts}
use Rattle.std.proofs.lemmas.Bool.Decides.{nat_tests}
use Rattle.std.proofs.lemmas.Fmt.{decimal-digits_value, decimal_nonempty, digits_decimal, digits_value-decimal, first_decimal}
use Rattle.std.proofs.lemmas.Str.Parse.{IsNumeralModel, numerals_by_fold}
use Rattle.bv_base.proofs.ThenLemmas.{ok_is, unless_ok}
use Rattle.bv_base.specs.Runs.{is_digit, number_from}
use Rattle.cert_format.specs.Items.{has_leading_zero, is_empty, is_numeral, natural}
use Rattle.cert_format.specs.Lines.{Item}
use Rattle.cert_format.specs.declared.items.TheConstants.{MOST_NUMBER}

own : IsNumeralModel (λ ds. list_all is_digit ds ≡ true) (number_from 0)
own = numerals_by_fold _ (search rules) number_from (search rules)

-- what a number says, and that it is within its limit
pub record Natural (most : ℕ) (text : List ℕ) (n : ℕ) : Type 0 where
  pub spelled : text ≡ decimal n
  pub small : n ≤ most

no_zero : (text : List ℕ) → 0 < length text → has_leading_zero text ≡ false → get_or text 0 0 ≡ 48 → length text ≡ 1
no_zero [] some lead first = absurd (omega (arith, some))
no_zero (d ∷ []) some lead first = refl
no_zero (d ∷ (e ∷ ds)) some lead first = grind (arith, nat_tests)

numeral : (text : List ℕ) → not (is_numeral text) ≡ false → is_numeral text ≡ true
numeral text e = by_value (is_numeral text) e
  where
    by_value : (b : Bool) → not b ≡ false → b ≡ true
    by_value true e = refl
    by_value false e = absurd (cc)

pub spelled_number : (text : List ℕ) → is_numeral text ≡ true → has_leading_zero text ≡ false → number_from 0 text < 2 ^ 64
    → text ≡ decimal (number_from 0 text)
spelled_number text is lead small =
    let parts = and_parts (not (is_empty text)) (list_all is_digit text) is in
    let first : not (nat_eq (length text) 0) ≡ true = parts.0 in
    let some : 0 < length text = grind (arith, nat_tests) in
    sym (decimal-digits_value own text parts.1 some (no_zero text some lead) small)

not_over : (most n : ℕ) → nat_lt most n ≡ false → n ≤ most
not_over most n over = grind (arith, nat_tests)

pub natural_read : (most : ℕ) (item : Item) (n : ℕ) → most ≤ MOST_NUMBER → natural most item ≡ Ok n → Natural most item.text n
natural_read most item n bound e =
    let a = unless_ok _ _ _ _ e in
    let b = unless_ok _ _ _ _ a.1 in
    let c = unless_ok _ _ _ _ b.1 in
    let is : n ≡ number_from 0 item.text = ok_is (number_from 0 item.text) n c.1 in
    let over : nat_lt most (number_from 0 item.text) ≡ false = b.0 in
    let small : number_from 0 item.text ≤ most = not_over most (number_from 0 item.text) over in
    record {
      spelled = spelled_number item.text (numeral item.text a.0) c.0 (omega (arith, small, bound)) ∙ ap decimal (sym is);
      small = omega (arith, small, is);
    }

no_lead : (text : List ℕ) → 48 < get_or text 0 0 → has_leading_zero text ≡ false
no_lead [] first = refl
no_lead (d ∷ []) first = refl
no_lead (d ∷ (e ∷ ds)) first = grind (arith, nat_tests)

zero_text : decimal 0 ≡ 48 ∷ []
zero_text = decimal-digits_value own (48 ∷ []) refl (omega arith) (λ e. refl) (omega arith)

plain_lead : (n : ℕ) → n < 2 ^ 64 → has_leading_zero (decimal n) ≡ false
plain_lead zero small = ap has_leading_zero zero_text
plain_lead (suc n) small = no_lead (decimal (suc n)) (first_decimal (suc n) (omega arith) small)

pub some_bytes : (text : List ℕ) → 0 < length text → not (is_empty text) ≡ true
some_bytes text some = grind (arith, nat_tests)

not_over_is : (most n : ℕ) → n ≤ most → nat_lt most n ≡ false
not_over_is most n small = grind (arith, nat_tests)

natural_by : (most left : ℕ) (text : List ℕ) (n : ℕ) → is_numeral text ≡ true → number_from 0 text ≡ n → has_leading_zero text ≡ false
    → nat_lt most n ≡ false → natural most (record { text = text; left = left }) ≡ Ok n
natural_by most left text n is value lead over = rw is (rw value (rw over (rw lead refl)))

-- a number within its limit is read as what it spells
pub natural_taken : (most : ℕ) (item : Item) (n : ℕ) → most ≤ MOST_NUMBER → n ≤ most → item.text ≡ decimal n → natural most item ≡ Ok n
natural_taken most item n bound small said =
    let fits : n < 2 ^ 64 = omega (arith, bound, small) in
    let is = and_from (not (is_empty (decimal n))) (list_all is_digit (decimal n)) (some_bytes (decimal n) (decimal_nonempty n fits)) (digits_decimal own n fits) in
    ap (λ (text : List ℕ). natural most (record { text = text; left = item.left })) said
    ∙ natural_by most item.left (decimal n) n is (digits_value-decimal own n fits) (plain_lead n fits) (not_over_is most n small)

-- a number is spelled by digits, at least one
pub decimal_digits : (n : ℕ) → n < 2 ^ 64 → (list_all is_digit (decimal n) ≡ true) × (not (is_empty (decimal n)) ≡ true)
decimal_digits n fits = (digits_decimal own n fits, some_bytes (decimal n) (decimal_nonempty n fits))

-- what the digits of a number are
pub record Numeral (text : List ℕ) (n : ℕ) : Type 0 where
  pub digits : is_numeral text ≡ true
  pub value : number_from 0 text ≡ n
  pub plain : has_leading_zero text ≡ false

-- the digits that spell a number
pub numeral_of : (n : ℕ) → n < 2 ^ 64 → Numeral (decimal n) n
numeral_of n fits =
    record {
      digits = and_from (not (is_empty (decimal n))) (list_all is_digit (decimal n)) (some_bytes (decimal n) (decimal_nonempty n fits)) (digits_decimal own n fits);
      value = digits_value-decimal own n fits;
      plain = plain_lead n fits;
    }

-- digits without a leading zero spell their number
pub numeral_text : (text : List ℕ) (n : ℕ) → not (is_numeral text) ≡ false → has_leading_zero text ≡ false → n ≡ number_from 0 text
    → number_from 0 text < 2 ^ 64 → text ≡ decimal n
numeral_text text n is lead same small = spelled_number text (numeral text is) lead small ∙ ap decimal (sym same)
