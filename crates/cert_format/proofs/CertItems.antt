-- Items of pieces and hints: what is read is what they spell, and what is spelled is read.
use Rattle.std.proofs.Common.{◌≡◌, ℕ, zero, suc, ◌<◌, ◌≤◌, Bool, true, false, ◌&&◌, ◌||◌, not, cond, nat_eq, nat_lt, nat_le, ℤ, pos, negsuc, neg_ℤ, List, [], ◌∷◌, drop, is_some, Result, Ok, refl, sym, ap, subst, ◌∙◌, arith}
use Rattle.std.specs.Fmt.{decimal, signed_decimal}
use Rattle.std.specs.List.{list_all}
use Rattle.std.proofs.lemmas.Bool.{and_parts, or_parts}
use Rattle.std.proofs.lemmas.Bool.Decides.{nat_tests}
use Rattle.bv_base.specs.Answers.{then_do}
use Rattle.bv_base.proofs.ThenLemmas.{ok, ok_is, then_ok, unless_ok}
use Rattle.bv_base.specs.Runs.{is_digit, number_from}
use Rattle.name_table.specs.declared.style.Body.{Body}
use Rattle.sym_state.specs.declared.symbol.Sym.{Sym}
use Rattle.cert_format.specs.CertText.{is_within}
use Rattle.cert_format.specs.Items.{has_leading_zero, is_empty, is_numeral, positive}
use Rattle.cert_format.specs.Lines.{Item}
use Rattle.cert_format.specs.PieceItems as items
use Rattle.cert_format.specs.PieceSpelling.{sym_text}
use Rattle.cert_format.specs.declared.items.TheConstants.{MOST_NUMBER}
use Rattle.cert_format.specs.declared.stop.Stop.{Stop}
use Rattle.cert_format.proofs.Numerals.{Numeral, numeral_of, numeral_text}

not_over : (most n : ℕ) → nat_lt most n ≡ false → n ≤ most
not_over most n over = grind (arith, nat_tests)

over_not : (most n : ℕ) → n ≤ most → nat_lt most n ≡ false
over_not most n small = grind (arith, nat_tests)

below_is : (next n : ℕ) → nat_le next n ≡ false → n < next
below_is next n e = grind (arith, nat_tests)

is_below : (next n : ℕ) → n < next → nat_le next n ≡ false
is_below next n e = grind (arith, nat_tests)

-- a symbol at a place
pub placed_read : (next : ℕ) (item : Item) (s : Sym) → next ≤ MOST_NUMBER → items.placed next item ≡ Ok s → (item.text ≡ sym_text s) × (s.0 ≤ next)
placed_read next item s bound e =
    let a = unless_ok (not (is_numeral item.text)) _ _ _ e in
    let b = unless_ok (nat_lt next (number_from 0 item.text) || has_leading_zero item.text) _ _ _ a.1 in
    let c = or_parts (nat_lt next (number_from 0 item.text)) (has_leading_zero item.text) b.0 in
    let is : s.0 ≡ number_from 0 item.text = ap (λ (x : Sym). x.0) (ok_is (record { 0 = number_from 0 item.text }) s b.1) in
    let small = not_over next (number_from 0 item.text) c.0 in
    (numeral_text item.text s.0 a.0 c.1 is (omega (arith, small, bound)), omega (arith, small, is))

-- a reader that takes the numeral of a symbol takes the symbol's text
symbol_taken : (reader : Item → Result Sym Stop) (item : Item) (s : Sym) → s.0 ≤ MOST_NUMBER → item.text ≡ sym_text s
    → ((text : List ℕ) → Numeral text s.0 → reader (record { text = text; left = item.left }) ≡ Ok s) → reader item ≡ Ok s
symbol_taken reader item s small said taken =
    ap (λ (t : List ℕ). reader (record { text = t; left = item.left })) said ∙ taken (decimal s.0) (numeral_of s.0 (omega (arith, small)))

pub placed_taken : (next : ℕ) (item : Item) (s : Sym) → next ≤ MOST_NUMBER → s.0 ≤ next → item.text ≡ sym_text s → items.placed next item ≡ Ok s
placed_taken next item s bound small said =
    symbol_taken (items.placed next) item s (omega (arith, bound, small)) said
    (λ text is. rw is.digits (rw is.value (rw (over_not next s.0 small) (rw is.plain refl))))

-- a symbol that has a place
pub known_read : (next : ℕ) (item : Item) (s : Sym) → next ≤ MOST_NUMBER → items.known next item ≡ Ok s → (item.text ≡ sym_text s) × (s.0 < next)
known_read next item s bound e =
    let a = unless_ok (not (is_numeral item.text)) _ _ _ e in
    let b = unless_ok (nat_le next (number_from 0 item.text)) _ _ _ a.1 in
    let c = unless_ok (has_leading_zero item.text) _ _ _ b.1 in
    let is : s.0 ≡ number_from 0 item.text = ap (λ (x : Sym). x.0) (ok_is (record { 0 = number_from 0 item.text }) s c.1) in
    let small = below_is next (number_from 0 item.text) b.0 in
    (numeral_text item.text s.0 a.0 c.0 is (omega (arith, small, bound)), omega (arith, small, is))

pub known_taken : (next : ℕ) (item : Item) (s : Sym) → next ≤ MOST_NUMBER → s.0 < next → item.text ≡ sym_text s → items.known next item ≡ Ok s
known_taken next item s bound small said =
    symbol_taken (items.known next) item s (omega (arith, bound, small)) said
    (λ text is. rw is.digits (rw is.value (rw (is_below next s.0 small) (rw is.plain refl))))

-- a number from 1 on
positive_is : (n : ℕ) → nat_eq n 0 ≡ false → 1 ≤ n
positive_is n some = grind (arith, nat_tests)

is_positive : (n : ℕ) → 1 ≤ n → nat_eq n 0 ≡ false
is_positive n some = grind (arith, nat_tests)

pub positive_read : (most : ℕ) (item : Item) (n : ℕ) → most ≤ MOST_NUMBER → positive most item ≡ Ok n
    → (item.text ≡ decimal n) × (1 ≤ n) × (n ≤ most)
positive_read most item n bound e =
    let a = unless_ok (not (is_numeral item.text)) _ _ _ e in
    let b = unless_ok (nat_eq (number_from 0 item.text) 0 || nat_lt most (number_from 0 item.text)) _ _ _ a.1 in
    let c = or_parts (nat_eq (number_from 0 item.text) 0) (nat_lt most (number_from 0 item.text)) b.0 in
    let d = unless_ok (has_leading_zero item.text) _ _ _ b.1 in
    let is : n ≡ number_from 0 item.text = ok_is (number_from 0 item.text) n d.1 in
    let some = positive_is (number_from 0 item.text) c.0 in
    let small = not_over most (number_from 0 item.text) c.1 in
    (numeral_text item.text n a.0 d.0 is (omega (arith, small, bound)), omega (arith, some, is), omega (arith, small, is))

positive_by : (most left n : ℕ) (text : List ℕ) → Numeral text n → nat_eq n 0 ≡ false → nat_lt most n ≡ false
    → positive most (record { text = text; left = left }) ≡ Ok n
positive_by most left n text is some over = rw is.digits (rw is.value (rw some (rw over (rw is.plain refl))))

pub positive_taken : (most : ℕ) (item : Item) (n : ℕ) → most ≤ MOST_NUMBER → 1 ≤ n → n ≤ most → item.text ≡ decimal n → positive most item ≡ Ok n
positive_taken most item n bound some small said =
    ap (λ (t : List ℕ). positive most (record { text = t; left = item.left })) said
    ∙ positive_by most item.left n (decimal n) (numeral_of n (omega (arith, small, bound))) (is_positive n some) (over_not most n small)

-- the number of a block
pub block_read : (bodies : List Body) (item : Item) (n : ℕ) → items.block_number bodies item ≡ Ok n
    → (item.text ≡ decimal n) × (n ≤ 1073741824) × (is_some (items.body_of n bodies) ≡ true)
block_read bodies item n e =
    let a = unless_ok (not (is_numeral item.text)) _ _ _ e in
    let b = unless_ok (nat_lt 1073741824 (number_from 0 item.text) || not (is_some (items.body_of (number_from 0 item.text) bodies))) _ _ _ a.1 in
    let c = or_parts (nat_lt 1073741824 (number_from 0 item.text)) (not (is_some (items.body_of (number_from 0 item.text) bodies))) b.0 in
    let d = unless_ok (has_leading_zero item.text) _ _ _ b.1 in
    let is : n ≡ number_from 0 item.text = ok_is (number_from 0 item.text) n d.1 in
    let small = not_over 1073741824 (number_from 0 item.text) c.0 in (
      numeral_text item.text n a.0 d.0 is (omega (arith, small)),
      omega (arith, small, is),
      ap (λ (m : ℕ). is_some (items.body_of m bodies)) is ∙ not_not (is_some (items.body_of (number_from 0 item.text) bodies)) c.1,
    )
  where
    not_not : (b : Bool) → not b ≡ false → b ≡ true
    not_not true e = refl
    not_not false e = absurd (cc)

block_by : (bodies : List Body) (left n : ℕ) (text : List ℕ) → Numeral text n → nat_lt 1073741824 n ≡ false → is_some (items.body_of n bodies) ≡ true
    → items.block_number bodies (record { text = text; left = left }) ≡ Ok n
block_by bodies left n text is over there = rw is.digits (rw is.value (rw over (rw there (rw is.plain refl))))

pub block_taken : (bodies : List Body) (item : Item) (n : ℕ) → n ≤ 1073741824 → is_some (items.body_of n bodies) ≡ true → item.text ≡ decimal n
    → items.block_number bodies item ≡ Ok n
block_taken bodies item n small there said =
    ap (λ (t : List ℕ). items.block_number bodies (record { text = t; left = item.left })) said
    ∙ block_by bodies item.left n (decimal n) (numeral_of n (omega (arith, small))) (over_not 1073741824 n small) there

-- an integer by its sign and its size
sized_by : (below above left n : ℕ) (negative : Bool) (digits : List ℕ) → Numeral digits n → items.is_beyond below above negative n ≡ false
    → negative && nat_eq n 0 ≡ false → items.sized below above negative digits left ≡ Ok (negative, n)
sized_by below above left n negative digits is within some = rw is.digits (rw is.value (rw within (rw is.plain (rw some refl))))

-- what the digits of an integer are
record Sized (below above : ℕ) (negative : Bool) (digits : List ℕ) (found : Bool × ℕ) : Type 0 where
  pub said : digits ≡ decimal found.1
  pub signed : found.0 ≡ negative
  pub within : items.is_beyond below above negative found.1 ≡ false
  pub some : negative && nat_eq found.1 0 ≡ false

beyond_small : (below above : ℕ) (negative : Bool) (n : ℕ) → below ≤ 1099511627776 → above ≤ 1099511627776 → items.is_beyond below above negative n ≡ false
    → n ≤ 1099511627776
beyond_small below above true n low high e = let small = not_over below n e in omega (arith, small, low)
beyond_small below above false n low high e = let small = not_over above n e in omega (arith, small, high)

sized_read : (below above : ℕ) (negative : Bool) (digits : List ℕ) (left : ℕ) (found : Bool × ℕ) → below ≤ 1099511627776 → above ≤ 1099511627776
    → items.sized below above negative digits left ≡ Ok found → Sized below above negative digits found
sized_read below above negative digits left found low high e =
    let a = unless_ok (not (is_numeral digits)) _ _ _ e in
    let b = unless_ok (items.is_beyond below above negative (number_from 0 digits)) _ _ _ a.1 in
    let c = unless_ok (has_leading_zero digits || (negative && nat_eq (number_from 0 digits) 0)) _ _ _ b.1 in
    let d = or_parts (has_leading_zero digits) (negative && nat_eq (number_from 0 digits) 0) c.0 in
    let given : Bool × ℕ = (negative, number_from 0 digits) in
    let is : found ≡ given = ok_is given found c.1 in
    let size : found.1 ≡ number_from 0 digits = ap (λ (p : Bool × ℕ). p.1) is in
    let small = beyond_small below above negative (number_from 0 digits) low high b.0 in
    record {
      said = numeral_text digits found.1 a.0 d.0 size (omega (arith, small));
      signed = ap (λ (p : Bool × ℕ). p.0) is;
      within = ap (items.is_beyond below above negative) size ∙ b.0;
      some = ap (λ (n : ℕ). negative && nat_eq n 0) size ∙ d.1;
    }

-- an integer between bounds: its spelling, and that it is within them
abbrev pub Integer : ℕ → ℕ → List ℕ → ℤ → Type 0
Integer below above text n = (text ≡ signed_decimal n) × (is_within below above n ≡ true)

within_above : (above n : ℕ) → nat_lt above n ≡ false → nat_le n above ≡ true
within_above above n e = grind (arith, nat_tests)

negative_text : (below above : ℕ) (digits : List ℕ) (n : ℕ) → digits ≡ decimal n → nat_lt below n ≡ false → nat_eq n 0 ≡ false
    → Integer below above (45 ∷ digits) (neg_ℤ (pos n))
negative_text below above digits zero said within some = absurd (cc)
negative_text below above digits (suc n) said within some = (ap (λ (t : List ℕ). 45 ∷ t) said, within_above below (suc n) within)

same_byte : (b : ℕ) → nat_eq b 45 ≡ true → b ≡ 45
same_byte b e = grind (arith, nat_tests)

by_sign : (below above b : ℕ) (bytes : List ℕ) (left : ℕ) (t : Bool) (found : Bool × ℕ) → nat_eq b 45 ≡ t → below ≤ 1099511627776 → above ≤ 1099511627776
    → items.sized below above t (cond t bytes (b ∷ bytes)) left ≡ Ok found
    → Integer below above (b ∷ bytes) (items.integer_of found.0 found.1)
by_sign below above b bytes left true found is low high e =
    let r = sized_read below above true bytes left found low high e in
    subst (λ (c : ℕ). Integer below above (c ∷ bytes) (items.integer_of found.0 found.1)) (sym (same_byte b is))
    (subst (λ (t : Bool). Integer below above (45 ∷ bytes) (items.integer_of t found.1)) (sym r.signed)
    (negative_text below above bytes found.1 r.said r.within r.some))
by_sign below above b bytes left false found is low high e =
    let r = sized_read below above false (b ∷ bytes) left found low high e in
    subst (λ (t : Bool). Integer below above (b ∷ bytes) (items.integer_of t found.1)) (sym r.signed)
    (r.said, within_above above found.1 r.within)

signed_read : (below above : ℕ) (text : List ℕ) (left : ℕ) (found : Bool × ℕ) → below ≤ 1099511627776 → above ≤ 1099511627776
    → items.signed below above (record { text = text; left = left }) ≡ Ok found → Integer below above text (items.integer_of found.0 found.1)
signed_read below above [] left found low high e = absurd (cc)
signed_read below above (b ∷ bytes) left found low high e = by_sign below above b bytes left (nat_eq b 45) found refl low high e

pub integer_read : (below above : ℕ) (item : Item) (n : ℤ) → below ≤ 1099511627776 → above ≤ 1099511627776 → items.integer below above item ≡ Ok n
    → Integer below above item.text n
integer_read below above item n low high e =
    let a = then_ok (items.signed below above item) _ _ e in
    subst (Integer below above item.text) (sym (ok_is (items.integer_of a.0.0 a.0.1) n a.2))
    (signed_read below above item.text item.left a.0 low high a.1)

digit_first : (text : List ℕ) → list_all is_digit text ≡ true → items.is_negative text ≡ false
digit_first [] e = refl
digit_first (b ∷ text) e = no_sign b (and_parts (is_digit b) (list_all is_digit text) e).0
  where
    no_sign : (b : ℕ) → is_digit b ≡ true → nat_eq b 45 ≡ false
    no_sign b e = grind (arith, nat_tests)

above_within : (above n : ℕ) → nat_le n above ≡ true → nat_lt above n ≡ false
above_within above n e = grind (arith, nat_tests)

within_small : (above n : ℕ) → nat_le n above ≡ true → n ≤ above
within_small above n e = grind (arith, nat_tests)

unsigned_by : (below above left n : ℕ) (text : List ℕ) → Numeral text n → items.is_negative text ≡ false → nat_lt above n ≡ false
    → items.integer below above (record { text = text; left = left }) ≡ Ok (pos n)
unsigned_by below above left n text is plain within =
    ap (λ (t : Bool). then_do (items.sized below above t (cond t (drop 1 text) text) left) (λ found. ok {E = Stop} (items.integer_of found.0 found.1))) plain
    ∙ ap (λ (r : Result (Bool × ℕ) Stop). then_do r (λ found. ok {E = Stop} (items.integer_of found.0 found.1))) (sized_by below above left n false text is within refl)

not_zero : (n : ℕ) → nat_eq (suc n) 0 ≡ false
not_zero n = grind (arith, nat_tests)

integer_by : (below above left : ℕ) (n : ℤ) → below ≤ 1099511627776 → above ≤ 1099511627776 → is_within below above n ≡ true
    → items.integer below above (record { text = signed_decimal n; left = left }) ≡ Ok n
integer_by below above left (pos n) low high within =
    let small = within_small above n within in
    let numeral = numeral_of n (omega (arith, small, high)) in
    unsigned_by below above left n (decimal n) numeral
    (digit_first (decimal n) (and_parts (not (is_empty (decimal n))) (list_all is_digit (decimal n)) numeral.digits).1) (above_within above n within)
integer_by below above left (negsuc n) low high within =
    let small = within_small below (suc n) within in
    let numeral = numeral_of (suc n) (omega (arith, small, low)) in
    rw (sized_by below above left (suc n) true (decimal (suc n)) numeral (above_within below (suc n) within) (not_zero n)) refl

pub integer_taken : (below above : ℕ) (item : Item) (n : ℤ) → below ≤ 1099511627776 → above ≤ 1099511627776 → is_within below above n ≡ true
    → item.text ≡ signed_decimal n → items.integer below above item ≡ Ok n
integer_taken below above item n low high within said =
    ap (λ (t : List ℕ). items.integer below above (record { text = t; left = item.left })) said ∙ integer_by below above item.left n low high within
