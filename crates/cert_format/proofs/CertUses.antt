-- References and uses of proofs: what is read is what they spell, and what is spelled is read.
use Rattle.std.proofs.Common.{◌≡◌, ℕ, ◌≤◌, Bool, true, false, ◌||◌, not, cond, nat_eq, nat_lt, min, List, [], ◌∷◌, ◌++◌, length, take, drop, Option, Some, None, Result, Ok, refl, sym, ap, subst, ◌∙◌, arith}
use Rattle.std.specs.Fmt.{decimal}
use Rattle.std.specs.List.{list_all}
use Rattle.std.proofs.lemmas.Bool.{and_parts, or_parts}
use Rattle.std.proofs.lemmas.Bool.Decides.{nat_tests}
use Rattle.std.proofs.lemmas.List.{take-append-drop}
use Rattle.bv_base.proofs.RunLemmas.{ends_before, length_before_is}
use Rattle.bv_base.proofs.ThenLemmas.{ok_is, unless_ok}
use Rattle.bv_base.specs.Runs.{EndsBy, NoneOf, is_digit, length_before, number_from}
use Rattle.sym_state.specs.declared.proof.Reference.{Reference}
use Rattle.sym_state.specs.declared.proof.Reference.TheVariants.{Row, ValueLow, ValueHigh, LengthLow, NamesLow, NamesHigh, ExactLow, ExactHigh, NonblankLength, NonblankNames, TextLow, TextHigh, PosLow, PosHigh, CountLow, CountHigh}
use Rattle.sym_state.specs.declared.proof.Use.{Use}
use Rattle.sym_state.specs.declared.symbol.Sym.{Sym}
use Rattle.cert_format.specs.CertText.{IsPositive, IsUse, reference_number}
use Rattle.cert_format.specs.HintSpelling.{reference_text, use_text}
use Rattle.cert_format.specs.Hints.{bare, is_colon, is_out, numbered, reference_of, use_item, use_of, with_part}
use Rattle.cert_format.specs.Items.{has_leading_zero, is_empty, is_numeral}
use Rattle.cert_format.specs.Lines.{Item}
use Rattle.cert_format.specs.declared.items.TheConstants.{MOST_NUMBER}
use Rattle.cert_format.specs.declared.stop.Stop.{Stop}
use Rattle.cert_format.proofs.Numerals.{Numeral, numeral_of, numeral_text}

some_of : {A : Type 0} (x y : A) → Some x ≡ Some y → y ≡ x
some_of x y e = cc

same_number : (a b : ℕ) → nat_eq a b ≡ true → a ≡ b
same_number a b e = grind (arith, nat_tests)

-- the letter of a reference, or what comes for another one
lettered : (P : ℕ → Reference → Type 0) (letter k : ℕ) (value : Reference) (rest : Option Reference) (r : Reference)
    → cond (nat_eq letter k) (Some value) rest ≡ Some r → P k value → (rest ≡ Some r → P letter r) → P letter r
lettered P letter k value rest r e here next = by_test (nat_eq letter k) refl e
  where
    by_test : (t : Bool) → nat_eq letter k ≡ t → cond t (Some value) rest ≡ Some r → P letter r
    by_test true is f =
        subst (P letter) (sym (some_of value r f)) (subst (λ (l : ℕ). P l value) (sym (same_number letter k is)) here)
    by_test false is f = next f

-- a reference with a number: its spelling, and its number
abbrev Lettered : ℕ → ℕ → Reference → Type 0
Lettered n letter r = (letter ∷ decimal n ≡ reference_text r) × (reference_number r ≡ n)

-- a symbol by its number
abbrev of_number : ℕ → Sym
of_number n = record { 0 = n }

numbered_read : (letter n : ℕ) (r : Reference) → numbered letter n ≡ Some r → Lettered n letter r
numbered_read letter n r e =
    lettered (Lettered n) letter 114 (Row n) _ r e (refl, refl) (λ e1.
    lettered (Lettered n) letter 118 (ValueLow (of_number n)) _ r e1 (refl, refl) (λ e2.
    lettered (Lettered n) letter 119 (ValueHigh (of_number n)) _ r e2 (refl, refl) (λ e3.
    lettered (Lettered n) letter 108 (LengthLow (of_number n)) _ r e3 (refl, refl) (λ e4.
    lettered (Lettered n) letter 110 (NamesLow (of_number n)) _ r e4 (refl, refl) (λ e5.
    lettered (Lettered n) letter 109 (NamesHigh (of_number n)) _ r e5 (refl, refl) (λ e6.
    lettered (Lettered n) letter 101 (ExactLow (of_number n)) _ r e6 (refl, refl) (λ e7.
    lettered (Lettered n) letter 102 (ExactHigh (of_number n)) _ r e7 (refl, refl) (λ e8.
    lettered (Lettered n) letter 98 (NonblankLength (of_number n)) _ r e8 (refl, refl) (λ e9.
    lettered (Lettered n) letter 99 (NonblankNames (of_number n)) _ r e9 (refl, refl) (λ e10.
    lettered (Lettered n) letter 116 (TextLow (of_number n)) _ r e10 (refl, refl) (λ e11.
    lettered (Lettered n) letter 117 (TextHigh (of_number n)) _ r e11 (refl, refl) (λ e12. absurd (cc)))))))))))))

-- a reference without a number
abbrev Bare : ℕ → Reference → Type 0
Bare letter r = (letter ∷ [] ≡ reference_text r) × (reference_number r ≡ 0)

bare_read : (letter : ℕ) (r : Reference) → bare letter ≡ Some r → Bare letter r
bare_read letter r e =
    lettered Bare letter 112 PosLow _ r e (refl, refl) (λ e1.
    lettered Bare letter 113 PosHigh _ r e1 (refl, refl) (λ e2.
    lettered Bare letter 111 CountLow _ r e2 (refl, refl) (λ e3.
    lettered Bare letter 122 CountHigh _ r e3 (refl, refl) (λ e4. absurd (cc)))))

no_bytes : (digits : List ℕ) → is_empty digits ≡ true → digits ≡ []
no_bytes [] e = refl
no_bytes (d ∷ digits) e = absurd (omega (arith, zero_is (length (d ∷ digits)) e))
  where
    zero_is : (n : ℕ) → nat_eq n 0 ≡ true → n ≡ 0
    zero_is n e = grind (arith, nat_tests)

-- a number within 32 bits is told as itself
least : (n : ℕ) → nat_lt MOST_NUMBER n ≡ false → min MOST_NUMBER n ≡ n
least n e = let small : n ≤ MOST_NUMBER = grind (arith, nat_tests) in omega (arith, small)

-- what the text of a reference is
abbrev Referred : List ℕ → Reference → Type 0
Referred text r = (text ≡ reference_text r) × (reference_number r ≤ MOST_NUMBER)

not_over : (n : ℕ) → nat_lt MOST_NUMBER n ≡ false → n ≤ MOST_NUMBER
not_over n e = grind (arith, nat_tests)

numeral_not : (b : Bool) → b ≡ true → not b ≡ false
numeral_not true e = refl
numeral_not false e = absurd (cc)

reference_read : (text : List ℕ) (r : Reference) → reference_of text ≡ Some r → nat_lt MOST_NUMBER (number_from 0 (drop 1 text)) ≡ false
    → has_leading_zero (drop 1 text) ≡ false → Referred text r
reference_read [] r e over lead = absurd (cc)
reference_read (letter ∷ digits) r e over lead = by_empty (is_empty digits) refl (is_numeral digits) refl e
  where
    n : ℕ
    n = number_from 0 digits

    zero_small : (k : ℕ) → k ≡ 0 → k ≤ MOST_NUMBER
    zero_small k e = omega (arith, e)

    by_empty : (t : Bool) → is_empty digits ≡ t → (u : Bool) → is_numeral digits ≡ u
        → cond t (bare letter) (cond u (numbered letter (min MOST_NUMBER n)) None) ≡ Some r → Referred (letter ∷ digits) r
    by_empty true is u also f =
        let b = bare_read letter r f in
        (ap (λ (d : List ℕ). letter ∷ d) (no_bytes digits is) ∙ b.0, zero_small (reference_number r) b.1)
    by_empty false is true also f =
        let small = not_over n over in
        let b = numbered_read letter n r (ap (numbered letter) (sym (least n over)) ∙ f) in
        let said : digits ≡ decimal n = numeral_text digits n (numeral_not (is_numeral digits) also) lead refl (omega (arith, small)) in
        (ap (λ (d : List ℕ). letter ∷ d) said ∙ b.0, subst (λ (m : ℕ). m ≤ MOST_NUMBER) (sym b.1) small)
    by_empty false is false also f = absurd (cc)

-- M:REF, with the text of the number before the first `:`
record Used (times reference : List ℕ) (one : Use) : Type 0 where
  pub times_said : times ≡ decimal one.times
  pub reference_said : reference ≡ reference_text one.reference
  pub is : IsUse one

positive_is : (n : ℕ) → nat_eq n 0 ≡ false → nat_lt MOST_NUMBER n ≡ false → IsPositive n
positive_is n some small = (grind (arith, nat_tests), not_over n small)

with_reference : (left : ℕ) (o : Option Reference) (next : Reference → Result Use Stop) (one : Use) → with_part left o next ≡ Ok one
    → (r : Reference) × (o ≡ Some r) × (next r ≡ Ok one)
with_reference left (Some r) next one e = (r, refl, e)
with_reference left None next one e = absurd (cc)

used_read : (times text : List ℕ) (left : ℕ) (one : Use) → use_of times text left ≡ Ok one → Used times text one
used_read times text left one e =
    let n = number_from 0 times in
    let m = number_from 0 (drop 1 text) in
    let a = unless_ok (not (is_numeral times)) _ _ _ e in
    let b = with_reference left (reference_of text) _ one a.1 in
    let c = unless_ok (is_out times text) _ _ _ b.2 in
    let d = unless_ok (has_leading_zero times || has_leading_zero (drop 1 text)) _ _ _ c.1 in
    let out = or_parts (nat_eq n 0 || nat_lt MOST_NUMBER n) (nat_lt MOST_NUMBER m) c.0 in
    let low = or_parts (nat_eq n 0) (nat_lt MOST_NUMBER n) out.0 in
    let zeros = or_parts (has_leading_zero times) (has_leading_zero (drop 1 text)) d.0 in
    let given : Use = record { reference = b.0; times = n } in
    let is : one ≡ given = ok_is given one d.1 in
    let r = reference_read text b.0 b.1 out.1 zeros.1 in
    let good = positive_is n low.0 low.1 in
    let small : n ≤ MOST_NUMBER = good.1 in
    record {
      times_said = numeral_text times n a.0 zeros.0 refl (omega (arith, small)) ∙ ap (λ (u : Use). decimal u.times) (sym is);
      reference_said = r.0 ∙ ap (λ (u : Use). reference_text u.reference) (sym is);
      is = subst IsUse (sym is) (good, r.1);
    }

-- what stands from the first `:` on
colon_first : (rest : List ℕ) (r : Reference) → EndsBy is_colon rest → drop 1 rest ≡ reference_text r → rest ≡ 58 ∷ reference_text r
colon_first [] r ends e = absurd (some_text r e)
  where
    some_text : (r : Reference) → [] ≡ reference_text r → ⊥
    some_text (Row n) e = absurd (cc)
    some_text _ e = absurd (cc)
colon_first (b ∷ rest) r ends e = ap (λ (c : ℕ). c ∷ rest) (same_number b 58 ends) ∙ ap (λ (t : List ℕ). 58 ∷ t) e

pub use_read : (item : Item) (one : Use) → use_item item ≡ Ok one → (item.text ≡ use_text one) × IsUse one
use_read item one e =
    let count = length_before is_colon item.text in
    let used = used_read (take count item.text) (drop 1 (drop count item.text)) item.left one e in (
      sym (take-append-drop count item.text)
          ∙ ap (λ (front : List ℕ). front ++ drop count item.text) used.times_said
          ∙ ap (λ (back : List ℕ). decimal one.times ++ back) (colon_first (drop count item.text) one.reference (ends_before is_colon item.text) used.reference_said),
      used.is,
    )

-- how a number's letter and digits are read
numbered_by : (letter n : ℕ) (r : Reference) → n ≤ MOST_NUMBER → numbered letter n ≡ Some r → reference_of (letter ∷ decimal n) ≡ Some r
numbered_by letter n r small e =
    let is = numeral_of n (omega (arith, small)) in
    let both = and_parts (not (is_empty (decimal n))) (list_all is_digit (decimal n)) is.digits in
    by_parts (decimal n) is both.0 both.1
  where
    not_true : (b : Bool) → not b ≡ true → b ≡ false
    not_true true e = absurd (cc)
    not_true false e = refl

    min_is : (n : ℕ) → n ≤ MOST_NUMBER → min MOST_NUMBER n ≡ n
    min_is n small = omega (arith, small)

    by_parts : (digits : List ℕ) → Numeral digits n → not (is_empty digits) ≡ true → list_all is_digit digits ≡ true
        → reference_of (letter ∷ digits) ≡ Some r
    by_parts digits is some all = rw (not_true (is_empty digits) some) (rw all (rw is.value (rw (min_is n small) e)))

reference_taken : (r : Reference) → reference_number r ≤ MOST_NUMBER → reference_of (reference_text r) ≡ Some r
reference_taken (Row n) small = numbered_by 114 n (Row n) small refl
reference_taken (ValueLow s) small = numbered_by 118 s.0 (ValueLow s) small refl
reference_taken (ValueHigh s) small = numbered_by 119 s.0 (ValueHigh s) small refl
reference_taken (LengthLow s) small = numbered_by 108 s.0 (LengthLow s) small refl
reference_taken (NamesLow s) small = numbered_by 110 s.0 (NamesLow s) small refl
reference_taken (NamesHigh s) small = numbered_by 109 s.0 (NamesHigh s) small refl
reference_taken (ExactLow s) small = numbered_by 101 s.0 (ExactLow s) small refl
reference_taken (ExactHigh s) small = numbered_by 102 s.0 (ExactHigh s) small refl
reference_taken (NonblankLength s) small = numbered_by 98 s.0 (NonblankLength s) small refl
reference_taken (NonblankNames s) small = numbered_by 99 s.0 (NonblankNames s) small refl
reference_taken (TextLow s) small = numbered_by 116 s.0 (TextLow s) small refl
reference_taken (TextHigh s) small = numbered_by 117 s.0 (TextHigh s) small refl
reference_taken PosLow small = refl
reference_taken PosHigh small = refl
reference_taken CountLow small = refl
reference_taken CountHigh small = refl

-- the number behind the letter of a reference
record Behind (r : Reference) : Type 0 where
  pub small : nat_lt MOST_NUMBER (number_from 0 (drop 1 (reference_text r))) ≡ false
  pub plain : has_leading_zero (drop 1 (reference_text r)) ≡ false

over_not : (n : ℕ) → n ≤ MOST_NUMBER → nat_lt MOST_NUMBER n ≡ false
over_not n small = grind (arith, nat_tests)

behind_number : (n : ℕ) → n ≤ MOST_NUMBER → (nat_lt MOST_NUMBER (number_from 0 (decimal n)) ≡ false) × (has_leading_zero (decimal n) ≡ false)
behind_number n small = let is = numeral_of n (omega (arith, small)) in (ap (nat_lt MOST_NUMBER) is.value ∙ over_not n small, is.plain)

behind : (r : Reference) → reference_number r ≤ MOST_NUMBER → Behind r
behind (Row n) small = let b = behind_number n small in record { small = b.0; plain = b.1 }
behind (ValueLow s) small = let b = behind_number s.0 small in record { small = b.0; plain = b.1 }
behind (ValueHigh s) small = let b = behind_number s.0 small in record { small = b.0; plain = b.1 }
behind (LengthLow s) small = let b = behind_number s.0 small in record { small = b.0; plain = b.1 }
behind (NamesLow s) small = let b = behind_number s.0 small in record { small = b.0; plain = b.1 }
behind (NamesHigh s) small = let b = behind_number s.0 small in record { small = b.0; plain = b.1 }
behind (ExactLow s) small = let b = behind_number s.0 small in record { small = b.0; plain = b.1 }
behind (ExactHigh s) small = let b = behind_number s.0 small in record { small = b.0; plain = b.1 }
behind (NonblankLength s) small = let b = behind_number s.0 small in record { small = b.0; plain = b.1 }
behind (NonblankNames s) small = let b = behind_number s.0 small in record { small = b.0; plain = b.1 }
behind (TextLow s) small = let b = behind_number s.0 small in record { small = b.0; plain = b.1 }
behind (TextHigh s) small = let b = behind_number s.0 small in record { small = b.0; plain = b.1 }
behind PosLow small = record { small = refl; plain = refl }
behind PosHigh small = record { small = refl; plain = refl }
behind CountLow small = record { small = refl; plain = refl }
behind CountHigh small = record { small = refl; plain = refl }

is_positive : (n : ℕ) → 1 ≤ n → nat_eq n 0 ≡ false
is_positive n some = grind (arith, nat_tests)

used_by : (times text : List ℕ) (left n : ℕ) (r : Reference) → Numeral times n → nat_eq n 0 ≡ false → nat_lt MOST_NUMBER n ≡ false
    → reference_of text ≡ Some r → nat_lt MOST_NUMBER (number_from 0 (drop 1 text)) ≡ false → has_leading_zero (drop 1 text) ≡ false
    → use_of times text left ≡ Ok (record { reference = r; times = n })
used_by times text left n r is some small there over plain =
    rw is.digits (rw there (rw is.value (rw some (rw small (rw over (rw is.plain (rw plain refl)))))))

take_front : (a b : List ℕ) → take (length a) (a ++ b) ≡ a
take_front [] b = refl
take_front (x ∷ a) b = ap (λ (t : List ℕ). x ∷ t) (take_front a b)

drop_front : (a b : List ℕ) → drop (length a) (a ++ b) ≡ b
drop_front [] b = refl
drop_front (x ∷ a) b = drop_front a b

no_colon : (digits : List ℕ) → list_all is_digit digits ≡ true → NoneOf is_colon digits
no_colon [] e = tt
no_colon (d ∷ digits) e = let both = and_parts (is_digit d) (list_all is_digit digits) e in (no_sign d both.0, no_colon digits both.1)
  where
    no_sign : (d : ℕ) → is_digit d ≡ true → is_colon d ≡ false
    no_sign d e = grind (arith, nat_tests)

pub use_taken : (item : Item) (one : Use) → IsUse one → item.text ≡ use_text one → use_item item ≡ Ok one
use_taken item one is said =
    let small : one.times ≤ MOST_NUMBER = is.0.1 in
    let numeral = numeral_of one.times (omega (arith, small)) in
    let times = decimal one.times in
    let back = 58 ∷ reference_text one.reference in
    let digits = (and_parts (not (is_empty times)) (list_all is_digit times) numeral.digits).1 in
    let count : length_before is_colon (times ++ back) ≡ length times = length_before_is is_colon times back (no_colon times digits) refl in
    let b = behind one.reference is.1 in
    ap (λ (t : List ℕ). use_item (record { text = t; left = item.left })) said
    ∙ ap (λ (k : ℕ). use_of (take k (times ++ back)) (drop 1 (drop k (times ++ back))) item.left) count
    ∙ ap (λ (front : List ℕ). use_of front (drop 1 (drop (length times) (times ++ back))) item.left) (take_front times back)
    ∙ ap (λ (rest : List ℕ). use_of times (drop 1 rest) item.left) (drop_front times back)
    ∙ used_by times (reference_text one.reference) item.left one.times one.reference numeral (is_positive one.times is.0.0) (over_not one.times small)
    (reference_taken one.reference is.1) b.small b.plain
