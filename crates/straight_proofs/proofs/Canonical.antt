-- Rows with each term once, the higher before the lower, and what is alike.
use Rattle.std.proofs.Common.{◌≡◌, ℕ, suc, ◌+◌, ◌<◌, ◌≤◌, ◌^◌, Bool, true, false, cond, List, [], ◌∷◌, length, drop, get_or, map, nat_lt, lt-ltb, ltb-true, Option, None, Some, Result, Ok, Err, OnOk, ap, sym, ◌∙◌, refl, subst, arith}
use Rattle.std.specs.Prelude.{ℤ, pos, ◌+ℤ◌, insert, remove, slice_set}
use Rattle.std.specs.List.{All, fold}
use Rattle.std.specs.Ordering.{int_eq}
use Rattle.std.proofs.lemmas.Bool.Decides.{Decides-int_eq}
use Rattle.std.proofs.lemmas.Int.{ints}
use Rattle.std.proofs.lemmas.List.Elements.{All-nil, All-cons, All-head, All-tail}
use Rattle.lin_facts.specs.Rows.{IsWithin, coefficient_of, same_term}
use Rattle.lin_facts.specs.declared.row.Part.{Part}
use Rattle.lin_facts.specs.declared.row.Row.{Row}
use Rattle.lin_facts.specs.declared.row.Term.{Term}
use Rattle.lin_facts.proofs.Forms.{coefficient_append, same_is}
use Rattle.lin_facts.proofs.Steps.{added as share, next_of, no_part}
use Rattle.straight_proofs.specs.Remainders.{Alike, added, canonical, changed, coefficient_at, less, minus, place_of, put, rank, turned, widened}

put_coefficient : (n : ℤ) (term : Term) (parts : List Part) (t : Term)
    → coefficient_of (put n term parts) t ≡ (cond (same_term term t) n (pos 0) +ℤ coefficient_of parts t)
put_coefficient n term parts t =
    elim (int_eq n (pos 0)) as (λ (b : Bool). int_eq n (pos 0) ≡ b
    → coefficient_of (cond b parts (record { coefficient = n; term = term } ∷ parts)) t ≡ (cond (same_term term t) n (pos 0) +ℤ coefficient_of parts t)) [
      | true ↦ λ e.
          let none : n ≡ pos 0 = (Decides-int_eq n (pos 0)).0 e in
          let here : cond (same_term term t) n (pos 0) ≡ pos 0 = ap (λ (m : ℤ). cond (same_term term t) m (pos 0)) none ∙ both (same_term term t) in
          omega (arith, ints, here)
      | false ↦ λ e. refl
    ] refl
  where
    both : (b : Bool) → cond b (pos 0) (pos 0) ≡ pos 0
    both true = refl
    both false = refl

-- what is added to a coefficient is the share of the part
pub added_coefficient : (part : Part) (parts : List Part) (t : Term) → coefficient_of (added part parts) t ≡ (coefficient_of parts t +ℤ share part t)
added_coefficient part [] t = omega (arith, ints, put_coefficient part.coefficient part.term [] t)
added_coefficient part (first ∷ parts) t =
    by (nat_lt (rank part.term) (rank first.term)) (same_term first.term part.term) refl (added_coefficient part parts t)
  where
    sum : (b : Bool) (m n : ℤ) → cond b (m +ℤ n) (pos 0) ≡ (cond b m (pos 0) +ℤ cond b n (pos 0))
    sum true m n = refl
    sum false m n = refl

    by : (b d : Bool) → same_term first.term part.term ≡ d → coefficient_of (added part parts) t ≡ (coefficient_of parts t +ℤ share part t)
        → coefficient_of (cond b (first ∷ added part parts) (cond d (put (first.coefficient +ℤ part.coefficient) part.term parts) (put part.coefficient part.term (first ∷ parts)))) t
        ≡ (coefficient_of (first ∷ parts) t +ℤ share part t)
    by true d e rest = omega (arith, ints, rest)
    by false true e rest =
        let same : cond (same_term first.term t) first.coefficient (pos 0) ≡ cond (same_term part.term t) first.coefficient (pos 0) =
        ap (λ (u : Term). cond (same_term u t) first.coefficient (pos 0)) (same_is first.term part.term e) in
        omega (arith, ints, put_coefficient (first.coefficient +ℤ part.coefficient) part.term parts t, sum (same_term part.term t) first.coefficient part.coefficient, same)
    by false false e rest = omega (arith, ints, put_coefficient part.coefficient part.term (first ∷ parts) t)

all_added : (parts others : List Part) (t : Term)
    → coefficient_of (fold (λ parts part. added part parts) parts others) t ≡ (coefficient_of parts t +ℤ coefficient_of others t)
all_added parts [] t = omega (arith, ints)
all_added parts (part ∷ others) t = omega (arith, ints, added_coefficient part parts t, all_added (added part parts) others t)

all_taken : (parts others : List Part) (t : Term)
    → coefficient_of (fold (λ parts part. added (turned part) parts) parts others) t ≡ (coefficient_of parts t +ℤ coefficient_of (map turned others) t)
all_taken parts [] t = omega (arith, ints)
all_taken parts (part ∷ others) t =
    omega (arith, ints, added_coefficient (turned part) parts t, all_taken (added (turned part) parts) others t)

-- the form of a row is alike it
pub canonical_alike : (row : Row) → Alike (canonical row) row
canonical_alike row = record { constant = refl; terms = λ t. omega (arith, ints, all_added [] row.parts t) }

-- what is left in this form is alike what is left
pub less_alike : (row other : Row) → Alike (less row other) (minus row other)
less_alike row other = record {
  constant = refl;
  terms = λ t. all_taken row.parts other.parts t ∙ sym (coefficient_append row.parts (map turned other.parts) t);
}

pub canonical_is_alike : (row same : Row) → same ≡ canonical row → Alike same row
canonical_is_alike row same e = subst (λ (r : Row). Alike r row) (sym e) (canonical_alike row)

pub less_is_alike : (row other left : Row) → left ≡ less row other → Alike left (minus row other)
less_is_alike row other left e = subst (λ (r : Row). Alike r (minus row other)) (sym e) (less_alike row other)

-- coefficients of at most this size
abbrev pub AreWithin : ℕ → List Part → Type 0
AreWithin size parts = All (λ part. IsWithin size part.coefficient) parts

pub wider : (size more : ℕ) (parts : List Part) → size ≤ more → AreWithin size parts → AreWithin more parts
wider size more [] e h = All-nil (λ (p : Part). IsWithin more p.coefficient)
wider size more (part ∷ parts) e h =
    let here = All-head (λ (p : Part). IsWithin size p.coefficient) part parts h in
    All-cons (λ (p : Part). IsWithin more p.coefficient) part parts
    (record { low = omega (arith, ints, here.low, e); high = omega (arith, ints, here.high, e) })
    (wider size more parts e (All-tail (λ (p : Part). IsWithin size p.coefficient) part parts h))

put_within : (size : ℕ) (n : ℤ) (term : Term) (parts : List Part) → IsWithin size n → AreWithin size parts → AreWithin size (put n term parts)
put_within size n term parts h k =
    elim (int_eq n (pos 0)) as (λ (b : Bool). AreWithin size (cond b parts (record { coefficient = n; term = term } ∷ parts))) [
      | true ↦ k
      | false ↦ All-cons (λ (p : Part). IsWithin size p.coefficient) (record { coefficient = n; term = term }) parts h k
    ]

-- a part that is added makes the coefficients greater by its own at most
pub added_within : (size more : ℕ) (part : Part) (parts : List Part) → IsWithin more part.coefficient → AreWithin size parts → AreWithin (size + more) (added part parts)
added_within size more part [] h k =
    put_within (size + more) part.coefficient part.term [] (record { low = omega (arith, ints, h.low); high = omega (arith, ints, h.high) }) (All-nil (λ (p : Part). IsWithin (size + more) p.coefficient))
added_within size more part (first ∷ parts) h k =
    let here = All-head (λ (p : Part). IsWithin size p.coefficient) first parts k in
    let behind = All-tail (λ (p : Part). IsWithin size p.coefficient) first parts k in
    by (nat_lt (rank part.term) (rank first.term)) (same_term first.term part.term) here (wider size (size + more) parts (omega arith) behind)
    (added_within size more part parts h behind)
  where
    by : (b d : Bool) → IsWithin size first.coefficient → AreWithin (size + more) parts → AreWithin (size + more) (added part parts)
        → AreWithin (size + more) (cond b (first ∷ added part parts) (cond d (put (first.coefficient +ℤ part.coefficient) part.term parts) (put part.coefficient part.term (first ∷ parts))))
    by true d here behind rest =
        All-cons (λ (p : Part). IsWithin (size + more) p.coefficient) first (added part parts)
        (record { low = omega (arith, ints, here.low); high = omega (arith, ints, here.high) }) rest
    by false true here behind rest =
        put_within (size + more) (first.coefficient +ℤ part.coefficient) part.term parts
        (record { low = omega (arith, ints, here.low, h.low); high = omega (arith, ints, here.high, h.high) }) behind
    by false false here behind rest =
        put_within (size + more) part.coefficient part.term (first ∷ parts)
        (record { low = omega (arith, ints, h.low); high = omega (arith, ints, h.high) })
        (All-cons (λ (p : Part). IsWithin (size + more) p.coefficient) first parts
        (record { low = omega (arith, ints, here.low); high = omega (arith, ints, here.high) }) behind)

put_few : (n : ℤ) (term : Term) (parts : List Part) → length (put n term parts) ≤ suc (length parts)
put_few n term parts =
    elim (int_eq n (pos 0)) as (λ (b : Bool). length (cond b parts (record { coefficient = n; term = term } ∷ parts)) ≤ suc (length parts)) [
      | true ↦ omega arith
      | false ↦ omega arith
    ]

-- a part that is added is one part more at most
pub added_few : (part : Part) (parts : List Part) → length (added part parts) ≤ suc (length parts)
added_few part [] = put_few part.coefficient part.term []
added_few part (first ∷ parts) = by (nat_lt (rank part.term) (rank first.term)) (same_term first.term part.term) (added_few part parts)
  where
    by : (b d : Bool) → length (added part parts) ≤ suc (length parts)
        → length (cond b (first ∷ added part parts) (cond d (put (first.coefficient +ℤ part.coefficient) part.term parts) (put part.coefficient part.term (first ∷ parts))))
        ≤ suc (suc (length parts))
    by true d rest = omega (arith, rest)
    by false true rest = omega (arith, put_few (first.coefficient +ℤ part.coefficient) part.term parts)
    by false false rest = put_few part.coefficient part.term (first ∷ parts)

-- the parts with a part that is added at its place, where this is the coefficient of its term there
abbrev pub at_place : Part → List Part → ℕ → Option ℤ → List Part
at_place part parts at (Some n) = changed parts at (n +ℤ part.coefficient) part.term
at_place part parts at None = widened parts at part

-- a first part stands before the place
deeper : (part first : Part) (parts : List Part) (at : ℕ) (o : Option ℤ) → (first ∷ at_place part parts at o) ≡ at_place part (first ∷ parts) (suc at) o
deeper part first parts at (Some n) =
    let one : Part = record { coefficient = n +ℤ part.coefficient; term = part.term } in
    elim (int_eq (n +ℤ part.coefficient) (pos 0)) as
    (λ (b : Bool). (first ∷ cond b (remove parts at) (slice_set parts at one)) ≡ cond b (remove (first ∷ parts) (suc at)) (slice_set (first ∷ parts) (suc at) one)) [
      | true ↦ refl
      | false ↦ refl
    ]
deeper part first parts at None =
    elim (int_eq part.coefficient (pos 0)) as (λ (b : Bool). (first ∷ cond b parts (insert parts at part)) ≡ cond b (first ∷ parts) (insert (first ∷ parts) (suc at) part)) [
      | true ↦ refl
      | false ↦ refl
    ]

-- where a part goes: its coefficient is added to that of its term, or it is put at the place of its term
pub placed : (part : Part) (parts : List Part)
    → added part parts ≡ at_place part parts (place_of parts part.term) (coefficient_at parts (place_of parts part.term) part.term)
placed part [] = refl
placed part (first ∷ parts) = by (nat_lt (rank part.term) (rank first.term)) (same_term first.term part.term) refl (placed part parts)
  where
    by : (b d : Bool) → same_term first.term part.term ≡ d
        → added part parts ≡ at_place part parts (place_of parts part.term) (coefficient_at parts (place_of parts part.term) part.term)
        → cond b (first ∷ added part parts) (cond d (put (first.coefficient +ℤ part.coefficient) part.term parts) (put part.coefficient part.term (first ∷ parts)))
        ≡ at_place part (first ∷ parts) (cond b (suc (place_of parts part.term)) 0) (coefficient_at (first ∷ parts) (cond b (suc (place_of parts part.term)) 0) part.term)
    by true d e rest =
        ap (λ (ps : List Part). first ∷ ps) rest
        ∙ deeper part first parts (place_of parts part.term) (coefficient_at parts (place_of parts part.term) part.term)
    by false true e rest = sym (ap (λ (d : Bool). at_place part (first ∷ parts) 0 (cond d (Some first.coefficient) None)) e)
    by false false e rest = sym (ap (λ (d : Bool). at_place part (first ∷ parts) 0 (cond d (Some first.coefficient) None)) e)

-- a term that stands before the place
pub place_passed : (parts : List Part) (term : Term) (k : ℕ) → k < length parts → rank term < rank (get_or parts k no_part).term
    → place_of (drop k parts) term ≡ suc (place_of (drop (k + 1) parts) term)
place_passed parts term k h high =
    ap (λ (ps : List Part). place_of ps term) (next_of parts k no_part h)
    ∙ ap (λ (b : Bool). cond b (suc (place_of (drop (k + 1) parts) term)) 0) (lt-ltb (rank term) (rank (get_or parts k no_part).term) high)

-- the same of what stands at the place, where the term has a coefficient there and where it has none
pub placed_there : (part : Part) (parts new : List Part) (at : ℕ) (n sum : ℤ) → new ≡ changed parts at sum part.term → at ≡ place_of parts part.term
    → Some n ≡ coefficient_at parts at part.term → sum ≡ (n +ℤ part.coefficient) → new ≡ added part parts
placed_there part parts new at n sum e place there is =
    e
    ∙ ap (λ (m : ℤ). changed parts at m part.term) is
    ∙ ap (at_place part parts at) there
    ∙ ap (λ (k : ℕ). at_place part parts k (coefficient_at parts k part.term)) place
    ∙ sym (placed part parts)

pub placed_new : (part : Part) (parts new : List Part) (at : ℕ) → new ≡ widened parts at part → at ≡ place_of parts part.term
    → None ≡ coefficient_at parts at part.term → new ≡ added part parts
placed_new part parts new at e place there =
    e
    ∙ ap (at_place part parts at) there
    ∙ ap (λ (k : ℕ). at_place part parts k (coefficient_at parts k part.term)) place
    ∙ sym (placed part parts)

pub where_ok : {A E : Type 0} (P Q : Type 0) (r : Result A E) → (P → Q) → OnOk r P → OnOk r Q
where_ok P Q (Ok x) f h = f h
where_ok P Q (Err e) f h = tt

-- one part more of those that a loop goes over
pub one_folded : (f : List Part → Part → List Part) (others old new all : List Part) (i : ℕ) → i < length others → new ≡ f old (get_or others i no_part)
    → fold f old (drop i others) ≡ all → fold f new (drop (i + 1) others) ≡ all
one_folded f others old new all i h e so_far =
    ap (λ (parts : List Part). fold f parts (drop (i + 1) others)) e ∙ sym (ap (fold f old) (next_of others i no_part h)) ∙ so_far

pub one_within : (size more : ℕ) (part : Part) (old new : List Part) → new ≡ added part old → IsWithin (2 ^ 45) part.coefficient → size + 2 ^ 45 ≤ more
    → AreWithin size old → AreWithin more new
one_within size more part old new e h few k =
    subst (AreWithin more) (sym e) (wider (size + 2 ^ 45) more (added part old) few (added_within size (2 ^ 45) part old h k))

low_tells : (m n : ℕ) → n ≤ m → nat_lt m n ≡ false
low_tells m n e = by (nat_lt m n) refl
  where
    by : (b : Bool) → nat_lt m n ≡ b → b ≡ false
    by true f = absurd (omega (arith, e, ltb-true m n f))
    by false f = refl

-- the term that stands at the place
pub place_reached : (parts : List Part) (term : Term) (k : ℕ) → k < length parts → rank (get_or parts k no_part).term ≤ rank term
    → place_of (drop k parts) term ≡ 0
place_reached parts term k h low =
    ap (λ (ps : List Part). place_of ps term) (next_of parts k no_part h)
    ∙ ap (λ (b : Bool). cond b (suc (place_of (drop (k + 1) parts) term)) 0) (low_tells (rank term) (rank (get_or parts k no_part).term) low)
