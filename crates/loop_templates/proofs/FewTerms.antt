-- The sums of at most three terms are small.
use Rattle.std.proofs.Common.{ℕ, zero, suc, ◌≤◌, List, [], ◌∷◌, ◌++◌, length, map, flat_map, ◌≡◌, ap, sym, ◌∙◌, append_assoc, arith}
use Rattle.std.specs.List.{All}
use Rattle.std.proofs.lemmas.Int.{ints}
use Rattle.std.proofs.lemmas.List.Concat.{flat_map-append}
use Rattle.std.proofs.lemmas.List.Elements.{All-nil, All-cons, All-head, All-tail, All-append}
use Rattle.lin_facts.specs.Rows.{IsWithin}
use Rattle.lin_facts.specs.declared.row.Part.{Part}
use Rattle.lin_facts.specs.declared.row.Term.{Term}
use Rattle.loop_templates.specs.Sums.{IsSmallSum, choices, first_added, less, plus, signed, sums}
use Rattle.loop_templates.proofs.SmallSums.{AreWithin}

-- a sum of at most so many terms, each added or taken away
pub record IsSumOf (n : ℕ) (sum : List Part) : Type 0 where
  pub few : length sum ≤ n
  pub units : AreWithin 1 sum

-- so many terms at most
abbrev HasFew : ℕ → List Term → Type 0
HasFew n terms = length terms ≤ n

-- one term more, added or taken away
one_more : (n : ℕ) (part : Part) (sum : List Part) → IsWithin 1 part.coefficient → IsSumOf n sum → IsSumOf (suc n) (part ∷ sum)
one_more n part sum unit h =
    let few = h.few in
    record { few = omega (arith, few); units = All-cons (λ (p : Part). IsWithin 1 p.coefficient) part sum unit h.units }

added_one : (n : ℕ) (term : Term) (sum : List Part) → IsSumOf n sum → IsSumOf (suc n) (plus term ∷ sum)
added_one n term sum = one_more n (plus term) sum (record { low = omega (arith, ints); high = omega (arith, ints) })

taken_one : (n : ℕ) (term : Term) (sum : List Part) → IsSumOf n sum → IsSumOf (suc n) (less term ∷ sum)
taken_one n term sum = one_more n (less term) sum (record { low = omega (arith, ints); high = omega (arith, ints) })

-- what holds of each holds of what is made of each
each : {X Y : Type 0} (P : X → Type 0) (Q : Y → Type 0) (f : X → Y) (xs : List X) → ((x : X) → P x → Q (f x)) → All P xs → All Q (map f xs)
each P Q f [] step h = All-nil Q
each {X} P Q f (x ∷ xs) step h = All-cons Q (f x) (map f xs) (step x (All-head P x xs h)) (each P Q f xs step (All-tail P x xs h))

-- and of the lists that are made of each
gathered : {X Y : Type 0} (P : X → Type 0) (Q : Y → Type 0) (f : X → List Y) (xs : List X) → ((x : X) → P x → All Q (f x)) → All P xs
    → All Q (flat_map f xs)
gathered P Q f [] step h = All-nil Q
gathered P Q f (x ∷ xs) step h = All-append Q (f x) (flat_map f xs) (step x (All-head P x xs h)) (gathered P Q f xs step (All-tail P x xs h))

signed_small : (n : ℕ) (terms : List Term) → length terms ≤ n → All (IsSumOf n) (signed terms)
signed_small n [] few =
    All-cons (IsSumOf n) [] [] (record { few = omega arith; units = All-nil (λ (p : Part). IsWithin 1 p.coefficient) }) (All-nil (IsSumOf n))
signed_small zero (term ∷ terms) few = absurd (omega (arith, few))
signed_small (suc n) (term ∷ terms) few =
    let rest = signed_small n terms (omega (arith, few)) in
    All-append (IsSumOf (suc n)) (map (λ sum. plus term ∷ sum) (signed terms)) (map (λ sum. less term ∷ sum) (signed terms))
    (each (IsSumOf n) (IsSumOf (suc n)) (λ sum. plus term ∷ sum) (signed terms) (added_one n term) rest)
    (each (IsSumOf n) (IsSumOf (suc n)) (λ sum. less term ∷ sum) (signed terms) (taken_one n term) rest)

small_of : (sum : List Part) → IsSumOf 3 sum → IsSmallSum sum
small_of sum h = record { few = h.few; units = h.units }

first_small : (terms : List Term) → HasFew 3 terms → All IsSmallSum (first_added terms)
first_small [] few = All-nil IsSmallSum
first_small (term ∷ terms) few =
    each (IsSumOf 2) IsSmallSum (λ sum. plus term ∷ sum) (signed terms) (λ sum h. small_of (plus term ∷ sum) (added_one 2 term sum h))
    (signed_small 2 terms (omega (arith, few)))

chosen_few : (n m : ℕ) (terms : List Term) → n ≤ m → All (HasFew m) (choices n terms)
chosen_few zero m terms more = All-cons (HasFew m) [] [] (omega arith) (All-nil (HasFew m))
chosen_few (suc n) m [] more = All-nil (HasFew m)
chosen_few (suc n) zero (term ∷ terms) more = absurd (omega (arith, more))
chosen_few (suc n) (suc m) (term ∷ terms) more =
    All-append (HasFew (suc m)) (map (λ chosen. term ∷ chosen) (choices n terms)) (choices (suc n) terms)
    (each (HasFew m) (HasFew (suc m)) (λ chosen. term ∷ chosen) (choices n terms) (λ chosen few. omega (arith, few)) (chosen_few n m terms (omega (arith, more))))
    (chosen_few (suc n) (suc m) terms more)

-- each sum of one, two or three terms is small
pub sums_small : (terms : List Term) → All IsSmallSum (sums terms)
sums_small terms =
    gathered (HasFew 3) IsSmallSum first_added (choices 1 terms ++ (choices 2 terms ++ choices 3 terms)) first_small
    (All-append (HasFew 3) (choices 1 terms) (choices 2 terms ++ choices 3 terms) (chosen_few 1 3 terms (omega arith))
    (All-append (HasFew 3) (choices 2 terms) (choices 3 terms) (chosen_few 2 3 terms (omega arith)) (chosen_few 3 3 terms (omega arith))))

-- sums of one term, then of two and of three
pub all_gathered : (terms : List Term) (ones twos all : List (List Part)) → ones ≡ flat_map first_added (choices 1 terms)
    → twos ≡ ones ++ flat_map first_added (choices 2 terms) → all ≡ twos ++ flat_map first_added (choices 3 terms) → all ≡ sums terms
all_gathered terms ones twos all first second third =
    let c1 = choices 1 terms in
    let c2 = choices 2 terms in
    let c3 = choices 3 terms in
    third
    ∙ ap (λ (l : List (List Part)). l ++ flat_map first_added c3) (second ∙ ap (λ (l : List (List Part)). l ++ flat_map first_added c2) first)
    ∙ append_assoc (flat_map first_added c1) (flat_map first_added c2) (flat_map first_added c3)
    ∙ ap (λ (l : List (List Part)). flat_map first_added c1 ++ l) (sym (flat_map-append first_added c2 c3))
    ∙ sym (flat_map-append first_added c1 (c2 ++ c3))
