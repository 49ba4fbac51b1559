-- Parts that are placed in the order of terms, one after the other.
use Rattle.std.proofs.Common.{◌≡◌, ℕ, ◌+◌, ◌-◌, ◌<◌, ◌≤◌, Bool, false, cond, List, [], ◌∷◌, ◌++◌, length, map, fold, get_or, take, drop, ap, sym, ◌∙◌, arith, append_assoc}
use Rattle.std.proofs.Math.Seq.{take-length}
use Rattle.std.proofs.lemmas.Int.{ints}
use Rattle.std.proofs.lemmas.List.{drop_all}
use Rattle.std.proofs.lemmas.List.Elements.{All-nil, All-cons, All-head, All-tail}
use Rattle.lin_facts.specs.Rows.{IsWithin, same_term}
use Rattle.lin_facts.specs.declared.row.Part.{Part}
use Rattle.cert_format.specs.PieceItems.{is_before}
use Rattle.loop_templates.specs.Rows.{summed, with_part}
use Rattle.loop_templates.proofs.SmallSums.{AreWithin, renamed}
use Rattle.loop_templates.proofs.Wanted.{next_at}

rest_is : {X : Type 0} (x : X) (xs : List X) → take (length (x ∷ xs) - 1) xs ≡ xs
rest_is x xs = let many : length (x ∷ xs) - 1 ≡ length xs = omega arith in ap (λ n. take n xs) many ∙ take-length xs

-- a part that stands neither before the first of those that are left nor at its place stands behind it
pub placed_behind : (part d : Part) (left old new all : List Part) → 1 ≤ length left
    → is_before part.term (get_or left 0 d).term ≡ false → same_term part.term (get_or left 0 d).term ≡ false
    → new ≡ old ++ (get_or left 0 d ∷ []) → old ++ with_part part left ≡ all
    → new ++ with_part part (take (length left - 1) (drop 1 left)) ≡ all
placed_behind part d [] old new all more later other added before = absurd (omega (arith, more))
placed_behind part d (first ∷ left) old new all more later other added before =
    let behind : with_part part (first ∷ left) ≡ first ∷ with_part part left =
    ap (λ (b : Bool). cond b (part ∷ (first ∷ left)) (cond (same_term part.term first.term) (summed part first ++ left) (first ∷ with_part part left))) later
    ∙ ap (λ (b : Bool). cond b (summed part first ++ left) (first ∷ with_part part left)) other in
    ap (λ (parts : List Part). parts ++ with_part part (take (length (first ∷ left) - 1) left)) added
    ∙ append_assoc old (first ∷ []) (with_part part (take (length (first ∷ left) - 1) left))
    ∙ ap (λ (parts : List Part). old ++ (first ∷ with_part part parts)) (rest_is first left)
    ∙ ap (λ (parts : List Part). old ++ parts) (sym behind)
    ∙ before

-- the parts so far with one more and those that are left
pub placed_next : (name : ℕ → ℕ) (k : ℕ) (xs : List Part) (d : Part) (old new all : List Part)
    → k < length xs → new ≡ with_part (renamed name (get_or xs k d)) old
    → fold (λ parts part. with_part part parts) old (map (renamed name) (drop k xs)) ≡ all
    → fold (λ parts part. with_part part parts) new (map (renamed name) (drop (k + 1) xs)) ≡ all
placed_next name k xs d old new all more added before =
    ap (λ (parts : List Part). fold (λ parts part. with_part part parts) parts (map (renamed name) (drop (k + 1) xs))) added
    ∙ sym (ap (λ (left : List Part). fold (λ parts part. with_part part parts) old (map (renamed name) left)) (next_at xs k d more))
    ∙ before

-- where none is left, those so far are all
pub placed_all : (name : ℕ → ℕ) (k : ℕ) (xs old all : List Part) → length xs ≤ k
    → fold (λ parts part. with_part part parts) old (map (renamed name) (drop k xs)) ≡ all → old ≡ all
placed_all name k xs old all done before =
    sym (ap (λ (left : List Part). fold (λ parts part. with_part part parts) old (map (renamed name) left)) (drop_all k xs done)) ∙ before

-- what is within a size is within a greater one
pub all_within : (m n : ℕ) (parts : List Part) → m ≤ n → AreWithin m parts → AreWithin n parts
all_within m n [] more h = All-nil (λ part. IsWithin n part.coefficient)
all_within m n (part ∷ parts) more h =
    let here = All-head (λ (p : Part). IsWithin m p.coefficient) part parts h in
    All-cons (λ p. IsWithin n p.coefficient) part parts
    (record { low = omega (arith, ints, here.low, more); high = omega (arith, ints, here.high, more) })
    (all_within m n parts more (All-tail (λ (p : Part). IsWithin m p.coefficient) part parts h))
