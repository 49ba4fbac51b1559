-- The rows of a sum are over it and over its negative.
use Rattle.std.proofs.Common.{Bool, true, false, cond, List, [], ◌∷◌, Option, None, Some, ℤ, neg_ℤ}
use Rattle.std.specs.List.{All, list_all}
use Rattle.std.proofs.lemmas.List.Elements.{All-nil, All-cons, All-append}
use Rattle.bst_meaning.specs.declared.condition.Cond.{Cond}
use Rattle.lin_facts.specs.declared.row.Part.{Part}
use Rattle.lin_facts.specs.declared.row.Row.{Row}
use Rattle.sym_state.specs.State.{State}
use Rattle.loop_templates.specs.Rows.{at_least_of, both_claims, claim, exact_claims, floor_in, is_exactly, least_floor, negated, rows_of_sum}

-- a row over a sum with a property
abbrev pub HasSum : (List Part → Type 0) → Row → Type 0
HasSum P row = P row.parts

claim_sum : (P : List Part → Type 0) (sum : List Part) (found : Option ℤ) → P sum → All (HasSum P) (claim sum found)
claim_sum P sum (Some c) h = All-cons (HasSum P) _ [] h (All-nil (HasSum P))
claim_sum P sum None h = All-nil (HasSum P)

exact_sums : (P : List Part → Type 0) (admits : Cond) (states : List State) (sum : List Part) (found : Option ℤ) → P sum → P (negated sum)
    → All (HasSum P) (exact_claims admits states sum found)
exact_sums P admits states sum (Some c) h n =
    elim (list_all (is_exactly admits sum c) states) as (λ (b : Bool). All (HasSum P) (cond b (both_claims sum c) [])) [
      | true ↦ All-cons (HasSum P) (at_least_of sum c) (at_least_of (negated sum) (neg_ℤ c) ∷ []) h
          (All-cons (HasSum P) (at_least_of (negated sum) (neg_ℤ c)) [] n (All-nil (HasSum P)))
      | false ↦ All-nil (HasSum P)
    ]
exact_sums P admits states sum None h n = All-nil (HasSum P)

-- each row that a sum gives is over it or over its negative
pub rows_sums : (P : List Part → Type 0) (admits : Cond) (states : List State) (sum : List Part) → P sum → P (negated sum)
    → All (HasSum P) (rows_of_sum admits states sum)
rows_sums P admits states [] h n = All-nil (HasSum P)
rows_sums P admits states (part ∷ []) h n =
    let sum : List Part = part ∷ [] in
    All-append (HasSum P) (claim sum (least_floor admits sum states)) (claim (negated sum) (least_floor admits (negated sum) states))
    (claim_sum P sum (least_floor admits sum states) h)
    (claim_sum P (negated sum) (least_floor admits (negated sum) states) n)
rows_sums P admits [] (first ∷ (second ∷ parts)) h n = All-nil (HasSum P)
rows_sums P admits (state ∷ states) (first ∷ (second ∷ parts)) h n =
    let sum : List Part = first ∷ (second ∷ parts) in
    exact_sums P admits (state ∷ states) sum (floor_in admits state sum) h n
