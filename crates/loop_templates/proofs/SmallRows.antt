-- The rows of a small sum are over small sums.
use Rattle.std.proofs.Common.{true, false, cond, List, [], ◌∷◌, Option, None, Some, ℤ}
use Rattle.std.specs.Prelude.{neg_ℤ}
use Rattle.std.specs.List.{All, list_all}
use Rattle.std.proofs.lemmas.List.Elements.{All-nil, All-cons, All-append}
use Rattle.bst_meaning.specs.declared.condition.Cond.{Cond}
use Rattle.lin_facts.specs.declared.row.Part.{Part}
use Rattle.lin_facts.specs.declared.row.Row.{Row}
use Rattle.sym_state.specs.State.{State}
use Rattle.loop_templates.specs.Rows.{at_least_of, both_claims, claim, exact_claims, floor_in, is_exactly, least_floor, negated, rows_of_sum}
use Rattle.loop_templates.specs.Sums.{IsSmallSum}
use Rattle.loop_templates.proofs.SmallSums.{negated_small}

-- a row over a small sum
abbrev pub HasSmallSum : Row → Type 0
HasSmallSum row = IsSmallSum row.parts

claim_small : (sum : List Part) (found : Option ℤ) → IsSmallSum sum → All HasSmallSum (claim sum found)
claim_small sum (Some c) h = All-cons HasSmallSum (at_least_of sum c) [] h (All-nil HasSmallSum)
claim_small sum None h = All-nil HasSmallSum

both_small : (sum : List Part) (c : ℤ) → IsSmallSum sum → All HasSmallSum (both_claims sum c)
both_small sum c h =
    let below = at_least_of (negated sum) (neg_ℤ c) in
    All-cons HasSmallSum (at_least_of sum c) (below ∷ []) h (All-cons HasSmallSum below [] (negated_small sum h) (All-nil HasSmallSum))

exact_small : (admits : Cond) (states : List State) (sum : List Part) (found : Option ℤ) → IsSmallSum sum
    → All HasSmallSum (exact_claims admits states sum found)
exact_small admits states sum (Some c) h =
    elim (list_all (is_exactly admits sum c) states) as (λ b. All HasSmallSum (cond b (both_claims sum c) [])) [
      | true ↦ both_small sum c h
      | false ↦ All-nil HasSmallSum
    ]
exact_small admits states sum None h = All-nil HasSmallSum

-- each row that a small sum gives is over a small sum
pub rows_small : (admits : Cond) (states : List State) (sum : List Part) → IsSmallSum sum → All HasSmallSum (rows_of_sum admits states sum)
rows_small admits states [] h = All-nil HasSmallSum
rows_small admits states (part ∷ []) h =
    let sum : List Part = part ∷ [] in
    All-append HasSmallSum (claim sum (least_floor admits sum states)) (claim (negated sum) (least_floor admits (negated sum) states))
    (claim_small sum (least_floor admits sum states) h)
    (claim_small (negated sum) (least_floor admits (negated sum) states) (negated_small sum h))
rows_small admits [] (first ∷ (second ∷ parts)) h = All-nil HasSmallSum
rows_small admits (state ∷ states) (first ∷ (second ∷ parts)) h =
    let sum : List Part = first ∷ (second ∷ parts) in
    exact_small admits (state ∷ states) sum (floor_in admits state sum) h
