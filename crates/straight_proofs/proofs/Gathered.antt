-- The greatest floor behind the rows that have a lead is that behind the references to it.
use Rattle.std.proofs.Common.{◌≡◌, ℕ, zero, suc, ◌+◌, ◌-◌, ◌<◌, Bool, true, false, cond, ◌&&◌, ◌||◌, List, [], ◌∷◌, ◌++◌, take, slice_get, Option, None, Some, ap, sym, ◌∙◌, refl, subst, arith}
use Rattle.std.specs.Prelude.{ℤ, pos, int_lt}
use Rattle.std.specs.List.{All, cons_option, filter, filter_map}
use Rattle.std.specs.Option.{option_and_then}
use Rattle.std.proofs.lemmas.Int.{ints}
use Rattle.std.proofs.lemmas.List.Elements.{All-append, All-filter, filter-append}
use Rattle.lin_facts.specs.Rows.{IsSmall, coefficient_of}
use Rattle.lin_facts.specs.declared.row.Row.{Row}
use Rattle.lin_facts.specs.declared.row.Term.{Term}
use Rattle.bst_meaning.specs.declared.condition.Cond.{Cond}
use Rattle.sym_state.specs.References.{row_said}
use Rattle.sym_state.specs.State.{State}
use Rattle.sym_state.specs.declared.proof.Reference.{Reference}
use Rattle.sym_state.specs.declared.proof.Reference.TheVariants as ref
use Rattle.straight_proofs.specs.Floors.{floor_within, greatest, greatest_behind}
use Rattle.straight_proofs.specs.Lookup.{has, on_term, references_to, rows_about, rows_in_reach, rows_on, rows_with}
use Rattle.straight_proofs.specs.Remainders.{fits, lead, left_of, minus, same_sign}
use Rattle.straight_proofs.specs.Remembered.{AreWith}
use Rattle.straight_proofs.specs.Straight.{rows_named}
use Rattle.straight_proofs.proofs.Floored.{floor_behind, found_behind, greatest_kept}

-- the floor behind a row, where a term leads
abbrev pub floor_over : ℕ → Cond → State → Row → Term → Row → Option ℤ
floor_over n c state remainder t row = option_and_then (floor_within n c state) (left_of (Some t) remainder row)

-- two numbers, of which the second doesn't have the sign of the first
unlike : (m n : ℤ) (above : Bool) → int_lt (pos 0) m ≡ above → cond above (int_lt (pos 0) n) (int_lt n (pos 0)) ≡ false → same_sign m n ≡ false
unlike m n true e f =
    ap (λ (b : Bool). (b && int_lt (pos 0) n) || (int_lt m (pos 0) && int_lt n (pos 0))) e
    ∙ ap (λ (b : Bool). b || (int_lt m (pos 0) && int_lt n (pos 0))) f
    ∙ ap (λ (b : Bool). b && int_lt n (pos 0)) (by (int_lt m (pos 0)) refl)
  where
    by : (b : Bool) → int_lt m (pos 0) ≡ b → b ≡ false
    by true g = absurd (omega (arith, ints))
    by false g = refl
unlike m n false e f =
    ap (λ (b : Bool). (b && int_lt (pos 0) n) || (int_lt m (pos 0) && int_lt n (pos 0))) e
    ∙ ap (λ (b : Bool). int_lt m (pos 0) && b) f
    ∙ elim (int_lt m (pos 0)) as (λ (b : Bool). (b && false) ≡ false) [ true ↦ refl | false ↦ refl ]

-- the rows of a state that have a term with a sign, and then those that references say
pub all_with : (c : Cond) (state : State) (above : Bool) (t : Term) (none first all reach said : List Row)
    → none ≡ [] → reach ≡ rows_in_reach state → said ≡ filter_map (row_said c state) (on_term t) → All IsSmall reach → All IsSmall said
    → first ≡ none ++ filter (has above t) reach → all ≡ first ++ filter (has above t) said → AreWith c state above t all
all_with c state above t none first all reach said nothing rows others small_rows small_others one two =
    let is : all ≡ filter (has above t) (reach ++ said) =
    two ∙ ap (λ (front : List Row). front ++ filter (has above t) said) (one ∙ ap (λ (front : List Row). front ++ filter (has above t) reach) nothing)
    ∙ sym (filter-append (has above t) reach said) in
    record {
      are = is ∙ ap (λ (front : List Row). filter (has above t) (front ++ said)) rows
          ∙ ap (λ (rest : List Row). filter (has above t) (rows_in_reach state ++ rest)) others;
      small = subst (λ (rows : List Row). All IsSmall rows) (sym is)
          (All-filter (has above t) IsSmall (reach ++ said) (All-append IsSmall reach said small_rows small_others));
    }

-- nothing is left of a remainder where a row doesn't have the lead with its sign
none_over : (n : ℕ) (c : Cond) (state : State) (remainder : Row) (t : Term) (row : Row)
    → fits (Some t) remainder row ≡ false → floor_over n c state remainder t row ≡ None
none_over n c state remainder t row e =
    ap (λ (b : Bool). option_and_then (floor_within n c state) (cond b (Some (minus remainder row)) None)) e

-- what references say of a lead is subtracted, reference by reference
by_said : (n : ℕ) (c : Cond) (state : State) (remainder : Row) (t : Term) (all : List Reference)
    → greatest_behind (floor_behind n c state remainder t) all ≡ greatest_behind (floor_over n c state remainder t) (filter_map (row_said c state) all)
by_said n c state remainder t [] = refl
by_said n c state remainder t (r ∷ all) = by (row_said c state r) (by_said n c state remainder t all)
  where
    over : Row → Option ℤ
    over = floor_over n c state remainder t

    by : (said : Option Row) → greatest_behind (floor_behind n c state remainder t) all ≡ greatest_behind over (filter_map (row_said c state) all)
        → greatest (option_and_then (floor_within n c state) (option_and_then (λ row. cond (fits (Some t) remainder row) (Some (minus remainder row)) None) said))
        (greatest_behind (floor_behind n c state remainder t) all)
        ≡ greatest_behind over (cons_option said (filter_map (row_said c state) all))
    by None e = e
    by (Some row) e = ap (greatest (over row)) e

-- the rows of a state, one by one
by_rows : (n : ℕ) (c : Cond) (state : State) (remainder : Row) (t : Term) (rest : List Reference) (others : List Row) (rows : List Row) (k m : ℕ)
    → ((j : ℕ) → slice_get state.rows (k + j) ≡ slice_get rows j)
    → greatest_behind (floor_behind n c state remainder t) rest ≡ greatest_behind (floor_over n c state remainder t) others
    → greatest_behind (floor_behind n c state remainder t) (rows_on t remainder k (take m rows) ++ rest)
    ≡ greatest_behind (floor_over n c state remainder t) (take m rows ++ others)
by_rows n c state remainder t rest others [] k zero h e = e
by_rows n c state remainder t rest others [] k (suc m) h e = e
by_rows n c state remainder t rest others (row ∷ rows) k zero h e = e
by_rows n c state remainder t rest others (row ∷ rows) k (suc m) h e =
    by (fits (Some t) remainder row) refl (by_rows n c state remainder t rest others rows (suc k) m later e)
  where
    behind : Reference → Option ℤ
    behind = floor_behind n c state remainder t

    over : Row → Option ℤ
    over = floor_over n c state remainder t

    here : slice_get state.rows k ≡ Some row
    here = ap (slice_get state.rows) (omega arith) ∙ h 0

    later : (j : ℕ) → slice_get state.rows (suc k + j) ≡ slice_get rows j
    later j = ap (slice_get state.rows) (omega arith) ∙ h (suc j)

    same : behind (ref.Row k) ≡ over row
    same = ap (λ (said : Option Row). option_and_then (floor_within n c state)
        (option_and_then (λ row. cond (fits (Some t) remainder row) (Some (minus remainder row)) None) said)) here

    by : (b : Bool) → fits (Some t) remainder row ≡ b
        → greatest_behind behind (rows_on t remainder (suc k) (take m rows) ++ rest) ≡ greatest_behind over (take m rows ++ others)
        → greatest_behind behind ((cond b (ref.Row k ∷ []) [] ++ rows_on t remainder (suc k) (take m rows)) ++ rest)
        ≡ greatest (over row) (greatest_behind over (take m rows ++ others))
    by true f g =
        ap (λ (first : Option ℤ). greatest first (greatest_behind behind (rows_on t remainder (suc k) (take m rows) ++ rest))) same
        ∙ ap (greatest (over row)) g
    by false f g =
        g ∙ ap (λ (first : Option ℤ). greatest first (greatest_behind over (take m rows ++ others))) (sym (none_over n c state remainder t row f))

-- so the greatest floor behind those that have the lead with its sign is the floor
pub found_over : (most : ℕ) (c : Cond) (state : State) (remainder : Row) (t : Term) (above : Bool) (rows : List Row) (floor : Option ℤ)
    → 0 < most → lead remainder ≡ Some t → int_lt (pos 0) (coefficient_of remainder.parts t) ≡ above → rows ≡ rows_with c state above t
    → floor ≡ greatest_behind (floor_over (most - 1) c state remainder t) rows → floor ≡ floor_within most c state remainder
found_over most c state remainder t above rows floor h e sign are is =
    let over = floor_over (most - 1) c state remainder t in
    let none : (row : Row) → has above t row ≡ false → over row ≡ None =
    λ row f. none_over (most - 1) c state remainder t row (unlike (coefficient_of remainder.parts t) (coefficient_of row.parts t) above sign f) in
    found_behind most c state remainder t (references_to state remainder t) floor h e refl
    (is
    ∙ ap (greatest_behind over) are
    ∙ sym (greatest_kept (has above t) over none (rows_about c state t))
    ∙ sym (by_rows (most - 1) c state remainder t (on_term t) (filter_map (row_said c state) (on_term t)) state.rows 0 (rows_named state)
    (λ j. ap (slice_get state.rows) (omega arith)) (by_said (most - 1) c state remainder t (on_term t))))
