-- The rows that references can name, and all references, one after the other.
use Rattle.std.proofs.Common.{◌≡◌, ℕ, zero, suc, ◌+◌, ◌≤◌, ◌^◌, List, [], ◌∷◌, ◌++◌, length, take, map, slice_get, Option, ap, sym, ◌∙◌, refl, subst, arith, append_assoc}
use Rattle.std.proofs.lemmas.List.{length-take}
use Rattle.std.proofs.lemmas.List.Elements.{All-nil, All-cons, All-head, All-tail}
use Rattle.std.proofs.lemmas.List.FromFn.{map-range_with_len_more}
use Rattle.std.specs.List.{All, flat_map, range_with_len}
use Rattle.std.specs.Option.{option_to_list}
use Rattle.lin_facts.specs.Rows.{IsSmall}
use Rattle.lin_facts.specs.declared.row.Row.{Row}
use Rattle.sym_state.specs.WellMade.{IsBounded}
use Rattle.sym_state.proofs.Bounds.{small_row}
use Rattle.sym_state.specs.declared.proof.Reference.{Reference}
use Rattle.sym_state.specs.declared.proof.Reference.TheVariants as ref
use Rattle.sym_state.specs.State.{State}
use Rattle.straight_proofs.specs.declared.lookup.Kind.{Kind}
use Rattle.straight_proofs.specs.declared.lookup.Kind.TheVariants as kind
use Rattle.straight_proofs.specs.Lookup.{each_below, rows_in_reach}
use Rattle.straight_proofs.specs.Straight.{kinds, on_entries, on_symbols, references, rows_named}

row_more : (k : ℕ) (rows : List Row) → take (suc k) rows ≡ take k rows ++ option_to_list (slice_get rows k)
row_more zero [] = refl
row_more (suc k) [] = refl
row_more zero (row ∷ rows) = refl
row_more (suc k) (row ∷ rows) = ap (λ (more : List Row). row ∷ more) (row_more k rows)

front_small : (n : ℕ) (rows : List Row) → All IsBounded rows → All IsSmall (take n rows)
front_small zero rows h = All-nil IsSmall
front_small (suc n) [] h = All-nil IsSmall
front_small (suc n) (row ∷ rows) h =
    All-cons IsSmall row (take n rows) (small_row row (All-head IsBounded row rows h)) (front_small n rows (All-tail IsBounded row rows h))

-- one row more of those in reach
pub row_added : (k : ℕ) (rows old new : List Row) (row : Option Row)
    → old ≡ take k rows → row ≡ slice_get rows k → new ≡ old ++ option_to_list row → new ≡ take (k + 1) rows
row_added k rows old new row e f g =
    let next : suc k ≡ k + 1 = omega arith in
    g ∙ ap (λ (front : List Row). front ++ option_to_list row) e ∙ ap (λ (one : Option Row). take k rows ++ option_to_list one) f ∙ sym (row_more k rows)
    ∙ ap (λ (n : ℕ). take n rows) next

-- the rows in reach are within their bounds, and can be named
pub reach_small : (state : State) (rows : List Row) → All IsBounded state.rows → rows ≡ rows_in_reach state → All IsSmall rows
reach_small state rows h e = subst (λ (all : List Row). All IsSmall all) (sym e) (front_small (rows_named state) state.rows h)

pub reach_few : (state : State) (rows : List Row) → rows ≡ rows_in_reach state → length rows ≤ 2 ^ 32
reach_few state rows e = omega (arith, ap length e, length-take (rows_named state) state.rows)

-- one number more behind others
pub number_added : (made : ℕ → Reference) (k : ℕ) (initial old new : List Reference)
    → old ≡ initial ++ map made (range_with_len 0 k) → new ≡ old ++ made k ∷ []
    → new ≡ initial ++ map made (range_with_len 0 (k + 1))
number_added made k initial old new e f =
    f ∙ ap (λ (front : List Reference). front ++ made k ∷ []) e
    ∙ append_assoc initial (map made (range_with_len 0 k)) (made k ∷ [])
    ∙ ap (λ (more : List Reference). initial ++ more) (sym (map-range_with_len_more made 0 k k (omega arith)))

-- the kinds of references to symbols
abbrev pub all_kinds : List Kind
all_kinds =
    kind.ValueLow ∷ kind.ValueHigh ∷ kind.LengthLow ∷ kind.NamesLow ∷ kind.NamesHigh ∷ kind.ExactLow ∷ kind.ExactHigh
    ∷ kind.NonblankLength ∷ kind.NonblankNames ∷ kind.TextLow ∷ kind.TextHigh ∷ []

-- the rows, the references to symbols and those to none, one after the other
pub all_in_order : (state : State) (n m : ℕ) (a b c d : List Reference)
    → n ≡ rows_named state → m ≡ state.next → a ≡ [] → b ≡ a ++ map ref.Row (range_with_len 0 n)
    → c ≡ b ++ flat_map (each_below m) all_kinds
    → d ≡ c ++ on_entries → d ≡ references state
all_in_order state n m a b c d rows next none first second third =
    let on_all = flat_map (on_symbols state) kinds in
    third
    ∙ ap (λ (front : List Reference). front ++ on_entries) (second ∙ ap (λ (front : List Reference). front ++ flat_map (each_below m) all_kinds)
    (first ∙ ap (λ (front : List Reference). front ++ map ref.Row (range_with_len 0 n)) none))
    ∙ ap (λ (k : ℕ). (map ref.Row (range_with_len 0 n) ++ flat_map (each_below k) all_kinds) ++ on_entries) next
    ∙ ap (λ (k : ℕ). (map ref.Row (range_with_len 0 k) ++ on_all) ++ on_entries) rows
    ∙ append_assoc (map ref.Row (range_with_len 0 (rows_named state))) on_all on_entries
