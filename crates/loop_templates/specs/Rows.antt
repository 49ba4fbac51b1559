-- The rows that a list of states has in common (docs/ANALYSER.md, "Loops"): how low each sum and its negative come in them.
use Rattle.std.specs.Prelude.{ℕ, Bool, true, false, ◌&&◌, not, if◌then◌else◌, List, [], ◌∷◌, ◌++◌, length, map, take, flat_map, ℤ, pos, neg_ℤ, ◌+ℤ◌, int_lt, Option, None, Some, is_some}
use Rattle.std.specs.List.{filter, fold, list_all, list_any, filter_map}
use Rattle.std.specs.Option.{option_and_then, option_map, option_map_or, option_or}
use Rattle.std.specs.Ordering.{int_eq}
use Rattle.std.specs.Cmp.Lexicographic.{pointwise}
use Rattle.lin_facts.specs.Rows.{same_term}
use Rattle.lin_facts.specs.declared.row.Part.{Part}
use Rattle.lin_facts.specs.declared.row.Row.{Row}
use Rattle.lin_facts.specs.declared.row.Term.{Term}
use Rattle.lin_facts.specs.declared.row.Term.TheVariants.{Pos}
use Rattle.name_table.specs.declared.names.NameId.{NameId}
use Rattle.name_table.specs.declared.style.Style.{Style}
use Rattle.bst_meaning.specs.declared.condition.Cond.{Cond}
use Rattle.cert_format.specs.CertText.{is_within}
use Rattle.cert_format.specs.PieceItems.{is_before, is_zero}
use Rattle.cert_format.specs.declared.limits.TheConstants.{MOST_ITEMS}
use Rattle.cert_format.specs.declared.piece_items.TheConstants.{ROW_SIZE}
use Rattle.sym_state.specs.Changes.{bound, symbol_at}
use Rattle.sym_state.specs.References.{row_said}
use Rattle.sym_state.specs.Renaming.{row_renamed, term_renamed}
use Rattle.sym_state.specs.Starting.{started}
use Rattle.sym_state.specs.State.{State}
use Rattle.sym_state.specs.declared.piece.Piece.{Piece}
use Rattle.sym_state.specs.declared.symbol.Sym.{Sym}
use Rattle.straight_proofs.specs.Floors.{floor}
use Rattle.straight_proofs.specs.Lookup.{on_term}
use Rattle.straight_proofs.specs.Remainders.{turned}

-- a row of a sum
abbrev pub row_of_parts : List Part → Row
row_of_parts sum = record { constant = pos 0; parts = sum }

-- the symbol that a state binds to the name of a number
abbrev pub symbol_in : State → ℕ → ℕ
symbol_in state id = option_map_or (λ s. s.0) (bound (record { 0 = id }) state) 0

-- the symbol that a piece binds to it
abbrev pub symbol_of : Piece → ℕ → ℕ
symbol_of piece id =
    let name : NameId = record { 0 = id } in
    option_map_or (λ s. s.0) (option_or (symbol_at name piece.vars) (symbol_at name piece.fields)) 0

-- the number of visited entries
abbrev pub is_pos : Term → Bool
is_pos Pos = true
is_pos _ = false

-- a sum with that number left out
abbrev pub without_pos : List Part → List Part
without_pos sum = filter (λ part. not (is_pos part.term)) sum

-- what a sum is in a state: at no entry none was visited yet
abbrev pub seen_in : State → List Part → List Part
seen_in state sum = if state.at_entry then sum else without_pos sum

-- the floor of a sum over names in a state
abbrev pub floor_in : Cond → State → List Part → Option ℤ
floor_in admits state sum = floor admits state (row_renamed (symbol_in state) (row_of_parts (seen_in state sum)))

-- the lesser of two numbers
abbrev pub lesser : ℤ → ℤ → ℤ
lesser m n = if int_lt n m then n else m

-- the least floor of a sum over states, where it has one in each
abbrev pub least_floor : Cond → List Part → List State → Option ℤ
least_floor admits sum [] = None
least_floor admits sum (state ∷ []) = floor_in admits state sum
least_floor admits sum (state ∷ states) =
    option_and_then (λ c. option_map (lesser c) (least_floor admits sum states)) (floor_in admits state sum)

-- a sum with each sign turned
abbrev pub negated : List Part → List Part
negated sum = map turned sum

-- a number is the floor of a sum in a state
abbrev pub is_floor : Cond → List Part → ℤ → State → Bool
is_floor admits sum c state = option_map_or (int_eq c) (floor_in admits state sum) false

-- a sum is exactly this number in a state: its floor is, and the floor of its negative is the negative
abbrev pub is_exactly : Cond → List Part → ℤ → State → Bool
is_exactly admits sum c state = is_floor admits sum c state && is_floor admits (negated sum) (neg_ℤ c) state

-- the claim that a sum is at least a number
abbrev pub at_least_of : List Part → ℤ → Row
at_least_of sum c = record { constant = neg_ℤ c; parts = sum }

-- the claim for a floor that is there
abbrev pub claim : List Part → Option ℤ → List Row
claim sum (Some c) = at_least_of sum c ∷ []
claim sum None = []

-- both claims for a number that a sum exactly is
abbrev pub both_claims : List Part → ℤ → List Row
both_claims sum c = at_least_of sum c ∷ (at_least_of (negated sum) (neg_ℤ c) ∷ [])

-- those for a longer sum, by its floor in the first of the states
abbrev pub exact_claims : Cond → List State → List Part → Option ℤ → List Row
exact_claims admits states sum (Some c) = if list_all (is_exactly admits sum c) states then both_claims sum c else []
exact_claims admits states sum None = []

-- what a longer sum is exactly in all states of a list
abbrev pub exact_rows : Cond → List State → List Part → List Row
exact_rows admits [] sum = []
exact_rows admits (state ∷ states) sum = exact_claims admits (state ∷ states) sum (floor_in admits state sum)

-- the rows that a sum gives for a list of states: one term what it is at least and at most in all of them, a longer sum what it is
-- exactly in all of them
abbrev pub rows_of_sum : Cond → List State → List Part → List Row
rows_of_sum admits states [] = []
rows_of_sum admits states (part ∷ []) =
    let sum : List Part = part ∷ [] in
    claim sum (least_floor admits sum states) ++ claim (negated sum) (least_floor admits (negated sum) states)
rows_of_sum admits states (first ∷ (second ∷ parts)) = exact_rows admits states (first ∷ (second ∷ parts))

-- two parts of one term, unless their coefficients come to 0
abbrev pub summed : Part → Part → List Part
summed part first =
    let sum = part.coefficient +ℤ first.coefficient in if is_zero sum then [] else record { coefficient = sum; term = first.term } ∷ []

-- a part among parts in the order of terms: one term stands once, and not where its coefficients come to 0
abbrev pub with_part : Part → List Part → List Part
with_part part [] = part ∷ []
with_part part (first ∷ parts) =
    if is_before part.term first.term then part ∷ (first ∷ parts)
    else if same_term part.term first.term then summed part first ++ parts
    else first ∷ with_part part parts

-- a row with its parts in the order of terms
abbrev pub in_order : Row → Row
in_order row = record row { parts = fold (λ parts part. with_part part parts) [] row.parts }

-- a part over a name as a piece has it
abbrev pub part_in_piece : Piece → Part → Part
part_in_piece piece part = record { coefficient = part.coefficient; term = term_renamed (symbol_of piece) part.term }

-- a row over names as a piece has it
abbrev pub row_in_piece : Piece → Row → Row
row_in_piece piece row = in_order (row_renamed (symbol_of piece) row)

-- two parts are one
abbrev pub same_part : Part → Part → Bool
same_part a b = int_eq a.coefficient b.coefficient && same_term a.term b.term

-- two rows are one
abbrev pub same_row : Row → Row → Bool
same_row a b = int_eq a.constant b.constant && pointwise same_part a.parts b.parts

-- the rows that references say of a row's first term in a state
abbrev pub said_of_first : Cond → State → List Part → List Row
said_of_first admits state [] = []
said_of_first admits state (part ∷ parts) = filter_map (row_said admits state) (on_term part.term)

-- a reference in a state says a row: one to a row of the state, or one that says something of its first term
abbrev pub is_said : Cond → State → Row → Bool
is_said admits state row = list_any (same_row row) (state.rows ++ said_of_first admits state row.parts)

-- a row may stand in a piece: its constant is within the limit, and no reference in the state that starts without it says it
abbrev pub is_wanted : Cond → State → Row → Bool
is_wanted admits start row = is_within ROW_SIZE ROW_SIZE row.constant && not (is_said admits start row)

-- the rows of a list of states, by the sums in their order: the first of them that may stand in a piece which starts a state without them
abbrev pub gathered : Cond → State → Piece → List (List Part) → List State → List Row
gathered admits start piece sums states =
    take MOST_ITEMS (filter (is_wanted admits start) (flat_map (λ sum. map (row_in_piece piece) (rows_of_sum admits states sum)) sums))

-- those for a piece that has none yet
abbrev pub rows_over : Style → Cond → Bool → Bool → List (List Part) → List State → Piece → List Row
rows_over style admits whole at_entry sums states piece =
    gathered admits (started style admits (piece ∷ []) whole at_entry) piece sums states
