-- Rows of cases as certificates have them: their terms stand in their order, each has a place, and none is taken 0 times.
use Rattle.std.proofs.Common.{◌≡◌, ℕ, zero, suc, ◌+◌, ◌<◌, ◌≤◌, Bool, true, false, ◌&&◌, ◌||◌, not, cond, nat_eq, nat_lt, ap, ◌∙◌, refl, arith, List, [], ◌∷◌, ◌++◌, map, Option, Some, None, ℤ, ◌+ℤ◌, pos, negsuc, neg_ℤ}
use Rattle.std.specs.Prelude.{IfSome, is_some}
use Rattle.std.specs.List.{All, filter, flat_map, fold, list_any}
use Rattle.std.specs.Option.{option_map_or, option_or}
use Rattle.std.specs.Cmp.Derive.{both_true}
use Rattle.std.proofs.lemmas.Bool.{and_parts}
use Rattle.std.proofs.lemmas.Bool.Decides.{nat_tests}
use Rattle.std.proofs.lemmas.List.Elements.{All-nil, All-cons, All-head, All-tail, All-take}
use Rattle.lin_facts.specs.Rows.{IsWithin, same_term}
use Rattle.lin_facts.specs.declared.row.Part.{Part}
use Rattle.lin_facts.specs.declared.row.Row.{Row}
use Rattle.lin_facts.specs.declared.row.Term.{Term}
use Rattle.lin_facts.specs.declared.row.Term.TheVariants.{Value, Length, Names, Pos, Count}
use Rattle.name_table.specs.Names.{kind_at}
use Rattle.name_table.specs.Sound.{Each}
use Rattle.name_table.specs.declared.names.Kind.{Kind}
use Rattle.name_table.specs.declared.names.NameId.{NameId}
use Rattle.name_table.specs.declared.style.Style.{Style}
use Rattle.bst_meaning.specs.declared.condition.Cond.{Cond}
use Rattle.cert_format.specs.CertText.{IsPart, IsRow, IsTerm, is_within}
use Rattle.cert_format.specs.CondText.{is_chain}
use Rattle.cert_format.specs.PieceItems.{is_before, is_zero, term_rank, term_symbol}
use Rattle.cert_format.specs.declared.limits.TheConstants.{MOST_ITEMS}
use Rattle.cert_format.specs.declared.piece_items.TheConstants.{ROW_SIZE}
use Rattle.sym_state.proofs.Sums.{size_within}
use Rattle.sym_state.specs.Changes.{symbol_at}
use Rattle.sym_state.specs.Renaming.{term_renamed}
use Rattle.sym_state.specs.Starting.{started}
use Rattle.sym_state.specs.State.{State}
use Rattle.sym_state.specs.WellMade.{ids_from, size}
use Rattle.sym_state.specs.declared.piece.Piece.{Piece}
use Rattle.sym_state.specs.declared.symbol.Bind.{Bind}
use Rattle.sym_state.specs.declared.symbol.Sym.{Sym}
use Rattle.straight_proofs.specs.Remainders.{turned}
use Rattle.loop_templates.specs.Bound.{is_bound, is_bound_field, is_bound_variable}
use Rattle.loop_templates.specs.Cases.{IsSumOver, IsTermOver, has_value}
use Rattle.loop_templates.specs.declared.cases.Bound.{Bound}
use Rattle.loop_templates.specs.Rows.{is_said, is_wanted, row_in_piece, rows_of_sum, rows_over, summed, symbol_of, with_part}
use Rattle.loop_templates.specs.Sums.{IsSmallSum}
use Rattle.loop_templates.proofs.Rowed.{kept_hold, parts_few, rows_hold}
use Rattle.loop_templates.proofs.Seated.{names_of}
use Rattle.loop_templates.proofs.SmallSums.{AreWithin, negated_small, renamed}
use Rattle.loop_templates.proofs.Summed.{HasSum, rows_sums}

-- the order of terms goes on
less_trans : (a b c x y z : ℕ) → (nat_lt a b || (nat_eq a b && nat_lt x y)) ≡ true → (nat_lt b c || (nat_eq b c && nat_lt y z)) ≡ true
    → (nat_lt a c || (nat_eq a c && nat_lt x z)) ≡ true
less_trans a b c x y z e f = grind (arith, nat_tests)

before_trans : (a b c : Term) → is_before a b ≡ true → is_before b c ≡ true → is_before a c ≡ true
before_trans a b c e f = less_trans (term_rank a) (term_rank b) (term_rank c) (term_symbol a) (term_symbol b) (term_symbol c) e f

symbols_differ : (m n : ℕ) → nat_lt m n ≡ false → nat_eq m n ≡ false → nat_lt n m ≡ true
symbols_differ m n e f = grind (arith, nat_tests)

-- one of two terms that aren't the same stands before the other
before_other : (a b : Term) → is_before a b ≡ false → same_term a b ≡ false → is_before b a ≡ true
before_other (Value m) (Value n) e f = symbols_differ m n e f
before_other (Value m) (Length n) e f = absurd (cc)
before_other (Value m) (Names n) e f = absurd (cc)
before_other (Value m) Pos e f = absurd (cc)
before_other (Value m) Count e f = absurd (cc)
before_other (Length m) (Value n) e f = refl
before_other (Length m) (Length n) e f = symbols_differ m n e f
before_other (Length m) (Names n) e f = absurd (cc)
before_other (Length m) Pos e f = absurd (cc)
before_other (Length m) Count e f = absurd (cc)
before_other (Names m) (Value n) e f = refl
before_other (Names m) (Length n) e f = refl
before_other (Names m) (Names n) e f = symbols_differ m n e f
before_other (Names m) Pos e f = absurd (cc)
before_other (Names m) Count e f = absurd (cc)
before_other Pos (Value n) e f = refl
before_other Pos (Length n) e f = refl
before_other Pos (Names n) e f = refl
before_other Pos Pos e f = absurd (cc)
before_other Pos Count e f = absurd (cc)
before_other Count (Value n) e f = refl
before_other Count (Length n) e f = refl
before_other Count (Names n) e f = refl
before_other Count Pos e f = refl
before_other Count Count e f = absurd (cc)

-- what holds of a part by its term alone holds of parts that are placed, where it holds of each
each_placed : (P : Term → Type 0) (part : Part) (parts : List Part) → P part.term → Each (λ p. P p.term) parts → Each (λ p. P p.term) (with_part part parts)
each_placed P part [] h each = (h, tt)
each_placed P part (first ∷ parts) h each =
    elim (is_before part.term first.term) as (λ (b : Bool). Each (λ p. P p.term)
    (cond b (part ∷ (first ∷ parts)) (cond (same_term part.term first.term) (summed part first ++ parts) (first ∷ with_part part parts)))) [
      | true ↦ (h, each)
      | false ↦ elim (same_term part.term first.term) as (λ (b : Bool). Each (λ p. P p.term) (cond b (summed part first ++ parts) (first ∷ with_part part parts))) [
        | true ↦ elim (is_zero (part.coefficient +ℤ first.coefficient)) as (λ (b : Bool). Each (λ p. P p.term)
            (cond b [] (record { coefficient = part.coefficient +ℤ first.coefficient; term = first.term } ∷ []) ++ parts)) [
              | true ↦ each.1
              | false ↦ each
            ]
        | false ↦ (each.0, each_placed P part parts h each.1)
      ]
    ]

-- no part is taken 0 times
abbrev pub IsTaken : Part → Type 0
IsTaken part = is_zero part.coefficient ≡ false

each_some : (part : Part) (parts : List Part) → IsTaken part → Each IsTaken parts → Each IsTaken (with_part part parts)
each_some part [] h each = (h, tt)
each_some part (first ∷ parts) h each =
    let sum : ℤ = part.coefficient +ℤ first.coefficient in
    elim (is_before part.term first.term) as (λ (b : Bool). Each IsTaken
    (cond b (part ∷ (first ∷ parts)) (cond (same_term part.term first.term) (summed part first ++ parts) (first ∷ with_part part parts)))) [
      | true ↦ (h, each)
      | false ↦ elim (same_term part.term first.term) as (λ (b : Bool). Each IsTaken (cond b (summed part first ++ parts) (first ∷ with_part part parts))) [
        | true ↦ elim (is_zero sum) as (λ (b : Bool). is_zero sum ≡ b → Each IsTaken (cond b [] (record { coefficient = sum; term = first.term } ∷ []) ++ parts)) [
          | true ↦ λ _. each.1
          | false ↦ λ some. (some, each.1)
        ] refl
        | false ↦ (each.0, each_some part parts h each.1)
      ]
    ]

-- each part stands before all behind it
abbrev pub AreInOrder : List Part → Type 0
AreInOrder [] = Unit {0}
AreInOrder (part ∷ parts) = Each (λ p. is_before part.term p.term ≡ true) parts × AreInOrder parts

all_behind : (a b : Term) (parts : List Part) → is_before a b ≡ true → Each (λ p. is_before b p.term ≡ true) parts → Each (λ p. is_before a p.term ≡ true) parts
all_behind a b [] e each = tt
all_behind a b (part ∷ parts) e each = (before_trans a b part.term e each.0, all_behind a b parts e each.1)

placed_in_order : (part : Part) (parts : List Part) → AreInOrder parts → AreInOrder (with_part part parts)
placed_in_order part [] order = (tt, tt)
placed_in_order part (first ∷ parts) order =
    let before = is_before part.term first.term in
    let same = same_term part.term first.term in
    elim before as (λ (b : Bool). is_before part.term first.term ≡ b
    → AreInOrder (cond b (part ∷ (first ∷ parts)) (cond same (summed part first ++ parts) (first ∷ with_part part parts)))) [
      | true ↦ λ here. ((here, all_behind part.term first.term parts here order.0), order)
      | false ↦ λ later. elim same as (λ (b : Bool). same_term part.term first.term ≡ b → AreInOrder (cond b (summed part first ++ parts) (first ∷ with_part part parts))) [
        | true ↦ λ _. elim (is_zero (part.coefficient +ℤ first.coefficient)) as (λ (b : Bool).
            AreInOrder (cond b [] (record { coefficient = part.coefficient +ℤ first.coefficient; term = first.term } ∷ []) ++ parts)) [
              | true ↦ order.1
              | false ↦ order
            ]
        | false ↦ λ other. (each_placed (λ (t : Term). is_before first.term t ≡ true) part parts (before_other part.term first.term later other) order.0, placed_in_order part parts order.1)
      ] refl
    ] refl

chained : (parts : List Part) → AreInOrder parts → is_chain (λ a b. is_before a.term b.term) parts ≡ true
chained [] order = refl
chained (first ∷ []) order = refl
chained (first ∷ (second ∷ parts)) order = both_true order.0.0 (chained (second ∷ parts) order.1)

-- parts that are placed one after the other
record AreFormed (P : Term → Type 0) (parts : List Part) : Type 0 where
  taken : Each IsTaken parts
  terms : Each (λ p. P p.term) parts
  order : AreInOrder parts

all_formed : (P : Term → Type 0) (old parts : List Part) → AreFormed P old → Each IsTaken parts → Each (λ p. P p.term) parts
    → AreFormed P (fold (λ parts part. with_part part parts) old parts)
all_formed P old [] formed taken terms = formed
all_formed P old (part ∷ parts) formed taken terms =
    all_formed P (with_part part old) parts
    (record {
      taken = each_some part old taken.0 formed.taken;
      terms = each_placed P part old terms.0 formed.terms;
      order = placed_in_order part old formed.order;
    }) taken.1 terms.1

-- a small coefficient is within the limit of rows
size_is_within : (n : ℤ) → size n ≤ ROW_SIZE → is_within ROW_SIZE ROW_SIZE n ≡ true
size_is_within (pos n) few = grind (arith, nat_tests)
size_is_within (negsuc n) few = grind (arith, nat_tests)

parts_are : (has_pos : Bool) (m : ℕ) (parts : List Part) → AreWithin 3 parts → Each IsTaken parts → Each (λ p. IsTerm has_pos m p.term) parts
    → Each (IsPart has_pos m) parts
parts_are has_pos m [] within taken terms = tt
parts_are has_pos m (part ∷ parts) within taken terms =
    let few = size_within 3 part.coefficient (All-head (λ (p : Part). IsWithin 3 p.coefficient) part parts within) in (
      record { small = size_is_within part.coefficient (omega (arith, few)); some = taken.0; term = terms.0 },
      parts_are has_pos m parts (All-tail (λ (p : Part). IsWithin 3 p.coefficient) part parts within) taken.1 terms.1,
    )

-- the symbol of a name that is bound
symbol_below : (m : ℕ) (name : NameId) (binds : List Bind) → All (λ bind. bind.sym.0 < m) binds → IfSome (symbol_at name binds) (λ s. s.0 < m)
symbol_below m name [] all = tt
symbol_below m name (bind ∷ binds) all =
    elim (nat_eq bind.name.0 name.0) as (λ (b : Bool). IfSome (cond b (Some bind.sym) (symbol_at name binds)) (λ s. s.0 < m)) [
      | true ↦ All-head (λ b. b.sym.0 < m) bind binds all
      | false ↦ symbol_below m name binds (All-tail (λ b. b.sym.0 < m) bind binds all)
    ]

-- a name is among others
abbrev pub is_in : NameId → List NameId → Bool
is_in name names = list_any (λ other. nat_eq other.0 name.0) names

symbol_there : (name : NameId) (binds : List Bind) → is_in name (names_of binds) ≡ true → is_some (symbol_at name binds) ≡ true
symbol_there name [] e = absurd (cc)
symbol_there name (bind ∷ binds) e =
    elim (nat_eq bind.name.0 name.0) as (λ (b : Bool). (b || is_in name (names_of binds)) ≡ true → is_some (cond b (Some bind.sym) (symbol_at name binds)) ≡ true) [
      | true ↦ λ _. refl
      | false ↦ λ rest. symbol_there name binds rest
    ] e

itself : (n : ℕ) → nat_eq n n ≡ true
itself n = grind (arith, nat_tests)

-- a name with a kind that passes is among those of its kind
id_in : (test : Kind → Bool) (at k : ℕ) (names : List (List ℕ × Kind)) (id : NameId) → id.0 ≡ at + k → option_map_or test (kind_at (record { 0 = k }) names) false ≡ true
    → is_in id (ids_from test at names) ≡ true
id_in test at k [] id is e = absurd (cc)
id_in test at zero (name ∷ names) id is e =
    let same : at ≡ id.0 = omega (arith, is) in
    ap (λ (b : Bool). is_in id (cond b (record { 0 = at } ∷ ids_from test (suc at) names) (ids_from test (suc at) names))) e
    ∙ ap (λ (n : ℕ). nat_eq n id.0 || is_in id (ids_from test (suc at) names)) same
    ∙ ap (λ (b : Bool). b || is_in id (ids_from test (suc at) names)) (itself id.0)
id_in test at (suc k) (name ∷ names) id is e =
    let rest = id_in test (suc at) k names id (omega (arith, is)) e in
    elim (test name.1) as (λ (b : Bool). is_in id (cond b (record { 0 = at } ∷ ids_from test (suc at) names) (ids_from test (suc at) names)) ≡ true) [
      | true ↦ or_right (nat_eq at id.0) (is_in id (ids_from test (suc at) names)) rest
      | false ↦ rest
    ]
  where
    or_right : (a b : Bool) → b ≡ true → (a || b) ≡ true
    or_right true b e = refl
    or_right false b e = e

-- a piece that binds each name that is to be bound, to symbols below a number
pub record Binds (style : Style) (bound : Bound) (m : ℕ) (piece : Piece) : Type 0 where
  pub vars : names_of piece.vars ≡ ids_from (is_bound_variable bound) 0 style.names
  pub fields : names_of piece.fields ≡ ids_from (is_bound_field bound) 0 style.names
  pub vars_below : All (λ bind. bind.sym.0 < m) piece.vars
  pub fields_below : All (λ bind. bind.sym.0 < m) piece.fields

one_below : (m : ℕ) (a b : Option Sym) → IfSome a (λ s. s.0 < m) → IfSome b (λ s. s.0 < m) → (is_some a || is_some b) ≡ true → option_map_or (λ s. s.0) (option_or a b) 0 < m
one_below m (Some s) b h k e = h
one_below m None (Some s) h k e = k
one_below m None None h k e = absurd (cc)

by_kind : (bound : Bound) (kind : Option Kind) → option_map_or (is_bound bound) kind false ≡ true
    → (option_map_or (is_bound_variable bound) kind false || option_map_or (is_bound_field bound) kind false) ≡ true
by_kind bound None e = absurd (cc)
by_kind bound (Some kind) e = e

either_some : (a b c d : Bool) → (a || b) ≡ true → (a ≡ true → c ≡ true) → (b ≡ true → d ≡ true) → (c || d) ≡ true
either_some true b c d e f g = ap (λ (x : Bool). x || d) (f refl)
either_some false b true d e f g = refl
either_some false b false d e f g = g e

symbol_of_below : (style : Style) (bound : Bound) (m : ℕ) (piece : Piece) (id : ℕ) → Binds style bound m piece → has_value style bound id ≡ true
    → symbol_of piece id < m
symbol_of_below style bound m piece id binds has =
    let name : NameId = record { 0 = id } in
    let kind = kind_at name style.names in
    one_below m (symbol_at name piece.vars) (symbol_at name piece.fields) (symbol_below m name piece.vars binds.vars_below)
    (symbol_below m name piece.fields binds.fields_below)
    (either_some (option_map_or (is_bound_variable bound) kind false) (option_map_or (is_bound_field bound) kind false) (is_some (symbol_at name piece.vars))
    (is_some (symbol_at name piece.fields)) (by_kind bound kind has)
    (λ e. symbol_there name piece.vars (ap (is_in name) binds.vars ∙ id_in (is_bound_variable bound) 0 id style.names name (omega arith) e))
    (λ e. symbol_there name piece.fields (ap (is_in name) binds.fields ∙ id_in (is_bound_field bound) 0 id style.names name (omega arith) e)))

term_placed : (style : Style) (bound : Bound) (has_pos : Bool) (m : ℕ) (piece : Piece) (term : Term) → Binds style bound m piece → IsTermOver style bound has_pos term
    → IsTerm has_pos m (term_renamed (symbol_of piece) term)
term_placed style bound has_pos m piece (Value id) binds over = symbol_of_below style bound m piece id binds over
term_placed style bound has_pos m piece (Length id) binds over = symbol_of_below style bound m piece id binds over
term_placed style bound has_pos m piece (Names id) binds over = symbol_of_below style bound m piece id binds over
term_placed style bound has_pos m piece Pos binds over = over
term_placed style bound has_pos m piece Count binds over = tt

taken_over : (style : Style) (bound : Bound) (has_pos : Bool) (name : ℕ → ℕ) (parts : List Part) → IsSumOver style bound has_pos parts → Each IsTaken (map (renamed name) parts)
taken_over style bound has_pos name [] over = tt
taken_over style bound has_pos name (part ∷ parts) over =
    let P = λ (p : Part). (is_zero p.coefficient ≡ false) × IsTermOver style bound has_pos p.term in
    ((All-head P part parts over).0, taken_over style bound has_pos name parts (All-tail P part parts over))

terms_placed : (style : Style) (bound : Bound) (has_pos : Bool) (m : ℕ) (piece : Piece) (parts : List Part) → Binds style bound m piece → IsSumOver style bound has_pos parts
    → Each (λ p. IsTerm has_pos m p.term) (map (renamed (symbol_of piece)) parts)
terms_placed style bound has_pos m piece [] binds over = tt
terms_placed style bound has_pos m piece (part ∷ parts) binds over =
    let P = λ (p : Part). (is_zero p.coefficient ≡ false) × IsTermOver style bound has_pos p.term in
    (term_placed style bound has_pos m piece part.term binds (All-head P part parts over).1, terms_placed style bound has_pos m piece parts binds (All-tail P part parts over))

-- a row over a small sum of such terms is one of a certificate, where its constant is within the limit
row_placed : (style : Style) (bound : Bound) (has_pos : Bool) (m : ℕ) (piece : Piece) (row : Row) → Binds style bound m piece → IsSmallSum row.parts
    → IsSumOver style bound has_pos row.parts → is_within ROW_SIZE ROW_SIZE row.constant ≡ true → IsRow has_pos m (row_in_piece piece row)
row_placed style bound has_pos m piece row binds small over constant =
    let placed = parts_few piece row small in
    let few = placed.few in
    let formed = all_formed (IsTerm has_pos m) [] (map (renamed (symbol_of piece)) row.parts) (record { taken = tt; terms = tt; order = tt })
    (taken_over style bound has_pos (symbol_of piece) row.parts over) (terms_placed style bound has_pos m piece row.parts binds over) in
    record {
      constant = constant;
      parts = parts_are has_pos m (row_in_piece piece row).parts placed.within formed.taken formed.terms;
      few = omega (arith, few);
      rise = chained (row_in_piece piece row).parts formed.order;
    }

-- a sum with each sign turned is over the same terms
turned_some : (n : ℤ) → is_zero n ≡ false → is_zero (neg_ℤ n) ≡ false
turned_some (pos zero) e = absurd (cc)
turned_some (pos (suc n)) e = e
turned_some (negsuc n) e = e

turned_over : (style : Style) (bound : Bound) (has_pos : Bool) (parts : List Part) → IsSumOver style bound has_pos parts → IsSumOver style bound has_pos (map turned parts)
turned_over style bound has_pos [] over = All-nil (λ (p : Part). (is_zero p.coefficient ≡ false) × IsTermOver style bound has_pos p.term)
turned_over style bound has_pos (part ∷ parts) over =
    let P = λ (p : Part). (is_zero p.coefficient ≡ false) × IsTermOver style bound has_pos p.term in
    let here = All-head P part parts over in
    All-cons P (turned part) (map turned parts) (turned_some part.coefficient here.0, here.1) (turned_over style bound has_pos parts (All-tail P part parts over))

-- the sums of a frame
abbrev pub IsSumOf : Style → Bound → Bool → List Part → Type 0
IsSumOf style bound has_pos sum = IsSmallSum sum × IsSumOver style bound has_pos sum

sum_rows_placed : (style : Style) (admits : Cond) (bound : Bound) (has_pos : Bool) (m : ℕ) (start : State) (states : List State) (piece : Piece) → Binds style bound m piece
    → (sum : List Part) → IsSumOf style bound has_pos sum
    → All (IsRow has_pos m) (filter (is_wanted admits start) (map (row_in_piece piece) (rows_of_sum admits states sum)))
sum_rows_placed style admits bound has_pos m start states piece binds sum is =
    kept_hold (HasSum (IsSumOf style bound has_pos)) (IsRow has_pos m) (is_wanted admits start) (row_in_piece piece) (rows_of_sum admits states sum)
    (λ row of_sum wanted. row_placed style bound has_pos m piece row binds of_sum.0 of_sum.1
    ((and_parts (is_within ROW_SIZE ROW_SIZE row.constant) (not (is_said admits start (row_in_piece piece row))) wanted).0))
    (rows_sums (IsSumOf style bound has_pos) admits states sum is (negated_small sum is.0, turned_over style bound has_pos sum is.1))

-- the rows of a case
pub rows_placed : (style : Style) (admits : Cond) (whole at_entry : Bool) (bound : Bound) (has_pos : Bool) (m : ℕ) (sums : List (List Part)) (states : List State) (piece : Piece)
    → Binds style bound m piece → All (IsSumOf style bound has_pos) sums → All (IsRow has_pos m) (rows_over style admits whole at_entry sums states piece)
rows_placed style admits whole at_entry bound has_pos m sums states piece binds all =
    let start = started style admits (piece ∷ []) whole at_entry in
    All-take (IsRow has_pos m) MOST_ITEMS (filter (is_wanted admits start) (flat_map (λ sum. map (row_in_piece piece) (rows_of_sum admits states sum)) sums))
    (rows_hold (IsRow has_pos m) (IsSumOf style bound has_pos) admits start states piece sums (sum_rows_placed style admits bound has_pos m start states piece binds) all)
