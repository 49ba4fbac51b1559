-- A state that starts from pieces is well made.
use Rattle.std.proofs.Common.{◌≡◌, ℕ, suc, ◌+◌, ◌≤◌, ◌<◌, Bool, true, false, cond, ap, sym, ◌∙◌, subst, refl, List, [], ◌∷◌, ◌++◌, map, arith, Option, Some, None, nat_eq, is_none}
use Rattle.std.specs.Prelude.{pos}
use Rattle.std.specs.List.{All, filter, flat_map, sum_by}
use Rattle.std.specs.Option.{option_map_or}
use Rattle.std.proofs.lemmas.List.Elements.{All-nil, All-cons, All-head, All-tail, All-append, All-map, All-weaker}
use Rattle.std.proofs.lemmas.List.Sums.{sum_by-cons}
use Rattle.std.proofs.lemmas.List.{length-map}
use Rattle.std.proofs.lemmas.Bool.{or_parts}
use Rattle.lin_facts.specs.declared.row.Part.{Part}
use Rattle.lin_facts.specs.declared.row.Row.{Row}
use Rattle.lin_facts.specs.declared.row.Term.{Term}
use Rattle.lin_facts.specs.declared.row.Term.TheVariants.{Value, Length, Names}
use Rattle.name_table.specs.Names.{kind_at}
use Rattle.name_table.specs.declared.names.Kind.{Kind}
use Rattle.name_table.specs.declared.names.Kind.TheVariants.{Builtin, Wizard, Field, IntEntry, StrEntry, IntGlobal, StrGlobal}
use Rattle.name_table.specs.declared.names.NameId.{NameId}
use Rattle.name_table.specs.declared.style.Style.{Style}
use Rattle.bst_meaning.specs.StyleParts.{kind_of}
use Rattle.bst_meaning.specs.declared.condition.Cond.{Cond}
use Rattle.sym_state.specs.declared.symbol.Sym.{Sym}
use Rattle.sym_state.specs.declared.symbol.Bind.{Bind}
use Rattle.sym_state.specs.declared.symbol.Kinds.{Kinds}
use Rattle.sym_state.specs.declared.symbol.Kinds.TheVariants.{Int as IntKind, Str, Optional}
use Rattle.sym_state.specs.declared.symbol.Fact.{Fact}
use Rattle.sym_state.specs.declared.symbol.Fact.TheVariants.{Is, Int, Text, Call, Block, Blank, Nonblank, Wellformed}
use Rattle.sym_state.specs.declared.piece.Piece.{Piece}
use Rattle.sym_state.specs.Changes.{symbol_at}
use Rattle.sym_state.specs.Facts.{subject}
use Rattle.sym_state.specs.References.{at_most}
use Rattle.sym_state.specs.Renaming.{bind_renamed, fact_renamed, piece_renamed, row_renamed, sym_renamed, term_renamed}
use Rattle.sym_state.specs.Starting.{IsFit, IsNumbered, all_symbols, bound_by, field_kind, has_kind, is_nonblank, most_names, name_facts, name_rows, names_in_play, numbered_on, own_facts, own_rows, raised, seat, seats, started, symbols_of, unbound}
use Rattle.sym_state.specs.WellMade.{HasByteText, HasShortText, HasSmallInteger, IsBounded, IsOfStyle, IsTermBelow, WellMade, ids_from, is_field, is_variable, size, takes_part}
use Rattle.sym_state.proofs.Numbering.{fields_below, stack_below, vars_below}

-- what holds of a part of each of the pieces that are numbered on holds of all parts together
each_part : {X : Type 0} (P : X → Type 0) (part : Piece → List X) (Q : Piece → Type 0) (n from : ℕ) (pieces : List Piece)
    → ((k : ℕ) (piece : Piece) → k + symbols_of piece ≤ n → Q piece → All P (part (piece_renamed (raised k) piece)))
    → from + all_symbols pieces ≤ n → All Q pieces → All P (flat_map part (numbered_on from pieces))
each_part P part Q n from [] each few all = All-nil P
each_part P part Q n from (piece ∷ pieces) each few all =
    let sum = sum_by-cons symbols_of piece pieces in
    All-append P (part (piece_renamed (raised from) piece)) (flat_map part (numbered_on (from + symbols_of piece) pieces))
    (each from piece (omega arith) (All-head Q piece pieces all))
    (each_part P part Q n (from + symbols_of piece) pieces each (omega arith) (All-tail Q piece pieces all))

raised_stack : (n k : ℕ) (piece : Piece) → k + symbols_of piece ≤ n → All (λ s. s.0 < n) (map (sym_renamed (raised k)) piece.stack)
raised_stack n k piece few =
    All-map (λ s. s.0 < n) (sym_renamed (raised k)) piece.stack
    (All-weaker (λ s. s.0 < symbols_of piece) (λ s. k + s.0 < n) (λ s h. omega arith) piece.stack (stack_below (symbols_of piece) piece (omega arith)))

raised_binds : (n k : ℕ) (piece : Piece) → k + symbols_of piece ≤ n → All (λ b. b.sym.0 < n) (map (bind_renamed (raised k)) piece.vars ++ map (bind_renamed (raised k)) piece.fields)
raised_binds n k piece few =
    All-append (λ b. b.sym.0 < n) (map (bind_renamed (raised k)) piece.vars) (map (bind_renamed (raised k)) piece.fields)
    (All-map (λ b. b.sym.0 < n) (bind_renamed (raised k)) piece.vars
    (All-weaker (λ b. b.sym.0 < symbols_of piece) (λ b. k + b.sym.0 < n) (λ b h. omega arith) piece.vars (vars_below (symbols_of piece) piece (omega arith))))
    (All-map (λ b. b.sym.0 < n) (bind_renamed (raised k)) piece.fields
    (All-weaker (λ b. b.sym.0 < symbols_of piece) (λ b. k + b.sym.0 < n) (λ b h. omega arith) piece.fields (fields_below (symbols_of piece) piece (omega arith))))

pub subject_renamed : (name : ℕ → ℕ) (fact : Fact) → subject (fact_renamed name fact) ≡ name (subject fact)
subject_renamed name (Is s x) = refl
subject_renamed name (Int s x) = refl
subject_renamed name (Text s x) = refl
subject_renamed name (Call s x) = refl
subject_renamed name (Block s x) = refl
subject_renamed name (Blank s) = refl
subject_renamed name (Nonblank s) = refl
subject_renamed name (Wellformed s) = refl

raised_facts : (n k : ℕ) (piece : Piece) → k + symbols_of piece ≤ n → IsNumbered piece → All (λ f. subject f < n) (map (fact_renamed (raised k)) piece.facts)
raised_facts n k piece few numbered =
    All-map (λ f. subject f < n) (fact_renamed (raised k)) piece.facts
    (All-weaker (λ f. subject f < symbols_of piece) (λ f. subject (fact_renamed (raised k) f) < n)
    (λ f h. let is = subject_renamed (raised k) f in omega arith) piece.facts numbered.facts)

renamed_term : (n m : ℕ) (name : ℕ → ℕ) (t : Term) → ((s : ℕ) → s < m → name s < n) → IsTermBelow m t → IsTermBelow n (term_renamed name t)
renamed_term n m name (Value s) below h = below s h
renamed_term n m name (Length s) below h = below s h
renamed_term n m name (Names s) below h = below s h
renamed_term n m name _ below h = tt

abbrev part_renamed : (ℕ → ℕ) → Part → Part
part_renamed name part = record { coefficient = part.coefficient; term = term_renamed name part.term }

abbrev pub RowBelow : ℕ → Row → Type 0
RowBelow n row = All (λ part. IsTermBelow n part.term) row.parts

pub renamed_row : (n m : ℕ) (name : ℕ → ℕ) (row : Row) → ((s : ℕ) → s < m → name s < n) → RowBelow m row → RowBelow n (row_renamed name row)
renamed_row n m name row below h =
    All-map (λ part. IsTermBelow n part.term) (part_renamed name) row.parts
    (All-weaker (λ part. IsTermBelow m part.term) (λ part. IsTermBelow n (term_renamed name part.term)) (λ part less. renamed_term n m name part.term below less) row.parts h)

raised_rows : (n k : ℕ) (piece : Piece) → k + symbols_of piece ≤ n → IsNumbered piece → All (RowBelow n) (map (row_renamed (raised k)) piece.rows)
raised_rows n k piece few numbered =
    All-map (RowBelow n) (row_renamed (raised k)) piece.rows
    (All-weaker (RowBelow (symbols_of piece)) (λ row. RowBelow n (row_renamed (raised k) row))
    (λ row h. renamed_row n (symbols_of piece) (raised k) row (λ s less. omega arith) h) piece.rows numbered.rows)

pub short_renamed : (name : ℕ → ℕ) (fact : Fact) → HasShortText fact → HasShortText (fact_renamed name fact)
short_renamed name (Text s x) h = h
short_renamed name _ h = tt

pub small_renamed : (name : ℕ → ℕ) (fact : Fact) → HasSmallInteger fact → HasSmallInteger (fact_renamed name fact)
small_renamed name (Int s x) h = h
small_renamed name _ h = tt

pub bytes_renamed : (name : ℕ → ℕ) (fact : Fact) → HasByteText fact → HasByteText (fact_renamed name fact)
bytes_renamed name (Text s x) h = h
bytes_renamed name _ h = tt

pub style_renamed : (style : Style) (name : ℕ → ℕ) (fact : Fact) → IsOfStyle style fact → IsOfStyle style (fact_renamed name fact)
style_renamed style name (Call s x) h = h
style_renamed style name (Block s x) h = h
style_renamed style name _ h = tt

abbrev sizes : List Part → ℕ
sizes parts = sum_by (λ (part : Part). size part.coefficient) parts

sizes_renamed : (name : ℕ → ℕ) (parts : List Part) → sizes (map (part_renamed name) parts) ≡ sizes parts
sizes_renamed name [] = refl
sizes_renamed name (part ∷ parts) =
    let measure : Part → ℕ = λ p. size p.coefficient in
    sum_by-cons measure (part_renamed name part) (map (part_renamed name) parts)
    ∙ ap (λ (n : ℕ). size part.coefficient + n) (sizes_renamed name parts)
    ∙ sym (sum_by-cons measure part parts)

pub bounded_renamed : (name : ℕ → ℕ) (row : Row) → IsBounded row → IsBounded (row_renamed name row)
bounded_renamed name row h = record {
  parts = let same = length-map row.parts (part_renamed name) in omega (arith, same, h.parts);
  constant = h.constant;
  coefficients = let same = sizes_renamed name row.parts in omega (arith, same, h.coefficients);
}

-- a symbol that is bound is below what all are below
pub found_below : (n : ℕ) (name : NameId) (binds : List Bind) (s : Sym) → All (λ b. b.sym.0 < n) binds → symbol_at name binds ≡ Some s → s.0 < n
found_below n name [] s all e = absurd (cc)
found_below n name (b ∷ binds) s all e =
    elim (nat_eq b.name.0 name.0) as (λ t. cond t (Some b.sym) (symbol_at name binds) ≡ Some s → s.0 < n) [
      | true ↦ λ found. let same : b.sym ≡ s = cc in subst (λ (x : Sym). x.0 < n) same (All-head (λ c. c.sym.0 < n) b binds all)
      | false ↦ λ found. found_below n name binds s (All-tail (λ c. c.sym.0 < n) b binds all) found
    ] e

unbound-cons : (binds : List Bind) (name : NameId) (names : List NameId) → unbound binds (name ∷ names) ≡ cond (is_none (symbol_at name binds)) 1 0 + unbound binds names
unbound-cons binds name names = sum_by-cons (λ (n : NameId). cond (is_none (symbol_at n binds)) 1 0) name names

-- the symbols of seats are below the number that comes after them
pub seats_below : (binds : List Bind) (first n : ℕ) (names : List NameId) → All (λ b. b.sym.0 < first) binds → first + unbound binds names ≤ n
    → All (λ b. b.sym.0 < n) (seats binds first names)
seats_below binds first n [] all few = All-nil (λ b. b.sym.0 < n)
seats_below binds first n (name ∷ names) all few =
    elim (symbol_at name binds) as (λ (o : Option Sym). symbol_at name binds ≡ o → first + (cond (is_none o) 1 0 + unbound binds names) ≤ n
    → All (λ b. b.sym.0 < n) (seat o name first (λ m. seats binds m names))) [
      | Some s ↦ λ is few'.
          let below = found_below first name binds s all is in
          All-cons (λ b. b.sym.0 < n) (record { name = name; sym = s }) (seats binds first names) (omega arith) (seats_below binds first n names all (omega arith))
      | None ↦ λ is few'.
          All-cons (λ b. b.sym.0 < n) (record { name = name; sym = record { 0 = first } }) (seats binds (suc first) names) (omega arith)
          (seats_below binds (suc first) n names (All-weaker (λ b. b.sym.0 < first) (λ b. b.sym.0 < suc first) (λ b h. omega arith) binds all) (omega arith))
    ] refl (let count = unbound-cons binds name names in omega arith)

-- the names of seats
pub seats_names : (binds : List Bind) (first : ℕ) (names : List NameId) → map (λ b. b.name) (seats binds first names) ≡ names
seats_names binds first [] = refl
seats_names binds first (name ∷ names) =
    elim (symbol_at name binds) as (λ (o : Option Sym). map (λ b. b.name) (seat o name first (λ m. seats binds m names)) ≡ name ∷ names) [
      | Some s ↦ ap (λ (ns : List NameId). name ∷ ns) (seats_names binds first names)
      | None ↦ ap (λ (ns : List NameId). name ∷ ns) (seats_names binds (suc first) names)
    ]

-- the names of the bindings that pass a test on names
filter_named : (test : NameId → Bool) (binds : List Bind) → map (λ b. b.name) (filter (λ b. test b.name) binds) ≡ filter test (map (λ b. b.name) binds)
filter_named test [] = refl
filter_named test (b ∷ binds) =
    elim (test b.name) as (λ t. map (λ c. c.name) (cond t (b ∷ filter (λ c. test c.name) binds) (filter (λ c. test c.name) binds)) ≡ cond t (b.name ∷ filter test (map (λ c. c.name) binds)) (filter test (map (λ c. c.name) binds))) [
      | true ↦ ap (λ (ns : List NameId). b.name ∷ ns) (filter_named test binds)
      | false ↦ filter_named test binds
    ]

-- of the names that pass one test those that pass a stricter one
ids_filter : (takes test : Kind → Bool) → ((k : Kind) → takes k ≡ false → test k ≡ false) → (all : List (List ℕ × Kind)) (i : ℕ) (names : List (List ℕ × Kind))
    → ((j : ℕ) → kind_at (record { 0 = i + j }) all ≡ kind_at (record { 0 = j }) names)
    → filter (λ id. option_map_or test (kind_at id all) false) (ids_from takes i names) ≡ ids_from test i names
ids_filter takes test stricter all i [] same = refl
ids_filter takes test stricter all i (name ∷ names) same =
    let id : NameId = record { 0 = i } in
    let pass : NameId → Bool = λ d. option_map_or test (kind_at d all) false in
    let same' : (j : ℕ) → kind_at (record { 0 = suc i + j }) all ≡ kind_at (record { 0 = j }) names =
    λ j. ap (λ (n : ℕ). let d : NameId = record { 0 = n } in kind_at d all) (omega arith) ∙ same (suc j) in
    let rest : filter pass (ids_from takes (suc i) names) ≡ ids_from test (suc i) names = ids_filter takes test stricter all (suc i) names same' in
    let here : kind_at id all ≡ Some name.1 = ap (λ (n : ℕ). let d : NameId = record { 0 = n } in kind_at d all) (omega arith) ∙ same 0 in
    let passes : pass id ≡ test name.1 = ap (λ (o : Option Kind). option_map_or test o false) here in
    elim (takes name.1) as (λ t. takes name.1 ≡ t → filter pass (cond t (id ∷ ids_from takes (suc i) names) (ids_from takes (suc i) names)) ≡ cond (test name.1) (id ∷ ids_from test (suc i) names) (ids_from test (suc i) names)) [
      | true ↦ λ is.
          ap (λ (b : Bool). cond b (id ∷ filter pass (ids_from takes (suc i) names)) (filter pass (ids_from takes (suc i) names))) passes
          ∙ ap (λ (ids : List NameId). cond (test name.1) (id ∷ ids) ids) rest
      | false ↦ λ is.
          rest ∙ ap (λ (b : Bool). cond b (id ∷ ids_from test (suc i) names) (ids_from test (suc i) names)) (sym (stricter name.1 is))
    ] refl

-- the names of the seats that pass are the names that pass
pub seated_names : (style : Style) (at_entry : Bool) (test : Kind → Bool) (binds : List Bind) (first : ℕ)
    → ((k : Kind) → takes_part at_entry k ≡ false → test k ≡ false)
    → map (λ b. b.name) (filter (has_kind style test) (seats binds first (names_in_play style at_entry))) ≡ ids_from test 0 style.names
seated_names style at_entry test binds first stricter =
    let pass : NameId → Bool = λ name. option_map_or test (kind_at name style.names) false in
    filter_named pass (seats binds first (names_in_play style at_entry))
    ∙ ap (λ (names : List NameId). filter pass names) (seats_names binds first (names_in_play style at_entry))
    ∙ ids_filter (takes_part at_entry) test stricter style.names 0 style.names (λ j. ap (λ (n : ℕ). let d : NameId = record { 0 = n } in kind_at d style.names) (omega arith))

-- what a variable or a field gives of its own
pub own_facts_are : (P : Fact → Type 0) (admits : Cond) (kind : Option Kind) (b : Bind)
    → ((k : Kinds) → P (Is b.sym k)) → P (Nonblank b.sym) → P (Wellformed b.sym) → All P (own_facts admits kind b)
own_facts_are P admits (Some IntEntry) b is nonblank wellformed = All-cons P (Is b.sym IntKind) [] (is IntKind) (All-nil P)
own_facts_are P admits (Some IntGlobal) b is nonblank wellformed = All-cons P (Is b.sym IntKind) [] (is IntKind) (All-nil P)
own_facts_are P admits (Some StrEntry) b is nonblank wellformed = All-cons P (Is b.sym Str) [] (is Str) (All-nil P)
own_facts_are P admits (Some StrGlobal) b is nonblank wellformed = All-cons P (Is b.sym Str) [] (is Str) (All-nil P)
own_facts_are P admits (Some Field) b is nonblank wellformed =
    All-append P (field_kind (is_nonblank admits b.name) b.sym) (name_facts (most_names b.name admits.names) b.sym)
    (of_kind (is_nonblank admits b.name)) (of_names (most_names b.name admits.names))
  where
    of_kind : (t : Bool) → All P (field_kind t b.sym)
    of_kind true = All-cons P (Is b.sym Str) (Nonblank b.sym ∷ []) (is Str) (All-cons P (Nonblank b.sym) [] nonblank (All-nil P))
    of_kind false = All-cons P (Is b.sym Optional) [] (is Optional) (All-nil P)

    of_names : (o : Option ℕ) → All P (name_facts o b.sym)
    of_names (Some most) = All-cons P (Wellformed b.sym) [] wellformed (All-nil P)
    of_names None = All-nil P
own_facts_are P admits (Some (Builtin op)) b is nonblank wellformed = All-nil P
own_facts_are P admits (Some (Wizard body)) b is nonblank wellformed = All-nil P
own_facts_are P admits None b is nonblank wellformed = All-nil P

row_below : (n : ℕ) (t : Term) (m : ℕ) → IsTermBelow n t → RowBelow n (at_most t (pos m))
row_below n t m h = All-cons (λ (part : Part). IsTermBelow n part.term) _ [] h (All-nil (λ (part : Part). IsTermBelow n part.term))

pub own_rows_below : (n : ℕ) (admits : Cond) (kind : Option Kind) (b : Bind) → b.sym.0 < n → All (RowBelow n) (own_rows admits kind b)
own_rows_below n admits (Some StrEntry) b h = All-cons (RowBelow n) _ [] (row_below n (Length b.sym.0) 250 h) (All-nil (RowBelow n))
own_rows_below n admits (Some StrGlobal) b h = All-cons (RowBelow n) _ [] (row_below n (Length b.sym.0) 20000 h) (All-nil (RowBelow n))
own_rows_below n admits (Some Field) b h =
    All-cons (RowBelow n) _ (name_rows (most_names b.name admits.names) b.sym) (row_below n (Length b.sym.0) admits.length h) (of_names (most_names b.name admits.names))
  where
    of_names : (o : Option ℕ) → All (RowBelow n) (name_rows o b.sym)
    of_names (Some most) = All-cons (RowBelow n) _ [] (row_below n (Names b.sym.0) most h) (All-nil (RowBelow n))
    of_names None = All-nil (RowBelow n)
own_rows_below n admits (Some IntEntry) b h = All-nil (RowBelow n)
own_rows_below n admits (Some IntGlobal) b h = All-nil (RowBelow n)
own_rows_below n admits (Some (Builtin op)) b h = All-nil (RowBelow n)
own_rows_below n admits (Some (Wizard body)) b h = All-nil (RowBelow n)
own_rows_below n admits None b h = All-nil (RowBelow n)

-- what holds of what each binding gives holds of all that they give
pub each_given : {X : Type 0} (P : X → Type 0) (given : Bind → List X) (Q : Bind → Type 0) (binds : List Bind)
    → ((b : Bind) → Q b → All P (given b)) → All Q binds → All P (flat_map given binds)
each_given P given Q [] each all = All-nil P
each_given P given Q (b ∷ binds) each all =
    All-append P (given b) (flat_map given binds) (each b (All-head Q b binds all)) (each_given P given Q binds each (All-tail Q b binds all))

filter_keeps : {X : Type 0} (P : X → Type 0) (test : X → Bool) (xs : List X) → All P xs → All P (filter test xs)
filter_keeps P test [] all = all
filter_keeps P test (x ∷ xs) all =
    elim (test x) as (λ t. All P (cond t (x ∷ filter test xs) (filter test xs))) [
      | true ↦ All-cons P x (filter test xs) (All-head P x xs all) (filter_keeps P test xs (All-tail P x xs all))
      | false ↦ filter_keeps P test xs (All-tail P x xs all)
    ]

-- the symbols of pieces that are numbered on are below their number
no_more : (pieces : List Piece) → All IsNumbered pieces → All (λ (piece : Piece). Unit {0}) pieces
no_more pieces numbered = All-weaker IsNumbered (λ piece. Unit {0}) (λ piece h. tt) pieces numbered

pub stacks_below : (pieces : List Piece) → All IsNumbered pieces → All (λ (s : Sym). s.0 < all_symbols pieces) (flat_map (λ piece. piece.stack) (numbered_on 0 pieces))
stacks_below pieces numbered =
    each_part (λ (s : Sym). s.0 < all_symbols pieces) (λ piece. piece.stack) (λ piece. Unit {0}) (all_symbols pieces) 0 pieces
    (λ k piece few h. raised_stack (all_symbols pieces) k piece few) (omega arith) (no_more pieces numbered)

pub bindings_below : (pieces : List Piece) → All IsNumbered pieces → All (λ (b : Bind). b.sym.0 < all_symbols pieces) (bound_by (numbered_on 0 pieces))
bindings_below pieces numbered =
    each_part (λ (b : Bind). b.sym.0 < all_symbols pieces) (λ piece. piece.vars ++ piece.fields) (λ piece. Unit {0}) (all_symbols pieces) 0 pieces
    (λ k piece few h. raised_binds (all_symbols pieces) k piece few) (omega arith) (no_more pieces numbered)

pub facts_below : (pieces : List Piece) → All IsNumbered pieces → All (λ (f : Fact). subject f < all_symbols pieces) (flat_map (λ piece. piece.facts) (numbered_on 0 pieces))
facts_below pieces numbered =
    each_part (λ (f : Fact). subject f < all_symbols pieces) (λ piece. piece.facts) IsNumbered (all_symbols pieces) 0 pieces
    (λ k piece few h. raised_facts (all_symbols pieces) k piece few h) (omega arith) numbered

pub rows_below : (pieces : List Piece) → All IsNumbered pieces → All (RowBelow (all_symbols pieces)) (flat_map (λ piece. piece.rows) (numbered_on 0 pieces))
rows_below pieces numbered =
    each_part (RowBelow (all_symbols pieces)) (λ piece. piece.rows) IsNumbered (all_symbols pieces) 0 pieces
    (λ k piece few h. raised_rows (all_symbols pieces) k piece few h) (omega arith) numbered

-- what holds of each fact of the pieces, whatever its symbol, and of the facts that are given of their own, holds of all
all_facts : (P : Fact → Type 0) (style : Style) (admits : Cond) (pieces : List Piece) (whole at_entry : Bool)
    → ((k : ℕ) (fact : Fact) → P fact → P (fact_renamed (raised k) fact)) → ((s : Sym) (kind : Kinds) → P (Is s kind))
    → ((s : Sym) → P (Nonblank s)) → ((s : Sym) → P (Wellformed s)) → All (λ piece. All P piece.facts) pieces
    → All P (started style admits pieces whole at_entry).facts
all_facts P style admits pieces whole at_entry renamed is nonblank wellformed all =
    let on = numbered_on 0 pieces in
    let seated : List Bind = seats (bound_by on) (all_symbols pieces) (names_in_play style at_entry) in
    All-append P (flat_map (λ piece. piece.facts) on) (flat_map (λ b. own_facts admits (kind_of style b.name) b) seated)
    (each_part P (λ piece. piece.facts) (λ piece. All P piece.facts) (all_symbols pieces) 0 pieces
    (λ k piece few h. All-map P (fact_renamed (raised k)) piece.facts
    (All-weaker P (λ f. P (fact_renamed (raised k) f)) (λ f g. renamed k f g) piece.facts h)) (omega arith) all)
    (each_given P (λ b. own_facts admits (kind_of style b.name) b) (λ b. Unit {0}) seated
    (λ b h. own_facts_are P admits (kind_of style b.name) b (is b.sym) (nonblank b.sym) (wellformed b.sym)) (λ k d less. tt))

-- the texts and rows of the pieces are within their bounds, and those that are given of their own
pub started_made : (style : Style) (admits : Cond) (pieces : List Piece) (whole at_entry : Bool)
    → All IsNumbered pieces → All (IsFit style) pieces → All IsBounded (started style admits pieces whole at_entry).rows
    → WellMade style (started style admits pieces whole at_entry)
started_made style admits pieces whole at_entry numbered fit bounded =
    let on = numbered_on 0 pieces in
    let names = names_in_play style at_entry in
    let first : ℕ = all_symbols pieces in
    let n : ℕ = first + unbound (bound_by on) names in
    let seated : List Bind = seats (bound_by on) first names in
    let all : All (λ (piece : Piece). Unit {0}) pieces = All-weaker IsNumbered (λ piece. Unit {0}) (λ piece h. tt) pieces numbered in
    let bound : All (λ b. b.sym.0 < first) (bound_by on) =
    each_part (λ (b : Bind). b.sym.0 < first) (λ piece. piece.vars ++ piece.fields) (λ piece. Unit {0}) first 0 pieces (λ k piece few h. raised_binds first k piece few) (omega arith) all in
    let below : All (λ b. b.sym.0 < n) seated = seats_below (bound_by on) first n names bound (omega arith) in
    record {
      stack = each_part (λ (s : Sym). s.0 < n) (λ piece. piece.stack) (λ piece. Unit {0}) n 0 pieces (λ k piece few h. raised_stack n k piece few) (omega arith) all;
      vars = filter_keeps (λ (b : Bind). b.sym.0 < n) (has_kind style (is_variable at_entry)) seated below;
      fields = filter_keeps (λ (b : Bind). b.sym.0 < n) (has_kind style (is_field at_entry)) seated below;
      facts = All-append (λ (f : Fact). subject f < n) _ _
          (each_part (λ (f : Fact). subject f < n) (λ piece. piece.facts) IsNumbered n 0 pieces (λ k piece few h. raised_facts n k piece few h) (omega arith) numbered)
          (each_given (λ (f : Fact). subject f < n) (λ b. own_facts admits (kind_of style b.name) b) (λ b. b.sym.0 < n) seated
          (λ b h. own_facts_are (λ (f : Fact). subject f < n) admits (kind_of style b.name) b (λ k. h) h h) below);
      rows = All-append (RowBelow n) _ _
          (each_part (RowBelow n) (λ piece. piece.rows) IsNumbered n 0 pieces (λ k piece few h. raised_rows n k piece few h) (omega arith) numbered)
          (each_given (RowBelow n) (λ b. own_rows admits (kind_of style b.name) b) (λ b. b.sym.0 < n) seated (λ b h. own_rows_below n admits (kind_of style b.name) b h) below);
      binds_vars = seated_names style at_entry (is_variable at_entry) (bound_by on) first (λ k e. (or_parts (is_variable at_entry k) (is_field at_entry k) e).0);
      binds_fields = seated_names style at_entry (is_field at_entry) (bound_by on) first (λ k e. (or_parts (is_variable at_entry k) (is_field at_entry k) e).1);
      of_style = all_facts (IsOfStyle style) style admits pieces whole at_entry (λ k. style_renamed style (raised k)) (λ b k. tt) (λ b. tt) (λ b. tt)
          (All-weaker (IsFit style) (λ piece. All (IsOfStyle style) piece.facts) (λ piece h. h.of_style) pieces fit);
      integers = all_facts HasSmallInteger style admits pieces whole at_entry (λ k. small_renamed (raised k)) (λ b k. tt) (λ b. tt) (λ b. tt)
          (All-weaker (IsFit style) (λ piece. All HasSmallInteger piece.facts) (λ piece h. h.integers) pieces fit);
      bytes = all_facts HasByteText style admits pieces whole at_entry (λ k. bytes_renamed (raised k)) (λ b k. tt) (λ b. tt) (λ b. tt)
          (All-weaker (IsFit style) (λ piece. All HasByteText piece.facts) (λ piece h. h.bytes) pieces fit);
      bounds = record {
        facts = all_facts HasShortText style admits pieces whole at_entry (λ k. short_renamed (raised k)) (λ b k. tt) (λ b. tt) (λ b. tt)
            (All-weaker (IsFit style) (λ piece. All HasShortText piece.facts) (λ piece h. h.texts) pieces fit);
        rows = bounded;
      };
    }

-- the rows of the pieces are within their bounds
pub pieces_bounded : (style : Style) (pieces : List Piece) → All (IsFit style) pieces → All IsBounded (flat_map (λ piece. piece.rows) (numbered_on 0 pieces))
pieces_bounded style pieces fit =
    each_part IsBounded (λ piece. piece.rows) (IsFit style) (all_symbols pieces) 0 pieces
    (λ k piece few h. All-map IsBounded (row_renamed (raised k)) piece.rows (All-weaker IsBounded (λ row. IsBounded (row_renamed (raised k) row)) (λ row g. bounded_renamed (raised k) row g) piece.rows h.rows)) (omega arith) fit
