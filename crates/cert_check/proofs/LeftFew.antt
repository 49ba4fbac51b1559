-- A state that a unit leaves has few new symbols: those on the post's stack, and those of written variables.
use Rattle.std.proofs.Common.{◌≡◌, ℕ, zero, suc, ◌+◌, ◌*◌, ◌-◌, ◌≤◌, ◌<◌, Bool, true, false, cond, ◌||◌, ◌&&◌, not, ap, ◌∙◌, subst, refl, List, [], ◌∷◌, ◌++◌, length, map, arith, nat_eq, is_none, Option, None, Some, Ok, Err}
use Rattle.std.specs.List.{All, count_by, list_any}
use Rattle.std.specs.Option.{option_map_or, option_or, option_and_then}
use Rattle.std.proofs.lemmas.Bool.{and_parts}
use Rattle.std.proofs.lemmas.Bool.Decides.{nat_tests}
use Rattle.std.proofs.lemmas.List.Elements.{All-head, All-tail}
use Rattle.std.proofs.lemmas.List.Folds.{list_any-append}
use Rattle.std.proofs.lemmas.List.Sums.{sum_by-cons}
use Rattle.name_table.specs.Names.{kind_at}
use Rattle.name_table.specs.declared.names.Kind.{Kind}
use Rattle.name_table.specs.declared.names.Kind.TheVariants.{Builtin, Wizard, Field, IntEntry, StrEntry, IntGlobal, StrGlobal}
use Rattle.name_table.specs.declared.names.NameId.{NameId}
use Rattle.name_table.specs.declared.style.Style.{Style}
use Rattle.bst_meaning.specs.StyleParts.{kind_of}
use Rattle.bst_meaning.specs.declared.condition.Cond.{Cond}
use Rattle.sym_state.specs.State.{State}
use Rattle.sym_state.specs.declared.demand.EffectFault.TheVariants.{NotEntailed}
use Rattle.sym_state.specs.declared.hint.Hint.{Hint}
use Rattle.sym_state.specs.Showing.{Shown, piece_by}
use Rattle.sym_state.specs.declared.piece.Piece.{Piece}
use Rattle.sym_state.specs.declared.symbol.Bind.{Bind}
use Rattle.sym_state.specs.declared.symbol.Sym.{Sym}
use Rattle.sym_state.specs.Changes.{bound, symbol_at}
use Rattle.sym_state.specs.Starting.{placed, symbols_of}
use Rattle.sym_state.specs.WellMade.{WellMade, ids_from, is_field, is_variable}
use Rattle.sym_state.proofs.Deciding.{same_number}
use Rattle.cert_check.specs.Left.{AreUpwards, HasPlaces, IsPlaced}
use Rattle.cert_check.specs.Uses.{Passage, comes_by, fits, fits_stack, is_among, left_state, name_at, new_one, new_symbols, own_count, unchanged, unwritten}
use Rattle.cert_check.proofs.LeftMade.{next_few}

-- how many numbers, so many from this one on, pass a test
abbrev one : Bool → ℕ
one test = cond test 1 0

abbrev ranged : (ℕ → Bool) → ℕ → ℕ → ℕ
ranged test s zero = 0
ranged test s (suc more) = one (test s) + ranged test (suc s) more

either_one : (a b : Bool) → one (a || b) ≤ one a + one b
either_one true b = omega arith
either_one false b = omega arith

either_ranged : (f g h : ℕ → Bool) (s more : ℕ) → ((k : ℕ) → one (h k) ≤ one (f k) + one (g k)) → ranged h s more ≤ ranged f s more + ranged g s more
either_ranged f g h s zero each = omega arith
either_ranged f g h s (suc more) each =
    let here = each s in
    let rest = either_ranged f g h (suc s) more each in
    omega (arith, here, rest)

-- one number at most is this one
past : (n s more : ℕ) → n < s → ranged (λ k. nat_eq n k) s more ≡ 0
past n s zero less = refl
past n s (suc more) less =
    let rest = past n (suc s) more (omega arith) in
    elim (nat_eq n s) as (λ (b : Bool). nat_eq n s ≡ b → one b + ranged (λ k. nat_eq n k) (suc s) more ≡ 0) [
      | true ↦ λ is. absurd (grind (arith, nat_tests))
      | false ↦ λ is. omega (arith, rest)
    ] refl

once : (n s more : ℕ) → ranged (λ k. nat_eq n k) s more ≤ 1
once n s zero = omega arith
once n s (suc more) =
    let rest = once n (suc s) more in
    elim (nat_eq n s) as (λ (b : Bool). nat_eq n s ≡ b → one b + ranged (λ k. nat_eq n k) (suc s) more ≤ 1) [
      | true ↦ λ is. let none = past n (suc s) more (grind (arith, nat_tests)) in omega (arith, none)
      | false ↦ λ is. omega (arith, rest)
    ] refl

none_ranged : (s more : ℕ) → ranged (λ k. false) s more ≡ 0
none_ranged s zero = refl
none_ranged s (suc more) = let rest = none_ranged (suc s) more in omega (arith, rest)

-- so many numbers are symbols of a stack
stack_few : (stack : List Sym) (s more : ℕ) → ranged (λ k. list_any (λ t. nat_eq t.0 k) stack) s more ≤ length stack
stack_few [] s more = let none = none_ranged s more in omega (arith, none)
stack_few (t ∷ stack) s more =
    let rest = stack_few stack s more in
    let here = once t.0 s more in
    let both = either_ranged (λ k. nat_eq t.0 k) (λ k. list_any (λ x. nat_eq x.0 k) stack) (λ k. nat_eq t.0 k || list_any (λ x. nat_eq x.0 k) stack) s more
    (λ k. either_one (nat_eq t.0 k) (list_any (λ x. nat_eq x.0 k) stack)) in
    omega (arith, rest, here, both)

all_ranged : (f : ℕ → Bool) (s more : ℕ) → ((k : ℕ) → s ≤ k → k < s + more → f k ≡ true) → ranged f s more ≡ more
all_ranged f s zero each = refl
all_ranged f s (suc more) each =
    let rest = all_ranged f (suc s) more (λ k low high. each k (omega (arith, low)) (omega (arith, high))) in
    let here : one (f s) ≡ 1 = ap one (each s (omega arith) (omega arith)) in
    omega (arith, here, rest)

-- where a piece's symbols have places, it has no more of them than places
pub few_symbols : (from : ℕ) (piece : Piece) → HasPlaces from (symbols_of piece) piece → symbols_of piece - from ≤ length (placed piece)
few_symbols from piece has =
    let more : ℕ = symbols_of piece - from in
    let all = all_ranged (λ k. list_any (λ t. nat_eq t.0 k) (placed piece)) from more (λ k low high. has k low (omega (arith, low, high))) in
    let few = stack_few (placed piece) from more in
    omega (arith, all, few)

-- a name that is there is written
abbrev is_written : List NameId → Option NameId → Bool
is_written writes found = option_map_or (is_among writes) found false

first_bind : (writes : List NameId) (test : Bool) (name : NameId) (later : Option NameId)
    → one (is_written writes (cond test (Some name) later)) ≤ one (test && is_among writes name) + one (is_written writes later)
first_bind writes true name later = omega arith
first_bind writes false name later = omega arith

bind_once : (n s more : ℕ) (there : Bool) → ranged (λ k. nat_eq n k && there) s more ≤ one there
bind_once n s zero there = omega arith
bind_once n s (suc more) there =
    elim there as (λ (b : Bool). ranged (λ k. nat_eq n k && b) s (suc more) ≤ one b) [
      | true ↦
          let all = same_ranged (λ k. nat_eq n k && true) (λ k. nat_eq n k) s (suc more) (λ k. and_true (nat_eq n k)) in
          let few = once n s (suc more) in
          omega (arith, all, few)
      | false ↦
          let all = same_ranged (λ k. nat_eq n k && false) (λ k. false) s (suc more) (λ k. and_false (nat_eq n k)) in
          let none = none_ranged s (suc more) in
          omega (arith, all, none)
    ]
  where
    same_ranged : (f g : ℕ → Bool) (s more : ℕ) → ((k : ℕ) → f k ≡ g k) → ranged f s more ≡ ranged g s more
    same_ranged f g s zero each = refl
    same_ranged f g s (suc more) each =
        ap (λ (b : Bool). one b + ranged f (suc s) more) (each s) ∙ ap (λ (n : ℕ). one (g s) + n) (same_ranged f g (suc s) more each)

    and_true : (b : Bool) → (b && true) ≡ b
    and_true true = refl
    and_true false = refl

    and_false : (b : Bool) → (b && false) ≡ false
    and_false true = refl
    and_false false = refl

-- so many numbers are symbols of variables that are written
vars_few : (writes : List NameId) (binds : List Bind) (s more : ℕ)
    → ranged (λ k. is_written writes (name_at k binds)) s more ≤ count_by (λ b. is_among writes b.name) binds
vars_few writes [] s more = let none = none_ranged s more in omega (arith, none)
vars_few writes (b ∷ binds) s more =
    let rest = vars_few writes binds s more in
    let here = bind_once b.sym.0 s more (is_among writes b.name) in
    let both = either_ranged (λ k. nat_eq b.sym.0 k && is_among writes b.name) (λ k. is_written writes (name_at k binds))
    (λ k. is_written writes (cond (nat_eq b.sym.0 k) (Some b.name) (name_at k binds))) s more
    (λ k. first_bind writes (nat_eq b.sym.0 k) b.name (name_at k binds)) in
    let count = sum_by-cons (λ (x : Bind). cond (is_among writes x.name) 1 0) b binds in
    omega (arith, rest, here, both, count)

-- a name is bound once where bindings go upwards
above_none : (id n : ℕ) (binds : List Bind) → AreUpwards id binds → n < id → count_by (λ b. nat_eq n b.name.0) binds ≡ 0
above_none id n [] up less = refl
above_none id n (b ∷ binds) up less =
    let rest = above_none (suc b.name.0) n binds up.1 (let low = up.0 in omega (arith, low, less)) in
    let count = sum_by-cons (λ (x : Bind). cond (nat_eq n x.name.0) 1 0) b binds in
    let none : cond (nat_eq n b.name.0) 1 0 + count_by (λ x. nat_eq n x.name.0) binds ≡ 0 =
    elim (nat_eq n b.name.0) as (λ (t : Bool). nat_eq n b.name.0 ≡ t → cond t 1 0 + count_by (λ x. nat_eq n x.name.0) binds ≡ 0) [
      | true ↦ λ is. let low = up.0 in absurd (grind (arith, nat_tests))
      | false ↦ λ is. omega (arith, rest)
    ] refl in
    omega (arith, count, none)

bound_once : (id n : ℕ) (binds : List Bind) → AreUpwards id binds → count_by (λ b. nat_eq n b.name.0) binds ≤ 1
bound_once id n [] up = omega arith
bound_once id n (b ∷ binds) up =
    let rest = bound_once (suc b.name.0) n binds up.1 in
    let count = sum_by-cons (λ (x : Bind). cond (nat_eq n x.name.0) 1 0) b binds in
    let few : cond (nat_eq n b.name.0) 1 0 + count_by (λ x. nat_eq n x.name.0) binds ≤ 1 =
    elim (nat_eq n b.name.0) as (λ (t : Bool). nat_eq n b.name.0 ≡ t → cond t 1 0 + count_by (λ x. nat_eq n x.name.0) binds ≤ 1) [
      | true ↦ λ is. let none = above_none (suc b.name.0) n binds up.1 (grind (arith, nat_tests)) in omega (arith, none)
      | false ↦ λ is. omega (arith, rest)
    ] refl in
    omega (arith, count, few)

either_counted : {X : Type 0} (f g : X → Bool) (xs : List X) → count_by (λ x. f x || g x) xs ≤ count_by f xs + count_by g xs
either_counted f g [] = omega arith
either_counted {X} f g (x ∷ xs) =
    let rest = either_counted f g xs in
    let here = either_one (f x) (g x) in
    let all = sum_by-cons (λ (y : X). cond (f y || g y) 1 0) x xs in
    let left = sum_by-cons (λ (y : X). cond (f y) 1 0) x xs in
    let right = sum_by-cons (λ (y : X). cond (g y) 1 0) x xs in
    omega (arith, rest, here, all, left, right)

none_counted : {X : Type 0} (xs : List X) → count_by (λ (x : X). false) xs ≡ 0
none_counted [] = refl
none_counted {X} (x ∷ xs) =
    let count = sum_by-cons (λ (y : X). cond false 1 0) x xs in
    let rest = none_counted xs in
    omega (arith, count, rest)

-- no more variables that are written are bound than are written
written_few : (writes : List NameId) (binds : List Bind) → AreUpwards 0 binds → count_by (λ b. is_among writes b.name) binds ≤ length writes
written_few [] binds up = let none = none_counted binds in omega (arith, none)
written_few (w ∷ writes) binds up =
    let rest = written_few writes binds up in
    let here = bound_once 0 w.0 binds up in
    let both = either_counted (λ (b : Bind). nat_eq w.0 b.name.0) (λ b. is_among writes b.name) binds in
    omega (arith, rest, here, both)

-- a name whose kind passes a test is among the bindings of all that pass
found_at : (test : Kind → Bool) (binds : List Bind) (i j : ℕ) (names : List (List ℕ × Kind)) (name : NameId) → name.0 ≡ i + j
    → map (λ b. b.name) binds ≡ ids_from test i names → option_map_or test (kind_at (record { 0 = j }) names) false ≡ true
    → is_none (symbol_at name binds) ≡ false
found_at test binds i j [] name at e passes = absurd (cc)
found_at test [] i zero (entry ∷ names) name at e passes =
    elim (test entry.1) as (λ (t : Bool). t ≡ true → (let none : List NameId = [] in none) ≡ cond t (record { 0 = i } ∷ ids_from test (suc i) names) (ids_from test (suc i) names)
    → is_none (symbol_at name []) ≡ false) [
      | true ↦ λ is ids. absurd (cc)
      | false ↦ λ is ids. absurd (cc)
    ] passes e
found_at test [] i (suc j) (entry ∷ names) name at e passes =
    elim (test entry.1) as (λ (t : Bool). (let none : List NameId = [] in none) ≡ cond t (record { 0 = i } ∷ ids_from test (suc i) names) (ids_from test (suc i) names)
    → is_none (symbol_at name []) ≡ false) [
      | true ↦ λ ids. absurd (cc)
      | false ↦ λ ids. found_at test [] (suc i) j names name (omega (arith, at)) ids passes
    ] e
found_at test (b ∷ binds) i zero (entry ∷ names) name at e passes =
    elim (test entry.1) as (λ (t : Bool). t ≡ true → b.name ∷ map (λ x. x.name) binds ≡ cond t (record { 0 = i } ∷ ids_from test (suc i) names) (ids_from test (suc i) names)
    → is_none (symbol_at name (b ∷ binds)) ≡ false) [
      | true ↦ λ is ids.
          let same : b.name ≡ record { 0 = i } = cc in
          let here : b.name.0 ≡ i = ap (λ (n : NameId). n.0) same in
          elim (nat_eq b.name.0 name.0) as (λ (t : Bool). nat_eq b.name.0 name.0 ≡ t → is_none (cond t (Some b.sym) (symbol_at name binds)) ≡ false) [
            | true ↦ λ found. refl
            | false ↦ λ found. absurd (let differs : b.name.0 ≡ name.0 → ⊥ = grind (arith, nat_tests) in differs (omega (arith, here, at)))
          ] refl
      | false ↦ λ is ids. absurd (cc)
    ] passes e
found_at test (b ∷ binds) i (suc j) (entry ∷ names) name at e passes =
    elim (test entry.1) as (λ (t : Bool). b.name ∷ map (λ x. x.name) binds ≡ cond t (record { 0 = i } ∷ ids_from test (suc i) names) (ids_from test (suc i) names)
    → is_none (symbol_at name (b ∷ binds)) ≡ false) [
      | true ↦ λ ids.
          let rest : map (λ x. x.name) binds ≡ ids_from test (suc i) names = cc in
          elim (nat_eq b.name.0 name.0) as (λ (t : Bool). is_none (cond t (Some b.sym) (symbol_at name binds)) ≡ false) [
            | true ↦ refl
            | false ↦ found_at test binds (suc i) j names name (omega (arith, at)) rest passes
          ]
      | false ↦ λ ids. found_at test (b ∷ binds) (suc i) j names name (omega (arith, at)) ids passes
    ] e

-- where an entry's unit is entered at an entry, what has a value in the unit has one in the state
variable_raised : (entry at_entry : Bool) (kind : Option Kind) → (entry ≡ true → at_entry ≡ true) → option_map_or (is_variable entry) kind false ≡ true
    → option_map_or (is_variable at_entry) kind false ≡ true
variable_raised entry at_entry (Some IntGlobal) more e = refl
variable_raised entry at_entry (Some StrGlobal) more e = refl
variable_raised entry at_entry (Some IntEntry) more e = more e
variable_raised entry at_entry (Some StrEntry) more e = more e
variable_raised entry at_entry (Some Field) more e = absurd (cc)
variable_raised entry at_entry (Some (Builtin op)) more e = absurd (cc)
variable_raised entry at_entry (Some (Wizard body)) more e = absurd (cc)
variable_raised entry at_entry None more e = absurd (cc)

field_raised : (entry at_entry : Bool) (kind : Option Kind) → (entry ≡ true → at_entry ≡ true) → option_map_or (is_field entry) kind false ≡ true
    → option_map_or (is_field at_entry) kind false ≡ true
field_raised entry at_entry (Some Field) more e = more e
field_raised entry at_entry (Some IntGlobal) more e = absurd (cc)
field_raised entry at_entry (Some StrGlobal) more e = absurd (cc)
field_raised entry at_entry (Some IntEntry) more e = absurd (cc)
field_raised entry at_entry (Some StrEntry) more e = absurd (cc)
field_raised entry at_entry (Some (Builtin op)) more e = absurd (cc)
field_raised entry at_entry (Some (Wizard body)) more e = absurd (cc)
field_raised entry at_entry None more e = absurd (cc)

-- no field is a variable
not_both : (entry : Bool) (kind : Option Kind) → option_map_or (is_variable entry) kind false ≡ true → option_map_or (is_field entry) kind false ≡ true → ⊥
not_both entry (Some Field) v f = absurd (cc)
not_both entry (Some IntGlobal) v f = absurd (cc)
not_both entry (Some StrGlobal) v f = absurd (cc)
not_both entry (Some IntEntry) v f = absurd (cc)
not_both entry (Some StrEntry) v f = absurd (cc)
not_both entry (Some (Builtin op)) v f = absurd (cc)
not_both entry (Some (Wizard body)) v f = absurd (cc)
not_both entry None v f = absurd (cc)

abbrev IsVariable : Style → Bool → NameId → Type 0
IsVariable style entry name = option_map_or (is_variable entry) (kind_of style name) false ≡ true

abbrev IsField : Style → Bool → NameId → Type 0
IsField style entry name = option_map_or (is_field entry) (kind_of style name) false ≡ true

not_among : (style : Style) (entry : Bool) (writes : List NameId) (field : NameId) → All (IsVariable style entry) writes → IsField style entry field
    → is_among writes field ≡ false
not_among style entry [] field all is = refl
not_among style entry (w ∷ writes) field all is =
    elim (nat_eq w.0 field.0) as (λ (t : Bool). nat_eq w.0 field.0 ≡ t → (t || is_among writes field) ≡ false) [
      | true ↦ λ same.
          let variable : IsVariable style entry field =
          subst (λ (n : ℕ). let id : NameId = record { 0 = n } in IsVariable style entry id) (same_number w.0 field.0 same)
          (All-head (IsVariable style entry) w writes all) in
          absurd (not_both entry (kind_of style field) variable is)
      | false ↦ λ same. not_among style entry writes field (All-tail (IsVariable style entry) w writes all) is
    ] refl

-- what holds of the names of bindings holds of the one that is found
named_is : (P : NameId → Type 0) (k : ℕ) (binds : List Bind) (name : NameId) → All (λ b. P b.name) binds → name_at k binds ≡ Some name → P name
named_is P k [] name all e = absurd (cc)
named_is P k (b ∷ binds) name all e =
    elim (nat_eq b.sym.0 k) as (λ (t : Bool). cond t (Some b.name) (name_at k binds) ≡ Some name → P name) [
      | true ↦ λ found. let same : b.name ≡ name = cc in subst P same (All-head (λ (x : Bind). P x.name) b binds all)
      | false ↦ λ found. named_is P k binds name (All-tail (λ (x : Bind). P x.name) b binds all) found
    ] e

unnamed : (k : ℕ) (binds : List Bind) → name_at k binds ≡ None → list_any (λ t. nat_eq t.0 k) (map (λ b. b.sym) binds) ≡ false
unnamed k [] e = refl
unnamed k (b ∷ binds) e =
    elim (nat_eq b.sym.0 k) as (λ (t : Bool). cond t (Some b.name) (name_at k binds) ≡ None → (t || list_any (λ s. nat_eq s.0 k) (map (λ x. x.sym) binds)) ≡ false) [
      | true ↦ λ found. absurd (cc)
      | false ↦ λ found. unnamed k binds found
    ] e

there_first : (a b : Option Sym) → is_none a ≡ false → new_one (option_or a b) ≡ 0
there_first (Some s) b e = refl
there_first None b e = absurd (cc)

there_second : (a b : Option Sym) → is_none b ≡ false → new_one (option_or a b) ≡ 0
there_second (Some s) b e = refl
there_second None (Some s) e = refl
there_second None None e = absurd (cc)

-- a symbol is among these
abbrev on_stack : Piece → ℕ → Bool
on_stack post k = list_any (λ t. nat_eq t.0 k) post.stack

-- what a symbol that is named stands for: a written name has a new one, and any other is bound
name_new : (style : Style) (unit : Passage) (state : State) (name : NameId) → WellMade style state → (unit.entry ≡ true → state.at_entry ≡ true)
    → IsVariable style unit.entry name → new_one (unwritten unit state name) ≤ one (is_among unit.writes name)
name_new style unit state name made more is =
    let passes = variable_raised unit.entry state.at_entry (kind_of style name) more is in
    let there = found_at (is_variable state.at_entry) state.vars 0 name.0 style.names name (omega arith) made.binds_vars passes in
    let none = there_first (symbol_at name state.vars) (symbol_at name state.fields) there in
    elim (is_among unit.writes name) as (λ (t : Bool). new_one (cond t None (bound name state)) ≤ one t) [
      | true ↦ omega arith
      | false ↦ omega (arith, none)
    ]

field_new : (style : Style) (unit : Passage) (state : State) (name : NameId) → WellMade style state → (unit.entry ≡ true → state.at_entry ≡ true)
    → All (IsVariable style unit.entry) unit.writes → IsField style unit.entry name → new_one (unwritten unit state name) ≡ 0
field_new style unit state name made more writes is =
    let passes = field_raised unit.entry state.at_entry (kind_of style name) more is in
    let there = found_at (is_field state.at_entry) state.fields 0 name.0 style.names name (omega arith) made.binds_fields passes in
    ap (λ (t : Bool). new_one (cond t None (bound name state))) (not_among style unit.entry unit.writes name writes is)
    ∙ there_second (symbol_at name state.vars) (symbol_at name state.fields) there

-- a symbol of a post that stands at a place is new on the stack or at a written variable alone
new_here : (style : Style) (unit : Passage) (state : State) (post : Piece) (kept k : ℕ) → WellMade style state → (unit.entry ≡ true → state.at_entry ≡ true)
    → IsPlaced style unit kept post → list_any (λ t. nat_eq t.0 k) (placed post) ≡ true
    → new_one (unchanged unit state post k) ≤ one (on_stack post k) + one (is_written unit.writes (name_at k post.vars))
new_here style unit state post kept k made more is has =
    let there : Option NameId → Option Sym = option_and_then (unwritten unit state) in
    let fields : Option NameId = name_at k post.fields in
    let test : Sym → Bool = λ t. nat_eq t.0 k in
    let vs : List Sym = map (λ b. b.sym) post.vars in
    let fs : List Sym = map (λ b. b.sym) post.fields in
    elim (on_stack post k) as (λ (t : Bool). on_stack post k ≡ t
    → new_one (there (cond t None (option_or (name_at k post.vars) fields))) ≤ one t + one (is_written unit.writes (name_at k post.vars))) [
      | true ↦ λ on. omega arith
      | false ↦ λ on.
          elim (name_at k post.vars) as (λ (o : Option NameId). name_at k post.vars ≡ o
          → new_one (there (option_or o fields)) ≤ one false + one (is_written unit.writes o)) [
            | Some v ↦ λ here.
                let few = name_new style unit state v made more (named_is (IsVariable style unit.entry) k post.vars v is.vars here) in
                omega (arith, few)
            | None ↦ λ none.
                elim fields as (λ (o : Option NameId). fields ≡ o → new_one (there o) ≤ one false + one false) [
                  | Some f ↦ λ here.
                      let zero_new = field_new style unit state f made more is.writes (named_is (IsField style unit.entry) k post.fields f is.fields here) in
                      omega (arith, zero_new)
                  | None ↦ λ neither.
                      let lacks : list_any test (placed post) ≡ false =
                      list_any-append test post.stack (vs ++ fs) ∙ ap (λ (t : Bool). t || list_any test (vs ++ fs)) on
                      ∙ list_any-append test vs fs ∙ ap (λ (t : Bool). t || list_any test fs) (unnamed k post.vars none) ∙ unnamed k post.fields neither in
                      absurd (cc)
                ] refl
          ] refl
    ] refl

new_few : (unit : Passage) (state : State) (post : Piece) (s more : ℕ)
    → ((k : ℕ) → s ≤ k → k < s + more → new_one (unchanged unit state post k) ≤ one (on_stack post k) + one (is_written unit.writes (name_at k post.vars)))
    → new_symbols unit state post s more ≤ ranged (on_stack post) s more + ranged (λ k. is_written unit.writes (name_at k post.vars)) s more
new_few unit state post s zero each = omega arith
new_few unit state post s (suc more) each =
    let here = each s (omega arith) (omega arith) in
    let rest = new_few unit state post (suc s) more (λ k low high. each k (omega (arith, low)) (omega (arith, high))) in
    omega (arith, here, rest)

entered : (entry at_entry : Bool) → (not entry || at_entry) ≡ true → entry ≡ true → at_entry ≡ true
entered true at_entry e is = e
entered false at_entry e is = absurd (cc)

-- a state that comes to a unit of an entry is at one
at_entry_of : (unit : Passage) (admits : Cond) (pre : Piece) (state : State) (hints left : List Hint)
    → comes_by unit admits pre state hints ≡ Ok left → unit.entry ≡ true → state.at_entry ≡ true
at_entry_of unit admits pre state hints left e =
    elim (fits unit pre state) as (λ (t : Bool). fits unit pre state ≡ t
    → (let shown : Shown = cond t (piece_by admits state pre 0 hints) (Err (NotEntailed 0)) in shown) ≡ Ok left
    → unit.entry ≡ true → state.at_entry ≡ true) [
      | true ↦ λ is found. entered unit.entry state.at_entry (and_parts (fits_stack unit pre state) (not unit.entry || state.at_entry) is).1
      | false ↦ λ is found. absurd (cc)
    ] refl e

-- a state that a unit leaves by a post has few new symbols: as many as the post's stack, and two for each variable that it writes
pub left_few : (style : Style) (admits : Cond) (unit : Passage) (pre post : Piece) (kept : ℕ) (state : State) (hints left : List Hint)
    → WellMade style state → IsPlaced style unit kept post → comes_by unit admits pre state hints ≡ Ok left
    → (left_state style admits unit pre kept state post).next ≤ state.next + (length post.stack + 2 * length unit.writes)
left_few style admits unit pre post kept state hints left made is came =
    let count : ℕ = own_count post kept in
    let more = at_entry_of unit admits pre state hints left came in
    let new = new_few unit state post kept count
    (λ k low high. new_here style unit state post kept k made more is (is.places k low (omega (arith, low, high)))) in
    let stack = stack_few post.stack kept count in
    let vars = vars_few unit.writes post.vars kept count in
    let written = written_few unit.writes post.vars is.upwards in
    let next = next_few style admits unit pre post kept state in
    omega (arith, new, stack, vars, written, next)
