-- Cases as certificates have them: their names, their symbols and their facts.
use Rattle.std.proofs.Common.{◌≡◌, ℕ, zero, suc, ◌+◌, ◌<◌, ◌≤◌, Bool, true, false, ◌&&◌, ◌||◌, cond, nat_lt, nat_le, ap, ◌∙◌, refl, subst, arith, List, [], ◌∷◌, ◌++◌, length, map, drop, slice_get, Option, Some, None, option_map, ℤ, pos, negsuc}
use Rattle.std.specs.Prelude.{is_some}
use Rattle.std.specs.List.{All, fold, range_with_len}
use Rattle.std.specs.Cmp.Derive.{both_true}
use Rattle.std.proofs.lemmas.Bool.{and_parts}
use Rattle.std.proofs.lemmas.Bool.Decides.{nat_tests}
use Rattle.std.proofs.lemmas.List.{map-append}
use Rattle.std.proofs.lemmas.List.Elements.{All-nil, All-cons, All-head, All-tail}
use Rattle.bv_base.specs.declared.limits.TheConstants.{GREATEST_INTEGER}
use Rattle.name_table.specs.Names.{kind_at}
use Rattle.name_table.specs.Numbers.{has_32_bits}
use Rattle.name_table.specs.Sound.{AreNumbered, Each, IsSound}
use Rattle.name_table.specs.declared.names.Kind.{Kind}
use Rattle.name_table.specs.declared.names.Kind.TheVariants as kind
use Rattle.name_table.specs.declared.names.NameId.{NameId}
use Rattle.name_table.specs.declared.style.Body.{Body}
use Rattle.name_table.specs.declared.style.Style.{Style}
use Rattle.cert_format.specs.CertText.{IsFact, IsVariable, are_placed, is_within, next_behind}
use Rattle.cert_format.specs.CondText.{IsField, is_below, is_chain}
use Rattle.cert_format.specs.PieceItems.{next_after}
use Rattle.cert_format.specs.declared.items.TheConstants.{MOST_NUMBER}
use Rattle.cert_format.specs.declared.limits.TheConstants.{MOST}
use Rattle.cert_format.proofs.CertTargets.{block_number_found}
use Rattle.sym_state.specs.Decided.{says_nothing}
use Rattle.sym_state.specs.Fitting.{FactFits}
use Rattle.sym_state.specs.State.{State}
use Rattle.sym_state.specs.WellMade.{ids_from}
use Rattle.sym_state.specs.declared.symbol.Bind.{Bind}
use Rattle.sym_state.specs.declared.symbol.Fact.{Fact}
use Rattle.sym_state.specs.declared.symbol.Fact.TheVariants as fact
use Rattle.sym_state.specs.declared.symbol.Kinds.TheVariants as kinds
use Rattle.sym_state.specs.declared.symbol.Sym.{Sym}
use Rattle.loop_templates.specs.Bound.{is_bound_field, is_bound_variable}
use Rattle.loop_templates.specs.Cases.{is_given, is_own, keep, numbered, same_fact, seat, seated, shared, stands_before, with_fact, with_own, with_place}
use Rattle.loop_templates.specs.Rows.{symbol_in}
use Rattle.loop_templates.specs.declared.cases.Bound.{Bound}
use Rattle.loop_templates.specs.declared.places.Seats.{Seats}
use Rattle.loop_templates.proofs.Seated.{AreSeated, names_of, seat_next, seat_seated, shared_below}

-- what holds of all holds of each
pub each_of_all : {X : Type 0} (P : X → Type 0) (xs : List X) → All P xs → Each P xs
each_of_all P [] all = tt
each_of_all P (x ∷ xs) all = (All-head P x xs all, each_of_all P xs (All-tail P x xs all))

-- the name at the first of those that are left, and those behind it
name_here : (all names : List (List ℕ × Kind)) (name : List ℕ × Kind) (id : ℕ) → drop id all ≡ name ∷ names → slice_get all id ≡ Some name
name_here [] names name zero is = absurd (cc)
name_here [] names name (suc id) is = absurd (cc)
name_here (first ∷ all) names name zero is = (let same : first ≡ name = cc in ap Some same)
name_here (first ∷ all) names name (suc id) is = name_here all names name id is

names_behind : (all names : List (List ℕ × Kind)) (name : List ℕ × Kind) (id : ℕ) → drop id all ≡ name ∷ names → drop (suc id) all ≡ names
names_behind [] names name zero is = absurd (cc)
names_behind [] names name (suc id) is = absurd (cc)
names_behind (first ∷ all) names name zero is = cc
names_behind (first ∷ all) names name (suc id) is = names_behind all names name id is

-- what holds of each name with a kind that passes
pub ids_hold : (test : Kind → Bool) (P : NameId → Type 0) (all names : List (List ℕ × Kind)) (id : ℕ)
    → ((i : NameId) (k : Kind) → kind_at i all ≡ Some k → test k ≡ true → P i) → drop id all ≡ names → Each P (ids_from test id names)
ids_hold test P all [] id shows is = tt
ids_hold test P all (name ∷ names) id shows is =
    let here : kind_at (record { 0 = id }) all ≡ Some name.1 = ap (option_map (λ (entry : List ℕ × Kind). entry.1)) (name_here all names name id is) in
    let rest = ids_hold test P all names (suc id) shows (names_behind all names name id is) in
    elim (test name.1) as (λ (t : Bool). test name.1 ≡ t → Each P (cond t (record { 0 = id } ∷ ids_from test (suc id) names) (ids_from test (suc id) names))) [
      | true ↦ λ passes. (shows (record { 0 = id }) name.1 here passes, rest)
      | false ↦ λ _. rest
    ] refl

-- a variable that is bound is one of a certificate
variable_of : (bound : Bound) (at_entry : Bool) (names : List (List ℕ × Kind)) (name : NameId) (k : Kind) → (bound.entry ≡ true → at_entry ≡ true)
    → kind_at name names ≡ Some k → is_bound_variable bound k ≡ true → IsVariable at_entry names name
variable_of bound true names name kind.IntEntry there is passes = (rw is refl, rw is refl)
variable_of bound true names name kind.StrEntry there is passes = (rw is refl, rw is refl)
variable_of bound false names name kind.IntEntry there is passes = (let there_is : false ≡ true = there passes in absurd (cc))
variable_of bound false names name kind.StrEntry there is passes = (let there_is : false ≡ true = there passes in absurd (cc))
variable_of bound at_entry names name kind.IntGlobal there is passes = (rw is refl, rw is refl)
variable_of bound at_entry names name kind.StrGlobal there is passes = (rw is refl, rw is refl)
variable_of bound at_entry names name kind.Field there is passes = absurd (cc)
variable_of bound at_entry names name (kind.Builtin op) there is passes = absurd (cc)
variable_of bound at_entry names name (kind.Wizard body) there is passes = absurd (cc)

pub variables_are : (bound : Bound) (at_entry : Bool) (names : List (List ℕ × Kind)) → (bound.entry ≡ true → at_entry ≡ true)
    → Each (IsVariable at_entry names) (ids_from (is_bound_variable bound) 0 names)
variables_are bound at_entry names there =
    ids_hold (is_bound_variable bound) (IsVariable at_entry names) names names 0 (λ name k is passes. variable_of bound at_entry names name k there is passes) refl

-- so is a field
field_of : (bound : Bound) (at_entry : Bool) (names : List (List ℕ × Kind)) (name : NameId) (k : Kind) → (bound.entry ≡ true → at_entry ≡ true)
    → kind_at name names ≡ Some k → is_bound_field bound k ≡ true → IsField names name × (at_entry ≡ true)
field_of bound at_entry names name kind.Field there is passes = (rw is refl, there passes)
field_of bound at_entry names name kind.IntEntry there is passes = absurd (cc)
field_of bound at_entry names name kind.StrEntry there is passes = absurd (cc)
field_of bound at_entry names name kind.IntGlobal there is passes = absurd (cc)
field_of bound at_entry names name kind.StrGlobal there is passes = absurd (cc)
field_of bound at_entry names name (kind.Builtin op) there is passes = absurd (cc)
field_of bound at_entry names name (kind.Wizard body) there is passes = absurd (cc)

pub fields_are : (bound : Bound) (at_entry : Bool) (names : List (List ℕ × Kind)) → (bound.entry ≡ true → at_entry ≡ true)
    → Each (λ name. IsField names name × (at_entry ≡ true)) (ids_from (is_bound_field bound) 0 names)
fields_are bound at_entry names there =
    ids_hold (is_bound_field bound) (λ name. IsField names name × (at_entry ≡ true)) names names 0
    (λ name k is passes. field_of bound at_entry names name k there is passes) refl

-- names rise
below_next : (i id : ℕ) → i < id → nat_lt i id ≡ true
below_next i id less = grind (arith, nat_tests)

rise_behind : (test : Kind → Bool) (i id : ℕ) (names : List (List ℕ × Kind)) → i < id → is_chain is_below (record { 0 = i } ∷ ids_from test id names) ≡ true
rise_behind test i id [] less = refl
rise_behind test i id (name ∷ names) less =
    let first : NameId = record { 0 = i } in
    elim (test name.1) as (λ (t : Bool). is_chain is_below (first ∷ cond t (record { 0 = id } ∷ ids_from test (suc id) names) (ids_from test (suc id) names)) ≡ true) [
      | true ↦ both_true (below_next i id less) (rise_behind test id (suc id) names (omega arith))
      | false ↦ rise_behind test i (suc id) names (omega (arith, less))
    ]

pub names_rise : (test : Kind → Bool) (id : ℕ) (names : List (List ℕ × Kind)) → is_chain is_below (ids_from test id names) ≡ true
names_rise test id [] = refl
names_rise test id (name ∷ names) =
    elim (test name.1) as (λ (t : Bool). is_chain is_below (cond t (record { 0 = id } ∷ ids_from test (suc id) names) (ids_from test (suc id) names)) ≡ true) [
      | true ↦ rise_behind test id (suc id) names (omega arith)
      | false ↦ names_rise test (suc id) names
    ]

-- bindings by their names
pub binds_each : (P : NameId → Type 0) (binds : List Bind) → Each P (names_of binds) → Each (λ bind. P bind.name) binds
binds_each P [] each = tt
binds_each P (bind ∷ binds) each = (each.0, binds_each P binds each.1)

pub binds_rise : (binds : List Bind) → is_chain is_below (names_of binds) ≡ is_chain (λ a b. is_below a.name b.name) binds
binds_rise [] = refl
binds_rise (a ∷ []) = refl
binds_rise (a ∷ (b ∷ binds)) = ap (λ (rest : Bool). is_below a.name b.name && rest) (binds_rise (b ∷ binds))

-- one more symbol stands before or is the next new one
placed_more : (n : ℕ) (syms : List Sym) (s : Sym) → are_placed n syms ≡ true → nat_le s.0 (next_behind n syms) ≡ true → are_placed n (syms ++ s ∷ []) ≡ true
placed_more n [] s placed next = both_true next refl
placed_more n (first ∷ syms) s placed next =
    let parts = and_parts (nat_le first.0 n) (are_placed (next_after n first) syms) placed in
    both_true parts.0 (placed_more (next_after n first) syms s parts.1 next)

behind_more : (n : ℕ) (syms : List Sym) (s : Sym) → next_behind n (syms ++ s ∷ []) ≡ next_after (next_behind n syms) s
behind_more n [] s = refl
behind_more n (first ∷ syms) s = behind_more (next_after n first) syms s

-- the symbols of places
abbrev pub syms_of : List Bind → List Sym
syms_of binds = map (λ bind. bind.sym) binds

-- they are placed behind a number, up to the next one
pub record AreTaken (n : ℕ) (seats : Seats) : Type 0 where
  pub placed : are_placed n (syms_of seats.places) ≡ true
  pub next : next_behind n (syms_of seats.places) ≡ seats.next

le_itself : (m n : ℕ) → m ≡ n → nat_le n m ≡ true
le_itself m n same = grind (arith, nat_tests)

le_below : (m n k : ℕ) → m ≡ n → k < n → nat_le k m ≡ true
le_below m n k same less = grind (arith, nat_tests)

one_taken : (n : ℕ) (binds : List Bind) (name : NameId) (s : Sym) (next after : ℕ) → are_placed n (syms_of binds) ≡ true → next_behind n (syms_of binds) ≡ next
    → nat_le s.0 next ≡ true → next_after next s ≡ after
    → (are_placed n (syms_of (binds ++ record { name = name; sym = s } ∷ [])) ≡ true) × (next_behind n (syms_of (binds ++ record { name = name; sym = s } ∷ [])) ≡ after)
one_taken n binds name s next after placed behind within goes =
    let bind : Bind = record { name = name; sym = s } in
    let split = map-append (λ (b : Bind). b.sym) binds (bind ∷ []) in (
      ap (are_placed n) split ∙ placed_more n (syms_of binds) s placed (ap (nat_le s.0) behind ∙ within),
      ap (next_behind n) split ∙ behind_more n (syms_of binds) s ∙ ap (λ (m : ℕ). next_after m s) behind ∙ goes,
    )

new_after : (next : ℕ) → next + 1 ≤ MOST_NUMBER → next_after next (numbered next) ≡ next + 1
new_after next few = omega (arith, few)

old_after : (next : ℕ) (s : Sym) → next ≤ MOST_NUMBER → s.0 < next → next_after next s ≡ next
old_after next s few less = omega (arith, few, less)

own_taken : (n : ℕ) (name : NameId) (seats : Seats) → seats.next + 1 ≤ MOST_NUMBER → AreTaken n seats → AreTaken n (with_own name seats)
own_taken n name seats few taken =
    let more = one_taken n seats.places name (numbered seats.next) seats.next (seats.next + 1) taken.placed taken.next (le_itself seats.next seats.next refl)
    (new_after seats.next few) in
    record { placed = more.0; next = more.1 }

place_taken : (n s : ℕ) (one : Option Sym) (name : NameId) (seats : Seats) → shared s seats.seen ≡ one → seats.next + 1 ≤ MOST_NUMBER → AreSeated seats → AreTaken n seats
    → AreTaken n (with_place one s name seats)
place_taken n s (Some it) name seats found few made taken =
    let below = shared_below seats.next s seats.seen it made.seen found in
    let more = one_taken n seats.places name it seats.next seats.next taken.placed taken.next (le_below seats.next seats.next it.0 refl below)
    (old_after seats.next it (omega (arith, few)) below) in
    record { placed = more.0; next = more.1 }
place_taken n s None name seats found few made taken =
    let more = one_taken n seats.places name (numbered seats.next) seats.next (seats.next + 1) taken.placed taken.next (le_itself seats.next seats.next refl)
    (new_after seats.next few) in
    record { placed = more.0; next = more.1 }

seat_taken : (n : ℕ) (writes : List NameId) (syms : List Sym) (state : State) (seats : Seats) (name : NameId) → seats.next + 1 ≤ MOST_NUMBER → AreSeated seats
    → AreTaken n seats → AreTaken n (seat writes syms state seats name)
seat_taken n writes syms state seats name few made taken =
    let s = symbol_in state name.0 in
    elim (is_own writes syms state name) as (λ (b : Bool). AreTaken n (cond b (with_own name seats) (with_place (shared s seats.seen) s name seats))) [
      | true ↦ own_taken n name seats few taken
      | false ↦ place_taken n s (shared s seats.seen) name seats refl few made taken
    ]

-- all places are placed so
pub all_taken : (n : ℕ) (writes : List NameId) (syms : List Sym) (state : State) (seats : Seats) (names : List NameId) → seats.next + length names ≤ MOST_NUMBER
    → AreSeated seats → AreTaken n seats → AreTaken n (seated writes syms state seats names)
all_taken n writes syms state seats [] few made taken = taken
all_taken n writes syms state seats (name ∷ names) few made taken =
    let one = seat_next writes syms state seats name in
    all_taken n writes syms state (seat writes syms state seats name) names (omega (arith, few, one)) (seat_seated writes syms state seats name made)
    (seat_taken n writes syms state seats name (omega (arith, few)) made taken)

-- the next new one is no lower than the first
after_least : (n : ℕ) (s : Sym) → n ≤ MOST_NUMBER → (n ≤ next_after n s) × (next_after n s ≤ MOST_NUMBER)
after_least n s few = (omega (arith, few), omega (arith, few))

pub behind_least : (n : ℕ) (syms : List Sym) → n ≤ MOST_NUMBER → n ≤ next_behind n syms
behind_least n [] few = omega arith
behind_least n (s ∷ syms) few =
    let one = after_least n s few in
    let low = one.0 in
    let rest = behind_least (next_after n s) syms one.1 in
    omega (arith, low, rest)

-- behind the symbols of a stack that are numbered
pub numbers_placed : (k n : ℕ) (syms : List Sym) → k + n ≤ MOST_NUMBER → are_placed (k + n) syms ≡ true
    → are_placed k (map numbered (range_with_len k n) ++ syms) ≡ true
numbers_placed k zero syms few placed = subst (λ (m : ℕ). are_placed m syms ≡ true) (let same : k + 0 ≡ k = omega arith in same) placed
numbers_placed k (suc n) syms few placed =
    let rest : List Sym = map numbered (range_with_len (k + 1) n) ++ syms in
    let next : next_after k (numbered k) ≡ k + 1 = new_after k (omega (arith, few)) in
    let moved : k + suc n ≡ (k + 1) + n = omega arith in
    both_true (le_itself k k refl)
    (ap (λ (m : ℕ). are_placed m rest) next
    ∙ numbers_placed (k + 1) n syms (omega (arith, few)) (subst (λ (m : ℕ). are_placed m syms ≡ true) moved placed))

pub numbers_behind : (k n : ℕ) (syms : List Sym) → k + n ≤ MOST_NUMBER → next_behind k (map numbered (range_with_len k n) ++ syms) ≡ next_behind (k + n) syms
numbers_behind k zero syms few = ap (λ (m : ℕ). next_behind m syms) (let same : k ≡ k + 0 = omega arith in same)
numbers_behind k (suc n) syms few =
    let rest : List Sym = map numbered (range_with_len (k + 1) n) ++ syms in
    let next : next_after k (numbered k) ≡ k + 1 = new_after k (omega (arith, few)) in
    let moved : (k + 1) + n ≡ k + suc n = omega arith in
    ap (λ (m : ℕ). next_behind m rest) next
    ∙ numbers_behind (k + 1) n syms (omega (arith, few))
    ∙ ap (λ (m : ℕ). next_behind m syms) moved

-- a fact of a case isn't one that says nothing
abbrev pub SaysSome : Fact → Type 0
SaysSome it = says_nothing it ≡ false

put_says : (it : Fact) (kept : List Fact) → SaysSome it → All SaysSome kept → All SaysSome (with_fact it kept)
put_says it [] h all = All-cons SaysSome it [] h (All-nil SaysSome)
put_says it (first ∷ facts) h all =
    let later = All-cons SaysSome first (with_fact it facts) (All-head SaysSome first facts all) (put_says it facts h (All-tail SaysSome first facts all)) in
    elim (stands_before it first) as (λ (b : Bool). All SaysSome (cond b (it ∷ (first ∷ facts)) (cond (same_fact it first) (first ∷ facts) (first ∷ with_fact it facts)))) [
      | true ↦ All-cons SaysSome it (first ∷ facts) h all
      | false ↦ elim (same_fact it first) as (λ (b : Bool). All SaysSome (cond b (first ∷ facts) (first ∷ with_fact it facts))) [
        | true ↦ all
        | false ↦ later
      ]
    ]

some_said : (a b : Bool) → (a || b) ≡ false → a ≡ false
some_said false b e = refl
some_said true b e = e

pub kept_says : (given kept facts : List Fact) → All SaysSome kept → All SaysSome (fold (keep given) kept facts)
kept_says given kept [] all = all
kept_says given kept (it ∷ facts) all =
    kept_says given (keep given kept it) facts
    (elim (is_given given it) as (λ (b : Bool). is_given given it ≡ b → All SaysSome (cond b kept (with_fact it kept))) [
      | true ↦ λ _. all
      | false ↦ λ new. put_says it kept (some_said (says_nothing it) _ new) all
    ] refl)

-- a name of the style has a kind
kind_there : (names : List (List ℕ × Kind)) (id : ℕ) → id < length names → is_some (kind_at (record { 0 = id }) names) ≡ true
kind_there [] id within = absurd (omega (arith, within))
kind_there (name ∷ names) zero within = refl
kind_there (name ∷ names) (suc id) within = kind_there names id (omega (arith, within))

integer_within : (n : ℤ) → has_32_bits n ≡ true → is_within (suc GREATEST_INTEGER) GREATEST_INTEGER n ≡ true
integer_within (pos n) is = is
integer_within (negsuc n) is = grind (arith, nat_tests)

-- numbers of blocks are fewer than there are bodies
few_here : (o : Option ℕ) (n number : ℕ) (bodies : List Body) → AreNumbered n (o ∷ map (λ body. body.block) bodies) → Some o ≡ Some (Some number)
    → number < n + suc (length bodies)
few_here None n number bodies h e = absurd (cc)
few_here (Some k) n number bodies h e = (let same : k ≡ number = cc in let first = h.0 in omega (arith, same, first))

few_behind : (o : Option ℕ) (n number : ℕ) (bodies : List Body) → AreNumbered n (o ∷ map (λ body. body.block) bodies)
    → ((m : ℕ) → AreNumbered m (map (λ body. body.block) bodies) → number < m + length bodies) → number < n + suc (length bodies)
few_behind None n number bodies h later = (let few = later n h in omega (arith, few))
few_behind (Some k) n number bodies h later = (let few = later (suc n) h.1 in omega (arith, few))

block_few : (bodies : List Body) (n at number : ℕ) → AreNumbered n (map (λ body. body.block) bodies)
    → option_map (λ (body : Body). body.block) (slice_get bodies at) ≡ Some (Some number) → number < n + length bodies
block_few [] n at number order is = absurd (cc)
block_few (body ∷ bodies) n zero number order is = few_here body.block n number bodies order is
block_few (body ∷ bodies) n (suc at) number order is = few_behind body.block n number bodies order (λ m h. block_few bodies m at number h is)

-- a fact that fits and says something is one of a certificate
pub is_fact : (style : Style) (m : ℕ) (it : Fact) → IsSound style → FactFits style m it → SaysSome it → IsFact style m it
is_fact style m (fact.Is s kinds.Int) sound fits some = (fits.below, refl)
is_fact style m (fact.Is s kinds.Str) sound fits some = (fits.below, refl)
is_fact style m (fact.Is s kinds.Missing) sound fits some = (fits.below, refl)
is_fact style m (fact.Is s kinds.Optional) sound fits some = (fits.below, refl)
is_fact style m (fact.Is s kinds.Func) sound fits some = (fits.below, refl)
is_fact style m (fact.Is s kinds.Any) sound fits some = absurd (cc)
is_fact style m (fact.Int s n) sound fits some = (fits.below, integer_within n fits.integer)
is_fact style m (fact.Text s text) sound fits some = (fits.below, fits.bytes)
is_fact style m (fact.Call s name) sound fits some = (fits.below, kind_there style.names name.0 fits.of_style)
is_fact style m (fact.Block s number) sound fits some =
    let body = fits.of_style.0 in
    let is = fits.of_style.1 in
    let few = block_few style.bodies 0 body.0 number sound.numbered is in
    let most = sound.few_bodies in
    let within : number ≤ MOST = omega (arith, few, most) in
    (fits.below, within, ap is_some (block_number_found style.bodies body number sound.numbered is))
is_fact style m (fact.Blank s) sound fits some = fits.below
is_fact style m (fact.Nonblank s) sound fits some = fits.below
is_fact style m (fact.Wellformed s) sound fits some = fits.below
