-- The places of cases: their names and their symbols.
use Rattle.std.proofs.Common.{◌≡◌, ℕ, suc, ◌+◌, ◌<◌, ◌≤◌, Bool, true, false, cond, ap, sym, ◌∙◌, refl, subst, arith, List, [], ◌∷◌, ◌++◌, length, map, nat_eq, Option, Some, None, append_assoc}
use Rattle.std.specs.List.{All}
use Rattle.std.proofs.lemmas.List.{map-append, append-nil}
use Rattle.std.proofs.lemmas.List.Elements.{All-nil, All-cons, All-head, All-tail, All-push, All-weaker}
use Rattle.name_table.specs.declared.names.Kind.{Kind}
use Rattle.name_table.specs.declared.names.NameId.{NameId}
use Rattle.sym_state.specs.State.{State}
use Rattle.sym_state.specs.WellMade.{ids_from}
use Rattle.sym_state.specs.declared.symbol.Bind.{Bind}
use Rattle.sym_state.specs.declared.symbol.Sym.{Sym}
use Rattle.loop_templates.specs.Cases.{is_own, numbered, seat, seated, shared, with_own, with_place}
use Rattle.loop_templates.specs.Rows.{symbol_in}
use Rattle.loop_templates.specs.declared.places.Seats.{Seats}

-- the names of bindings
abbrev pub names_of : List Bind → List NameId
names_of binds = map (λ bind. bind.name) binds

-- the ids of names are below how many there are
pub ids_below : (test : Kind → Bool) (n id : ℕ) (names : List (List ℕ × Kind)) → id + length names ≤ n → All (λ name. name.0 < n) (ids_from test id names)
ids_below test n id [] few = All-nil (λ name. name.0 < n)
ids_below test n id (name ∷ names) few =
    let rest = ids_below test n (suc id) names (omega (arith, few)) in
    elim (test name.1) as (λ (t : Bool). All (λ (name : NameId). name.0 < n) (cond t (record { 0 = id } ∷ ids_from test (suc id) names) (ids_from test (suc id) names))) [
      | true ↦ All-cons (λ name. name.0 < n) (record { 0 = id }) (ids_from test (suc id) names) (omega (arith, few)) rest
      | false ↦ rest
    ]

placed_name : (one : Option Sym) (s : ℕ) (name : NameId) (seats : Seats)
    → names_of (with_place one s name seats).places ≡ names_of seats.places ++ name ∷ []
placed_name (Some it) s name seats = map-append (λ (bind : Bind). bind.name) seats.places (record { name = name; sym = it } ∷ [])
placed_name None s name seats = map-append (λ (bind : Bind). bind.name) seats.places (record { name = name; sym = numbered seats.next } ∷ [])

seat_name : (writes : List NameId) (taken : List Sym) (state : State) (seats : Seats) (name : NameId)
    → names_of (seat writes taken state seats name).places ≡ names_of seats.places ++ name ∷ []
seat_name writes taken state seats name =
    let s = symbol_in state name.0 in
    elim (is_own writes taken state name) as (λ (b : Bool). names_of (cond b (with_own name seats) (with_place (shared s seats.seen) s name seats)).places
    ≡ names_of seats.places ++ name ∷ []) [
      | true ↦ map-append (λ (bind : Bind). bind.name) seats.places (record { name = name; sym = numbered seats.next } ∷ [])
      | false ↦ placed_name (shared s seats.seen) s name seats
    ]

-- each name has its place, in their order
pub seated_names : (writes : List NameId) (taken : List Sym) (state : State) (seats : Seats) (names : List NameId)
    → names_of (seated writes taken state seats names).places ≡ names_of seats.places ++ names
seated_names writes taken state seats [] = sym (append-nil (names_of seats.places))
seated_names writes taken state seats (name ∷ names) =
    seated_names writes taken state (seat writes taken state seats name) names
    ∙ ap (λ (front : List NameId). front ++ names) (seat_name writes taken state seats name)
    ∙ append_assoc (names_of seats.places) (name ∷ []) names

-- bindings of names below a number
pub named_below : (n : ℕ) (binds : List Bind) (names : List NameId) → names_of binds ≡ names → All (λ name. name.0 < n) names → All (λ bind. bind.name.0 < n) binds
named_below n [] names e all = All-nil (λ bind. bind.name.0 < n)
named_below n (b ∷ binds) [] e all = absurd (cc)
named_below n (b ∷ binds) (name ∷ names) e all =
    let first : b.name ≡ name = cc in
    let rest : names_of binds ≡ names = cc in
    All-cons (λ bind. bind.name.0 < n) b binds (subst (λ (m : NameId). m.0 < n) (sym first) (All-head (λ m. m.0 < n) name names all))
    (named_below n binds names rest (All-tail (λ m. m.0 < n) name names all))

-- the symbols of places, and those that stand for a state's, are below the next one
pub record AreSeated (seats : Seats) : Type 0 where
  pub places : All (λ place. place.sym.0 < seats.next) seats.places
  pub seen : All (λ pair. pair.1.0 < seats.next) seats.seen

pub shared_below : (n s : ℕ) (seen : List (Sym × Sym)) (it : Sym) → All (λ pair. pair.1.0 < n) seen → shared s seen ≡ Some it → it.0 < n
shared_below n s [] it all e = absurd (cc)
shared_below n s (pair ∷ seen) it all e =
    elim (nat_eq pair.0.0 s) as (λ (b : Bool). cond b (Some pair.1) (shared s seen) ≡ Some it → it.0 < n) [
      | true ↦ λ (here : Some pair.1 ≡ Some it). (let same : pair.1 ≡ it = cc in subst (λ (m : Sym). m.0 < n) same (All-head (λ p. p.1.0 < n) pair seen all))
      | false ↦ λ (later : shared s seen ≡ Some it). shared_below n s seen it (All-tail (λ p. p.1.0 < n) pair seen all) later
    ] e

more_places : (seats : Seats) (name : NameId) → AreSeated seats
    → All (λ place. place.sym.0 < seats.next + 1) (seats.places ++ record { name = name; sym = numbered seats.next } ∷ [])
more_places seats name made =
    All-push (λ place. place.sym.0 < seats.next + 1) seats.places (record { name = name; sym = numbered seats.next })
    (All-weaker (λ place. place.sym.0 < seats.next) (λ place. place.sym.0 < seats.next + 1) (λ place h. omega (arith, h)) seats.places made.places)
    (omega arith)

more_seen : (seats : Seats) → AreSeated seats → All (λ pair. pair.1.0 < seats.next + 1) seats.seen
more_seen seats made =
    All-weaker (λ pair. pair.1.0 < seats.next) (λ pair. pair.1.0 < seats.next + 1) (λ pair h. omega (arith, h)) seats.seen made.seen

own_seated : (name : NameId) (seats : Seats) → AreSeated seats → AreSeated (with_own name seats)
own_seated name seats made = record { places = more_places seats name made; seen = more_seen seats made }

place_seated : (one : Option Sym) (s : ℕ) (name : NameId) (seats : Seats) → shared s seats.seen ≡ one → AreSeated seats → AreSeated (with_place one s name seats)
place_seated (Some it) s name seats found made = record {
  places = All-push (λ place. place.sym.0 < seats.next) seats.places (record { name = name; sym = it }) made.places
      (shared_below seats.next s seats.seen it made.seen found);
  seen = made.seen;
}
place_seated None s name seats found made = record {
  places = more_places seats name made;
  seen = All-push (λ pair. pair.1.0 < seats.next + 1) seats.seen (numbered s, numbered seats.next) (more_seen seats made) (omega arith);
}

pub seat_seated : (writes : List NameId) (taken : List Sym) (state : State) (seats : Seats) (name : NameId) → AreSeated seats → AreSeated (seat writes taken state seats name)
seat_seated writes taken state seats name made =
    let s = symbol_in state name.0 in
    elim (is_own writes taken state name) as (λ (b : Bool). AreSeated (cond b (with_own name seats) (with_place (shared s seats.seen) s name seats))) [
      | true ↦ own_seated name seats made
      | false ↦ place_seated (shared s seats.seen) s name seats refl made
    ]

-- all places have symbols below the next one
pub all_seated : (writes : List NameId) (taken : List Sym) (state : State) (seats : Seats) (names : List NameId)
    → AreSeated seats → AreSeated (seated writes taken state seats names)
all_seated writes taken state seats [] made = made
all_seated writes taken state seats (name ∷ names) made =
    all_seated writes taken state (seat writes taken state seats name) names (seat_seated writes taken state seats name made)

place_next : (one : Option Sym) (s : ℕ) (name : NameId) (seats : Seats) → (with_place one s name seats).next ≤ seats.next + 1
place_next (Some it) s name seats = omega arith
place_next None s name seats = omega arith

pub seat_next : (writes : List NameId) (taken : List Sym) (state : State) (seats : Seats) (name : NameId) → (seat writes taken state seats name).next ≤ seats.next + 1
seat_next writes taken state seats name =
    let s = symbol_in state name.0 in
    elim (is_own writes taken state name) as (λ (b : Bool). (cond b (with_own name seats) (with_place (shared s seats.seen) s name seats)).next ≤ seats.next + 1) [
      | true ↦ omega arith
      | false ↦ place_next (shared s seats.seen) s name seats
    ]

-- which is no more than one higher for each name
pub seated_next : (writes : List NameId) (taken : List Sym) (state : State) (seats : Seats) (names : List NameId)
    → (seated writes taken state seats names).next ≤ seats.next + length names
seated_next writes taken state seats [] = omega arith
seated_next writes taken state seats (name ∷ names) =
    let one = seat_next writes taken state seats name in
    let rest = seated_next writes taken state (seat writes taken state seats name) names in
    omega (arith, one, rest)
