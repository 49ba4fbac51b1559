-- The references found by look-up are, of all, those behind which something is left.
use Rattle.std.proofs.Common.{◌≡◌, ◌≢◌, ℕ, zero, suc, ◌+◌, ◌<◌, ◌≤◌, ◌⊎◌, Bool, true, false, cond, ◌&&◌, ◌||◌, List, [], ◌∷◌, ◌++◌, length, map, take, slice_get, Option, None, Some, ap, sym, ◌∙◌, refl, subst, arith, append_assoc, nat_eq, nat_lt, inl, inr, ltb-true, ltb-false}
use Rattle.std.specs.Prelude.{ℤ, pos, negsuc, ◌+ℤ◌, int_lt, is_some}
use Rattle.std.specs.List.{filter, flat_map, range_with_len}
use Rattle.std.specs.Option.{IfSome, option_and_then, option_map}
use Rattle.std.proofs.lemmas.Bool.{ne_eqb}
use Rattle.std.proofs.lemmas.Bool.Decides.{eqb_tells}
use Rattle.std.proofs.lemmas.List.{append-nil}
use Rattle.lin_facts.specs.Rows.{coefficient_of, same_term}
use Rattle.lin_facts.specs.declared.row.Row.{Row}
use Rattle.lin_facts.specs.declared.row.Term.{Term}
use Rattle.lin_facts.specs.declared.row.Term.TheVariants.{Value, Length, Names, Pos, Count}
use Rattle.bst_meaning.specs.declared.condition.Cond.{Cond}
use Rattle.sym_state.specs.Decided.{exact_integer, exact_text, is_known_nonblank}
use Rattle.sym_state.specs.References.{at_least, at_most, exceeds, row_said}
use Rattle.sym_state.specs.State.{State}
use Rattle.sym_state.specs.declared.proof.Reference.{Reference}
use Rattle.sym_state.specs.declared.proof.Reference.TheVariants as ref
use Rattle.sym_state.specs.declared.symbol.Sym.{Sym}
use Rattle.straight_proofs.specs.Lookup.{on_term, references_to, row_on, rows_on, sym as symbol}
use Rattle.straight_proofs.specs.Remainders.{fits, minus, same_sign}
use Rattle.straight_proofs.specs.Straight.{kinds, left_behind, on_entries, on_symbols, references, rows_named}

-- a reference that isn't kept
passed : (b : Reference → Bool) (r : Reference) (more : List Reference) → b r ≡ false → filter b (r ∷ more) ≡ filter b more
passed b r more e = ap (λ (z : Bool). cond z (r ∷ filter b more) (filter b more)) e

-- those that are kept behind a first reference
under : (b : Reference → Bool) (r : Reference) (more others : List Reference)
    → filter b more ≡ filter b others → filter b (r ∷ more) ≡ filter b (r ∷ others)
under b r more others e = ap (λ (rest : List Reference). cond (b r) (r ∷ rest) rest) e

-- and behind some
under_all : (b : Reference → Bool) (front more others : List Reference)
    → filter b more ≡ filter b others → filter b (front ++ more) ≡ filter b (front ++ others)
under_all b [] more others e = e
under_all b (r ∷ front) more others e = under b r (front ++ more) (front ++ others) (under_all b front more others e)

-- whether the row of a reference may have a term
abbrev pub speaks : Reference → Term → Bool
speaks (ref.Row k) t = true
speaks (ref.ValueLow s) t = same_term (Value s.0) t
speaks (ref.ValueHigh s) t = same_term (Value s.0) t
speaks (ref.LengthLow s) t = same_term (Length s.0) t
speaks (ref.NamesLow s) t = same_term (Names s.0) t
speaks (ref.NamesHigh s) t = same_term (Length s.0) t || same_term (Names s.0) t
speaks (ref.ExactLow s) t = same_term (Value s.0) t
speaks (ref.ExactHigh s) t = same_term (Value s.0) t
speaks (ref.NonblankLength s) t = same_term (Length s.0) t
speaks (ref.NonblankNames s) t = same_term (Names s.0) t
speaks (ref.TextLow s) t = same_term (Length s.0) t
speaks (ref.TextHigh s) t = same_term (Length s.0) t
speaks ref.PosLow t = same_term Pos t
speaks ref.PosHigh t = same_term Count t || same_term Pos t
speaks ref.CountLow t = same_term Count t
speaks ref.CountHigh t = same_term Count t

-- a row doesn't have a term
abbrev pub Lacks : Term → Row → Type 0
Lacks t row = coefficient_of row.parts t ≡ pos 0

one_lacks : (b : Bool) (n : ℤ) → b ≡ false → (cond b n (pos 0) +ℤ pos 0) ≡ pos 0
one_lacks b n e = ap (λ (z : Bool). cond z n (pos 0) +ℤ pos 0) e

two_lack : (b d : Bool) (m n : ℤ) → (b || d) ≡ false → (cond b m (pos 0) +ℤ (cond d n (pos 0) +ℤ pos 0)) ≡ pos 0
two_lack true d m n e = absurd (cc)
two_lack false d m n e = ap (λ (z : Bool). pos 0 +ℤ (cond z n (pos 0) +ℤ pos 0)) e

least_lacks : (u t : Term) (n : ℤ) → same_term u t ≡ false → Lacks t (at_least u n)
least_lacks u t n e = one_lacks (same_term u t) (pos 1) e

most_lacks : (u t : Term) (n : ℤ) → same_term u t ≡ false → Lacks t (at_most u n)
most_lacks u t n e = one_lacks (same_term u t) (negsuc 0) e

over_lacks : (u v t : Term) (n : ℤ) → (same_term u t || same_term v t) ≡ false → Lacks t (exceeds u v n)
over_lacks u v t n e = two_lack (same_term u t) (same_term v t) (pos 1) (negsuc 0) e

-- where a row is there only if something holds
if_kept : (b : Bool) (P : Row → Type 0) (o : Option Row) → IfSome o P → IfSome (cond b o None) P
if_kept true P o h = h
if_kept false P o h = tt

if_mapped : {X : Type 0} (P : Row → Type 0) (f : X → Row) (o : Option X) → ((x : X) → P (f x)) → IfSome (option_map f o) P
if_mapped P f None h = tt
if_mapped P f (Some x) h = h x

-- a reference that doesn't speak of a term has a row without it
silent : (c : Cond) (state : State) (t : Term) (r : Reference) → speaks r t ≡ false → IfSome (row_said c state r) (Lacks t)
silent c state t (ref.Row k) e = absurd (cc)
silent c state t (ref.ValueLow s) e = if_kept (nat_lt s.0 state.next) (Lacks t) _ (least_lacks (Value s.0) t (pos 0) e)
silent c state t (ref.ValueHigh s) e = if_kept (nat_lt s.0 state.next) (Lacks t) _ (most_lacks (Value s.0) t (pos 0) e)
silent c state t (ref.LengthLow s) e = if_kept (nat_lt s.0 state.next) (Lacks t) _ (least_lacks (Length s.0) t (pos 0) e)
silent c state t (ref.NamesLow s) e = if_kept (nat_lt s.0 state.next) (Lacks t) _ (least_lacks (Names s.0) t (pos 0) e)
silent c state t (ref.NamesHigh s) e = if_kept (nat_lt s.0 state.next) (Lacks t) _ (over_lacks (Length s.0) (Names s.0) t (pos 0) e)
silent c state t (ref.ExactLow s) e =
    if_kept (nat_lt s.0 state.next) (Lacks t) _
    (if_mapped (Lacks t) (at_least (Value s.0)) (exact_integer state.facts s.0) (λ n. least_lacks (Value s.0) t n e))
silent c state t (ref.ExactHigh s) e =
    if_kept (nat_lt s.0 state.next) (Lacks t) _
    (if_mapped (Lacks t) (at_most (Value s.0)) (exact_integer state.facts s.0) (λ n. most_lacks (Value s.0) t n e))
silent c state t (ref.NonblankLength s) e =
    if_kept (nat_lt s.0 state.next) (Lacks t) _
    (if_kept (is_known_nonblank state.facts s.0) (Lacks t) _ (least_lacks (Length s.0) t (pos 0) e))
silent c state t (ref.NonblankNames s) e =
    if_kept (nat_lt s.0 state.next) (Lacks t) _
    (if_kept (is_known_nonblank state.facts s.0) (Lacks t) _ (least_lacks (Names s.0) t (pos 0) e))
silent c state t (ref.TextLow s) e =
    if_kept (nat_lt s.0 state.next) (Lacks t) _
    (if_mapped (Lacks t) _ (exact_text state.facts s.0) (λ text. least_lacks (Length s.0) t (pos (length text)) e))
silent c state t (ref.TextHigh s) e =
    if_kept (nat_lt s.0 state.next) (Lacks t) _
    (if_mapped (Lacks t) _ (exact_text state.facts s.0) (λ text. most_lacks (Length s.0) t (pos (length text)) e))
silent c state t ref.PosLow e = if_kept state.at_entry (Lacks t) _ (least_lacks Pos t (pos 0) e)
silent c state t ref.PosHigh e = if_kept state.at_entry (Lacks t) _ (over_lacks Count Pos t (pos 0) e)
silent c state t ref.CountLow e = least_lacks Count t (pos 0) e
silent c state t ref.CountHigh e = most_lacks Count t (pos 0) e

-- 0 has no sign
no_sign : (m : ℤ) → same_sign m (pos 0) ≡ false
no_sign m =
    elim (int_lt (pos 0) m) as (λ (b : Bool). ((b && false) || (int_lt m (pos 0) && false)) ≡ false) [
      | true ↦ elim (int_lt m (pos 0)) as (λ (b : Bool). (b && false) ≡ false) [ true ↦ refl | false ↦ refl ]
      | false ↦ elim (int_lt m (pos 0)) as (λ (b : Bool). (b && false) ≡ false) [ true ↦ refl | false ↦ refl ]
    ]

-- whether something is left behind a reference, where a term leads
abbrev pub leaves : Cond → State → Term → Row → Reference → Bool
leaves c state t remainder r = is_some (left_behind c state (Some t) remainder r)

-- whether something is left behind a row that is said
abbrev pub tried : Term → Row → Option Row → Bool
tried t remainder row = is_some (option_and_then (λ row. cond (fits (Some t) remainder row) (Some (minus remainder row)) None) row)

unfit : (t : Term) (remainder : Row) (row : Row) → fits (Some t) remainder row ≡ false → tried t remainder (Some row) ≡ false
unfit t remainder row e = ap (λ (b : Bool). is_some (cond b (Some (minus remainder row)) None)) e

lacking : (t : Term) (remainder : Row) (row : Option Row) → IfSome row (Lacks t) → tried t remainder row ≡ false
lacking t remainder None h = refl
lacking t remainder (Some row) h =
    unfit t remainder row (ap (λ (n : ℤ). same_sign (coefficient_of remainder.parts t) n) h ∙ no_sign (coefficient_of remainder.parts t))

-- nothing is left behind a reference that doesn't speak of the lead
passes : (c : Cond) (state : State) (t : Term) (remainder : Row) (r : Reference) → speaks r t ≡ false
    → leaves c state t remainder r ≡ false
passes c state t remainder r e = lacking t remainder (row_said c state r) (silent c state t r e)

-- a reference of a kind to each of some symbols
abbrev pub each : (Sym → Reference) → ℕ → ℕ → List Reference
each kind a m = map (λ s. kind (record { 0 = s })) (range_with_len a m)

pass_all : (b : Reference → Bool) (kind : Sym → Reference) (a m : ℕ) (rest : List Reference)
    → ((k : ℕ) → a ≤ k → k < a + m → b (kind (symbol k)) ≡ false) → filter b (each kind a m ++ rest) ≡ filter b rest
pass_all b kind a zero rest h = refl
pass_all b kind a (suc m) rest h =
    passed b (kind (symbol a)) (each kind (a + 1) m ++ rest) (h a (omega arith) (omega arith))
    ∙ pass_all b kind (a + 1) m rest (λ k low high. h k (omega arith) (omega arith))

find_step : (b : Reference → Bool) (kind : Sym → Reference) (s a m : ℕ) (rest : List Reference)
    → ((k : ℕ) → k ≢ s → b (kind (symbol k)) ≡ false) → a ≤ s → s < a + suc m
    → (a + 1 ≤ s → s < (a + 1) + m → filter b (each kind (a + 1) m ++ rest) ≡ filter b (kind (symbol s) ∷ rest))
    → ((nat_eq a s ≡ true) × (a ≡ s)) ⊎ ((nat_eq a s ≡ false) × (a ≢ s))
    → filter b (kind (symbol a) ∷ (each kind (a + 1) m ++ rest)) ≡ filter b (kind (symbol s) ∷ rest)
find_step b kind s a m rest h low high next (inl e) =
    let same : a ≡ s = e.1 in
    subst (λ (k : ℕ). filter b (kind (symbol a) ∷ (each kind (a + 1) m ++ rest)) ≡ filter b (kind (symbol k) ∷ rest)) same
    (under b (kind (symbol a)) (each kind (a + 1) m ++ rest) rest
    (pass_all b kind (a + 1) m rest (λ k least most. h k (λ (f : k ≡ s). absurd (omega arith)))))
find_step b kind s a m rest h low high next (inr e) =
    let other : a ≢ s = e.1 in
    passed b (kind (symbol a)) (each kind (a + 1) m ++ rest) (h a other) ∙ next (omega arith) (omega arith)

find_one : (b : Reference → Bool) (kind : Sym → Reference) (s a m : ℕ) (rest : List Reference)
    → ((k : ℕ) → k ≢ s → b (kind (symbol k)) ≡ false) → a ≤ s → s < a + m
    → filter b (each kind a m ++ rest) ≡ filter b (kind (symbol s) ∷ rest)
find_one b kind s a zero rest h low high = absurd (omega arith)
find_one b kind s a (suc m) rest h low high =
    find_step b kind s a m rest h low high (λ l m'. find_one b kind s (a + 1) m rest h l m') (eqb_tells a s)

-- a kind of references, and those of it that are wanted: of all of the kind these are kept
record Pick (c : Cond) (state : State) (t : Term) (remainder : Row) : Type 0 where
  kind : Sym → Reference
  wanted : List Reference
  kept : (rest : List Reference) → filter (leaves c state t remainder) (on_symbols state kind ++ rest) ≡ filter (leaves c state t remainder) (wanted ++ rest)

-- of a kind that doesn't speak of the lead none is wanted
abbrev none_of : (c : Cond) (state : State) (t : Term) (remainder : Row) (kind : Sym → Reference)
    → ((k : ℕ) → speaks (kind (symbol k)) t ≡ false) → Pick c state t remainder
none_of c state t remainder kind h = record {
  kind = kind;
  wanted = [];
  kept = λ rest.
      pass_all (leaves c state t remainder) kind 0 state.next rest (λ k low high. passes c state t remainder (kind (symbol k)) (h k));
}

-- of a kind that speaks of the lead the one to its symbol is
one_in_reach : (c : Cond) (state : State) (t : Term) (remainder : Row) (kind : Sym → Reference) (s : ℕ)
    → ((k : ℕ) → nat_eq k s ≡ false → speaks (kind (symbol k)) t ≡ false)
    → (nat_lt s state.next ≡ false → row_said c state (kind (symbol s)) ≡ None)
    → (rest : List Reference) → (b : Bool) → nat_lt s state.next ≡ b
    → filter (leaves c state t remainder) (on_symbols state kind ++ rest) ≡ filter (leaves c state t remainder) (kind (symbol s) ∷ rest)
one_in_reach c state t remainder kind s h beyond rest true e =
    find_one (leaves c state t remainder) kind s 0 state.next rest
    (λ k other. passes c state t remainder (kind (symbol k)) (h k (ne_eqb k s other))) (omega arith) (omega (arith, ltb-true s state.next e))
one_in_reach c state t remainder kind s h beyond rest false e =
    let absent : leaves c state t remainder (kind (symbol s)) ≡ false =
    ap (tried t remainder) (beyond e) in
    pass_all (leaves c state t remainder) kind 0 state.next rest
    (λ k low high. passes c state t remainder (kind (symbol k))
    (h k (ne_eqb k s (λ (f : k ≡ s). absurd (omega (arith, ltb-false s state.next e))))))
    ∙ sym (passed (leaves c state t remainder) (kind (symbol s)) rest absent)

abbrev one_of : (c : Cond) (state : State) (t : Term) (remainder : Row) (s : ℕ) (kind : Sym → Reference)
    → ((k : ℕ) → nat_eq k s ≡ false → speaks (kind (symbol k)) t ≡ false)
    → (nat_lt s state.next ≡ false → row_said c state (kind (symbol s)) ≡ None) → Pick c state t remainder
one_of c state t remainder s kind h beyond = record {
  kind = kind;
  wanted = kind (symbol s) ∷ [];
  kept = λ rest. one_in_reach c state t remainder kind s h beyond rest (nat_lt s state.next) refl;
}

-- of all kinds those are kept that are wanted of each
picked : (c : Cond) (state : State) (t : Term) (remainder : Row) (picks : List (Pick c state t remainder)) (rest : List Reference)
    → filter (leaves c state t remainder) (flat_map (on_symbols state) (map (λ (pick : Pick c state t remainder). pick.kind) picks) ++ rest)
    ≡ filter (leaves c state t remainder) (flat_map (λ (pick : Pick c state t remainder). pick.wanted) picks ++ rest)
picked c state t remainder [] rest = refl
picked c state t remainder (pick ∷ picks) rest =
    let b = leaves c state t remainder in
    let more = flat_map (on_symbols state) (map (λ (p : Pick c state t remainder). p.kind) picks) in
    let wanted = flat_map (λ (p : Pick c state t remainder). p.wanted) picks in
    ap (filter b) (append_assoc (on_symbols state pick.kind) more rest)
    ∙ pick.kept (more ++ rest)
    ∙ under_all b pick.wanted (more ++ rest) (wanted ++ rest) (picked c state t remainder picks rest)
    ∙ ap (filter b) (sym (append_assoc pick.wanted wanted rest))

-- the references to a term's symbol, and to no symbol, among those of all kinds
abbrev pub FindsOn : Cond → State → Term → Row → Type 0
FindsOn c state t remainder =
    filter (leaves c state t remainder) (flat_map (on_symbols state) kinds ++ on_entries) ≡ filter (leaves c state t remainder) (on_term t)

-- behind the references to no symbol nothing is left
no_entries : (c : Cond) (state : State) (t : Term) (remainder : Row)
    → same_term Pos t ≡ false → same_term Count t ≡ false → (list : List Reference)
    → filter (leaves c state t remainder) (list ++ on_entries) ≡ filter (leaves c state t remainder) list
no_entries c state t remainder p n list =
    let b = leaves c state t remainder in
    under_all b list on_entries []
    (passed b ref.PosLow (ref.PosHigh ∷ ref.CountLow ∷ ref.CountHigh ∷ []) (passes c state t remainder ref.PosLow p)
    ∙ passed b ref.PosHigh (ref.CountLow ∷ ref.CountHigh ∷ []) (passes c state t remainder ref.PosHigh (ap (λ (z : Bool). z || same_term Pos t) n ∙ p))
    ∙ passed b ref.CountLow (ref.CountHigh ∷ []) (passes c state t remainder ref.CountLow n)
    ∙ passed b ref.CountHigh [] (passes c state t remainder ref.CountHigh n))
    ∙ ap (filter b) (append-nil list)

-- to a term on a symbol the references are those that are wanted of each kind
finds_of : (c : Cond) (state : State) (t : Term) (remainder : Row) → same_term Pos t ≡ false → same_term Count t ≡ false
    → (picks : List (Pick c state t remainder))
    → filter (leaves c state t remainder) (flat_map (on_symbols state) (map (λ (pick : Pick c state t remainder). pick.kind) picks) ++ on_entries)
    ≡ filter (leaves c state t remainder) (flat_map (λ (pick : Pick c state t remainder). pick.wanted) picks)
finds_of c state t remainder p n picks =
    picked c state t remainder picks on_entries
    ∙ no_entries c state t remainder p n (flat_map (λ (pick : Pick c state t remainder). pick.wanted) picks)

finds_value : (c : Cond) (state : State) (s : ℕ) (remainder : Row) → FindsOn c state (Value s) remainder
finds_value c state s remainder =
    let none = none_of c state (Value s) remainder in
    let one = one_of c state (Value s) remainder s in
    finds_of c state (Value s) remainder refl refl
    (one ref.ValueLow (λ k e. e) (λ e. rw e) ∷ one ref.ValueHigh (λ k e. e) (λ e. rw e) ∷ none ref.LengthLow (λ k. refl) ∷ none ref.NamesLow (λ k. refl)
    ∷ none ref.NamesHigh (λ k. refl) ∷ one ref.ExactLow (λ k e. e) (λ e. rw e) ∷ one ref.ExactHigh (λ k e. e) (λ e. rw e)
    ∷ none ref.NonblankLength (λ k. refl) ∷ none ref.NonblankNames (λ k. refl) ∷ none ref.TextLow (λ k. refl) ∷ none ref.TextHigh (λ k. refl) ∷ [])

finds_length : (c : Cond) (state : State) (s : ℕ) (remainder : Row) → FindsOn c state (Length s) remainder
finds_length c state s remainder =
    let none = none_of c state (Length s) remainder in
    let one = one_of c state (Length s) remainder s in
    finds_of c state (Length s) remainder refl refl
    (none ref.ValueLow (λ k. refl) ∷ none ref.ValueHigh (λ k. refl) ∷ one ref.LengthLow (λ k e. e) (λ e. rw e) ∷ none ref.NamesLow (λ k. refl)
    ∷ one ref.NamesHigh (λ k e. ap (λ (z : Bool). z || false) e) (λ e. rw e) ∷ none ref.ExactLow (λ k. refl) ∷ none ref.ExactHigh (λ k. refl)
    ∷ one ref.NonblankLength (λ k e. e) (λ e. rw e) ∷ none ref.NonblankNames (λ k. refl)
    ∷ one ref.TextLow (λ k e. e) (λ e. rw e) ∷ one ref.TextHigh (λ k e. e) (λ e. rw e) ∷ [])

finds_names : (c : Cond) (state : State) (s : ℕ) (remainder : Row) → FindsOn c state (Names s) remainder
finds_names c state s remainder =
    let none = none_of c state (Names s) remainder in
    let one = one_of c state (Names s) remainder s in
    finds_of c state (Names s) remainder refl refl
    (none ref.ValueLow (λ k. refl) ∷ none ref.ValueHigh (λ k. refl) ∷ none ref.LengthLow (λ k. refl) ∷ one ref.NamesLow (λ k e. e) (λ e. rw e)
    ∷ one ref.NamesHigh (λ k e. e) (λ e. rw e) ∷ none ref.ExactLow (λ k. refl) ∷ none ref.ExactHigh (λ k. refl) ∷ none ref.NonblankLength (λ k. refl)
    ∷ one ref.NonblankNames (λ k e. e) (λ e. rw e) ∷ none ref.TextLow (λ k. refl) ∷ none ref.TextHigh (λ k. refl) ∷ [])

-- no kind of references to symbols speaks of a term on none
no_symbols : (c : Cond) (state : State) (t : Term) (remainder : Row)
    → ((k : ℕ) → (same_term (Value k) t ≡ false) × (same_term (Length k) t ≡ false) × (same_term (Names k) t ≡ false))
    → filter (leaves c state t remainder) (flat_map (on_symbols state) kinds ++ on_entries) ≡ filter (leaves c state t remainder) on_entries
no_symbols c state t remainder h =
    let none = none_of c state t remainder in
    let value = λ (k : ℕ). (h k).0 in
    let length = λ (k : ℕ). (h k).1 in
    let names = λ (k : ℕ). (h k).2 in
    picked c state t remainder
    (none ref.ValueLow value ∷ none ref.ValueHigh value ∷ none ref.LengthLow length ∷ none ref.NamesLow names
    ∷ none ref.NamesHigh (λ k. ap (λ (z : Bool). z || same_term (Names k) t) (length k) ∙ names k) ∷ none ref.ExactLow value ∷ none ref.ExactHigh value
    ∷ none ref.NonblankLength length ∷ none ref.NonblankNames names ∷ none ref.TextLow length ∷ none ref.TextHigh length ∷ [])
    on_entries

finds_on : (c : Cond) (state : State) (t : Term) (remainder : Row) → FindsOn c state t remainder
finds_on c state (Value s) remainder = finds_value c state s remainder
finds_on c state (Length s) remainder = finds_length c state s remainder
finds_on c state (Names s) remainder = finds_names c state s remainder
finds_on c state Pos remainder =
    let b = leaves c state Pos remainder in
    no_symbols c state Pos remainder (λ k. (refl, refl, refl))
    ∙ under b ref.PosLow (ref.PosHigh ∷ ref.CountLow ∷ ref.CountHigh ∷ []) (ref.PosHigh ∷ [])
    (under b ref.PosHigh (ref.CountLow ∷ ref.CountHigh ∷ []) []
    (passed b ref.CountLow (ref.CountHigh ∷ []) (passes c state Pos remainder ref.CountLow refl)
    ∙ passed b ref.CountHigh [] (passes c state Pos remainder ref.CountHigh refl)))
finds_on c state Count remainder =
    let b = leaves c state Count remainder in
    no_symbols c state Count remainder (λ k. (refl, refl, refl))
    ∙ passed b ref.PosLow (ref.PosHigh ∷ ref.CountLow ∷ ref.CountHigh ∷ []) (passes c state Count remainder ref.PosLow refl)

-- one row among those that may be subtracted
row_found : (c : Cond) (state : State) (t : Term) (remainder : Row) (n : ℕ) (row : Row) (rest others : List Reference)
    → slice_get state.rows n ≡ Some row → (b : Bool) → fits (Some t) remainder row ≡ b
    → filter (leaves c state t remainder) rest ≡ filter (leaves c state t remainder) others
    → filter (leaves c state t remainder) (ref.Row n ∷ rest)
    ≡ filter (leaves c state t remainder) (cond b (ref.Row n ∷ []) [] ++ others)
row_found c state t remainder n row rest others is true e same = under (leaves c state t remainder) (ref.Row n) rest others same
row_found c state t remainder n row rest others is false e same =
    passed (leaves c state t remainder) (ref.Row n) rest (ap (tried t remainder) is ∙ unfit t remainder row e) ∙ same

-- the rows that may be subtracted among all rows
finds_rows : (c : Cond) (state : State) (t : Term) (remainder : Row) (rest : List Reference) (rows : List Row) (n m : ℕ)
    → ((k : ℕ) → slice_get state.rows (n + k) ≡ slice_get rows k) → m ≤ length rows
    → filter (leaves c state t remainder) (map ref.Row (range_with_len n m) ++ rest)
    ≡ filter (leaves c state t remainder) (rows_on t remainder n (take m rows) ++ rest)
finds_rows c state t remainder rest [] n zero h few = refl
finds_rows c state t remainder rest [] n (suc m) h few = absurd (omega arith)
finds_rows c state t remainder rest (row ∷ rows) n zero h few = refl
finds_rows c state t remainder rest (row ∷ rows) n (suc m) h few =
    let b = leaves c state t remainder in
    let one = row_on t remainder n row in
    let more = rows_on t remainder (suc n) (take m rows) in
    let here : slice_get state.rows n ≡ Some row = ap (slice_get state.rows) (omega arith) ∙ h 0 in
    let later : (k : ℕ) → slice_get state.rows (suc n + k) ≡ slice_get rows k = λ k. ap (slice_get state.rows) (omega arith) ∙ h (suc k) in
    let less : m ≤ length rows = omega arith in
    let next_number : n + 1 ≡ suc n = omega arith in
    row_found c state t remainder n row (map ref.Row (range_with_len (n + 1) m) ++ rest) (more ++ rest) here (fits (Some t) remainder row) refl
    (ap (λ (k : ℕ). filter b (map ref.Row (range_with_len k m) ++ rest)) next_number
    ∙ finds_rows c state t remainder rest rows (suc n) m later less)
    ∙ ap (filter b) (sym (append_assoc one more rest))

-- of the references found by look-up and of all the same are those behind which something is left
pub finds : (c : Cond) (state : State) (t : Term) (remainder : Row)
    → filter (leaves c state t remainder) (references state) ≡ filter (leaves c state t remainder) (references_to state remainder t)
finds c state t remainder =
    let b = leaves c state t remainder in
    under_all b (map ref.Row (range_with_len 0 (rows_named state))) (flat_map (on_symbols state) kinds ++ on_entries) (on_term t) (finds_on c state t remainder)
    ∙ finds_rows c state t remainder (on_term t) state.rows 0 (rows_named state) (λ k. ap (slice_get state.rows) (omega arith)) (omega arith)

-- so what comes of all references, and of those alone behind which something is left, comes of those found by look-up
pub looks_up : {A : Type 0} (over : List Reference → A) (c : Cond) (state : State) (t : Term) (remainder : Row)
    → ((all : List Reference) → over all ≡ over (filter (leaves c state t remainder) all)) → over (references state) ≡ over (references_to state remainder t)
looks_up over c state t remainder kept =
    kept (references state) ∙ ap over (finds c state t remainder) ∙ sym (kept (references_to state remainder t))
