-- The parts of a state that starts from pieces.
use Rattle.std.proofs.Common.{◌≡◌, ℕ, zero, suc, ◌+◌, ◌≤◌, ◌<◌, Bool, true, false, cond, ap, sym, ◌∙◌, subst, List, [], ◌∷◌, ◌++◌, length, map, drop, arith, Some, add-one, append_assoc}
use Rattle.std.specs.List.{All, filter, flat_map}
use Rattle.std.proofs.lemmas.List.Elements.{All-cons, All-head, All-nil, All-same, All-tail}
use Rattle.lin_facts.specs.declared.row.Row.{Row}
use Rattle.name_table.specs.Names.{kind_at}
use Rattle.name_table.specs.declared.names.Kind.{Kind}
use Rattle.name_table.specs.declared.names.NameId.{NameId}
use Rattle.name_table.specs.declared.style.Style.{Style}
use Rattle.bst_meaning.specs.StyleParts.{kind_of}
use Rattle.bst_meaning.specs.declared.condition.Cond.{Cond}
use Rattle.sym_state.specs.declared.symbol.Sym.{Sym}
use Rattle.sym_state.specs.declared.symbol.Bind.{Bind}
use Rattle.sym_state.specs.declared.symbol.Fact.{Fact}
use Rattle.sym_state.specs.declared.piece.Piece.{Piece}
use Rattle.sym_state.specs.State.{State}
use Rattle.sym_state.specs.Starting.{all_symbols, bound_by, has_kind, names_in_play, numbered_on, own_facts, own_rows, seats, started, unbound}
use Rattle.sym_state.specs.WellMade.{ids_from, is_field, is_variable}

-- a name is looked at
pub next_id : (test : Kind → Bool) (i at : ℕ) (names : List (List ℕ × Kind)) (k : Kind) → kind_at (record { 0 = i }) names ≡ Some k
    → ids_from test at (drop i names) ≡ cond (test k) (record { 0 = at } ∷ ids_from test (suc at) (drop (suc i) names)) (ids_from test (suc at) (drop (suc i) names))
next_id test i at [] k e = absurd (cc)
next_id test zero at (name ∷ names) k e =
    let same : name.1 ≡ k = cc in
    ap (λ (kind : Kind). cond (test kind) (record { 0 = at } ∷ ids_from test (suc at) names) (ids_from test (suc at) names)) same
next_id test (suc i) at (name ∷ names) k e = next_id test i at names k e

-- a name that passes the test is added to those before, and any other isn't
pub id_taken : (test : Kind → Bool) (before all : List NameId) (i : ℕ) (names : List (List ℕ × Kind)) (k : Kind)
    → kind_at (record { 0 = i }) names ≡ Some k → test k ≡ true → before ++ ids_from test i (drop i names) ≡ all
    → (before ++ record { 0 = i } ∷ []) ++ ids_from test (i + 1) (drop (i + 1) names) ≡ all
id_taken test before all i names k is passes e =
    let id : NameId = record { 0 = i } in
    let next = next_id test i i names k is in
    append_assoc before (id ∷ []) (ids_from test (i + 1) (drop (i + 1) names))
    ∙ ap (λ (n : ℕ). before ++ id ∷ ids_from test n (drop n names)) (add-one i)
    ∙ ap (λ (b : Bool). before ++ cond b (id ∷ ids_from test (suc i) (drop (suc i) names)) (ids_from test (suc i) (drop (suc i) names))) (sym passes)
    ∙ ap (λ (ids : List NameId). before ++ ids) (sym next)
    ∙ e

pub id_passed : (test : Kind → Bool) (before all : List NameId) (i : ℕ) (names : List (List ℕ × Kind)) (k : Kind)
    → kind_at (record { 0 = i }) names ≡ Some k → test k ≡ false → before ++ ids_from test i (drop i names) ≡ all
    → before ++ ids_from test (i + 1) (drop (i + 1) names) ≡ all
id_passed test before all i names k is fails e =
    let id : NameId = record { 0 = i } in
    let next = next_id test i i names k is in
    ap (λ (n : ℕ). before ++ ids_from test n (drop n names)) (add-one i)
    ∙ ap (λ (b : Bool). before ++ cond b (id ∷ ids_from test (suc i) (drop (suc i) names)) (ids_from test (suc i) (drop (suc i) names))) (sym fails)
    ∙ ap (λ (ids : List NameId). before ++ ids) (sym next)
    ∙ e

pub ids_from-length : (test : Kind → Bool) (at : ℕ) (names : List (List ℕ × Kind)) → length (ids_from test at names) ≤ length names
ids_from-length test at [] = omega arith
ids_from-length test at (name ∷ names) =
    let rest = ids_from-length test (suc at) names in
    elim (test name.1) as (λ t. length (cond t (record { 0 = at } ∷ ids_from test (suc at) names) (ids_from test (suc at) names)) ≤ suc (length names)) [
      | true ↦ omega arith
      | false ↦ omega arith
    ]

-- bindings of names below a number
names_within : (n : ℕ) (binds : List Bind) (names : List NameId) → map (λ b. b.name) binds ≡ names → All (λ name. name.0 < n) names → All (λ b. b.name.0 < n) binds
names_within n [] names e all = All-nil (λ b. b.name.0 < n)
names_within n (b ∷ binds) [] e all = absurd (cc)
names_within n (b ∷ binds) (name ∷ names) e all =
    let first : b.name ≡ name = cc in
    let rest : map (λ c. c.name) binds ≡ names = cc in
    All-cons (λ c. c.name.0 < n) b binds
    (subst (λ (id : NameId). id.0 < n) (sym first) (All-head (λ id. id.0 < n) name names all))
    (names_within n binds names rest (All-tail (λ id. id.0 < n) name names all))

-- the bindings that are seen in a slice have names that are within the style's
pub seen_within : (n : ℕ) (binds seen : List Bind) (names known : List NameId) → seen ≡ binds → map (λ b. b.name) binds ≡ names → names ≡ known
    → All (λ name. name.0 < n) known → All (λ b. b.name.0 < n) seen
seen_within n binds seen names known same named is all =
    All-same (λ b. b.name.0 < n) seen binds same (names_within n binds names named (All-same (λ name. name.0 < n) names known is all))

pub started_is : (style : Style) (admits : Cond) (pieces : List Piece) (whole at_entry : Bool)
    (stack : List Sym) (bound seated vars fields : List Bind) (names : List NameId) (facts : List Fact) (rows : List Row) (first next : ℕ)
    → stack ≡ flat_map (λ piece. piece.stack) (numbered_on 0 pieces)
    → bound ≡ bound_by (numbered_on 0 pieces)
    → first ≡ all_symbols pieces
    → names ≡ names_in_play style at_entry
    → seated ≡ seats bound first names
    → next ≡ first + unbound bound names
    → vars ≡ filter (has_kind style (is_variable at_entry)) seated
    → fields ≡ filter (has_kind style (is_field at_entry)) seated
    → facts ≡ flat_map (λ piece. piece.facts) (numbered_on 0 pieces) ++ flat_map (λ bind. own_facts admits (kind_of style bind.name) bind) seated
    → rows ≡ flat_map (λ piece. piece.rows) (numbered_on 0 pieces) ++ flat_map (λ bind. own_rows admits (kind_of style bind.name) bind) seated
    → record { stack = stack; whole = whole; at_entry = at_entry; vars = vars; fields = fields; facts = facts; rows = rows; next = next }
    ≡ started style admits pieces whole at_entry
started_is style admits pieces whole at_entry stack bound seated vars fields names facts rows first next e_stack e_bound e_first e_names e_seated e_next e_vars e_fields e_facts e_rows =
    let on = numbered_on 0 pieces in
    let seats_are : seated ≡ seats (bound_by on) (all_symbols pieces) (names_in_play style at_entry) =
    e_seated ∙ ap (λ (bs : List Bind). seats bs first names) e_bound ∙ ap (λ (n : ℕ). seats (bound_by on) n names) e_first
    ∙ ap (λ (ns : List NameId). seats (bound_by on) (all_symbols pieces) ns) e_names in
    let next_is : next ≡ all_symbols pieces + unbound (bound_by on) (names_in_play style at_entry) =
    e_next ∙ ap (λ (bs : List Bind). first + unbound bs names) e_bound ∙ ap (λ (n : ℕ). n + unbound (bound_by on) names) e_first
    ∙ ap (λ (ns : List NameId). all_symbols pieces + unbound (bound_by on) ns) e_names in
    let facts_are = e_facts ∙ ap (λ (bs : List Bind). flat_map (λ piece. piece.facts) on ++ flat_map (λ bind. own_facts admits (kind_of style bind.name) bind) bs) seats_are in
    let rows_are = e_rows ∙ ap (λ (bs : List Bind). flat_map (λ piece. piece.rows) on ++ flat_map (λ bind. own_rows admits (kind_of style bind.name) bind) bs) seats_are in
    let vars_are = e_vars ∙ ap (λ (bs : List Bind). filter (has_kind style (is_variable at_entry)) bs) seats_are in
    let fields_are = e_fields ∙ ap (λ (bs : List Bind). filter (has_kind style (is_field at_entry)) bs) seats_are in
    same_state whole at_entry stack _ vars _ fields _ facts _ rows _ next _ e_stack vars_are fields_are facts_are rows_are next_is
  where
    same_state : (whole at_entry : Bool) (s s' : List Sym) (v v' : List Bind) (f f' : List Bind) (a a' : List Fact) (r r' : List Row) (n n' : ℕ)
        → s ≡ s' → v ≡ v' → f ≡ f' → a ≡ a' → r ≡ r' → n ≡ n'
        → (let x : State = record { stack = s; whole = whole; at_entry = at_entry; vars = v; fields = f; facts = a; rows = r; next = n } in x)
        ≡ record { stack = s'; whole = whole; at_entry = at_entry; vars = v'; fields = f'; facts = a'; rows = r'; next = n' }
    same_state whole at_entry s s' v v' f f' a a' r r' n n' e1 e2 e3 e4 e5 e6 = cc
