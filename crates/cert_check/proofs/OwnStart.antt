-- While a unit is used the state from which its own check starts stands where a piece of it holds, at first its pre.
use Rattle.std.proofs.Common.{◌≡◌, ℕ, ◌-◌, ◌≤◌, ◌<◌, Bool, true, false, cond, not, nat_eq, List, [], ◌∷◌, ◌++◌, length, map, take, Option, Some, Ok, Err, refl, sym, ap, subst, ◌∙◌, arith, None}
use Rattle.std.specs.Prelude.{◌&&◌, ◌||◌}
use Rattle.std.specs.List.{AllByRecursion}
use Rattle.std.proofs.lemmas.Bool.{and_parts}
use Rattle.std.proofs.lemmas.Bool.Decides.{nat_tests}
use Rattle.std.proofs.lemmas.List.{append-nil}
use Rattle.std.proofs.lemmas.List.Elements.{All-cons, All-nil}
use Rattle.lin_facts.specs.Rows.{Holds}
use Rattle.lin_facts.specs.declared.row.Part.{Part}
use Rattle.lin_facts.specs.declared.row.Row.{Row}
use Rattle.lin_facts.specs.declared.row.Term.{Term}
use Rattle.lin_facts.specs.declared.row.Term.TheVariants as term
use Rattle.name_table.specs.declared.names.Kind.{Kind}
use Rattle.name_table.specs.declared.names.NameId.{NameId}
use Rattle.name_table.specs.declared.style.Style.{Style}
use Rattle.bst_meaning.specs.Config.{Config}
use Rattle.bst_meaning.specs.Invariant.{IsWellFormed}
use Rattle.bst_meaning.specs.Machine.{visited_entry}
use Rattle.bst_meaning.specs.StyleParts.{kind_of}
use Rattle.bst_meaning.specs.EntryLists.{EntryList}
use Rattle.bst_meaning.specs.declared.value.Value.{Value}
use Rattle.sym_state.specs.State.{State}
use Rattle.sym_state.specs.Entailing.{match_of, under}
use Rattle.sym_state.specs.Facts.{FactHolds}
use Rattle.sym_state.specs.Opening.{HasValue, PiecesHold, StandsOpen}
use Rattle.sym_state.specs.Renaming.{bind_renamed, fact_renamed, piece_renamed, row_renamed, sym_renamed, term_renamed, through}
use Rattle.sym_state.specs.Showing.{Shown, piece_by}
use Rattle.sym_state.specs.Stands.{HasList, IsBound, IsVisiting, PieceHolds, value_by, values_of}
use Rattle.sym_state.specs.Starting.{IsFit, IsNumbered, all_symbols, raised, started, symbols_of}
use Rattle.sym_state.specs.Symbols.{IsValue, Valuation, numbers}
use Rattle.sym_state.specs.WellMade.{HasSmallFields, takes_part}
use Rattle.sym_state.specs.declared.demand.EffectFault.TheVariants.{NotEntailed}
use Rattle.sym_state.specs.declared.hint.Hint.{Hint}
use Rattle.sym_state.specs.declared.piece.Piece.{Piece}
use Rattle.sym_state.specs.declared.symbol.Bind.{Bind}
use Rattle.sym_state.specs.declared.symbol.Fact.{Fact}
use Rattle.sym_state.specs.declared.symbol.Fact.TheVariants as fact
use Rattle.sym_state.specs.declared.symbol.Sym.{Sym}
use Rattle.sym_state.proofs.Frames.{joined}
use Rattle.sym_state.proofs.Keeping.{started_well_made}
use Rattle.sym_state.proofs.Opened.{opened}
use Rattle.sym_state.proofs.ShownPieces.{shown_piece_holds}
use Rattle.sym_state.proofs.Spots.{Spot}
use Rattle.cert_check.specs.Uses.{Passage, comes_by, fits, fits_stack, is_among}
use Rattle.cert_check.specs.Walks.{Scope}
use Rattle.cert_check.proofs.Having.{have_all, have_value}
use Rattle.cert_check.proofs.Passing.{IsPassed}
use Rattle.cert_check.proofs.Safety.{Remains, Start, remains_framed, spot_at}

-- a list of which each element stays
map_same : {X : Type 0} (f : X → X) (xs : List X) → ((x : X) → f x ≡ x) → map f xs ≡ xs
map_same f [] same = refl
map_same {X} f (x ∷ xs) same = ap (λ (y : X). y ∷ map f xs) (same x) ∙ ap (λ (l : List X). x ∷ l) (map_same f xs same)

-- a first piece's symbols keep their numbers
none_raised : (s : ℕ) → raised 0 s ≡ s
none_raised s = omega arith

sym_same : (s : Sym) → sym_renamed (raised 0) s ≡ s
sym_same s = ap (λ (n : ℕ). let x : Sym = record { 0 = n } in x) (none_raised s.0)

bind_same : (b : Bind) → bind_renamed (raised 0) b ≡ b
bind_same b = ap (λ (s : Sym). let x : Bind = record { name = b.name; sym = s } in x) (sym_same b.sym)

fact_same : (f : Fact) → fact_renamed (raised 0) f ≡ f
fact_same (fact.Is s kind) = ap (λ (x : Sym). fact.Is x kind) (sym_same s)
fact_same (fact.Int s n) = ap (λ (x : Sym). fact.Int x n) (sym_same s)
fact_same (fact.Text s text) = ap (λ (x : Sym). fact.Text x text) (sym_same s)
fact_same (fact.Call s id) = ap (λ (x : Sym). fact.Call x id) (sym_same s)
fact_same (fact.Block s number) = ap (λ (x : Sym). fact.Block x number) (sym_same s)
fact_same (fact.Blank s) = ap (λ (x : Sym). fact.Blank x) (sym_same s)
fact_same (fact.Nonblank s) = ap (λ (x : Sym). fact.Nonblank x) (sym_same s)
fact_same (fact.Wellformed s) = ap (λ (x : Sym). fact.Wellformed x) (sym_same s)

term_same : (t : Term) → term_renamed (raised 0) t ≡ t
term_same (term.Value s) = ap term.Value (none_raised s)
term_same (term.Length s) = ap term.Length (none_raised s)
term_same (term.Names s) = ap term.Names (none_raised s)
term_same term.Pos = refl
term_same term.Count = refl

row_same : (row : Row) → row_renamed (raised 0) row ≡ row
row_same row =
    ap (λ (parts : List Part). let x : Row = record { constant = row.constant; parts = parts } in x)
    (map_same (λ (part : Part). record { coefficient = part.coefficient; term = term_renamed (raised 0) part.term }) row.parts
    (λ part. ap (λ (t : Term). let x : Part = record { coefficient = part.coefficient; term = t } in x) (term_same part.term)))

piece_is : (a a' : List Sym) (b b' c c' : List Bind) (d d' : List Fact) (e e' : List Row) → a ≡ a' → b ≡ b' → c ≡ c' → d ≡ d' → e ≡ e'
    → (let x : Piece = record { stack = a; vars = b; fields = c; facts = d; rows = e } in x)
    ≡ record { stack = a'; vars = b'; fields = c'; facts = d'; rows = e' }
piece_is a a' b b' c c' d d' e e' e1 e2 e3 e4 e5 = cc

pub piece_same : (piece : Piece) → piece_renamed (raised 0) piece ≡ piece
piece_same piece =
    piece_is _ piece.stack _ piece.vars _ piece.fields _ piece.facts _ piece.rows (map_same (sym_renamed (raised 0)) piece.stack sym_same)
    (map_same (bind_renamed (raised 0)) piece.vars bind_same) (map_same (bind_renamed (raised 0)) piece.fields bind_same)
    (map_same (fact_renamed (raised 0)) piece.facts fact_same) (map_same (row_renamed (raised 0)) piece.rows row_same)

-- one piece holds as it does by itself
pub one_holds : (style : Style) (v : Valuation) (piece : Piece) (c : Config) (below : List Value) → PieceHolds style v piece c below
    → PiecesHold style v (piece ∷ []) c below
one_holds style v piece c below holds = record {
  stack = subst (λ (l : List Sym). c.stack ≡ values_of v l ++ below) (sym (append-nil piece.stack)) holds.stack;
  binds = subst (λ (l : List Bind). AllByRecursion (IsBound style v c.globals (visited_entry c)) l) (sym (append-nil (piece.vars ++ piece.fields)))
      (joined (IsBound style v c.globals (visited_entry c)) piece.vars piece.fields holds.met.vars holds.met.fields);
  facts = subst (λ (l : List Fact). AllByRecursion (FactHolds style v) l) (sym (append-nil piece.facts)) holds.met.facts;
  rows = subst (λ (l : List Row). AllByRecursion (Holds (numbers v)) l) (sym (append-nil piece.rows)) holds.met.rows;
}

-- what a state that comes to a unit fits
pub record Came (unit : Passage) (pre : Piece) (state : State) (found : Shown) (left : List Hint) : Type 0 where
  pub entry : unit.entry ≡ true → state.at_entry ≡ true
  pub whole : unit.whole ≡ true → (state.whole ≡ true) × (length state.stack ≡ length pre.stack)
  pub shown : found ≡ Ok left

implied : (a b : Bool) → (not a || b) ≡ true → a ≡ true → b ≡ true
implied true b e is = e
implied false b e is = absurd (cc)

lengths : (a b : ℕ) → nat_eq a b ≡ true → a ≡ b
lengths a b e = grind (arith, nat_tests)

whole_fits : (unit : Passage) (pre : Piece) (state : State) → fits_stack unit pre state ≡ true → unit.whole ≡ true
    → (state.whole ≡ true) × (length state.stack ≡ length pre.stack)
whole_fits unit pre state e is =
    let both = and_parts state.whole (nat_eq (length state.stack) (length pre.stack))
    (implied unit.whole (state.whole && nat_eq (length state.stack) (length pre.stack)) e is) in
    (both.0, lengths (length state.stack) (length pre.stack) both.1)

pub came_is : (scope : Scope) (unit : Passage) (pre : Piece) (state : State) (hints left : List Hint) → comes_by unit scope.cert.cond pre state hints ≡ Ok left
    → Came unit pre state (piece_by scope.cert.cond state pre 0 hints) left
came_is scope unit pre state hints left e =
    elim (fits unit pre state) as (λ (t : Bool). fits unit pre state ≡ t
    → (let shown : Shown = cond t (piece_by scope.cert.cond state pre 0 hints) (Err (NotEntailed 0)) in shown) ≡ Ok left
    → Came unit pre state (piece_by scope.cert.cond state pre 0 hints) left) [
      | true ↦ λ is found.
          let both = and_parts (fits_stack unit pre state) (not unit.entry || state.at_entry) is in
          record { entry = implied unit.entry state.at_entry both.1; whole = whole_fits unit pre state both.0; shown = found }
      | false ↦ λ is found. absurd (cc)
    ] refl e

-- nothing lies below a stack that is whole
pub nothing_under : (state : State) (pre : Piece) → length state.stack ≡ length pre.stack → under state pre ≡ []
nothing_under state pre e =
    let none : length state.stack - length pre.stack ≡ 0 = omega (arith, e) in
    ap (λ (n : ℕ). take n state.stack) none

nothing_below : (v : Valuation) (below : List Value) (syms : List Sym) → syms ≡ [] → below ≡ [] → values_of v syms ++ below ≡ []
nothing_below v below syms none bottom =
    ap (λ (l : List Sym). values_of v l ++ below) none ∙ bottom

-- a unit is used at a start: a state came to it by its pre
pub record Used (scope : Scope) (list : EntryList) : Type 0 where
  pub unit : Passage
  pub pre : Piece
  pub posts : List Piece
  pub kept : ℕ
  pub is : IsPassed scope.style unit kept pre posts
  pub small : HasSmallFields scope.cert.cond
  pub s : Start scope list
  pub hints : List Hint
  pub left : List Hint
  pub came : comes_by unit scope.cert.cond pre s.state hints ≡ Ok left

-- the values below the stack of its pre
abbrev pub below_used : (scope : Scope) (list : EntryList) → Used scope list → List Value
below_used scope list u = values_of u.s.v (under u.s.state u.pre) ++ u.s.below

-- the value of a name in a configuration
abbrev pub value_in : Style → NameId → Config → Option Value
value_in style name c = value_by (kind_of style name) name c.globals (visited_entry c)

-- while a unit is used a piece of it holds, by an assignment to its symbols: those that it shares with the pre have the values of the
-- pre's, and of the configuration in which the unit was used all stays that the unit may not change
pub record Inside (scope : Scope) (list : EntryList) (u : Used scope list) (piece : Piece) (v : Valuation) (d : Config) : Type 0 where
  pub holds : PieceHolds scope.style v piece d (below_used scope list u)
  pub values : (x : ℕ) → IsValue (v.value x)
  pub has_list : HasList scope.style scope.cert.cond list v d
  pub visiting : u.unit.entry ≡ true → IsVisiting v d
  pub position : v.position ≡ u.s.v.position
  pub count : v.count ≡ u.s.v.count
  pub shared : (x : ℕ) → x < u.kept → v.value x ≡ u.s.v.value (match_of u.s.state u.pre 0 x)
  pub formed : IsWellFormed scope.style list d
  pub remains : Remains u.unit.entry d.frames u.s.c d
  pub names : (name : NameId) → is_among u.unit.writes name ≡ false → value_in scope.style name d ≡ value_in scope.style name u.s.c
  pub have : (name : NameId) (k : Kind) → kind_of scope.style name ≡ Some k → takes_part u.unit.entry k ≡ true
      → HasValue scope.style scope.cert.cond d.globals (visited_entry d) name

-- a piece from which the unit's own check starts, where it holds
pub record Begun (scope : Scope) (list : EntryList) (u : Used scope list) : Type 0 where
  pub piece : Piece
  pub v : Valuation
  pub d : Config
  pub inside : Inside scope list u piece v d
  pub numbered : IsNumbered piece
  pub fit : IsFit scope.style piece
  pub shares : u.kept ≤ symbols_of piece

-- what the state that came fits
pub came_fit : (scope : Scope) (list : EntryList) (u : Used scope list) → Came u.unit u.pre u.s.state (piece_by scope.cert.cond u.s.state u.pre 0 u.hints) u.left
came_fit scope list u = came_is scope u.unit u.pre u.s.state u.hints u.left u.came

-- the pre holds where the unit is used
pub first_inside : (scope : Scope) (list : EntryList) (u : Used scope list)
    → Inside scope list u u.pre (through (match_of u.s.state u.pre 0) u.s.v) u.s.c
first_inside scope list u =
    let fit = came_fit scope list u in
    let spot : Spot = spot_at scope list u.s (record { line = 1; column = 1 }) in
    record {
      holds = shown_piece_holds scope.style scope.cert.cond list u.s.v u.s.state u.s.c u.s.below u.pre 0 u.hints u.left fit.shown u.s.stands;
      values = λ n. u.s.stands.satisfied.values (match_of u.s.state u.pre 0 n);
      has_list = record {
        fits = u.s.stands.has_list.fits;
        meets = u.s.stands.has_list.meets;
        preamble = u.s.stands.has_list.preamble;
        entries = u.s.stands.has_list.entries;
        count = u.s.stands.has_list.count;
      };
      visiting = λ entry. let at = u.s.stands.visiting (fit.entry entry) in record {
        entry = at.entry;
        is_visited = at.is_visited;
        visit = at.visit;
        goes_on = at.goes_on;
        before = at.before;
      };
      position = refl;
      count = refl;
      shared = λ x less. refl;
      formed = u.s.formed;
      remains = remains_framed u.unit.entry u.s.c.frames u.s.c u.s.c u.s.goes refl refl refl refl refl;
      names = λ name not. refl;
      have = λ name k is takes. have_value spot u.unit.entry name k u.s.formed fit.entry is takes;
    }

-- so the check may start from it
abbrev pub first_begun : (scope : Scope) (list : EntryList) (u : Used scope list) → Begun scope list u
first_begun scope list u = record {
  piece = u.pre;
  v = through (match_of u.s.state u.pre 0) u.s.v;
  d = u.s.c;
  inside = first_inside scope list u;
  numbered = u.is.numbered;
  fit = u.is.fit;
  shares = u.is.shares;
}

-- where a unit's own check is: it may write what the unit writes
abbrev pub own_scope : Scope → List NameId → Scope
own_scope scope writes = record { style = scope.style; cert = scope.cert; writes = Some writes; make = None }

-- the state with which a unit's own check starts
abbrev pub own_state : Scope → Passage → Piece → State
own_state scope unit piece = started scope.style scope.cert.cond (piece ∷ []) unit.whole unit.entry

-- it stands where the piece holds
pub own_open : (scope : Scope) (list : EntryList) (u : Used scope list) (b : Begun scope list u)
    → StandsOpen scope.style scope.cert.cond list b.v (all_symbols (b.piece ∷ [])) (own_state scope u.unit b.piece) b.d (below_used scope list u)
own_open scope list u b =
    let fit = came_fit scope list u in
    let at = b.inside in
    opened scope.style scope.cert.cond list b.v (b.piece ∷ []) u.unit.whole u.unit.entry b.d (below_used scope list u)
    (All-cons IsNumbered b.piece [] b.numbered (All-nil IsNumbered)) (record {
      values = at.values;
      has_list = at.has_list;
      visiting = at.visiting;
      position = λ entry. subst (λ (n : ℕ). n < b.v.count) (sym at.position)
          (subst (λ (n : ℕ). u.s.v.position < n) (sym at.count) (u.s.stands.satisfied.position (fit.entry entry)));
      hold = subst (λ (piece : Piece). PiecesHold scope.style b.v (piece ∷ []) b.d (below_used scope list u)) (sym (piece_same b.piece))
          (one_holds scope.style b.v b.piece b.d (below_used scope list u) at.holds);
      bottom = λ whole. let all = fit.whole whole in
          nothing_below u.s.v u.s.below (under u.s.state u.pre) (nothing_under u.s.state u.pre all.1) (u.s.stands.whole all.0);
      have = have_all scope.style scope.cert.cond b.d u.unit.entry at.have;
    })

abbrev pub own_start : (scope : Scope) (list : EntryList) (u : Used scope list) → Begun scope list u → Start (own_scope scope u.unit.writes) list
own_start scope list u b = record {
  laws = u.s.laws;
  v = (own_open scope list u b).assignment;
  state = own_state scope u.unit b.piece;
  c = b.d;
  below = below_used scope list u;
  made = started_well_made scope.style scope.cert.cond (b.piece ∷ []) u.unit.whole u.unit.entry u.small
      (All-cons IsNumbered b.piece [] b.numbered (All-nil IsNumbered)) (All-cons (IsFit scope.style) b.piece [] b.fit (All-nil (IsFit scope.style)));
  goes = b.inside.remains.goes;
  formed = b.inside.formed;
  stands = (own_open scope list u b).stands;
  unmade = refl;
}
