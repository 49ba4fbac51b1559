-- What is known by a piece without a stack: of the global variables alone, or of an entry alone.
use Rattle.std.proofs.Common.{◌≡◌, ◌≢◌, ℕ, Bool, true, false, List, [], ◌∷◌, length, map, Option, None, Some, refl, sym, ap, subst, ◌∙◌}
use Rattle.std.specs.Prelude.{◌&&◌, ◌+ℤ◌, ◌*ℤ◌, ◌≤ℤ◌, ℤ, pos}
use Rattle.std.specs.List.{All, AllByRecursion, list_all}
use Rattle.std.specs.Option.{option_map_or}
use Rattle.std.proofs.lemmas.Bool.{and_parts}
use Rattle.std.proofs.lemmas.List.Elements.{All-head, All-tail}
use Rattle.lin_facts.specs.Rows.{Holds, sum_of}
use Rattle.lin_facts.specs.declared.row.Part.{Part}
use Rattle.lin_facts.specs.declared.row.Row.{Row}
use Rattle.lin_facts.specs.declared.row.Term.{Term}
use Rattle.lin_facts.specs.declared.row.Term.TheVariants as term
use Rattle.name_table.specs.declared.names.Kind.{Kind}
use Rattle.name_table.specs.declared.names.Kind.TheVariants.{Field, IntEntry, StrEntry, IntGlobal, StrGlobal}
use Rattle.name_table.specs.declared.names.NameId.{NameId}
use Rattle.name_table.specs.declared.style.Style.{Style}
use Rattle.bst_meaning.specs.Config.{EntryState, Variable}
use Rattle.bst_meaning.specs.StyleParts.{kind_of}
use Rattle.bst_meaning.specs.EntryLists.{EntryList}
use Rattle.sym_state.specs.Positions.{Position, AtEnd, moved_to, row_moved, visited_at}
use Rattle.sym_state.specs.Stands.{IsBound, IsMet, value_by}
use Rattle.sym_state.specs.Starting.{has_kind}
use Rattle.sym_state.specs.Symbols.{IsValue, Valuation, numbers}
use Rattle.sym_state.specs.WellMade.{is_variable}
use Rattle.sym_state.specs.declared.piece.Piece.{Piece}
use Rattle.sym_state.specs.declared.symbol.Bind.{Bind}
use Rattle.sym_state.specs.declared.symbol.Sym.{Sym}
use Rattle.sym_state.proofs.Moving.{row_moves}
use Rattle.cert_check.specs.Certified.{HasNoPos}
use Rattle.command_flow.specs.Between.{piece_moved}
use Rattle.command_flow.specs.Commands.{is_about, is_of_entry, is_stackless}

-- a piece is met by an assignment of values with this number as its position
pub record Known (style : Style) (list : EntryList) (at : ℕ) (piece : Piece) (globals : List Variable) (entry : Option EntryState) : Type 0 where
  pub v : Valuation
  pub values : (s : ℕ) → IsValue (v.value s)
  pub position : v.position ≡ at
  pub count : v.count ≡ length list.entries
  pub met : IsMet style v piece globals entry

-- what a piece without a stack is about
pub record About (style : Style) (test : Kind → Bool) (piece : Piece) : Type 0 where
  pub stack : piece.stack ≡ []
  pub vars : list_all (has_kind style test) piece.vars ≡ true
  pub fields : list_all (has_kind style test) piece.fields ≡ true

no_stack : (stack : List Sym) → is_stackless stack ≡ true → stack ≡ []
no_stack [] e = refl
no_stack (s ∷ stack) e = absurd (cc)

pub about_is : (style : Style) (test : Kind → Bool) (piece : Piece) → is_about style test piece ≡ true → About style test piece
about_is style test piece e =
    let first = and_parts (is_stackless piece.stack) (list_all (has_kind style test) piece.vars && list_all (has_kind style test) piece.fields) e in
    let both = and_parts (list_all (has_kind style test) piece.vars) (list_all (has_kind style test) piece.fields) first.1 in
    record { stack = no_stack piece.stack first.0; vars = both.0; fields = both.1 }

-- a name whose kind passes a test has one that does
kind_passes : (o : Option Kind) (test : Kind → Bool) → option_map_or test o false ≡ true → (k : Kind) × (o ≡ Some k) × (test k ≡ true)
kind_passes None test e = absurd (cc)
kind_passes (Some k) test e = (k, refl, e)

-- bindings of names whose kinds pass a test, where a value of each such kind is the same elsewhere
binds_elsewhere : (style : Style) (test : Kind → Bool) (v : Valuation) (globals others : List Variable) (entry other : Option EntryState) (binds : List Bind)
    → ((k : Kind) (name : NameId) → test k ≡ true → value_by (Some k) name globals entry ≡ value_by (Some k) name others other)
    → list_all (has_kind style test) binds ≡ true → AllByRecursion (IsBound style v globals entry) binds → AllByRecursion (IsBound style v others other) binds
binds_elsewhere style test v globals others entry other [] same e all = tt
binds_elsewhere style test v globals others entry other (b ∷ binds) same e all =
    let both = and_parts (has_kind style test b) (list_all (has_kind style test) binds) e in
    let found = kind_passes (kind_of style b.name) test both.0 in (
      ap (λ (o : Option Kind). value_by o b.name others other) found.1 ∙ sym (same found.0 b.name found.2)
          ∙ sym (ap (λ (o : Option Kind). value_by o b.name globals entry) found.1) ∙ all.0,
      binds_elsewhere style test v globals others entry other binds same both.1 all.1,
    )

met_elsewhere : (style : Style) (test : Kind → Bool) (v : Valuation) (piece : Piece) (globals others : List Variable) (entry other : Option EntryState)
    → About style test piece
    → ((k : Kind) (name : NameId) → test k ≡ true → value_by (Some k) name globals entry ≡ value_by (Some k) name others other)
    → IsMet style v piece globals entry → IsMet style v piece others other
met_elsewhere style test v piece globals others entry other about same met = record {
  vars = binds_elsewhere style test v globals others entry other piece.vars same about.vars met.vars;
  fields = binds_elsewhere style test v globals others entry other piece.fields same about.fields met.fields;
  facts = met.facts;
  rows = met.rows;
}

global_value : (globals : List Variable) (entry other : Option EntryState) (k : Kind) (name : NameId) → is_variable false k ≡ true
    → value_by (Some k) name globals entry ≡ value_by (Some k) name globals other
global_value globals entry other IntGlobal name e = refl
global_value globals entry other StrGlobal name e = refl
global_value globals entry other _ name e = absurd (cc)

entry_value : (globals others : List Variable) (entry : Option EntryState) (k : Kind) (name : NameId) → is_of_entry k ≡ true
    → value_by (Some k) name globals entry ≡ value_by (Some k) name others entry
entry_value globals others entry IntEntry name e = refl
entry_value globals others entry StrEntry name e = refl
entry_value globals others entry Field name e = refl
entry_value globals others entry _ name e = absurd (cc)

-- a piece on global variables says the same at any entry
pub on_globals : (style : Style) (v : Valuation) (piece : Piece) (globals : List Variable) (entry other : Option EntryState)
    → About style (is_variable false) piece → IsMet style v piece globals entry → IsMet style v piece globals other
on_globals style v piece globals entry other about met =
    met_elsewhere style (is_variable false) v piece globals globals entry other about (global_value globals entry other) met

-- a piece on an entry says the same beside any global variables
pub on_entry : (style : Style) (v : Valuation) (piece : Piece) (globals others : List Variable) (entry : Option EntryState)
    → About style is_of_entry piece → IsMet style v piece globals entry → IsMet style v piece others entry
on_entry style v piece globals others entry about met =
    met_elsewhere style is_of_entry v piece globals others entry entry about (entry_value globals others entry) met

-- what is known by some values is known elsewhere where these meet the piece there too
known_beside : (style : Style) (list : EntryList) (at : ℕ) (piece : Piece) (globals others : List Variable) (entry other : Option EntryState)
    → (known : Known style list at piece globals entry) → IsMet style known.v piece others other → Known style list at piece others other
known_beside style list at piece globals others entry other known met =
    record { v = known.v; values = known.values; position = known.position; count = known.count; met = met }

pub known_globals : (style : Style) (list : EntryList) (at : ℕ) (piece : Piece) (globals : List Variable) (entry other : Option EntryState)
    → About style (is_variable false) piece → Known style list at piece globals entry → Known style list at piece globals other
known_globals style list at piece globals entry other about known =
    known_beside style list at piece globals globals entry other known (on_globals style known.v piece globals entry other about known.met)

pub known_entry : (style : Style) (list : EntryList) (at : ℕ) (piece : Piece) (globals others : List Variable) (entry : Option EntryState)
    → About style is_of_entry piece → Known style list at piece globals entry → Known style list at piece others entry
known_entry style list at piece globals others entry about known =
    known_beside style list at piece globals others entry entry known (on_entry style known.v piece globals others entry about known.met)

-- an assignment with another position
abbrev pub placed_at : ℕ → Valuation → Valuation
placed_at at v = record { value = v.value; position = at; count = v.count }

-- rows that say nothing of the position
still_term : (at : ℕ) (v : Valuation) (t : Term) → t ≢ term.Pos → numbers (placed_at at v) t ≡ numbers v t
still_term at v (term.Value s) h = refl
still_term at v (term.Length s) h = refl
still_term at v (term.Names s) h = refl
still_term at v term.Pos h = absurd (h refl)
still_term at v term.Count h = refl

still_sum : (at : ℕ) (v : Valuation) (parts : List Part) → All (λ p. p.term ≢ term.Pos) parts → sum_of (numbers (placed_at at v)) parts ≡ sum_of (numbers v) parts
still_sum at v [] all = refl
still_sum at v (part ∷ parts) all =
    ap (λ (n : ℤ). part.coefficient *ℤ n +ℤ sum_of (numbers (placed_at at v)) parts)
    (still_term at v part.term (All-head (λ (p : Part). p.term ≢ term.Pos) part parts all))
    ∙ ap (λ (n : ℤ). part.coefficient *ℤ numbers v part.term +ℤ n) (still_sum at v parts (All-tail (λ (p : Part). p.term ≢ term.Pos) part parts all))

still_rows : (at : ℕ) (v : Valuation) (rows : List Row) → All (λ row. All (λ p. p.term ≢ term.Pos) row.parts) rows → AllByRecursion (Holds (numbers v)) rows
    → AllByRecursion (Holds (numbers (placed_at at v))) rows
still_rows at v [] all h = tt
still_rows at v (row ∷ rows) all h = (
  subst (λ (n : ℤ). pos 0 ≤ℤ n)
      (ap (λ (n : ℤ). row.constant +ℤ n)
      (sym (still_sum at v row.parts (All-head (λ (r : Row). All (λ (p : Part). p.term ≢ term.Pos) r.parts) row rows all)))) h.0,
  still_rows at v rows (All-tail (λ (r : Row). All (λ (p : Part). p.term ≢ term.Pos) r.parts) row rows all) h.1,
)

-- where a piece is known by some values, these meet other rows in place of its own at the number where those hold
known_with : (style : Style) (list : EntryList) (at there n : ℕ) (piece : Piece) (rows : List Row) (globals : List Variable) (entry : Option EntryState)
    → (known : Known style list at piece globals entry) → n ≡ there → AllByRecursion (Holds (numbers (placed_at n known.v))) rows
    → Known style list there (record piece { rows = rows }) globals entry
known_with style list at there n piece rows globals entry known is hold = record {
  v = placed_at n known.v;
  values = known.values;
  position = is;
  count = known.count;
  met = record { vars = known.met.vars; fields = known.met.fields; facts = known.met.facts; rows = hold };
}

-- such a piece is known at any position
pub known_still : (style : Style) (list : EntryList) (at other : ℕ) (piece : Piece) (globals : List Variable) (entry : Option EntryState)
    → HasNoPos piece → Known style list at piece globals entry → Known style list other piece globals entry
known_still style list at other piece globals entry still known =
    known_with style list at other other piece piece.rows globals entry known refl (still_rows other known.v piece.rows still known.met.rows)

-- rows that are moved hold where the rows hold at the number that they are moved to
rows_back : (p : Position) (v : Valuation) (rows : List Row) → AllByRecursion (Holds (numbers v)) (map (row_moved p) rows)
    → AllByRecursion (Holds (numbers (moved_to p v))) rows
rows_back p v [] h = tt
rows_back p v (row ∷ rows) h = ((row_moves p v row).0 h.0, rows_back p v rows h.1)

rows_forth : (p : Position) (v : Valuation) (rows : List Row) → AllByRecursion (Holds (numbers (moved_to p v))) rows
    → AllByRecursion (Holds (numbers v)) (map (row_moved p) rows)
rows_forth p v [] h = tt
rows_forth p v (row ∷ rows) h = ((row_moves p v row).1 h.0, rows_forth p v rows h.1)

-- a piece is known where it is known moved
pub known_back : (style : Style) (list : EntryList) (at there : ℕ) (p : Position) (piece : Piece) (globals : List Variable) (entry : Option EntryState)
    → (known : Known style list at (piece_moved p piece) globals entry) → visited_at p known.v ≡ there → Known style list there piece globals entry
known_back style list at there p piece globals entry known is =
    known_with style list at there (visited_at p known.v) (piece_moved p piece) piece.rows globals entry known is
    (rows_back p known.v piece.rows known.met.rows)

-- at the end of a command it is known moved, whatever the position is
pub known_ended : (style : Style) (list : EntryList) (at : ℕ) (piece : Piece) (globals : List Variable) (entry : Option EntryState)
    → Known style list (length list.entries) piece globals entry → Known style list at (piece_moved AtEnd piece) globals entry
known_ended style list at piece globals entry known =
    let v : Valuation = known.v in
    let same : v.position ≡ v.count = known.position ∙ sym known.count in
    known_with style list (length list.entries) at at piece (map (row_moved AtEnd) piece.rows) globals entry known refl
    (rows_forth AtEnd (placed_at at v) piece.rows (subst (λ (n : ℕ). AllByRecursion (Holds (numbers (placed_at n v))) piece.rows) same known.met.rows))
