-- What stands between commands may start states: the opening pieces, and those of records that fit their commands.
use Rattle.std.proofs.Common.{◌≡◌, ℕ, Bool, true, false, cond, List, [], ◌∷◌, map, Option, None, Some, is_none, refl, subst}
use Rattle.std.specs.Prelude.{◌≢◌, ◌&&◌, IfSome, ◌+ℤ◌, ℤ, find}
use Rattle.std.specs.List.{All, AllByRecursion}
use Rattle.std.specs.Option.{ForSome, option_map_or}
use Rattle.std.proofs.lemmas.Bool.{and_parts}
use Rattle.std.proofs.lemmas.List.Elements.{All-cons, All-head, All-nil, All-tail}
use Rattle.lin_facts.specs.Rows.{same_term}
use Rattle.lin_facts.specs.declared.row.Part.{Part}
use Rattle.lin_facts.specs.declared.row.Row.{Row}
use Rattle.lin_facts.specs.declared.row.Term.{Term}
use Rattle.lin_facts.specs.declared.row.Term.TheVariants as term
use Rattle.name_table.specs.declared.names.Kind.{Kind}
use Rattle.name_table.specs.declared.style.Style.{Style}
use Rattle.bst_meaning.specs.Config.{opening_entry_variable, opening_global, opening_variables}
use Rattle.bst_meaning.specs.StyleParts.{kind_of}
use Rattle.bst_meaning.specs.Values.{IsOfKind}
use Rattle.cert_format.specs.declared.cert.CommandPart.{CommandPart}
use Rattle.sym_state.specs.Positions.{Position, AtStart, AtNext, AtEnd, parts_moved, row_moved, with_position, with_term}
use Rattle.sym_state.specs.Results.{and_part, kept_part, part}
use Rattle.sym_state.specs.Starting.{IsFit, symbols_of}
use Rattle.sym_state.specs.WellMade.{IsBounded, IsTermBelow, is_variable}
use Rattle.sym_state.specs.declared.piece.Piece.{Piece}
use Rattle.sym_state.proofs.Moving.{moved_bounded}
use Rattle.cert_check.specs.Certified.{HasNoPos, IsCommandOf, IsMovable, IsPieceOf}
use Rattle.command_flow.specs.Between.{nothing, opened, piece_moved}
use Rattle.command_flow.specs.declared.between.Between.{Between}
use Rattle.command_flow.specs.Commands.{given, is_about, is_of_entry, is_on_entry, is_on_globals, parts_of}
use Rattle.command_flow.specs.declared.between.Parts.{Parts}
use Rattle.command_flow.proofs.Known.{about_is}
use Rattle.command_flow.proofs.Openings.{entry_about, exactly_fit, exactly_numbered, globals_about}
use Rattle.command_flow.proofs.Starting.{Usable}

-- both pieces between commands may start states, and that on an entry says nothing of the position
pub record IsGood (style : Style) (between : Between) : Type 0 where
  pub globals : Usable style (is_variable false) between.globals
  pub entry : Usable style is_of_entry between.entry
  pub still : HasNoPos between.entry

-- the opening pieces
pub opened_good : (style : Style) → AllByRecursion (λ x. IsOfKind (kind_of style x.name) x.value) (opening_variables opening_global 0 style.names)
    → AllByRecursion (λ x. IsOfKind (kind_of style x.name) x.value) (opening_variables opening_entry_variable 0 style.names) → IsGood style (opened style)
opened_good style globals entrys = record {
  globals = record {
    numbered = exactly_numbered (opening_variables opening_global 0 style.names);
    fit = exactly_fit style (opening_variables opening_global 0 style.names) globals;
    about = globals_about style;
  };
  entry = record {
    numbered = exactly_numbered (opening_variables opening_entry_variable 0 style.names);
    fit = exactly_fit style (opening_variables opening_entry_variable 0 style.names) entrys;
    about = entry_about style;
  };
  still = All-nil _;
}

-- the piece that says nothing
nothing_usable : (style : Style) (test : Kind → Bool) → Usable style test nothing
nothing_usable style test = record {
  numbered = record { facts = All-nil _; rows = All-nil _ };
  fit = record { of_style = All-nil _; integers = All-nil _; bytes = All-nil _; texts = All-nil _; rows = All-nil _ };
  about = record { stack = refl; vars = refl; fields = refl };
}

given_usable : (style : Style) (test : Kind → Bool) (piece : Option Piece) → IfSome piece (IsPieceOf style true) → option_map_or (is_about style test) piece true ≡ true
    → Usable style test (given piece)
given_usable style test None has e = nothing_usable style test
given_usable style test (Some piece) has e =
    record { numbered = has.numbered; fit = has.fit; about = about_is style test piece e }

pub given_rows : (P : Row → Type 0) (piece : Option Piece) → IfSome piece (λ p. All P p.rows) → All P (given piece).rows
given_rows P None has = All-nil P
given_rows P (Some piece) has = has

-- terms of a row that is moved are of the row's symbols
abbrev AreBelow : ℕ → List Part → Type 0
AreBelow next parts = All (λ (p : Part). IsTermBelow next p.term) parts

kept_below : (next : ℕ) (n : ℤ) (t : Term) (parts : List Part) (kept : Bool) → IsTermBelow next t → AreBelow next parts
    → AreBelow next (cond kept parts (part n t ∷ parts))
kept_below next n t parts true below all = all
kept_below next n t parts false below all = All-cons (λ (p : Part). IsTermBelow next p.term) (part n t) parts below all

and_below : (next : ℕ) (n : ℤ) (t : Term) (parts : List Part) → IsTermBelow next t → AreBelow next parts → AreBelow next (and_part n t parts)
and_below next n t [] below all = kept_below next n t [] _ below all
and_below next n t (first ∷ parts) below all =
    let rest = All-tail (λ (p : Part). IsTermBelow next p.term) first parts all in
    let head = All-head (λ (p : Part). IsTermBelow next p.term) first parts all in
    elim (same_term first.term t) as (λ (same : Bool). AreBelow next (cond same (kept_part (n +ℤ first.coefficient) t parts) (first ∷ and_part n t parts))) [
      | true ↦ kept_below next (n +ℤ first.coefficient) t parts _ below rest
      | false ↦ All-cons (λ (p : Part). IsTermBelow next p.term) first (and_part n t parts) head (and_below next n t parts below rest)
    ]

position_below : (p : Position) (next : ℕ) (n : ℤ) (parts : List Part) → AreBelow next parts → AreBelow next (with_position p n parts)
position_below AtStart next n parts all = all
position_below AtNext next n parts all = and_below next n term.Pos parts tt all
position_below AtEnd next n parts all = and_below next n term.Count parts tt all

term_below : (p : Position) (next : ℕ) (n : ℤ) (t : Term) (parts : List Part) → IsTermBelow next t → AreBelow next parts → AreBelow next (with_term p n t parts)
term_below p next n term.Pos parts below all = position_below p next n parts all
term_below p next n t parts below all = and_below next n t parts below all

moved_below : (p : Position) (next : ℕ) (before parts : List Part) → AreBelow next before → AreBelow next parts → AreBelow next (parts_moved p before parts)
moved_below p next before [] all more = all
moved_below p next before (first ∷ parts) all more =
    moved_below p next (with_term p first.coefficient first.term before) parts
    (term_below p next first.coefficient first.term before (All-head (λ (q : Part). IsTermBelow next q.term) first parts more) all)
    (All-tail (λ (q : Part). IsTermBelow next q.term) first parts more)

pub rows_below : (p : Position) (next : ℕ) (rows : List Row) → All (λ row. AreBelow next row.parts) rows → All (λ row. AreBelow next row.parts) (map (row_moved p) rows)
rows_below p next [] all = All-nil _
rows_below p next (row ∷ rows) all =
    All-cons (λ (r : Row). AreBelow next r.parts) (row_moved p row) (map (row_moved p) rows)
    (moved_below p next [] row.parts (All-nil _) (All-head (λ (r : Row). AreBelow next r.parts) row rows all))
    (rows_below p next rows (All-tail (λ (r : Row). AreBelow next r.parts) row rows all))

pub rows_bounded : (p : Position) (rows : List Row) → All IsBounded rows → All IsMovable rows → All IsBounded (map (row_moved p) rows)
rows_bounded p [] bounded movable = All-nil IsBounded
rows_bounded p (row ∷ rows) bounded movable =
    All-cons IsBounded (row_moved p row) (map (row_moved p) rows)
    (moved_bounded p row (All-head IsBounded row rows bounded) (All-head IsMovable row rows movable))
    (rows_bounded p rows (All-tail IsBounded row rows bounded) (All-tail IsMovable row rows movable))

-- a piece that is moved fits
pub fit_moved : (style : Style) (p : Position) (piece : Piece) → IsFit style piece → All IsMovable piece.rows → IsFit style (piece_moved p piece)
fit_moved style p piece fit movable = record {
  of_style = fit.of_style;
  integers = fit.integers;
  bytes = fit.bytes;
  texts = fit.texts;
  rows = rows_bounded p piece.rows fit.rows movable;
}

-- a piece that is moved may start states
moved_usable : (style : Style) (p : Position) (test : Kind → Bool) (piece : Piece) → Usable style test piece → All IsMovable piece.rows
    → Usable style test (piece_moved p piece)
moved_usable style p test piece usable movable = record {
  numbered = record { facts = usable.numbered.facts; rows = rows_below p (symbols_of piece) piece.rows usable.numbered.rows };
  fit = fit_moved style p piece usable.fit movable;
  about = record { stack = usable.about.stack; vars = usable.about.vars; fields = usable.about.fields };
}

-- the pieces of a visit
pub record IsVisitGood (style : Style) (parts : Parts) : Type 0 where
  pub visit : Usable style (is_variable false) parts.visit
  pub movable : All IsMovable parts.visit.rows
  pub keeps : Usable style is_of_entry parts.keeps
  pub still : HasNoPos parts.keeps

-- what stands after a visit
pub visited_good : (style : Style) (parts : Parts) → IsVisitGood style parts → IsGood style (record { globals = piece_moved AtEnd parts.visit; entry = parts.keeps })
visited_good style parts good = record {
  globals = moved_usable style AtEnd (is_variable false) parts.visit good.visit good.movable;
  entry = good.keeps;
  still = good.still;
}

-- the pieces of a record that fits EXECUTE
pub execute_good : (style : Style) (part : Option CommandPart) → ForSome part (IsCommandOf style)
    → ForSome part (λ p. is_on_globals style p.after ≡ true) → Usable style (is_variable false) (parts_of part).after
execute_good style None is shaped = nothing_usable style (is_variable false)
execute_good style (Some part) is shaped = given_usable style (is_variable false) part.after (is part refl).after (shaped part refl)

-- those of one that fits ITERATE or REVERSE
pub visit_good : (style : Style) (part : Option CommandPart) → ForSome part (IsCommandOf style)
    → ForSome part (λ p. (is_on_globals style p.visit ≡ true) × (is_on_entry style p.keeps ≡ true)) → IsVisitGood style (parts_of part)
visit_good style None is shaped = record {
  visit = nothing_usable style (is_variable false);
  movable = All-nil _;
  keeps = nothing_usable style is_of_entry;
  still = All-nil _;
}
visit_good style (Some part) is shaped =
    let has = is part refl in
    let fits = shaped part refl in
    record {
      visit = given_usable style (is_variable false) part.visit has.visit fits.0;
      movable = given_rows IsMovable part.visit has.moves;
      keeps = given_usable style is_of_entry part.keeps has.keeps fits.1;
      still = given_rows (λ row. All (λ p. p.term ≢ term.Pos) row.parts) part.keeps has.keeps_pos;
    }

-- what a record that fits its command has
pub execute_shaped : (style : Style) (part : Option CommandPart)
    → option_map_or (λ p. is_none p.visit && (is_none p.keeps && is_on_globals style p.after)) part true ≡ true
    → ForSome part (λ p. is_on_globals style p.after ≡ true)
execute_shaped style None e p there = absurd (cc)
execute_shaped style (Some q) e p there =
    let first = and_parts (is_none q.visit) (is_none q.keeps && is_on_globals style q.after) e in
    let both = and_parts (is_none q.keeps) (is_on_globals style q.after) first.1 in
    let same : q ≡ p = cc in
    subst (λ (x : CommandPart). is_on_globals style x.after ≡ true) same both.1

pub visit_shaped : (style : Style) (part : Option CommandPart)
    → option_map_or (λ p. is_none p.after && (is_on_globals style p.visit && is_on_entry style p.keeps)) part true ≡ true
    → ForSome part (λ p. (is_on_globals style p.visit ≡ true) × (is_on_entry style p.keeps ≡ true))
visit_shaped style None e p there = absurd (cc)
visit_shaped style (Some q) e p there =
    let first = and_parts (is_none q.after) (is_on_globals style q.visit && is_on_entry style q.keeps) e in
    let both = and_parts (is_on_globals style q.visit) (is_on_entry style q.keeps) first.1 in
    let same : q ≡ p = cc in
    subst (λ (x : CommandPart). (is_on_globals style x.visit ≡ true) × (is_on_entry style x.keeps ≡ true)) same both

-- what holds of each record holds of one that is found
pub found_has : (P : CommandPart → Type 0) (test : CommandPart → Bool) (parts : List CommandPart) → All P parts → ForSome (find test parts) P
found_has P test [] all p there = absurd (cc)
found_has P test (q ∷ parts) all p there =
    elim (test q) as (λ (t : Bool). cond t (Some q) (find test parts) ≡ Some p → P p) [
      | true ↦ λ is. let same : q ≡ p = cc in subst P same (All-head P q parts all)
      | false ↦ λ is. found_has P test parts (All-tail P q parts all) p is
    ] there
