-- A started state is well made: the rows that variables and fields give are within their bounds.
use Rattle.std.proofs.Common.{◌≡◌, ℕ, suc, ◌≤◌, ◌^◌, Bool, true, false, cond, List, [], ◌∷◌, Option, None, Some, nat_eq, refl, subst, arith}
use Rattle.std.specs.Prelude.{pos}
use Rattle.std.specs.List.{All, flat_map}
use Rattle.std.proofs.lemmas.List.Elements.{All-append, All-cons, All-head, All-nil, All-tail}
use Rattle.lin_facts.specs.declared.row.Term.TheVariants.{Length, Names}
use Rattle.name_table.specs.declared.names.Kind.{Kind}
use Rattle.name_table.specs.declared.names.Kind.TheVariants.{Builtin, Wizard, Field, IntEntry, StrEntry, IntGlobal, StrGlobal}
use Rattle.name_table.specs.declared.names.NameId.{NameId}
use Rattle.name_table.specs.declared.style.Style.{Style}
use Rattle.bst_meaning.specs.StyleParts.{kind_of}
use Rattle.bst_meaning.specs.declared.condition.Cond.{Cond}
use Rattle.bst_meaning.specs.declared.condition.NamesLine.{NamesLine}
use Rattle.sym_state.specs.declared.piece.Piece.{Piece}
use Rattle.sym_state.specs.declared.symbol.Bind.{Bind}
use Rattle.sym_state.specs.References.{at_most}
use Rattle.sym_state.specs.Starting.{IsFit, IsNumbered, all_symbols, bound_by, most_names, name_rows, names_in_play, numbered_on, own_rows, seats, started}
use Rattle.sym_state.specs.WellMade.{HasSmallFields, IsBounded, WellMade}
use Rattle.sym_state.proofs.Making.{each_given, pieces_bounded, started_made}
use Rattle.sym_state.proofs.Resulting.{at_most_fits}

length_bounded : (s n : ℕ) → n ≤ 2 ^ 45 → IsBounded (at_most (Length s) (pos n))
length_bounded s n few = (at_most_fits (suc s) (Length s) (pos n) (omega arith) few).bounded

names_bounded : (s n : ℕ) → n ≤ 2 ^ 45 → IsBounded (at_most (Names s) (pos n))
names_bounded s n few = (at_most_fits (suc s) (Names s) (pos n) (omega arith) few).bounded

most_small : (name : NameId) (lines : List NamesLine) (most : ℕ) → All (λ line. line.most ≤ 2 ^ 45) lines → most_names name lines ≡ Some most
    → most ≤ 2 ^ 45
most_small name [] most all e = absurd (cc)
most_small name (line ∷ lines) most all e =
    elim (nat_eq line.field.0 name.0) as (λ (t : Bool). cond t (Some line.most) (most_names name lines) ≡ Some most → most ≤ 2 ^ 45) [
      | true ↦ λ found.
          let same : line.most ≡ most = cc in
          subst (λ (n : ℕ). n ≤ 2 ^ 45) same (All-head (λ (l : NamesLine). l.most ≤ 2 ^ 45) line lines all)
      | false ↦ λ found. most_small name lines most (All-tail (λ (l : NamesLine). l.most ≤ 2 ^ 45) line lines all) found
    ] e

pub own_bounded : (admits : Cond) (kind : Option Kind) (b : Bind) → HasSmallFields admits → All IsBounded (own_rows admits kind b)
own_bounded admits (Some StrEntry) b small = All-cons IsBounded _ [] (length_bounded b.sym.0 250 (omega arith)) (All-nil IsBounded)
own_bounded admits (Some StrGlobal) b small = All-cons IsBounded _ [] (length_bounded b.sym.0 20000 (omega arith)) (All-nil IsBounded)
own_bounded admits (Some Field) b small =
    All-cons IsBounded _ (name_rows (most_names b.name admits.names) b.sym) (length_bounded b.sym.0 admits.length small.length)
    (of_names (most_names b.name admits.names) (λ most e. most_small b.name admits.names most small.names e))
  where
    of_names : (o : Option ℕ) → ((most : ℕ) → o ≡ Some most → most ≤ 2 ^ 45) → All IsBounded (name_rows o b.sym)
    of_names (Some most) few = All-cons IsBounded _ [] (names_bounded b.sym.0 most (few most refl)) (All-nil IsBounded)
    of_names None few = All-nil IsBounded
own_bounded admits (Some IntEntry) b small = All-nil IsBounded
own_bounded admits (Some IntGlobal) b small = All-nil IsBounded
own_bounded admits (Some (Builtin op)) b small = All-nil IsBounded
own_bounded admits (Some (Wizard body)) b small = All-nil IsBounded
own_bounded admits None b small = All-nil IsBounded

pub started_well_made : (style : Style) (admits : Cond) (pieces : List Piece) (whole at_entry : Bool) → HasSmallFields admits
    → All IsNumbered pieces → All (IsFit style) pieces → WellMade style (started style admits pieces whole at_entry)
started_well_made style admits pieces whole at_entry small numbered fit =
    let seated : List Bind = seats (bound_by (numbered_on 0 pieces)) (all_symbols pieces) (names_in_play style at_entry) in
    started_made style admits pieces whole at_entry numbered fit
    (All-append IsBounded (flat_map (λ piece. piece.rows) (numbered_on 0 pieces)) (flat_map (λ b. own_rows admits (kind_of style b.name) b) seated)
    (pieces_bounded style pieces fit)
    (each_given IsBounded (λ b. own_rows admits (kind_of style b.name) b) (λ b. Unit {0}) seated
    (λ b h. own_bounded admits (kind_of style b.name) b small) (λ k d less. tt)))
