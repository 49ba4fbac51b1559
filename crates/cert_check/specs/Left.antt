-- What pieces have where a unit may be used (docs/CHECKER.md, "Use of a summary"): every certificate that was read has it.
use Rattle.std.specs.Prelude.{◌≡◌, ℕ, suc, ◌<◌, ◌≤◌, true, false, nat_eq, List, [], ◌∷◌, max}
use Rattle.std.specs.List.{All, list_any}
use Rattle.std.specs.Option.{option_map_or}
use Rattle.name_table.specs.declared.style.Style.{Style}
use Rattle.bst_meaning.specs.StyleParts.{kind_of}
use Rattle.sym_state.specs.Facts.{subject}
use Rattle.sym_state.specs.Starting.{IsFit, has_kind, placed, symbols_of}
use Rattle.sym_state.specs.WellMade.{IsTermBelow, is_field, is_variable}
use Rattle.sym_state.specs.declared.piece.Piece.{Piece}
use Rattle.sym_state.specs.declared.symbol.Bind.{Bind}
use Rattle.cert_check.specs.Uses.{Passage}

-- each symbol of a piece between two numbers has a place in it
abbrev pub HasPlaces : ℕ → ℕ → Piece → Type 0
HasPlaces from end piece = (s : ℕ) → from ≤ s → s < end → list_any (λ sym. nat_eq sym.0 s) (placed piece) ≡ true

-- bindings upwards by id, from this id on
abbrev pub AreUpwards : ℕ → List Bind → Type 0
AreUpwards id [] = Unit {0}
AreUpwards id (bind ∷ binds) = (id ≤ bind.name.0) × AreUpwards (suc bind.name.0) binds

-- a post, whose symbols below `kept` are those of its pre: its facts and rows name symbols of either, and fit
pub record IsPost (style : Style) (kept : ℕ) (post : Piece) : Type 0 where
  pub fit : IsFit style post
  pub facts : All (λ fact. subject fact < max kept (symbols_of post)) post.facts
  pub rows : All (λ row. All (λ part. IsTermBelow (max kept (symbols_of post)) part.term) row.parts) post.rows

-- a post says where its own symbols are, it binds variables, upwards by id, and fields that have a value in its unit, and the unit
-- writes such variables
pub record IsPlaced (style : Style) (unit : Passage) (kept : ℕ) (post : Piece) : Type 0 where
  pub places : HasPlaces kept (symbols_of post) post
  pub vars : All (λ bind. has_kind style (is_variable unit.entry) bind ≡ true) post.vars
  pub fields : All (λ bind. has_kind style (is_field unit.entry) bind ≡ true) post.fields
  pub upwards : AreUpwards 0 post.vars
  pub writes : All (λ name. option_map_or (is_variable unit.entry) (kind_of style name) false ≡ true) unit.writes
