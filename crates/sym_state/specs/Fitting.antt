-- What may be added to a well-made state (docs/STATES.md, "Well-made states").
use Rattle.std.specs.Prelude.{ℕ, ◌<◌}
use Rattle.std.specs.List.{All}
use Rattle.lin_facts.specs.declared.row.Row.{Row}
use Rattle.name_table.specs.declared.style.Style.{Style}
use Rattle.sym_state.specs.Facts.{subject}
use Rattle.sym_state.specs.WellMade.{HasByteText, HasShortText, HasSmallInteger, IsBounded, IsOfStyle, IsTermBelow}
use Rattle.sym_state.specs.declared.symbol.Fact.{Fact}

-- a fact on a symbol below a number, which says what can be said of a value, within the bounds of facts
pub record FactFits (style : Style) (next : ℕ) (fact : Fact) : Type 0 where
  pub below : subject fact < next
  pub of_style : IsOfStyle style fact
  pub integer : HasSmallInteger fact
  pub bytes : HasByteText fact
  pub short : HasShortText fact

-- a row on symbols below it, within the bounds of rows
pub record RowFits (next : ℕ) (row : Row) : Type 0 where
  pub below : All (λ part. IsTermBelow next part.term) row.parts
  pub bounded : IsBounded row
