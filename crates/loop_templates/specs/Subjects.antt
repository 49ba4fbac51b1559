-- What contracts on cases and their rows speak of beside them (docs/ANALYSER.md, "Loops"): well-made states and rows whose numbers have
-- bounds, and rows over other symbols.
pub use Rattle.lin_facts.specs.Rows.{IsWithin}
pub use Rattle.sym_state.specs.Changes.{symbol_at}
pub use Rattle.sym_state.specs.Renaming.{row_renamed, term_renamed}
pub use Rattle.sym_state.specs.WellMade.{HasBounds, IsBounded, WellMade, ids_from}
