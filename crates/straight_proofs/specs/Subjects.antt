-- What contracts of straight proofs speak of beside them (docs/STATES.md, "Straight proofs"): a state and rows whose numbers have
-- bounds, and what proofs show of a state.
pub use Rattle.lin_facts.specs.Rows.{IsSmall, IsWithin}
pub use Rattle.sym_state.specs.Cases.{absurdity}
pub use Rattle.sym_state.specs.References.{shows}
pub use Rattle.sym_state.specs.WellMade.{HasBounds, IsBounded}
