-- What contracts on hints speak of beside them (docs/ANALYSER.md, "Hints"): a state and rows whose numbers have bounds, operands that
-- are taken, and hints that a certificate can have.
pub use Rattle.lin_facts.specs.Rows.{IsWithin}
pub use Rattle.name_table.specs.Sound.{Each}
pub use Rattle.sym_state.specs.Demands.{HasFewUses, without}
pub use Rattle.sym_state.specs.WellMade.{HasBounds, IsBounded}
pub use Rattle.cert_format.specs.CertText.{IsHint}
