-- What contracts on commands speak of (docs/CHECKER.md, "Commands"): a style, its certificate and what is found for it, what the
-- checker's calls give, and the room and the bounds of states and hints.
pub use Rattle.std.specs.List.{All}
pub use Rattle.name_table.specs.Sound.{Each, IsSound}
pub use Rattle.name_table.specs.declared.style.Style.{Style}
pub use Rattle.bst_meaning.specs.Safe.{Safe}
pub use Rattle.cert_format.specs.CertText.{IsHint}
pub use Rattle.cert_format.specs.declared.cert.Cert.{Cert}
pub use Rattle.cert_format.specs.declared.cert.CommandPart.{CommandPart}
pub use Rattle.straight_hints.specs.declared.finding.Finding.{Finding}
pub use Rattle.sym_state.specs.Demands.{HasFewUses}
pub use Rattle.sym_state.specs.Starting.{started}
pub use Rattle.sym_state.specs.WellMade.{HasBounds, HasSmallFields, WellMade}
pub use Rattle.cert_check.specs.Certified.{IsCertified}
pub use Rattle.cert_check.specs.Given.{CanEnd, GoesOn, Takes}
pub use Rattle.cert_check.specs.Places.{IsOfUnit}
pub use Rattle.cert_check.specs.Room.{HasRoom, IsEnd}
pub use Rattle.cert_check.specs.declared.refusal.Refusal.{Refusal}
