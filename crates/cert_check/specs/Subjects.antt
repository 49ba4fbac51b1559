-- What contracts of a walk speak of (docs/CHECKER.md, "The walk"): what it is taken over and where, what it comes to, and the room and
-- the bounds of states and hints.
pub use Rattle.std.specs.List.{All}
pub use Rattle.name_table.specs.Sound.{Each, IsSound}
pub use Rattle.cert_format.specs.CertText.{IsHint}
pub use Rattle.sym_state.specs.Demands.{HasFewUses}
pub use Rattle.sym_state.specs.WellMade.{HasBounds, IsBounded, WellMade}
pub use Rattle.cert_check.specs.Certified.{AreMade, AreSound, CanWalk, IsCertified, IsLoopOf, IsPieceOf, IsStanding, IsSummaryOf}
pub use Rattle.cert_check.specs.Given.{AnswersAt, AreCases, CanEnd, Finds, GoesOn, Leads, Refused, Takes}
pub use Rattle.cert_check.specs.Here.{here}
pub use Rattle.cert_check.specs.Room.{AreWithin, GivesRoom, HasRoom, IsCaseWithin, IsEnd}
