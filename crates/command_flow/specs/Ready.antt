-- Pieces from which the states of commands may start, and which they may be shown to entail: what a certificate's pieces are, and
-- what comes of them.
use Rattle.std.specs.Prelude.{◌≡◌, Result, Ok}
use Rattle.std.specs.List.{All}
use Rattle.name_table.specs.Sound.{IsSound}
use Rattle.name_table.specs.declared.style.Style.{Style}
use Rattle.sym_state.specs.Demands.{HasFewUses}
use Rattle.sym_state.specs.Starting.{IsFit, IsNumbered}
use Rattle.sym_state.specs.WellMade.{HasSmallFields}
use Rattle.sym_state.specs.declared.piece.Piece.{Piece}
use Rattle.cert_check.specs.Certified.{IsMovable, IsShort}
use Rattle.cert_check.specs.Given.{GoesOn}
use Rattle.cert_check.specs.declared.refusal.Refusal.{Refusal}
use Rattle.command_flow.specs.declared.at.At.{At}
use Rattle.command_flow.specs.declared.between.Between.{Between}
use Rattle.command_flow.specs.declared.between.Parts.{Parts}

-- a piece is within the bounds of calls, its facts and rows name symbols that it has, and it fits the style
pub record IsReady (style : Style) (piece : Piece) : Type 0 where
  pub short : IsShort piece
  pub numbered : IsNumbered piece
  pub fit : IsFit style piece

-- the pieces between commands
pub record AreReady (style : Style) (between : Between) : Type 0 where
  pub globals : IsReady style between.globals
  pub entry : IsReady style between.entry

-- the pieces and hints of a record
pub record ArePartsReady (style : Style) (parts : Parts) : Type 0 where
  pub after : IsReady style parts.after
  pub visit : IsReady style parts.visit
  pub movable : All IsMovable parts.visit.rows
  pub keeps : IsReady style parts.keeps
  pub hints : All HasFewUses parts.hints

-- a command stands in a sound style, which is the checker's, under the condition of the checker's certificate
pub record Agrees (at : At) : Type 0 where
  pub sound : IsSound at.style.now
  pub small : HasSmallFields at.cond.now
  pub style : at.style.now ≡ at.checker.now.style
  pub cond : at.cond.now ≡ at.checker.now.cert.cond

-- a call gives what the rule does, or its refusal
abbrev pub Decides : {A : Type 0} → Result A Refusal → Result A Refusal → Type 0
Decides wanted result = GoesOn wanted (λ given. Ok given) result
