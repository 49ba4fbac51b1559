-- A walk of four tokens (docs/STATES.md, "A walk"): a literal, a variable or a field, a built-in function and a test.
use Rattle.std.specs.Prelude.{◌≡◌, ℕ, List, [], ◌∷◌, ◌++◌, None, Some, Ok, true}
use Rattle.lin_facts.specs.Rows.{Holds}
use Rattle.lin_facts.specs.declared.row.Row.{Row}
use Rattle.name_table.specs.Sound.{IsTokenSound}
use Rattle.name_table.specs.declared.builtin.Builtin.{Builtin}
use Rattle.name_table.specs.declared.names.Kind.TheVariants.{Builtin as BuiltinKind}
use Rattle.name_table.specs.declared.names.NameId.{NameId}
use Rattle.name_table.specs.declared.style.Style.{Style}
use Rattle.name_table.specs.declared.style.Token.{Token}
use Rattle.name_table.specs.declared.style.Token.TheVariants.{Call}
use Rattle.name_table.specs.declared.style.TokenAt.{TokenAt}
use Rattle.bst_meaning.specs.Config.{Config, Frame}
use Rattle.bst_meaning.specs.StyleParts.{kind_of}
use Rattle.bst_meaning.specs.declared.condition.Cond.{Cond}
use Rattle.bst_meaning.specs.declared.value.Value.{Value}
use Rattle.sym_state.specs.Cases.{Cases, split_of}
use Rattle.sym_state.specs.Demands.{After}
use Rattle.sym_state.specs.Effects.{effect_of}
use Rattle.sym_state.specs.Entailing.{first_unentailed, match_of, under}
use Rattle.sym_state.specs.Pushes.{pushed_by}
use Rattle.sym_state.specs.References.{shows}
use Rattle.sym_state.specs.Renaming.{through}
use Rattle.sym_state.specs.Stands.{PieceHolds, values_of}
use Rattle.sym_state.specs.State.{State}
use Rattle.sym_state.specs.Symbols.{Agrees, Valuation, numbers}
use Rattle.sym_state.specs.WellMade.{WellMade}
use Rattle.sym_state.specs.declared.hint.Hint.{Hint}
use Rattle.sym_state.specs.declared.piece.Piece.{Piece}
use Rattle.sym_state.specs.declared.proof.Proof.{Proof}
use Rattle.sym_state.specs.declared.test.Test.{Test}
use Rattle.refinements.specs.Covered.{IsAmong, function_of}

-- no fault has stopped the machine, and in its innermost frame these tokens come next
pub record IsToExecute (tokens : List TokenAt) (c : Config) : Type 0 where
  pub goes_on : c.stopped ≡ None
  pub frame : Frame
  pub frames : List Frame
  pub innermost : c.frames ≡ frame ∷ frames
  pub later : List TokenAt
  pub next : frame.tokens ≡ tokens ++ later

-- the four tokens, the states between them, the hints that the function finds, the cases of the test, and a piece of which the
-- symbols below `kept` are the state's
pub record Walk : Type 0 where
  pub literal : TokenAt
  pub value : TokenAt
  pub call : TokenAt
  pub asked : TokenAt
  pub hints : List Hint
  pub one : State
  pub two : State
  pub after : After
  pub test : Test
  pub cases : Cases
  pub piece : Piece
  pub kept : ℕ

-- its tokens, in order
abbrev pub tokens_of : Walk → List TokenAt
tokens_of walk = walk.literal ∷ walk.value ∷ walk.call ∷ walk.asked ∷ []

-- a token is the call of a built-in function
pub record Calls (style : Style) (token : Token) (op : Builtin) : Type 0 where
  pub name : NameId
  pub is : token ≡ Call name
  pub kind : kind_of style name ≡ Some (BuiltinKind op)

-- what the checker finds from a state on: two pushes, an effect, cases, and of each of them that it entails the piece
pub record IsWalked (style : Style) (admits : Cond) (start : State) (walk : Walk) : Type 0 where
  pub literal_fits : IsTokenSound style.names style.bodies style.texts walk.literal.token
  pub literal : pushed_by style walk.literal.token start ≡ Some walk.one
  pub value_fits : IsTokenSound style.names style.bodies style.texts walk.value.token
  pub value : pushed_by style walk.value.token walk.one ≡ Some walk.two
  pub op : Builtin
  pub calls : Calls style walk.call.token op
  pub effect : effect_of style admits walk.two op walk.hints ≡ Ok walk.after
  pub test : Builtin
  pub function : function_of walk.test ≡ Some test
  pub asks : Calls style walk.asked.token test
  pub split : split_of admits walk.after.state walk.test walk.after.hints ≡ Ok walk.cases
  pub entailed : (one : State) → IsAmong one walk.cases.states
      → (proofs : List Proof) × (first_unentailed one admits walk.piece walk.kept proofs ≡ None)

-- where the machine is after the walk: it has no fault, one of the cases stands, which is well made, each row that a proof shows in
-- it holds, and the piece holds, by an assignment that agrees with the first on so many symbols
pub record IsReached (style : Style) (admits : Cond) (v : Valuation) (symbols : ℕ) (walk : Walk) (c : Config) (below : List Value) : Type 0 where
  pub goes_on : c.stopped ≡ None
  pub last : State
  pub among : IsAmong last walk.cases.states
  pub made : WellMade style last
  pub assignment : Valuation
  pub agrees : Agrees symbols v assignment
  pub shown : (proof : Proof) (row : Row) → shows admits last proof row ≡ true → Holds (numbers assignment) row
  pub holds : PieceHolds style (through (match_of last walk.piece walk.kept) assignment) walk.piece c
      (values_of assignment (under last walk.piece) ++ below)
