-- How far the commands of a style are read.
use Rattle.std.specs.Prelude.{ℕ, Bool, List, Option}
use Rattle.bv_base.specs.declared.place.Place.{Place}
use Rattle.name_table.specs.declared.names.Kind.{Kind}
use Rattle.name_table.specs.declared.names.NameId.{NameId}
use Rattle.name_table.specs.declared.style.Body.{Body}
use Rattle.name_table.specs.declared.style.BodyId.{BodyId}
use Rattle.name_table.specs.declared.style.CommandAt.{CommandAt}
use Rattle.name_table.specs.declared.style.Macro.{Macro}
use Rattle.bst_parse.specs.declared.grammar.Part.{Part}

-- the names, commands, bodies, texts and macros so far, and where the reader stands
pub record Progress : Type 0 where
  pub names : List (List ℕ × Kind)
  pub commands : List CommandAt
  pub bodies : List Body
  pub texts : List (List ℕ)
  pub macros : List Macro
  -- whether an ENTRY and a READ command stood
  pub has_entry : Bool
  pub has_read : Bool
  -- the parts of the last command that are still to come, and the place of its word
  pub parts : List Part
  pub place : Place
  -- the function and the macro that were defined last
  pub function : Option NameId
  pub macro_name : List ℕ
  -- the bodies whose closing braces are still to come, the innermost first
  pub opened : List BodyId
