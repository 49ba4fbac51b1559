-- A refusal of the rules for a style that was read stands in its text, or at its end.
use Rattle.std.proofs.Common.{ℕ, ◌⊎◌, List, Option, inl, inr, sym, subst, arith}
use Rattle.std.specs.Prelude.{IfSome}
use Rattle.bv_base.specs.Places.{StandsIn}
use Rattle.bv_base.specs.declared.place.Place.{Place}
use Rattle.name_table.specs.Sound.{Each}
use Rattle.name_table.specs.declared.style.Body.{Body}
use Rattle.name_table.specs.declared.style.CommandAt.{CommandAt}
use Rattle.name_table.specs.declared.style.Style.{Style}
use Rattle.name_table.specs.declared.style.TokenAt.{TokenAt}
use Rattle.name_table.proofs.Within.{got}
use Rattle.bst_parse.specs.PlacesStand.{BodyStands, IsOfByte, PlacesStand}
use Rattle.cert_check.proofs.ReadPieces.{each_each}
use Rattle.cert_check.proofs.RefusalPlaces.{unit_stands}
use Rattle.cert_check.specs.Places.{IsOfUnit}
use Rattle.command_flow.specs.Places.{IsOfCommand}

module _ (source : List ℕ) where
  -- the place of a byte stands in the text
  in_text : (place : Place) → IsOfByte source place → StandsIn source place
  in_text place (at, within, is) = (at, omega (within, arith), is)

  token_in_text : (token : TokenAt) → IsOfByte source token.place → StandsIn source token.place
  token_in_text token is = in_text token.place is

  body_in_text : (body : Body) → BodyStands source body → StandsIn source body.place × Each (λ t. StandsIn source t.place) body.tokens
  body_in_text body stands =
      (in_text body.place stands.place, each_each (λ (t : TokenAt). IsOfByte source t.place) (λ t. StandsIn source t.place) token_in_text body.tokens stands.tokens)

  command_in_text : (style : Style) (place : Place) → PlacesStand source style → IsOfCommand style place → StandsIn source place
  command_in_text style place stands (k, at, there, is) =
      let here = got (λ (c : CommandAt). IsOfByte source c.place) style.commands k stands.commands in
      subst (StandsIn source) (sym is)
      (in_text at.place (subst (λ (o : Option CommandAt). IfSome o (λ c. IsOfByte source c.place)) there here))

  -- where the places of a style stand, its refusals do
  pub rule_in_text : (style : Style) (place : Place) → PlacesStand source style → IsOfCommand style place ⊎ IsOfUnit style place → StandsIn source place
  rule_in_text style place stands (inl command) = command_in_text style place stands command
  rule_in_text style place stands (inr unit) =
      unit_stands source style place
      (each_each (BodyStands source) (λ body. StandsIn source body.place × Each (λ t. StandsIn source t.place) body.tokens) body_in_text style.bodies stands.bodies)
      unit
