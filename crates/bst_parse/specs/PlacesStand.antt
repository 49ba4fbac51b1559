-- Where the places of a style stand (docs/LANGUAGE.md, "What is read").
use Rattle.std.specs.Prelude.{◌≡◌, ℕ, ◌<◌, List, length}
use Rattle.bv_base.specs.Places.{place_at}
use Rattle.bv_base.specs.declared.place.Place.{Place}
use Rattle.name_table.specs.Sound.{Each}
use Rattle.name_table.specs.declared.style.Body.{Body}
use Rattle.name_table.specs.declared.style.Style.{Style}

-- the place of a byte of the text
abbrev pub IsOfByte : List ℕ → Place → Type 0
IsOfByte source place = (at : ℕ) × (at < length source) × (place ≡ place_at source at)

-- a body and each of its tokens have the place of a byte
pub record BodyStands (source : List ℕ) (body : Body) : Type 0 where
  pub place : IsOfByte source body.place
  pub tokens : Each (λ token. IsOfByte source token.place) body.tokens

-- each command, each body and each token of a style has the place of a byte of its text
pub record PlacesStand (source : List ℕ) (style : Style) : Type 0 where
  pub commands : Each (λ command. IsOfByte source command.place) style.commands
  pub bodies : Each (BodyStands source) style.bodies
