-- Where refusals stand in a style (docs/CHECKER.md, "Refusals").
use Rattle.std.specs.Prelude.{◌≡◌, ℕ, ◌⊎◌, Some, slice_get}
use Rattle.bv_base.specs.Places.{first_place}
use Rattle.bv_base.specs.declared.place.Place.{Place}
use Rattle.name_table.specs.declared.style.Body.{Body}
use Rattle.name_table.specs.declared.style.Style.{Style}
use Rattle.name_table.specs.declared.style.TokenAt.{TokenAt}

-- the place of a token among those of a body
abbrev pub IsOfToken : Body → Place → Type 0
IsOfToken body place = (k : ℕ) × (t : TokenAt) × (slice_get body.tokens k ≡ Some t) × (place ≡ t.place)

-- the place of a body of a style, or of one of its tokens
abbrev pub IsOfBody : Style → Place → Type 0
IsOfBody style place =
    (k : ℕ) × (body : Body) × (slice_get style.bodies k ≡ Some body) × ((place ≡ body.place) ⊎ IsOfToken body place)

-- a unit's place is its body's, and that of a unit without a body the first one: there, or in a body, its rules fail
abbrev pub IsOfUnit : Style → Place → Type 0
IsOfUnit style place = IsOfBody style place ⊎ (place ≡ first_place)
