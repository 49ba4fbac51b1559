-- Where refusals of commands stand in a style (docs/CHECKER.md, "Refusals").
use Rattle.std.specs.Prelude.{◌≡◌, ℕ, Some, slice_get}
use Rattle.bv_base.specs.declared.place.Place.{Place}
use Rattle.name_table.specs.declared.style.CommandAt.{CommandAt}
use Rattle.name_table.specs.declared.style.Style.{Style}

-- the place of a command of a style
abbrev pub IsOfCommand : Style → Place → Type 0
IsOfCommand style place = (k : ℕ) × (at : CommandAt) × (slice_get style.commands k ≡ Some at) × (place ≡ at.place)
