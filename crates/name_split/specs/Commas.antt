-- How many commas are seen (docs/NAMES.md, "Parts").
use Rattle.std.specs.Prelude.{◌≡◌, ℕ, ◌<◌, List, [], ◌∷◌, length}
use Rattle.name_split.specs.declared.commas.Commas.{Commas}
use Rattle.name_split.specs.declared.commas.Commas.TheVariants.{Zero, One, Two, Many}

-- these are the commas, or there are more than two
abbrev pub CommasAre : Commas → List ℕ → Type 0
CommasAre Zero found = found ≡ []
CommasAre (One comma) found = found ≡ comma ∷ []
CommasAre (Two comma second) found = found ≡ comma ∷ second ∷ []
CommasAre Many found = 2 < length found

-- they stand below a bound
abbrev pub AreBelow : Commas → ℕ → Type 0
AreBelow Zero bound = Unit {0}
AreBelow (One comma) bound = comma < bound
AreBelow (Two comma second) bound = (comma < bound) × (second < bound)
AreBelow Many bound = Unit {0}

-- one comma more
abbrev pub one_more : Commas → ℕ → Commas
one_more Zero at = One at
one_more (One comma) at = Two comma at
one_more (Two comma second) at = Many
one_more Many at = Many
