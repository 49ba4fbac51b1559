-- Sums of terms (docs/ANALYSER.md, "Loops"): of one, two or three different terms, each added or taken away, the first one added.
use Rattle.std.specs.Prelude.{ℕ, zero, suc, ◌≤◌, List, [], ◌∷◌, ◌++◌, length, map, flat_map, ℤ, pos, negsuc}
use Rattle.std.specs.List.{All}
use Rattle.lin_facts.specs.Rows.{IsWithin}
use Rattle.lin_facts.specs.declared.row.Part.{Part}
use Rattle.lin_facts.specs.declared.row.Term.{Term}

-- a term that is added, and one that is taken away
abbrev pub plus : Term → Part
plus term = record { coefficient = pos 1; term = term }

-- a term that is taken away
abbrev pub less : Term → Part
less term = record { coefficient = negsuc 0; term = term }

-- the choices of so many of some terms, in their order
abbrev pub choices : ℕ → List Term → List (List Term)
choices zero terms = [] ∷ []
choices (suc n) [] = []
choices (suc n) (term ∷ terms) = map (λ chosen. term ∷ chosen) (choices n terms) ++ choices (suc n) terms

-- sums of these terms, each added or taken away: added ones first
abbrev pub signed : List Term → List (List Part)
signed [] = [] ∷ []
signed (term ∷ terms) = map (λ sum. plus term ∷ sum) (signed terms) ++ map (λ sum. less term ∷ sum) (signed terms)

-- sums of these terms of which the first is added
abbrev pub first_added : List Term → List (List Part)
first_added [] = []
first_added (term ∷ terms) = map (λ sum. plus term ∷ sum) (signed terms)

-- the sums of one, two and three of some terms, shorter ones first
abbrev pub sums : List Term → List (List Part)
sums terms = flat_map first_added (choices 1 terms ++ (choices 2 terms ++ choices 3 terms))

-- a sum of at most three terms, each with a coefficient of at most 1 in size
pub record IsSmallSum (sum : List Part) : Type 0 where
  pub few : length sum ≤ 3
  pub units : All (λ part. IsWithin 1 part.coefficient) sum
