-- Texts under numbers, one after the other in one piece of memory.
use Rattle.std.specs.Prelude.{ℕ, suc, nat_eq, nat_lt, if◌then◌else◌, List, [], ◌∷◌, Option, None, Some}

-- a text under a number
pub record Numbered : Type 0 where
  pub number : ℕ
  pub text : Option (List ℕ)

-- what is read where no text stands
abbrev pub no_text : Numbered
no_text = record { number = 0; text = None }

-- these texts under these numbers
abbrev pub numbered : List ℕ → List (Option (List ℕ)) → List Numbered
numbered [] texts = []
numbered (number ∷ numbers) [] = []
numbered (number ∷ numbers) (text ∷ texts) = record { number = number; text = text } ∷ numbered numbers texts

-- the text under a number, where the numbers rise: the first that isn't below it decides
abbrev pub text_under : ℕ → List Numbered → Option (List ℕ)
text_under number [] = None
text_under number (first ∷ more) =
    if nat_eq first.number number then first.text else (if nat_lt number first.number then None else text_under number more)

-- the values that are there, each under its place, where the first place is this
abbrev pub under_places : ℕ → List (Option (List ℕ)) → List Numbered
under_places place [] = []
under_places place (None ∷ values) = under_places (suc place) values
under_places place (Some value ∷ values) = record { number = place; text = Some value } ∷ under_places (suc place) values
