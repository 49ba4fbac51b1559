-- Keys of parents say which of them are in a list.
use Rattle.std.proofs.Common.{◌≡◌, ℕ, Bool, true, false, ◌||◌, List, [], ◌∷◌, ◌++◌, Option, None, Some, refl, ap}
use Rattle.std.specs.Option.{option_map, option_to_list}
use Rattle.std.specs.List.{AllByRecursion}
use Rattle.bv_base.specs.KeySets.{has_lowered}
use Rattle.bib_read.specs.RawEntries.{RawEntry}
use Rattle.entry_list.specs.Fields.{is_parent_listed}
use Rattle.entry_list.specs.Keys.{Listed, is_listed, own, same_key}
use Rattle.entry_list.specs.Parents.{parent_of, parents_of}
use Rattle.entry_list.specs.Tables.{TellsParent, has_parent}
use Rattle.entry_list.proofs.Found.{key_refl}

or_later : (a b : Bool) → b ≡ true → (a || b) ≡ true
or_later true b is = refl
or_later false b is = is

-- keys that say it of each key of the parents of entries say it of these entries' parents
pub all_told : (keys : List (List ℕ)) (raw : List RawEntry) (list some : List Listed)
    → ((key : List ℕ) → is_listed key (parents_of raw some) ≡ true → has_lowered key keys ≡ is_listed key list)
    → AllByRecursion (TellsParent keys raw list) some
all_told keys raw list [] same = tt
all_told keys raw list (l ∷ some) same = one (parent_of raw l.entry) same (all_told keys raw list some)
  where
    one : (o : Option RawEntry)
        → ((key : List ℕ) → is_listed key (option_to_list (option_map own o) ++ parents_of raw some) ≡ true
        → has_lowered key keys ≡ is_listed key list)
        → (((key : List ℕ) → is_listed key (parents_of raw some) ≡ true → has_lowered key keys ≡ is_listed key list)
        → AllByRecursion (TellsParent keys raw list) some)
        → (has_parent keys o ≡ is_parent_listed list o) × AllByRecursion (TellsParent keys raw list) some
    one None same later = (refl, later same)
    one (Some parent) same later = (
      same parent.key (ap (λ b. b || is_listed parent.key (parents_of raw some)) (key_refl parent.key)),
      later (λ key among. same key (or_later (same_key key parent.key) (is_listed key (parents_of raw some)) among)),
    )
