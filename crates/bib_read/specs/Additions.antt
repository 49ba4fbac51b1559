-- What a text adds to the databases that were read before (docs/DATA.md, "The .bib file").
use Rattle.std.specs.Prelude.{◌≡◌, false, List, [], ◌∷◌, ◌++◌}
use Rattle.std.specs.List.{AllByRecursion}
use Rattle.bv_base.specs.Keys.{IsKey}
use Rattle.name_table.specs.Names.{lowered}
use Rattle.name_table.specs.declared.style.Macro.{Macro}
use Rattle.bib_read.specs.declared.database.Database.{Database}
use Rattle.bib_read.specs.RawEntries.{RawEntry}
use Rattle.bib_read.specs.Names.{all_defined, has_entry}

-- each entry has a key
abbrev pub AreKeyed : List RawEntry → Type 0
AreKeyed entries = AllByRecursion (λ entry. IsKey entry.key) entries

-- a list is another with more behind it
abbrev pub IsLonger : {X : Type 0} → List X → List X → Type 0
IsLonger {X} old new = (more : List X) × (new ≡ old ++ more)

-- macros are others with more that are defined one after the other
abbrev pub HasDefined : List Macro → List Macro → Type 0
HasDefined old new = (more : List Macro) × (new ≡ all_defined more old)

-- each of these entries has a key, which no entry before it has once both are lowered
abbrev pub AreNew : List RawEntry → List RawEntry → Type 0
AreNew before [] = Unit {0}
AreNew before (entry ∷ more) =
    IsKey entry.key × (has_entry (lowered entry.key) before ≡ false) × AreNew (before ++ entry ∷ []) more

-- entries are others with new ones behind them
abbrev pub HasAdded : List RawEntry → List RawEntry → Type 0
HasAdded old new = (more : List RawEntry) × (new ≡ old ++ more) × AreNew old more

-- what was read stays, and what is added comes after it
pub record HasGrown (before after : Database) : Type 0 where
  pub macros : HasDefined (all_defined before.macros []) after.macros
  pub entries : HasAdded before.entries after.entries
  pub preamble : IsLonger before.preamble after.preamble
  pub warnings : IsLonger before.warnings after.warnings
