-- The texts of warnings (docs/DATA.md, "The list of entries").
use Rattle.std.specs.Prelude.{ℕ, List, ◌++◌, codes}

-- a citation without an entry
abbrev pub no_entry : List ℕ → List ℕ
no_entry key = codes "Warning--no entry " ++ key

-- a `crossref` that names no entry
abbrev pub no_parent : List ℕ → List ℕ → List ℕ
no_parent parent key = ((codes "Warning--no parent " ++ parent) ++ codes " for ") ++ key
