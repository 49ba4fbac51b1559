-- The texts of warnings (docs/DATA.md, "Warnings of a database").
use Rattle.std.specs.Prelude.{ℕ, List, ◌++◌, codes}

-- a macro that isn't defined
abbrev pub undefined_macro : List ℕ → List ℕ
undefined_macro name = codes "Warning--undefined macro " ++ name

-- a field that an entry has already
abbrev pub second_field : List ℕ → List ℕ → List ℕ
second_field name key = ((codes "Warning--second field " ++ name) ++ codes " in ") ++ key
