-- Blank texts (docs/TEXTS.md, "Blank texts").
use Rattle.std.specs.Prelude.{ℕ, Bool, List}
use Rattle.std.specs.List.{list_all}
use Rattle.bv_base.specs.Bytes.{is_white}

-- the text has no byte other than white space
abbrev pub blank : List ℕ → Bool
blank text = list_all is_white text
