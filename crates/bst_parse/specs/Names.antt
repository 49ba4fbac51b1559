-- Which names may be defined, and how names are compared (docs/LANGUAGE.md, "Bytes" and "Names").
use Rattle.std.specs.Prelude.{ℕ, Bool, List}
use Rattle.bv_base.specs.KeySets.{has_item}
use Rattle.name_table.specs.declared.style.Macro.{Macro}
pub use Rattle.name_table.specs.Names.{lowered, is_definable}

-- a macro of this name is among these
abbrev pub has_macro : List ℕ → List Macro → Bool
has_macro name macros = has_item (λ one. one.name) name macros
