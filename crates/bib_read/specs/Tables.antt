-- How tables stand for lists.
use Rattle.std.specs.Prelude.{ℕ}
use Rattle.std.specs.Global.{Vec}
use Rattle.name_table.specs.declared.style.Macro.{Macro}

-- the macro that an entry of the table is
abbrev pub macro_of : Vec ℕ × Vec ℕ → Macro
macro_of entry = record { name = entry.0.items; value = entry.1.items }
