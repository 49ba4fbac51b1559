-- The database that some bytes are after another, or their first fault (docs/DATA.md, "The .bib file").
use Rattle.std.specs.Prelude.{ℕ, zero, suc, if◌then◌else◌, List, [], ◌++◌, false, length, Option, None, Some, Result, Ok, Err, codes}
use Rattle.bv_base.specs.Answers.{then_do}
use Rattle.name_table.specs.Names.{same_name}
use Rattle.name_table.specs.declared.style.Macro.{Macro}
use Rattle.bib_read.specs.declared.database.Database.{Database}
use Rattle.bib_read.specs.declared.fault.BibFault.{BibFault}
use Rattle.bib_read.specs.declared.stop.Stop.{Stop}
use Rattle.bib_read.specs.Entering.{take_entry}
use Rattle.bib_read.specs.Names.{all_defined, defined}
use Rattle.bib_read.specs.Parts.{take_identifier, take_mark, take_opening}
use Rattle.bib_read.specs.Progress.{Progress}
use Rattle.bib_read.specs.Runs.{after_at}
use Rattle.bib_read.specs.Squeeze.{squeezed}
use Rattle.bib_read.specs.Stops.{fault_of}
use Rattle.bib_read.specs.Values.{take_equals, take_value}

-- a macro is defined by the value that has been read
abbrev pub with_definition : List ℕ → Progress → Progress
with_definition name p = record p { macros = defined name (squeezed false p.text) p.macros }

-- the definition of a macro after its name: `=`, a value and the closing byte
abbrev pub take_definition : ℕ → List ℕ → Progress → Result Progress Stop
take_definition close name p =
    then_do (take_equals p) (λ q. then_do (take_mark close q) (λ r. Ok (with_definition name r)))

-- `@string`, after what opens it: an identifier, and its definition
abbrev pub take_string : ℕ → Progress → Result Progress Stop
take_string close p = then_do (take_identifier p) (λ found. take_definition close found.0 found.1)

-- the value that has been read is appended to the preamble
abbrev pub with_preamble : Progress → Progress
with_preamble p = record p { preamble = p.preamble ++ squeezed false p.text }

-- `@preamble`, after what opens it: a value and the closing byte
abbrev pub take_preamble : ℕ → Progress → Result Progress Stop
take_preamble close p =
    then_do (take_value p) (λ q. then_do (take_mark close q) (λ r. Ok (with_preamble r)))

-- what `{` or `(` opens after a word
abbrev pub take_opened : List ℕ → ℕ → Progress → Result Progress Stop
take_opened word close p =
    if same_name word (codes "string") then take_string close p
    else if same_name word (codes "preamble") then take_preamble close p
    else take_entry close word p

-- what an `@` begins: a comment ends after its word
abbrev pub take_item : Progress → Result Progress Stop
take_item p =
    then_do (take_identifier p) (λ found.
    if same_name found.0 (codes "comment") then Ok found.1
    else then_do (take_opening found.1) (λ opened. take_opened found.0 opened.0 opened.1))

-- what the next `@` begins, and what is wanted after it
abbrev pub next_item : Option (List ℕ) → Progress → (Progress → Result Progress Stop) → Result Progress Stop
next_item None p next = Ok p
next_item (Some left) p next = then_do (take_item (record p { left = left })) next

-- what each `@` begins, at most so many times; where there are as many as bytes nothing is left
abbrev pub take_items : ℕ → Progress → Result Progress Stop
take_items zero p = Ok p
take_items (suc more) p = next_item (after_at p.left) p (take_items more)

-- before the first byte, after the databases that have been read
abbrev pub start : List ℕ → Database → Progress
start source before =
    record {
      left = source;
      macros = all_defined before.macros [];
      entries = before.entries;
      preamble = before.preamble;
      warnings = before.warnings;
      text = [];
      fields = [];
    }

-- what has been read
abbrev pub database : Progress → Database
database p =
    record { macros = p.macros; entries = p.entries; preamble = p.preamble; warnings = p.warnings }

-- what has been read at the end, or the fault
abbrev pub finished : List ℕ → Result Progress Stop → Result Database BibFault
finished source (Ok p) = Ok (database p)
finished source (Err stop) = Err (fault_of source stop)

-- what a text adds to the databases that have been read, or its first fault
abbrev pub database_of : List ℕ → Database → Result Database BibFault
database_of source before = finished source (take_items (length source) (start source before))

-- the macros of a style and nothing else
abbrev pub opening : List Macro → Database
opening macros = record { macros = macros; entries = []; preamble = []; warnings = [] }
