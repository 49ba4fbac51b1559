-- The fields of an entry, and entries (docs/DATA.md, "Entries").
use Rattle.std.specs.Prelude.{ℕ, zero, suc, nat_eq, if◌then◌else◌, List, [], ◌∷◌, ◌++◌, length, take, drop, Result, Ok, Err}
use Rattle.bv_base.specs.Runs.{after_white, length_before}
use Rattle.bv_base.specs.Answers.{then_do}
use Rattle.name_table.specs.Names.{lowered}
use Rattle.bib_read.specs.declared.stop.Stop.{Stop}
use Rattle.bib_read.specs.declared.stop.Stop.TheVariants.{EndOfFile, RepeatedKey}
use Rattle.bib_read.specs.Names.{has_entry, has_field}
use Rattle.bib_read.specs.Parts.{passed, stands, take_identifier, take_mark}
use Rattle.bib_read.specs.Progress.{Progress}
use Rattle.bib_read.specs.Runs.{ends_key}
use Rattle.bib_read.specs.Squeeze.{trimmed}
use Rattle.bib_read.specs.Stops.{unexpected}
use Rattle.bib_read.specs.Values.{take_equals}
use Rattle.bib_read.specs.Warnings.{second_field}

-- a second field of one name gives a warning
abbrev pub noted : List ℕ → List ℕ → Progress → Progress
noted key name p =
    if has_field name p.fields then record p { warnings = p.warnings ++ second_field name key ∷ [] } else p

-- a field with the value that has been read; a second one of its name is ignored
abbrev pub with_field : List ℕ → Progress → Progress
with_field name p =
    if has_field name p.fields then p
    else record p { fields = p.fields ++ record { name = name; value = trimmed p.text } ∷ [] }

-- a field after its name: `=` and a value
abbrev pub take_named : List ℕ → List ℕ → Progress → Result Progress Stop
take_named key name p = then_do (take_equals (noted key name p)) (λ q. Ok (with_field name q))

-- a field: an identifier, `=` and a value
abbrev pub take_field : List ℕ → Progress → Result Progress Stop
take_field key p = then_do (take_identifier p) (λ found. take_named key found.0 found.1)

-- the rest of an entry after its key or a field: the closing byte, or a comma and then the closing byte or a field;
-- at most so many fields stand, and where there are as many as bytes nothing is left
abbrev pub take_fields : ℕ → ℕ → List ℕ → Progress → Result Progress Stop
take_fields zero close key p = Err EndOfFile
take_fields (suc more) close key p =
    if stands close p then Ok (passed close p)
    else then_do (take_mark 44 (passed close p)) (λ q.
    if stands close q then Ok (passed close q)
    else then_do (take_field key (passed close q)) (take_fields more close key))

-- an entry after those that are there, with the fields that have been read
abbrev pub with_entry : List ℕ → List ℕ → Progress → Progress
with_entry key entry_type p =
    record p {
      entries = p.entries ++ record { key = key; entry_type = entry_type; fields = p.fields } ∷ [];
      fields = [];
    }

-- an entry from its key on, which isn't empty and isn't that of another entry
abbrev pub entry_at : ℕ → List ℕ → List ℕ → Progress → Result Progress Stop
entry_at close entry_type bytes p =
    let count = length_before (ends_key close) bytes in
    let key = take count bytes in
    let left = drop count bytes in
    if nat_eq count 0 then Err (unexpected bytes)
    else if has_entry (lowered key) p.entries then Err (RepeatedKey (length bytes))
    else then_do (take_fields (length left) close key (record p { left = left; fields = [] }))
    (λ q. Ok (with_entry key entry_type q))

-- white space, and an entry from its key on
abbrev pub take_entry : ℕ → List ℕ → Progress → Result Progress Stop
take_entry close entry_type p = entry_at close entry_type (after_white p.left) p
