-- Marks, identifiers and opening braces, with white space before them (docs/DATA.md, "The .bib file").
use Rattle.std.specs.Prelude.{ℕ, Bool, false, nat_eq, if◌then◌else◌, List, [], ◌∷◌, length, take, drop, Result, Ok, Err}
use Rattle.bv_base.specs.Runs.{after_white, length_before}
use Rattle.name_table.specs.Names.{lowered}
use Rattle.bib_read.specs.declared.stop.Stop.{Stop}
use Rattle.bib_read.specs.declared.stop.Stop.TheVariants.{Expected, EndOfFile}
use Rattle.bib_read.specs.Progress.{Progress}
use Rattle.bib_read.specs.Runs.{begins_name, ends_name}
use Rattle.bib_read.specs.Stops.{unexpected}

-- a byte stands first
abbrev pub is_first : ℕ → List ℕ → Bool
is_first mark [] = false
is_first mark (b ∷ _) = nat_eq b mark

-- what is left without a byte, where it stands first
abbrev pub without_first : ℕ → List ℕ → List ℕ
without_first mark [] = []
without_first mark (b ∷ bytes) = if nat_eq b mark then bytes else b ∷ bytes

-- after white space a byte stands
abbrev pub stands : ℕ → Progress → Bool
stands mark p = is_first mark (after_white p.left)

-- white space is passed over, and a byte where it stands then
abbrev pub passed : ℕ → Progress → Progress
passed mark p = record p { left = without_first mark (after_white p.left) }

-- white space, and a byte that must stand
abbrev pub take_mark : ℕ → Progress → Result Progress Stop
take_mark mark p = if stands mark p then Ok (passed mark p) else Err (unexpected (passed mark p).left)

-- an identifier that stands first, lowered: the longest run of name bytes
abbrev pub identifier_at : List ℕ → Progress → Result (List ℕ × Progress) Stop
identifier_at bytes p =
    let count = length_before ends_name bytes in
    if begins_name bytes then Ok (lowered (take count bytes), record p { left = drop count bytes })
    else Err (unexpected bytes)

-- white space, and an identifier
abbrev pub take_identifier : Progress → Result (List ℕ × Progress) Stop
take_identifier p = identifier_at (after_white p.left) p

-- `{` or `(`, with the byte that closes what it opens
abbrev pub opening_at : List ℕ → Progress → Result (ℕ × Progress) Stop
opening_at [] p = Err EndOfFile
opening_at (b ∷ bytes) p =
    if nat_eq b 123 then Ok (125, record p { left = bytes })
    else if nat_eq b 40 then Ok (41, record p { left = bytes })
    else Err (Expected (length (b ∷ bytes)))

-- white space, and `{` or `(`
abbrev pub take_opening : Progress → Result (ℕ × Progress) Stop
take_opening p = opening_at (after_white p.left) p
