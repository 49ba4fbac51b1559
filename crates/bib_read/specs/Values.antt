-- Values and their pieces (docs/DATA.md, "Values").
use Rattle.std.specs.Prelude.{ℕ, zero, suc, nat_eq, if◌then◌else◌, List, [], ◌∷◌, ◌++◌, length, take, drop, Option, None, Some, Result, Ok, Err}
use Rattle.bv_base.specs.Runs.{after_white, ends_digits, is_digit, length_before}
use Rattle.bv_base.specs.Answers.{then_do}
use Rattle.bib_read.specs.declared.stop.Stop.{Stop}
use Rattle.bib_read.specs.declared.stop.Stop.TheVariants.{EndOfFile, Unbalanced}
use Rattle.bib_read.specs.Names.{value_of}
use Rattle.bib_read.specs.Parts.{passed, stands, take_identifier, take_mark}
use Rattle.bib_read.specs.Progress.{Progress}
use Rattle.bib_read.specs.Runs.{inside_length}
use Rattle.bib_read.specs.Warnings.{undefined_macro}

-- a text is joined to the pieces before it, and these bytes are left
abbrev pub joined : List ℕ → List ℕ → Progress → Progress
joined text left p = record p { text = p.text ++ text; left = left }

-- the end of a piece in braces or quotes, after its text: a `}` there doesn't end a piece in quotes
abbrev pub closed : ℕ → List ℕ → List ℕ → Progress → Result Progress Stop
closed mark text [] p = Err EndOfFile
closed mark text (b ∷ left) p =
    if nat_eq b mark then Ok (joined text left p) else Err (Unbalanced (length (b ∷ left)))

-- a piece in braces or quotes, after the mark that begins it
abbrev pub take_closed : ℕ → List ℕ → Progress → Result Progress Stop
take_closed mark bytes p =
    let count = inside_length mark 0 bytes in
    closed mark (take count bytes) (drop count bytes) p

-- a run of digits
abbrev pub take_digits : List ℕ → Progress → Progress
take_digits bytes p =
    let count = length_before ends_digits bytes in
    joined (take count bytes) (drop count bytes) p

-- the value of a macro; one that isn't defined is empty and gives a warning
abbrev pub macro_joined : List ℕ → Option (List ℕ) → Progress → Progress
macro_joined name (Some value) p = joined value p.left p
macro_joined name None p = record p { warnings = p.warnings ++ undefined_macro name ∷ [] }

-- the macro of a name
abbrev pub with_macro : List ℕ → Progress → Progress
with_macro name p = macro_joined name (value_of name p.macros) p

-- white space, and the name of a macro
abbrev pub take_macro : Progress → Result Progress Stop
take_macro p = then_do (take_identifier p) (λ found. Ok (with_macro found.0 found.1))

-- a piece that stands first: in braces, in quotes, digits or a macro's name
abbrev pub piece_at : List ℕ → Progress → Result Progress Stop
piece_at [] p = Err EndOfFile
piece_at (b ∷ bytes) p =
    if nat_eq b 123 then take_closed 125 bytes p
    else if nat_eq b 34 then take_closed 34 bytes p
    else if is_digit b then Ok (take_digits (b ∷ bytes) p)
    else take_macro p

-- white space, and a piece
abbrev pub take_piece : Progress → Result Progress Stop
take_piece p = piece_at (after_white p.left) p

-- pieces with `#` between them, of which there are at most so many; each takes at least one byte, so where there
-- are as many as bytes nothing is left
abbrev pub take_pieces : ℕ → Progress → Result Progress Stop
take_pieces zero p = Err EndOfFile
take_pieces (suc more) p =
    then_do (take_piece p) (λ q. if stands 35 q then take_pieces more (passed 35 q) else Ok (passed 35 q))

-- a value
abbrev pub take_value : Progress → Result Progress Stop
take_value p = take_pieces (length p.left) (record p { text = [] })

-- `=` and a value
abbrev pub take_equals : Progress → Result Progress Stop
take_equals p = then_do (take_mark 61 p) take_value
