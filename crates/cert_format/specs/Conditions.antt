-- How the lines of a condition are read (docs/CERTIFICATES.md, "Conditions").
use Rattle.std.specs.Prelude.{ℕ, Bool, true, false, ◌&&◌, if◌then◌else◌, List, [], ◌∷◌, ◌++◌, Option, codes, Result, Ok, Err}
use Rattle.std.specs.Option.{option_map}
use Rattle.bv_base.specs.Answers.{then_do}
use Rattle.bst_meaning.specs.declared.condition.Cond.{Cond}
use Rattle.bst_meaning.specs.declared.condition.NamesLine.{NamesLine}
use Rattle.name_table.specs.declared.names.Kind.{Kind}
use Rattle.name_table.specs.declared.names.NameId.{NameId}
use Rattle.cert_format.specs.Items.{expected, is_word, natural, field_above, type_above, last_of, choice}
use Rattle.cert_format.specs.Lines.{Item, Line, next_item, line_end, lines_of}
use Rattle.cert_format.specs.declared.cond_lines.CondSoFar.{CondSoFar}
use Rattle.cert_format.specs.declared.limits.TheConstants.{MOST, MOST_ENTRIES}
use Rattle.cert_format.specs.declared.stages.CondStage.{CondStage}
use Rattle.cert_format.specs.declared.stages.CondStage.TheVariants.{Entries, Key, Preamble, Length, Names, Nonblank, Types, End, Done}
use Rattle.cert_format.specs.declared.stop.Stop.{Stop}
use Rattle.cert_format.specs.declared.stop.Stop.TheVariants.{Syntax}

-- the last item of a line, as a number of at most so much
abbrev pub last_natural : ℕ → Line → Result ℕ Stop
last_natural most line =
    then_do (next_item line) (λ item.
    then_do (natural most item.0) (λ number.
    then_do (line_end item.1) (λ _. Ok number)))

-- a line of this word and a number
abbrev pub number_line : List ℕ → ℕ → Item → Line → Result ℕ Stop
number_line text most word line = then_do (expected text word) (λ _. last_natural most line)

-- what has been read with the number of such a line, and the line that comes next
abbrev numbered : List ℕ → ℕ → (ℕ → CondSoFar) → Item → Line → Result CondSoFar Stop
numbered text most next word line = then_do (number_line text most word line) (λ number. Ok (next number))

-- `entries` N
abbrev pub entries_line : Item → Line → CondSoFar → Result CondSoFar Stop
entries_line word line p = numbered (codes "entries") MOST_ENTRIES (λ number. record { stage = Key; cond = record p.cond { entries = number } }) word line

-- `key` N
abbrev pub key_line : Item → Line → CondSoFar → Result CondSoFar Stop
key_line word line p = numbered (codes "key") MOST (λ number. record { stage = Preamble; cond = record p.cond { key = number } }) word line

-- `preamble` N
abbrev pub preamble_line : Item → Line → CondSoFar → Result CondSoFar Stop
preamble_line word line p = numbered (codes "preamble") MOST (λ number. record { stage = Length; cond = record p.cond { preamble = number } }) word line

-- `length` N
abbrev pub length_line : Item → Line → CondSoFar → Result CondSoFar Stop
length_line word line p = numbered (codes "length") MOST (λ number. record { stage = Names; cond = record p.cond { length = number } }) word line

-- a line of a word and a number, by what comes next
abbrev pub number_at : CondStage → Item → Line → CondSoFar → Result CondSoFar Stop
number_at Entries word line p = entries_line word line p
number_at Key word line p = key_line word line p
number_at Preamble word line p = preamble_line word line p
number_at _ word line p = length_line word line p

-- the field of the last of some lines on names
abbrev pub last_field : List NamesLine → Option NameId
last_field lines = option_map (λ line. line.field) (last_of lines)

-- `names` F N, after its word
abbrev pub names_line : List (List ℕ × Kind) → Line → CondSoFar → Result CondSoFar Stop
names_line names line p =
    then_do (next_item line) (λ item.
    then_do (field_above (last_field p.cond.names) names item.0) (λ field.
    then_do (last_natural MOST item.1) (λ most.
    Ok (record p { cond = record p.cond { names = p.cond.names ++ record { field = field; most = most } ∷ [] } }))))

-- `nonblank` F, after its word
abbrev pub nonblank_line : List (List ℕ × Kind) → Line → CondSoFar → Result CondSoFar Stop
nonblank_line names line p =
    then_do (next_item line) (λ item.
    then_do (field_above (last_of p.cond.nonblank) names item.0) (λ field.
    then_do (line_end item.1) (λ _.
    Ok (record { stage = Nonblank; cond = record p.cond { nonblank = p.cond.nonblank ++ field ∷ [] } }))))

-- `type` T, after its word
abbrev pub type_line : Line → CondSoFar → Result CondSoFar Stop
type_line line p =
    then_do (next_item line) (λ item.
    then_do (type_above (last_of p.cond.types) item.0) (λ _.
    then_do (line_end item.1) (λ _.
    Ok (record { stage = Types; cond = record p.cond { types = p.cond.types ++ item.0.text ∷ [] } }))))

-- `othertype` yes|no
abbrev pub othertype_line : Item → Line → CondSoFar → Result CondSoFar Stop
othertype_line word line p =
    then_do (expected (codes "othertype") word) (λ _.
    then_do (next_item line) (λ item.
    then_do (choice item.0) (λ other.
    then_do (line_end item.1) (λ _.
    Ok (record { stage = End; cond = record p.cond { other = other } })))))

-- `end`
abbrev pub end_line : Item → Line → CondSoFar → Result CondSoFar Stop
end_line word line p =
    then_do (expected (codes "end") word) (λ _. then_do (line_end line) (λ _. Ok (record p { stage = Done })))

-- a `names` line may come
abbrev pub may_have_names : CondStage → Bool
may_have_names Names = true
may_have_names _ = false

-- a `nonblank` line may come
abbrev pub may_have_nonblank : CondStage → Bool
may_have_nonblank Nonblank = true
may_have_nonblank s = may_have_names s

-- a line after the one of `length`: the lists, each of which may be empty, and then `othertype`
abbrev pub listed_line : List (List ℕ × Kind) → Item → Line → CondSoFar → Result CondSoFar Stop
listed_line names word line p =
    if may_have_names p.stage && is_word (codes "names") word then names_line names line p
    else if may_have_nonblank p.stage && is_word (codes "nonblank") word then nonblank_line names line p
    else if is_word (codes "type") word then type_line line p
    else othertype_line word line p

-- a line of a condition by its first word
abbrev pub worded_line : List (List ℕ × Kind) → CondStage → Item → Line → CondSoFar → Result CondSoFar Stop
worded_line names Entries word line p = entries_line word line p
worded_line names Key word line p = key_line word line p
worded_line names Preamble word line p = preamble_line word line p
worded_line names Length word line p = length_line word line p
worded_line names Names word line p = listed_line names word line p
worded_line names Nonblank word line p = listed_line names word line p
worded_line names Types word line p = listed_line names word line p
worded_line names End word line p = end_line word line p
worded_line names Done word line p = Err (Syntax word.left)

-- a line of a condition, after those before it
abbrev pub cond_line : List (List ℕ × Kind) → Line → CondSoFar → Result CondSoFar Stop
cond_line names line p = then_do (next_item line) (λ item. worded_line names p.stage item.0 item.1 p)

-- before the first line
abbrev pub no_lines : CondSoFar
no_lines =
    record {
      stage = Entries;
      cond = record { entries = 0; key = 0; preamble = 0; length = 0; names = []; nonblank = []; types = []; other = false };
    }

-- the lines of a condition, one after the other; the first fault ends the reading
abbrev pub cond_lines : List (List ℕ × Kind) → List Line → CondSoFar → Result CondSoFar Stop
cond_lines names [] p = Ok p
cond_lines names (line ∷ lines) p = then_do (cond_line names line p) (cond_lines names lines)

-- the condition, where its last line has come; the text ends too early where it hasn't
abbrev pub finished : CondSoFar → CondStage → Result Cond Stop
finished p Done = Ok p.cond
finished p _ = Err (Syntax 0)

-- the condition that lines spell, or where and why the reading stops
abbrev pub cond_read : List (List ℕ × Kind) → List ℕ → Result Cond Stop
cond_read names source = then_do (cond_lines names (lines_of source) no_lines) (λ p. finished p p.stage)
