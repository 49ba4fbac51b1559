-- What a run sees of files and sinks (docs/COMMANDS.md, "Files and sinks").
use Rattle.std.specs.Prelude.{◌≡◌, ℕ, ◌+◌, ◌<◌, ◌⊎◌, length, drop, IsSomeAnd, true, false, List, [], ◌∷◌, ◌++◌, Option, Some, None, Result, Ok, Err}
use Rattle.std.specs.FinMap.{FinMap}
use Rattle.std.specs.List.{last_or}
use Rattle.std.specs.Ordering.{nat_cmp}
use Rattle.std.specs.Cmp.Lexicographic.{slice_cmp}
use Rattle.bv_base.specs.declared.files.Begun.{Begun}
use Rattle.bv_base.specs.declared.files.BeginAnswer.{BeginAnswer}
use Rattle.bv_base.specs.declared.files.BeginAnswer.TheVariants.{Absent, Failed, NoMemory}

-- the files that are told: from the bytes of a name to the bytes of its file
abbrev pub Listing : Type 0
Listing = FinMap (slice_cmp nat_cmp) (List ℕ)

-- a file of this name was begun that wasn't absent
abbrev pub opened : List ℕ → Begun
opened name = record { name = name; absent = false }

-- this name was begun, which no file has
abbrev pub missing : List ℕ → Begun
missing name = record { name = name; absent = true }

-- all that was begun, in order, after a `begin` of this name
abbrev pub begun_by : List Begun → List ℕ → Result (Unit {0}) BeginAnswer → List Begun
begun_by before name (Ok _) = before ++ opened name ∷ []
begun_by before name (Err Absent) = before ++ missing name ∷ []
begun_by before name (Err Failed) = before ++ opened name ∷ []
begun_by before name (Err NoMemory) = before

-- what was begun last
abbrev pub last_begun : List Begun → Option Begun
last_begun begun = last_or None begun

-- a count of faults rose in a call, or stands at the end of its type
abbrev pub Rose : ℕ → ℕ → Type 0
Rose old new = (old < new) ⊎ (new ≡ 18446744073709551615)

-- what is written once these bytes were taken, where it is told
abbrev pub appended : Option (List ℕ) → List ℕ → Option (List ℕ)
appended None bytes = None
appended (Some written) bytes = Some (written ++ bytes)

-- a file that is there has more bytes than the limit, and one byte more than the limit of them was read
abbrev pub IsReadPast : ℕ → Option (List ℕ) → List ℕ → Type 0
IsReadPast limit file rest = IsSomeAnd file (λ bytes. (limit < length bytes) × (rest ≡ drop (limit + 1) bytes))
