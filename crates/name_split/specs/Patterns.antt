-- Patterns of names (docs/NAMES.md, "Patterns").
use Rattle.std.specs.Prelude.{ℕ, Bool, true, false, ◌&&◌, not, nat_eq, if◌then◌else◌, List, [], ◌∷◌, codes}
use Rattle.std.specs.List.{list_all}
use Rattle.bv_base.specs.Bytes.{is_among, lower}
use Rattle.name_split.specs.Spans.{leveled_before}
use Rattle.bv_base.specs.Levels.{inside, is_ascii_letter, next_level}

-- the braces match, where so many are open before these bytes
abbrev pub balanced : ℕ → List ℕ → Bool
balanced level [] = nat_eq level 0
balanced level (b ∷ bytes) =
    if nat_eq level 0 && nat_eq b 125 then false else balanced (next_level level b) bytes

-- a group where there is one
abbrev pub with_group : Bool → List ℕ → List (List ℕ) → List (List ℕ)
with_group true group groups = group ∷ groups
with_group false group groups = groups

-- the groups of a pattern: what stands within the braces of each `{` at level 0
abbrev pub groups : ℕ → List ℕ → List (List ℕ)
groups level [] = []
groups level (b ∷ bytes) =
    with_group (nat_eq level 0 && nat_eq b 123) (inside 1 bytes) (groups (next_level level b) bytes)

-- the first byte is an ASCII letter
abbrev pub begins_with_letter : List ℕ → Bool
begins_with_letter [] = false
begins_with_letter (b ∷ _) = is_ascii_letter b

-- the runs with a byte before them: where it is a letter it lengthens the run directly after it, or is a run of its own
abbrev pub with_letter : Bool → ℕ → Bool → List (List ℕ) → List (List ℕ)
with_letter false b joined runs = runs
with_letter true b joined [] = (b ∷ []) ∷ []
with_letter true b true (run ∷ runs) = (b ∷ run) ∷ runs
with_letter true b false (run ∷ runs) = (b ∷ []) ∷ run ∷ runs

-- a letter directly within a group
abbrev pub is_group_letter : ℕ → ℕ → Bool
is_group_letter level b = nat_eq level 1 && is_ascii_letter b

-- the runs of ASCII letters at level 1
abbrev pub letter_runs : ℕ → List ℕ → List (List ℕ)
letter_runs level [] = []
letter_runs level (b ∷ bytes) =
    with_letter (is_group_letter level b) b (begins_with_letter bytes) (letter_runs (next_level level b) bytes)

-- the letters of the parts, in any case
abbrev pub is_part_letter : ℕ → Bool
is_part_letter b = is_among (codes "fvlj") (lower b)

-- one letter of a part, or two equal ones
abbrev pub run_ok : List ℕ → Bool
run_ok [] = false
run_ok (a ∷ []) = is_part_letter a
run_ok (a ∷ b ∷ []) = is_part_letter a && nat_eq (lower a) (lower b)
run_ok (a ∷ b ∷ c ∷ _) = false

-- there is no run
abbrev pub are_none : List (List ℕ) → Bool
are_none [] = true
are_none (run ∷ runs) = false

-- at most one run, and that is one of these
abbrev pub runs_ok : List (List ℕ) → Bool
runs_ok [] = true
runs_ok (run ∷ runs) = run_ok run && are_none runs

-- a group is well formed, by its runs of letters at level 1
abbrev pub group_ok : List ℕ → Bool
group_ok group = runs_ok (letter_runs 1 group)

-- the braces match, and each group is well formed
abbrev pub pattern_ok : List ℕ → Bool
pattern_ok pattern = balanced 0 pattern && list_all group_ok (groups 0 pattern)

-- how many bytes stand before the first letter at level 1
abbrev pub before_run : ℕ → List ℕ → ℕ
before_run level bytes = leveled_before is_group_letter level bytes

-- a group that isn't well formed begins with the first byte, which has this level
abbrev pub begins_bad_group : ℕ → List ℕ → Bool
begins_bad_group level [] = false
begins_bad_group level (b ∷ bytes) = nat_eq level 0 && nat_eq b 123 && not (group_ok (inside 1 bytes))
