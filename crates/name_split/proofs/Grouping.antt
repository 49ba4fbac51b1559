-- The first run of letters in a group.
use Rattle.std.proofs.Common.{◌≡◌, ℕ, suc, ◌-◌, ◌≤◌, ◌&&◌, Bool, true, false, cond, nat_eq, List, [], ◌∷◌, length, drop, refl, sym, ap, ◌∙◌, subst, arith, eqb-true}
use Rattle.std.proofs.Common.{eq-eqb}
use Rattle.std.proofs.lemmas.Bool.{ne_eqb, and_parts}
use Rattle.std.proofs.lemmas.List.{length-drop}
use Rattle.std.proofs.lemmas.Bool.Decides.{nat_tests}
use Rattle.bv_base.specs.Levels.{is_ascii_letter, next_level, word_letters}
use Rattle.name_split.specs.Patterns.{are_none, before_run, begins_with_letter, group_ok, is_group_letter, letter_runs, run_ok, runs_ok, with_letter}
use Rattle.name_split.proofs.Taking.{leveled_within}

first_case : (letter : Bool) (level b : ℕ) (bytes : List ℕ) → is_group_letter level b ≡ letter
    → letter_runs (next_level level b) bytes ≡ letter_runs 1 (drop (before_run (next_level level b) bytes) bytes)
    → letter_runs level (b ∷ bytes) ≡ letter_runs 1 (drop (cond letter 0 (suc (before_run (next_level level b) bytes))) (b ∷ bytes))
first_case true level b bytes e h =
    ap (λ n. letter_runs n (b ∷ bytes)) (eqb-true level 1 (and_parts (nat_eq level 1) (is_ascii_letter b) e).0)
first_case false level b bytes e h =
    ap (λ v. with_letter v b (begins_with_letter bytes) (letter_runs (next_level level b) bytes)) e ∙ h

-- what stands before the first letter has no run
runs_from_first : (level : ℕ) (bytes : List ℕ) → letter_runs level bytes ≡ letter_runs 1 (drop (before_run level bytes) bytes)
runs_from_first level [] = refl
runs_from_first level (b ∷ bytes) =
    first_case (is_group_letter level b) level b bytes refl (runs_from_first (next_level level b) bytes)

letter_case : (letter : Bool) (level b : ℕ) (bytes : List ℕ) (count first : ℕ) (more : List ℕ) → is_group_letter level b ≡ letter
    → (drop count bytes ≡ first ∷ more → is_ascii_letter first ≡ true)
    → drop (cond letter 0 (suc count)) (b ∷ bytes) ≡ first ∷ more → is_ascii_letter first ≡ true
letter_case true level b bytes count first more e h is =
    let same : b ≡ first = cc in
    subst (λ x. is_ascii_letter x ≡ true) same (and_parts (nat_eq level 1) (is_ascii_letter b) e).1
letter_case false level b bytes count first more e h is = h is

first_letter : (level : ℕ) (bytes : List ℕ) (first : ℕ) (more : List ℕ) → drop (before_run level bytes) bytes ≡ first ∷ more
    → is_ascii_letter first ≡ true
first_letter level [] first more is = cc
first_letter level (b ∷ bytes) first more is =
    letter_case (is_group_letter level b) level b bytes (before_run (next_level level b) bytes) first more refl
    (first_letter (next_level level b) bytes first more) is

letter_level : (b : ℕ) → is_ascii_letter b ≡ true → next_level 1 b ≡ 1
letter_level b e = grind (arith, nat_tests)

own_run : (b : ℕ) (runs : List (List ℕ)) → with_letter true b false runs ≡ (b ∷ []) ∷ runs
own_run b [] = refl
own_run b (run ∷ runs) = refl

-- letters at the front are the first run
abbrev RunForm : ℕ → List ℕ → Type 0
RunForm b bytes =
    letter_runs 1 (b ∷ bytes)
    ≡ word_letters (b ∷ bytes) ∷ letter_runs 1 (drop (length (word_letters (b ∷ bytes))) (b ∷ bytes))

-- the run, when it is known that the first byte is a letter
letter_word : (b : ℕ) (bytes : List ℕ) → is_ascii_letter b ≡ true → word_letters (b ∷ bytes) ≡ b ∷ word_letters bytes
letter_word b bytes e = ap (λ v. cond v (b ∷ word_letters bytes) []) e

letter_runs_are : (b : ℕ) (bytes : List ℕ) → is_ascii_letter b ≡ true
    → letter_runs 1 (b ∷ bytes) ≡ with_letter true b (begins_with_letter bytes) (letter_runs 1 bytes)
letter_runs_are b bytes e =
    ap (λ v. with_letter v b (begins_with_letter bytes) (letter_runs (next_level 1 b) bytes)) e
    ∙ ap (λ n. with_letter true b (begins_with_letter bytes) (letter_runs n bytes)) (letter_level b e)

-- what a run and its rest are with one letter more
with_more : (b : ℕ) (bytes run : List ℕ) → is_ascii_letter b ≡ true → word_letters bytes ≡ run
    → (b ∷ run) ∷ letter_runs 1 (drop (length run) bytes)
    ≡ word_letters (b ∷ bytes) ∷ letter_runs 1 (drop (length (word_letters (b ∷ bytes))) (b ∷ bytes))
with_more b bytes run e is =
    ap (λ w. (b ∷ w) ∷ letter_runs 1 (drop (length w) bytes)) (sym is)
    ∙ ap (λ w. w ∷ letter_runs 1 (drop (length w) (b ∷ bytes))) (sym (letter_word b bytes e))

next_case : (letter : Bool) (b c : ℕ) (bytes : List ℕ) → is_ascii_letter b ≡ true → is_ascii_letter c ≡ letter
    → (is_ascii_letter c ≡ true → RunForm c bytes) → RunForm b (c ∷ bytes)
next_case true b c bytes e f h =
    letter_runs_are b (c ∷ bytes) e
    ∙ ap (λ v. with_letter true b v (letter_runs 1 (c ∷ bytes))) f
    ∙ ap (with_letter true b true) (h f)
    ∙ with_more b (c ∷ bytes) (word_letters (c ∷ bytes)) e refl
next_case false b c bytes e f h =
    letter_runs_are b (c ∷ bytes) e
    ∙ ap (λ v. with_letter true b v (letter_runs 1 (c ∷ bytes))) f
    ∙ own_run b (letter_runs 1 (c ∷ bytes))
    ∙ with_more b (c ∷ bytes) [] e (ap (λ v. cond v (c ∷ word_letters bytes) []) f)

first_run : (b : ℕ) (bytes : List ℕ) → is_ascii_letter b ≡ true → RunForm b bytes
first_run b [] e = letter_runs_are b [] e ∙ with_more b [] [] e refl
first_run b (c ∷ bytes) e = next_case (is_ascii_letter c) b c bytes e refl (first_run c bytes)

-- how long what follows is
left_length : (count : ℕ) (bytes left : List ℕ) → drop count bytes ≡ left → length left ≡ length bytes - count
left_length count bytes left e = ap length (sym e) ∙ length-drop count bytes

-- where no letter stands at level 1 there is no run
none_case : (bytes left : List ℕ) → drop (before_run 1 bytes) bytes ≡ left
    → nat_eq (before_run 1 bytes) (length bytes) ≡ are_none (letter_runs 1 bytes)
none_case bytes [] e =
    let within : before_run 1 bytes ≤ length bytes = leveled_within is_group_letter 1 bytes in
    let long : 0 ≡ length bytes - before_run 1 bytes = left_length (before_run 1 bytes) bytes [] e in
    eq-eqb (before_run 1 bytes) (length bytes) (omega arith)
    ∙ sym (ap are_none (runs_from_first 1 bytes ∙ ap (letter_runs 1) e))
none_case bytes (b ∷ left) e =
    let long : suc (length left) ≡ length bytes - before_run 1 bytes = left_length (before_run 1 bytes) bytes (b ∷ left) e in
    ne_eqb (before_run 1 bytes) (length bytes) (λ same. absurd (omega arith))
    ∙ sym (ap are_none (runs_from_first 1 bytes ∙ ap (letter_runs 1) e
    ∙ first_run b left (first_letter 1 bytes b left e)))

pub none_more : (bytes : List ℕ) → nat_eq (before_run 1 bytes) (length bytes) ≡ are_none (letter_runs 1 bytes)
none_more bytes = none_case bytes (drop (before_run 1 bytes) bytes) refl

-- the first run of a group, and the others
pub runs_some : (group rest run after : List ℕ) → rest ≡ drop (before_run 1 group) group → run ≡ word_letters rest
    → after ≡ drop (length run) rest → (length run ≡ 0 → ⊥) → letter_runs 1 group ≡ run ∷ letter_runs 1 after
runs_some group [] run after r w a some = absurd (some (ap length w))
runs_some group (b ∷ rest) run after r w a some =
    runs_from_first 1 group ∙ ap (letter_runs 1) (sym r) ∙ first_run b rest (first_letter 1 group b rest (sym r))
    ∙ ap (λ xs. xs ∷ letter_runs 1 (drop (length xs) (b ∷ rest))) (sym w)
    ∙ ap (λ xs. run ∷ letter_runs 1 xs) (sym a)

pub runs_none : (group rest run : List ℕ) → rest ≡ drop (before_run 1 group) group → run ≡ word_letters rest
    → length run ≡ 0 → letter_runs 1 group ≡ []
runs_none group [] run r w none = runs_from_first 1 group ∙ ap (letter_runs 1) (sym r)
runs_none group (b ∷ rest) run r w none =
    let long : length run ≡ suc (length (word_letters rest)) =
    ap length (w ∙ letter_word b rest (first_letter 1 group b rest (sym r))) in
    absurd (omega arith)

-- whether a group with a first run is well formed
pub group_some : (group rest run after : List ℕ) → rest ≡ drop (before_run 1 group) group → run ≡ word_letters rest
    → after ≡ drop (length run) rest → (length run ≡ 0 → ⊥)
    → group_ok group ≡ (run_ok run && nat_eq (before_run 1 after) (length after))
group_some group rest run after r w a some =
    ap runs_ok (runs_some group rest run after r w a some) ∙ ap (λ v. run_ok run && v) (sym (none_more after))

pub group_none : (group rest run : List ℕ) → rest ≡ drop (before_run 1 group) group → run ≡ word_letters rest
    → length run ≡ 0 → group_ok group ≡ true
group_none group rest run r w none = ap runs_ok (runs_none group rest run r w none)
