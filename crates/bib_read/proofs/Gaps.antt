-- White space, runs and marks, as the reader passes over them and as the grammar has them.
use Rattle.std.proofs.Common.{◌≡◌, ℕ, Bool, true, false, cond, nat_eq, List, [], ◌∷◌, ◌++◌, append_assoc, length, take, drop, Ok, Err, refl, sym, ap, subst, ◌∙◌, arith, eqb-true}
use Rattle.std.proofs.lemmas.Bool.Decides.{nat_tests}
use Rattle.bv_base.specs.Runs.{after_white, is_black, length_before, EndsBy}
use Rattle.bib_read.specs.Grammar.{Gap, Mark, Run}
use Rattle.bib_read.specs.Parts.{is_first, passed, stands, take_mark, without_first}
use Rattle.bib_read.specs.Progress.{Progress}
use Rattle.bib_read.specs.Stops.{unexpected}
use Rattle.std.proofs.lemmas.List.{take-append-drop}
use Rattle.std.proofs.Math.Seq.{take-append_seam, drop-append_seam}
use Rattle.bv_base.proofs.RunLemmas.{ends_before, length_before_is, none_before, none_joined}
use Rattle.bv_base.proofs.ThenLemmas.{ok, ok_is, where_ok}

-- what is left, and all else as it was
abbrev pub at : List ℕ → Progress → Progress
at left p = record p { left = left }

-- the run before the first byte that passes the test
pub run_before : (test : ℕ → Bool) (bytes : List ℕ)
    → Run test (take (length_before test bytes) bytes) bytes (drop (length_before test bytes) bytes)
run_before test bytes = record {
  spelled = sym (take-append-drop (length_before test bytes) bytes);
  inside = none_before test bytes;
  ended = ends_before test bytes;
}

-- a run is what the reader takes, and what follows it is left
pub run_taken : (test : ℕ → Bool) (run bytes rest : List ℕ) → Run test run bytes rest
    → (length_before test bytes ≡ length run) × (take (length_before test bytes) bytes ≡ run)
    × (drop (length_before test bytes) bytes ≡ rest)
run_taken test run bytes rest r =
    let n : length_before test bytes ≡ length run =
    ap (λ (l : List ℕ). length_before test l) r.spelled ∙ length_before_is test run rest r.inside r.ended in (
      n,
      ap (λ (k : ℕ). take k bytes) n ∙ ap (λ (l : List ℕ). take (length run) l) r.spelled ∙ take-append_seam run rest,
      ap (λ (k : ℕ). drop k bytes) n ∙ ap (λ (l : List ℕ). drop (length run) l) r.spelled ∙ drop-append_seam run rest,
    )

-- white space
pub gap_before : (bytes : List ℕ) → Gap bytes (after_white bytes)
gap_before bytes =
    let r = run_before is_black bytes in (take (length_before is_black bytes) bytes, r.inside, r.spelled)

pub after_gap : (bytes rest : List ℕ) → Gap bytes rest → EndsBy is_black rest → after_white bytes ≡ rest
after_gap bytes rest gap ends =
    (run_taken is_black gap.0 bytes rest (record { spelled = gap.2; inside = gap.1; ended = ends })).2

pub gap_joined : (a b c : List ℕ) → Gap a b → Gap b c → Gap a c
gap_joined a b c first second = (
  first.0 ++ second.0,
  none_joined is_black first.0 second.0 first.1 second.1,
  first.2 ∙ ap (λ (l : List ℕ). first.0 ++ l) second.2 ∙ sym (append_assoc first.0 second.0 c),
)

-- what stands behind white space stands behind none of it once that is passed over
pub gap_passed : (bytes rest : List ℕ) → Gap bytes rest → EndsBy is_black rest → Gap (after_white bytes) rest
gap_passed bytes rest gap ends = ([], tt, after_gap bytes rest gap ends)

-- marks
abbrev pub IsBlack : ℕ → Type 0
IsBlack mark = is_black mark ≡ true

eq_refl : (n : ℕ) → nat_eq n n ≡ true
eq_refl n = grind (arith, nat_tests)

without_case : (mark b : ℕ) (bytes : List ℕ) (t : Bool) → nat_eq b mark ≡ t → t ≡ true
    → b ∷ bytes ≡ mark ∷ cond t bytes (b ∷ bytes)
without_case mark b bytes true e f = ap (λ (k : ℕ). k ∷ bytes) (eqb-true b mark e)
without_case mark b bytes false e f = absurd (cc)

first_is : (mark : ℕ) (bytes : List ℕ) → is_first mark bytes ≡ true → bytes ≡ mark ∷ without_first mark bytes
first_is mark [] e = absurd (cc)
first_is mark (b ∷ bytes) e = without_case mark b bytes (nat_eq b mark) refl e

pub first_of_mark : (mark : ℕ) (rest : List ℕ) → is_first mark (mark ∷ rest) ≡ true
first_of_mark mark rest = eq_refl mark

without_mark : (mark : ℕ) (rest : List ℕ) → without_first mark (mark ∷ rest) ≡ rest
without_mark mark rest = ap (λ (t : Bool). cond t rest (mark ∷ rest)) (eq_refl mark)

without_other_case : (b : ℕ) (bytes : List ℕ) (t : Bool) → t ≡ false → cond t bytes (b ∷ bytes) ≡ b ∷ bytes
without_other_case b bytes true e = absurd (cc)
without_other_case b bytes false e = refl

pub without_other : (mark : ℕ) (bytes : List ℕ) → is_first mark bytes ≡ false → without_first mark bytes ≡ bytes
without_other mark [] e = refl
without_other mark (b ∷ bytes) e = without_other_case b bytes (nat_eq b mark) e

-- a mark that stands is there, and what the reader leaves follows it
pub mark_there : (mark : ℕ) (p : Progress) → stands mark p ≡ true → Mark mark p.left (passed mark p).left
mark_there mark p e =
    let g = gap_before p.left in
    (g.0, g.1, g.2 ∙ ap (λ (l : List ℕ). g.0 ++ l) (first_is mark (after_white p.left) e))

-- where no mark stands only white space is passed over
pub mark_missed : (mark : ℕ) (p : Progress) → stands mark p ≡ false → passed mark p ≡ at (after_white p.left) p
mark_missed mark p e = ap (λ (l : List ℕ). at l p) (without_other mark (after_white p.left) e)

pub mark_first : (mark : ℕ) (bytes rest : List ℕ) → IsBlack mark → Mark mark bytes rest → after_white bytes ≡ mark ∷ rest
mark_first mark bytes rest black m = after_gap bytes (mark ∷ rest) m black

pub mark_stands : (mark : ℕ) (p : Progress) (rest : List ℕ) → IsBlack mark → Mark mark p.left rest
    → (stands mark p ≡ true) × (passed mark p ≡ at rest p)
mark_stands mark p rest black m =
    let e = mark_first mark p.left rest black m in (
      ap (λ (l : List ℕ). is_first mark l) e ∙ first_of_mark mark rest,
      ap (λ (l : List ℕ). at l p) (ap (λ (l : List ℕ). without_first mark l) e ∙ without_mark mark rest),
    )

-- another byte stands there
pub other_stands : (mark other : ℕ) (p : Progress) (rest : List ℕ) → IsBlack other → Mark other p.left rest
    → nat_eq other mark ≡ false → (stands mark p ≡ false) × (passed mark p ≡ at (after_white p.left) p)
other_stands mark other p rest black m differs =
    let e : stands mark p ≡ false = ap (λ (l : List ℕ). is_first mark l) (mark_first other p.left rest black m) ∙ differs in
    (e, mark_missed mark p e)

pub mark_read : (mark : ℕ) (p q : Progress) → take_mark mark p ≡ Ok q → Mark mark p.left q.left × (q ≡ at q.left p)
mark_read mark p q e =
    let w = where_ok (stands mark p) (Ok (passed mark p)) (unexpected (passed mark p).left) q e in
    let same = ok_is (passed mark p) q w.1 in (
      subst (λ (l : List ℕ). Mark mark p.left l) (sym (ap (λ (x : Progress). x.left) same)) (mark_there mark p w.0),
      same ∙ ap (λ (l : List ℕ). at l p) (sym (ap (λ (x : Progress). x.left) same)),
    )

pub mark_taken : (mark : ℕ) (p : Progress) (rest : List ℕ) → IsBlack mark → Mark mark p.left rest
    → take_mark mark p ≡ Ok (at rest p)
mark_taken mark p rest black m =
    let s = mark_stands mark p rest black m in
    ap (λ (t : Bool). cond t (Ok (passed mark p)) (Err (unexpected (passed mark p).left))) s.0 ∙ ap ok s.1
