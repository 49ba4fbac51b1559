-- The stretches of a text between its commas, as the grammar has them.
use Rattle.std.proofs.Common.{◌≡◌, ℕ, suc, ◌+◌, ◌-◌, ◌≤◌, Bool, true, false, ◌&&◌, not, nat_eq, List, [], ◌∷◌, ◌++◌, length, take, drop, length-drop, length-append, refl, sym, ap, subst, ◌∙◌, arith, drop-drop}
use Rattle.std.specs.List.{list_all}
use Rattle.std.specs.Str.{bytes_eq}
use Rattle.std.proofs.Math.Seq.{drop-append-add, drop-append_seam, take-append_seam}
use Rattle.std.proofs.lemmas.Bool.{and_from, and_parts, eqb-true, not_from_false, cond-false, cond-true, le-leb, lt-leb, not-true}
use Rattle.std.proofs.lemmas.List.{append-nil}
use Rattle.bstr.specs.Find.{matches, matches_from, occurs_at}
use Rattle.bstr.specs.Text.{split_at}
use Rattle.bstr.proofs.Computing.{computing}
use Rattle.bstr.proofs.lemmas.MatchListLemmas.{split_at-end, split_at-next}
use Rattle.aux_read.specs.Grammar.{Without}
use Rattle.aux_read.specs.Items.{stretches}

-- the stretches from a place on
abbrev from : List ℕ → ℕ → List (List ℕ)
from text at = split_at text 1 at (matches text (44 ∷ []) at)

-- a comma is found where it stands, and nothing else is
at_byte : (text : List ℕ) (at b : ℕ) (left : List ℕ) → drop at text ≡ b ∷ left
    → occurs_at text (44 ∷ []) at ≡ bytes_eq (b ∷ []) (44 ∷ [])
at_byte text at b left is =
    let long : length text - at ≡ suc (length left) = sym (length-drop at text) ∙ ap length is in
    let within : at + 1 ≤ length text = omega arith in
    ap (λ t. t && bytes_eq (take 1 (drop at text)) (44 ∷ [])) (le-leb (at + 1) (length text) within)
    ∙ ap (λ l. bytes_eq (take 1 l) (44 ∷ [])) is

found : (text : List ℕ) (at n : ℕ) (left : List ℕ) → drop at text ≡ 44 ∷ left
    → matches_from text (44 ∷ []) 0 at (suc n) ≡ at ∷ matches_from text (44 ∷ []) 0 (at + 1) n
unfolding computing
found text at n left is = cond-true _ _ _ (at_byte text at 44 left is)

passed : (text : List ℕ) (at n b : ℕ) (left : List ℕ) → drop at text ≡ b ∷ left → nat_eq b 44 ≡ false
    → matches_from text (44 ∷ []) 0 at (suc n) ≡ matches_from text (44 ∷ []) 0 (at + 1) n
unfolding computing
passed text at n b left is other =
    cond-false _ _ _ (at_byte text at b left is ∙ ap (λ t. t && true) other)

at_end : (text : List ℕ) (at : ℕ) → length text ≤ at → matches_from text (44 ∷ []) 0 at 1 ≡ []
unfolding computing
at_end text at past =
    cond-false _ _ _ (ap (λ t. t && bytes_eq (take 1 (drop at text)) (44 ∷ [])) (lt-leb (at + 1) (length text) (omega arith)))

-- no comma is found in a stretch without one
run_passed : (run left text : List ℕ) (at n : ℕ) → drop at text ≡ run ++ left → Without 44 run
    → matches_from text (44 ∷ []) 0 at (length run + n) ≡ matches_from text (44 ∷ []) 0 (at + length run) n
run_passed [] left text at n is without =
    let count : 0 + n ≡ n = omega arith in
    let same : at ≡ at + 0 = omega arith in
    ap (matches_from text (44 ∷ []) 0 at) count ∙ ap (λ k. matches_from text (44 ∷ []) 0 k n) same
run_passed (b ∷ run) left text at n is without =
    let both = and_parts (not (nat_eq b 44)) (list_all (λ c. not (nat_eq c 44)) run) without in
    let count : suc (length run) + n ≡ suc (length run + n) = omega arith in
    let place : at + 1 + length run ≡ at + suc (length run) = omega arith in
    let rest : drop (at + 1) text ≡ run ++ left = sym (drop-drop 1 at text) ∙ ap (drop 1) is in
    ap (matches_from text (44 ∷ []) 0 at) count
    ∙ passed text at (length run + n) b (run ++ left) is (not-true (nat_eq b 44) both.0)
    ∙ run_passed run left text (at + 1) n rest both.1
    ∙ ap (λ k. matches_from text (44 ∷ []) 0 k n) place

last_from : (text : List ℕ) (at : ℕ) (stretch : List ℕ) → at ≤ length text → drop at text ≡ stretch → Without 44 stretch
    → from text at ≡ stretch ∷ []
last_from text at stretch within is without =
    let long : length text - at ≡ length stretch = sym (length-drop at text) ∙ ap length is in
    let count : length text + 1 - at ≡ length stretch + 1 = omega arith in
    let whole : drop at text ≡ stretch ++ [] = is ∙ sym (append-nil stretch) in
    ap (λ n. split_at text 1 at (matches_from text (44 ∷ []) 0 at n)) count
    ∙ ap (split_at text 1 at) (run_passed stretch [] text at 1 whole without ∙ at_end text (at + length stretch) (omega arith))
    ∙ split_at-end text 1 at ∙ ap (λ l. l ∷ []) is

next_from : (text : List ℕ) (at : ℕ) (stretch rest : List ℕ) → at ≤ length text → drop at text ≡ stretch ++ 44 ∷ rest
    → Without 44 stretch → from text at ≡ stretch ∷ from text (at + length stretch + 1)
next_from text at stretch rest within is without =
    let k = at + length stretch in
    let long : length text - at ≡ length stretch + (length rest + 1) =
    sym (length-drop at text) ∙ ap length is ∙ length-append stretch (44 ∷ rest) ∙ omega arith in
    let left = length text + 1 - (k + 1) in
    let count : length text + 1 - at ≡ length stretch + suc left = omega arith in
    let here : drop k text ≡ 44 ∷ rest =
    sym (drop-drop (length stretch) at text) ∙ ap (drop (length stretch)) is ∙ drop-append_seam stretch (44 ∷ rest) in
    let width : k - at ≡ length stretch = omega arith in
    ap (λ n. split_at text 1 at (matches_from text (44 ∷ []) 0 at n)) count
    ∙ ap (split_at text 1 at) (run_passed stretch (44 ∷ rest) text at (suc left) is without ∙ found text k left rest here)
    ∙ split_at-next text 1 at k (matches text (44 ∷ []) (k + 1))
    ∙ ap (λ n. take n (drop at text) ∷ from text (k + 1)) width
    ∙ ap (λ l. take (length stretch) l ∷ from text (k + 1)) is
    ∙ ap (λ l. l ∷ from text (k + 1)) (take-append_seam stretch (44 ∷ rest))

-- a text is these stretches with a comma between them
abbrev pub Stretched : List (List ℕ) → List ℕ → Type 0
Stretched [] text = ⊥
Stretched (stretch ∷ []) text = Without 44 text × (text ≡ stretch)
Stretched (stretch ∷ (next ∷ more)) text =
    (rest : List ℕ) × (text ≡ stretch ++ 44 ∷ rest) × Without 44 stretch × Stretched (next ∷ more) rest

stretched_from : (list : List (List ℕ)) (text : List ℕ) (at : ℕ) (left : List ℕ) → at ≤ length text → drop at text ≡ left
    → Stretched list left → from text at ≡ list
stretched_from [] text at left within is stretched = absurd stretched
stretched_from (stretch ∷ []) text at left within is stretched =
    last_from text at stretch within (is ∙ stretched.1) (subst (Without 44) stretched.1 stretched.0)
stretched_from (stretch ∷ (next ∷ more)) text at left within is stretched =
    let rest = stretched.0 in
    let all : drop at text ≡ stretch ++ 44 ∷ rest = is ∙ stretched.1 in
    let long : length text - at ≡ length stretch + (length rest + 1) =
    sym (length-drop at text) ∙ ap length all ∙ length-append stretch (44 ∷ rest) ∙ omega arith in
    let place : at + (length stretch + 1) ≡ at + length stretch + 1 = omega arith in
    let after : drop (at + length stretch + 1) text ≡ rest =
    ap (λ n. drop n text) (sym place) ∙ sym (drop-drop (length stretch + 1) at text) ∙ ap (drop (length stretch + 1)) all
    ∙ drop-append-add stretch (44 ∷ rest) 1 in
    next_from text at stretch rest within all stretched.2
    ∙ ap (λ l. stretch ∷ l) (stretched_from (next ∷ more) text (at + length stretch + 1) rest (omega arith) after stretched.3)

-- the stretches of a text are those with a comma between them
pub stretches_are : (list : List (List ℕ)) (text : List ℕ) → Stretched list text → stretches text ≡ list
stretches_are list text stretched = stretched_from list text 0 text (omega arith) refl stretched

without_more : (b : ℕ) (text : List ℕ) → nat_eq b 44 ≡ false → Without 44 text → Without 44 (b ∷ text)
without_more b text other without =
    and_from (not (nat_eq b 44)) (list_all (λ c. not (nat_eq c 44)) text) (not_from_false (nat_eq b 44) other) without

-- stretches that a text is
pub record AsStretches (text : List ℕ) : Type 0 where
  pub list : List (List ℕ)
  pub stretched : Stretched list text

-- a comma before stretches is behind an empty one, and another byte belongs to the first of them
byte_before : (b : ℕ) (text : List ℕ) (t : Bool) → nat_eq b 44 ≡ t → (list : List (List ℕ)) → Stretched list text
    → AsStretches (b ∷ text)
byte_before b text t is [] stretched = absurd stretched
byte_before b text true is (stretch ∷ list) stretched =
    record { list = [] ∷ (stretch ∷ list); stretched = (text, ap (λ c. c ∷ text) (eqb-true b 44 is), refl, stretched) }
byte_before b text false is (stretch ∷ []) stretched =
    record { list = (b ∷ stretch) ∷ []; stretched = (without_more b text is stretched.0, ap (λ l. b ∷ l) stretched.1) }
byte_before b text false is (stretch ∷ (next ∷ more)) (rest, joined, without, stretched) =
    record {
      list = (b ∷ stretch) ∷ (next ∷ more);
      stretched = (rest, ap (λ l. b ∷ l) joined, without_more b stretch is without, stretched);
    }

pub as_stretches : (text : List ℕ) → AsStretches text
as_stretches [] = record { list = [] ∷ []; stretched = (refl, refl) }
as_stretches (b ∷ text) = let more = as_stretches text in byte_before b text (nat_eq b 44) refl more.list more.stretched
