-- Where a buffer that is broken in its place goes on behind a cut.
use Rattle.std.proofs.Common.{◌≡◌, ℕ, zero, suc, ◌+◌, ◌-◌, ◌<◌, ◌≤◌, Bool, true, false, cond, List, [], ◌∷◌, ◌++◌, Option, Some, length, take, drop, length-drop, ◌∙◌, refl, sym, ap, subst, arith}
use Rattle.std.proofs.lemmas.List.{drop-drop}
use Rattle.bv_base.specs.Bytes.{is_white}
use Rattle.bst_meaning.specs.Lines.{Cut, after_white, broken, cut_at, cut_of, cut_with, page_of, trimmed_end}
use Rattle.bst_step.specs.Lines.{Spelt, spelt}
use Rattle.bst_step.proofs.BrokenLines.{fewer}
use Rattle.bst_step.proofs.SpeltLines.{line_behind}

-- what is left behind the white space at the front stands at the end
behind_white : (bytes : List ℕ) → drop (length bytes - length (after_white bytes)) bytes ≡ after_white bytes
behind_white [] = refl
behind_white (b ∷ bytes) = by (is_white b) (behind_white bytes)
  where
    by : (white : Bool) → drop (length bytes - length (after_white bytes)) bytes ≡ after_white bytes
        → drop (suc (length bytes) - length (cond white (after_white bytes) (b ∷ bytes))) (b ∷ bytes) ≡ cond white (after_white bytes) (b ∷ bytes)
    by true same =
        let next : suc (length bytes) - length (after_white bytes) ≡ suc (length bytes - length (after_white bytes)) = omega (arith, fewer bytes) in
        ap (λ (n : ℕ). drop n (b ∷ bytes)) next ∙ same
    by false same =
        let first : suc (length bytes) - suc (length bytes) ≡ zero = omega arith in
        ap (λ (n : ℕ). drop n (b ∷ bytes)) first

-- what is left behind a place and the white space there stands at the end
goes_on : (buffer : List ℕ) (at : ℕ) (left : List ℕ) → 3 ≤ at → at ≤ length buffer → after_white (drop at buffer) ≡ left
    → drop (length buffer - length left - 2 + 2) buffer ≡ left
goes_on buffer at left far within is =
    let few : length left ≤ length (drop at buffer) = subst (λ (bytes : List ℕ). length bytes ≤ length (drop at buffer)) is (fewer (drop at buffer)) in
    let place : length buffer - length left - 2 + 2 ≡ at + (length (drop at buffer) - length left) = omega (arith, far, within, few, length-drop at buffer) in
    let last : drop (length (drop at buffer) - length left) (drop at buffer) ≡ left =
    subst (λ (bytes : List ℕ). drop (length (drop at buffer) - length bytes) (drop at buffer) ≡ bytes) is (behind_white (drop at buffer)) in
    ap (λ (n : ℕ). drop n buffer) place ∙ sym (drop-drop (length (drop at buffer) - length left) at buffer) ∙ last

-- a cut with its line and what is left behind two spaces
abbrev cut_with_rest : List ℕ → List ℕ → Option Cut
cut_with_rest line rest = Some (record { line = line; rest = 32 ∷ 32 ∷ rest })

-- the cut at a place behind which there are bytes
pub cut_found : (buffer : List ℕ) (at : ℕ) (left : List ℕ) → 3 ≤ at → at ≤ length buffer → after_white (drop at buffer) ≡ left
    → (first : ℕ) (later : List ℕ) → left ≡ first ∷ later
    → cut_at buffer (Some at) ≡ Some (record { line = trimmed_end (take at buffer); rest = 32 ∷ 32 ∷ drop (length buffer - length left - 2 + 2) buffer })
cut_found buffer at left far within is first later some =
    let line = trimmed_end (take at buffer) in
    let place : drop (length buffer - length left - 2 + 2) buffer ≡ first ∷ later = goes_on buffer at left far within is ∙ some in
    let found : cut_at buffer (Some at) ≡ Some (record { line = line; rest = 32 ∷ 32 ∷ first ∷ later }) =
    ap (cut_with (take at buffer)) (is ∙ some) in
    found ∙ ap (λ (rest : List ℕ). cut_with_rest line rest) (sym place)

-- breaking goes on behind a cut, where two spaces were written
cut_made : (most : ℕ) (lines : List (List ℕ)) (line old new : List ℕ) (start next : ℕ)
    → cut_of (drop start old) ≡ Some (record { line = line; rest = 32 ∷ 32 ∷ drop (next + 2) (drop start old) })
    → drop (start + next) new ≡ 32 ∷ 32 ∷ drop (start + next + 2) old
    → broken (suc most) lines (drop start old) ≡ broken most (lines ++ line ∷ []) (drop (start + next) new)
cut_made most lines line old new start next is written =
    let sum : start + (next + 2) ≡ start + next + 2 = omega arith in
    let rest : drop (next + 2) (drop start old) ≡ drop (start + next + 2) old =
    drop-drop (next + 2) start old ∙ ap (λ (n : ℕ). drop n old) sum in
    let same : 32 ∷ 32 ∷ drop (next + 2) (drop start old) ≡ drop (start + next) new =
    ap (λ (bytes : List ℕ). 32 ∷ 32 ∷ bytes) rest ∙ sym written in
    ap (page_of (broken most) lines (drop start old)) is ∙ ap (broken most (lines ++ line ∷ [])) same

-- one cut more of what is left comes to the same, where its line stands behind the text
pub one_more : (most start next : ℕ) (text new_text line old left new : List ℕ) (whole : Spelt)
    → left ≡ drop start old → cut_with_rest line (drop (next + 2) left) ≡ cut_of left → new_text ≡ text ++ (line ++ 10 ∷ [])
    → drop (start + next) new ≡ 32 ∷ 32 ∷ drop (start + next + 2) old
    → spelt text (broken most [] (drop start old)) ≡ whole → 0 < most
    → spelt new_text (broken (most - 1) [] (drop (start + next) new)) ≡ whole
one_more most start next text new_text line old left new whole is found pushed spaces before some =
    let count : most ≡ suc (most - 1) = omega (arith, some) in
    let cut : cut_of (drop start old) ≡ cut_with_rest line (drop (next + 2) (drop start old)) =
    subst (λ (bytes : List ℕ). cut_of bytes ≡ cut_with_rest line (drop (next + 2) bytes)) is (sym found) in
    ap (λ (t : List ℕ). spelt t (broken (most - 1) [] (drop (start + next) new))) pushed
    ∙ line_behind (most - 1) text line (drop (start + next) new)
    ∙ ap (spelt text) (sym (cut_made (most - 1) [] line old new start next cut spaces))
    ∙ ap (λ (n : ℕ). spelt text (broken n [] (drop start old))) (sym count)
    ∙ before

-- where a buffer goes on is in it
pub still_within : (start next : ℕ) (old left new : List ℕ) → left ≡ drop start old → start ≤ length old → next + 2 ≤ length left
    → length new ≡ length old → start + next ≤ length new
still_within start next old left new is within more same =
    let count : length left ≡ length old - start = ap length is ∙ length-drop start old in
    omega (arith, count, within, more, same)
