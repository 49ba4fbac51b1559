-- A buffer that is broken where its line ends comes to what one comes to that is broken at each text.
use Rattle.std.proofs.Common.{◌≡◌, ℕ, zero, suc, ◌+◌, ◌<◌, ◌≤◌, Bool, true, false, cond, nat_lt, nat_le, List, [], ◌∷◌, ◌++◌, Option, None, Some, length, take, drop, length-append, le_refl, ◌∙◌, refl, sym, ap, subst, arith}
use Rattle.std.proofs.lemmas.Bool.{leb-true, ltb-false, ltb-true}
use Rattle.std.proofs.lemmas.List.{take-append-le, drop-append-le}
use Rattle.bv_base.specs.Bytes.{is_white}
use Rattle.bst_meaning.specs.Config.{Wrote}
use Rattle.bst_meaning.specs.Lines.{Cut, Page, after_event, after_white, break_among, broken, cut_at, cut_of, cut_with, page_of, trimmed_end, white_places}
use Rattle.bst_step.proofs.BrokenLines.{enough, shorter}

-- a place that was found stays, whatever stands behind place 79
far_stays : (more : List ℕ) (at k : ℕ) → 79 < at → break_among (Some k) (white_places at more) ≡ Some k
far_stays [] at k far = refl
far_stays (b ∷ more) at k far = by (nat_le at 79) refl (is_white b) (far_stays more (at + 1) k (omega (arith, far)))
  where
    by : (near : Bool) → nat_le at 79 ≡ near → (white : Bool) → break_among (Some k) (white_places (at + 1) more) ≡ Some k
        → break_among (Some k) (cond white (at ∷ white_places (at + 1) more) (white_places (at + 1) more)) ≡ Some k
    by true is white later = absurd (omega (arith, far, leb-true at 79 is))
    by false is true later = ap (λ (t : Bool). cond t (break_among (Some at) (white_places (at + 1) more)) (Some k)) is
    by false is false later = later

-- a place that is found among these places is found among those
abbrev Finds : ℕ → List ℕ → List ℕ → Type 0
Finds k ps qs = (best : Option ℕ) → break_among best ps ≡ Some k → break_among best qs ≡ Some k

first_stays : (at k : ℕ) (ps qs : List ℕ) → Finds k ps qs → (early near : Bool)
    → cond early (break_among None ps) (cond near (break_among (Some at) ps) (Some at)) ≡ Some k
    → cond early (break_among None qs) (cond near (break_among (Some at) qs) (Some at)) ≡ Some k
first_stays at k ps qs finds true near e = finds None e
first_stays at k ps qs finds false true e = finds (Some at) e
first_stays at k ps qs finds false false e = e

next_stays : (at k best : ℕ) (ps qs : List ℕ) → Finds k ps qs → (near : Bool)
    → cond near (break_among (Some at) ps) (Some best) ≡ Some k → cond near (break_among (Some at) qs) (Some best) ≡ Some k
next_stays at k best ps qs finds true e = finds (Some at) e
next_stays at k best ps qs finds false e = e

place_stays : (at k : ℕ) (ps qs : List ℕ) → Finds k ps qs → (white : Bool) → Finds k (cond white (at ∷ ps) ps) (cond white (at ∷ qs) qs)
place_stays at k ps qs finds true None e = first_stays at k ps qs finds (nat_lt at 3) (nat_le at 79) e
place_stays at k ps qs finds true (Some best) e = next_stays at k best ps qs finds (nat_le at 79) e
place_stays at k ps qs finds false best e = finds best e

-- more bytes behind more than 79 change no place that was found
break_stays : (bytes more : List ℕ) (at k : ℕ) → 79 < at + length bytes → Finds k (white_places at bytes) (white_places at (bytes ++ more))
break_stays [] more at k far None e = absurd (cc)
break_stays [] more at k far (Some best) e =
    let same : k ≡ best = cc in
    subst (λ (n : ℕ). break_among (Some n) (white_places at more) ≡ Some k) same (far_stays more at k (omega (arith, far)))
break_stays (b ∷ bytes) more at k far best e =
    place_stays at k (white_places (at + 1) bytes) (white_places (at + 1) (bytes ++ more))
    (break_stays bytes more (at + 1) k (omega (arith, far))) (is_white b) best e

-- more bytes behind what isn't white space stand behind it
white_then : (bytes more : List ℕ) (first : ℕ) (left : List ℕ) → after_white bytes ≡ first ∷ left
    → after_white (bytes ++ more) ≡ first ∷ (left ++ more)
white_then [] more first left e = absurd (cc)
white_then (b ∷ bytes) more first left e = by (is_white b) (white_then bytes more first left) e
  where
    by : (white : Bool) → (after_white bytes ≡ first ∷ left → after_white (bytes ++ more) ≡ first ∷ (left ++ more))
        → cond white (after_white bytes) (b ∷ bytes) ≡ first ∷ left
        → cond white (after_white (bytes ++ more)) (b ∷ (bytes ++ more)) ≡ first ∷ (left ++ more)
    by true later same = later same
    by false later same = ap (λ (bytes : List ℕ). bytes ++ more) same

-- a place behind which a buffer has bytes is in it
within : (at : ℕ) (buffer : List ℕ) (first : ℕ) (left : List ℕ) → after_white (drop at buffer) ≡ first ∷ left → at ≤ length buffer
within zero buffer first left e = omega arith
within (suc at) [] first left e = absurd (cc)
within (suc at) (b ∷ buffer) first left e = let later = within at buffer first left e in omega (arith, later)

-- what a cut comes to where more is written
abbrev longer : Cut → List ℕ → Cut
longer cut more = record { line = cut.line; rest = cut.rest ++ more }

cut_here : (buffer more before left : List ℕ) (at : ℕ) (cut : Cut) → after_white (drop at buffer) ≡ left
    → before ≡ take at buffer → cut_with before left ≡ Some cut → cut_at (buffer ++ more) (Some at) ≡ Some (longer cut more)
cut_here buffer more before [] at cut left_is before_is e = absurd (cc)
cut_here buffer more before (b ∷ left) at cut left_is before_is e =
    let near = within at buffer b left left_is in
    let same : record { line = trimmed_end before; rest = 32 ∷ 32 ∷ b ∷ left } ≡ cut = cc in
    let front : take at (buffer ++ more) ≡ before = take-append-le at buffer more near ∙ sym before_is in
    let back : after_white (drop at (buffer ++ more)) ≡ b ∷ (left ++ more) =
    ap after_white (drop-append-le at buffer more near) ∙ white_then (drop at buffer) more b left left_is in
    let both : cut_at (buffer ++ more) (Some at) ≡ cut_with before (b ∷ (left ++ more)) =
    ap (λ (bytes : List ℕ). cut_with bytes (after_white (drop at (buffer ++ more)))) front ∙ ap (cut_with before) back in
    subst (λ (c : Cut). cut_at (buffer ++ more) (Some at) ≡ Some (longer c more)) same both

cut_stays_at : (buffer more : List ℕ) (found : Option ℕ) (cut : Cut) → 79 < length buffer → break_among None (white_places 0 buffer) ≡ found
    → cut_at buffer found ≡ Some cut → cut_at (buffer ++ more) (break_among None (white_places 0 (buffer ++ more))) ≡ Some (longer cut more)
cut_stays_at buffer more None cut long is e = absurd (cc)
cut_stays_at buffer more (Some at) cut long is e =
    ap (cut_at (buffer ++ more)) (break_stays buffer more 0 at (omega (arith, long)) None is)
    ∙ cut_here buffer more (take at buffer) (after_white (drop at buffer)) at cut refl refl e

-- a cut stays where more is written
cut_stays : (buffer more : List ℕ) (cut : Cut) → cut_of buffer ≡ Some cut → cut_of (buffer ++ more) ≡ Some (longer cut more)
cut_stays buffer more cut = by (nat_lt 79 (length buffer)) (nat_lt 79 (length (buffer ++ more))) refl refl
  where
    by : (long longer_still : Bool) → nat_lt 79 (length buffer) ≡ long → nat_lt 79 (length (buffer ++ more)) ≡ longer_still
        → cond long (cut_at buffer (break_among None (white_places 0 buffer))) None ≡ Some cut
        → cond longer_still (cut_at (buffer ++ more) (break_among None (white_places 0 (buffer ++ more)))) None ≡ Some (longer cut more)
    by true true is and e = cut_stays_at buffer more (break_among None (white_places 0 buffer)) cut (ltb-true 79 (length buffer) is) refl e
    by true false is and e =
        absurd (omega (arith, ltb-true 79 (length buffer) is, ltb-false 79 (length (buffer ++ more)) and, length-append buffer more))
    by false _ is and e = absurd (cc)

-- a page whose buffer is broken as often as it can be
abbrev all_broken : List (List ℕ) → List ℕ → Page
all_broken lines buffer = broken (length buffer) lines buffer

-- a page comes to what it comes to after one cut
one_cut : (lines : List (List ℕ)) (buffer : List ℕ) (cut : Cut) → cut_of buffer ≡ Some cut
    → all_broken lines buffer ≡ all_broken (lines ++ cut.line ∷ []) cut.rest
one_cut lines buffer cut is =
    let less = shorter buffer cut is in
    sym (enough (suc (length buffer)) lines buffer (omega arith))
    ∙ ap (page_of (broken (length buffer)) lines buffer) is
    ∙ enough (length buffer) (lines ++ cut.line ∷ []) cut.rest (omega (arith, less))

-- more is written on a page
abbrev more_on : List ℕ → Page → Page
more_on more page = all_broken page.lines (page.buffer ++ more)

late : (n : ℕ) (lines : List (List ℕ)) (buffer more : List ℕ) → length buffer ≤ n
    → all_broken lines (buffer ++ more) ≡ more_on more (broken n lines buffer)
late zero lines buffer more few = refl
late (suc n) lines buffer more few = by (cut_of buffer) refl (λ line rest. late n (lines ++ line ∷ []) rest more)
  where
    by : (o : Option Cut) → cut_of buffer ≡ o
        → ((line rest : List ℕ) → length rest ≤ n
        → all_broken (lines ++ line ∷ []) (rest ++ more) ≡ more_on more (broken n (lines ++ line ∷ []) rest))
        → all_broken lines (buffer ++ more) ≡ more_on more (page_of (broken n) lines buffer o)
    by None is later = refl
    by (Some cut) is later =
        let less = shorter buffer cut is in
        one_cut lines (buffer ++ more) (longer cut more) (cut_stays buffer more cut is)
        ∙ later cut.line cut.rest (omega (arith, less, few))

-- a buffer that is broken after more is written comes to what one comes to that is broken before and after
late_breaks : (lines : List (List ℕ)) (buffer more : List ℕ)
    → all_broken lines (buffer ++ more) ≡ more_on more (all_broken lines buffer)
late_breaks lines buffer more = late (length buffer) lines buffer more (le_refl (length buffer))

-- a text that is written behind a buffer, which is still to be broken
pub late_written : (buffer more : List ℕ)
    → broken (length (buffer ++ more)) [] (buffer ++ more) ≡ after_event (broken (length buffer) [] buffer) (Wrote more)
late_written buffer more = late_breaks [] buffer more
