-- A buffer is broken as often as it can be.
use Rattle.std.proofs.Common.{◌≡◌, ℕ, zero, suc, ◌+◌, ◌<◌, ◌≤◌, Bool, true, false, cond, nat_lt, nat_le, List, [], ◌∷◌, ◌++◌, Option, None, Some, length, take, drop, length-drop, le_refl, refl, sym, ap, subst, arith}
use Rattle.std.proofs.lemmas.Bool.{ltb-false, ltb-true}
use Rattle.bv_base.specs.Bytes.{is_white}
use Rattle.bst_meaning.specs.Lines.{Cut, after_white, break_among, broken, cut_at, cut_of, cut_with, page_of, trimmed_end, white_places}

pub fewer : (bytes : List ℕ) → length (after_white bytes) ≤ length bytes
fewer [] = omega arith
fewer (b ∷ bytes) = by (is_white b) (fewer bytes)
  where
    by : (t : Bool) → length (after_white bytes) ≤ length bytes
        → length (cond t (after_white bytes) (b ∷ bytes)) ≤ suc (length bytes)
    by true less = omega arith
    by false less = omega arith

-- no place before 3 is the best so far, and none is to come once there is one
abbrev Behind : ℕ → Option ℕ → Type 0
Behind at None = Unit {0}
Behind at (Some best) = (3 ≤ best) × (3 ≤ at)

best_behind : (at k : ℕ) (best : Option ℕ) → Behind at best → best ≡ Some k → 3 ≤ k
best_behind at k None behind e = absurd (cc)
best_behind at k (Some best) behind e = let same : best ≡ k = cc in subst (λ n. 3 ≤ n) same behind.0

-- what the places from the next on come to
abbrev Later : ℕ → List ℕ → ℕ → Type 0
Later at bytes k = (best : Option ℕ) → Behind (at + 1) best → break_among best (white_places (at + 1) bytes) ≡ Some k → 3 ≤ k

later_than : (at : ℕ) (best : Option ℕ) → Behind at best → Behind (at + 1) best
later_than at None behind = tt
later_than at (Some best) behind = (behind.0, omega (arith, behind.1))

here : (at : ℕ) → 3 ≤ at → Behind (at + 1) (Some at)
here at behind = (behind, omega arith)

first_place : (bytes : List ℕ) (at k : ℕ) → Later at bytes k → (early near : Bool) → nat_lt at 3 ≡ early
    → cond early (break_among None (white_places (at + 1) bytes)) (cond near (break_among (Some at) (white_places (at + 1) bytes)) (Some at)) ≡ Some k
    → 3 ≤ k
first_place bytes at k later true near is e = later None tt e
first_place bytes at k later false true is e = later (Some at) (here at (ltb-false at 3 is)) e
first_place bytes at k later false false is e = best_behind at k (Some at) (ltb-false at 3 is, ltb-false at 3 is) e

next_place : (bytes : List ℕ) (best at k : ℕ) → Behind at (Some best) → Later at bytes k → (near : Bool)
    → cond near (break_among (Some at) (white_places (at + 1) bytes)) (Some best) ≡ Some k → 3 ≤ k
next_place bytes best at k behind later true e = later (Some at) (here at behind.1) e
next_place bytes best at k behind later false e = best_behind at k (Some best) behind e

white_place : (bytes : List ℕ) (at k : ℕ) (best : Option ℕ) → Behind at best → Later at bytes k
    → break_among best (at ∷ white_places (at + 1) bytes) ≡ Some k → 3 ≤ k
white_place bytes at k None behind later e = first_place bytes at k later (nat_lt at 3) (nat_le at 79) refl e
white_place bytes at k (Some best) behind later e = next_place bytes best at k behind later (nat_le at 79) e

a_byte : (bytes : List ℕ) (at k : ℕ) (best : Option ℕ) → Behind at best → Later at bytes k → (white : Bool)
    → break_among best (cond white (at ∷ white_places (at + 1) bytes) (white_places (at + 1) bytes)) ≡ Some k → 3 ≤ k
a_byte bytes at k best behind later true e = white_place bytes at k best behind later e
a_byte bytes at k best behind later false e = later best (later_than at best behind) e

-- a buffer is broken at place 3 or behind it
breaks_behind : (bytes : List ℕ) (at k : ℕ) (best : Option ℕ) → Behind at best → break_among best (white_places at bytes) ≡ Some k → 3 ≤ k
breaks_behind [] at k best behind e = best_behind at k best behind e
breaks_behind (b ∷ bytes) at k best behind e = a_byte bytes at k best behind (breaks_behind bytes (at + 1) k) (is_white b) e

-- two spaces are fewer than what a cut takes
shorter_with : (buffer before left : List ℕ) (cut : Cut) → length left + 2 < length buffer → cut_with before left ≡ Some cut
    → length cut.rest < length buffer
shorter_with buffer before [] cut fewer e = absurd (cc)
shorter_with buffer before (b ∷ left) cut fewer e =
    let same : record { line = trimmed_end before; rest = 32 ∷ 32 ∷ b ∷ left } ≡ cut = cc in
    subst (λ (c : Cut). length c.rest < length buffer) same (omega arith)

shorter_at : (buffer : List ℕ) (found : Option ℕ) (cut : Cut) → 79 < length buffer → break_among None (white_places 0 buffer) ≡ found
    → cut_at buffer found ≡ Some cut → length cut.rest < length buffer
shorter_at buffer None cut long is e = absurd (cc)
shorter_at buffer (Some at) cut long is e =
    let behind = breaks_behind buffer 0 at None tt is in
    shorter_with buffer (take at buffer) (after_white (drop at buffer)) cut
    (omega (arith, behind, fewer (drop at buffer), length-drop at buffer)) e

-- a cut makes a buffer shorter
pub shorter : (buffer : List ℕ) (cut : Cut) → cut_of buffer ≡ Some cut → length cut.rest < length buffer
shorter buffer cut = by (nat_lt 79 (length buffer)) refl
  where
    by : (long : Bool) → nat_lt 79 (length buffer) ≡ long
        → cond long (cut_at buffer (break_among None (white_places 0 buffer))) None ≡ Some cut → length cut.rest < length buffer
    by true is e = shorter_at buffer (break_among None (white_places 0 buffer)) cut (ltb-true 79 (length buffer) is) refl e
    by false is e = absurd (cc)

-- an empty buffer isn't cut
none_of_none : (buffer : List ℕ) → length buffer ≤ 0 → cut_of buffer ≡ None
none_of_none [] few = refl
none_of_none (b ∷ buffer) few = absurd (omega arith)

-- as many cuts as a buffer has bytes are enough
same_page : (n m : ℕ) (lines : List (List ℕ)) (buffer : List ℕ) → length buffer ≤ n → length buffer ≤ m
    → broken n lines buffer ≡ broken m lines buffer
same_page zero zero lines buffer f g = refl
same_page zero (suc m) lines buffer f g = sym (ap (page_of (broken m) lines buffer) (none_of_none buffer f))
same_page (suc n) zero lines buffer f g = ap (page_of (broken n) lines buffer) (none_of_none buffer g)
same_page (suc n) (suc m) lines buffer f g = by (cut_of buffer) refl (λ line rest. same_page n m (lines ++ line ∷ []) rest)
  where
    by : (o : Option Cut) → cut_of buffer ≡ o
        → ((line rest : List ℕ) → length rest ≤ n → length rest ≤ m → broken n (lines ++ line ∷ []) rest ≡ broken m (lines ++ line ∷ []) rest)
        → page_of (broken n) lines buffer o ≡ page_of (broken m) lines buffer o
    by None is more = refl
    by (Some cut) is more =
        let less = shorter buffer cut is in more cut.line cut.rest (omega arith) (omega arith)

pub enough : (n : ℕ) (lines : List (List ℕ)) (buffer : List ℕ) → length buffer ≤ n
    → broken n lines buffer ≡ broken (length buffer) lines buffer
enough n lines buffer few = same_page n (length buffer) lines buffer few (le_refl (length buffer))

-- of what is left nothing can be cut
none_after : (n : ℕ) (lines : List (List ℕ)) (buffer : List ℕ) → length buffer ≤ n → cut_of (broken n lines buffer).buffer ≡ None
none_after zero lines buffer few = none_of_none buffer few
none_after (suc n) lines buffer few = by (cut_of buffer) refl (λ line rest. none_after n (lines ++ line ∷ []) rest)
  where
    by : (o : Option Cut) → cut_of buffer ≡ o
        → ((line rest : List ℕ) → length rest ≤ n → cut_of (broken n (lines ++ line ∷ []) rest).buffer ≡ None)
        → cut_of (page_of (broken n) lines buffer o).buffer ≡ None
    by None is more = is
    by (Some cut) is more = let less = shorter buffer cut is in more cut.line cut.rest (omega arith)

pub none_left : (lines : List (List ℕ)) (buffer : List ℕ) → cut_of (broken (length buffer) lines buffer).buffer ≡ None
none_left lines buffer = none_after (length buffer) lines buffer (le_refl (length buffer))
