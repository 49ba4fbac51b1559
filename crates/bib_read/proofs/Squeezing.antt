-- What squeezing makes of one byte after the other.
use Rattle.std.proofs.Common.{◌≡◌, ℕ, suc, ◌+◌, ◌<◌, Bool, true, false, cond, List, [], ◌∷◌, ◌++◌, length, drop, get_or, drop-cons, add-one, append_assoc, refl, sym, ap, ◌∙◌}
use Rattle.bv_base.specs.Bytes.{is_white}
use Rattle.bib_read.specs.Squeeze.{squeezed}

-- the first byte, and then the bytes behind it
squeezed_first : (begun : Bool) (b : ℕ) (rest : List ℕ)
    → squeezed begun (b ∷ rest) ≡ cond (is_white b) (cond begun [] (32 ∷ [])) (b ∷ []) ++ squeezed (is_white b) rest
squeezed_first begun b rest = by (is_white b) begun
  where
    by : (w g : Bool) → cond w (cond g (squeezed true rest) (32 ∷ squeezed true rest)) (b ∷ squeezed false rest)
        ≡ cond w (cond g [] (32 ∷ [])) (b ∷ []) ++ squeezed w rest
    by false g = refl
    by true true = refl
    by true false = refl

-- what has been found, and what comes of the bytes that are left, stays once a byte goes from these to that
pub squeezed_on : (found new rest all : List ℕ) (i : ℕ) (begun white : Bool) → i < length rest
    → white ≡ is_white (get_or rest i 0)
    → new ≡ found ++ cond white (cond begun [] (32 ∷ [])) (get_or rest i 0 ∷ [])
    → found ++ squeezed begun (drop i rest) ≡ all → new ++ squeezed white (drop (i + 1) rest) ≡ all
squeezed_on found new rest all i begun white within is put so_far =
    let b : ℕ = get_or rest i 0 in
    let behind : List ℕ = drop (suc i) rest in
    ap (λ n. n ++ squeezed white (drop (i + 1) rest)) put
    ∙ append_assoc found (cond white (cond begun [] (32 ∷ [])) (b ∷ [])) (squeezed white (drop (i + 1) rest))
    ∙ ap (λ n. found ++ (cond white (cond begun [] (32 ∷ [])) (b ∷ []) ++ squeezed white (drop n rest))) (add-one i)
    ∙ ap (λ w. found ++ (cond w (cond begun [] (32 ∷ [])) (b ∷ []) ++ squeezed w behind)) is
    ∙ ap (λ l. found ++ l) (sym (squeezed_first begun b behind))
    ∙ ap (λ l. found ++ squeezed begun l) (sym (drop-cons rest i 0 within))
    ∙ so_far

-- the bytes that stay as they are, behind others
pub front_kept : (old found front later all : List ℕ) → found ≡ old ++ front → all ≡ front ++ later → found ++ later ≡ old ++ all
front_kept old found front later all put same =
    ap (λ l. l ++ later) put ∙ append_assoc old front later ∙ ap (λ l. old ++ l) (sym same)
