-- Lists of which the last item is taken.
use Rattle.std.proofs.Common.{◌≡◌, ◌+◌, refl, ap, ◌∙◌, sym, ◌<◌, List, [], ◌∷◌, ◌++◌, length, slice_get, option_map, Option, None, Some, MatchOption, Bool, true, false, arith, cond}
use Rattle.std.proofs.lemmas.List.{append_assoc, length-append}
use Rattle.std.specs.List.{find}
use Rattle.std.specs.Option.{option_or}

-- an item behind others has the number of those
pub behind : {T : Type 0} (xs ys : List T) (y : T) → slice_get (xs ++ y ∷ ys) (length xs) ≡ Some y
behind [] ys y = refl
behind (x ∷ xs) ys y = behind xs ys y

-- the item that is taken off a list that has one
pub taken : {B T : Type 0} (now : B → T) (found : Option B) (left new : List T)
    → MatchOption found ((left ≡ []) × (new ≡ [])) (λ item. left ≡ new ++ now item ∷ []) → 0 < length left
    → (item : T) × (left ≡ new ++ item ∷ []) × (option_map now found ≡ Some item)
taken now (Some item) left new e long = (now item, e, refl)
taken now None left new e long = absurd (Prim.omega (arith, ap length e.0))

-- the list goes on behind what is left
pub goes_on : {T : Type 0} (left new passed all : List T) (item : T) → left ≡ new ++ item ∷ [] → left ++ passed ≡ all
    → new ++ item ∷ passed ≡ all
goes_on left new passed all item e whole = sym (append_assoc new (item ∷ []) passed) ∙ ap (λ xs. xs ++ passed) (sym e) ∙ whole

-- there is one less
pub one_less : {T : Type 0} (left new : List T) (item : T) → left ≡ new ++ item ∷ [] → length left ≡ length new + 1
one_less left new item e = ap length e ∙ length-append new (item ∷ [])

-- the first that passes among items and one more
find_last : {T : Type 0} (passes : T → Bool) (xs : List T) (x : T)
    → find passes (xs ++ x ∷ []) ≡ option_or (find passes xs) (cond (passes x) (Some x) None)
find_last passes [] x = refl
find_last passes (y ∷ xs) x = tested (passes y) (find_last passes xs x)
  where
    tested : (b : Bool) → find passes (xs ++ x ∷ []) ≡ option_or (find passes xs) (cond (passes x) (Some x) None)
        → cond b (Some y) (find passes (xs ++ x ∷ [])) ≡ option_or (cond b (Some y) (find passes xs)) (cond (passes x) (Some x) None)
    tested true e = refl
    tested false e = e

-- an item that passes comes before what was found behind it
pub found_here : {T : Type 0} (passes : T → Bool) (left new : List T) (x : T) (found all : Option T) → left ≡ new ++ x ∷ []
    → true ≡ passes x → option_or (find passes left) found ≡ all → option_or (find passes new) (Some x) ≡ all
found_here {T} passes left new x found all e here whole =
    sym (either (find passes new)) ∙ ap (λ o. option_or o found) (ap (λ b. option_or (find passes new) (cond b (Some x) None)) here ∙ sym (find_last passes new x) ∙ ap (find passes) (sym e)) ∙ whole
  where
    either : (first : Option T) → option_or (option_or first (Some x)) found ≡ option_or first (Some x)
    either (Some y) = refl
    either None = refl

-- one that doesn't leaves it
pub found_later : {T : Type 0} (passes : T → Bool) (left new : List T) (x : T) (found all : Option T) → left ≡ new ++ x ∷ []
    → false ≡ passes x → option_or (find passes left) found ≡ all → option_or (find passes new) found ≡ all
found_later {T} passes left new x found all e not whole =
    ap (λ o. option_or o found) (sym (either (find passes new)) ∙ ap (λ b. option_or (find passes new) (cond b (Some x) None)) not ∙ sym (find_last passes new x) ∙ ap (find passes) (sym e)) ∙ whole
  where
    either : (first : Option T) → option_or first None ≡ first
    either (Some y) = refl
    either None = refl
