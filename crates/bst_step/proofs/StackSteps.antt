-- The items of a stack below its topmost ones.
use Rattle.std.proofs.Common.{◌≡◌, ℕ, zero, suc, ◌+◌, ◌-◌, ◌<◌, ◌≤◌, ◌∙◌, le_refl, sym, ap, subst, refl, List, [], ◌∷◌, ◌++◌, length, take, drop, reverse, slice_get, None, arith, inl, inr}
use Rattle.std.proofs.lemmas.Bool.{cases_lt}
use Rattle.std.proofs.Math.ListN.{set}
use Rattle.std.proofs.Math.Seq.{take-suc-set}
use Rattle.std.proofs.lemmas.List.{reverse-append, reverse-reverse, set-append_left, set-append_right, take-append-drop, take-take, take_all, length-append, length-reverse, length-drop, length-take, drop_at, drop_all}

without_end : {A : Type 0} (a b : List A) (n : ℕ) → length b ≡ n → reverse a ≡ drop n (reverse (a ++ b))
without_end a b n e = rw (reverse-append a b) (sym (drop_at (reverse b) (reverse a) n (length-reverse b ∙ e)))

within : {A : Type 0} (xs : List A) (n : ℕ) → n ≤ length xs → reverse (take (length xs - n) xs) ≡ drop n (reverse xs)
within {A} xs n h =
    let m : ℕ = length xs - n in
    let left : length (drop m xs) ≡ n = length-drop m xs ∙ omega arith in
    subst (λ (ys : List A). reverse (take m xs) ≡ drop n (reverse ys)) (take-append-drop m xs) (without_end (take m xs) (drop m xs) n left)

past : {A : Type 0} (xs : List A) (n : ℕ) → length xs ≤ n → reverse (take (length xs - n) xs) ≡ drop n (reverse xs)
past {A} xs n h =
    let none : length xs - n ≡ 0 = omega arith in
    let long : length (reverse xs) ≤ n = subst (λ (k : ℕ). k ≤ n) (sym (length-reverse xs)) h in
    ap (λ (k : ℕ). reverse (take k xs)) none ∙ sym (drop_all n (reverse xs) long)

pub reverse-take : {A : Type 0} (xs : List A) (n : ℕ) → reverse (take (length xs - n) xs) ≡ drop n (reverse xs)
reverse-take xs n = elim (cases_lt n (length xs)) [ inl h ↦ within xs n (omega arith) | inr h ↦ past xs n h ]

pub no_first : {A : Type 0} (xs : List A) → slice_get xs 0 ≡ None → xs ≡ []
no_first [] e = refl
no_first (x ∷ xs) e = absurd (cc)

-- an item is replaced, which stands as far from the other end
replaced : {A : Type 0} (zs : List A) (i depth : ℕ) (y : A) → i + 1 + depth ≡ length zs → reverse (set (reverse zs) i y) ≡ set zs depth y
replaced [] i depth y at = absurd (omega (arith, at))
replaced {A} (z ∷ zs) i zero y at =
    let long : length (reverse zs) ≡ i = omega (arith, at, length-reverse zs) in
    let here : i - i ≡ 0 = omega arith in
    ap (λ (l : List A). reverse (set l i y)) (reverse-append (z ∷ []) zs)
    ∙ ap (λ (l : List A). reverse l) (set-append_right (reverse zs) (z ∷ []) i i y long (le_refl i))
    ∙ ap (λ (k : ℕ). reverse (reverse zs ++ set (z ∷ []) k y)) here
    ∙ reverse-append (reverse zs) (y ∷ [])
    ∙ ap (λ (l : List A). y ∷ l) (reverse-reverse zs)
replaced {A} (z ∷ zs) i (suc depth) y at =
    let there : i < length (reverse zs) = omega (arith, at, length-reverse zs) in
    ap (λ (l : List A). reverse (set l i y)) (reverse-append (z ∷ []) zs)
    ∙ ap (λ (l : List A). reverse l) (set-append_left (reverse zs) (z ∷ []) i y there)
    ∙ reverse-append (set (reverse zs) i y) (z ∷ [])
    ∙ ap (λ (l : List A). z ∷ l) (replaced zs i depth y (omega (arith, at)))

pub reverse-set : {A : Type 0} (xs : List A) (depth : ℕ) (y : A) → depth < length xs
    → reverse (set xs (length xs - 1 - depth) y) ≡ set (reverse xs) depth y
reverse-set {A} xs depth y some =
    let at : (length xs - 1 - depth) + 1 + depth ≡ length (reverse xs) = omega (arith, some, length-reverse xs) in
    ap (λ (l : List A). reverse (set l (length xs - 1 - depth) y)) (sym (reverse-reverse xs))
    ∙ replaced (reverse xs) (length xs - 1 - depth) depth y at

-- the first item is replaced
pub first_replaced : {A : Type 0} (xs : List A) (y : A) → 0 < length xs → set xs 0 y ≡ y ∷ drop 1 xs
first_replaced [] y some = absurd (omega (arith, some))
first_replaced (x ∷ xs) y some = refl

-- of the slots the first so many are the items, the top last
held_count : {A : Type 0} (xs : List A) (n : ℕ) → n ≤ length xs → length (take n xs) ≡ n
held_count xs n within = omega (arith, within, length-take n xs)

pub as_many : {A : Type 0} (xs : List A) (n : ℕ) → n ≤ length xs → n ≡ length (reverse (take n xs))
as_many xs n within = sym (length-reverse (take n xs) ∙ held_count xs n within)

-- an item more, in a slot that is there, or behind all slots
pub pushed_in_slot : {A : Type 0} (xs : List A) (n : ℕ) (x : A) → n < length xs → reverse (take (n + 1) (set xs n x)) ≡ x ∷ reverse (take n xs)
pushed_in_slot {A} xs n x some =
    let next : n + 1 ≡ suc n = omega arith in
    ap (λ (k : ℕ). reverse (take k (set xs n x))) next
    ∙ ap (λ (l : List A). reverse l) (take-suc-set xs n x some)
    ∙ reverse-append (take n xs) (x ∷ [])

pub pushed_behind : {A : Type 0} (xs : List A) (n : ℕ) (x : A) → n ≡ length xs → reverse (take (n + 1) (xs ++ x ∷ [])) ≡ x ∷ reverse (take n xs)
pushed_behind {A} xs n x all =
    ap (λ (l : List A). reverse l) (take_all (n + 1) (xs ++ x ∷ []) (omega (arith, all, length-append xs (x ∷ []))))
    ∙ reverse-append xs (x ∷ [])
    ∙ ap (λ (l : List A). x ∷ reverse l) (sym (take_all n xs (omega (arith, all))))

-- fewer items
pub fewer_held : {A : Type 0} (xs : List A) (n k : ℕ) → n ≤ length xs → reverse (take (n - k) xs) ≡ drop k (reverse (take n xs))
fewer_held {A} xs n k within =
    ap (λ (l : List A). reverse l) (sym (take-take (n - k) n xs (omega arith)))
    ∙ ap (λ (m : ℕ). reverse (take (m - k) (take n xs))) (sym (held_count xs n within))
    ∙ reverse-take (take n xs) k

-- another item in a slot
set_taken : {A : Type 0} (xs : List A) (n i : ℕ) (y : A) → take n (set xs i y) ≡ set (take n xs) i y
set_taken [] zero i y = refl
set_taken [] (suc n) i y = refl
set_taken (x ∷ xs) zero i y = refl
set_taken (x ∷ xs) (suc n) zero y = refl
set_taken {A} (x ∷ xs) (suc n) (suc i) y = ap (λ (l : List A). x ∷ l) (set_taken xs n i y)

pub held_set_at : {A : Type 0} (xs : List A) (n depth : ℕ) (y : A) → n ≤ length xs → depth < n
    → reverse (take n (set xs (n - 1 - depth) y)) ≡ set (reverse (take n xs)) depth y
held_set_at {A} xs n depth y within some =
    let count : length (take n xs) ≡ n = held_count xs n within in
    ap (λ (l : List A). reverse l) (set_taken xs n (n - 1 - depth) y)
    ∙ ap (λ (m : ℕ). reverse (set (take n xs) (m - 1 - depth) y)) (sym count)
    ∙ reverse-set (take n xs) depth y (omega (arith, some, count))
