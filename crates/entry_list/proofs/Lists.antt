-- Filters, firsts and what is left of a list.
use Rattle.std.proofs.Common.{arith, ◌≡◌, ℕ, suc, ◌+◌, ◌<◌, Bool, true, false, cond, not, ◌&&◌, ◌||◌, List, [], ◌∷◌, ◌++◌, length, map, take, drop, get_or, ◌≤◌, refl, sym, ap, ◌∙◌, append_assoc, drop-cons, Some}
use Rattle.std.proofs.Math.ListN.{drop_of_length-le}
use Rattle.std.proofs.lemmas.List.{map-append, take_more}
use Rattle.std.proofs.lemmas.Option.{get_or_from_slice_get, slice_get_within}
use Rattle.std.specs.Prelude.{filter, flat_map, slice_get}
use Rattle.entry_list.specs.Keys.{firsts}

pub drop_item : {X : Type 0} (xs : List X) (i : ℕ) (x : X) → i < length xs → x ≡ get_or xs i x
    → drop i xs ≡ x ∷ drop (i + 1) xs
drop_item xs i x within is =
    let one : suc i ≡ i + 1 = omega arith in
    drop-cons xs i x within ∙ ap (λ y. y ∷ drop (suc i) xs) (sym is) ∙ ap (λ n. x ∷ drop n xs) one

-- what is left from an item on that is found
pub drop_found : {X : Type 0} (xs : List X) (i : ℕ) (x : X) → slice_get xs i ≡ Some x → drop i xs ≡ x ∷ drop (i + 1) xs
drop_found xs i x got = drop_item xs i x (slice_get_within xs i x got) (sym (get_or_from_slice_get xs i x x got))

-- one item more
pub take_next : {X : Type 0} (xs : List X) (i : ℕ) (x : X) → slice_get xs i ≡ Some x → take (i + 1) xs ≡ take i xs ++ x ∷ []
take_next xs i x got =
    take_more xs i x (slice_get_within xs i x got) ∙ ap (λ y. take i xs ++ y ∷ []) (get_or_from_slice_get xs i x x got)

-- what passes one test and then another
pub filter_both : {X : Type 0} (p q r : X → Bool) (same : (x : X) → r x ≡ (q x && p x)) (xs : List X)
    → filter p (filter q xs) ≡ filter r xs
filter_both p q r same [] = refl
filter_both {X} p q r same (x ∷ xs) = by (q x) (r x) (same x) (filter_both p q r same xs)
  where
    by : (b c : Bool) → c ≡ (b && p x) → filter p (filter q xs) ≡ filter r xs
        → filter p (cond b (x ∷ filter q xs) (filter q xs)) ≡ cond c (x ∷ filter r xs) (filter r xs)
    by true c e rest =
        ap (λ f. cond (p x) (x ∷ f) f) rest ∙ ap (λ b. cond b (x ∷ filter r xs) (filter r xs)) (sym e)
    by false c e rest = rest ∙ ap (λ b. cond b (x ∷ filter r xs) (filter r xs)) (sym e)

-- two tests that agree
pub filter_same : {X : Type 0} (p q : X → Bool) (same : (x : X) → p x ≡ q x) (xs : List X) → filter p xs ≡ filter q xs
filter_same p q same [] = refl
filter_same p q same (x ∷ xs) =
    ap (λ b. cond b (x ∷ filter p xs) (filter p xs)) (same x)
    ∙ ap (λ f. cond (q x) (x ∷ f) f) (filter_same p q same xs)

-- the firsts that weren't there before
abbrev pub fresh : {X S : Type 0} → (X → X → Bool) → (X → S → Bool) → S → List X → List X
fresh same there s xs = filter (λ x. not (there x s)) (firsts same xs)

-- neither of two
neither : (a b c : Bool) → c ≡ (a || b) → not c ≡ (not a && not b)
neither true b c e = ap not e
neither false b c e = ap not e

chosen : {X : Type 0} (b : Bool) (x : X) (xs ys : List X) → xs ≡ ys → cond (not b) (x ∷ xs) xs ≡ cond b ys (x ∷ ys)
chosen true x xs ys e = e
chosen false x xs ys e = ap (λ l. x ∷ l) e

pub fresh_step : {X S : Type 0} (same : X → X → Bool) (there : X → S → Bool) (old new : S) (x : X) (rest : List X)
    → ((later : X) → there later new ≡ (same later x || there later old))
    → fresh same there old (x ∷ rest) ≡ cond (there x old) (fresh same there new rest) (x ∷ fresh same there new rest)
fresh_step same there old new x rest noted =
    chosen (there x old) x _ _
    (filter_both (λ y. not (there y old)) (λ later. not (same later x)) (λ y. not (there y new))
    (λ y. neither (same y x) (there y old) (there y new) (noted y)) (firsts same rest))

parted : {X Y : Type 0} (f : X → List Y) (b : Bool) (x : X) (rest : List X)
    → cond b [] (f x) ++ flat_map f rest ≡ flat_map f (cond b rest (x ∷ rest))
parted f true x rest = refl
parted f false x rest = refl

-- an item gives what it stands for, where it wasn't there
pub stepped : {X S Y : Type 0} (same : X → X → Bool) (there : X → S → Bool) (f : X → List Y) (old new : S) (x : X) (xs : List X)
    (i : ℕ) (before after : List Y) → drop i xs ≡ x ∷ drop (i + 1) xs
    → ((later : X) → there later new ≡ (same later x || there later old)) → after ≡ before ++ cond (there x old) [] (f x)
    → after ++ flat_map f (fresh same there new (drop (i + 1) xs)) ≡ before ++ flat_map f (fresh same there old (drop i xs))
stepped same there f old new x xs i before after at noted is =
    let left = fresh same there new (drop (i + 1) xs) in
    ap (λ l. l ++ flat_map f left) is
    ∙ append_assoc before (cond (there x old) [] (f x)) (flat_map f left)
    ∙ ap (λ l. before ++ l) (parted f (there x old) x left)
    ∙ ap (λ l. before ++ flat_map f l) (sym (fresh_step same there old new x (drop (i + 1) xs) noted))
    ∙ ap (λ l. before ++ flat_map f (fresh same there old l)) (sym at)

kept : {X : Type 0} (w : X → Bool) (v b : Bool) (x : X) (rest : List X) → v ≡ w x
    → cond b [] (cond v (x ∷ []) []) ++ filter w rest ≡ filter w (cond b rest (x ∷ rest))
kept w v true x rest e = refl
kept {X} w v false x rest e = by v (w x) e
  where
    by : (v u : Bool) → v ≡ u → cond v (x ∷ []) [] ++ filter w rest ≡ cond u (x ∷ filter w rest) (filter w rest)
    by true true e = refl
    by false false e = refl
    by true false e = absurd cc
    by false true e = absurd cc

-- an item that wasn't there is kept, where it passes a test
pub stepped_filter : {X S : Type 0} (same : X → X → Bool) (there : X → S → Bool) (w : X → Bool) (v : Bool) (old new : S) (x : X)
    (xs : List X) (i : ℕ) (before after : List X) → drop i xs ≡ x ∷ drop (i + 1) xs
    → ((later : X) → there later new ≡ (same later x || there later old)) → v ≡ w x
    → after ≡ before ++ cond (there x old) [] (cond v (x ∷ []) [])
    → after ++ filter w (fresh same there new (drop (i + 1) xs)) ≡ before ++ filter w (fresh same there old (drop i xs))
stepped_filter same there w v old new x xs i before after at noted agrees is =
    let left = fresh same there new (drop (i + 1) xs) in
    ap (λ l. l ++ filter w left) is
    ∙ append_assoc before (cond (there x old) [] (cond v (x ∷ []) [])) (filter w left)
    ∙ ap (λ l. before ++ l) (kept w v (there x old) x left agrees)
    ∙ ap (λ l. before ++ filter w l) (sym (fresh_step same there old new x (drop (i + 1) xs) noted))
    ∙ ap (λ l. before ++ filter w (fresh same there old l)) (sym at)

pub map_more : {X Y : Type 0} (f : X → Y) (xs : List X) (i : ℕ) (x : X) (y : Y) (before after : List Y)
    → i < length xs → x ≡ get_or xs i x → before ≡ map f (take i xs) → after ≡ before ++ y ∷ [] → y ≡ f x
    → after ≡ map f (take (i + 1) xs)
map_more f xs i x y before after within is so pushed gives =
    pushed ∙ ap (λ l. l ++ y ∷ []) so ∙ ap (λ z. map f (take i xs) ++ z ∷ []) gives
    ∙ sym (map-append f (take i xs) (x ∷ []))
    ∙ ap (λ z. map f (take i xs ++ z ∷ [])) is
    ∙ ap (map f) (sym (take_more xs i x within))

pub drop_end : {X : Type 0} (xs : List X) (i : ℕ) → length xs ≤ i → drop i xs ≡ []
drop_end xs i le = drop_of_length-le xs le

-- at first nothing was there
pub fresh_all : {X S : Type 0} (same : X → X → Bool) (there : X → S → Bool) (s : S) (none : (x : X) → there x s ≡ false)
    (xs : List X) → fresh same there s xs ≡ firsts same xs
fresh_all same there s none xs = all (firsts same xs)
  where
    all : (ys : List _) → filter (λ x. not (there x s)) ys ≡ ys
    all [] = refl
    all (y ∷ ys) =
        ap (λ b. cond (not b) (y ∷ filter (λ x. not (there x s)) ys) (filter (λ x. not (there x s)) ys)) (none y)
        ∙ ap (λ l. y ∷ l) (all ys)

pub or_false : (a : Bool) → (a || false) ≡ a
or_false true = refl
or_false false = refl
