-- Lists that are taken item by item.
use Rattle.std.proofs.Common.{◌≡◌, ℕ, zero, suc, ◌+◌, ◌<◌, ◌≤◌, Bool, true, false, ◌&&◌, ◌||◌, cond, min, List, [], ◌∷◌, ◌++◌, length, map, take, drop, get_or, slice_get, Option, ap, sym, subst, ◌∙◌, refl, arith, inl, inr, append_assoc}
use Rattle.std.specs.List.{All, filter, list_all, list_any}
use Rattle.std.specs.Option.{option_to_list}
use Rattle.std.proofs.lemmas.Bool.{cases_lt}
use Rattle.std.proofs.lemmas.List.{append-nil, drop_all, drop_more, drop-map, length-map, take_all}
use Rattle.std.proofs.lemmas.List.Elements.{All-drop, All-head, All-tail}

more : {X : Type 0} (k : ℕ) (xs : List X) → take (suc k) xs ≡ take k xs ++ option_to_list (slice_get xs k)
more zero [] = refl
more (suc k) [] = refl
more zero (x ∷ xs) = refl
more {X} (suc k) (x ∷ xs) = ap (λ (rest : List X). x ∷ rest) (more k xs)

-- the item at a number, behind those before it
pub one_more : {X : Type 0} (k : ℕ) (xs old new : List X) (one : Option X)
    → old ≡ take k xs → one ≡ slice_get xs k → new ≡ old ++ option_to_list one → new ≡ take (k + 1) xs
one_more {X} k xs old new one e f g =
    let next : suc k ≡ k + 1 = omega arith in
    g ∙ ap (λ (front : List X). front ++ option_to_list one) e ∙ ap (λ (it : Option X). take k xs ++ option_to_list it) f ∙ sym (more k xs)
    ∙ ap (λ (n : ℕ). take n xs) next

-- no more than all
pub front_min : {X : Type 0} (v : ℕ) (xs : List X) → take (min v (length xs)) xs ≡ take v xs
front_min {X} v xs = elim (cases_lt v (length xs)) [
  | inl few ↦ (let same : min v (length xs) ≡ v = omega (arith, few) in ap (λ (n : ℕ). take n xs) same)
  | inr all ↦ take_all (min v (length xs)) xs (omega (arith, all)) ∙ sym (take_all v xs (omega (arith, all)))
]

pub back_min : {X : Type 0} (v : ℕ) (xs : List X) → drop (min v (length xs)) xs ≡ drop v xs
back_min {X} v xs = elim (cases_lt v (length xs)) [
  | inl few ↦ (let same : min v (length xs) ≡ v = omega (arith, few) in ap (λ (n : ℕ). drop n xs) same)
  | inr all ↦ drop_all (min v (length xs)) xs (omega (arith, all)) ∙ sym (drop_all v xs (omega (arith, all)))
]

-- the first of those that are left, and the others
pub first_left : {X : Type 0} (P : X → Type 0) (xs rest : List X) (x : X) → xs ≡ x ∷ rest → All P xs → P x
first_left P xs rest x is all = All-head P x rest (subst (All P) is all)

pub rest_left : {X : Type 0} (P : X → Type 0) (xs rest : List X) (x : X) → xs ≡ x ∷ rest → All P xs → All P rest
rest_left P xs rest x is all = All-tail P x rest (subst (All P) is all)

-- what one of those that are left gives is added
pub one_added : {X Y : Type 0} (f : X → Y) (old new all : List Y) (y : Y) (xs rest : List X) (x : X) → xs ≡ x ∷ rest → y ≡ f x → new ≡ old ++ y ∷ []
    → old ++ map f xs ≡ all → new ++ map f rest ≡ all
one_added {X} {Y} f old new all y xs rest x is made grown before =
    ap (λ (front : List Y). front ++ map f rest) (grown ∙ ap (λ (it : Y). old ++ it ∷ []) made)
    ∙ append_assoc old (f x ∷ []) (map f rest)
    ∙ ap (λ (them : List X). old ++ map f them) (sym is)
    ∙ before

-- where none is left, what those before gave is all
pub all_added : {X Y : Type 0} (f : List X → List Y) (old all : List Y) (k : ℕ) (xs : List X) → f [] ≡ [] → length xs ≤ k → old ++ f (drop k xs) ≡ all → old ≡ all
all_added {X} {Y} f old all k xs none done before =
    sym (append-nil old) ∙ ap (λ (left : List Y). old ++ left) (sym none) ∙ ap (λ (left : List X). old ++ f left) (sym (drop_all k xs done)) ∙ before

-- those that pass are no more than all
pub fewer : {X : Type 0} (p : X → Bool) (xs : List X) → length (filter p xs) ≤ length xs
fewer p [] = omega arith
fewer {X} p (x ∷ xs) =
    let rest = fewer p xs in
    elim (p x) as (λ (b : Bool). length (cond b (x ∷ filter p xs) (filter p xs)) ≤ suc (length xs)) [
      | true ↦ omega (arith, rest)
      | false ↦ omega (arith, rest)
    ]

or_more : (a b d : Bool) → ((a || b) || d) ≡ (a || (b || d))
or_more true b d = refl
or_more false b d = refl

-- whether one of them passes, by those before and by those that are left
pub one_tried : {X : Type 0} (p : X → Bool) (old new all : Bool) (xs rest : List X) (x : X) → xs ≡ x ∷ rest → new ≡ (old || p x)
    → (old || list_any p xs) ≡ all → (new || list_any p rest) ≡ all
one_tried {X} p old new all xs rest x is tried before =
    ap (λ (b : Bool). b || list_any p rest) tried
    ∙ or_more old (p x) (list_any p rest)
    ∙ ap (λ (them : List X). old || list_any p them) (sym is)
    ∙ before

-- the next one of those that are left
pub next_left : {X : Type 0} (xs : List X) (k : ℕ) (x : X) → k < length xs → x ≡ get_or xs k x → drop k xs ≡ x ∷ drop (k + 1) xs
next_left {X} xs k x more is = drop_more xs k x more ∙ ap (λ (y : X). y ∷ drop (k + 1) xs) (sym is)

-- what all of some images have one has
pub one_of_all : {X Y : Type 0} (P : Y → Type 0) (f : X → Y) (xs : List X) (k : ℕ) (x : X) → k < length xs → x ≡ get_or xs k x → All P (map f xs) → P (f x)
one_of_all {X} {Y} P f xs k x more is all =
    first_left P (map f (drop k xs)) (map f (drop (k + 1) xs)) (f x) (ap (map f) (next_left xs k x more is))
    (subst (λ (left : List Y). All P left) (drop-map f k xs) (All-drop P k (map f xs) all))

-- what stands at a number in a list of images is the image of what stands there
pub image_at : {X Y : Type 0} (f : X → Y) (xs : List X) (ys : List Y) (k : ℕ) (x : X) (y : Y) → k < length xs → ys ≡ map f xs → x ≡ get_or xs k x
    → y ≡ get_or ys k y → y ≡ f x
image_at {X} {Y} f xs ys k x y more images here there =
    let same = ap length images ∙ length-map xs f in
    let all : y ∷ drop (k + 1) ys ≡ f x ∷ map f (drop (k + 1) xs) =
    sym (next_left ys k y (omega (arith, more, same)) there) ∙ ap (drop k) images ∙ drop-map f k xs ∙ ap (map f) (next_left xs k x more here) in
    cc all

-- one that passes is kept
pub kept_here : {X : Type 0} (test : X → Bool) (xs old new all : List X) (k : ℕ) (x : X) → k < length xs → x ≡ get_or xs k x → test x ≡ true
    → new ≡ old ++ x ∷ [] → old ++ filter test (drop k xs) ≡ all → new ++ filter test (drop (k + 1) xs) ≡ all
kept_here {X} test xs old new all k x more is passes grown before =
    let rest : List X = filter test (drop (k + 1) xs) in
    ap (λ (front : List X). front ++ rest) grown
    ∙ append_assoc old (x ∷ []) rest
    ∙ ap (λ (b : Bool). old ++ cond b (x ∷ rest) rest) (sym passes)
    ∙ ap (λ (left : List X). old ++ filter test left) (sym (next_left xs k x more is))
    ∙ before

-- one that fails is left out
pub left_out : {X : Type 0} (test : X → Bool) (xs old all : List X) (k : ℕ) (x : X) → k < length xs → x ≡ get_or xs k x → test x ≡ false
    → old ++ filter test (drop k xs) ≡ all → old ++ filter test (drop (k + 1) xs) ≡ all
left_out {X} test xs old all k x more is fails before =
    let rest : List X = filter test (drop (k + 1) xs) in
    ap (λ (b : Bool). old ++ cond b (x ∷ rest) rest) (sym fails)
    ∙ ap (λ (left : List X). old ++ filter test left) (sym (next_left xs k x more is))
    ∙ before

-- where one passes, all do where those that are left do
pub passes_next : {X Y : Type 0} (test : Y → Bool) (f : X → Y) (xs : List X) (k : ℕ) (x : X) (all : Bool) → k < length xs → x ≡ get_or xs k x
    → test (f x) ≡ true → list_all test (map f (drop k xs)) ≡ all → list_all test (map f (drop (k + 1) xs)) ≡ all
passes_next {X} test f xs k x all more is passes before =
    let rest : Bool = list_all test (map f (drop (k + 1) xs)) in
    sym (ap (λ (b : Bool). b && rest) passes) ∙ sym (ap (λ (left : List X). list_all test (map f left)) (next_left xs k x more is)) ∙ before

-- where one fails, not all pass
pub fails_here : {X Y : Type 0} (test : Y → Bool) (f : X → Y) (xs : List X) (k : ℕ) (x : X) (all : Bool) → k < length xs → x ≡ get_or xs k x
    → test (f x) ≡ false → list_all test (map f (drop k xs)) ≡ all → false ≡ all
fails_here {X} test f xs k x all more is fails before =
    let rest : Bool = list_all test (map f (drop (k + 1) xs)) in
    sym (ap (λ (b : Bool). b && rest) fails) ∙ sym (ap (λ (left : List X). list_all test (map f left)) (next_left xs k x more is)) ∙ before
