-- Rows that are kept of a list, one after the other, as long as there is room.
use Rattle.std.proofs.Common.{◌≡◌, ℕ, ◌+◌, ◌<◌, ◌≤◌, Bool, true, false, cond, List, [], ◌∷◌, ◌++◌, length, map, flat_map, get_or, take, drop, ap, sym, ◌∙◌, add-one, arith}
use Rattle.std.specs.List.{filter}
use Rattle.std.proofs.Math.Seq.{drop-cons}
use Rattle.std.proofs.lemmas.List.{append-nil, drop_all, length-append}
use Rattle.std.proofs.lemmas.List.Elements.{filter-append}
use Rattle.loop_templates.proofs.OneByOne.{next_left}
use Rattle.loop_templates.proofs.Taken.{take_full, take_more, take_room}

-- what is left is the next one and what is left then
pub next_at : {X : Type 0} (xs : List X) (k : ℕ) (d : X) → k < length xs → drop k xs ≡ get_or xs k d ∷ drop (k + 1) xs
next_at {X} xs k d more = drop-cons xs k d more ∙ ap (λ (n : ℕ). get_or xs k d ∷ drop n xs) (sym (add-one k))

-- of those so far, of one and of those that are left
pub kept_next : {X Y : Type 0} (test : Y → Bool) (f : X → Y) (n k : ℕ) (xs : List X) (x : X) (old new all : List Y)
    → k < length xs → x ≡ get_or xs k x → new ≡ take n (old ++ filter test (f x ∷ []))
    → take n (old ++ filter test (map f (drop k xs))) ≡ all → take n (new ++ filter test (map f (drop (k + 1) xs))) ≡ all
kept_next {X} {Y} test f n k xs x old new all more is added before =
    let rest : List Y = map f (drop (k + 1) xs) in
    take_more n old (filter test (f x ∷ [])) (filter test rest) all new (filter test (map f (drop k xs))) added
    (ap (λ (left : List X). filter test (map f left)) (next_left xs k x more is) ∙ filter-append test (f x ∷ []) rest) before

-- of those so far, of those that one gives and of those that the ones that are left give
pub gathered_next : {X Y : Type 0} (test : Y → Bool) (f : X → List Y) (n k : ℕ) (xs : List X) (x : X) (found old new all : List Y)
    → k < length xs → x ≡ get_or xs k x → found ≡ f x → new ≡ take n (old ++ filter test found)
    → take n (old ++ filter test (flat_map f (drop k xs))) ≡ all → take n (new ++ filter test (flat_map f (drop (k + 1) xs))) ≡ all
gathered_next {X} {Y} test f n k xs x found old new all more is said added before =
    let rest : List Y = flat_map f (drop (k + 1) xs) in
    take_more n old (filter test (f x)) (filter test rest) all new (filter test (flat_map f (drop k xs)))
    (added ∙ ap (λ (here : List Y). take n (old ++ filter test here)) said)
    (ap (λ (left : List X). filter test (flat_map f left)) (next_left xs k x more is) ∙ filter-append test (f x) rest) before

-- where none is left, those so far are all
pub kept_all : {X Y : Type 0} (test : Y → Bool) (f : List X → List Y) (n k : ℕ) (xs : List X) (old all : List Y)
    → length xs ≤ k → length old ≤ n → filter test (f []) ≡ [] → take n (old ++ filter test (f (drop k xs))) ≡ all → old ≡ all
kept_all {X} {Y} test f n k xs old all done few none before =
    sym (take_room n old few)
    ∙ ap (λ (rows : List Y). take n rows)
    (sym (append-nil old)
    ∙ ap (λ (rest : List Y). old ++ rest) (sym none ∙ ap (λ (left : List X). filter test (f left)) (sym (drop_all k xs done))))
    ∙ before

-- where there is no room left, those so far are all
pub kept_full : {X : Type 0} (n : ℕ) (old rest all : List X) → n ≤ length old → length old ≤ n → take n (old ++ rest) ≡ all → old ≡ all
kept_full n old rest all full few before = sym (take_full n old rest full few) ∙ before

-- one more, where there is room: it is kept where it passes
pub one_kept : {X : Type 0} (test : X → Bool) (n : ℕ) (x : X) (old new : List X) → length old < n → test x ≡ true → new ≡ old ++ (x ∷ [])
    → new ≡ take n (old ++ filter test (x ∷ []))
one_kept {X} test n x old new room passes added =
    let more = length-append old (x ∷ []) in
    added ∙ sym (take_room n (old ++ (x ∷ [])) (omega (arith, room, more)))
    ∙ ap (λ (b : Bool). take n (old ++ cond b (x ∷ []) [])) (sym passes)

pub one_passed : {X : Type 0} (test : X → Bool) (n : ℕ) (x : X) (old : List X) → length old ≤ n → test x ≡ false → old ≡ take n (old ++ filter test (x ∷ []))
one_passed {X} test n x old few fails =
    sym (take_room n old few) ∙ ap (λ (l : List X). take n l) (sym (append-nil old)) ∙ ap (λ (b : Bool). take n (old ++ cond b (x ∷ []) [])) (sym fails)
