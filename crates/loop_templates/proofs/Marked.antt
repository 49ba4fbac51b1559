-- Marks of the items of a list, one after the other.
use Rattle.std.proofs.Common.{◌≡◌, ℕ, zero, suc, ◌+◌, ◌<◌, ◌≤◌, Bool, ◌&&◌, List, [], ◌∷◌, ◌++◌, length, map, take, drop, get_or, set, ap, sym, ◌∙◌, refl, add-one, arith}
use Rattle.std.specs.List.{list_all}
use Rattle.std.proofs.lemmas.List.{append-nil, drop_all, length-map, set-get_or, take_all}
use Rattle.std.proofs.lemmas.List.Folds.{list_all-map, list_all_more}

-- images that are the same each are the same together
pub same_images : {X Y : Type 0} (f g : X → Y) (xs : List X) → ((x : X) → f x ≡ g x) → map f xs ≡ map g xs
same_images f g [] same = refl
same_images {X} {Y} f g (x ∷ xs) same = ap (λ (y : Y). y ∷ map f xs) (same x) ∙ ap (λ (ys : List Y). g x ∷ ys) (same_images f g xs same)

-- lists of as many images
pub as_many : {X Y Z : Type 0} (f : X → Y) (g : X → Z) (xs : List X) (ys : List Y) (zs : List Z) → ys ≡ map f xs → zs ≡ map g xs → length ys ≡ length zs
as_many f g xs ys zs is also = ap length is ∙ length-map xs f ∙ sym (ap length also ∙ length-map xs g)

mark_at : {X Y : Type 0} (f g : X → Y) (xs : List X) (k : ℕ) (x : X) → k < length xs
    → set (map f (take k xs) ++ map g (drop k xs)) k (f (get_or xs k x)) ≡ map f (take (suc k) xs) ++ map g (drop (suc k) xs)
mark_at f g [] k x more = absurd (omega (arith, more))
mark_at f g (y ∷ xs) zero x more = refl
mark_at {X} {Y} f g (y ∷ xs) (suc k) x more = ap (λ (ys : List Y). f y ∷ ys) (mark_at f g xs k x (omega (arith, more)))

-- one mark more is new
pub next_marked : {X Y : Type 0} (f g : X → Y) (xs : List X) (old : List Y) (k : ℕ) (x : X) (y : Y) → k < length xs → x ≡ get_or xs k x → y ≡ f x
    → old ≡ map f (take k xs) ++ map g (drop k xs) → set old k y ≡ map f (take (k + 1) xs) ++ map g (drop (k + 1) xs)
next_marked {X} {Y} f g xs old k x y more is made before =
    ap (λ (them : List Y). set them k y) before
    ∙ ap (λ (it : Y). set (map f (take k xs) ++ map g (drop k xs)) k it) (made ∙ ap f is)
    ∙ mark_at f g xs k x more
    ∙ ap (λ (n : ℕ). map f (take n xs) ++ map g (drop n xs)) (sym (add-one k))

old_at : {X Y : Type 0} (f g : X → Y) (xs : List X) (k : ℕ) (x : X) (d : Y) → k < length xs
    → get_or (map f (take k xs) ++ map g (drop k xs)) k d ≡ g (get_or xs k x)
old_at f g [] k x d more = absurd (omega (arith, more))
old_at f g (y ∷ xs) zero x d more = refl
old_at f g (y ∷ xs) (suc k) x d more = old_at f g xs k x d (omega (arith, more))

-- the mark that is next is an old one
pub next_mark : {X Y : Type 0} (f g : X → Y) (xs : List X) (old : List Y) (k : ℕ) (x : X) (d : Y) → k < length xs → x ≡ get_or xs k x
    → old ≡ map f (take k xs) ++ map g (drop k xs) → get_or old k d ≡ g x
next_mark {X} {Y} f g xs old k x d more is before =
    ap (λ (them : List Y). get_or them k d) before ∙ old_at f g xs k x d more ∙ sym (ap g is)

-- where none is left, all marks are new
pub all_new : {X Y : Type 0} (f g : X → Y) (xs : List X) (k : ℕ) → length xs ≤ k → map f (take k xs) ++ map g (drop k xs) ≡ map f xs
all_new {X} {Y} f g xs k done =
    ap (λ (left : List X). map f (take k xs) ++ map g left) (drop_all k xs done)
    ∙ append-nil (map f (take k xs))
    ∙ ap (λ (them : List X). map f them) (take_all k xs done)

-- those that passed so far, and the next one
pub passes_more : {X Y : Type 0} (test : Y → Bool) (f : X → Y) (xs : List X) (k : ℕ) (x : X) → k < length xs → x ≡ get_or xs k x
    → (list_all test (map f (take k xs)) && test (f x)) ≡ list_all test (map f (take (k + 1) xs))
passes_more {X} test f xs k x more is =
    ap (λ (b : Bool). b && test (f x)) (list_all-map test f (take k xs))
    ∙ ap (λ (y : X). list_all (λ z. test (f z)) (take k xs) && test (f y)) is
    ∙ sym (list_all_more (λ z. test (f z)) xs k x more)
    ∙ sym (list_all-map test f (take (k + 1) xs))

-- what is written back is all
pub written_back : {X : Type 0} (n : ℕ) (new old : List X) → length new ≡ length old → n ≡ length old → take n (new ++ drop (length new) old) ≡ new
written_back n [] [] same all = ap (λ (k : ℕ). take k []) all
written_back n [] (y ∷ old) same all = absurd (omega (arith, same))
written_back n (x ∷ new) [] same all = absurd (omega (arith, same))
written_back zero (x ∷ new) (y ∷ old) same all = absurd (omega (arith, all))
written_back {X} (suc n) (x ∷ new) (y ∷ old) same all =
    ap (λ (rest : List X). x ∷ rest) (written_back n new old (omega (arith, same)) (omega (arith, all)))

-- an item that is put back as it was
pub put_back : {X : Type 0} (xs : List X) (k : ℕ) (x new : X) → new ≡ get_or xs k x → set xs k new ≡ xs
put_back {X} xs k x new stays = ap (λ (it : X). set xs k it) stays ∙ set-get_or xs k x
