-- Lists of which each item has a property, with one more item or one item changed.
use Rattle.std.proofs.Common.{◌≡◌, ℕ, zero, suc, ◌<◌, List, [], ◌∷◌, ◌++◌, Some, length, map, slice_get, refl, ap, arith}
use Rattle.std.specs.Option.{option_map}
use Rattle.name_table.specs.Sound.{Each}
use Rattle.bst_parse.specs.Bodies.{changed_at}

pub each_push : {X : Type 0} (P : X → Type 0) (xs : List X) (y : X) → Each P xs → P y → Each P (xs ++ y ∷ [])
each_push P [] y h p = (p, tt)
each_push P (x ∷ xs) y h p = (h.0, each_push P xs y h.1 p)

pub each_more : {X : Type 0} (P Q : X → Type 0) → ((x : X) → P x → Q x) → (xs : List X) → Each P xs → Each Q xs
each_more P Q f [] h = tt
each_more P Q f (x ∷ xs) h = (f x h.0, each_more P Q f xs h.1)

pub each_changed : {X : Type 0} (P : X → Type 0) (f : X → X) → ((x : X) → P x → P (f x)) → (k : ℕ) (xs : List X)
    → Each P xs → Each P (changed_at k f xs)
each_changed P f keeps zero [] h = tt
each_changed P f keeps (suc k) [] h = tt
each_changed P f keeps zero (x ∷ xs) h = (keeps x h.0, h.1)
each_changed P f keeps (suc k) (x ∷ xs) h = (h.0, each_changed P f keeps k xs h.1)

pub get-front : {X : Type 0} (xs : List X) (y : X) (k : ℕ) → k < length xs → slice_get (xs ++ y ∷ []) k ≡ slice_get xs k
get-front [] y k h = absurd (omega arith)
get-front (x ∷ xs) y zero h = refl
get-front (x ∷ xs) y (suc k) h = get-front xs y k (omega arith)

pub get-last : {X : Type 0} (xs : List X) (y : X) → slice_get (xs ++ y ∷ []) (length xs) ≡ Some y
get-last [] y = refl
get-last (x ∷ xs) y = get-last xs y

-- what is seen of an item that is there shows that it is there
pub mapped_within : {X Y : Type 0} (f : X → Y) (xs : List X) (k : ℕ) (v : Y) → option_map f (slice_get xs k) ≡ Some v → k < length xs
mapped_within f [] zero v e = absurd (cc)
mapped_within f [] (suc k) v e = absurd (cc)
mapped_within f (x ∷ xs) zero v e = omega arith
mapped_within f (x ∷ xs) (suc k) v e = let h = mapped_within f xs k v e in omega arith

-- what a change leaves is seen at each place
pub get-changed : {X Y : Type 0} (b : X → Y) (f : X → X) → ((x : X) → b (f x) ≡ b x) → (k : ℕ) (xs : List X) (i : ℕ)
    → option_map b (slice_get (changed_at k f xs) i) ≡ option_map b (slice_get xs i)
get-changed b f same zero [] i = refl
get-changed b f same (suc k) [] i = refl
get-changed b f same zero (x ∷ xs) zero = ap (λ y. Some y) (same x)
get-changed b f same zero (x ∷ xs) (suc i) = refl
get-changed b f same (suc k) (x ∷ xs) zero = refl
get-changed b f same (suc k) (x ∷ xs) (suc i) = get-changed b f same k xs i

pub map-changed : {X Y : Type 0} (b : X → Y) (f : X → X) → ((x : X) → b (f x) ≡ b x) → (k : ℕ) (xs : List X)
    → map b (changed_at k f xs) ≡ map b xs
map-changed b f same zero [] = refl
map-changed b f same (suc k) [] = refl
map-changed b f same zero (x ∷ xs) = ap (λ y. y ∷ map b xs) (same x)
map-changed b f same (suc k) (x ∷ xs) = ap (λ l. b x ∷ l) (map-changed b f same k xs)
