-- Texts under numbers.
use Rattle.std.proofs.Common.{◌≡◌, ℕ, zero, suc, ◌+◌, ◌-◌, ◌<◌, ◌≤◌, arith, refl, sym, ap, ◌∙◌, List, [], ◌∷◌, ◌++◌, drop, get_or, length, take, Option, None, Some}
use Rattle.std.proofs.lemmas.List.{append_assoc, length-take}
use Rattle.entry_store.specs.NumberedTexts.{Numbered, no_text, numbered, text_under, under_places}
use Rattle.entry_store.proofs.Naming.{first_is, first_is_beyond, first_is_below}

-- there are as many as numbers
pub as_many : (numbers : List ℕ) (texts : List (Option (List ℕ))) → length numbers ≡ length texts → length (numbered numbers texts) ≡ length numbers
as_many [] texts same = refl
as_many (number ∷ numbers) [] same = absurd (omega (arith, same))
as_many (number ∷ numbers) (text ∷ texts) same = ap suc (as_many numbers texts (omega (arith, same)))

-- the text at a place
pub text_read : (numbers : List ℕ) (texts : List (Option (List ℕ))) (i : ℕ) → length numbers ≡ length texts
    → get_or texts i None ≡ (get_or (numbered numbers texts) i no_text).text
text_read [] [] i same = refl
text_read [] (text ∷ texts) i same = absurd (omega (arith, same))
text_read (number ∷ numbers) [] i same = absurd (omega (arith, same))
text_read (number ∷ numbers) (text ∷ texts) zero same = refl
text_read (number ∷ numbers) (text ∷ texts) (suc i) same = text_read numbers texts i (omega (arith, same))

-- one more
pub one_more : (numbers : List ℕ) (texts : List (Option (List ℕ))) (number : ℕ) (text : Option (List ℕ)) → length numbers ≡ length texts
    → numbered (numbers ++ number ∷ []) (texts ++ text ∷ []) ≡ numbered numbers texts ++ record { number = number; text = text } ∷ []
one_more [] [] number text same = refl
one_more [] (first ∷ texts) number text same = absurd (omega (arith, same))
one_more (first ∷ numbers) [] number text same = absurd (omega (arith, same))
one_more (first ∷ numbers) (one ∷ texts) number text same =
    ap (λ (l : List Numbered). record { number = first; text = one } ∷ l) (one_more numbers texts number text (omega (arith, same)))

pub pushed : (numbers later : List ℕ) (texts others : List (Option (List ℕ))) (number : ℕ) (text : Option (List ℕ)) (seen : List Numbered)
    → length numbers ≡ length texts → numbered numbers texts ≡ seen → later ≡ numbers ++ number ∷ [] → others ≡ texts ++ text ∷ []
    → numbered later others ≡ seen ++ record { number = number; text = text } ∷ []
pushed numbers later texts others number text seen same view is here =
    ap (λ (l : List ℕ). numbered l others) is
    ∙ ap (λ (l : List (Option (List ℕ))). numbered (numbers ++ number ∷ []) l) here
    ∙ one_more numbers texts number text same
    ∙ ap (λ (l : List Numbered). l ++ record { number = number; text = text } ∷ []) view

-- what stands from a place on begins with the text at that place
begins : (numbers : List ℕ) (texts : List (Option (List ℕ))) (i : ℕ) → length numbers ≡ length texts → i < length numbers
    → drop i (numbered numbers texts) ≡ record { number = get_or numbers i 0; text = get_or texts i None } ∷ drop (suc i) (numbered numbers texts)
begins [] texts i same within = absurd (omega (arith, within))
begins (number ∷ numbers) [] i same within = absurd (omega (arith, same))
begins (number ∷ numbers) (text ∷ texts) zero same within = refl
begins (number ∷ numbers) (text ∷ texts) (suc i) same within = begins numbers texts i (omega (arith, same)) (omega (arith, within))

-- so does a part
part_begins : (numbers : List ℕ) (texts : List (Option (List ℕ))) (i end : ℕ) → length numbers ≡ length texts → end ≤ length numbers → i < end
    → take (end - i) (drop i (numbered numbers texts))
    ≡ record { number = get_or numbers i 0; text = get_or texts i None } ∷ take (end - suc i) (drop (suc i) (numbered numbers texts))
part_begins numbers texts i end same within less =
    let more : end - i ≡ suc (end - suc i) = omega (arith, less) in
    ap (λ (n : ℕ). take n (drop i (numbered numbers texts))) more
    ∙ ap (λ (l : List Numbered). take (suc (end - suc i)) l) (begins numbers texts i same (omega (arith, within, less)))

-- the text at a place decides, as its number is
pub found : (numbers : List ℕ) (texts : List (Option (List ℕ))) (number i end : ℕ) → length numbers ≡ length texts → end ≤ length numbers → i < end
    → get_or numbers i 0 ≡ number → text_under number (take (end - i) (drop i (numbered numbers texts))) ≡ get_or texts i None
found numbers texts number i end same within less is =
    let text : Option (List ℕ) = get_or texts i None in
    let more : List Numbered = take (end - suc i) (drop (suc i) (numbered numbers texts)) in
    ap (λ (l : List Numbered). text_under number l) (part_begins numbers texts i end same within less)
    ∙ ap (λ (n : ℕ). text_under number (record { number = n; text = text } ∷ more)) is
    ∙ first_is number text more

pub beyond : (numbers : List ℕ) (texts : List (Option (List ℕ))) (number i end : ℕ) → length numbers ≡ length texts → end ≤ length numbers → i < end
    → number < get_or numbers i 0 → text_under number (take (end - i) (drop i (numbered numbers texts))) ≡ None
beyond numbers texts number i end same within less is =
    ap (λ (l : List Numbered). text_under number l) (part_begins numbers texts i end same within less)
    ∙ first_is_beyond number (get_or numbers i 0) (get_or texts i None) (take (end - suc i) (drop (suc i) (numbered numbers texts))) is

pub below : (numbers : List ℕ) (texts : List (Option (List ℕ))) (number i end : ℕ) → length numbers ≡ length texts → end ≤ length numbers → i < end
    → get_or numbers i 0 < number
    → text_under number (take (end - i) (drop i (numbered numbers texts))) ≡ text_under number (take (end - suc i) (drop (suc i) (numbered numbers texts)))
below numbers texts number i end same within less is =
    ap (λ (l : List Numbered). text_under number l) (part_begins numbers texts i end same within less)
    ∙ first_is_below number (get_or numbers i 0) (get_or texts i None) (take (end - suc i) (drop (suc i) (numbered numbers texts))) is

-- a part that is cut where the list ends
pub cut_at_end : {X : Type 0} (l : List X) (from count end : ℕ) → end ≤ length l → end ≤ from + count → (end < length l → end ≡ from + count)
    → take (end - from) (drop from l) ≡ take count (drop from l)
cut_at_end l from count end within most least = parts l from count end within most least
  where
    front : {X : Type 0} (l : List X) (count end : ℕ) → end ≤ length l → end ≤ count → (end < length l → end ≡ count) → take end l ≡ take count l
    front [] zero zero within most least = refl
    front [] (suc count) zero within most least = refl
    front [] count (suc end) within most least = absurd (omega (arith, within))
    front (x ∷ l) zero zero within most least = refl
    front (x ∷ l) (suc count) zero within most least = absurd (omega (arith, least (omega arith)))
    front (x ∷ l) zero (suc end) within most least = absurd (omega (arith, most))
    front (x ∷ l) (suc count) (suc end) within most least =
        ap (λ (xs : List _). x ∷ xs) (front l count end (omega (arith, within)) (omega (arith, most)) (λ less. omega (arith, least (omega (arith, less)))))

    none : {X : Type 0} (m n : ℕ) → take {A = X} m [] ≡ take n []
    none zero zero = refl
    none zero (suc n) = refl
    none (suc m) zero = refl
    none (suc m) (suc n) = refl

    parts : {X : Type 0} (l : List X) (from count end : ℕ) → end ≤ length l → end ≤ from + count → (end < length l → end ≡ from + count)
        → take (end - from) (drop from l) ≡ take count (drop from l)
    parts l zero count end within most least =
        let none : end - zero ≡ end = omega arith in
        ap (λ (n : ℕ). take n l) none ∙ front l count end within (omega (arith, most)) (λ less. omega (arith, least less))
    parts [] (suc from) count zero within most least = none (zero - suc from) count
    parts [] (suc from) count (suc end) within most least = absurd (omega (arith, within))
    parts (x ∷ l) (suc from) count zero within most least = absurd (omega (arith, least (omega arith)))
    parts (x ∷ l) (suc from) count (suc end) within most least =
        let less : suc end - suc from ≡ end - from = omega arith in
        ap (λ (n : ℕ). take n (drop from l)) less
        ∙ parts l from count end (omega (arith, within)) (omega (arith, most)) (λ less. omega (arith, least (omega (arith, less))))

-- values and one more
pub value_more : (place : ℕ) (values : List (Option (List ℕ))) (value : Option (List ℕ))
    → under_places place (values ++ value ∷ []) ≡ under_places place values ++ under_places (place + length values) (value ∷ [])
value_more place [] value =
    let same : place ≡ place + zero = omega arith in
    ap (λ (n : ℕ). under_places n (value ∷ [])) same
value_more place (None ∷ values) value =
    let same : suc place + length values ≡ place + suc (length values) = omega arith in
    value_more (suc place) values value
    ∙ ap (λ (n : ℕ). under_places (suc place) values ++ under_places n (value ∷ [])) same
value_more place (Some first ∷ values) value =
    let same : suc place + length values ≡ place + suc (length values) = omega arith in
    ap (λ (l : List Numbered). record { number = place; text = Some first } ∷ l)
    (value_more (suc place) values value
    ∙ ap (λ (n : ℕ). under_places (suc place) values ++ under_places n (value ∷ [])) same)

-- the values up to a place and the one at it
pub values_more : (initial texts later : List Numbered) (values : List (Option (List ℕ))) (value : Option (List ℕ)) (i : ℕ)
    → texts ≡ initial ++ under_places 0 (take i values) → later ≡ texts ++ under_places i (value ∷ []) → i < length values
    → value ≡ get_or values i None → later ≡ initial ++ under_places 0 (take (i + 1) values)
values_more initial texts later values value i so_far is within here =
    let front : List (Option (List ℕ)) = take i values in
    let next : suc i ≡ i + 1 = omega arith in
    let place : i ≡ 0 + length front = omega (arith, within, length-take i values) in
    is
    ∙ ap (λ (l : List Numbered). l ++ under_places i (value ∷ [])) so_far
    ∙ append_assoc initial (under_places 0 front) (under_places i (value ∷ []))
    ∙ ap (λ (n : ℕ). initial ++ (under_places 0 front ++ under_places n (value ∷ []))) place
    ∙ ap (λ (l : List Numbered). initial ++ l) (sym (value_more 0 front value))
    ∙ ap (λ (v : Option (List ℕ)). initial ++ under_places 0 (front ++ v ∷ [])) here
    ∙ ap (λ (l : List (Option (List ℕ))). initial ++ under_places 0 l) (sym (taken values i within))
    ∙ ap (λ (n : ℕ). initial ++ under_places 0 (take n values)) next
  where
    taken : (values : List (Option (List ℕ))) (i : ℕ) → i < length values → take (suc i) values ≡ take i values ++ get_or values i None ∷ []
    taken [] i within = absurd (omega (arith, within))
    taken (value ∷ values) zero within = refl
    taken (value ∷ values) (suc i) within = ap (λ (l : List (Option (List ℕ))). value ∷ l) (taken values i (omega (arith, within)))
