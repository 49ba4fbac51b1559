-- A list in order in which elements that tie keep their order is one list alone: the one that insertion gives.
use Rattle.std.proofs.Common.{◌≡◌, ℕ, suc, ◌<◌, ◌≤◌, refl, sym, ap, ◌∙◌, subst, Bool, true, false, cond, not, ◌&&◌, List, [], ◌∷◌, length, get_or, arith, inl, inr}
use Rattle.std.proofs.lemmas.Bool.{cases_Bool}
use Rattle.std.specs.List.{filter}
use Rattle.std.specs.List.Sorted.{ties, IsStableBy, IsSortedBy}
use Rattle.std.specs.Cmp.{IsStrictWeakOrder}
use Rattle.std.proofs.lemmas.List.Sorted.{sorted_far}

module _ {X : Type 0} (lt : X → X → Bool) (o : IsStrictWeakOrder lt) where
  -- no element is less than x
  abbrev NoneLess : X → List X → Type 0
  NoneLess x [] = Unit {0}
  NoneLess x (y ∷ ys) = (lt y x ≡ false) × NoneLess x ys

  abbrev Rising : List X → Type 0
  Rising [] = Unit {0}
  Rising (x ∷ xs) = NoneLess x xs × Rising xs

  -- before the first element that isn't less
  abbrev pub insert_by : X → List X → List X
  insert_by x [] = x ∷ []
  insert_by x (y ∷ ys) = cond (lt y x) (y ∷ insert_by x ys) (x ∷ y ∷ ys)

  abbrev pub sort_of : List X → List X
  sort_of [] = []
  sort_of (x ∷ xs) = insert_by x (sort_of xs)

  -- x isn't less than itself
  not_self : (x : X) (b : Bool) → lt x x ≡ b → b ≡ false
  not_self x true e = sym e ∙ o.one_way x x e
  not_self x false e = refl

  self_ties : (x : X) → ties lt x x ≡ true
  self_ties x = ap (λ (b : Bool). not b && not b) (not_self x (lt x x) refl)

  none_less_of : (x : X) (xs : List X) → ((k : ℕ) → k < length xs → lt (get_or xs k x) x ≡ false) → NoneLess x xs
  none_less_of x [] h = tt
  none_less_of x (y ∷ ys) h = (h 0 (omega arith), none_less_of x ys (λ k p. h (suc k) (omega arith)))

  rising_of : (xs : List X) → ((i j : ℕ) (d : X) → i ≤ j → j < length xs → lt (get_or xs j d) (get_or xs i d) ≡ false) → Rising xs
  rising_of [] h = tt
  rising_of (x ∷ xs) h = (none_less_of x xs (λ k p. h 0 (suc k) x (omega arith) (omega arith)), rising_of xs (λ i j d p q. h (suc i) (suc j) d (omega arith) (omega arith)))

  -- what isn't less than x isn't less than what x isn't greater than
  none_less_through : (x y : X) (xs : List X) → lt y x ≡ false → NoneLess y xs → NoneLess x xs
  none_less_through x y [] h n = tt
  none_less_through x y (z ∷ zs) h n = (o.chain z y x n.0 h, none_less_through x y zs h n.1)

  none_less_insert : (y x : X) (xs : List X) → lt x y ≡ false → NoneLess y xs → NoneLess y (insert_by x xs)
  none_less_insert y x [] h n = (h, tt)
  none_less_insert y x (z ∷ zs) h n =
      elim (lt z x) as (λ b. NoneLess y (cond b (z ∷ insert_by x zs) (x ∷ z ∷ zs))) [
        | true ↦ (n.0, none_less_insert y x zs h n.1)
        | false ↦ (h, n)
      ]

  rising_insert : (x : X) (xs : List X) → Rising xs → Rising (insert_by x xs)
  rising_insert x [] r = (tt, tt)
  rising_insert x (y ∷ ys) r =
      elim (cases_Bool (lt y x)) as (λ _. Rising (cond (lt y x) (y ∷ insert_by x ys) (x ∷ y ∷ ys))) [
        | inl h ↦ subst (λ b. Rising (cond b (y ∷ insert_by x ys) (x ∷ y ∷ ys))) (sym h) (none_less_insert y x ys (o.one_way y x h) r.0, rising_insert x ys r.1)
        | inr h ↦ subst (λ b. Rising (cond b (y ∷ insert_by x ys) (x ∷ y ∷ ys))) (sym h) ((h, none_less_through x y ys h r.0), r)
      ]

  pub rising_sort : (xs : List X) → Rising (sort_of xs)
  rising_sort [] = tt
  rising_sort (x ∷ xs) = rising_insert x (sort_of xs) (rising_sort xs)

  -- two neighbours of which one at least fails a test may be exchanged
  exchanged : (p : X → Bool) (x y : X) (l : List X) (a b : Bool) → (a ≡ true → b ≡ true → ⊥)
      → cond b (y ∷ cond a (x ∷ l) l) (cond a (x ∷ l) l) ≡ cond a (x ∷ cond b (y ∷ l) l) (cond b (y ∷ l) l)
  exchanged p x y l true true h = absurd (h refl refl)
  exchanged p x y l true false h = refl
  exchanged p x y l false true h = refl
  exchanged p x y l false false h = refl

  -- what ties with w can't be less than what does
  tie_parts : (a b : Bool) → not a && not b ≡ true → (a ≡ false) × (b ≡ false)
  tie_parts true b e = (cc, cc)
  tie_parts false true e = (cc, cc)
  tie_parts false false e = (refl, refl)

  not_both : (w x y : X) → lt y x ≡ true → ties lt w x ≡ true → ties lt w y ≡ true → ⊥
  not_both w x y h a b =
      let p : lt w x ≡ false = (tie_parts _ _ a).0 in
      let q : lt y w ≡ false = (tie_parts _ _ b).1 in
      let r : lt y x ≡ false = o.chain y w x q p in
      cc

  stable_insert : (w x : X) (xs : List X) → filter (ties lt w) (insert_by x xs) ≡ filter (ties lt w) (x ∷ xs)
  stable_insert w x [] = refl
  stable_insert w x (y ∷ ys) =
      elim (cases_Bool (lt y x)) as (λ _. filter (ties lt w) (cond (lt y x) (y ∷ insert_by x ys) (x ∷ y ∷ ys)) ≡ filter (ties lt w) (x ∷ y ∷ ys)) [
        | inl h ↦ ap (λ b. filter (ties lt w) (cond b (y ∷ insert_by x ys) (x ∷ y ∷ ys))) h
            ∙ ap (λ l. cond (ties lt w y) (y ∷ l) l) (stable_insert w x ys)
            ∙ exchanged (ties lt w) x y (filter (ties lt w) ys) (ties lt w x) (ties lt w y) (not_both w x y h)
        | inr h ↦ ap (λ b. filter (ties lt w) (cond b (y ∷ insert_by x ys) (x ∷ y ∷ ys))) h
      ]

  pub stable_sort : (w : X) (xs : List X) → filter (ties lt w) (sort_of xs) ≡ filter (ties lt w) xs
  stable_sort w [] = refl
  stable_sort w (x ∷ xs) = stable_insert w x (sort_of xs) ∙ ap (λ l. cond (ties lt w x) (x ∷ l) l) (stable_sort w xs)

  -- the first of what passes a test isn't less than what no element is less than
  first_passes : (p : X → Bool) (z y : X) (rest zs : List X) → filter p zs ≡ y ∷ rest → NoneLess z zs → lt y z ≡ false
  first_passes p z y rest [] e n = absurd (cc)
  first_passes p z y rest (w ∷ ws) e n =
      elim (cases_Bool (p w)) as (λ _. lt y z ≡ false) [
        | inl h ↦ let first : w ∷ filter p ws ≡ y ∷ rest = sym (ap (λ b. cond b (w ∷ filter p ws) (filter p ws)) h) ∙ e in
            let same : w ≡ y = cc in ap (λ v. lt v z) (sym same) ∙ n.0
        | inr h ↦ first_passes p z y rest ws (sym (ap (λ b. cond b (w ∷ filter p ws) (filter p ws)) h) ∙ e) n.1
      ]

  -- the same list but for its first element, where a test gives the same
  tails : (p : X → Bool) (y z : X) (ys zs : List X) (b : Bool) → y ≡ z → cond b (y ∷ filter p ys) (filter p ys) ≡ cond b (z ∷ filter p zs) (filter p zs)
      → filter p ys ≡ filter p zs
  tails p y z ys zs true s e = cc
  tails p y z ys zs false s e = e

  tie_of : (a b : Bool) → a ≡ false → b ≡ false → not a && not b ≡ true
  tie_of a b p q = ap (λ v. not v && not b) p ∙ ap (λ v. not v) q

  -- the first elements of two lists tie, where each has what ties with the other's first
  firsts_tie : (y z : X) (ys zs : List X) → Rising (y ∷ ys) → Rising (z ∷ zs)
      → ((w : X) → filter (ties lt w) (y ∷ ys) ≡ filter (ties lt w) (z ∷ zs)) → ties lt y z ≡ true
  firsts_tie y z ys zs a b same =
      let own : filter (ties lt y) (y ∷ ys) ≡ y ∷ filter (ties lt y) ys = ap (λ v. cond v (y ∷ filter (ties lt y) ys) (filter (ties lt y) ys)) (self_ties y) in
      let other : filter (ties lt z) (z ∷ zs) ≡ z ∷ filter (ties lt z) zs = ap (λ v. cond v (z ∷ filter (ties lt z) zs) (filter (ties lt z) zs)) (self_ties z) in
      let low : lt y z ≡ false = first_passes (ties lt y) z y (filter (ties lt y) ys) (z ∷ zs) (sym (same y) ∙ own) (not_self z (lt z z) refl, b.0) in
      let high : lt z y ≡ false = first_passes (ties lt z) y z (filter (ties lt z) zs) (y ∷ ys) (same z ∙ other) (not_self y (lt y y) refl, a.0) in
      tie_of (lt y z) (lt z y) low high

  pub unique : (ys zs : List X) → Rising ys → Rising zs → ((w : X) → filter (ties lt w) ys ≡ filter (ties lt w) zs) → ys ≡ zs
  unique [] [] a b same = refl
  unique [] (z ∷ zs) a b same =
      let other : filter (ties lt z) (z ∷ zs) ≡ z ∷ filter (ties lt z) zs = ap (λ v. cond v (z ∷ filter (ties lt z) zs) (filter (ties lt z) zs)) (self_ties z) in
      let none : [] ≡ z ∷ filter (ties lt z) zs = same z ∙ other in
      absurd (cc)
  unique (y ∷ ys) [] a b same =
      let own : filter (ties lt y) (y ∷ ys) ≡ y ∷ filter (ties lt y) ys = ap (λ v. cond v (y ∷ filter (ties lt y) ys) (filter (ties lt y) ys)) (self_ties y) in
      let none : y ∷ filter (ties lt y) ys ≡ [] = sym own ∙ same y in
      absurd (cc)
  unique (y ∷ ys) (z ∷ zs) a b same =
      let tie : ties lt y z ≡ true = firsts_tie y z ys zs a b same in
      let own : filter (ties lt y) (y ∷ ys) ≡ y ∷ filter (ties lt y) ys = ap (λ v. cond v (y ∷ filter (ties lt y) ys) (filter (ties lt y) ys)) (self_ties y) in
      let other : filter (ties lt y) (z ∷ zs) ≡ z ∷ filter (ties lt y) zs = ap (λ v. cond v (z ∷ filter (ties lt y) zs) (filter (ties lt y) zs)) tie in
      let both : y ∷ filter (ties lt y) ys ≡ z ∷ filter (ties lt y) zs = sym own ∙ same y ∙ other in
      let first : y ≡ z = cc in
      let rest : ys ≡ zs = unique ys zs a.1 b.1 (λ w. tails (ties lt w) y z ys zs (ties lt w y) first
      (same w ∙ ap (λ v. cond (ties lt w v) (z ∷ filter (ties lt w) zs) (filter (ties lt w) zs)) (sym first))) in
      cc

  -- what a stable sort gives
  pub sorted_stable : (xs ys : List X) → IsSortedBy lt ys → IsStableBy lt xs ys → ys ≡ sort_of xs
  sorted_stable xs ys up stays =
      unique ys (sort_of xs) (rising_of ys (sorted_far lt o ys up)) (rising_sort xs) (λ w. stays w ∙ sym (stable_sort w xs))
