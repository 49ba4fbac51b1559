-- The table of places grows name by name.
use Rattle.std.proofs.Common.{◌≡◌, ℕ, zero, suc, ◌+◌, ◌⊎◌, inl, inr, refl, sym, ap, subst, ◌∙◌, List, [], ◌∷◌, ◌++◌, length, slice_get, Some, arith}
use Rattle.std.proofs.lemmas.List.{append-nil, length-append, length-map, map-append}
use Rattle.name_table.specs.declared.names.NameId.{NameId}
use Rattle.name_table.specs.declared.names.Kind.{Kind}
use Rattle.name_table.specs.declared.names.Kind.TheVariants.{IntEntry, StrEntry, IntGlobal, StrGlobal}
use Rattle.bst_meaning.specs.Config.{Variable, opening_entry_variable, opening_global}
use Rattle.bst_meaning.specs.Invariant.{names_of}
use Rattle.bst_step.specs.declared.opening.Owner.{Owner}
use Rattle.bst_step.specs.declared.opening.Owner.TheVariants.{Style, Entry}
use Rattle.bst_step.specs.Opening.{opening_of}
use Rattle.bst_step.specs.Places.{StandAt}

get_front : {A : Type 0} (xs ys : List A) (i : ℕ) (x : A) → slice_get xs i ≡ Some x → slice_get (xs ++ ys) i ≡ Some x
get_front [] ys i x e = absurd (cc)
get_front (y ∷ xs) ys zero x e = e
get_front (y ∷ xs) ys (suc i) x e = get_front xs ys i x e

get_last : {A : Type 0} (xs : List A) (y : A) → slice_get (xs ++ y ∷ []) (length xs) ≡ Some y
get_last [] y = refl
get_last (x ∷ xs) y = get_last xs y

-- what a list with one item more has is in the list, or is that item
get_more : {A : Type 0} (xs : List A) (y : A) (i : ℕ) (x : A) → slice_get (xs ++ y ∷ []) i ≡ Some x
    → (slice_get xs i ≡ Some x) ⊎ ((i ≡ length xs) × (x ≡ y))
get_more [] y zero x e = let same : x ≡ y = cc in inr (refl, same)
get_more [] y (suc i) x e = absurd (cc)
get_more (z ∷ xs) y zero x e = inl e
get_more (z ∷ xs) y (suc i) x e = elim (get_more xs y i x e) [ inl h ↦ inl h | inr h ↦ inr (omega (arith, h.0), h.1) ]

-- a name that is no variable
pub longer_table : (places : List ℕ) (place : ℕ) (names : List NameId) → StandAt places names → StandAt (places ++ place ∷ []) names
longer_table places place names stand at name here = get_front places (place ∷ []) name.0 at (stand at name here)

-- a name that is the next variable
pub name_more : (places : List ℕ) (names : List NameId) (id : ℕ) → length places ≡ id → StandAt places names
    → StandAt (places ++ length names ∷ []) (names ++ record { 0 = id } ∷ [])
name_more places names id long stand at name here =
    elim (get_more names (record { 0 = id }) at name here) [
      | inl h ↦ longer_table places (length names) names stand at name h
      | inr h ↦
          let last : name.0 ≡ length places = ap (λ (n : NameId). n.0) h.1 ∙ sym long in
          ap (λ (k : ℕ). slice_get (places ++ length names ∷ []) k) last
          ∙ get_last places (length names)
          ∙ ap (λ (k : ℕ). Some k) (sym h.0)
    ]

-- one name is looked at, which is no variable or one
abbrev IsNone-or-next : ℕ → List Variable → Type 0
IsNone-or-next id more = (more ≡ []) ⊎ (names_of more ≡ record { 0 = id } ∷ [])

grown : (places : List ℕ) (id : ℕ) (before after more : List Variable) → length places ≡ id → StandAt places (names_of before)
    → after ++ [] ≡ before ++ more → IsNone-or-next id more → StandAt (places ++ length before ∷ []) (names_of after)
grown places id before after more long stand is (inl none) =
    let same : before ≡ after = sym (append-nil before) ∙ ap (λ (l : List Variable). before ++ l) (sym none) ∙ sym is ∙ append-nil after in
    subst (λ (l : List Variable). StandAt (places ++ length before ∷ []) (names_of l)) same (longer_table places (length before) (names_of before) stand)
grown places id before after more long stand is (inr next) =
    let same : names_of before ++ record { 0 = id } ∷ [] ≡ names_of after =
    ap (λ (l : List NameId). names_of before ++ l) (sym next)
    ∙ sym (map-append (λ (v : Variable). v.name) before more)
    ∙ ap (λ (l : List Variable). names_of l) (sym is ∙ append-nil after) in
    let count : length (names_of before) ≡ length before = length-map before (λ (v : Variable). v.name) in
    subst (λ (k : ℕ). StandAt (places ++ k ∷ []) (names_of after)) count
    (subst (λ (l : List NameId). StandAt (places ++ length (names_of before) ∷ []) l) same (name_more places (names_of before) id long stand))

one_global : (id : ℕ) (kind : Kind) → IsNone-or-next id (opening_global id kind [])
one_global id IntGlobal = inr refl
one_global id StrGlobal = inr refl
one_global id _ = inl refl

one_entry_variable : (id : ℕ) (kind : Kind) → IsNone-or-next id (opening_entry_variable id kind [])
one_entry_variable id IntEntry = inr refl
one_entry_variable id StrEntry = inr refl
one_entry_variable id _ = inl refl

-- the table has a place for each name that was looked at
pub one_more : (places more : List ℕ) (place id : ℕ) → more ≡ places ++ place ∷ [] → length places ≡ id → length more ≡ id + 1
one_more places more place id is long = ap (λ (l : List ℕ). length l) is ∙ length-append places (place ∷ []) ∙ ap (λ (n : ℕ). n + 1) long

-- of an owner's variables a name is one or none
one_variable : (owner : Owner) (id : ℕ) (kind : Kind) → IsNone-or-next id (opening_of owner id kind [])
one_variable Style id kind = one_global id kind
one_variable Entry id kind = one_entry_variable id kind

-- the table after a name of a kind
pub variable_stands : (owner : Owner) (places more : List ℕ) (place id : ℕ) (kind : Kind) (before after : List Variable) → more ≡ places ++ place ∷ []
    → place ≡ length before → length places ≡ id → StandAt places (names_of before)
    → ((later : List Variable) → after ++ later ≡ before ++ opening_of owner id kind later) → StandAt more (names_of after)
variable_stands owner places more place id kind before after is next long stand adds =
    subst (λ (l : List ℕ). StandAt l (names_of after)) (sym (is ∙ ap (λ (n : ℕ). places ++ n ∷ []) next))
    (grown places id before after (opening_of owner id kind []) long stand (adds []) (one_variable owner id kind))
