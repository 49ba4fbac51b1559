-- Variables with a new value, and lists with another element.
use Rattle.std.proofs.Common.{◌≡◌, ℕ, zero, suc, Bool, true, false, cond, nat_eq, List, [], ◌∷◌, map, length, Option, Some, refl, sym, ap, ◌∙◌, arith}
use Rattle.std.proofs.Math.ListN.{set}
use Rattle.std.specs.Prelude.{slice_get}
use Rattle.std.proofs.lemmas.Bool.{eq-eqb}
use Rattle.std.proofs.lemmas.Bool.Decides.{nat_tests}
use Rattle.bst_meaning.specs.declared.value.Value.{Value}
use Rattle.bst_meaning.specs.Config.{Variable}
use Rattle.bst_meaning.specs.Machine.{value_at, with_variable}

-- the value of a variable after an assignment to it, and to another
pub variable_new : (new : Variable) (variables : List Variable) (old : Value) → value_at new.name.0 variables ≡ Some old
    → value_at new.name.0 (with_variable new variables) ≡ Some new.value
variable_new new [] old e = absurd (cc)
variable_new new (first ∷ variables) old e =
    let id : ℕ = new.name.0 in
    elim (nat_eq first.name.0 id) as (λ (t : Bool). nat_eq first.name.0 id ≡ t → cond t (Some first.value) (value_at id variables) ≡ Some old
    → value_at id (cond t (new ∷ variables) (first ∷ with_variable new variables)) ≡ Some new.value) [
      | true ↦ λ is found. ap (λ (t : Bool). cond t (Some new.value) (value_at id variables)) (eq-eqb id id refl)
      | false ↦ λ is found.
          ap (λ (t : Bool). cond t (Some first.value) (value_at id (with_variable new variables))) is ∙ variable_new new variables old found
    ] refl e

differs : (a b c : ℕ) → nat_eq a b ≡ true → nat_eq c b ≡ false → nat_eq a c ≡ false
differs a b c same other = grind (arith, nat_tests)

turned : (a b : ℕ) → nat_eq a b ≡ false → nat_eq b a ≡ false
turned a b e = grind (arith, nat_tests)

pub variable_kept : (new : Variable) (id : ℕ) (variables : List Variable) → nat_eq id new.name.0 ≡ false
    → value_at id (with_variable new variables) ≡ value_at id variables
variable_kept new id [] e = refl
variable_kept new id (first ∷ variables) e =
    let rest : Option Value = value_at id variables in
    elim (nat_eq first.name.0 new.name.0) as (λ (t : Bool). nat_eq first.name.0 new.name.0 ≡ t
    → value_at id (cond t (new ∷ variables) (first ∷ with_variable new variables)) ≡ value_at id (first ∷ variables)) [
      | true ↦ λ is.
          ap (λ (t : Bool). cond t (Some new.value) rest) (turned id new.name.0 e)
          ∙ sym (ap (λ (t : Bool). cond t (Some first.value) rest) (differs first.name.0 new.name.0 id is e))
      | false ↦ λ is. ap (λ (o : Option Value). cond (nat_eq first.name.0 id) (Some first.value) o) (variable_kept new id variables e)
    ] refl

-- an element of a list is replaced
pub set_element : {X : Type 0} (xs : List X) (i : ℕ) (x y : X) → slice_get xs i ≡ Some x → slice_get (set xs i y) i ≡ Some y
set_element [] i x y e = absurd (cc)
set_element (z ∷ xs) zero x y e = refl
set_element (z ∷ xs) (suc i) x y e = set_element xs i x y e

pub set_length : {X : Type 0} (xs : List X) (i : ℕ) (y : X) → length (set xs i y) ≡ length xs
set_length [] i y = refl
set_length (z ∷ xs) zero y = refl
set_length (z ∷ xs) (suc i) y = ap (λ (n : ℕ). suc n) (set_length xs i y)

pub set_seen : {X Y : Type 0} (f : X → Y) (xs : List X) (i : ℕ) (x y : X) → slice_get xs i ≡ Some x → f y ≡ f x → map f (set xs i y) ≡ map f xs
set_seen f [] i x y e same = refl
set_seen {X} {Y} f (z ∷ xs) zero x y e same =
    let is : z ≡ x = cc in ap (λ (k : Y). k ∷ map f xs) (same ∙ ap f (sym is))
set_seen {X} {Y} f (z ∷ xs) (suc i) x y e same = ap (λ (l : List Y). f z ∷ l) (set_seen f xs i x y e same)

pub set_other : {X : Type 0} (xs : List X) (i j : ℕ) (y : X) → (i ≡ j → ⊥) → slice_get (set xs i y) j ≡ slice_get xs j
set_other [] i j y other = refl
set_other (z ∷ xs) zero zero y other = absurd (other refl)
set_other (z ∷ xs) zero (suc j) y other = refl
set_other (z ∷ xs) (suc i) zero y other = refl
set_other (z ∷ xs) (suc i) (suc j) y other = set_other xs i j y (λ e. other (ap suc e))
