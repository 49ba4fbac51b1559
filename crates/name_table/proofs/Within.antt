-- What is found in the lists of a style is there, and what holds of each item holds of one that is found or kept.
use Rattle.std.proofs.Common.{◌≡◌, ℕ, zero, suc, ◌<◌, Bool, true, false, cond, List, [], ◌∷◌, Option, None, Some, length, filter, ap, refl, arith}
use Rattle.std.specs.Option.{IfSome, option_map, option_map_or}
use Rattle.std.specs.Prelude.{slice_get}
use Rattle.name_table.specs.declared.names.Kind.{Kind}
use Rattle.name_table.specs.declared.names.NameId.{NameId}
use Rattle.name_table.specs.Names.{id_of, later, same_name}
use Rattle.name_table.specs.Sound.{Each, is_callable}

-- a name that is found is there
pub id_within : (name : List ℕ) (names : List (List ℕ × Kind)) (id : NameId) → id_of name names ≡ Some id → id.0 < length names
id_within name [] id e = absurd (cc)
id_within name (first ∷ rest) id e = by (same_name name first.0) (id_of name rest) refl e (id_within name rest)
  where
    by : (b : Bool) (r : Option NameId) → id_of name rest ≡ r → cond b (Some (record { 0 = 0 })) (option_map later r) ≡ Some id
        → ((i : NameId) → id_of name rest ≡ Some i → i.0 < length rest) → id.0 < suc (length rest)
    by true r f e more =
        let z : 0 ≡ id.0 = ap (λ (o : Option NameId). option_map_or (λ (i : NameId). i.0) o 0) e in
        omega (arith, z)
    by false None f e more = absurd (cc)
    by false (Some i) f e more =
        let z : suc i.0 ≡ id.0 = ap (λ (o : Option NameId). option_map_or (λ (i : NameId). i.0) o 0) e in
        let h = more i f in
        omega (arith, z, h)

-- a function is there
pub callable_within : (names : List (List ℕ × Kind)) (k : ℕ) → is_callable (option_map (λ entry. entry.1) (slice_get names k)) ≡ true
    → k < length names
callable_within [] zero h = absurd (cc)
callable_within [] (suc k) h = absurd (cc)
callable_within (x ∷ xs) zero h = omega arith
callable_within (x ∷ xs) (suc k) h = let m = callable_within xs k h in omega arith

-- what is found has what each item has
pub got : {X : Type 0} (P : X → Type 0) (xs : List X) (k : ℕ) → Each P xs → IfSome (slice_get xs k) P
got P [] k each = tt
got P (x ∷ xs) zero each = each.0
got P (x ∷ xs) (suc k) each = got P xs k each.1

-- so do those that are kept
pub each_kept : {X : Type 0} (P : X → Type 0) (test : X → Bool) (xs : List X) → Each P xs → Each P (filter test xs)
each_kept P test [] each = tt
each_kept P test (x ∷ xs) each = by (test x) (each_kept P test xs each.1)
  where
    by : (t : Bool) → Each P (filter test xs) → Each P (cond t (x ∷ filter test xs) (filter test xs))
    by true rest = (each.0, rest)
    by false rest = rest
