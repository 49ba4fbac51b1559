-- What is found in a table once a key has a value.
use Rattle.std.proofs.Common.{◌≡◌, Bool, true, false, cond, List, [], ◌∷◌, Option, Some, refl, sym, ap, ◌∙◌}
use Rattle.std.specs.Global.{Vec}
use Rattle.std.specs.Map.{lookup}
use Rattle.indexmap.specs.IndexMap.{insert_entry}

over_again : {V : Type 0} (a b : Bool) (value old : V) (rest : Option V) → a ≡ b
    → cond a (Some value) rest ≡ cond b (Some value) (cond a (Some old) rest)
over_again true true value old rest e = refl
over_again true false value old rest e = absurd cc
over_again false true value old rest e = absurd cc
over_again false false value old rest e = refl

past : {V : Type 0} (a b : Bool) (value old : V) (rest : Option V) → (a ≡ true → b ≡ false)
    → cond a (Some old) (cond b (Some value) rest) ≡ cond b (Some value) (cond a (Some old) rest)
past true true value old rest apart = let e : true ≡ false = apart refl in absurd cc
past true false value old rest apart = refl
past false b value old rest apart = refl

-- a key that is a third one isn't another
apart : {X : Type 0} (same : List X → List X → Bool) → ((a b : List X) → same a b ≡ true → a ≡ b) → (key other third : List X)
    → same other third ≡ false → same key third ≡ true → same key other ≡ false
apart same tells key other third other_than is = by (same key other) refl
  where
    by : (b : Bool) → same key other ≡ b → b ≡ false
    by true e = sym is ∙ ap (λ k. same k third) (tells key other e) ∙ other_than
    by false e = refl

-- keys are told apart by a test that is true of equal ones alone
pub lookup_inserted : {X V : Type 0} (same : List X → List X → Bool) → ((a b : List X) → same a b ≡ true → a ≡ b)
    → (name : List X) (key : Vec X) (value : V) (es : List (Vec X × V))
    → lookup (λ k. same name k.items) (insert_entry (λ a b. same a.items b.items) es key value)
    ≡ cond (same name key.items) (Some value) (lookup (λ k. same name k.items) es)
lookup_inserted same tells name key value [] = refl
lookup_inserted {X} {V} same tells name key value (e ∷ es) =
    by (same key.items e.0.items) refl (lookup_inserted same tells name key value es)
  where
    by : (b : Bool) → same key.items e.0.items ≡ b
        → lookup (λ (k : Vec X). same name k.items) (insert_entry (λ a b. same a.items b.items) es key value)
        ≡ cond (same name key.items) (Some value) (lookup (λ (k : Vec X). same name k.items) es)
        → lookup (λ (k : Vec X). same name k.items) (cond b ((e.0, value) ∷ es) (e ∷ insert_entry (λ a b. same a.items b.items) es key value))
        ≡ cond (same name key.items) (Some value) (cond (same name e.0.items) (Some e.1) (lookup (λ (k : Vec X). same name k.items) es))
    by true is rest =
        over_again (same name e.0.items) (same name key.items) value e.1 (lookup (λ (k : Vec X). same name k.items) es)
        (sym (ap (same name) (tells key.items e.0.items is)))
    by false is rest =
        ap (λ o. cond (same name e.0.items) (Some e.1) o) rest
        ∙ past (same name e.0.items) (same name key.items) value e.1 (lookup (λ (k : Vec X). same name k.items) es)
        (λ h. apart same tells name key.items e.0.items is h)
