-- A look-up in the table of names finds the id of the name.
use Rattle.std.proofs.Common.{◌≡◌, ℕ, suc, ◌+◌, Bool, true, false, cond, not, nat_lt, nat_eq, List, [], ◌∷◌, ◌++◌, Option, Some, None, length, map, position, refl, sym, ap, ◌∙◌, arith}
use Rattle.std.proofs.lemmas.Bool.Decides.{nat_tests}
use Rattle.std.specs.List.{position_or_len}
use Rattle.std.specs.Option.{option_map}
use Rattle.std.specs.Global.{Vec}
use Rattle.std.specs.Cmp.Lexicographic.{pointwise}
use Rattle.indexmap.specs.IndexMap.{insert_entry}
use Rattle.name_table.specs.declared.names.Kind.{Kind}
use Rattle.name_table.specs.declared.names.NameId.{NameId}
use Rattle.name_table.specs.Names.{id_of, same_name, later}

-- the id of a place
abbrev pub id : ℕ → NameId
id n = record { 0 = n }

-- what contracts see of an entry
abbrev pub seen : Vec ℕ × Kind → List ℕ × Kind
seen e = (e.0.items, e.1)

-- the first place at which a test passes, by the first element
place_step : (b : Bool) (n m : ℕ)
    → cond (nat_lt (cond (not b) (1 + n) 0) (suc m)) (Some (cond (not b) (1 + n) 0)) None
    ≡ cond b (Some 0) (option_map suc (cond (nat_lt n m) (Some n) None))
place_step true n m = grind (arith, nat_tests)
place_step false n m = by (nat_lt n m) refl
  where
    by : (b : Bool) → nat_lt n m ≡ b
        → cond (nat_lt (1 + n) (suc m)) (Some (1 + n)) None ≡ option_map suc (cond b (Some n) None)
    by true e = grind (arith, nat_tests)
    by false e = grind (arith, nat_tests)

pub position-cons : {X : Type 0} (p : X → Bool) (x : X) (xs : List X)
    → position p (x ∷ xs) ≡ cond (p x) (Some 0) (option_map suc (position p xs))
position-cons p x xs = place_step (p x) (position_or_len p xs) (length xs)

id_step : (b : Bool) (o : Option ℕ)
    → option_map id (cond b (Some 0) (option_map suc o)) ≡ cond b (Some (id 0)) (option_map later (option_map id o))
id_step true o = refl
id_step false None = refl
id_step false (Some n) = refl

pub position-id_of : (name : List ℕ) (es : List (Vec ℕ × Kind))
    → option_map id (position (λ k. pointwise nat_eq name k.items) (map (λ e. e.0) es)) ≡ id_of name (map seen es)
position-id_of name [] = refl
position-id_of name (e ∷ es) =
    ap (option_map id) (position-cons (λ (k : Vec ℕ). pointwise nat_eq name k.items) e.0 (map (λ e. e.0) es))
    ∙ id_step (same_name name e.0.items) (position (λ (k : Vec ℕ). pointwise nat_eq name k.items) (map (λ e. e.0) es))
    ∙ ap (λ o. cond (same_name name e.0.items) (Some (id 0)) (option_map later o)) (position-id_of name es)

-- a look-up gives the id of the place that it finds
pub found_id : (name : List ℕ) (es : List (Vec ℕ × Kind)) (names : List (List ℕ × Kind)) (place found : Option ℕ)
    → place ≡ position (λ k. pointwise nat_eq name k.items) (map (λ e. e.0) es) → map seen es ≡ names → place ≡ found
    → option_map id found ≡ id_of name names
found_id name es names place found at view is =
    sym (ap (option_map id) is) ∙ ap (option_map id) at ∙ position-id_of name es ∙ ap (id_of name) view

-- a name that isn't there goes last
pub inserted_last : (name : Vec ℕ) (kind : Kind) (es : List (Vec ℕ × Kind)) → id_of name.items (map seen es) ≡ None
    → insert_entry (λ a b. pointwise nat_eq a.items b.items) es name kind ≡ es ++ (name, kind) ∷ []
inserted_last name kind [] none = refl
inserted_last name kind (e ∷ es) none = by (same_name name.items e.0.items) (id_of name.items (map seen es)) refl none (inserted_last name kind es)
  where
    by : (b : Bool) (rest : Option NameId) → id_of name.items (map seen es) ≡ rest
        → cond b (Some (id 0)) (option_map later rest) ≡ None
        → (id_of name.items (map seen es) ≡ None → insert_entry (λ a b. pointwise nat_eq a.items b.items) es name kind ≡ es ++ (name, kind) ∷ [])
        → cond b ((e.0, kind) ∷ es) (e ∷ insert_entry (λ a b. pointwise nat_eq a.items b.items) es name kind) ≡ e ∷ (es ++ (name, kind) ∷ [])
    by true rest is none more = absurd (cc)
    by false None is none more = ap (λ l. e ∷ l) (more is)
    by false (Some x) is none more = absurd (cc)
