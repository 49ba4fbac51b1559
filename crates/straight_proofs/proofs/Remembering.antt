-- What a search remembers: tables of keys stand for pairs, and a key tells its parts.
use Rattle.std.proofs.Common.{◌≡◌, ℕ, Bool, true, false, cond, List, [], ◌∷◌, map, Option, Some, refl, sym, ap, ◌∙◌, subst}
use Rattle.std.specs.Prelude.{ℤ}
use Rattle.std.specs.Global.{Vec}
use Rattle.std.specs.Cmp.Lexicographic.{pointwise}
use Rattle.std.specs.Cmp.Rules.{signed_items}
use Rattle.std.specs.Map.{lookup}
use Rattle.std.specs.Option.{IfSome}
use Rattle.std.specs.Ordering.{int_eq}
use Rattle.indexmap.specs.IndexMap.{insert_entry}
use Rattle.bv_base.proofs.Inserted.{lookup_inserted}
use Rattle.lin_facts.specs.declared.row.Part.{Part}
use Rattle.lin_facts.specs.declared.row.Row.{Row}
use Rattle.lin_facts.specs.declared.row.Term.{Term}
use Rattle.bst_meaning.specs.declared.condition.Cond.{Cond}
use Rattle.sym_state.specs.State.{State}
use Rattle.straight_proofs.specs.Remainders.{rank}
use Rattle.straight_proofs.specs.Remembered.{AreWith, HaveFloors, HaveRows, IsFloor, numbers, numbers_of, remembered, signed}
use Rattle.straight_proofs.proofs.Alike.{rank_tells}

-- the pairs that contracts see of the entries of a table
abbrev pub pairs : {V : Type 0} → List (Vec ℤ × V) → List (List ℤ × V)
pairs entries = map (λ e. (e.0.items, e.1)) entries

-- what is found is what the pairs have
pub found : {V : Type 0} (key : List ℤ) (entries : List (Vec ℤ × V)) → lookup (λ k. pointwise int_eq key k.items) entries ≡ remembered key (pairs entries)
found key [] = refl
found key (e ∷ entries) = ap (λ o. cond (pointwise int_eq key e.0.items) (Some e.1) o) (found key entries)

-- what is found once a key has a value
pub found_with : {V : Type 0} (other : List ℤ) (key : Vec ℤ) (value : V) (entries : List (Vec ℤ × V))
    → remembered other (pairs (insert_entry (λ a b. pointwise int_eq a.items b.items) entries key value))
    ≡ cond (pointwise int_eq other key.items) (Some value) (remembered other (pairs entries))
found_with other key value entries =
    sym (found other (insert_entry (λ a b. pointwise int_eq a.items b.items) entries key value))
    ∙ lookup_inserted (pointwise int_eq) (λ a b. (signed_items a b).0) other key value entries
    ∙ ap (λ o. cond (pointwise int_eq other key.items) (Some value) o) (found other entries)

-- a key tells its parts and its number
parts_told : (parts others : List Part) → numbers_of parts ≡ numbers_of others → parts ≡ others
parts_told [] [] e = refl
parts_told [] (part ∷ others) e = absurd (cc)
parts_told (part ∷ parts) [] e = absurd (cc)
parts_told (part ∷ parts) (other ∷ others) e =
    let coefficient : part.coefficient ≡ other.coefficient = cc in
    let ranks : rank part.term ≡ rank other.term = cc in
    let rest : numbers_of parts ≡ numbers_of others = cc in
    ap (λ (n : ℤ). record { coefficient = n; term = part.term } ∷ parts) coefficient
    ∙ ap (λ (t : Term). record { coefficient = other.coefficient; term = t } ∷ parts) (rank_tells part.term other.term ranks)
    ∙ ap (λ (ps : List Part). other ∷ ps) (parts_told parts others rest)

told : (m n : ℕ) (parts others : List Part) → numbers m parts ≡ numbers n others → parts ≡ others
told m n parts others e =
    let same : numbers_of parts ≡ numbers_of others = cc in
    parts_told parts others same

more_told : (m n : ℕ) (parts others : List Part) → numbers m parts ≡ numbers n others → m ≡ n
more_told m n parts others e = cc

-- floors stay floors once parts have theirs
pub floors_stay : (c : Cond) (state : State) (old new : List (List ℤ × Option ℤ)) (n : ℕ) (parts others : List Part) (key : List ℤ) (floor : Option ℤ)
    → HaveFloors c state old → others ≡ parts → key ≡ numbers n others → IsFloor c state n parts floor
    → ((other : List ℤ) → remembered other new ≡ cond (pointwise int_eq other key) (Some floor) (remembered other old)) → HaveFloors c state new
floors_stay c state old new n parts others key floor h are told_by held is m them =
    subst (λ (o : Option (Option ℤ)). IfSome o (IsFloor c state m them)) (sym (is (numbers m them))) (by (pointwise int_eq (numbers m them) key) refl)
  where
    by : (b : Bool) → pointwise int_eq (numbers m them) key ≡ b → IfSome (cond b (Some floor) (remembered (numbers m them) old)) (IsFloor c state m them)
    by true e =
        let same : numbers n parts ≡ numbers m them = sym (told_by ∙ ap (numbers n) are) ∙ sym ((signed_items (numbers m them) key).0 e) in
        subst (λ (k : ℕ). IsFloor c state k them floor) (more_told n m parts them same)
        (subst (λ (ps : List Part). IsFloor c state n ps floor) (told n m parts them same) held)
    by false e = h m them

-- what is found under the key of parts is their floor
pub floor_found : (c : Cond) (state : State) (pairs : List (List ℤ × Option ℤ)) (n : ℕ) (parts others : List Part) (key given : List ℤ) (floor : Option ℤ)
    → HaveFloors c state pairs → others ≡ parts → key ≡ numbers n others → given ≡ key → Some floor ≡ remembered given pairs → IsFloor c state n parts floor
floor_found c state pairs n parts others key given floor h are told is e =
    subst (λ (o : Option (Option ℤ)). IfSome o (IsFloor c state n parts))
    (ap (λ (k : List ℤ). remembered k pairs) (sym (is ∙ told ∙ ap (numbers n) are)) ∙ sym e) (h n parts)

-- a key tells its term and its sign
signed_told : (a b : Bool) (t u : Term) → signed a t ≡ signed b u → (a ≡ b) × (t ≡ u)
signed_told a b t u e =
    let ranks : rank t ≡ rank u = cc in
    (by a b (cc), rank_tells t u ranks)
  where
    by : (a b : Bool) → ◌≡◌ {A = ℕ} (cond a 1 0) (cond b 1 0) → a ≡ b
    by true true f = refl
    by true false f = absurd (cc)
    by false true f = absurd (cc)
    by false false f = refl

-- rows stay those of their terms once a term has its rows
pub rows_stay : {V : Type 0} (rows_in : V → List Row) (c : Cond) (state : State) (old new : List (List ℤ × V)) (above : Bool) (t : Term) (key : List ℤ) (rows : V)
    → HaveRows rows_in c state old → key ≡ signed above t → AreWith c state above t (rows_in rows)
    → ((other : List ℤ) → remembered other new ≡ cond (pointwise int_eq other key) (Some rows) (remembered other old)) → HaveRows rows_in c state new
rows_stay {V} rows_in c state old new above t key rows h told_by held is up u =
    subst (λ (o : Option V). IfSome o (λ r. AreWith c state up u (rows_in r))) (sym (is (signed up u))) (by (pointwise int_eq (signed up u) key) refl)
  where
    by : (b : Bool) → pointwise int_eq (signed up u) key ≡ b
        → IfSome (cond b (Some rows) (remembered (signed up u) old)) (λ r. AreWith c state up u (rows_in r))
    by true e =
        let same : signed above t ≡ signed up u = sym told_by ∙ sym ((signed_items (signed up u) key).0 e) in
        subst (λ (d : Bool). AreWith c state d u (rows_in rows)) (signed_told above up t u same).0
        (subst (λ (v : Term). AreWith c state above v (rows_in rows)) (signed_told above up t u same).1 held)
    by false e = h up u

-- what is found under the key of a term is its rows
pub rows_found : {V : Type 0} (rows_in : V → List Row) (c : Cond) (state : State) (pairs : List (List ℤ × V)) (above : Bool) (t : Term) (key given : List ℤ) (rows : V)
    → HaveRows rows_in c state pairs → key ≡ signed above t → given ≡ key → Some rows ≡ remembered given pairs → AreWith c state above t (rows_in rows)
rows_found {V} rows_in c state pairs above t key given rows h told is e =
    subst (λ (o : Option V). IfSome o (λ r. AreWith c state above t (rows_in r)))
    (ap (λ (k : List ℤ). remembered k pairs) (sym (is ∙ told)) ∙ sym e) (h above t)
