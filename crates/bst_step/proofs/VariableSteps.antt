-- Variables are found and written at their places, and are what names and values make them.
use Rattle.std.proofs.Common.{◌≡◌, ℕ, zero, suc, ◌<◌, ◌≤◌, Bool, true, false, cond, nat_eq, refl, sym, ap, ◌∙◌, List, [], ◌∷◌, ◌++◌, drop, get_or, length, map, slice_get, Option, None, Some, arith}
use Rattle.std.specs.Option.{option_and_then, option_map}
use Rattle.std.proofs.Math.ListN.{set}
use Rattle.std.proofs.lemmas.Bool.{eqb-true}
use Rattle.std.proofs.lemmas.List.{append-nil, drop_all, length-map}
use Rattle.std.proofs.lemmas.Option.{slice_get-get_or}
use Rattle.name_table.specs.declared.names.NameId.{NameId}
use Rattle.bst_meaning.specs.declared.value.Value.{Value}
use Rattle.bst_meaning.specs.Config as config
use Rattle.bst_meaning.specs.Machine.{value_at}
use Rattle.bst_meaning.specs.Sorting.{string_at, string_of}
use Rattle.bst_step.specs.declared.held.Held.{Held}
use Rattle.bst_step.specs.declared.variables.Variable.{Variable}
use Rattle.bst_step.specs.Held.{ValuesWithin, value_in}
use Rattle.bst_step.specs.Marks.{Mark, Marked, mark_of, marked_of}
use Rattle.bst_step.specs.Places.{StandAt, place_of}
use Rattle.bst_step.specs.Variables.{AreNamed, VariablesWithin, held_at, named, names_in, values_in, variable_in, with_held}
use Rattle.bst_step.proofs.PlaceLookups.{another_there, at_place, no_place}

-- a table has no place for a name
pub placeless : (places : List ℕ) (names : List NameId) (name : NameId) → StandAt places names
    → slice_get places name.0 ≡ None → None ≡ place_of name.0 names
placeless places names name stand none = sym (no_place places names name.0 stand none)

-- the name at the place that a table has is the one that is looked for
pub stands_there : (places : List ℕ) (names : List NameId) (name : NameId) (at : ℕ) (n : NameId) → StandAt places names
    → slice_get names at ≡ Some n → n.0 ≡ name.0 → Some at ≡ place_of name.0 names
stands_there places names name at n stand here same =
    sym (at_place places names at n stand here) ∙ ap (λ (id : ℕ). place_of id names) same

-- another name stands there
pub another_stands : (places : List ℕ) (names : List NameId) (name : NameId) (at : ℕ) (n : NameId) → StandAt places names
    → slice_get places name.0 ≡ Some at → slice_get names at ≡ Some n → (n.0 ≡ name.0 → ⊥) → None ≡ place_of name.0 names
another_stands places names name at n stand has here other =
    sym (another_there places names name.0 at stand has
    (λ m there same. let is : n ≡ m = cc in other (ap (λ (x : NameId). x.0) is ∙ same)))

-- none stands there
pub none_stands : (places : List ℕ) (names : List NameId) (name : NameId) (at : ℕ) → StandAt places names
    → slice_get places name.0 ≡ Some at → slice_get names at ≡ None → None ≡ place_of name.0 names
none_stands places names name at stand has none = sym (another_there places names name.0 at stand has (λ m there same. absurd (cc)))

-- the names and the values of variables
pub names_named : (names : List NameId) (values : List Held) → length names ≤ length values → names_in (named names values) ≡ names
names_named [] values many = refl
names_named (name ∷ names) [] many = absurd (omega (arith, many))
names_named (name ∷ names) (h ∷ values) many = ap (λ (l : List NameId). name ∷ l) (names_named names values (omega (arith, many)))

pub values_named : (names : List NameId) (values : List Held) → length values ≤ length names → values_in (named names values) ≡ values
values_named [] [] many = refl
values_named [] (h ∷ values) many = absurd (omega (arith, many))
values_named (name ∷ names) [] many = refl
values_named (name ∷ names) (h ∷ values) many = ap (λ (l : List Held). h ∷ l) (values_named names values (omega (arith, many)))

-- as many names as values
pub as_many : (vs : List Variable) → length (values_in vs) ≡ length (names_in vs)
as_many vs = length-map vs (λ (v : Variable). v.value) ∙ sym (length-map vs (λ (v : Variable). v.name))

pub all_named : (vs : List Variable) → named (names_in vs) (values_in vs) ≡ vs
all_named [] = refl
all_named (v ∷ vs) = ap (λ (l : List Variable). v ∷ l) (all_named vs)

-- names and values that were taken from variables, one after the other
pub split_named : (names : List NameId) (values : List Held) (vs : List Variable) (i : ℕ) → length vs ≤ i
    → names ++ names_in (drop i vs) ≡ names_in vs → values ++ values_in (drop i vs) ≡ values_in vs → named names values ≡ vs
split_named names values vs i past all_names all_values =
    ap (λ (l : List NameId). named l values)
    (sym (append-nil names) ∙ ap (λ (l : List Variable). names ++ names_in l) (sym (drop_all i vs past)) ∙ all_names)
    ∙ ap (λ (l : List Held). named (names_in vs) l)
    (sym (append-nil values) ∙ ap (λ (l : List Variable). values ++ values_in l) (sym (drop_all i vs past)) ∙ all_values)
    ∙ all_named vs

-- values and names that were lent are those of the variables that are seen
pub values_seen : (names : List NameId) (values lent : List Held) (seen : List Variable) → lent ≡ values → length values ≡ length names
    → named names values ≡ seen → lent ≡ values_in seen
values_seen names values lent seen same many is =
    same ∙ sym (values_named names values (omega (arith, many))) ∙ ap (λ (vs : List Variable). values_in vs) is

pub names_seen : (names lent : List NameId) (values : List Held) (seen : List Variable) → lent ≡ names → length values ≡ length names
    → named names values ≡ seen → lent ≡ names_in seen
names_seen names lent values seen same many is =
    same ∙ sym (names_named names values (omega (arith, many))) ∙ ap (λ (vs : List Variable). names_in vs) is

-- what the variable at its place holds
pub value_named : (id : ℕ) (names : List NameId) (values : List Held)
    → held_at id (named names values) ≡ option_and_then (λ (at : ℕ). slice_get values at) (place_of id names)
value_named id [] values = refl
value_named id (name ∷ names) [] = by (nat_eq name.0 id) (place_of id names)
  where
    by : (t : Bool) (o : Option ℕ)
        → held_at id [] ≡ option_and_then (λ (at : ℕ). slice_get (values_in []) at) (cond t (Some 0) (option_map suc o))
    by true o = refl
    by false None = refl
    by false (Some at) = refl
value_named id (name ∷ names) (h ∷ values) = by (nat_eq name.0 id) (place_of id names) (value_named id names values)
  where
    by : (t : Bool) (o : Option ℕ) → held_at id (named names values) ≡ option_and_then (λ (at : ℕ). slice_get values at) o
        → cond t (Some h) (held_at id (named names values)) ≡ option_and_then (λ (at : ℕ). slice_get (h ∷ values) at) (cond t (Some 0) (option_map suc o))
    by true o later = refl
    by false None later = later
    by false (Some at) later = later

pub value_found : (id : ℕ) (names : List NameId) (values : List Held) (at : ℕ) (d : Held) → Some at ≡ place_of id names → at < length values
    → Some (get_or values at d) ≡ held_at id (named names values)
value_found id names values at d is within =
    sym (value_named id names values
    ∙ ap (λ (o : Option ℕ). option_and_then (λ (k : ℕ). slice_get values k) o) (sym is)
    ∙ slice_get-get_or values at d within)

pub value_missing : (id : ℕ) (names : List NameId) (values : List Held) → None ≡ place_of id names → None ≡ held_at id (named names values)
value_missing id names values none =
    sym (value_named id names values ∙ ap (λ (o : Option ℕ). option_and_then (λ (k : ℕ). slice_get values k) o) (sym none))

-- the variable at its place has its new value
pub set_named : (new : Variable) (names : List NameId) (values : List Held) (at : ℕ) → Some at ≡ place_of new.name.0 names
    → named names (set values at new.value) ≡ with_held new (named names values)
set_named new [] values at is = absurd (cc)
set_named new (name ∷ names) [] at is = refl
set_named new (name ∷ names) (h ∷ values) at is =
    by (nat_eq name.0 new.name.0) refl (place_of new.name.0 names) refl (λ k. set_named new names values k) is
  where
    by : (t : Bool) → nat_eq name.0 new.name.0 ≡ t → (o : Option ℕ) → place_of new.name.0 names ≡ o
        → ((k : ℕ) → Some k ≡ place_of new.name.0 names → named names (set values k new.value) ≡ with_held new (named names values))
        → Some at ≡ cond t (Some 0) (option_map suc o)
        → named (name ∷ names) (set (h ∷ values) at new.value) ≡ cond t (new ∷ named names values) (record { name = name; value = h } ∷ with_held new (named names values))
    by true same o there later is =
        let front : at ≡ 0 = cc in
        let named_so : name.0 ≡ new.name.0 = eqb-true name.0 new.name.0 same in
        ap (λ (k : ℕ). named (name ∷ names) (set (h ∷ values) k new.value)) front
        ∙ ap (λ (n : ℕ). let v : Variable = record { name = record { 0 = n }; value = new.value } in v ∷ named names values) named_so
    by false other None there later is = absurd (cc)
    by false other (Some k) there later is =
        let behind : at ≡ suc k = cc in
        ap (λ (n : ℕ). named (name ∷ names) (set (h ∷ values) n new.value)) behind
        ∙ ap (λ (l : List Variable). record { name = name; value = h } ∷ l) (later k (sym there))

-- no variable has the name, so none changes
pub set_missing : (new : Variable) (names : List NameId) (values : List Held) → None ≡ place_of new.name.0 names
    → named names values ≡ with_held new (named names values)
set_missing new [] values is = refl
set_missing new (name ∷ names) [] is = refl
set_missing new (name ∷ names) (h ∷ values) is = by (nat_eq name.0 new.name.0) (place_of new.name.0 names) refl (set_missing new names values) is
  where
    by : (t : Bool) (o : Option ℕ) → place_of new.name.0 names ≡ o
        → (None ≡ place_of new.name.0 names → named names values ≡ with_held new (named names values)) → None ≡ cond t (Some 0) (option_map suc o)
        → record { name = name; value = h } ∷ named names values
        ≡ cond t (new ∷ named names values) (record { name = name; value = h } ∷ with_held new (named names values))
    by true o there later is = absurd (cc)
    by false None there later is = ap (λ (l : List Variable). record { name = name; value = h } ∷ l) (later (sym there))
    by false (Some k) there later is = absurd (cc)

-- a value that is written past the values of the names leaves them
pub set_behind : (names : List NameId) (values : List Held) (at : ℕ) (h : Held) → length names ≤ at
    → named names (set values at h) ≡ named names values
set_behind [] values at h behind = refl
set_behind (name ∷ names) [] at h behind = refl
set_behind (name ∷ names) (x ∷ values) zero h behind = absurd (omega (arith, behind))
set_behind (name ∷ names) (x ∷ values) (suc at) h behind =
    ap (λ (l : List Variable). record { name = name; value = x } ∷ l) (set_behind names values at h (omega (arith, behind)))

-- what stands behind as many values as names isn't seen
pub more_behind : (names : List NameId) (values more : List Held) → length names ≤ length values
    → named names (values ++ more) ≡ named names values
more_behind [] values more many = refl
more_behind (name ∷ names) [] more many = absurd (omega (arith, many))
more_behind (name ∷ names) (x ∷ values) more many =
    ap (λ (l : List Variable). record { name = name; value = x } ∷ l) (more_behind names values more (omega (arith, many)))

-- the place of a name is one of the places
pub place_within : (id : ℕ) (names : List NameId) (at : ℕ) → Some at ≡ place_of id names → at < length names
place_within id [] at is = absurd (cc)
place_within id (name ∷ names) at is = by (nat_eq name.0 id) (place_of id names) refl (λ k. place_within id names k) is
  where
    by : (t : Bool) (o : Option ℕ) → place_of id names ≡ o → ((k : ℕ) → Some k ≡ place_of id names → k < length names)
        → Some at ≡ cond t (Some 0) (option_map suc o) → at < length (name ∷ names)
    by true o there later is = let front : at ≡ 0 = cc in omega (arith, front)
    by false None there later is = absurd (cc)
    by false (Some k) there later is = let behind : at ≡ suc k = cc in omega (arith, behind, later k (sym there))

-- as many values have the names
pub still_named : (places : List ℕ) (names : List NameId) (vs later : List Held) → length later ≡ length vs → AreNamed places names vs
    → AreNamed places names later
still_named places names vs later many all = record { stand = all.stand; many = many ∙ all.many }

-- what values hold ends where what their variables hold does
pub named_within : (end : ℕ) (names : List NameId) (values : List Held) → ValuesWithin end values → VariablesWithin end (named names values)
named_within end [] values within = tt
named_within end (name ∷ names) [] within = tt
named_within end (name ∷ names) (h ∷ values) within = (within.0, named_within end names values within.1)

pub within_named : (end : ℕ) (names : List NameId) (values : List Held) → VariablesWithin end (named names values)
    → ValuesWithin end (drop (length names) values) → ValuesWithin end values
within_named end [] values here behind = behind
within_named end (name ∷ names) [] here behind = tt
within_named end (name ∷ names) (h ∷ values) here behind = (here.0, within_named end names values here.1 behind)

pub variables_within : (end : ℕ) (vs : List Variable) → VariablesWithin end vs → ValuesWithin end (values_in vs)
variables_within end [] within = tt
variables_within end (v ∷ vs) within = (within.0, variables_within end vs within.1)

-- values that are seen as the same are so in variables, and so are their marks
abbrev with_names : {X Y : Type 0} → (NameId → X → Y) → List NameId → List X → List Y
with_names both [] xs = []
with_names both (name ∷ names) [] = []
with_names both (name ∷ names) (x ∷ xs) = both name x ∷ with_names both names xs

seen_with_names : (pool : List ℕ) (names : List NameId) (values : List Held)
    → map (variable_in pool) (named names values)
    ≡ with_names (λ name value. let v : config.Variable = record { name = name; value = value } in v) names (map (value_in pool) values)
seen_with_names pool [] values = refl
seen_with_names pool (name ∷ names) [] = refl
seen_with_names pool (name ∷ names) (h ∷ values) =
    ap (λ (l : List config.Variable). record { name = name; value = value_in pool h } ∷ l) (seen_with_names pool names values)

pub seen_named : (a b : List ℕ) (names : List NameId) (xs ys : List Held) → map (value_in a) xs ≡ map (value_in b) ys
    → map (variable_in a) (named names xs) ≡ map (variable_in b) (named names ys)
seen_named a b names xs ys same =
    seen_with_names a names xs
    ∙ ap (λ (l : List Value). with_names (λ name value. let v : config.Variable = record { name = name; value = value } in v) names l) same
    ∙ sym (seen_with_names b names ys)

marked_with_names : (names : List NameId) (values : List Held)
    → map marked_of (named names values) ≡ with_names (λ name mark. let m : Marked = record { name = name; mark = mark } in m) names (map mark_of values)
marked_with_names [] values = refl
marked_with_names (name ∷ names) [] = refl
marked_with_names (name ∷ names) (h ∷ values) =
    ap (λ (l : List Marked). record { name = name; mark = mark_of h } ∷ l) (marked_with_names names values)

pub marks_named : (names : List NameId) (xs ys : List Held) → map mark_of xs ≡ map mark_of ys
    → map marked_of (named names xs) ≡ map marked_of (named names ys)
marks_named names xs ys same =
    marked_with_names names xs
    ∙ ap (λ (l : List Mark). with_names (λ name mark. let m : Marked = record { name = name; mark = mark } in m) names l) same
    ∙ sym (marked_with_names names ys)

-- the sort key is the string of a variable
pub string_found : (id : ℕ) (variables : List config.Variable) (value : Value) → Some value ≡ value_at id variables
    → string_of value ≡ string_at id variables
string_found id [] value e = absurd (cc)
string_found id (v ∷ variables) value e = by (nat_eq v.name.0 id) (string_found id variables value) e
  where
    by : (t : Bool) → (Some value ≡ value_at id variables → string_of value ≡ string_at id variables)
        → Some value ≡ cond t (Some v.value) (value_at id variables) → string_of value ≡ cond t (string_of v.value) (string_at id variables)
    by true later e = let same : value ≡ v.value = cc in ap (λ (a : Value). string_of a) same
    by false later e = later e

pub string_missing : (id : ℕ) (variables : List config.Variable) → None ≡ value_at id variables → [] ≡ string_at id variables
string_missing id [] e = refl
string_missing id (v ∷ variables) e = by (nat_eq v.name.0 id) (string_missing id variables) e
  where
    by : (t : Bool) → (None ≡ value_at id variables → [] ≡ string_at id variables)
        → None ≡ cond t (Some v.value) (value_at id variables) → [] ≡ cond t (string_of v.value) (string_at id variables)
    by true later e = absurd (cc)
    by false later e = later e
