-- What variables hold over a pool, as the machine's definition has it.
use Rattle.std.proofs.Common.{◌≡◌, ℕ, ℤ, refl, sym, ap, ◌∙◌, Bool, true, false, cond, nat_eq, List, [], ◌∷◌, map, slice_get, Option, None, Some}
use Rattle.std.specs.Option.{IfSome, option_and_then, option_map, option_map_or}
use Rattle.std.proofs.Math.ListN.{set}
use Rattle.std.proofs.lemmas.List.{map-set}
use Rattle.std.proofs.lemmas.Option.{slice_get-map}
use Rattle.name_table.specs.declared.names.NameId.{NameId}
use Rattle.bst_meaning.specs.declared.value.Value.{Value}
use Rattle.bst_meaning.specs.declared.value.Value.TheVariants.{Int}
use Rattle.bst_meaning.specs.Config as config
use Rattle.bst_meaning.specs.Invariant.{names_of}
use Rattle.bst_meaning.specs.Machine.{value_at, with_entry_variable, with_variable}
use Rattle.bst_step.specs.declared.held.Held.{Held}
use Rattle.bst_step.specs.declared.variables.Variable.{Variable}
use Rattle.bst_step.specs.EntryStates.{EntryState, state_in, with_held_in}
use Rattle.bst_step.specs.Held.{value_in}
use Rattle.bst_step.specs.Variables.{held_at, names_in, variable_in, with_held}

-- the names of variables
pub names_held : (pool : List ℕ) (vs : List Variable) → names_of (map (variable_in pool) vs) ≡ names_in vs
names_held pool [] = refl
names_held pool (v ∷ vs) = ap (λ (l : List NameId). v.name ∷ l) (names_held pool vs)

-- the value of a variable
pub value_held : (pool : List ℕ) (id : ℕ) (vs : List Variable) → value_at id (map (variable_in pool) vs) ≡ option_map (value_in pool) (held_at id vs)
value_held pool id [] = refl
value_held pool id (v ∷ vs) = by (nat_eq v.name.0 id) (value_held pool id vs)
  where
    by : (t : Bool) → value_at id (map (variable_in pool) vs) ≡ option_map (value_in pool) (held_at id vs)
        → cond t (Some (value_in pool v.value)) (value_at id (map (variable_in pool) vs)) ≡ option_map (value_in pool) (cond t (Some v.value) (held_at id vs))
    by true later = refl
    by false later = later

-- a variable holds an integer
pub integer_held : (pool : List ℕ) (id : ℕ) (vs : List Variable) (globals : List config.Variable) (h : Held) (o : Option ℤ)
    → globals ≡ map (variable_in pool) vs → Some h ≡ held_at id vs → IfSome o (λ n. value_in pool h ≡ Int n)
    → IfSome o (λ n. value_at id globals ≡ Some (Int n))
integer_held pool id vs globals h None seen there is = tt
integer_held pool id vs globals h (Some n) seen there is =
    ap (λ (l : List config.Variable). value_at id l) seen ∙ value_held pool id vs
    ∙ ap (λ (held : Option Held). option_map (value_in pool) held) (sym there) ∙ ap (λ (v : Value). Some v) is

-- a variable has a new value
pub with_variable_held : (pool : List ℕ) (new : Variable) (vs : List Variable)
    → map (variable_in pool) (with_held new vs) ≡ with_variable (variable_in pool new) (map (variable_in pool) vs)
with_variable_held pool new [] = refl
with_variable_held pool new (v ∷ vs) = by (nat_eq v.name.0 new.name.0) (with_variable_held pool new vs)
  where
    by : (t : Bool) → map (variable_in pool) (with_held new vs) ≡ with_variable (variable_in pool new) (map (variable_in pool) vs)
        → map (variable_in pool) (cond t (new ∷ vs) (v ∷ with_held new vs))
        ≡ cond t (variable_in pool new ∷ map (variable_in pool) vs) (variable_in pool v ∷ with_variable (variable_in pool new) (map (variable_in pool) vs))
    by true later = refl
    by false later = ap (λ (l : List config.Variable). variable_in pool v ∷ l) later

-- a variable of an entry has a new value
pub with_entry_held : (pool : List ℕ) (new : Variable) (at : ℕ) (es : List EntryState)
    → map (state_in pool) (with_held_in new at es) ≡ with_entry_variable (variable_in pool new) (Some at) (map (state_in pool) es)
with_entry_held pool new at es = by (slice_get es at) ∙ sym (ap (λ o. option_map_or changed o (map (state_in pool) es)) (slice_get-map (state_in pool) es at))
  where
    changed : config.EntryState → List config.EntryState
    changed e = set (map (state_in pool) es) at (record e { variables = with_variable (variable_in pool new) e.variables })

    by : (o : Option EntryState)
        → map (state_in pool) (option_map_or (λ (e : EntryState). set es at (record e { variables = with_held new e.variables })) o es)
        ≡ option_map_or changed (option_map (state_in pool) o) (map (state_in pool) es)
    by None = refl
    by (Some e) =
        map-set (state_in pool) es at (record e { variables = with_held new e.variables })
        ∙ ap (λ (vs : List config.Variable). set (map (state_in pool) es) at (record { entry = e.entry; variables = vs; position = e.position }))
        (with_variable_held pool new e.variables)

-- the value of a variable of an entry
pub entry_value_held : (pool : List ℕ) (id at : ℕ) (es : List EntryState)
    → option_and_then (λ (e : config.EntryState). value_at id e.variables) (slice_get (map (state_in pool) es) at)
    ≡ option_map (value_in pool) (option_and_then (λ (e : EntryState). held_at id e.variables) (slice_get es at))
entry_value_held pool id at es =
    ap (λ (o : Option config.EntryState). option_and_then (λ (e : config.EntryState). value_at id e.variables) o) (slice_get-map (state_in pool) es at)
    ∙ by (slice_get es at)
  where
    by : (o : Option EntryState)
        → option_and_then (λ (e : config.EntryState). value_at id e.variables) (option_map (state_in pool) o)
        ≡ option_map (value_in pool) (option_and_then (λ (e : EntryState). held_at id e.variables) o)
    by None = refl
    by (Some e) = value_held pool id e.variables
