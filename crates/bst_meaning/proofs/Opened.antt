-- The configuration in which a run opens is well formed.
use Rattle.std.proofs.Common.{◌≡◌, ℕ, suc, ◌+◌, Bool, true, false, cond, List, [], ◌∷◌, Option, Some, nat_eq, pos, refl, sym, ap, subst, ◌∙◌, arith}
use Rattle.std.specs.List.{AllByRecursion}
use Rattle.std.specs.Option.{option_map}
use Rattle.std.specs.Prelude.{slice_get}
use Rattle.std.proofs.lemmas.List.Sorted.{IsPermutation-refl}
use Rattle.name_table.specs.declared.names.Kind.{Kind}
use Rattle.name_table.specs.declared.names.Kind.TheVariants.{IntEntry, StrEntry, IntGlobal, StrGlobal}
use Rattle.name_table.specs.declared.names.NameId.{NameId}
use Rattle.name_table.specs.declared.style.Style.{Style}
use Rattle.name_table.specs.Numbers.{has_32_bits}
use Rattle.name_table.specs.Opening.{entry_max, global_max}
use Rattle.name_table.specs.Sound.{IsCommandSound, IsSound}
use Rattle.name_table.proofs.Within.{each_kept}
use Rattle.bst_meaning.specs.EntryLists.{Entry, EntryList}
use Rattle.bst_meaning.specs.declared.value.TheConstants.{ENTRY_SIZE, GLOBAL_SIZE}
use Rattle.bst_meaning.specs.declared.value.Value.{Value}
use Rattle.bst_meaning.specs.declared.value.Value.TheVariants.{Int, Str}
use Rattle.bst_meaning.specs.Config.{Variable, is_step, opening, opening_entries, opening_entry_variable, opening_global, opening_integer, opening_variables}
use Rattle.bst_meaning.specs.Entries.{EntryFits, Fits}
use Rattle.bst_meaning.specs.Invariant.{AreVariables, IsEntrySound, IsWellFormed, names_of}
use Rattle.bst_meaning.specs.StyleParts.{kind_of}
use Rattle.bst_meaning.specs.Values.{IsOfKind}

chosen_small : (t u : Bool) → has_32_bits (cond t (pos ENTRY_SIZE) (cond u (pos GLOBAL_SIZE) (pos 0))) ≡ true
chosen_small true u = refl
chosen_small false true = refl
chosen_small false false = refl

opening_small : (id : ℕ) → has_32_bits (opening_integer id) ≡ true
opening_small id = chosen_small (nat_eq id entry_max.0) (nat_eq id global_max.0)

module _ (style : Style) where
  -- a variable has a value of its kind
  abbrev Has : Variable → Type 0
  Has v = IsOfKind (kind_of style v.name) v.value

  abbrev id_name : ℕ → NameId
  id_name id = record { 0 = id }

  has : (id : ℕ) (kind : Kind) (value : Value) → kind_of style (id_name id) ≡ Some kind → IsOfKind (Some kind) value
      → Has (record { name = id_name id; value = value })
  has id kind value is h = subst (λ (k : Option Kind). IsOfKind k value) (sym is) h

  -- one name's variable before those of later names
  abbrev Adds : (ℕ → Kind → List Variable → List Variable) → Type 0
  Adds variable = (id : ℕ) (kind : Kind) (later : List Variable) → kind_of style (id_name id) ≡ Some kind → AllByRecursion Has later
      → AllByRecursion Has (variable id kind later)

  global_opens : Adds opening_global
  global_opens id IntGlobal later is all = (has id IntGlobal (Int (opening_integer id)) is (opening_small id), all)
  global_opens id StrGlobal later is all = (has id StrGlobal (Str []) is (tt, omega arith), all)
  global_opens id _ later is all = all

  entry_variable_opens : Adds opening_entry_variable
  entry_variable_opens id IntEntry later is all = (has id IntEntry (Int (pos 0)) is refl, all)
  entry_variable_opens id StrEntry later is all = (has id StrEntry (Str []) is (tt, omega arith), all)
  entry_variable_opens id _ later is all = all

  variables_open : (variable : ℕ → Kind → List Variable → List Variable) → Adds variable → (id : ℕ) (names : List (List ℕ × Kind))
      → ((k : ℕ) → slice_get style.names (id + k) ≡ slice_get names k) → AllByRecursion Has (opening_variables variable id names)
  variables_open variable adds id [] same = tt
  variables_open variable adds id (name ∷ names) same =
      adds id name.1 (opening_variables variable (id + 1) names)
      (ap (λ (k : ℕ). option_map (λ (entry : List ℕ × Kind). entry.1) (slice_get style.names k)) (omega arith)
      ∙ ap (λ (o : Option (List ℕ × Kind)). option_map (λ (entry : List ℕ × Kind). entry.1) o) (same 0))
      (variables_open variable adds (id + 1) names (λ k. ap (λ (n : ℕ). slice_get style.names n) (omega arith) ∙ same (suc k)))

  opened : (variable : ℕ → Kind → List Variable → List Variable) → Adds variable
      → AreVariables style (names_of (opening_variables variable 0 style.names)) (opening_variables variable 0 style.names)
  opened variable adds = record {
    named = refl;
    values = variables_open variable adds 0 style.names (λ k. ap (λ (n : ℕ). slice_get style.names n) (omega arith));
  }

  entries_open : (variables : List Variable) (position : ℕ) (entries : List Entry)
      → AreVariables style (names_of (opening_variables opening_entry_variable 0 style.names)) variables → AllByRecursion (EntryFits style) entries
      → AllByRecursion (IsEntrySound style) (opening_entries variables position entries)
  entries_open variables position [] are fit = tt
  entries_open variables position (entry ∷ entries) are fit =
      (record { fits = fit.0; variables = are }, entries_open variables (position + 1) entries are fit.1)

  pub opening_formed : (list : EntryList) → IsSound style → Fits style list → IsWellFormed style list (opening style list)
  opening_formed list sound fits = record {
    preamble = refl;
    commands = each_kept (λ at. IsCommandSound style.names at.command) (λ at. is_step at.command) style.commands sound.commands;
    frames = tt;
    stack = tt;
    globals = opened opening_global global_opens;
    entries = entries_open (opening_variables opening_entry_variable 0 style.names) 0 list.entries (opened opening_entry_variable entry_variable_opens) fits.entries;
    order = IsPermutation-refl _;
  }
