-- The opening pieces are within the bounds of calls.
use Rattle.std.proofs.Common.{◌≡◌, ℕ, suc, ◌+◌, ◌≤◌, Bool, List, [], ◌∷◌, ◌++◌, length, map, refl, sym, ap, subst, inl, inr, arith}
use Rattle.std.proofs.Math.Nat.{max-le}
use Rattle.name_table.specs.declared.names.Kind.{Kind}
use Rattle.name_table.specs.declared.style.Style.{Style}
use Rattle.name_table.specs.Sound.{IsSound}
use Rattle.bst_meaning.specs.Config.{Variable, opening, opening_entry_variable, opening_global, opening_variables}
use Rattle.bst_meaning.specs.Entries.{Fits}
use Rattle.bst_meaning.specs.Invariant.{IsWellFormed}
use Rattle.bst_meaning.specs.EntryLists.{EntryList}
use Rattle.bst_meaning.specs.declared.value.Value.{Value}
use Rattle.bst_meaning.specs.declared.value.Value.TheVariants.{Int, Str}
use Rattle.sym_state.specs.Starting.{symbol_count}
use Rattle.sym_state.specs.WellMade.{is_variable}
use Rattle.sym_state.specs.declared.symbol.Bind.{Bind}
use Rattle.cert_check.specs.Certified.{IsShort}
use Rattle.command_flow.specs.Between.{exact_fact, exact_facts, exactly, opened, own_symbols}
use Rattle.command_flow.specs.Ready.{AreReady}
use Rattle.command_flow.proofs.Openings.{Makes, entrys_of_kind, is_entrys, makes_entrys, makes_globals}
use Rattle.command_flow.proofs.Shaped.{IsGood, opened_good}

few_made : (test : Kind → Bool) (variable : ℕ → Kind → List Variable → List Variable) → Makes test variable → (id : ℕ) (names : List (List ℕ × Kind))
    → length (opening_variables variable id names) ≤ length names
few_made test variable makes id [] = omega arith
few_made test variable makes id (name ∷ names) =
    let later : List Variable = opening_variables variable (id + 1) names in
    let few : length later ≤ length names = few_made test variable makes (id + 1) names in
    elim (makes id name.1 later) [
      | inl none ↦ subst (λ (l : List Variable). length l ≤ suc (length names)) (sym none.1) (omega (arith, few))
      | inr one ↦ subst (λ (l : List Variable). length l ≤ suc (length names)) (sym one.2) (omega (arith, few))
    ]

few_own : (next : ℕ) (xs : List Variable) → symbol_count (map (λ (bind : Bind). bind.sym) (own_symbols next xs) ++ []) ≤ next + length xs
few_own next [] = omega arith
few_own next (x ∷ xs) =
    let rest = few_own (suc next) xs in
    max-le (omega arith) (omega (arith, rest))

own_length : (next : ℕ) (xs : List Variable) → length (own_symbols next xs) ≡ length xs
own_length next [] = refl
own_length next (x ∷ xs) = ap suc (own_length (suc next) xs)

few_exact : (next : ℕ) (xs : List Variable) → length (exact_facts next xs) ≤ length xs
few_exact next [] = omega arith
few_exact next (x ∷ xs) =
    let rest = few_exact (suc next) xs in
    one x.value (exact_facts (suc next) xs) rest
  where
    one : (v : Value) (later : List _) → length later ≤ length xs → length (exact_fact next v later) ≤ suc (length xs)
    one (Int n) later few = omega (arith, few)
    one (Str text) later few = omega (arith, few)
    one _ later few = omega (arith, few)

exactly_short : (xs : List Variable) → length xs ≤ 65536 → IsShort (exactly xs)
exactly_short xs few =
    let symbols = few_own 0 xs in
    let vars = own_length 0 xs in
    let facts = few_exact 0 xs in
    record { stack = omega arith; symbols = omega (arith, symbols, few); lines = omega (arith, vars, facts, few) }

opened_ready : (style : Style) → IsSound style → IsGood style (opened style) → AreReady style (opened style)
opened_ready style sound good =
    let names = sound.few_names in
    let globals = few_made (is_variable _) opening_global makes_globals 0 style.names in
    let entrys = few_made is_entrys opening_entry_variable makes_entrys 0 style.names in
    record {
      globals = record {
        short = exactly_short (opening_variables opening_global 0 style.names) (omega (arith, names, globals));
        numbered = good.globals.numbered;
        fit = good.globals.fit;
      };
      entry = record {
        short = exactly_short (opening_variables opening_entry_variable 0 style.names) (omega (arith, names, entrys));
        numbered = good.entry.numbered;
        fit = good.entry.fit;
      };
    }

-- they are, since those of the machine over no entries are well formed
pub opens_ready : (style : Style) → IsSound style → ((list : EntryList) → Fits style list → IsWellFormed style list (opening style list))
    → AreReady style (opened style)
opens_ready style sound formed =
    let list : EntryList = record { entries = []; preamble = [] } in
    let fits : Fits style list = record { entries = tt; preamble_bytes = tt } in
    opened_ready style sound (opened_good style (formed list fits).globals.values (entrys_of_kind style))
