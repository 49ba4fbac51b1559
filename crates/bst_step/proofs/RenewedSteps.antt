-- Where values are renewed, the variables and the entries that hold them are seen as they were.
use Rattle.std.proofs.Common.{◌≡◌, ℕ, zero, suc, ◌+◌, ◌*◌, ◌≤◌, sym, ap, subst, ◌∙◌, List, [], ◌∷◌, ◌++◌, add-one, drop, get_or, length, map, take, arith, refl}
use Rattle.std.proofs.Math.Nat.{suc-mul, zero-mul}
use Rattle.std.proofs.lemmas.List.{drop-drop, drop-map, drop_all, length-map}
use Rattle.std.proofs.lemmas.List.Elements.{All-cons, All-head, All-nil, All-tail}
use Rattle.std.proofs.lemmas.List.Sorted.{All-permutation, IsPermutation-sym}
use Rattle.std.specs.List.{All, range_with_len}
use Rattle.name_table.specs.declared.names.NameId.{NameId}
use Rattle.bst_meaning.specs.declared.value.Value.{Value}
use Rattle.bst_meaning.specs.Config as config
use Rattle.bst_meaning.specs.EntryLists.{Entry}
use Rattle.entry_store.specs.PackedEntries.{nothing}
use Rattle.bst_step.specs.declared.held.Held.{Held}
use Rattle.bst_step.specs.declared.variables.Variable.{Variable}
use Rattle.bst_step.specs.EntryStates.{EntriesWithin, EntryState, IsTable, state_at, state_in, states_at}
use Rattle.bst_step.specs.Held.{ValuesWithin, value_in}
use Rattle.bst_step.specs.Marks.{Mark, Marked, Marks, mark_of, marked_in, marked_of, marks_in}
use Rattle.bst_step.specs.Settled.{IsRenewed}
use Rattle.bst_step.specs.Values.{IsHeld}
use Rattle.bst_step.specs.Variables.{AreNamed, VariablesWithin, named, variable_in}
use Rattle.bst_step.proofs.HeldSteps.{none_within, values_dropped, written_back}
use Rattle.bst_step.proofs.TableSteps.{table_stays}
use Rattle.bst_step.proofs.VariableSteps.{marks_named, named_within, seen_named, still_named, within_named}

-- as many values are left
as_many : (pool fresh : List ℕ) (vs later : List Held) → IsRenewed pool vs fresh later → length later ≡ length vs
as_many pool fresh vs later renewed =
    sym (length-map later (λ (h : Held). mark_of h))
    ∙ ap (λ (l : List Mark). length l) renewed.marks
    ∙ length-map vs (λ (h : Held). mark_of h)

-- what all variables hold ends where all values do
pub states_within : (end : ℕ) (names : List NameId) (values : List Held) (entries : List Entry) (rows : List ℕ) → ValuesWithin end values
    → EntriesWithin end (states_at names values entries rows)
states_within end names values entries [] within = tt
states_within end names values entries (r ∷ rows) within =
    (named_within end names (drop (r * length names) values) (values_dropped end values (r * length names) within), states_within end names values entries rows within)

all_within : (end : ℕ) (names : List NameId) (values : List Held) (entries : List Entry) (rows : List ℕ) → EntriesWithin end (states_at names values entries rows)
    → All (λ (r : ℕ). VariablesWithin end (named names (drop (r * length names) values))) rows
all_within end names values entries [] within = All-nil (λ (r : ℕ). VariablesWithin end (named names (drop (r * length names) values)))
all_within end names values entries (r ∷ rows) within =
    All-cons (λ (s : ℕ). VariablesWithin end (named names (drop (s * length names) values))) r rows within.0 (all_within end names values entries rows within.1)

from_within : (end at n : ℕ) (names : List NameId) (values : List Held) → length values ≡ (at + n) * length names
    → All (λ (r : ℕ). VariablesWithin end (named names (drop (r * length names) values))) (range_with_len at n)
    → ValuesWithin end (drop (at * length names) values)
from_within end at zero names values many all =
    let same : at + 0 ≡ at = omega arith in
    subst (λ (l : List Held). ValuesWithin end l)
    (sym (drop_all (at * length names) values (omega (arith, many, ap (λ (k : ℕ). k * length names) same)))) tt
from_within end at (suc n) names values many all =
    let next : at + suc n ≡ at + 1 + n = omega arith in
    let behind : at * length names + length names ≡ (at + 1) * length names =
    sym (suc-mul at (length names)) ∙ ap (λ (k : ℕ). k * length names) (sym (add-one at)) in
    within_named end names (drop (at * length names) values)
    (All-head (λ (r : ℕ). VariablesWithin end (named names (drop (r * length names) values))) at (range_with_len (at + 1) n) all)
    (subst (λ (l : List Held). ValuesWithin end l)
    (sym (drop-drop (length names) (at * length names) values ∙ ap (λ (k : ℕ). drop k values) behind))
    (from_within end (at + 1) n names values (many ∙ ap (λ (k : ℕ). k * length names) next)
    (All-tail (λ (r : ℕ). VariablesWithin end (named names (drop (r * length names) values))) at (range_with_len (at + 1) n) all)))

pub table_within : (end : ℕ) (names : List NameId) (values : List Held) (entries : List Entry) (rows : List ℕ)
    → IsTable (length names) values entries rows → EntriesWithin end (states_at names values entries rows) → ValuesWithin end values
table_within end names values entries rows table within =
    let all : 0 + length entries ≡ length entries = omega arith in
    subst (λ (k : ℕ). ValuesWithin end (drop k values)) (zero-mul (length names))
    (from_within end 0 (length entries) names values (table.many ∙ ap (λ (k : ℕ). k * length names) (sym all))
    (All-permutation (λ (r : ℕ). VariablesWithin end (named names (drop (r * length names) values))) rows (range_with_len 0 (length entries))
    (IsPermutation-sym (range_with_len 0 (length entries)) rows table.permuted) (all_within end names values entries rows within)))

-- values that are seen as the same are so in the entries, and so are their marks
pub states_seen : (a b : List ℕ) (names : List NameId) (xs ys : List Held) (entries : List Entry) (rows : List ℕ) → map (value_in a) xs ≡ map (value_in b) ys
    → map (state_in a) (states_at names xs entries rows) ≡ map (state_in b) (states_at names ys entries rows)
states_seen a b names xs ys entries [] same = refl
states_seen a b names xs ys entries (r ∷ rows) same =
    ap (λ (vs : List config.Variable).
    let e : config.EntryState = record { entry = get_or entries r nothing; variables = vs; position = r } in
    e ∷ map (state_in a) (states_at names xs entries rows))
    (seen_named a b names (drop (r * length names) xs) (drop (r * length names) ys)
    (sym (drop-map (value_in a) (r * length names) xs) ∙ ap (λ (l : List Value). drop (r * length names) l) same ∙ drop-map (value_in b) (r * length names) ys))
    ∙ ap (λ (l : List config.EntryState). state_in b (state_at names ys entries r) ∷ l) (states_seen a b names xs ys entries rows same)

pub states_marked : (names : List NameId) (xs ys : List Held) (entries : List Entry) (rows : List ℕ) → map mark_of xs ≡ map mark_of ys
    → map marked_in (states_at names xs entries rows) ≡ map marked_in (states_at names ys entries rows)
states_marked names xs ys entries [] same = refl
states_marked names xs ys entries (r ∷ rows) same =
    ap (λ (l : List Marked). l ∷ map marked_in (states_at names xs entries rows))
    (marks_named names (drop (r * length names) xs) (drop (r * length names) ys)
    (sym (drop-map mark_of (r * length names) xs) ∙ ap (λ (l : List Mark). drop (r * length names) l) same ∙ drop-map mark_of (r * length names) ys))
    ∙ ap (λ (l : List (List Marked)). marked_in (state_at names ys entries r) ∷ l) (states_marked names xs ys entries rows same)

-- values that were lent of a vector are written back, so many as it has
module _ (pool fresh : List ℕ) (lent values later : List Held) (n : ℕ) (same : lent ≡ values) (count : length lent ≡ n)
    (renewed : IsRenewed pool lent fresh later) where
  abbrev back : List Held
  back = take n (later ++ drop (length later) values)

  written : back ≡ later
  written =
      written_back (λ (l : List Held). later) lent values later (drop (length later) values) n (as_many pool fresh lent later renewed) same count refl

  as_long : length back ≡ length values
  as_long =
      ap (λ (l : List Held). length l) written ∙ as_many pool fresh lent later renewed ∙ ap (λ (l : List Held). length l) same

  all_end : ValuesWithin (length fresh) back
  all_end = subst (λ (l : List Held). ValuesWithin (length fresh) l) (sym written) renewed.within

  all_seen : map (value_in fresh) back ≡ map (value_in pool) values
  all_seen = ap (λ (l : List Held). map (value_in fresh) l) written ∙ renewed.seen ∙ ap (λ (l : List Held). map (value_in pool) l) same

  all_marked : map mark_of back ≡ map mark_of values
  all_marked = ap (λ (l : List Held). map mark_of l) written ∙ renewed.marks ∙ ap (λ (l : List Held). map mark_of l) same

  -- the variables that hold them
  module _ (names : List NameId) where
    pub variables_named : (places : List ℕ) → AreNamed places names values → AreNamed places names back
    variables_named places all = still_named places names values back as_long all

    pub variables_end : VariablesWithin (length fresh) (named names back)
    variables_end = named_within (length fresh) names back all_end

    pub variables_seen : (seen : List Variable) → named names values ≡ seen → map (variable_in fresh) (named names back) ≡ map (variable_in pool) seen
    variables_seen seen is =
        seen_named fresh pool names back values all_seen ∙ ap (λ (vs : List Variable). map (variable_in pool) vs) is

    pub variables_marked : (seen : List Variable) → named names values ≡ seen → map marked_of (named names back) ≡ map marked_of seen
    variables_marked seen is = marks_named names back values all_marked ∙ ap (λ (vs : List Variable). map marked_of vs) is

-- the entries that hold values are those that hold them where they are renewed
module _ (pool fresh : List ℕ) (values later : List Held) (renewed : IsRenewed pool values fresh later) (names : List NameId) (entries : List Entry)
    (rows : List ℕ) where
  pub table_whole : IsTable (length names) values entries rows → IsTable (length names) later entries rows
  table_whole table = table_stays (length names) values later entries rows (as_many pool fresh values later renewed) table

  pub table_end : EntriesWithin (length fresh) (states_at names later entries rows)
  table_end = states_within (length fresh) names later entries rows renewed.within

  pub table_seen : (seen : List EntryState) → states_at names values entries rows ≡ seen
      → map (state_in fresh) (states_at names later entries rows) ≡ map (state_in pool) seen
  table_seen seen is =
      states_seen fresh pool names later values entries rows renewed.seen ∙ ap (λ (es : List EntryState). map (state_in pool) es) is

  pub table_marked : (seen : List EntryState) → states_at names values entries rows ≡ seen
      → map marked_in (states_at names later entries rows) ≡ map marked_in seen
  table_marked seen is = states_marked names later values entries rows renewed.marks ∙ ap (λ (es : List EntryState). map marked_in es) is

-- the variables that are renewed stand in the pool
pub held_renewed : (fresh lent : List ℕ) (hs : List Held) (gs : List Variable) (es : List EntryState) → length hs ≤ 0 → lent ≡ fresh
    → VariablesWithin (length fresh) gs → EntriesWithin (length fresh) es → IsHeld fresh (length lent) hs gs es
held_renewed fresh lent hs gs es none same globals entries = record {
  on_stack = none_within (length fresh) hs none;
  in_globals = subst (λ (l : List ℕ). VariablesWithin (length l) gs) (sym same) globals;
  in_entries = subst (λ (l : List ℕ). EntriesWithin (length l) es) (sym same) entries;
  in_front = omega (arith, ap (λ (l : List ℕ). length l) same);
}

pub marks_renewed : (hs : List Held) (gs later : List Variable) (es more : List EntryState) → map marked_of later ≡ map marked_of gs
    → map marked_in more ≡ map marked_in es → marks_in hs later more ≡ marks_in hs gs es
marks_renewed hs gs later es more globals entries =
    ap (λ (m : List Marked). let all : Marks = record { stack = map mark_of hs; globals = m; entries = map marked_in more } in all) globals
    ∙ ap (λ (m : List (List Marked)). let all : Marks = record { stack = map mark_of hs; globals = map marked_of gs; entries = m } in all) entries
