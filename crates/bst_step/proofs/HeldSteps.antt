-- What is held over a pool stays what it is where the pool grows behind it, or loses what stands behind it.
use Rattle.std.proofs.Common.{◌≡◌, ℕ, zero, suc, ◌+◌, ◌<◌, ◌≤◌, le_refl, refl, sym, ap, subst, ◌∙◌, List, [], ◌∷◌, ◌++◌, drop, get_or, length, map, slice_get, take, max, Option, Some, None, nat_eq, Bool, true, false, cond, arith}
use Rattle.std.specs.Option.{option_and_then, option_map_or}
use Rattle.std.proofs.Math.Seq.{take-append_seam}
use Rattle.std.proofs.lemmas.List.{drop-take, length-take, take-take, take_all}
use Rattle.name_table.specs.declared.names.NameId.{NameId}
use Rattle.std.proofs.Math.ListN.{set}
use Rattle.bst_meaning.specs.Config as config
use Rattle.bst_meaning.specs.declared.value.Value.{Value}
use Rattle.bst_meaning.specs.declared.value.Value.TheVariants.{Str}
use Rattle.bst_step.specs.declared.held.Held.{Held}
use Rattle.bst_step.specs.declared.held.Held.TheVariants.{Int, Str as LentStr, Empty, Missing, Func, Made}
use Rattle.bst_step.specs.declared.variables.Variable.{Variable}
use Rattle.bst_step.specs.EntryStates.{EntriesWithin, EntryState, state_in, with_held_in}
use Rattle.bst_step.specs.Held.{ValuesWithin, end_of, value_in}
use Rattle.bst_step.specs.Marks.{marks_in}
use Rattle.bst_step.specs.Values.{Holding, IsHeld, holding_in}
use Rattle.bst_step.specs.Variables.{VariablesWithin, held_at, variable_in, with_held}

-- two pools that have the same bytes before a place
pub same_value : (end : ℕ) (a b : List ℕ) → take end a ≡ take end b → (h : Held) → end_of h ≤ end → value_in a h ≡ value_in b h
same_value end a b same (Int n) within = refl
same_value end a b same (LentStr bytes) within = refl
same_value end a b same Empty within = refl
same_value end a b same (Missing name) within = refl
same_value end a b same (Func target) within = refl
same_value end a b same (Made start count) within =
    let front : take (start + count) a ≡ take (start + count) b =
    sym (take-take (start + count) end a within) ∙ ap (λ (l : List ℕ). take (start + count) l) same ∙ take-take (start + count) end b within in
    ap Str (sym (drop-take start count a) ∙ ap (λ (l : List ℕ). drop start l) front ∙ drop-take start count b)

pub same_stack : (end : ℕ) (a b : List ℕ) → take end a ≡ take end b → (hs : List Held) → ValuesWithin end hs
    → map (value_in a) hs ≡ map (value_in b) hs
same_stack end a b same [] within = refl
same_stack end a b same (h ∷ hs) within =
    ap (λ v. v ∷ map (value_in a) hs) (same_value end a b same h within.0) ∙ ap (λ l. value_in b h ∷ l) (same_stack end a b same hs within.1)

pub same_variables : (end : ℕ) (a b : List ℕ) → take end a ≡ take end b → (vs : List Variable) → VariablesWithin end vs
    → map (variable_in a) vs ≡ map (variable_in b) vs
same_variables end a b same [] within = refl
same_variables end a b same (v ∷ vs) within =
    ap (λ value. record { name = v.name; value = value } ∷ map (variable_in a) vs) (same_value end a b same v.value within.0)
    ∙ ap (λ l. variable_in b v ∷ l) (same_variables end a b same vs within.1)

pub same_entries : (end : ℕ) (a b : List ℕ) → take end a ≡ take end b → (es : List EntryState) → EntriesWithin end es
    → map (state_in a) es ≡ map (state_in b) es
same_entries end a b same [] within = refl
same_entries end a b same (e ∷ es) within =
    ap (λ vs. record { entry = e.entry; variables = vs; position = e.position } ∷ map (state_in a) es)
    (same_variables end a b same e.variables within.0)
    ∙ ap (λ l. state_in b e ∷ l) (same_entries end a b same es within.1)

-- what ends before a place ends before a later one
pub stack_later : (m n : ℕ) → m ≤ n → (hs : List Held) → ValuesWithin m hs → ValuesWithin n hs
stack_later m n later [] within = tt
stack_later m n later (h ∷ hs) within = (omega (arith, later, within.0), stack_later m n later hs within.1)

pub variables_later : (m n : ℕ) → m ≤ n → (vs : List Variable) → VariablesWithin m vs → VariablesWithin n vs
variables_later m n later [] within = tt
variables_later m n later (v ∷ vs) within = (omega (arith, later, within.0), variables_later m n later vs within.1)

pub entries_later : (m n : ℕ) → m ≤ n → (es : List EntryState) → EntriesWithin m es → EntriesWithin n es
entries_later m n later [] within = tt
entries_later m n later (e ∷ es) within = (variables_later m n later e.variables within.0, entries_later m n later es within.1)

-- what is below the topmost values, and one of them
pub values_dropped : (end : ℕ) (hs : List Held) (n : ℕ) → ValuesWithin end hs → ValuesWithin end (drop n hs)
values_dropped end [] zero within = within
values_dropped end [] (suc n) within = within
values_dropped end (h ∷ hs) zero within = within
values_dropped end (h ∷ hs) (suc n) within = values_dropped end hs n within.1

pub below_within : (end : ℕ) (hs : List Held) (n : ℕ) (h : Held) → ValuesWithin end hs → slice_get hs n ≡ Some h → end_of h ≤ end
below_within end [] n h within is = absurd (cc)
below_within end (first ∷ hs) zero h within is = let same : first ≡ h = cc in omega (arith, within.0, ap (λ (k : Held). end_of k) same)
below_within end (first ∷ hs) (suc n) h within is = below_within end hs n h within.1 is

-- what a variable holds, and variables of which one holds another value
pub held_within : (end id : ℕ) (vs : List Variable) (h : Held) → VariablesWithin end vs → held_at id vs ≡ Some h → end_of h ≤ end
held_within end id [] h within is = absurd (cc)
held_within end id (v ∷ vs) h within is = by (nat_eq v.name.0 id) is (λ e. held_within end id vs h within.1 e)
  where
    by : (t : Bool) → cond t (Some v.value) (held_at id vs) ≡ Some h → (held_at id vs ≡ Some h → end_of h ≤ end) → end_of h ≤ end
    by true e later = let same : v.value ≡ h = cc in omega (arith, within.0, ap (λ (k : Held). end_of k) same)
    by false e later = later e

pub with_held_within : (end : ℕ) (new : Variable) (vs : List Variable) → end_of new.value ≤ end → VariablesWithin end vs
    → VariablesWithin end (with_held new vs)
with_held_within end new [] here within = tt
with_held_within end new (v ∷ vs) here within = by (nat_eq v.name.0 new.name.0) (with_held_within end new vs here within.1)
  where
    by : (t : Bool) → VariablesWithin end (with_held new vs) → VariablesWithin end (cond t (new ∷ vs) (v ∷ with_held new vs))
    by true later = (here, within.1)
    by false later = (within.0, later)

-- one variable more
pub one_within : (end : ℕ) (vs : List Variable) (v : Variable) → VariablesWithin end vs → end_of v.value ≤ end → VariablesWithin end (vs ++ v ∷ [])
one_within end [] v within here = (here, tt)
one_within end (first ∷ vs) v within here = (within.0, one_within end vs v within.1 here)

-- one of the values is another
stack_set : (end : ℕ) (hs : List Held) (n : ℕ) (h : Held) → end_of h ≤ end → ValuesWithin end hs → ValuesWithin end (set hs n h)
stack_set end [] n h here within = within
stack_set end (first ∷ hs) zero h here within = (here, within.1)
stack_set end (first ∷ hs) (suc n) h here within = (within.0, stack_set end hs n h here within.1)

-- an empty stack, and variables that hold nothing that was made
pub held_new : (pool : List ℕ) (hs : List Held) (gs : List Variable) (es : List EntryState) → hs ≡ [] → VariablesWithin 0 gs → EntriesWithin 0 es
    → IsHeld pool 0 hs gs es
held_new pool hs gs es none globals entries = record {
  on_stack = subst (ValuesWithin (length pool)) (sym none) tt;
  in_globals = globals;
  in_entries = entries;
  in_front = omega arith;
}

-- the pool has grown
pub longer : (pool later : List ℕ) → take (length pool) later ≡ pool → length pool ≤ length later
longer pool later front =
    omega (arith, ap (λ (l : List ℕ). length l) front, length-take (length pool) later)

-- it grows twice
pub grown_twice : (first fresh later : List ℕ) → take (length first) fresh ≡ first → take (length fresh) later ≡ fresh → take (length first) later ≡ first
grown_twice first fresh later one two =
    let short : length first ≤ length fresh = omega (arith, ap (λ (l : List ℕ). length l) one, length-take (length first) fresh) in
    sym (take-take (length first) (length fresh) later short) ∙ ap (λ (l : List ℕ). take (length first) l) two ∙ one

pub held_grown : (pool later : List ℕ) (kept : ℕ) (hs : List Held) (gs : List Variable) (es : List EntryState) → take (length pool) later ≡ pool
    → IsHeld pool kept hs gs es → IsHeld later kept hs gs es
held_grown pool later kept hs gs es front held = record {
  on_stack = stack_later (length pool) (length later) (longer pool later front) hs held.on_stack;
  in_globals = held.in_globals;
  in_entries = held.in_entries;
  in_front = omega (arith, held.in_front, longer pool later front);
}

-- it has the bytes that the other has
same_front : (pool later : List ℕ) → take (length pool) later ≡ pool → take (length pool) later ≡ take (length pool) pool
same_front pool later front = front ∙ sym (take_all (length pool) pool (le_refl (length pool)))

pub stack_grown : (pool later : List ℕ) (kept : ℕ) (hs : List Held) (gs : List Variable) (es : List EntryState) → take (length pool) later ≡ pool
    → IsHeld pool kept hs gs es → map (value_in later) hs ≡ map (value_in pool) hs
stack_grown pool later kept hs gs es front held = same_stack (length pool) later pool (same_front pool later front) hs held.on_stack

pub globals_grown : (pool later : List ℕ) (kept : ℕ) (hs : List Held) (gs : List Variable) (es : List EntryState) → take (length pool) later ≡ pool
    → IsHeld pool kept hs gs es → map (variable_in later) gs ≡ map (variable_in pool) gs
globals_grown pool later kept hs gs es front held =
    same_variables (length pool) later pool (same_front pool later front) gs (variables_later kept (length pool) held.in_front gs held.in_globals)

pub entries_grown : (pool later : List ℕ) (kept : ℕ) (hs : List Held) (gs : List Variable) (es : List EntryState) → take (length pool) later ≡ pool
    → IsHeld pool kept hs gs es → map (state_in later) es ≡ map (state_in pool) es
entries_grown pool later kept hs gs es front held =
    same_entries (length pool) later pool (same_front pool later front) es (entries_later kept (length pool) held.in_front es held.in_entries)

-- so the variables are seen as before
pub globals_seen : (pool later : List ℕ) (kept : ℕ) (hs : List Held) (room : ℕ) (gs : List Variable) (es : List EntryState) (seen : Holding)
    → take (length pool) later ≡ pool → IsHeld pool kept hs gs es → holding_in pool hs room gs es ≡ seen → map (variable_in later) gs ≡ seen.globals
globals_seen pool later kept hs room gs es seen front held is =
    globals_grown pool later kept hs gs es front held ∙ ap (λ (h : Holding). h.globals) is

pub entries_seen : (pool later : List ℕ) (kept : ℕ) (hs : List Held) (room : ℕ) (gs : List Variable) (es : List EntryState) (seen : Holding)
    → take (length pool) later ≡ pool → IsHeld pool kept hs gs es → holding_in pool hs room gs es ≡ seen → map (state_in later) es ≡ seen.entries
entries_seen pool later kept hs room gs es seen front held is =
    entries_grown pool later kept hs gs es front held ∙ ap (λ (h : Holding). h.entries) is

-- a value more is on the stack, whose bytes stand in the pool, or fewer are
pub held_pushed : (pool : List ℕ) (kept : ℕ) (h : Held) (hs more : List Held) (gs : List Variable) (es : List EntryState) → more ≡ h ∷ hs
    → end_of h ≤ length pool → IsHeld pool kept hs gs es → IsHeld pool kept more gs es
held_pushed pool kept h hs more gs es is within held = record {
  on_stack = subst (ValuesWithin (length pool)) (sym is) (within, held.on_stack);
  in_globals = held.in_globals;
  in_entries = held.in_entries;
  in_front = held.in_front;
}

pub lent_pushed : (pool : List ℕ) (kept : ℕ) (h : Held) (hs more : List Held) (gs : List Variable) (es : List EntryState)
    → more ≡ h ∷ hs → end_of h ≡ 0 → IsHeld pool kept hs gs es → IsHeld pool kept more gs es
lent_pushed pool kept h hs more gs es is lent held = held_pushed pool kept h hs more gs es is (omega (arith, lent)) held

pub held_dropped : (pool : List ℕ) (kept n : ℕ) (hs fewer : List Held) (gs : List Variable) (es : List EntryState) → fewer ≡ drop n hs
    → IsHeld pool kept hs gs es → IsHeld pool kept fewer gs es
held_dropped pool kept n hs fewer gs es is held = record {
  on_stack = subst (ValuesWithin (length pool)) (sym is) (values_dropped (length pool) hs n held.on_stack);
  in_globals = held.in_globals;
  in_entries = held.in_entries;
  in_front = held.in_front;
}

-- so many of the topmost values are replaced by one
pub held_replaced : (pool : List ℕ) (kept n : ℕ) (h : Held) (hs more : List Held) (gs : List Variable) (es : List EntryState) → more ≡ h ∷ drop n hs
    → end_of h ≤ length pool → IsHeld pool kept hs gs es → IsHeld pool kept more gs es
held_replaced pool kept n h hs more gs es is within held =
    held_pushed pool kept h (drop n hs) more gs es is within (held_dropped pool kept n hs (drop n hs) gs es refl held)

-- the top is what stands there
pub top_end : (pool : List ℕ) (kept : ℕ) (hs : List Held) (gs : List Variable) (es : List EntryState) (h : Held) → 0 < length hs → h ≡ get_or hs 0 h
    → IsHeld pool kept hs gs es → end_of h ≤ length pool
top_end pool kept [] gs es h some is held = absurd (omega (arith, some))
top_end pool kept (first ∷ hs) gs es h some is held = omega (arith, held.on_stack.0, ap (λ (k : Held). end_of k) is)

-- one of the values is another
pub held_set : (pool : List ℕ) (kept n : ℕ) (h : Held) (hs more : List Held) (gs : List Variable) (es : List EntryState) → more ≡ set hs n h
    → end_of h ≤ length pool → IsHeld pool kept hs gs es → IsHeld pool kept more gs es
held_set pool kept n h hs more gs es is within held = record {
  on_stack = subst (ValuesWithin (length pool)) (sym is) (stack_set (length pool) hs n h within held.on_stack);
  in_globals = held.in_globals;
  in_entries = held.in_entries;
  in_front = held.in_front;
}

-- the entries are others, which hold as little
pub held_sorted : (pool : List ℕ) (kept : ℕ) (hs : List Held) (gs : List Variable) (es later : List EntryState)
    → (EntriesWithin kept es → EntriesWithin kept later) → IsHeld pool kept hs gs es → IsHeld pool kept hs gs later
held_sorted pool kept hs gs es later moved held = record {
  on_stack = held.on_stack;
  in_globals = held.in_globals;
  in_entries = moved held.in_entries;
  in_front = held.in_front;
}

-- what is on the stack stands in the pool, and what variables hold does
pub stack_end : (pool : List ℕ) (kept : ℕ) (hs : List Held) (gs : List Variable) (es : List EntryState) (n : ℕ) (h : Held)
    → IsHeld pool kept hs gs es → slice_get hs n ≡ Some h → end_of h ≤ length pool
stack_end pool kept hs gs es n h held is = below_within (length pool) hs n h held.on_stack is

pub top_within : (pool : List ℕ) (kept : ℕ) (hs : List Held) (gs : List Variable) (es : List EntryState) (h : Held)
    → IsHeld pool kept hs gs es → hs ≡ h ∷ drop 1 hs → end_of h ≤ length pool
top_within pool kept hs gs es h held top = stack_end pool kept hs gs es 0 h held (ap (λ (l : List Held). slice_get l 0) top)

-- the top stands in the pool as it was lent
pub top_in_lent : (pool lent : List ℕ) (kept : ℕ) (hs : List Held) (gs : List Variable) (es : List EntryState) (h : Held)
    → IsHeld pool kept hs gs es → hs ≡ h ∷ drop 1 hs → lent ≡ pool → end_of h ≤ length lent
top_in_lent pool lent kept hs gs es h held top is =
    omega (arith, top_within pool kept hs gs es h held top, ap (λ (l : List ℕ). length l) is)

pub global_end : (pool : List ℕ) (kept : ℕ) (hs : List Held) (gs : List Variable) (es : List EntryState) (id : ℕ) (h : Held)
    → IsHeld pool kept hs gs es → held_at id gs ≡ Some h → end_of h ≤ length pool
global_end pool kept hs gs es id h held is = omega (arith, held.in_front, held_within kept id gs h held.in_globals is)

entry_within : (end at : ℕ) (es : List EntryState) (e : EntryState) → EntriesWithin end es → slice_get es at ≡ Some e → VariablesWithin end e.variables
entry_within end at [] e within is = absurd (cc)
entry_within end zero (first ∷ es) e within is =
    let same : first ≡ e = cc in subst (λ (s : EntryState). VariablesWithin end s.variables) same within.0
entry_within end (suc at) (first ∷ es) e within is = entry_within end at es e within.1 is

pub entry_end : (pool : List ℕ) (kept : ℕ) (hs : List Held) (gs : List Variable) (es : List EntryState) (at id : ℕ) (h : Held)
    → IsHeld pool kept hs gs es → option_and_then (λ (e : EntryState). held_at id e.variables) (slice_get es at) ≡ Some h → end_of h ≤ length pool
entry_end pool kept hs gs es at id h held is = by (slice_get es at) refl is
  where
    by : (o : Option EntryState) → slice_get es at ≡ o → option_and_then (λ (e : EntryState). held_at id e.variables) o ≡ Some h → end_of h ≤ length pool
    by None there e = absurd (cc)
    by (Some s) there e =
        omega (arith, held.in_front, held_within kept id s.variables h (entry_within kept at es s held.in_entries there) e)

-- one of the entries is another
set_within : (end at : ℕ) (new : EntryState) (es : List EntryState) → VariablesWithin end new.variables → EntriesWithin end es
    → EntriesWithin end (set es at new)
set_within end at new [] here within = within
set_within end zero new (e ∷ es) here within = (here, within.1)
set_within end (suc at) new (e ∷ es) here within = (within.0, set_within end at new es here within.1)

with_held_in_within : (end at : ℕ) (new : Variable) (es : List EntryState) → end_of new.value ≤ end → EntriesWithin end es
    → EntriesWithin end (with_held_in new at es)
with_held_in_within end at new es here within = by (slice_get es at) refl
  where
    by : (o : Option EntryState) → slice_get es at ≡ o
        → EntriesWithin end (option_map_or (λ (e : EntryState). set es at (record e { variables = with_held new e.variables })) o es)
    by None is = within
    by (Some e) is =
        set_within end at (record e { variables = with_held new e.variables }) es
        (with_held_within end new e.variables here (entry_within end at es e within is)) within

-- a list that was written in a slice of it
pub written_back : {A : Type 0} (written : List A → List A) (lent xs later more : List A) (n : ℕ) → length (written lent) ≡ length lent
    → lent ≡ xs → length lent ≡ n → later ≡ written lent → take n (later ++ more) ≡ written xs
written_back {A} written lent xs later more n as_many is count same =
    let all : n ≡ length later = sym count ∙ sym as_many ∙ ap (λ (l : List A). length l) (sym same) in
    ap (λ (k : ℕ). take k (later ++ more)) all
    ∙ take-append_seam later more
    ∙ same
    ∙ ap written is

-- one variable holds another value, whose bytes stand in the pool
pub held_given : (pool : List ℕ) (kept more : ℕ) (h : Held) (name : NameId) (hs : List Held) (gs later : List Variable) (es : List EntryState)
    → end_of h ≤ length pool → more ≡ max kept (end_of h) → later ≡ with_held (record { name = name; value = h }) gs
    → IsHeld pool kept hs gs es → IsHeld pool more hs later es
held_given pool kept more h name hs gs later es here end given held =
    let last : end_of h ≤ more = omega (arith, end) in
    let first : kept ≤ more = omega (arith, end) in
    record {
      on_stack = held.on_stack;
      in_globals =
          subst (VariablesWithin more) (sym given)
          (with_held_within more (record { name = name; value = h }) gs last (variables_later kept more first gs held.in_globals));
      in_entries = entries_later kept more first es held.in_entries;
      in_front = omega (arith, held.in_front, here, end);
    }

pub held_given_in : (pool : List ℕ) (kept more at : ℕ) (h : Held) (name : NameId) (hs : List Held) (gs : List Variable) (es later : List EntryState)
    → end_of h ≤ length pool → more ≡ max kept (end_of h) → later ≡ with_held_in (record { name = name; value = h }) at es
    → IsHeld pool kept hs gs es → IsHeld pool more hs gs later
held_given_in pool kept more at h name hs gs es later here end given held =
    let last : end_of h ≤ more = omega (arith, end) in
    let first : kept ≤ more = omega (arith, end) in
    record {
      on_stack = held.on_stack;
      in_globals = variables_later kept more first gs held.in_globals;
      in_entries =
          subst (EntriesWithin more) (sym given)
          (with_held_in_within more at (record { name = name; value = h }) es last (entries_later kept more first es held.in_entries));
      in_front = omega (arith, held.in_front, here, end);
    }

-- an empty stack holds nothing
pub none_within : (end : ℕ) (hs : List Held) → length hs ≤ 0 → ValuesWithin end hs
none_within end [] none = tt
none_within end (h ∷ hs) none = absurd (omega (arith, none))

-- all but what variables may hold is let go, where the stack is empty
pub held_trimmed : (pool front : List ℕ) (kept : ℕ) (hs : List Held) (gs : List Variable) (es : List EntryState) → front ≡ take kept pool
    → length hs ≤ 0 → IsHeld pool kept hs gs es → IsHeld front kept hs gs es
held_trimmed pool front kept hs gs es is none held = record {
  on_stack = none_within (length front) hs none;
  in_globals = held.in_globals;
  in_entries = held.in_entries;
  in_front = omega (arith, held.in_front, ap (λ (l : List ℕ). length l) is, length-take kept pool);
}

same_trimmed : (pool front : List ℕ) (kept : ℕ) → front ≡ take kept pool → take kept front ≡ take kept pool
same_trimmed pool front kept is = ap (λ (l : List ℕ). take kept l) is ∙ take-take kept kept pool (le_refl kept)

pub globals_trimmed : (pool front : List ℕ) (kept : ℕ) (hs : List Held) (gs : List Variable) (es : List EntryState) → front ≡ take kept pool
    → IsHeld pool kept hs gs es → map (variable_in front) gs ≡ map (variable_in pool) gs
globals_trimmed pool front kept hs gs es is held = same_variables kept front pool (same_trimmed pool front kept is) gs held.in_globals

pub entries_trimmed : (pool front : List ℕ) (kept : ℕ) (hs : List Held) (gs : List Variable) (es : List EntryState) → front ≡ take kept pool
    → IsHeld pool kept hs gs es → map (state_in front) es ≡ map (state_in pool) es
entries_trimmed pool front kept hs gs es is held = same_entries kept front pool (same_trimmed pool front kept is) es held.in_entries

-- an empty stack is seen as the same over any pool
pub none_seen : (pool later : List ℕ) (hs : List Held) → length hs ≤ 0 → map (value_in later) hs ≡ map (value_in pool) hs
none_seen pool later [] none = refl
none_seen pool later (h ∷ hs) none = absurd (omega (arith, none))

-- what is seen stays where all but what variables may hold is let go
pub same_holding : (pool front : List ℕ) (kept room : ℕ) (hs : List Held) (gs : List Variable) (es : List EntryState) → front ≡ take kept pool
    → length hs ≤ 0 → IsHeld pool kept hs gs es → holding_in front hs room gs es ≡ holding_in pool hs room gs es
same_holding pool front kept room hs gs es is none held =
    ap (λ (stack : List Value). let h : Holding = record { stack = stack; room = room; globals = map (variable_in front) gs; entries = map (state_in front) es; marks = marks_in hs gs es } in h)
    (none_seen pool front hs none)
    ∙ ap (λ (globals : List config.Variable). let h : Holding = record { stack = map (value_in pool) hs; room = room; globals = globals; entries = map (state_in front) es; marks = marks_in hs gs es } in h)
    (globals_trimmed pool front kept hs gs es is held)
    ∙ ap (λ (entries : List config.EntryState). let h : Holding = record { stack = map (value_in pool) hs; room = room; globals = map (variable_in pool) gs; entries = entries; marks = marks_in hs gs es } in h)
    (entries_trimmed pool front kept hs gs es is held)

-- what entries hold stands in the pool as it was lent
pub entries_in_lent : (pool lent : List ℕ) (kept : ℕ) (hs : List Held) (gs : List Variable) (es : List EntryState) → IsHeld pool kept hs gs es
    → lent ≡ pool → EntriesWithin (length lent) es
entries_in_lent pool lent kept hs gs es held is =
    entries_later kept (length lent) (omega (arith, held.in_front, ap (λ (l : List ℕ). length l) is)) es held.in_entries
