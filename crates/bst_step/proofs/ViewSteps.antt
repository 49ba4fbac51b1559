-- What is done with values as they are held, as it is seen.
use Rattle.std.proofs.Common.{◌≡◌, ℕ, zero, suc, ◌-◌, ◌<◌, ◌≤◌, le_refl, refl, sym, ap, ◌∙◌, List, [], ◌∷◌, ◌++◌, drop, get_or, length, map, slice_get, take, Option, Some, None, arith}
use Rattle.std.specs.Borrow.{Bor}
use Rattle.std.specs.Option.{option_map, IfSome}
use Rattle.std.proofs.Math.ListN.{get_or-map, set}
use Rattle.std.proofs.lemmas.Option.{slice_get-map}
use Rattle.std.proofs.Math.Seq.{drop-append_seam, take-append_seam}
use Rattle.std.proofs.lemmas.List.{drop-append-le, take_all, take_rest}
use Rattle.name_table.specs.declared.names.NameId.{NameId}
use Rattle.bst_meaning.specs.declared.value.Value.{Value}
use Rattle.bst_meaning.specs.declared.value.Value.TheVariants.{Str}
use Rattle.bst_meaning.specs.Config as config
use Rattle.bst_meaning.specs.Machine.{with_entry_variable, with_variable}
use Rattle.bst_meaning.specs.Sorting.{string_of}
use Rattle.bst_step.specs.declared.held.Held.{Held}
use Rattle.bst_step.specs.declared.held.Held.TheVariants.{Int, Str as LentStr, Empty, Missing, Func, Made}
use Rattle.bst_step.specs.declared.variables.Variable.{Variable}
use Rattle.bst_step.specs.EntryStates.{EntryState, state_in, with_held_in}
use Rattle.bst_step.specs.Held.{end_of, lent_of, part_from, value_in}
use Rattle.bst_step.specs.Stack.{doubled, swapped}
use Rattle.bst_step.specs.Values.{Holding, cut, given_globally, given_in_entry, holding_in, joined}
use Rattle.bst_step.specs.Variables.{variable_in, with_held}
use Rattle.bst_step.proofs.HeldSteps.{same_value}
use Rattle.bst_step.proofs.ValueSteps.{with_entry_held, with_variable_held}

-- what was appended to a pool
pub made_bytes : (pool later bytes : List ℕ) → later ≡ pool ++ bytes → take (length bytes) (drop (length pool) later) ≡ bytes
made_bytes pool later bytes is =
    ap (λ (l : List ℕ). take (length bytes) (drop (length pool) l)) is
    ∙ ap (λ (l : List ℕ). take (length bytes) l) (drop-append_seam pool bytes)
    ∙ take_all (length bytes) bytes (le_refl (length bytes))

pub front_stays : (pool later bytes : List ℕ) → later ≡ pool ++ bytes → take (length pool) later ≡ pool
front_stays pool later bytes is = ap (λ (l : List ℕ). take (length pool) l) is ∙ take-append_seam pool bytes

-- what stands at the end of a pool, and what is appended to it
pub joined_made : (pool later a b : List ℕ) (start : ℕ) → start ≤ length pool → drop start pool ≡ a → later ≡ pool ++ b
    → take (length later - start) (drop start later) ≡ a ++ b
joined_made pool later a b start within last is =
    take_rest later start
    ∙ ap (λ (l : List ℕ). drop start l) is
    ∙ drop-append-le start pool b within
    ∙ ap (λ (l : List ℕ). l ++ b) last

-- what is dropped
pub dropped_view : (pool : List ℕ) (n : ℕ) (hs : List Held) → map (value_in pool) (drop n hs) ≡ drop n (map (value_in pool) hs)
dropped_view pool zero hs = refl
dropped_view pool (suc n) [] = refl
dropped_view pool (suc n) (h ∷ hs) = dropped_view pool n hs

-- the top, whose value is seen
pub top_view : (pool : List ℕ) (hs : List Held) (h : Held) (v : Value) → hs ≡ h ∷ drop 1 hs → v ≡ value_in pool h
    → map (value_in pool) hs ≡ v ∷ drop 1 (map (value_in pool) hs)
top_view pool hs h v is value =
    ap (λ (l : List Held). map (value_in pool) l) is
    ∙ ap (λ (w : Value). w ∷ map (value_in pool) (drop 1 hs)) (sym value)
    ∙ ap (λ (l : List Value). v ∷ l) (dropped_view pool 1 hs)

-- the top, whose bytes are lent
lent_value : (pool : List ℕ) (h : Held) (bytes : List ℕ) → lent_of h ≡ Some bytes → Str bytes ≡ value_in pool h
lent_value pool (LentStr lent) bytes is = let same : bytes ≡ lent.now = cc in ap Str same
lent_value pool Empty bytes is = let same : bytes ≡ [] = cc in ap Str same
lent_value pool (Int n) bytes is = absurd (cc)
lent_value pool (Missing name) bytes is = absurd (cc)
lent_value pool (Func target) bytes is = absurd (cc)
lent_value pool (Made start count) bytes is = absurd (cc)

pub lent_view : (pool : List ℕ) (hs : List Held) (h : Held) (o : Option (Bor (List ℕ))) → hs ≡ h ∷ drop 1 hs
    → option_map (λ (bytes : Bor (List ℕ)). bytes.now) o ≡ lent_of h
    → IfSome o (λ bytes. map (value_in pool) hs ≡ Str bytes.now ∷ drop 1 (map (value_in pool) hs))
lent_view pool hs h None is lent = tt
lent_view pool hs h (Some bytes) is lent = top_view pool hs h (Str bytes.now) is (lent_value pool h bytes.now (sym lent))

-- the value at a depth
pub value_below : (pool : List ℕ) (hs : List Held) (i : ℕ) (h : Held) (v : Value) → h ≡ get_or hs i h → v ≡ value_in pool h
    → v ≡ get_or (map (value_in pool) hs) i v
value_below pool hs i h v here is =
    is
    ∙ ap (λ (k : Held). value_in pool k) here
    ∙ sym (get_or-map (value_in pool) hs i h)
    ∙ ap (λ (d : Value). get_or (map (value_in pool) hs) i d) (sym is)

-- there are as many as the depth of a value
pub is_there : (hs : List Held) (n : ℕ) (h : Held) → slice_get hs n ≡ Some h → n < length hs
is_there [] n h is = absurd (cc)
is_there (x ∷ hs) zero h is = omega arith
is_there (x ∷ hs) (suc n) h is = omega (arith, is_there hs n h is)

pub second_left : (hs fewer : List Held) (h : Held) → slice_get hs 1 ≡ Some h → fewer ≡ drop 1 hs → 0 < length fewer
second_left [] fewer h is left = absurd (cc)
second_left (x ∷ []) fewer h is left = absurd (cc)
second_left (x ∷ y ∷ hs) fewer h is left = omega (arith, ap (λ (l : List Held). length l) left)

-- what is seen at a place is what stands there
pub seen_at : {A : Type 0} (pool : List ℕ) (hs : List Held) (room : ℕ) (gs : List Variable) (es : List EntryState) (seen : Holding) (at : ℕ)
    (f : config.EntryState → A) → holding_in pool hs room gs es ≡ seen
    → option_map (λ (e : EntryState). f (state_in pool e)) (slice_get es at) ≡ option_map f (slice_get seen.entries at)
seen_at {A} pool hs room gs es seen at f is =
    by (slice_get es at)
    ∙ ap (λ (o : Option config.EntryState). option_map f o) (sym (slice_get-map (state_in pool) es at))
    ∙ ap (λ (h : Holding). option_map f (slice_get h.entries at)) is
  where
    by : (o : Option EntryState) → option_map (λ (e : EntryState). f (state_in pool e)) o ≡ option_map f (option_map (state_in pool) o)
    by None = refl
    by (Some e) = refl

-- the top once more
pub doubled_view : (pool : List ℕ) (hs : List Held) (h : Held) → hs ≡ h ∷ drop 1 hs
    → map (value_in pool) (h ∷ hs) ≡ doubled (map (value_in pool) hs)
doubled_view pool [] h is = absurd (cc)
doubled_view pool (x ∷ hs) h is =
    let same : h ≡ x = cc in ap (λ (k : Held). value_in pool k ∷ value_in pool x ∷ map (value_in pool) hs) same

-- the two topmost are exchanged
pub swapped_view : (pool : List ℕ) (hs middle more : List Held) (b a : Held) → b ≡ get_or hs 0 b → slice_get hs 1 ≡ Some a
    → middle ≡ set hs 1 b → more ≡ a ∷ drop 1 middle → map (value_in pool) more ≡ swapped (map (value_in pool) hs)
swapped_view pool [] middle more b a top below second first = absurd (cc)
swapped_view pool (x ∷ []) middle more b a top below second first = absurd (cc)
swapped_view pool (x ∷ y ∷ hs) middle more b a top below second first =
    let other : a ≡ y = cc in
    ap (λ (l : List Held). map (value_in pool) l) (first ∙ ap (λ (l : List Held). a ∷ drop 1 l) second)
    ∙ ap (λ (k : Held). value_in pool k ∷ value_in pool b ∷ map (value_in pool) hs) other
    ∙ ap (λ (k : Held). value_in pool y ∷ value_in pool k ∷ map (value_in pool) hs) top

-- the two topmost strings are joined
pub joined_view : (pool later : List ℕ) (hs more : List Held) (b a h : Held) → b ≡ get_or hs 0 b → slice_get hs 1 ≡ Some a
    → more ≡ h ∷ drop 1 (drop 1 hs) → map (value_in later) hs ≡ map (value_in pool) hs
    → value_in later h ≡ Str (string_of (value_in pool a) ++ string_of (value_in pool b))
    → map (value_in later) more ≡ joined (map (value_in pool) hs)
joined_view pool later [] more b a h top below is same value = absurd (cc)
joined_view pool later (x ∷ []) more b a h top below is same value = absurd (cc)
joined_view pool later (x ∷ y ∷ hs) more b a h top below is same value =
    let second : a ≡ y = cc in
    ap (λ (l : List Held). map (value_in later) l) is
    ∙ ap (λ (v : Value). v ∷ map (value_in later) hs) value
    ∙ ap (λ (k : Held). Str (string_of (value_in pool k) ++ string_of (value_in pool b)) ∷ map (value_in later) hs) second
    ∙ ap (λ (k : Held). Str (string_of (value_in pool y) ++ string_of (value_in pool k)) ∷ map (value_in later) hs) top
    ∙ ap (λ (l : List Value). Str (string_of (value_in pool y) ++ string_of (value_in pool x)) ∷ drop 2 l) same

-- a string on top is cut
pub cut_view : (pool : List ℕ) (hs more : List Held) (h part : Held) (from count : ℕ) → hs ≡ h ∷ drop 1 hs → more ≡ part ∷ drop 1 hs
    → value_in pool part ≡ part_from from count (value_in pool h) → map (value_in pool) more ≡ cut from count (map (value_in pool) hs)
cut_view pool [] more h part from count top is value = absurd (cc)
cut_view pool (x ∷ hs) more h part from count top is value =
    let same : h ≡ x = cc in
    ap (λ (l : List Held). map (value_in pool) l) is
    ∙ ap (λ (v : Value). v ∷ map (value_in pool) hs) value
    ∙ ap (λ (k : Held). part_from from count (value_in pool k) ∷ map (value_in pool) hs) same

-- the top is given to a variable, over a pool in which the variables are seen as before
pub given_view : (pool later : List ℕ) (hs : List Held) (gs : List Variable) (name : NameId) (h k : Held) → hs ≡ h ∷ drop 1 hs
    → value_in later k ≡ value_in pool h → map (variable_in later) gs ≡ map (variable_in pool) gs
    → map (variable_in later) (with_held (record { name = name; value = k }) gs) ≡ given_globally name (map (value_in pool) hs) (map (variable_in pool) gs)
given_view pool later [] gs name h k is same others = absurd (cc)
given_view pool later (x ∷ hs) gs name h k is same others =
    let top : h ≡ x = cc in
    with_variable_held later (record { name = name; value = k }) gs
    ∙ ap (λ (v : Value). with_variable (record { name = name; value = v }) (map (variable_in later) gs)) (same ∙ ap (λ (y : Held). value_in pool y) top)
    ∙ ap (λ (vs : List config.Variable). with_variable (record { name = name; value = value_in pool x }) vs) others

pub given_in_view : (pool later : List ℕ) (hs : List Held) (es : List EntryState) (name : NameId) (at : ℕ) (h k : Held) → hs ≡ h ∷ drop 1 hs
    → value_in later k ≡ value_in pool h → map (state_in later) es ≡ map (state_in pool) es
    → map (state_in later) (with_held_in (record { name = name; value = k }) at es) ≡ given_in_entry name (Some at) (map (value_in pool) hs) (map (state_in pool) es)
given_in_view pool later [] es name at h k is same others = absurd (cc)
given_in_view pool later (x ∷ hs) es name at h k is same others =
    let top : h ≡ x = cc in
    with_entry_held later (record { name = name; value = k }) at es
    ∙ ap (λ (v : Value). with_entry_variable (record { name = name; value = v }) (Some at) (map (state_in later) es)) (same ∙ ap (λ (y : Held). value_in pool y) top)
    ∙ ap (λ (states : List config.EntryState). with_entry_variable (record { name = name; value = value_in pool x }) (Some at) states) others

-- where there are no two values, nothing is done
pub no_second : (pool : List ℕ) (hs : List Held) → slice_get hs 1 ≡ None → swapped (map (value_in pool) hs) ≡ map (value_in pool) hs
no_second pool [] is = refl
no_second pool (h ∷ []) is = refl
no_second pool (h ∷ k ∷ hs) is = absurd (cc)

pub none_joined : (pool : List ℕ) (hs : List Held) → slice_get hs 1 ≡ None → joined (map (value_in pool) hs) ≡ map (value_in pool) hs
none_joined pool [] is = refl
none_joined pool (h ∷ []) is = refl
none_joined pool (h ∷ k ∷ hs) is = absurd (cc)

-- two strings one after the other, the first of which was brought to the end of the pool
pub joined_string : (pool one two : List ℕ) (a b : Held) (start count : ℕ) → start ≤ length one → drop start one ≡ string_of (value_in pool a)
    → take (length pool) one ≡ pool → end_of b ≤ length pool → two ≡ one ++ string_of (value_in one b) → count ≡ length two - start
    → value_in two (Made start count) ≡ Str (string_of (value_in pool a) ++ string_of (value_in pool b))
joined_string pool one two a b start count within last grown here is e =
    let same : value_in one b ≡ value_in pool b =
    same_value (length pool) one pool (grown ∙ sym (take_all (length pool) pool (le_refl (length pool)))) b here in
    ap (λ (n : ℕ). Str (take n (drop start two))) e
    ∙ ap Str (joined_made one two (string_of (value_in pool a)) (string_of (value_in one b)) start within last is)
    ∙ ap (λ (v : Value). Str (string_of (value_in pool a) ++ string_of v)) same
