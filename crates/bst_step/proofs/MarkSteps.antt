-- The marks of values as they are held.
use Rattle.std.proofs.Common.{◌≡◌, ℕ, ℤ, zero, suc, nat_eq, ◌+◌, ◌≤◌, arith, refl, sym, ap, ◌∙◌, subst, cond, Bool, true, false, List, [], ◌∷◌, ◌++◌, drop, get_or, length, map, slice_get, Option, None, Some}
use Rattle.std.specs.Option.{IfSome, option_and_then, option_map, option_map_or}
use Rattle.std.proofs.Math.ListN.{set}
use Rattle.std.proofs.lemmas.List.{drop-map, map-set, map_push}
use Rattle.std.proofs.lemmas.Option.{slice_get-map}
use Rattle.name_table.specs.declared.names.NameId.{NameId}
use Rattle.bst_step.specs.declared.held.Held.{Held}
use Rattle.bst_step.specs.declared.held.Held.TheVariants as held
use Rattle.bst_step.specs.declared.held.Held.TheVariants.{Int, Str, Missing, Func}
use Rattle.bst_step.specs.declared.variables.Variable.{Variable}
use Rattle.bst_meaning.specs.Config as config
use Rattle.bst_meaning.specs.EntryLists.{Entry}
use Rattle.bst_step.specs.EntryStates.{EntryState, state_in, states_from, with_held_in}
use Rattle.bst_step.specs.Held.{lent_of, value_in}
use Rattle.bst_step.specs.Marks.{AreLent, AreLentIn, Lent, Made, Mark, Marked, Marks, NoString, found, given_globally, given_in_entry, lent_at, lent_mark, lent_marked, lent_marked_in, mark_at, mark_of, marked_in, marked_of, marks_in, with_entry_marked, with_marked}
use Rattle.bst_step.specs.Marks as marks
use Rattle.bst_step.specs.Stack.{doubled, swapped}
use Rattle.bst_step.specs.Variables.{held_at, variable_in, with_held}

-- the stack alone has other marks
pub stack_marked : (hs more : List Held) (gs : List Variable) (es : List EntryState) (marks : List Mark) → map mark_of more ≡ marks
    → marks_in more gs es ≡ record (marks_in hs gs es) { stack = marks }
stack_marked hs more gs es marks is = ap (λ (l : List Mark). let m : Marks = record (marks_in hs gs es) { stack = l } in m) is

-- a value stands in the place of the topmost ones
pub put_marks : (n : ℕ) (hs more : List Held) (h : Held) (mark : Mark) → more ≡ h ∷ drop n hs → mark_of h ≡ mark
    → map mark_of more ≡ mark ∷ drop n (map mark_of hs)
put_marks n hs more h mark is own =
    ap (λ (l : List Held). map mark_of l) is
    ∙ ap (λ (m : Mark). m ∷ map mark_of (drop n hs)) own
    ∙ ap (λ (l : List Mark). mark ∷ l) (sym (drop-map mark_of n hs))

pub doubled_marks : (hs more : List Held) (h : Held) → hs ≡ h ∷ drop 1 hs → more ≡ h ∷ hs → map mark_of more ≡ doubled (map mark_of hs)
doubled_marks [] more h is adds = absurd (cc)
doubled_marks (x ∷ hs) more h is adds =
    let same : h ≡ x = cc in
    ap (λ (l : List Held). map mark_of l) adds ∙ ap (λ (k : Held). mark_of k ∷ mark_of x ∷ map mark_of hs) same

pub swapped_marks : (hs middle more : List Held) (b a : Held) → b ≡ get_or hs 0 b → slice_get hs 1 ≡ Some a
    → middle ≡ set hs 1 b → more ≡ a ∷ drop 1 middle → map mark_of more ≡ swapped (map mark_of hs)
swapped_marks [] middle more b a top below second first = absurd (cc)
swapped_marks (x ∷ []) middle more b a top below second first = absurd (cc)
swapped_marks (x ∷ y ∷ hs) middle more b a top below second first =
    let other : a ≡ y = cc in
    ap (λ (l : List Held). map mark_of l) (first ∙ ap (λ (l : List Held). a ∷ drop 1 l) second)
    ∙ ap (λ (k : Held). mark_of k ∷ mark_of b ∷ map mark_of hs) other
    ∙ ap (λ (k : Held). mark_of y ∷ mark_of k ∷ map mark_of hs) top

-- where there are no two values, none are exchanged
pub none_swapped : (hs : List Held) → slice_get hs 1 ≡ None → swapped (map mark_of hs) ≡ map mark_of hs
none_swapped [] is = refl
none_swapped (h ∷ []) is = refl
none_swapped (h ∷ k ∷ hs) is = absurd (cc)

-- a string stands in the place of the two that are joined
pub joined_marks : (hs more : List Held) (h : Held) → more ≡ h ∷ drop 1 (drop 1 hs) → mark_of h ≡ Made
    → map mark_of more ≡ Made ∷ drop 2 (map mark_of hs)
joined_marks [] more h is own = put_marks 2 [] more h Made is own
joined_marks (x ∷ []) more h is own = put_marks 2 (x ∷ []) more h Made is own
joined_marks (x ∷ y ∷ hs) more h is own = put_marks 2 (x ∷ y ∷ hs) more h Made is own

-- there is one value at most
pub no_two : (hs : List Held) → slice_get hs 1 ≡ None → length hs ≤ 1
no_two [] is = omega arith
no_two (h ∷ []) is = omega arith
no_two (h ∷ k ∷ hs) is = absurd (cc)

-- there is no top
pub none_doubled : (hs : List Held) (gs : List Variable) (es : List EntryState) → hs ≡ [] → marks_in hs gs es ≡ marks.doubled (marks_in hs gs es)
none_doubled [] gs es is = refl
none_doubled (h ∷ hs) gs es is = absurd (cc)

-- a part of a string stands in its place
pub cut_marks : (hs more : List Held) (h part : Held) → hs ≡ h ∷ drop 1 hs → more ≡ part ∷ drop 1 hs → mark_of part ≡ mark_of h
    → map mark_of more ≡ map mark_of hs
cut_marks [] more h part top is same = absurd (cc)
cut_marks (x ∷ hs) more h part top is same =
    let own : h ≡ x = cc in
    ap (λ (l : List Held). map mark_of l) is
    ∙ ap (λ (m : Mark). m ∷ map mark_of hs) (same ∙ ap mark_of own)

-- the mark of the variable with an id
chosen : (b : Bool) (v : Variable) (other : Option Mark) (later : Option Held) → other ≡ option_map mark_of later
    → cond b (Some (mark_of v.value)) other ≡ option_map mark_of (cond b (Some v.value) later)
chosen true v other later is = refl
chosen false v other later is = is

pub mark_held : (id : ℕ) (vs : List Variable) → mark_at id (map marked_of vs) ≡ option_map mark_of (held_at id vs)
mark_held id [] = refl
mark_held id (v ∷ vs) = chosen (nat_eq v.name.0 id) v (mark_at id (map marked_of vs)) (held_at id vs) (mark_held id vs)

-- a variable holds a value that is no string
pub integer_marked : (id : ℕ) (vs : List Variable) (globals : List Marked) (h : Held) (o : Option ℤ) → globals ≡ map marked_of vs
    → Some h ≡ held_at id vs → IfSome o (λ n. mark_of h ≡ NoString) → IfSome o (λ n. mark_at id globals ≡ Some NoString)
integer_marked id vs globals h None seen there is = tt
integer_marked id vs globals h (Some n) seen there is =
    ap (λ (l : List Marked). mark_at id l) seen ∙ mark_held id vs
    ∙ ap (λ (held : Option Held). option_map mark_of held) (sym there) ∙ ap (λ (t : Mark). Some t) is

-- variables of which one has another value
given_to : (b : Bool) (new v : Variable) (vs : List Variable) (later : List Marked) (held : List Variable) → map marked_of held ≡ later
    → map marked_of (cond b (new ∷ vs) (v ∷ held)) ≡ cond b (marked_of new ∷ map marked_of vs) (marked_of v ∷ later)
given_to true new v vs later held is = refl
given_to false new v vs later held is = ap (λ (l : List Marked). marked_of v ∷ l) is

pub with_marked_held : (new : Variable) (vs : List Variable) → map marked_of (with_held new vs) ≡ with_marked (marked_of new) (map marked_of vs)
with_marked_held new [] = refl
with_marked_held new (v ∷ vs) =
    given_to (nat_eq v.name.0 new.name.0) new v vs (with_marked (marked_of new) (map marked_of vs)) (with_held new vs) (with_marked_held new vs)

-- the same of an entry
pub with_entry_marked_held : (new : Variable) (at : ℕ) (es : List EntryState)
    → map marked_in (with_held_in new at es) ≡ with_entry_marked (marked_of new) (Some at) (map marked_in es)
with_entry_marked_held new at es = by (slice_get es at) ∙ sym (ap (λ o. option_map_or changed o (map marked_in es)) (slice_get-map marked_in es at))
  where
    changed : List Marked → List (List Marked)
    changed variables = set (map marked_in es) at (with_marked (marked_of new) variables)

    by : (o : Option EntryState)
        → map marked_in (option_map_or (λ (e : EntryState). set es at (record e { variables = with_held new e.variables })) o es)
        ≡ option_map_or changed (option_map marked_in o) (map marked_in es)
    by None = refl
    by (Some e) =
        map-set marked_in es at (record e { variables = with_held new e.variables })
        ∙ ap (λ (variables : List Marked). set (map marked_in es) at variables) (with_marked_held new e.variables)

-- the mark of a variable of an entry
pub entry_mark_held : (id at : ℕ) (es : List EntryState)
    → option_and_then (mark_at id) (slice_get (map marked_in es) at) ≡ option_map mark_of (option_and_then (λ (e : EntryState). held_at id e.variables) (slice_get es at))
entry_mark_held id at es = ap (λ (o : Option (List Marked)). option_and_then (mark_at id) o) (slice_get-map marked_in es at) ∙ by (slice_get es at)
  where
    by : (o : Option EntryState)
        → option_and_then (mark_at id) (option_map marked_in o) ≡ option_map mark_of (option_and_then (λ (e : EntryState). held_at id e.variables) o)
    by None = refl
    by (Some e) = mark_held id e.variables

-- a value that may be there is pushed
pub found_marks : (hs more : List Held) (gs : List Variable) (es : List EntryState) (h : Held) (o : Option Mark) → more ≡ h ∷ hs → o ≡ Some (mark_of h)
    → marks_in more gs es ≡ found o (marks_in hs gs es)
found_marks hs more gs es h None is there = absurd (cc)
found_marks hs more gs es h (Some mark) is there =
    let same : mark ≡ mark_of h = cc in
    stack_marked hs more gs es (mark ∷ map mark_of hs) (put_marks 0 hs more h mark is (sym same))

pub none_found : (o : Option Mark) (m : Marks) → o ≡ None → m ≡ found o m
none_found None m is = refl
none_found (Some mark) m is = absurd (cc)

-- the top goes to a variable of the whole style, as a value of the same mark
pub given_marks : (name : NameId) (hs more : List Held) (gs later : List Variable) (es : List EntryState) (h k : Held) → hs ≡ h ∷ drop 1 hs
    → more ≡ drop 1 hs → later ≡ with_held (record { name = name; value = k }) gs → mark_of k ≡ mark_of h
    → marks_in more later es ≡ given_globally name (map mark_of hs) (marks_in hs gs es)
given_marks name [] more gs later es h k top left given mark = absurd (cc)
given_marks name (x ∷ hs) more gs later es h k top left given mark =
    let same : h ≡ x = cc in
    ap (λ (l : List Held). marks_in l later es) left
    ∙ ap (λ (vs : List Variable). marks_in hs vs es) given
    ∙ ap (λ (l : List Marked). let m : Marks = record (marks_in hs gs es) { globals = l } in m) (with_marked_held (record { name = name; value = k }) gs)
    ∙ ap (λ (t : Mark). let m : Marks = record (marks_in hs gs es) { globals = with_marked (record { name = name; mark = t }) (map marked_of gs) } in m)
    (mark ∙ ap (λ (y : Held). mark_of y) same)

-- a variable of the whole style is given a lent string that isn't pushed before
pub lent_given : (name : NameId) (hs : List Held) (gs later : List Variable) (es : List EntryState) (k : Held)
    → later ≡ with_held (record { name = name; value = k }) gs → mark_of k ≡ Lent
    → marks_in hs later es ≡ given_globally name (Lent ∷ map mark_of hs) (marks_in hs gs es)
lent_given name hs gs later es k given mark =
    ap (λ (vs : List Variable). marks_in hs vs es) given
    ∙ ap (λ (l : List Marked). let m : Marks = record (marks_in hs gs es) { globals = l } in m) (with_marked_held (record { name = name; value = k }) gs)
    ∙ ap (λ (t : Mark). let m : Marks = record (marks_in hs gs es) { globals = with_marked (record { name = name; mark = t }) (map marked_of gs) } in m) mark

-- the top goes to a variable of an entry, as a value of the same mark
pub given_in_marks : (name : NameId) (at : ℕ) (hs more : List Held) (gs : List Variable) (es later : List EntryState) (h k : Held) → hs ≡ h ∷ drop 1 hs
    → more ≡ drop 1 hs → later ≡ with_held_in (record { name = name; value = k }) at es → mark_of k ≡ mark_of h
    → marks_in more gs later ≡ given_in_entry name (Some at) (map mark_of hs) (marks_in hs gs es)
given_in_marks name at [] more gs es later h k top left given mark = absurd (cc)
given_in_marks name at (x ∷ hs) more gs es later h k top left given mark =
    let same : h ≡ x = cc in
    ap (λ (l : List Held). marks_in l gs later) left
    ∙ ap (λ (vs : List EntryState). marks_in hs gs vs) given
    ∙ ap (λ (l : List (List Marked)). let m : Marks = record (marks_in hs gs es) { entries = l } in m) (with_entry_marked_held (record { name = name; value = k }) at es)
    ∙ ap (λ (t : Mark). let m : Marks = record (marks_in hs gs es) { entries = with_entry_marked (record { name = name; mark = t }) (Some at) (map marked_in es) } in m)
    (mark ∙ ap (λ (y : Held). mark_of y) same)

-- none is on the stack, and none goes to a variable
pub none_given : (name : NameId) (hs : List Held) (gs : List Variable) (es : List EntryState) → hs ≡ []
    → marks_in hs gs es ≡ given_globally name (map mark_of hs) (marks_in hs gs es)
none_given name [] gs es is = refl
none_given name (h ∷ hs) gs es is = absurd (cc)

pub none_given_in : (name : NameId) (at : ℕ) (hs : List Held) (gs : List Variable) (es : List EntryState) → hs ≡ []
    → marks_in hs gs es ≡ given_in_entry name (Some at) (map mark_of hs) (marks_in hs gs es)
none_given_in name at [] gs es is = refl
none_given_in name at (h ∷ hs) gs es is = absurd (cc)

-- the string at a depth, where its bytes are lent
pub lent_held : (pool : List ℕ) (depth : ℕ) (hs : List Held)
    → lent_at depth (map mark_of hs) (map (value_in pool) hs) ≡ option_and_then lent_of (slice_get hs depth)
lent_held pool zero [] = refl
lent_held pool (suc depth) [] = refl
lent_held pool zero (Int n ∷ hs) = refl
lent_held pool zero (Str bytes ∷ hs) = refl
lent_held pool zero (held.Empty ∷ hs) = refl
lent_held pool zero (Missing name ∷ hs) = refl
lent_held pool zero (Func target ∷ hs) = refl
lent_held pool zero (held.Made start count ∷ hs) = refl
lent_held pool (suc depth) (h ∷ hs) = lent_held pool depth hs

pub same_marked : (v w : Variable) → v.name ≡ w.name → mark_of v.value ≡ mark_of w.value → marked_of v ≡ marked_of w
same_marked v w name mark =
    ap (λ (n : NameId). let m : Marked = record { name = n; mark = mark_of v.value } in m) name
    ∙ ap (λ (k : Mark). let m : Marked = record { name = w.name; mark = k } in m) mark

-- one variable more whose bytes weren't made
pub lent_more : (vs more : List Variable) (v : Variable) → more ≡ vs ++ v ∷ [] → mark_of v.value ≡ lent_mark (value_in [] v.value)
    → AreLent vs → AreLent more
lent_more vs more v is own lent =
    subst AreLent (sym is)
    (map_push marked_of vs v
    ∙ ap (λ (l : List Marked). l ++ marked_of v ∷ []) lent
    ∙ ap (λ (k : Mark). map lent_marked (map (variable_in []) vs) ++ record { name = v.name; mark = k } ∷ []) own
    ∙ sym (map_push lent_marked (map (variable_in []) vs) (variable_in [] v))
    ∙ sym (ap (λ (l : List config.Variable). map lent_marked l) (map_push (variable_in []) vs v)))

-- entries with the same variables, none of whose bytes was made
pub entries_lent : (vs : List Variable) (at : ℕ) (entries : List Entry) → AreLent vs → AreLentIn (states_from vs at entries)
entries_lent vs at [] lent = refl
entries_lent vs at (entry ∷ entries) lent =
    ap (λ (l : List Marked). l ∷ map marked_in (states_from vs (at + 1) entries)) lent
    ∙ ap (λ (l : List (List Marked)). map lent_marked (map (variable_in []) vs) ∷ l) (entries_lent vs (at + 1) entries lent)

-- the marks in which a run opens
pub opened_marks : (gs : List Variable) (es : List EntryState) (globals : List config.Variable) (entries : List config.EntryState)
    → AreLent gs → AreLentIn es → map (variable_in []) gs ≡ globals → map (state_in []) es ≡ entries
    → marks_in [] gs es ≡ record { stack = []; globals = map lent_marked globals; entries = map lent_marked_in entries }
opened_marks gs es globals entries lent lent_in opened opened_in =
    ap (λ (l : List Marked). let m : Marks = record { stack = []; globals = l; entries = map marked_in es } in m)
    (lent ∙ ap (λ (l : List config.Variable). map lent_marked l) opened)
    ∙ ap (λ (l : List (List Marked)). let m : Marks = record { stack = []; globals = map lent_marked globals; entries = l } in m)
    (lent_in ∙ ap (λ (l : List config.EntryState). map lent_marked_in l) opened_in)
