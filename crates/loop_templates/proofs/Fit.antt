-- The facts of cases fit the symbols at their places.
use Rattle.std.proofs.Common.{◌≡◌, ℕ, zero, suc, ◌+◌, ◌<◌, ◌≤◌, Bool, true, false, cond, sym, refl, subst, arith, List, [], ◌∷◌, ◌++◌, length, map, take, drop, nat_eq, Option, Some, None}
use Rattle.std.specs.Prelude.{IfSome}
use Rattle.std.specs.List.{All, filter, flat_map, fold, range_with_len}
use Rattle.std.specs.Option.{option_and_then, option_or}
use Rattle.std.proofs.lemmas.List.{take-append-drop}
use Rattle.std.proofs.lemmas.List.Elements.{All-nil, All-cons, All-head, All-tail, All-append, All-filter, All-map, All-take, All-weaker}
use Rattle.name_table.specs.Sound.{block_of}
use Rattle.name_table.specs.declared.names.NameId.{NameId}
use Rattle.name_table.specs.declared.style.BodyId.{BodyId}
use Rattle.name_table.specs.declared.style.Style.{Style}
use Rattle.sym_state.specs.Changes.{kind_facts}
use Rattle.sym_state.specs.Decided.{Function, ByName, ByNumber, exact_function, first_said, function_said, name_of, number_of}
use Rattle.sym_state.specs.Facts.{subject}
use Rattle.sym_state.specs.Fitting.{FactFits}
use Rattle.sym_state.specs.Starting.{symbol_count, symbols_of}
use Rattle.sym_state.specs.State.{State}
use Rattle.sym_state.specs.WellMade.{HasByteText, HasShortText, HasSmallInteger, IsOfStyle, WellMade}
use Rattle.sym_state.specs.declared.symbol.Bind.{Bind}
use Rattle.sym_state.specs.declared.symbol.Fact.{Fact}
use Rattle.sym_state.specs.declared.symbol.Fact.TheVariants.{Is, Int, Text, Call, Block, Blank, Nonblank, Wellformed}
use Rattle.sym_state.specs.declared.symbol.Kinds.{Kinds}
use Rattle.sym_state.specs.declared.symbol.Kinds.TheVariants.{Any}
use Rattle.sym_state.specs.declared.symbol.Sym.{Sym}
use Rattle.sym_state.proofs.Numbering.{fields_below, stack_below, vars_below}
use Rattle.loop_templates.specs.Cases.{MayAdd, block_facts, bone_facts, common_at, common_facts, common_of, facts_on, further_facts, is_common, is_given, is_written, keep, kept_facts, moved, moved_to, name_facts, numbered, ordered_facts, piece_of, same_fact, skeleton_facts, stack_facts, stands_before, with_fact, written_facts}
use Rattle.loop_templates.specs.Rows.{symbol_in}
use Rattle.loop_templates.specs.Skeletons.{IsBoneOf, Skeleton, bone_of, skeleton}
use Rattle.loop_templates.specs.declared.skeletons.Bone.{Bone}

-- what holds of each item's list holds of all of them
pub all_flat : {X Y : Type 0} (P : Y → Type 0) (Q : X → Type 0) (f : X → List Y) (xs : List X) → ((x : X) → Q x → All P (f x)) → All Q xs → All P (flat_map f xs)
all_flat P Q f [] each all = All-nil P
all_flat P Q f (x ∷ xs) each all =
    All-append P (f x) (flat_map f xs) (each x (All-head Q x xs all)) (all_flat P Q f xs each (All-tail Q x xs all))

-- the facts of a well-made state
zipped : (style : Style) (n : ℕ) (facts : List Fact) → All (λ fact. subject fact < n) facts → All (IsOfStyle style) facts → All HasSmallInteger facts
    → All HasByteText facts → All HasShortText facts → All (FactFits style n) facts
zipped style n [] a b c d e = All-nil (FactFits style n)
zipped style n (fact ∷ facts) a b c d e =
    All-cons (FactFits style n) fact facts (record {
      below = All-head (λ f. subject f < n) fact facts a;
      of_style = All-head (IsOfStyle style) fact facts b;
      integer = All-head HasSmallInteger fact facts c;
      bytes = All-head HasByteText fact facts d;
      short = All-head HasShortText fact facts e;
    })
    (zipped style n facts (All-tail (λ f. subject f < n) fact facts a) (All-tail (IsOfStyle style) fact facts b) (All-tail HasSmallInteger fact facts c)
    (All-tail HasByteText fact facts d) (All-tail HasShortText fact facts e))

state_fits : (style : Style) (state : State) → WellMade style state → All (FactFits style state.next) state.facts
state_fits style state made = zipped style state.next state.facts made.facts made.of_style made.integers made.bytes made.bounds.facts

-- a fact on another symbol
moved_fits : (style : Style) (n m : ℕ) (sym : Sym) (fact : Fact) → sym.0 < m → FactFits style n fact → FactFits style m (moved sym fact)
moved_fits style n m sym (Is s kind) h f = record { below = h; of_style = f.of_style; integer = f.integer; bytes = f.bytes; short = f.short }
moved_fits style n m sym (Int s i) h f = record { below = h; of_style = f.of_style; integer = f.integer; bytes = f.bytes; short = f.short }
moved_fits style n m sym (Text s text) h f = record { below = h; of_style = f.of_style; integer = f.integer; bytes = f.bytes; short = f.short }
moved_fits style n m sym (Call s name) h f = record { below = h; of_style = f.of_style; integer = f.integer; bytes = f.bytes; short = f.short }
moved_fits style n m sym (Block s number) h f = record { below = h; of_style = f.of_style; integer = f.integer; bytes = f.bytes; short = f.short }
moved_fits style n m sym (Blank s) h f = record { below = h; of_style = f.of_style; integer = f.integer; bytes = f.bytes; short = f.short }
moved_fits style n m sym (Nonblank s) h f = record { below = h; of_style = f.of_style; integer = f.integer; bytes = f.bytes; short = f.short }
moved_fits style n m sym (Wellformed s) h f = record { below = h; of_style = f.of_style; integer = f.integer; bytes = f.bytes; short = f.short }

all_moved : (style : Style) (n m : ℕ) (sym : Sym) (facts : List Fact) → sym.0 < m → All (FactFits style n) facts → All (FactFits style m) (moved_to sym facts)
all_moved style n m sym facts h all =
    All-map (FactFits style m) (moved sym) facts
    (All-weaker (FactFits style n) (λ fact. FactFits style m (moved sym fact)) (λ fact f. moved_fits style n m sym fact h f) facts all)

-- those of a state on one symbol
on_fits : (style : Style) (m : ℕ) (state : State) (s : ℕ) (sym : Sym) → WellMade style state → sym.0 < m → All (FactFits style m) (moved_to sym (facts_on state s))
on_fits style m state s sym made h =
    all_moved style state.next m sym (facts_on state s) h
    (All-filter (λ fact. nat_eq (subject fact) s) (FactFits style state.next) state.facts (state_fits style state made))

stack_fits : (style : Style) (m : ℕ) (state : State) (k : ℕ) (stack : List Sym) → WellMade style state → k + length stack ≤ m
    → All (FactFits style m) (stack_facts state k stack)
stack_fits style m state k [] made few = All-nil (FactFits style m)
stack_fits style m state k (s ∷ stack) made few =
    All-append (FactFits style m) (moved_to (numbered k) (facts_on state s.0)) (stack_facts state (k + 1) stack)
    (on_fits style m state s.0 (numbered k) made (omega (arith, few)))
    (stack_fits style m state (k + 1) stack made (omega (arith, few)))

written_fits : (style : Style) (m : ℕ) (writes : List NameId) (state : State) (place : Bind) → WellMade style state → place.sym.0 < m
    → All (FactFits style m) (written_facts writes state place)
written_fits style m writes state place made h =
    elim (is_written writes place.name) as (λ (b : Bool). All (FactFits style m) (cond b (moved_to place.sym (facts_on state (symbol_in state place.name.0))) [])) [
      | true ↦ on_fits style m state (symbol_in state place.name.0) place.sym made h
      | false ↦ All-nil (FactFits style m)
    ]

further_fits : (style : Style) (m : ℕ) (writes : List NameId) (places : List Bind) (further : Option State) → MayAdd style m further
    → All (λ place. place.sym.0 < m) places → All (FactFits style m) (further_facts writes places further)
further_fits style m writes places None may below = All-nil (FactFits style m)
further_fits style m writes places (Some state) may below =
    All-append (FactFits style m) (stack_facts state 0 state.stack) (flat_map (written_facts writes state) places)
    (stack_fits style m state 0 state.stack may.0 (let short = may.1 in omega (arith, short)))
    (all_flat (FactFits style m) (λ place. place.sym.0 < m) (written_facts writes state) places (λ place h. written_fits style m writes state place may.0 h) below)

common_of_fits : (style : Style) (m : ℕ) (writes : List NameId) (states : List State) (state : State) (place : Bind) → WellMade style state → place.sym.0 < m
    → All (FactFits style m) (common_of writes states state place)
common_of_fits style m writes states state place made h =
    let test = is_common states place.name (symbol_in state place.name.0) in
    elim (is_written writes place.name) as (λ (b : Bool). All (FactFits style m) (cond b [] (common_at states state place))) [
      | true ↦ All-nil (FactFits style m)
      | false ↦ all_moved style state.next m place.sym (filter test state.facts) h (All-filter test (FactFits style state.next) state.facts (state_fits style state made))
    ]

common_fits : (style : Style) (m : ℕ) (writes : List NameId) (places : List Bind) (states : List State) → All (WellMade style) states
    → All (λ place. place.sym.0 < m) places → All (FactFits style m) (common_facts writes places states)
common_fits style m writes places states made below =
    all_flat (FactFits style m) (WellMade style) (λ state. flat_map (common_of writes states state) places) states
    (λ state one. all_flat (FactFits style m) (λ place. place.sym.0 < m) (common_of writes states state) places
    (λ place h. common_of_fits style m writes states state place one h) below)
    made

-- the facts of a skeleton
kind_fits : (style : Style) (k : ℕ) (kind : Kinds) → All (FactFits style (k + 1)) (kind_facts (numbered k) kind)
kind_fits style k Any = All-nil (FactFits style (k + 1))
kind_fits style k kind =
    All-cons (FactFits style (k + 1)) (Is (numbered k) kind) [] (record { below = omega arith; of_style = tt; integer = tt; bytes = tt; short = tt }) (All-nil (FactFits style (k + 1)))

name_fits : (style : Style) (k : ℕ) (name : Option NameId) → IfSome name (λ it. it.0 < length style.names) → All (FactFits style (k + 1)) (name_facts (numbered k) name)
name_fits style k None h = All-nil (FactFits style (k + 1))
name_fits style k (Some it) h =
    All-cons (FactFits style (k + 1)) (Call (numbered k) it) [] (record { below = omega arith; of_style = h; integer = tt; bytes = tt; short = tt }) (All-nil (FactFits style (k + 1)))

block_fits : (style : Style) (k : ℕ) (block : Option ℕ) → IfSome block (λ number. (body : BodyId) × (block_of body style.bodies ≡ Some (Some number)))
    → All (FactFits style (k + 1)) (block_facts (numbered k) block)
block_fits style k None h = All-nil (FactFits style (k + 1))
block_fits style k (Some it) h =
    All-cons (FactFits style (k + 1)) (Block (numbered k) it) [] (record { below = omega arith; of_style = h; integer = tt; bytes = tt; short = tt }) (All-nil (FactFits style (k + 1)))

bone_fits : (style : Style) (k : ℕ) (bone : Bone) → IsBoneOf style bone → All (FactFits style (k + 1)) (bone_facts (numbered k) bone)
bone_fits style k bone is =
    All-append (FactFits style (k + 1)) (kind_facts (numbered k) bone.kind) (name_facts (numbered k) bone.name ++ block_facts (numbered k) bone.block)
    (kind_fits style k bone.kind)
    (All-append (FactFits style (k + 1)) (name_facts (numbered k) bone.name) (block_facts (numbered k) bone.block)
    (name_fits style k bone.name is.name) (block_fits style k bone.block is.block))

fits_more : (style : Style) (n m : ℕ) (fact : Fact) → n ≤ m → FactFits style n fact → FactFits style m fact
fits_more style n m fact few f =
    let below = f.below in
    record { below = omega (arith, few, below); of_style = f.of_style; integer = f.integer; bytes = f.bytes; short = f.short }

skeleton_fits : (style : Style) (m k : ℕ) (bones : Skeleton) → k + length bones ≤ m → All (IsBoneOf style) bones → All (FactFits style m) (skeleton_facts k bones)
skeleton_fits style m k [] few all = All-nil (FactFits style m)
skeleton_fits style m k (bone ∷ bones) few all =
    All-append (FactFits style m) (bone_facts (numbered k) bone) (skeleton_facts (k + 1) bones)
    (All-weaker (FactFits style (k + 1)) (FactFits style m) (λ fact f. fits_more style (k + 1) m fact (omega (arith, few)) f) (bone_facts (numbered k) bone)
    (bone_fits style k bone (All-head (IsBoneOf style) bone bones all)))
    (skeleton_fits style m (k + 1) bones (omega (arith, few)) (All-tail (IsBoneOf style) bone bones all))

-- a function that a fact of the style says is the style's
abbrev OfStyle : Style → Function → Type 0
OfStyle style (ByName name) = name.0 < length style.names
OfStyle style (ByNumber number) = (body : BodyId) × (block_of body style.bodies ≡ Some (Some number))

said_here : (style : Style) (fact : Fact) (rest : Option Function) (f : Function) → IsOfStyle style fact → (rest ≡ Some f → OfStyle style f)
    → option_or (function_said fact) rest ≡ Some f → OfStyle style f
said_here style (Call s name) rest f is later e = (let same : ByName name ≡ f = cc in subst (OfStyle style) same is)
said_here style (Block s number) rest f is later e = (let same : ByNumber number ≡ f = cc in subst (OfStyle style) same is)
said_here style _ rest f is later e = later e

said_of_style : (style : Style) (s : ℕ) (facts : List Fact) (f : Function) → All (IsOfStyle style) facts → first_said function_said s facts ≡ Some f → OfStyle style f
said_of_style style s [] f all e = absurd (cc)
said_of_style style s (fact ∷ facts) f all e =
    let later = said_of_style style s facts f (All-tail (IsOfStyle style) fact facts all) in
    elim (nat_eq (subject fact) s) as (λ (b : Bool). cond b (option_or (function_said fact) (first_said function_said s facts)) (first_said function_said s facts) ≡ Some f → OfStyle style f) [
      | true ↦ said_here style fact (first_said function_said s facts) f (All-head (IsOfStyle style) fact facts all) later
      | false ↦ later
    ] e

name_is : (style : Style) (said : Option Function) → ((f : Function) → said ≡ Some f → OfStyle style f)
    → IfSome (option_and_then name_of said) (λ name. name.0 < length style.names)
name_is style None is = tt
name_is style (Some (ByName name)) is = is (ByName name) refl
name_is style (Some (ByNumber number)) is = tt

block_is : (style : Style) (said : Option Function) → ((f : Function) → said ≡ Some f → OfStyle style f)
    → IfSome (option_and_then number_of said) (λ number. (body : BodyId) × (block_of body style.bodies ≡ Some (Some number)))
block_is style None is = tt
block_is style (Some (ByName name)) is = tt
block_is style (Some (ByNumber number)) is = is (ByNumber number) refl

-- the skeleton of a well-made state is of the style
pub skeleton_of_style : (style : Style) (state : State) → WellMade style state → All (IsBoneOf style) (skeleton state)
skeleton_of_style style state made =
    All-map (IsBoneOf style) (bone_of state) state.stack (each_bone state.stack)
  where
    each_bone : (stack : List Sym) → All (λ s. IsBoneOf style (bone_of state s)) stack
    each_bone [] = All-nil (λ s. IsBoneOf style (bone_of state s))
    each_bone (s ∷ stack) =
        let said = exact_function state.facts s.0 in
        let is = λ (f : Function) (e : said ≡ Some f). said_of_style style s.0 state.facts f made.of_style e in
        All-cons (λ x. IsBoneOf style (bone_of state x)) s stack (record { name = name_is style said is; block = block_is style said is }) (each_bone stack)

-- facts that are put among others
put_fits : (P : Fact → Type 0) (fact : Fact) (kept : List Fact) → P fact → All P kept → All P (with_fact fact kept)
put_fits P fact [] h all = All-cons P fact [] h (All-nil P)
put_fits P fact (first ∷ facts) h all =
    let later = All-cons P first (with_fact fact facts) (All-head P first facts all) (put_fits P fact facts h (All-tail P first facts all)) in
    elim (stands_before fact first) as (λ (b : Bool). All P (cond b (fact ∷ (first ∷ facts)) (cond (same_fact fact first) (first ∷ facts) (first ∷ with_fact fact facts)))) [
      | true ↦ All-cons P fact (first ∷ facts) h all
      | false ↦ elim (same_fact fact first) as (λ (b : Bool). All P (cond b (first ∷ facts) (first ∷ with_fact fact facts))) [
        | true ↦ all
        | false ↦ later
      ]
    ]

keep_fits : (P : Fact → Type 0) (given kept : List Fact) (fact : Fact) → P fact → All P kept → All P (keep given kept fact)
keep_fits P given kept fact h all =
    elim (is_given given fact) as (λ (b : Bool). All P (cond b kept (with_fact fact kept))) [
      | true ↦ all
      | false ↦ put_fits P fact kept h all
    ]

all_kept : (P : Fact → Type 0) (given kept facts : List Fact) → All P facts → All P kept → All P (fold (keep given) kept facts)
all_kept P given kept [] all before = before
all_kept P given kept (fact ∷ facts) all before =
    all_kept P given (keep given kept fact) facts (All-tail P fact facts all) (keep_fits P given kept fact (All-head P fact facts all) before)

kept_fits : (P : Fact → Type 0) (n : ℕ) (given facts : List Fact) → All P facts → All P (take n (ordered_facts given facts))
kept_fits P n given facts all = All-take P n (ordered_facts given facts) (all_kept P given [] facts all (All-nil P))

-- all facts of a case
pub facts_fit : (style : Style) (m : ℕ) (given : List Fact) (bones : Skeleton) (writes : List NameId) (places : List Bind) (common : List State) (further : Option State)
    → length bones ≤ m → All (IsBoneOf style) bones → All (λ place. place.sym.0 < m) places → All (WellMade style) common → MayAdd style m further
    → All (FactFits style m) (kept_facts given (skeleton_facts 0 bones ++ (further_facts writes places further ++ common_facts writes places common)))
facts_fit style m given bones writes places common further few boned below made may =
    kept_fits (FactFits style m) 64 given (skeleton_facts 0 bones ++ (further_facts writes places further ++ common_facts writes places common))
    (All-append (FactFits style m) (skeleton_facts 0 bones) (further_facts writes places further ++ common_facts writes places common)
    (skeleton_fits style m 0 bones (omega (arith, few)) boned)
    (All-append (FactFits style m) (further_facts writes places further) (common_facts writes places common)
    (further_fits style m writes places further may below) (common_fits style m writes places common made below)))

-- the symbols at the places of a case
numbers_within : (m k n : ℕ) → k ≤ m → All (λ s. s.0 < m) (map numbered (range_with_len k n)) → k + n ≤ m
numbers_within m k zero low all = omega (arith, low)
numbers_within m k (suc n) low all =
    let first = All-head (λ (s : Sym). s.0 < m) (numbered k) (map numbered (range_with_len (k + 1) n)) all in
    let rest = numbers_within m (k + 1) n (omega (arith, first)) (All-tail (λ (s : Sym). s.0 < m) (numbered k) (map numbered (range_with_len (k + 1) n)) all) in
    omega (arith, rest)

-- its stack is numbered from 0, so its symbols are more than that
pub stack_within : (n v : ℕ) (places : List Bind) (facts : List Fact) → n ≤ symbols_of (piece_of n v places facts)
stack_within n v places facts =
    let piece = piece_of n v places facts in
    let all = stack_below (symbols_of piece) piece (omega arith) in
    let few = numbers_within (symbols_of piece) 0 n (omega arith) all in
    omega (arith, few)

pub places_within : (n v : ℕ) (places : List Bind) (facts : List Fact) → All (λ place. place.sym.0 < symbols_of (piece_of n v places facts)) places
places_within n v places facts =
    let piece = piece_of n v places facts in
    let m = symbols_of piece in
    subst (λ (all : List Bind). All (λ (place : Bind). place.sym.0 < m) all) (take-append-drop v places)
    (All-append (λ (place : Bind). place.sym.0 < m) (take v places) (drop v places)
    (vars_below m piece (omega arith)) (fields_below m piece (omega arith)))

-- how many symbols there are at most
pub count_within : (m : ℕ) (syms : List Sym) → All (λ s. s.0 < m) syms → symbol_count syms ≤ m
count_within m [] all = omega arith
count_within m (s ∷ syms) all =
    let first = All-head (λ (t : Sym). t.0 < m) s syms all in
    let rest = count_within m syms (All-tail (λ (t : Sym). t.0 < m) s syms all) in
    omega (arith, first, rest)
