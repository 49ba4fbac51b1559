-- Cases of a list of states (docs/ANALYSER.md, "Loops"): pieces that bind every place and say what the states have in common.
use Rattle.std.specs.Prelude.{◌≡◌, ℕ, ◌+◌, ◌≤◌, Bool, true, false, ◌&&◌, ◌||◌, nat_eq, nat_lt, if◌then◌else◌, List, [], ◌∷◌, ◌++◌, length, map, take, drop, flat_map, filter_map, Option, None, Some, IfSome}
use Rattle.std.specs.List.{All, filter, fold, list_all, list_any, range_with_len}
use Rattle.std.specs.Option.{option_map_or}
use Rattle.std.specs.Ordering.{int_eq}
use Rattle.std.specs.Cmp.Lexicographic.{pointwise}
use Rattle.lin_facts.specs.declared.row.Part.{Part}
use Rattle.lin_facts.specs.declared.row.Term.{Term}
use Rattle.lin_facts.specs.declared.row.Term.TheVariants.{Value, Length, Names, Pos, Count}
use Rattle.name_table.specs.Sound.{IsSound}
use Rattle.name_table.specs.declared.names.NameId.{NameId}
use Rattle.name_table.specs.declared.style.Style.{Style}
use Rattle.bst_meaning.specs.StyleParts.{kind_of}
use Rattle.bst_meaning.specs.declared.condition.Cond.{Cond}
use Rattle.cert_format.specs.PieceItems.{is_zero}
use Rattle.sym_state.specs.Changes.{bound, kind_facts}
use Rattle.sym_state.specs.Decided.{is_known, says_nothing}
use Rattle.sym_state.specs.Facts.{subject}
use Rattle.sym_state.specs.Renaming.{fact_renamed}
use Rattle.sym_state.specs.Starting.{own_facts}
use Rattle.sym_state.specs.State.{State}
use Rattle.sym_state.specs.WellMade.{WellMade, ids_from}
use Rattle.sym_state.specs.declared.piece.Piece.{Piece}
use Rattle.sym_state.specs.declared.symbol.Bind.{Bind}
use Rattle.sym_state.specs.declared.symbol.Fact.{Fact}
use Rattle.sym_state.specs.declared.symbol.Fact.TheVariants.{Is, Int, Text, Call, Block, Blank, Nonblank, Wellformed}
use Rattle.sym_state.specs.declared.symbol.Sym.{Sym}
use Rattle.loop_templates.specs.Bound.{is_bound, is_bound_field, is_bound_variable}
use Rattle.loop_templates.specs.Rows.{rows_over, symbol_in}
use Rattle.loop_templates.specs.Skeletons.{IsBoneOf, Skeleton, same_kind, skeleton, states_of}
use Rattle.loop_templates.specs.Sums.{IsSmallSum}
use Rattle.loop_templates.specs.declared.cases.Bound.{Bound}
use Rattle.loop_templates.specs.declared.limits.TheConstants.{MOST_ITEMS}
use Rattle.loop_templates.specs.declared.places.Seats.{Seats}
use Rattle.loop_templates.specs.declared.skeletons.Bone.{Bone}

-- what cases have in common: the style and the condition, whether their stacks are whole, whether an entry is visited, whether their
-- rows may have `pos`, which names they bind, the variables that count as written, the sums, and the states that enter
pub record Frame : Type 0 where
  pub style : Style
  pub admits : Cond
  pub whole : Bool
  pub at_entry : Bool
  pub has_pos : Bool
  pub bound : Bound
  pub writes : List NameId
  pub sums : List (List Part)
  pub entering : List State

-- the name of a number is bound
abbrev pub has_value : Style → Bound → ℕ → Bool
has_value style bound id = option_map_or (is_bound bound) (kind_of style (record { 0 = id })) false

-- a term over such a name; `pos` stands only where it may
abbrev pub IsTermOver : Style → Bound → Bool → Term → Type 0
IsTermOver style bound has_pos (Value id) = has_value style bound id ≡ true
IsTermOver style bound has_pos (Length id) = has_value style bound id ≡ true
IsTermOver style bound has_pos (Names id) = has_value style bound id ≡ true
IsTermOver style bound has_pos Pos = has_pos ≡ true
IsTermOver style bound has_pos Count = Unit {0}

-- a sum of such terms, none of them taken 0 times
abbrev pub IsSumOver : Style → Bound → Bool → List Part → Type 0
IsSumOver style bound has_pos sum = All (λ part. (is_zero part.coefficient ≡ false) × IsTermOver style bound has_pos part.term) sum

-- the style is sound, the states that enter are well made and there is one, what an entry has is bound at an entry alone, and the sums
-- are small ones over names that are bound
pub record IsFrame (frame : Frame) : Type 0 where
  pub sound : IsSound frame.style
  pub entering : All (WellMade frame.style) frame.entering
  pub some : 1 ≤ length frame.entering
  pub there : frame.bound.entry ≡ true → frame.at_entry ≡ true
  pub sums : All IsSmallSum frame.sums
  pub over : All (IsSumOver frame.style frame.bound frame.has_pos) frame.sums

-- a variable counts as written
abbrev pub is_written : List NameId → NameId → Bool
is_written writes name = list_any (λ other. nat_eq other.0 name.0) writes

-- the symbols of the stack and of the written variables
abbrev pub taken_symbols : List NameId → State → List Sym
taken_symbols writes state = state.stack ++ filter_map (λ name. bound name state) writes

-- a name gets a symbol of its own: a written variable, and what shares its symbol with the stack or with such a variable
abbrev pub is_own : List NameId → List Sym → State → NameId → Bool
is_own writes taken state name =
    is_written writes name || list_any (λ s. nat_eq s.0 (symbol_in state name.0)) taken

-- the case's symbol for a state's, where a place before has it
abbrev pub shared : ℕ → List (Sym × Sym) → Option Sym
shared s [] = None
shared s (seen ∷ more) = if nat_eq seen.0.0 s then Some seen.1 else shared s more

-- a symbol by its number
abbrev pub numbered : ℕ → Sym
numbered next = record { 0 = next }

-- a place with the next symbol
abbrev pub with_own : NameId → Seats → Seats
with_own name seats = record {
  places = seats.places ++ record { name = name; sym = numbered seats.next } ∷ [];
  seen = seats.seen;
  next = seats.next + 1;
}

-- a place with the next symbol, which stands for a state's from here on
abbrev pub with_first : ℕ → NameId → Seats → Seats
with_first s name seats = record {
  places = seats.places ++ record { name = name; sym = numbered seats.next } ∷ [];
  seen = seats.seen ++ (numbered s, numbered seats.next) ∷ [];
  next = seats.next + 1;
}

-- a place with a symbol that one before has
abbrev pub with_shared : Sym → NameId → Seats → Seats
with_shared sym name seats = record {
  places = seats.places ++ record { name = name; sym = sym } ∷ [];
  seen = seats.seen;
  next = seats.next;
}

-- the place of a name that isn't its own: it shares its symbol as in a state
abbrev pub with_place : Option Sym → ℕ → NameId → Seats → Seats
with_place (Some sym) s name seats = with_shared sym name seats
with_place None s name seats = with_first s name seats

-- the place of a name
abbrev pub seat : List NameId → List Sym → State → Seats → NameId → Seats
seat writes taken state seats name =
    if is_own writes taken state name then with_own name seats
    else with_place (shared (symbol_in state name.0) seats.seen) (symbol_in state name.0) name seats

-- the places of names behind others
abbrev pub seated : List NameId → List Sym → State → Seats → List NameId → Seats
seated writes taken state seats names = fold (seat writes taken state) seats names

-- the places of names behind a stack of this length, shared as in a state
abbrev pub places_behind : List NameId → ℕ → State → List NameId → List Bind
places_behind writes n state names =
    (seated writes (taken_symbols writes state) state (record { places = []; seen = []; next = n }) names).places

-- a piece with these symbols on its stack and these places, the first of them those of variables
abbrev pub piece_of : ℕ → ℕ → List Bind → List Fact → Piece
piece_of n vars places facts =
    record { stack = map numbered (range_with_len 0 n); vars = take vars places; fields = drop vars places; facts = facts; rows = [] }

-- the facts that a state records on a symbol
abbrev pub facts_on : State → ℕ → List Fact
facts_on state s = filter (λ fact. nat_eq (subject fact) s) state.facts

-- a fact on another symbol
abbrev pub moved : Sym → Fact → Fact
moved sym fact = fact_renamed (λ s. sym.0) fact

-- facts on another symbol
abbrev pub moved_to : Sym → List Fact → List Fact
moved_to sym facts = map (moved sym) facts

-- a fact follows in a state for what is bound to a name
abbrev pub follows_in : NameId → Fact → State → Bool
follows_in name fact state = is_known state.facts (symbol_in state name.0) fact

-- a fact is on a symbol, and follows in all of some states for what is bound to a name
abbrev pub is_common : List State → NameId → ℕ → Fact → Bool
is_common states name s fact = nat_eq (subject fact) s && list_all (follows_in name fact) states

-- the facts that a state records on a place and that follow in all of some states
abbrev pub common_at : List State → State → Bind → List Fact
common_at states state place = moved_to place.sym (filter (is_common states place.name (symbol_in state place.name.0)) state.facts)

-- those on a place that isn't written
abbrev pub common_of : List NameId → List State → State → Bind → List Fact
common_of writes states state place = if is_written writes place.name then [] else common_at states state place

-- those of each of the states on each place
abbrev pub common_facts : List NameId → List Bind → List State → List Fact
common_facts writes places states = flat_map (λ state. flat_map (common_of writes states state) places) states

-- the fact of a name that is there
abbrev pub name_facts : Sym → Option NameId → List Fact
name_facts sym (Some name) = Call sym name ∷ []
name_facts sym None = []

-- the fact of a block that is there
abbrev pub block_facts : Sym → Option ℕ → List Fact
block_facts sym (Some number) = Block sym number ∷ []
block_facts sym None = []

-- the facts of a symbol by what a skeleton has of it
abbrev pub bone_facts : Sym → Bone → List Fact
bone_facts sym bone = kind_facts sym bone.kind ++ (name_facts sym bone.name ++ block_facts sym bone.block)

-- the facts of a skeleton whose symbols are numbered from here
abbrev pub skeleton_facts : ℕ → Skeleton → List Fact
skeleton_facts k [] = []
skeleton_facts k (bone ∷ bones) = bone_facts (numbered k) bone ++ skeleton_facts (k + 1) bones

-- all facts that a state records on these symbols, which are numbered from here
abbrev pub stack_facts : State → ℕ → List Sym → List Fact
stack_facts state k [] = []
stack_facts state k (s ∷ stack) = moved_to (numbered k) (facts_on state s.0) ++ stack_facts state (k + 1) stack

-- all that it records on a place that is written
abbrev pub written_facts : List NameId → State → Bind → List Fact
written_facts writes state place = if is_written writes place.name then moved_to place.sym (facts_on state (symbol_in state place.name.0)) else []

-- the further facts of a state that enters, where the case is one's
abbrev pub further_facts : List NameId → List Bind → Option State → List Fact
further_facts writes places None = []
further_facts writes places (Some state) = stack_facts state 0 state.stack ++ flat_map (written_facts writes state) places

-- the order of the kinds of facts
abbrev pub fact_rank : Fact → ℕ
fact_rank (Is s kind) = 0
fact_rank (Int s n) = 1
fact_rank (Text s text) = 2
fact_rank (Call s name) = 3
fact_rank (Block s number) = 4
fact_rank (Blank s) = 5
fact_rank (Nonblank s) = 6
fact_rank (Wellformed s) = 7

-- a fact stands before another: by its kind, then by its symbol
abbrev pub stands_before : Fact → Fact → Bool
stands_before a b =
    nat_lt (fact_rank a) (fact_rank b) || (nat_eq (fact_rank a) (fact_rank b) && nat_lt (subject a) (subject b))

-- two facts say the same of their symbols
abbrev pub same_claim : Fact → Fact → Bool
same_claim (Is s a) (Is t b) = same_kind a b
same_claim (Int s a) (Int t b) = int_eq a b
same_claim (Text s a) (Text t b) = pointwise nat_eq a b
same_claim (Call s a) (Call t b) = nat_eq a.0 b.0
same_claim (Block s a) (Block t b) = nat_eq a b
same_claim (Blank s) (Blank t) = true
same_claim (Nonblank s) (Nonblank t) = true
same_claim (Wellformed s) (Wellformed t) = true
same_claim a b = false

-- two facts are one
abbrev pub same_fact : Fact → Fact → Bool
same_fact a b = nat_eq (subject a) (subject b) && same_claim a b

-- a fact among facts in their order, where it stands once
abbrev pub with_fact : Fact → List Fact → List Fact
with_fact fact [] = fact ∷ []
with_fact fact (first ∷ facts) =
    if stands_before fact first then fact ∷ (first ∷ facts)
    else if same_fact fact first then first ∷ facts
    else first ∷ with_fact fact facts

-- the start gives a fact anyway, or it says nothing
abbrev pub is_given : List Fact → Fact → Bool
is_given given fact = says_nothing fact || list_any (same_fact fact) given

-- the facts that the places give of their own where a piece starts
abbrev pub given_facts : Style → Cond → List Bind → List Fact
given_facts style admits places = flat_map (λ place. own_facts admits (kind_of style place.name) place) places

-- kept facts with one more, which the start doesn't give
abbrev pub keep : List Fact → List Fact → Fact → List Fact
keep given kept fact = if is_given given fact then kept else with_fact fact kept

-- facts in their order, each once, without those that the start gives
abbrev pub ordered_facts : List Fact → List Fact → List Fact
ordered_facts given facts = fold (keep given) [] facts

-- the facts of a case: of these as many as it keeps
abbrev pub kept_facts : List Fact → List Fact → List Fact
kept_facts given facts = take MOST_ITEMS (ordered_facts given facts)

-- the variables that a case binds
abbrev pub variables_of : Frame → List NameId
variables_of frame = ids_from (is_bound_variable frame.bound) 0 frame.style.names

-- the fields that it binds
abbrev pub fields_of : Frame → List NameId
fields_of frame = ids_from (is_bound_field frame.bound) 0 frame.style.names

-- their places behind a stack of this length, shared as in the first state that enters
abbrev pub places_for : Frame → ℕ → List Bind
places_for frame n = elim frame.entering [
  | [] ↦ []
  | first ∷ more ↦ places_behind frame.writes n first (variables_of frame ++ fields_of frame)
]

-- the facts of a case with this skeleton and these places: those that these states have in common, and further ones
abbrev pub facts_for : Frame → Skeleton → List Bind → List State → Option State → List Fact
facts_for frame bones places common further =
    kept_facts (given_facts frame.style frame.admits places)
    (skeleton_facts 0 bones ++ (further_facts frame.writes places further ++ common_facts frame.writes places common))

-- a case without rows
abbrev pub bare_case : Frame → Skeleton → List State → Option State → Piece
bare_case frame bones common further =
    let places = places_for frame (length bones) in
    piece_of (length bones) (length (variables_of frame)) places (facts_for frame bones places common further)

-- with the rows of a list of states
abbrev pub with_rows : Frame → List State → Piece → Piece
with_rows frame states piece =
    record piece { rows = rows_over frame.style frame.admits frame.whole frame.at_entry frame.sums states piece }

-- the case of a state that enters, made from that state alone
abbrev pub entering_case : Frame → State → Piece
entering_case frame state = with_rows frame (state ∷ []) (bare_case frame (skeleton state) (state ∷ []) (Some state))

-- the case of those of some states that have a skeleton: its places have what all states that enter have in common
abbrev pub case_of : Frame → List State → Skeleton → Piece
case_of frame states bones = with_rows frame (states_of bones states) (bare_case frame bones frame.entering None)

-- a well-made state from which further facts may come, where its stack is no longer than this
abbrev pub MayAdd : Style → ℕ → Option State → Type 0
MayAdd style n further = IfSome further (λ state. WellMade style state × (length state.stack ≤ n))

-- what a case is made of is the style's
pub record CanStand (frame : Frame) (bones : Skeleton) (common : List State) (further : Option State) : Type 0 where
  pub each_bone : All (IsBoneOf frame.style) bones
  pub each_state : All (WellMade frame.style) common
  pub may_add : MayAdd frame.style (length bones) further
