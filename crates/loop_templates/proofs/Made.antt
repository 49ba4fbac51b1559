-- Cases are as long as their skeletons, and their lines can be numbered.
use Rattle.std.proofs.Common.{◌≡◌, ◌≢◌, ℕ, suc, ◌+◌, ◌<◌, ◌≤◌, Bool, true, false, ◌||◌, cond, ap, sym, ◌∙◌, refl, subst, arith, List, [], ◌∷◌, ◌++◌, length, map, take, drop, get_or, Option, Some, None}
use Rattle.std.specs.List.{All, filter, flat_map, fold, list_all}
use Rattle.std.specs.Cmp.Lexicographic.{pointwise}
use Rattle.std.proofs.lemmas.Bool.{and_parts}
use Rattle.std.proofs.lemmas.List.{drop_more, length-append, length-drop, length-map, length-take}
use Rattle.std.proofs.lemmas.List.Elements.{All-nil, All-cons, All-filter, All-head, All-map, All-push, All-tail, All-weaker}
use Rattle.std.proofs.lemmas.List.FromFn.{length-map-range_with_len}
use Rattle.bst_meaning.specs.declared.condition.Cond.{Cond}
use Rattle.lin_facts.specs.declared.row.Part.{Part}
use Rattle.lin_facts.specs.declared.row.Row.{Row}
use Rattle.name_table.specs.declared.names.TheConstants.{MOST_NAMES}
use Rattle.name_table.specs.declared.style.Style.{Style}
use Rattle.sym_state.specs.Entailing.{line_count}
use Rattle.sym_state.specs.Starting.{started}
use Rattle.sym_state.specs.State.{State}
use Rattle.sym_state.specs.WellMade.{HasBounds, IsBounded, WellMade}
use Rattle.sym_state.specs.declared.piece.Piece.{Piece}
use Rattle.sym_state.specs.declared.symbol.Bind.{Bind}
use Rattle.sym_state.specs.declared.symbol.Fact.{Fact}
use Rattle.sym_state.proofs.Started.{ids_from-length}
use Rattle.loop_templates.specs.Bound.{is_bound_field, is_bound_variable}
use Rattle.loop_templates.specs.Candidates.{CanMatch, IsMade, grown, is_proved, lowered, next_by, settled}
use Rattle.loop_templates.specs.Cases.{Frame, IsFrame, bare_case, case_of, common_facts, entering_case, facts_for, fields_of, further_facts, given_facts, numbered, ordered_facts, piece_of, places_behind, places_for, skeleton_facts, taken_symbols, variables_of, with_rows}
use Rattle.loop_templates.specs.Rows.{is_wanted, row_in_piece, rows_of_sum, rows_over}
use Rattle.loop_templates.specs.Skeletons.{IsBoneOf, Skeleton, bone_of, is_among, new_skeletons, same_bone, same_skeleton, skeleton, states_of, with_new}
use Rattle.loop_templates.specs.Visits.{common_case}
use Rattle.loop_templates.specs.declared.candidates.Added.{Added}
use Rattle.loop_templates.specs.declared.candidates.Candidate.{Candidate}
use Rattle.loop_templates.specs.declared.places.Seats.{Seats}
use Rattle.loop_templates.proofs.Fit.{skeleton_of_style}
use Rattle.loop_templates.proofs.OneByOne.{fewer}
use Rattle.loop_templates.proofs.Rowed.{rows_bounded}
use Rattle.loop_templates.proofs.Seated.{seated_names}

-- one skeleton is as long as the other
pub same_length : (a b : Skeleton) → same_skeleton a b ≡ true → length a ≡ length b
same_length [] [] e = refl
same_length [] (y ∷ b) e = absurd (cc)
same_length (x ∷ a) [] e = absurd (cc)
same_length (x ∷ a) (y ∷ b) e = ap suc (same_length a b ((and_parts (same_bone x y) (pointwise same_bone a b) e).1))

-- a state with a skeleton has as many symbols on its stack
pub as_long : (bones : Skeleton) (state : State) → same_skeleton bones (skeleton state) ≡ true → length bones ≡ length state.stack
as_long bones state e = same_length bones (skeleton state) e ∙ length-map state.stack (bone_of state)

-- the states with a skeleton have as many symbols on their stacks
pub states_long : (bones : Skeleton) (n : ℕ) (states : List State) → n ≡ length bones → All HasBounds states → All (CanMatch n) (states_of bones states)
states_long bones n [] is all = All-nil (CanMatch n)
states_long bones n (state ∷ states) is all =
    let rest = states_long bones n states is (All-tail HasBounds state states all) in
    elim (same_skeleton bones (skeleton state)) as (λ (b : Bool). same_skeleton bones (skeleton state) ≡ b
    → All (CanMatch n) (cond b (state ∷ states_of bones states) (states_of bones states))) [
      | true ↦ λ has. All-cons (CanMatch n) state (states_of bones states)
          (All-head HasBounds state states all, (let long = as_long bones state has in omega (arith, is, long))) rest
      | false ↦ λ _. rest
    ] refl

-- an added case without some of its rows
pub lowered_made : (admits : Cond) (turned : List State) (one : Added) → IsMade one → IsMade (lowered admits turned one)
lowered_made admits turned one made =
    let test = λ (row : Row). list_all (is_proved admits one.case row) (states_of one.bones turned) in
    let few = fewer test one.case.rows in
    let lines = made.lines in
    record { stack = made.stack; rows = All-filter test IsBounded one.case.rows made.rows; lines = omega (arith, few, lines) }

pub all_lowered_made : (admits : Cond) (turned : List State) (added : List Added) → All IsMade added → All IsMade (map (lowered admits turned) added)
all_lowered_made admits turned added made =
    All-map IsMade (lowered admits turned) added (All-weaker IsMade (λ one. IsMade (lowered admits turned one)) (λ one h. lowered_made admits turned one h) added made)

-- how many places there are at most
places_few : (frame : Frame) (n : ℕ) → length (places_for frame n) ≤ length frame.style.names + length frame.style.names
places_few frame n =
    let names = variables_of frame ++ fields_of frame in
    let vars = ids_from-length (is_bound_variable frame.bound) 0 frame.style.names in
    let fields = ids_from-length (is_bound_field frame.bound) 0 frame.style.names in
    let both = length-append (variables_of frame) (fields_of frame) in
    elim frame.entering as (λ (states : List State). length (elim states as (λ _. List Bind) [ [] ↦ [] | first ∷ more ↦ places_behind frame.writes n first names ])
    ≤ length frame.style.names + length frame.style.names) [
      | [] ↦ omega arith
      | first ∷ more ↦
          (let none : Seats = record { places = []; seen = []; next = n } in
          let places = places_behind frame.writes n first names in
          let count : length places ≡ length names =
          sym (length-map places (λ (bind : Bind). bind.name)) ∙ ap length (seated_names frame.writes (taken_symbols frame.writes first) first none names) in
          omega (arith, count, both, vars, fields))
    ]

-- the stack of a case is as long as its skeleton
pub case_stack : (frame : Frame) (bones : Skeleton) (common : List State) (further : Option State) → length (bare_case frame bones common further).stack ≡ length bones
case_stack frame bones common further = length-map-range_with_len numbered 0 (length bones)

few_taken : {X : Type 0} (n : ℕ) (xs : List X) → length (take n xs) ≤ n
few_taken n xs = let taken = length-take n xs in omega (arith, taken)

pub facts_few : (frame : Frame) (bones : Skeleton) (places : List Bind) (common : List State) (further : Option State)
    → length (facts_for frame bones places common further) ≤ 64
facts_few frame bones places common further =
    few_taken 64 (ordered_facts (given_facts frame.style frame.admits places)
    (skeleton_facts 0 bones ++ (further_facts frame.writes places further ++ common_facts frame.writes places common)))

pub rows_few : (style : Style) (admits : Cond) (whole at_entry : Bool) (sums : List (List Part)) (states : List State) (piece : Piece)
    → length (rows_over style admits whole at_entry sums states piece) ≤ 64
rows_few style admits whole at_entry sums states piece =
    few_taken 64 (filter (is_wanted admits (started style admits (piece ∷ []) whole at_entry))
    (flat_map (λ sum. map (row_in_piece piece) (rows_of_sum admits states sum)) sums))

-- the lines of a case can be numbered
pub case_lines : (frame : Frame) (bones : Skeleton) (common : List State) (further : Option State) (states : List State) → length frame.style.names ≤ MOST_NAMES
    → line_count (with_rows frame states (bare_case frame bones common further)) ≤ 2147483648
case_lines frame bones common further states few =
    let piece = with_rows frame states (bare_case frame bones common further) in
    let v = length (variables_of frame) in
    let places = places_for frame (length bones) in
    let all = places_few frame (length bones) in
    let front = length-take v places in
    let back = length-drop v places in
    let facts = facts_few frame bones places common further in
    let rows = rows_few frame.style frame.admits frame.whole frame.at_entry frame.sums states (bare_case frame bones common further) in
    omega (arith, few, all, front, back, facts, rows)

-- such a case is one that may be added
pub made_of : (frame : Frame) (bones : Skeleton) (common : List State) (further : Option State) (states : List State) (piece : Piece)
    → piece ≡ with_rows frame states (bare_case frame bones common further) → IsFrame frame → IsMade (record { bones = bones; case = piece })
made_of frame bones common further states piece is ready = record {
  stack = ap (λ (it : Piece). length it.stack) is ∙ case_stack frame bones common further;
  rows = subst (λ (it : Piece). All IsBounded it.rows) (sym is)
      (rows_bounded frame.style frame.admits frame.whole frame.at_entry frame.sums states (bare_case frame bones common further) ready.sums);
  lines = subst (λ (it : Piece). line_count it ≤ 2147483648) (sym is) (case_lines frame bones common further states ready.sound.few_names);
}

-- the new skeletons of well-made states are of the style
new_fits : (P : Skeleton → Type 0) (known new : List Skeleton) (one : Skeleton) → All P new → P one → All P (with_new known new one)
new_fits P known new one all h =
    elim (is_among known one || is_among new one) as (λ (b : Bool). All P (cond b new (new ++ one ∷ []))) [
      | true ↦ all
      | false ↦ All-push P new one all h
    ]

more_new : (style : Style) (known new : List Skeleton) (states : List State) → All (WellMade style) states → All (All (IsBoneOf style)) new
    → All (All (IsBoneOf style)) (fold (λ new state. with_new known new (skeleton state)) new states)
more_new style known new [] made all = all
more_new style known new (state ∷ states) made all =
    more_new style known (with_new known new (skeleton state)) states (All-tail (WellMade style) state states made)
    (new_fits (All (IsBoneOf style)) known new (skeleton state) all (skeleton_of_style style state (All-head (WellMade style) state states made)))

pub new_of_style : (style : Style) (known : List Skeleton) (states : List State) (new : List Skeleton) → All (WellMade style) states
    → new ≡ new_skeletons known states → All (All (IsBoneOf style)) new
new_of_style style known states new made is =
    subst (λ (all : List Skeleton). All (All (IsBoneOf style)) all) (sym is) (more_new style known [] states made (All-nil (All (IsBoneOf style))))

-- the bounds of well-made states
pub all_bounded : (style : Style) (states : List State) → All (WellMade style) states → All HasBounds states
all_bounded style states made = All-weaker (WellMade style) HasBounds (λ state h. h.bounds) states made

-- the same of states that have a skeleton, by another name
pub long_those : (bones : Skeleton) (n : ℕ) (states those : List State) → those ≡ states_of bones states → n ≡ length bones → All HasBounds states
    → All (CanMatch n) those
long_those bones n states those is same all = subst (λ (them : List State). All (CanMatch n) them) (sym is) (states_long bones n states same all)

pub lowered_all : (admits : Cond) (turned : List State) (added all : List Added) → all ≡ map (lowered admits turned) added → All IsMade added → All IsMade all
lowered_all admits turned added all is made = subst (λ (them : List Added). All IsMade them) (sym is) (all_lowered_made admits turned added made)

-- what follows a candidate, by how many skeletons are new
pub by_none : (frame : Frame) (candidate : Candidate) (turned : List State) (new : List Skeleton) → length new ≡ 0
    → next_by frame candidate turned new ≡ settled frame.admits candidate turned
by_none frame candidate turned [] none = refl
by_none frame candidate turned (bones ∷ more) none = absurd (omega (arith, none))

pub by_some : (frame : Frame) (candidate : Candidate) (turned : List State) (new : List Skeleton) → length new ≢ 0
    → next_by frame candidate turned new ≡ grown frame candidate turned new
by_some frame candidate turned [] some = absurd (some refl)
by_some frame candidate turned (bones ∷ more) some = refl

-- the case of those of some states that have a skeleton, by its parts
pub case_is : (frame : Frame) (states : List State) (bones : Skeleton) (common those : List State) (bare piece : Piece) → bare ≡ bare_case frame bones common None
    → common ≡ frame.entering → those ≡ states_of bones states → piece ≡ with_rows frame those bare → piece ≡ case_of frame states bones
case_is frame states bones common those bare piece is all found made =
    made
    ∙ ap (λ (them : List State). with_rows frame them bare) found
    ∙ ap (with_rows frame (states_of bones states)) (is ∙ ap (λ (them : List State). bare_case frame bones them None) all)

-- that which states have in common
pub common_is : (frame : Frame) (states common those : List State) (bare piece : Piece) → bare ≡ bare_case frame [] common None
    → common ≡ frame.entering → those ≡ states → piece ≡ with_rows frame those bare → piece ≡ common_case frame states
common_is frame states common those bare piece is all found made =
    made
    ∙ ap (λ (them : List State). with_rows frame them bare) found
    ∙ ap (with_rows frame states) (is ∙ ap (λ (them : List State). bare_case frame [] them None) all)

-- that of a state that enters
pub entering_is : (frame : Frame) (state : State) (bones : Skeleton) (bare piece : Piece) → bones ≡ skeleton state
    → bare ≡ bare_case frame bones (state ∷ []) (Some state) → piece ≡ with_rows frame (state ∷ []) bare → piece ≡ entering_case frame state
entering_is frame state bones bare piece same is made =
    made ∙ ap (with_rows frame (state ∷ [])) (is ∙ ap (λ (them : Skeleton). bare_case frame them (state ∷ []) (Some state)) same)

-- a case without rows, by its parts
pub bare_is : (frame : Frame) (bones : Skeleton) (common : List State) (further : Option State) (n v : ℕ) (places : List Bind) (facts : List Fact) (piece : Piece)
    → n ≡ length bones → v ≡ length (variables_of frame) → places ≡ places_for frame n → facts ≡ facts_for frame bones places common further
    → piece ≡ piece_of n v places facts → piece ≡ bare_case frame bones common further
bare_is frame bones common further n v places facts piece long many placed known made =
    let here : places ≡ places_for frame (length bones) = placed ∙ ap (places_for frame) long in
    made
    ∙ ap (λ (m : ℕ). piece_of m v places facts) long
    ∙ ap (λ (m : ℕ). piece_of (length bones) m places facts) many
    ∙ ap (piece_of (length bones) (length (variables_of frame)) places) known
    ∙ ap (λ (them : List Bind). piece_of (length bones) (length (variables_of frame)) them (facts_for frame bones them common further)) here

-- the skeleton of one more state
pub new_more : (known old new all : List Skeleton) (states : List State) (k : ℕ) (state : State) (bones : Skeleton) → k < length states
    → state ≡ get_or states k state → bones ≡ skeleton state → new ≡ with_new known old bones
    → fold (λ new state. with_new known new (skeleton state)) old (drop k states) ≡ all
    → fold (λ new state. with_new known new (skeleton state)) new (drop (k + 1) states) ≡ all
new_more known old new all states k state bones within is has made before =
    let step = λ (new : List Skeleton) (state : State). with_new known new (skeleton state) in
    ap (λ (front : List Skeleton). fold step front (drop (k + 1) states))
    (made ∙ ap (with_new known old) has ∙ ap (λ (one : State). with_new known old (skeleton one)) is)
    ∙ ap (fold step old) (sym (drop_more states k state within))
    ∙ before
