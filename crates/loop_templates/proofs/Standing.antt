-- Cases stand in certificates, and so do those of each candidate.
use Rattle.std.proofs.Common.{◌≡◌, ℕ, ◌+◌, ◌<◌, ◌≤◌, Bool, true, false, cond, nat_le, ap, sym, ◌∙◌, refl, subst, arith, List, [], ◌∷◌, ◌++◌, length, map, take, drop, Option, Some, None}
use Rattle.std.specs.Prelude.{IfSome}
use Rattle.std.specs.List.{All, filter, list_all, list_any, range_with_len}
use Rattle.std.proofs.lemmas.Bool.{and_parts}
use Rattle.std.proofs.lemmas.Bool.Decides.{nat_tests}
use Rattle.std.proofs.Math.Seq.{drop-append_seam, take-append_seam}
use Rattle.std.proofs.lemmas.List.{drop-map, length-append, length-map, map-append, take-append-drop, take-map}
use Rattle.std.proofs.lemmas.List.Elements.{All-nil, All-cons, All-append, All-drop, All-head, All-map, All-tail, All-take, All-weaker}
use Rattle.cert_format.specs.CertText.{IsFact, IsPiece, IsRow, IsVariable, are_placed, next_behind, places_of}
use Rattle.cert_format.specs.CondText.{IsField, is_below, is_chain}
use Rattle.cert_format.specs.declared.items.TheConstants.{MOST_NUMBER}
use Rattle.lin_facts.specs.declared.row.Part.{Part}
use Rattle.lin_facts.specs.declared.row.Row.{Row}
use Rattle.name_table.proofs.Within.{each_kept}
use Rattle.name_table.specs.Sound.{Each}
use Rattle.name_table.specs.declared.names.NameId.{NameId}
use Rattle.name_table.specs.declared.style.Style.{Style}
use Rattle.sym_state.proofs.Started.{ids_from-length}
use Rattle.sym_state.specs.Fitting.{FactFits}
use Rattle.sym_state.specs.State.{State}
use Rattle.sym_state.specs.WellMade.{WellMade}
use Rattle.sym_state.specs.declared.piece.Piece.{Piece}
use Rattle.sym_state.specs.declared.symbol.Bind.{Bind}
use Rattle.sym_state.specs.declared.symbol.Fact.{Fact}
use Rattle.sym_state.specs.declared.symbol.Sym.{Sym}
use Rattle.loop_templates.specs.Candidates.{HasCases, HasNextCases, IsCase, IsMade, added_for, exits_of, first_candidate, goes, grown, has_room, is_lower, is_met, is_proved, is_short, lowered, may_enter, may_grow, next_after, next_by, passes, settled}
use Rattle.loop_templates.specs.Bound.{is_bound_field, is_bound_variable}
use Rattle.loop_templates.specs.Cases.{CanStand, Frame, IsFrame, IsSumOver, bare_case, case_of, common_facts, entering_case, facts_for, fields_of, further_facts, given_facts, numbered, ordered_facts, places_behind, places_for, seated, skeleton_facts, taken_symbols, variables_of, with_rows}
use Rattle.loop_templates.specs.Skeletons.{IsBoneOf, Skeleton, bone_of, new_skeletons, skeleton, states_of}
use Rattle.loop_templates.specs.Sums.{IsSmallSum}
use Rattle.loop_templates.specs.Visits.{common_case}
use Rattle.loop_templates.specs.declared.candidates.Added.{Added}
use Rattle.loop_templates.specs.declared.candidates.Candidate.{Candidate}
use Rattle.loop_templates.specs.declared.candidates.Next.{Next}
use Rattle.loop_templates.specs.declared.candidates.Next.TheVariants as next
use Rattle.loop_templates.specs.declared.cases.Bound.{Bound}
use Rattle.loop_templates.specs.declared.places.Seats.{Seats}
use Rattle.loop_templates.proofs.Cased.{case_fit, entering_stands, later_stands, more_added}
use Rattle.loop_templates.proofs.Fit.{facts_fit}
use Rattle.loop_templates.proofs.Formed.{Binds, IsSumOf, rows_placed}
use Rattle.loop_templates.proofs.Made.{all_lowered_made, case_stack, facts_few, made_of, new_of_style, rows_few}
use Rattle.loop_templates.proofs.OneByOne.{fewer}
use Rattle.loop_templates.proofs.Seated.{AreSeated, all_seated, names_of, seated_names}
use Rattle.loop_templates.proofs.Written.{SaysSome, all_taken, behind_least, binds_each, binds_rise, each_of_all, fields_are, is_fact, kept_says, names_rise, numbers_behind, numbers_placed, syms_of, variables_are}

-- places behind a stack of this length, up to a number
record ArePlaces (frame : Frame) (n m : ℕ) (places : List Bind) : Type 0 where
  names : names_of places ≡ variables_of frame ++ fields_of frame
  below : All (λ place. place.sym.0 < m) places
  placed : are_placed n (syms_of places) ≡ true
  next : next_behind n (syms_of places) ≡ m

places_are : (frame : Frame) (n : ℕ) → n + (length frame.style.names + length frame.style.names) ≤ MOST_NUMBER → 1 ≤ length frame.entering
    → (m : ℕ) × ArePlaces frame n m (places_for frame n)
places_are frame n few some =
    let names = variables_of frame ++ fields_of frame in
    let vars = ids_from-length (is_bound_variable frame.bound) 0 frame.style.names in
    let fields = ids_from-length (is_bound_field frame.bound) 0 frame.style.names in
    let both = length-append (variables_of frame) (fields_of frame) in
    let none : Seats = record { places = []; seen = []; next = n } in
    elim frame.entering as (λ (states : List State). 1 ≤ length states
    → (m : ℕ) × ArePlaces frame n m (elim states as (λ _. List Bind) [ [] ↦ [] | first ∷ more ↦ places_behind frame.writes n first names ])) [
      | [] ↦ λ one. absurd (omega (arith, one))
      | first ∷ more ↦ λ _.
          (let taken = taken_symbols frame.writes first in
          let begun : AreSeated none = record { places = All-nil (λ (place : Bind). place.sym.0 < n); seen = All-nil (λ (pair : Sym × Sym). pair.1.0 < n) } in
          let made = all_seated frame.writes taken first none names begun in
          let placed = all_taken n frame.writes taken first none names (omega (arith, few, vars, fields, both)) begun (record { placed = refl; next = refl }) in (
            (seated frame.writes taken first none names).next,
            record {
              names = seated_names frame.writes taken first none names;
              below = made.places;
              placed = placed.placed;
              next = placed.next;
            },
          ))
    ] some

-- the variables among them, and the fields
vars_named : (vars fields : List NameId) (places : List Bind) → names_of places ≡ vars ++ fields → names_of (take (length vars) places) ≡ vars
vars_named vars fields places is =
    sym (take-map (λ (b : Bind). b.name) (length vars) places) ∙ ap (take (length vars)) is ∙ take-append_seam vars fields

fields_named : (vars fields : List NameId) (places : List Bind) → names_of places ≡ vars ++ fields → names_of (drop (length vars) places) ≡ fields
fields_named vars fields places is =
    sym (drop-map (λ (b : Bind). b.name) (length vars) places) ∙ ap (drop (length vars)) is ∙ drop-append_seam vars fields

syms_split : (v : ℕ) (places : List Bind) → syms_of (take v places) ++ syms_of (drop v places) ≡ syms_of places
syms_split v places =
    sym (map-append (λ (b : Bind). b.sym) (take v places) (drop v places)) ∙ ap syms_of (take-append-drop v places)

all_facts : (style : Style) (m : ℕ) (facts : List Fact) → ((it : Fact) → FactFits style m it → SaysSome it → IsFact style m it)
    → All (FactFits style m) facts → All SaysSome facts → Each (IsFact style m) facts
all_facts style m [] shows fits says = tt
all_facts style m (it ∷ facts) shows fits says = (
  shows it (All-head (FactFits style m) it facts fits) (All-head SaysSome it facts says),
  all_facts style m facts shows (All-tail (FactFits style m) it facts fits) (All-tail SaysSome it facts says),
)

-- the facts of a case say something
facts_say : (frame : Frame) (bones : Skeleton) (places : List Bind) (common : List State) (further : Option State)
    → All SaysSome (facts_for frame bones places common further)
facts_say frame bones places common further =
    let given = given_facts frame.style frame.admits places in
    let facts = skeleton_facts 0 bones ++ (further_facts frame.writes places further ++ common_facts frame.writes places common) in
    All-take SaysSome 64 (ordered_facts given facts) (kept_says given [] facts (All-nil SaysSome))

-- the rows of a case
both_sums : (style : Style) (bound : Bound) (has_pos : Bool) (sums : List (List Part)) → All IsSmallSum sums → All (IsSumOver style bound has_pos) sums → All (IsSumOf style bound has_pos) sums
both_sums style bound has_pos [] small over = All-nil (IsSumOf style bound has_pos)
both_sums style bound has_pos (sum ∷ sums) small over =
    All-cons (IsSumOf style bound has_pos) sum sums (All-head IsSmallSum sum sums small, All-head (IsSumOver style bound has_pos) sum sums over)
    (both_sums style bound has_pos sums (All-tail IsSmallSum sum sums small) (All-tail (IsSumOver style bound has_pos) sum sums over))

-- a case of these parts may stand in a certificate
written : (frame : Frame) (bones : Skeleton) (common : List State) (further : Option State) (states : List State) (m : ℕ)
    → IsFrame frame → CanStand frame bones common further → length bones ≤ 64 → ArePlaces frame (length bones) m (places_for frame (length bones))
    → IsPiece frame.style frame.at_entry frame.has_pos 0 (with_rows frame states (bare_case frame bones common further))
written frame bones common further states m ready can short are =
    let n = length bones in
    let style = frame.style in
    let at = frame.at_entry in
    let bound = frame.bound in
    let has_pos = frame.has_pos in
    let vars = variables_of frame in
    let fields = fields_of frame in
    let v = length vars in
    let places = places_for frame n in
    let bare = bare_case frame bones common further in
    let case = with_rows frame states bare in
    let facts = facts_for frame bones places common further in
    let stack = map numbered (range_with_len 0 n) in
    let split : places_of case ≡ stack ++ syms_of places = ap (λ (syms : List Sym). stack ++ syms) (syms_split v places) in
    let begun : n ≡ 0 + n = omega arith in
    let placed : are_placed (0 + n) (syms_of places) ≡ true = subst (λ (k : ℕ). are_placed k (syms_of places) ≡ true) begun are.placed in
    let behind : next_behind 0 (places_of case) ≡ m =
    ap (next_behind 0) split ∙ numbers_behind 0 n (syms_of places) (omega (arith, short)) ∙ ap (λ (k : ℕ). next_behind k (syms_of places)) (sym begun) ∙ are.next in
    let few : n ≤ m = subst (λ (k : ℕ). n ≤ k) are.next (behind_least n (syms_of places) (omega (arith, short))) in
    let fits = facts_fit style m (given_facts style frame.admits places) bones frame.writes places common further few can.each_bone are.below can.each_state
    (more_added frame n m further few can.may_add) in
    let binds : Binds style bound m bare = record {
      vars = vars_named vars fields places are.names;
      fields = fields_named vars fields places are.names;
      vars_below = All-take (λ (place : Bind). place.sym.0 < m) v places are.below;
      fields_below = All-drop (λ (place : Bind). place.sym.0 < m) v places are.below;
    } in
    let named = vars_named vars fields places are.names in
    let told = fields_named vars fields places are.names in
    let stacked = case_stack frame bones common further in
    record {
      placed = ap (are_placed 0) split ∙ numbers_placed 0 n (syms_of places) (omega (arith, short)) placed;
      few_symbols = omega (arith, stacked, short);
      vars = binds_each (IsVariable at style.names) (take v places) (subst (λ (names : List NameId). Each (IsVariable at style.names) names) (sym named) (variables_are bound at style.names ready.there));
      vars_rise = sym (binds_rise (take v places)) ∙ ap (λ (names : List NameId). is_chain is_below names) named ∙ names_rise (is_bound_variable bound) 0 style.names;
      fields = binds_each (λ name. IsField style.names name × (at ≡ true)) (drop v places)
          (subst (λ (names : List NameId). Each (λ name. IsField style.names name × (at ≡ true)) names) (sym told) (fields_are bound at style.names ready.there));
      fields_rise = sym (binds_rise (drop v places)) ∙ ap (λ (names : List NameId). is_chain is_below names) told ∙ names_rise (is_bound_field bound) 0 style.names;
      facts = subst (λ (k : ℕ). Each (IsFact style k) facts) (sym behind)
          (all_facts style m facts (λ it f s. is_fact style m it ready.sound f s) fits (facts_say frame bones places common further));
      few_facts = facts_few frame bones places common further;
      rows = subst (λ (k : ℕ). Each (IsRow has_pos k) case.rows) (sym behind)
          (each_of_all (IsRow has_pos m) case.rows
          (rows_placed style frame.admits frame.whole at bound has_pos m frame.sums states bare binds (both_sums style bound has_pos frame.sums ready.sums ready.over)));
      few_rows = rows_few style frame.admits frame.whole at frame.sums states bare;
    }

pub case_stands : (frame : Frame) (bones : Skeleton) (common : List State) (further : Option State) (states : List State) → IsFrame frame
    → CanStand frame bones common further → length bones ≤ 64 → IsCase frame (with_rows frame states (bare_case frame bones common further))
case_stands frame bones common further states ready can short =
    let names = ready.sound.few_names in
    let are = places_are frame (length bones) (omega (arith, short, names)) ready.some in
    record {
      piece = written frame bones common further states are.0 ready can short are.1;
      texts = (case_fit frame bones common further can).texts;
    }

short_is : {X : Type 0} (xs : List X) → is_short xs ≡ true → length xs ≤ 64
short_is xs e = grind (arith, nat_tests)

-- the case of a state that enters
entering_is_case : (frame : Frame) (state : State) → IsFrame frame → WellMade frame.style state → is_short state.stack ≡ true → IsCase frame (entering_case frame state)
entering_is_case frame state ready made short =
    let long = length-map state.stack (bone_of state) in
    let few = short_is state.stack short in
    case_stands frame (skeleton state) (state ∷ []) (Some state) (state ∷ []) ready (entering_stands frame state (skeleton state) refl made) (omega (arith, long, few))

all_entering : (frame : Frame) (states : List State) → IsFrame frame → All (WellMade frame.style) states → list_all (λ state. is_short state.stack) states ≡ true
    → All (IsCase frame) (map (entering_case frame) states)
all_entering frame [] ready made short = All-nil (IsCase frame)
all_entering frame (state ∷ states) ready made short =
    let parts = and_parts (is_short state.stack) (list_all (λ (s : State). is_short s.stack) states) short in
    All-cons (IsCase frame) (entering_case frame state) (map (entering_case frame) states)
    (entering_is_case frame state ready (All-head (WellMade frame.style) state states made) parts.0)
    (all_entering frame states ready (All-tail (WellMade frame.style) state states made) parts.1)

-- the cases of the first candidate
pub first_has_cases : (frame : Frame) (found : Option Candidate) → found ≡ first_candidate frame → IsFrame frame → IfSome found (HasCases frame)
first_has_cases frame found is ready =
    subst (λ (it : Option Candidate). IfSome it (HasCases frame)) (sym is)
    (elim (may_enter frame.entering) as (λ (b : Bool). may_enter frame.entering ≡ b
    → IfSome (cond b (Some (record { first = map (entering_case frame) frame.entering; added = [] })) None) (HasCases frame)) [
      | true ↦ λ may. record {
        some = let mapped = length-map frame.entering (entering_case frame) in let enter = ready.some in omega (arith, mapped, enter);
        first = all_entering frame frame.entering ready ready.entering
            ((and_parts (nat_le (length frame.entering) 64) (list_all (λ (s : State). is_short s.stack) frame.entering) may).1);
        added = All-nil (λ (one : Added). IsCase frame one.case);
        made = All-nil IsMade;
      }
      | false ↦ λ _. tt
    ] refl)

-- a case that is added for a skeleton that isn't too long
pub added_is_case : (frame : Frame) (states : List State) (bones : Skeleton) → IsFrame frame → All (IsBoneOf frame.style) bones → is_short bones ≡ true
    → IsCase frame (added_for frame states bones).case
added_is_case frame states bones ready boned short =
    case_stands frame bones frame.entering None (states_of bones states) ready (later_stands frame bones frame.entering refl boned ready.entering) (short_is bones short)

all_added : (frame : Frame) (states : List State) (new : List Skeleton) → IsFrame frame → All (All (IsBoneOf frame.style)) new → list_all is_short new ≡ true
    → All (λ one. IsCase frame one.case) (map (added_for frame states) new)
all_added frame states [] ready boned short = All-nil (λ (one : Added). IsCase frame one.case)
all_added frame states (bones ∷ new) ready boned short =
    let parts = and_parts (is_short bones) (list_all is_short new) short in
    All-cons (λ one. IsCase frame one.case) (added_for frame states bones) (map (added_for frame states) new)
    (added_is_case frame states bones ready (All-head (All (IsBoneOf frame.style)) bones new boned) parts.0)
    (all_added frame states new ready (All-tail (All (IsBoneOf frame.style)) bones new boned) parts.1)

added_made : (frame : Frame) (states : List State) (new : List Skeleton) → IsFrame frame → All IsMade (map (added_for frame states) new)
added_made frame states [] ready = All-nil IsMade
added_made frame states (bones ∷ new) ready =
    All-cons IsMade (added_for frame states bones) (map (added_for frame states) new)
    (made_of frame bones frame.entering None (states_of bones states) (case_of frame states bones) refl ready) (added_made frame states new ready)

-- a piece of a certificate is one without some of its rows too
pub fewer_rows : (style : Style) (at_entry has_pos : Bool) (n : ℕ) (piece : Piece) (test : Row → Bool) → IsPiece style at_entry has_pos n piece
    → IsPiece style at_entry has_pos n (record piece { rows = filter test piece.rows })
fewer_rows style at_entry has_pos n piece test is =
    let few = fewer test piece.rows in
    let most = is.few_rows in
    record {
      placed = is.placed;
      few_symbols = is.few_symbols;
      vars = is.vars;
      vars_rise = is.vars_rise;
      fields = is.fields;
      fields_rise = is.fields_rise;
      facts = is.facts;
      few_facts = is.few_facts;
      rows = each_kept (IsRow has_pos (next_behind n (places_of piece))) test piece.rows is.rows;
      few_rows = omega (arith, few, most);
    }

lowered_is_case : (frame : Frame) (turned : List State) (one : Added) → IsCase frame one.case → IsCase frame (lowered frame.admits turned one).case
lowered_is_case frame turned one is = record {
  piece = fewer_rows frame.style frame.at_entry frame.has_pos 0 one.case
      (λ row. list_all (is_proved frame.admits one.case row) (states_of one.bones turned)) is.piece;
  texts = is.texts;
}

all_lowered : (frame : Frame) (turned : List State) (added : List Added) → All (λ one. IsCase frame one.case) added
    → All (λ one. IsCase frame one.case) (map (lowered frame.admits turned) added)
all_lowered frame turned added are =
    let P = λ (one : Added). IsCase frame one.case in
    All-map P (lowered frame.admits turned) added (All-weaker P (λ one. P (lowered frame.admits turned one)) (λ one is. lowered_is_case frame turned one is) added are)

passed_cases : (frame : Frame) (added : List Added) (turned : List State) → HasNextCases frame (passes frame.admits added turned)
passed_cases frame added turned =
    elim (list_all (is_met frame.admits added) turned) as (λ (b : Bool). HasNextCases frame (cond b next.Passes next.Ends)) [
      | true ↦ tt
      | false ↦ tt
    ]

settled_cases : (frame : Frame) (candidate : Candidate) (turned : List State) → HasCases frame candidate → HasNextCases frame (settled frame.admits candidate turned)
settled_cases frame candidate turned has =
    let added = map (lowered frame.admits turned) candidate.added in
    elim (list_any (is_lower frame.admits turned) candidate.added) as (λ (b : Bool). HasNextCases frame
    (cond b (goes candidate added) (passes frame.admits added turned))) [
      | true ↦ record {
        some = has.some;
        first = has.first;
        added = all_lowered frame turned candidate.added has.added;
        made = all_lowered_made frame.admits turned candidate.added has.made;
      }
      | false ↦ passed_cases frame added turned
    ]

grown_cases : (frame : Frame) (candidate : Candidate) (turned : List State) (new : List Skeleton) → IsFrame frame → All (All (IsBoneOf frame.style)) new
    → HasCases frame candidate → HasNextCases frame (grown frame candidate turned new)
grown_cases frame candidate turned new ready boned has =
    let P = λ (one : Added). IsCase frame one.case in
    elim (may_grow candidate new) as (λ (b : Bool). may_grow candidate new ≡ b → HasNextCases frame
    (cond b (goes candidate (candidate.added ++ map (added_for frame turned) new)) next.Ends)) [
      | true ↦ λ may. record {
        some = has.some;
        first = has.first;
        added = All-append P candidate.added (map (added_for frame turned) new) has.added
            (all_added frame turned new ready boned ((and_parts (has_room candidate (length new)) (list_all is_short new) may).1));
        made = All-append IsMade candidate.added (map (added_for frame turned) new) has.made (added_made frame turned new ready);
      }
      | false ↦ λ _. tt
    ] refl

by_new : (frame : Frame) (candidate : Candidate) (turned : List State) (new : List Skeleton) → IsFrame frame → All (All (IsBoneOf frame.style)) new
    → HasCases frame candidate → HasNextCases frame (next_by frame candidate turned new)
by_new frame candidate turned [] ready boned has = settled_cases frame candidate turned has
by_new frame candidate turned (bones ∷ more) ready boned has = grown_cases frame candidate turned (bones ∷ more) ready boned has

-- the cases of what follows a candidate
pub next_has_cases : (frame : Frame) (candidate : Candidate) (turned : List State) (after : Next) → after ≡ next_after frame candidate turned → IsFrame frame
    → All (WellMade frame.style) turned → HasCases frame candidate → HasNextCases frame after
next_has_cases frame candidate turned after is ready made has =
    let known = map (λ (one : Added). one.bones) candidate.added in
    subst (HasNextCases frame) (sym is)
    (by_new frame candidate turned (new_skeletons known turned) ready (new_of_style frame.style known turned (new_skeletons known turned) made refl) has)

-- the exits that aren't too long
abbrev pub MayExit : Frame → Added → Type 0
MayExit frame one = is_short one.bones ≡ true → IsCase frame one.case

pub exits_are_cases : (frame : Frame) (left : List State) (exits : List Added) → exits ≡ exits_of frame left → IsFrame frame → All (WellMade frame.style) left
    → All (MayExit frame) exits
exits_are_cases frame left exits is ready made =
    subst (λ (them : List Added). All (MayExit frame) them) (sym is)
    (by_skeleton (new_skeletons [] left) (new_of_style frame.style [] left (new_skeletons [] left) made refl))
  where
    by_skeleton : (new : List Skeleton) → All (All (IsBoneOf frame.style)) new → All (MayExit frame) (map (added_for frame left) new)
    by_skeleton [] boned = All-nil (MayExit frame)
    by_skeleton (bones ∷ new) boned =
        All-cons (MayExit frame) (added_for frame left bones) (map (added_for frame left) new)
        (λ short. added_is_case frame left bones ready (All-head (All (IsBoneOf frame.style)) bones new boned) short)
        (by_skeleton new (All-tail (All (IsBoneOf frame.style)) bones new boned))

pub exits_made : (frame : Frame) (left : List State) (exits : List Added) → exits ≡ exits_of frame left → IsFrame frame → All IsMade exits
exits_made frame left exits is ready = subst (λ (them : List Added). All IsMade them) (sym is) (added_made frame left (new_skeletons [] left) ready)

-- the case that states have in common
pub common_is_case : (frame : Frame) (states : List State) (case : Piece) → case ≡ common_case frame states → IsFrame frame → IsCase frame case
common_is_case frame states case is ready =
    let none : Skeleton = [] in
    subst (IsCase frame) (sym is)
    (case_stands frame none frame.entering None states ready (later_stands frame none frame.entering refl (All-nil (IsBoneOf frame.style)) ready.entering)
    (short_is none refl))
