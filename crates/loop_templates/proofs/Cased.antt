-- Cases without rows may start a state.
use Rattle.std.proofs.Common.{◌≡◌, ℕ, zero, suc, ◌+◌, ◌<◌, ◌≤◌, ◌∙◌, ap, sym, subst, arith, List, [], ◌∷◌, ◌++◌, length, map, take, drop, Option, Some, None}
use Rattle.std.specs.List.{All, range_with_len}
use Rattle.std.proofs.lemmas.List.{length-append, length-map}
use Rattle.std.proofs.lemmas.List.Elements.{All-nil, All-cons, All-append, All-drop, All-filter, All-map, All-take, All-weaker}
use Rattle.name_table.specs.declared.names.Kind.{Kind}
use Rattle.name_table.specs.declared.names.NameId.{NameId}
use Rattle.name_table.specs.declared.names.TheConstants.{MOST_NAMES}
use Rattle.name_table.specs.declared.style.Style.{Style}
use Rattle.sym_state.specs.Facts.{subject}
use Rattle.sym_state.specs.Fitting.{FactFits}
use Rattle.sym_state.specs.Starting.{IsFit, IsNumbered, placed, symbols_of}
use Rattle.sym_state.specs.State.{State}
use Rattle.sym_state.specs.WellMade.{HasBounds, HasByteText, HasShortText, HasSmallInteger, IsBounded, IsOfStyle, IsTermBelow, WellMade, ids_from}
use Rattle.sym_state.specs.declared.piece.Piece.{Piece}
use Rattle.sym_state.specs.declared.symbol.Bind.{Bind}
use Rattle.sym_state.specs.declared.symbol.Sym.{Sym}
use Rattle.sym_state.proofs.Started.{ids_from-length}
use Rattle.loop_templates.specs.Bound.{is_bound_field, is_bound_variable}
use Rattle.loop_templates.specs.Cases.{CanStand, Frame, MayAdd, bare_case, facts_for, fields_of, given_facts, numbered, places_behind, places_for, seated, taken_symbols, variables_of}
use Rattle.loop_templates.specs.Skeletons.{IsBoneOf, Skeleton, bone_of, same_skeleton, skeleton, states_of}
use Rattle.loop_templates.specs.declared.cases.Bound.{Bound}
use Rattle.loop_templates.specs.declared.places.Seats.{Seats}
use Rattle.loop_templates.proofs.Fit.{count_within, facts_fit, places_within, skeleton_of_style, stack_within}
use Rattle.loop_templates.proofs.Seated.{all_seated, ids_below, named_below, seated_names, seated_next}

-- where places begin
abbrev start : ℕ → Seats
start n = record { places = []; seen = []; next = n }

-- the names of places are the style's
pub places_named : (frame : Frame) (n : ℕ) → All (λ place. place.name.0 < length frame.style.names) (places_for frame n)
places_named frame n =
    let P = λ (place : Bind). place.name.0 < length frame.style.names in
    let names = variables_of frame ++ fields_of frame in
    let within = All-append (λ name. name.0 < length frame.style.names) (variables_of frame) (fields_of frame)
    (ids_below (is_bound_variable frame.bound) (length frame.style.names) 0 frame.style.names (omega arith))
    (ids_below (is_bound_field frame.bound) (length frame.style.names) 0 frame.style.names (omega arith)) in
    elim frame.entering as (λ (states : List State). All P (elim states as (λ _. List Bind) [ [] ↦ [] | first ∷ more ↦ places_behind frame.writes n first names ])) [
      | [] ↦ All-nil P
      | first ∷ more ↦
          named_below (length frame.style.names) (places_behind frame.writes n first names) names
          (seated_names frame.writes (taken_symbols frame.writes first) first (start n) names) within
    ]

-- the symbols of places, behind a stack of this length
places_below : (frame : Frame) (n : ℕ) → All (λ place. place.sym.0 < n + (length frame.style.names + length frame.style.names)) (places_for frame n)
places_below frame n =
    let m = n + (length frame.style.names + length frame.style.names) in
    let P = λ (place : Bind). place.sym.0 < m in
    let names = variables_of frame ++ fields_of frame in
    let vars = ids_from-length (is_bound_variable frame.bound) 0 frame.style.names in
    let fields = ids_from-length (is_bound_field frame.bound) 0 frame.style.names in
    let both = length-append (variables_of frame) (fields_of frame) in
    elim frame.entering as (λ (states : List State). All P (elim states as (λ _. List Bind) [ [] ↦ [] | first ∷ more ↦ places_behind frame.writes n first names ])) [
      | [] ↦ All-nil P
      | first ∷ more ↦
          (let seats = seated frame.writes (taken_symbols frame.writes first) first (start n) names in
          let made = all_seated frame.writes (taken_symbols frame.writes first) first (start n) names
          (record { places = All-nil (λ (place : Bind). place.sym.0 < n); seen = All-nil (λ (pair : Sym × Sym). pair.1.0 < n) }) in
          let next = seated_next frame.writes (taken_symbols frame.writes first) first (start n) names in
          All-weaker (λ (place : Bind). place.sym.0 < seats.next) P (λ place h. omega (arith, h, next, both, vars, fields)) seats.places made.places)
    ]

numbers_below : (m k n : ℕ) → k + n ≤ m → All (λ s. s.0 < m) (map numbered (range_with_len k n))
numbers_below m k zero few = All-nil (λ s. s.0 < m)
numbers_below m k (suc n) few =
    All-cons (λ s. s.0 < m) (numbered k) (map numbered (range_with_len (k + 1) n)) (omega (arith, few)) (numbers_below m (k + 1) n (omega (arith, few)))

syms_below : (m : ℕ) (binds : List Bind) → All (λ bind. bind.sym.0 < m) binds → All (λ s. s.0 < m) (map (λ bind. bind.sym) binds)
syms_below m binds all = All-map (λ (s : Sym). s.0 < m) (λ (bind : Bind). bind.sym) binds all

-- a case without rows has no more symbols than its skeleton and twice the style's names
pub few_symbols : (frame : Frame) (bones : Skeleton) (common : List State) (further : Option State)
    → symbols_of (bare_case frame bones common further) ≤ length bones + (length frame.style.names + length frame.style.names)
few_symbols frame bones common further =
    let n = length bones in
    let m = n + (length frame.style.names + length frame.style.names) in
    let v = length (variables_of frame) in
    let places = places_for frame n in
    let below = places_below frame n in
    let P = λ (bind : Bind). bind.sym.0 < m in
    let Q = λ (s : Sym). s.0 < m in
    count_within m (placed (bare_case frame bones common further))
    (All-append Q (map numbered (range_with_len 0 n)) (map (λ (bind : Bind). bind.sym) (take v places) ++ map (λ (bind : Bind). bind.sym) (drop v places))
    (numbers_below m 0 n (omega arith))
    (All-append Q (map (λ (bind : Bind). bind.sym) (take v places)) (map (λ (bind : Bind). bind.sym) (drop v places))
    (syms_below m (take v places) (All-take P v places below))
    (syms_below m (drop v places) (All-drop P v places below))))

-- what may be added to a short stack may be to a longer one
pub more_added : (frame : Frame) (n m : ℕ) (further : Option State) → n ≤ m → MayAdd frame.style n further → MayAdd frame.style m further
more_added frame n m None few may = may
more_added frame n m (Some state) few may = (may.0, (let short = may.1 in omega (arith, few, short)))

case_facts : (frame : Frame) (bones : Skeleton) (common : List State) (further : Option State) → CanStand frame bones common further
    → All (FactFits frame.style (symbols_of (bare_case frame bones common further))) (bare_case frame bones common further).facts
case_facts frame bones common further can =
    let n = length bones in
    let v = length (variables_of frame) in
    let places = places_for frame n in
    let facts = facts_for frame bones places common further in
    let m = symbols_of (bare_case frame bones common further) in
    let few = stack_within n v places facts in
    facts_fit frame.style m (given_facts frame.style frame.admits places) bones frame.writes places common further
    few can.each_bone (places_within n v places facts) can.each_state (more_added frame n m further few can.may_add)

pub case_numbered : (frame : Frame) (bones : Skeleton) (common : List State) (further : Option State) → CanStand frame bones common further
    → IsNumbered (bare_case frame bones common further)
case_numbered frame bones common further can =
    let piece = bare_case frame bones common further in
    let m = symbols_of piece in
    record {
      facts = All-weaker (FactFits frame.style m) (λ fact. subject fact < m) (λ fact f. f.below) piece.facts (case_facts frame bones common further can);
      rows = All-nil (λ row. All (λ part. IsTermBelow m part.term) row.parts);
    }

pub case_fit : (frame : Frame) (bones : Skeleton) (common : List State) (further : Option State) → CanStand frame bones common further
    → IsFit frame.style (bare_case frame bones common further)
case_fit frame bones common further can =
    let piece = bare_case frame bones common further in
    let m = symbols_of piece in
    let all = case_facts frame bones common further can in
    record {
      of_style = All-weaker (FactFits frame.style m) (IsOfStyle frame.style) (λ fact f. f.of_style) piece.facts all;
      integers = All-weaker (FactFits frame.style m) HasSmallInteger (λ fact f. f.integer) piece.facts all;
      bytes = All-weaker (FactFits frame.style m) HasByteText (λ fact f. f.bytes) piece.facts all;
      texts = All-weaker (FactFits frame.style m) HasShortText (λ fact f. f.short) piece.facts all;
      rows = All-nil IsBounded;
    }

-- the same of a piece that is the case
pub is_numbered : (frame : Frame) (bones : Skeleton) (common : List State) (further : Option State) (piece : Piece) → CanStand frame bones common further
    → piece ≡ bare_case frame bones common further → IsNumbered piece
is_numbered frame bones common further piece can is = subst IsNumbered (sym is) (case_numbered frame bones common further can)

pub is_fit : (frame : Frame) (bones : Skeleton) (common : List State) (further : Option State) (piece : Piece) → CanStand frame bones common further
    → piece ≡ bare_case frame bones common further → IsFit frame.style piece
is_fit frame bones common further piece can is = subst (IsFit frame.style) (sym is) (case_fit frame bones common further can)

pub has_few : (frame : Frame) (bones : Skeleton) (common : List State) (further : Option State) (piece : Piece) → length bones < 2147483648
    → length frame.style.names ≤ MOST_NAMES → piece ≡ bare_case frame bones common further → symbols_of piece + length frame.style.names < 4294967296
has_few frame bones common further piece short few is =
    let symbols = few_symbols frame bones common further in
    let same = ap symbols_of is in
    omega (arith, symbols, same, short, few)

-- a state that enters has what its case is made of
pub entering_stands : (frame : Frame) (state : State) (bones : Skeleton) → bones ≡ skeleton state → WellMade frame.style state
    → CanStand frame bones (state ∷ []) (Some state)
entering_stands frame state bones is made = record {
  each_bone = subst (λ (b : Skeleton). All (IsBoneOf frame.style) b) (sym is) (skeleton_of_style frame.style state made);
  each_state = All-cons (WellMade frame.style) state [] made (All-nil (WellMade frame.style));
  may_add = (made, (let long = ap length is ∙ length-map state.stack (bone_of state) in omega (arith, long)));
}

pub named_of : (frame : Frame) (n : ℕ) (places : List Bind) → places ≡ places_for frame n → All (λ place. place.name.0 < length frame.style.names) places
named_of frame n places is = subst (λ (all : List Bind). All (λ (place : Bind). place.name.0 < length frame.style.names) all) (sym is) (places_named frame n)

pub alone_bounded : (style : Style) (state : State) → WellMade style state → All HasBounds (state ∷ [])
alone_bounded style state made = All-cons HasBounds state [] made.bounds (All-nil HasBounds)

-- a case that is added has what it is made of
pub later_stands : (frame : Frame) (bones : Skeleton) (common : List State) → common ≡ frame.entering → All (IsBoneOf frame.style) bones
    → All (WellMade frame.style) frame.entering → CanStand frame bones common None
later_stands frame bones common is boned made = record {
  each_bone = boned;
  each_state = subst (λ (all : List State). All (WellMade frame.style) all) (sym is) made;
  may_add = tt;
}

pub those_bounded : (style : Style) (bones : Skeleton) (states those : List State) → those ≡ states_of bones states → All (WellMade style) states
    → All HasBounds those
those_bounded style bones states those is made =
    subst (λ (all : List State). All HasBounds all) (sym is)
    (All-filter (λ state. same_skeleton bones (skeleton state)) HasBounds states
    (All-weaker (WellMade style) HasBounds (λ state h. h.bounds) states made))

-- the names of a case are few behind a short stack
pub names_few : (bound : Bound) (all : List (List ℕ × Kind)) (n : ℕ) (vars names : List NameId) → n < 2147483648 → length all ≤ MOST_NAMES
    → vars ≡ ids_from (is_bound_variable bound) 0 all → names ≡ vars ++ ids_from (is_bound_field bound) 0 all → n + length names < 4294967296
names_few bound all n vars names short few is more =
    let first = ids_from-length (is_bound_variable bound) 0 all in
    let second = ids_from-length (is_bound_field bound) 0 all in
    let one = ap length is in
    let both = ap length more ∙ length-append vars (ids_from (is_bound_field bound) 0 all) in
    omega (arith, short, few, first, second, one, both)
