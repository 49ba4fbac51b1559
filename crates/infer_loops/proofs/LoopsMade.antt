-- What is found for states that enter is a loop of the style.
use Rattle.std.proofs.Common.{◌≡◌, ℕ, zero, suc, ◌+◌, ◌≤◌, Bool, true, false, cond, ◌&&◌, nat_le, List, [], ◌∷◌, ◌++◌, length, map, Option, None, Some, Result, Ok, Err, IfSome, refl, sym, subst, ap, ◌∙◌, arith, nat_lt, ◌<◌}
use Rattle.std.specs.List.{All, filter, list_all}
use Rattle.std.specs.Option.{option_and_then, option_map_or}
use Rattle.std.specs.Result.{result_ok}
use Rattle.std.specs.Cmp.Derive.{both_true}
use Rattle.std.proofs.lemmas.Bool.{and_parts}
use Rattle.std.proofs.lemmas.Bool.Decides.{nat_tests}
use Rattle.std.proofs.lemmas.List.{length-append, length-map}
use Rattle.std.proofs.lemmas.List.Elements.{All-append, All-cons, All-filter, All-head, All-map, All-nil, All-tail, All-weaker}
use Rattle.std.proofs.lemmas.List.Sums.{count_by-le-length, length-filter}
use Rattle.name_table.proofs.Within.{each_kept}
use Rattle.name_table.specs.Sound.{Each, IsSound}
use Rattle.name_table.specs.declared.names.Kind.{Kind}
use Rattle.name_table.specs.declared.names.Kind.TheVariants as kind
use Rattle.name_table.specs.declared.names.NameId.{NameId}
use Rattle.name_table.specs.declared.style.Style.{Style}
use Rattle.bst_meaning.specs.StyleParts.{kind_of}
use Rattle.bst_meaning.specs.declared.value.Target.{Target}
use Rattle.cert_format.specs.declared.cert.Cert.{Cert}
use Rattle.cert_format.specs.declared.cert.Loop.{Loop}
use Rattle.sym_state.specs.State.{State}
use Rattle.sym_state.specs.WellMade.{WellMade, ids_from, is_variable}
use Rattle.sym_state.specs.declared.piece.Piece.{Piece}
use Rattle.sym_state.proofs.Started.{ids_from-length}
use Rattle.straight_hints.specs.declared.finding.Finding.TheVariants.{Straight}
use Rattle.loop_templates.specs.Bound.{all_bound, is_bound_variable}
use Rattle.loop_templates.specs.Candidates.{HasCases, HasNextCases, IsMade, exits_of, first_candidate, is_short, IsCase}
use Rattle.loop_templates.specs.Cases.{Frame, IsFrame}
use Rattle.loop_templates.specs.Reaching.{Marks, Occurring, is_marked, occurring_of, terms_over}
use Rattle.loop_templates.specs.declared.candidates.Added.{Added}
use Rattle.loop_templates.specs.declared.candidates.Candidate.{Candidate}
use Rattle.loop_templates.specs.declared.candidates.Next.{Next}
use Rattle.loop_templates.specs.declared.candidates.Next.TheVariants.{Ends, Goes, Passes}
use Rattle.loop_templates.specs.declared.limits.TheConstants.{MOST_PIECES}
use Rattle.loop_templates.proofs.FewTerms.{sums_small}
use Rattle.loop_templates.proofs.Over.{sums_over_names}
use Rattle.loop_templates.proofs.Seated.{ids_below}
use Rattle.loop_templates.proofs.Standing.{MayExit, exits_are_cases, exits_made, first_has_cases, next_has_cases}
use Rattle.loop_templates.proofs.Written.{each_of_all, ids_hold, variables_are}
use Rattle.cert_check.specs.Certified.{AreWritten, IsCertified, IsLoopOf, IsPieceOf, MakesLoops, MakesStanding}
use Rattle.cert_check.specs.Tours.{Toured, setting_out, turns_of}
use Rattle.cert_check.specs.Units.{everywhere}
use Rattle.cert_check.specs.declared.tours.Ended.{Ended}
use Rattle.cert_check.specs.declared.tours.Tour.{Tour}
use Rattle.cert_check.specs.declared.tours.Turning.{Turning}
use Rattle.cert_check.proofs.Certifying.{hints_few}
use Rattle.cert_check.proofs.TourEnds.{HasMadeEnds, turns_keep}
use Rattle.cert_format.specs.CertText.{AreWrites, IsHint, IsLoop, IsNameable, IsPiece, IsVariable}
use Rattle.cert_format.specs.CondText.{is_below, is_chain}
use Rattle.infer_loops.specs.Invariants.{added_cases, cases_of, ended_states, found_in, frame_of, hints_of, invariant_of, is_hint, loop_of, loop_with, may_be_written, next_of, occurring_in, sequence, settled_by, toured, turning, walked_by, written_in}
use Rattle.infer_loops.specs.declared.limits.TheConstants.{MOST_CANDIDATES}
use Rattle.infer_loops.proofs.CasePieces.{added_pieces, case_piece, first_pieces}
use Rattle.infer_loops.proofs.EndStates.{made_states}
use Rattle.infer_loops.proofs.HintsWritten.{hints_are}

-- what is written are variables
variable_takes : (entry : Bool) (k : Kind) → is_bound_variable (all_bound entry) k ≡ true → is_variable entry k ≡ true
variable_takes entry kind.IntGlobal e = refl
variable_takes entry kind.StrGlobal e = refl
variable_takes entry kind.IntEntry e = e
variable_takes entry kind.StrEntry e = e
variable_takes entry kind.Field e = absurd (cc)
variable_takes entry (kind.Builtin op) e = absurd (cc)
variable_takes entry (kind.Wizard body) e = absurd (cc)

all_of_each : {X : Type 0} (P : X → Type 0) (xs : List X) → Each P xs → All P xs
all_of_each P [] each = All-nil P
all_of_each P (x ∷ xs) each = All-cons P x xs each.0 (all_of_each P xs each.1)

are_written : (style : Style) (entry : Bool) (marks : Marks) → IsSound style
    → AreWritten style entry (occurring_of (is_bound_variable (all_bound entry)) style marks)
are_written style entry marks sound =
    let test = is_bound_variable (all_bound entry) in
    let ids : List NameId = ids_from test 0 style.names in
    let P : NameId → Type 0 = λ name. option_map_or (is_variable entry) (kind_of style name) false ≡ true in
    let marked : NameId → Bool = λ name. is_marked marks name.0 in
    record {
      there = All-filter marked (λ name. name.0 < length style.names) ids (ids_below test (length style.names) 0 style.names (omega arith));
      variables = All-filter marked P ids
          (all_of_each P ids
          (ids_hold test P style.names style.names 0
          (λ name k is passes. ap (λ (found : Option Kind). option_map_or (is_variable entry) found false) is ∙ variable_takes entry k passes) refl));
      few = let kept = length-filter marked ids in
          let fewer = count_by-le-length marked ids in
          let most = ids_from-length test 0 style.names in
          let names = sound.few_names in
          omega (arith, kept, fewer, most, names);
    }

-- they stand in their order
below_next : (i id : ℕ) → i < id → nat_lt i id ≡ true
below_next i id less = grind (arith, nat_tests)

kept_behind : (keep : NameId → Bool) (test : Kind → Bool) (i id : ℕ) (names : List (List ℕ × Kind)) → i < id
    → is_chain is_below (record { 0 = i } ∷ filter keep (ids_from test id names)) ≡ true
kept_behind keep test i id [] less = refl
kept_behind keep test i id (name ∷ names) less =
    let first : NameId = record { 0 = i } in
    let this : NameId = record { 0 = id } in
    let rest = filter keep (ids_from test (suc id) names) in
    elim (test name.1) as (λ (t : Bool). is_chain is_below (first ∷ filter keep (cond t (this ∷ ids_from test (suc id) names) (ids_from test (suc id) names))) ≡ true) [
      | true ↦ elim (keep this) as (λ (b : Bool). is_chain is_below (first ∷ cond b (this ∷ rest) rest) ≡ true) [
        | true ↦ both_true (below_next i id less) (kept_behind keep test id (suc id) names (omega arith))
        | false ↦ kept_behind keep test i (suc id) names (omega (arith, less))
      ]
      | false ↦ kept_behind keep test i (suc id) names (omega (arith, less))
    ]

kept_rise : (keep : NameId → Bool) (test : Kind → Bool) (id : ℕ) (names : List (List ℕ × Kind)) → is_chain is_below (filter keep (ids_from test id names)) ≡ true
kept_rise keep test id [] = refl
kept_rise keep test id (name ∷ names) =
    let this : NameId = record { 0 = id } in
    let rest = filter keep (ids_from test (suc id) names) in
    elim (test name.1) as (λ (t : Bool). is_chain is_below (filter keep (cond t (this ∷ ids_from test (suc id) names) (ids_from test (suc id) names))) ≡ true) [
      | true ↦ elim (keep this) as (λ (b : Bool). is_chain is_below (cond b (this ∷ rest) rest) ≡ true) [
        | true ↦ kept_behind keep test id (suc id) names (omega arith)
        | false ↦ kept_rise keep test (suc id) names
      ]
      | false ↦ kept_rise keep test (suc id) names
    ]

written_rise : (style : Style) (entry : Bool) (marks : Marks)
    → AreWrites entry style.names (occurring_of (is_bound_variable (all_bound entry)) style marks)
written_rise style entry marks =
    let test = is_bound_variable (all_bound entry) in
    let marked : NameId → Bool = λ name. is_marked marks name.0 in (
      each_kept (IsVariable entry style.names) marked (ids_from test 0 style.names) (variables_are (all_bound entry) entry style.names (λ at. at)),
      kept_rise marked test 0 style.names,
    )

-- an exit whose stack is short is a case
short_case : (frame : Frame) (exit : Added) → MayExit frame exit → IsMade exit → is_short exit.case.stack ≡ true → IsCase frame exit.case
short_case frame exit may made short = may (ap (λ (n : ℕ). nat_le n 64) (sym made.stack) ∙ short)

-- exits whose stacks are short are pieces of the style
exit_pieces : (frame : Frame) (exits : List Added) → IsSound frame.style → All (MayExit frame) exits → All IsMade exits
    → list_all (λ one. is_short one.case.stack) exits ≡ true → All (λ one. IsPieceOf frame.style frame.at_entry one.case) exits
exit_pieces frame [] sound may made short = All-nil (λ (one : Added). IsPieceOf frame.style frame.at_entry one.case)
exit_pieces frame (exit ∷ exits) sound may made short =
    let parts = and_parts (is_short exit.case.stack) (list_all (λ (one : Added). is_short one.case.stack) exits) short in
    All-cons (λ (one : Added). IsPieceOf frame.style frame.at_entry one.case) exit exits
    (case_piece frame exit.case sound (short_case frame exit (All-head (MayExit frame) exit exits may) (All-head IsMade exit exits made) parts.0))
    (exit_pieces frame exits sound (All-tail (MayExit frame) exit exits may) (All-tail IsMade exit exits made) parts.1)

few_there : (candidate : Candidate) (exits : List Added) → may_be_written candidate exits ≡ true
    → length (cases_of candidate) + length (added_cases exits) ≤ 64
few_there candidate exits may =
    let parts = and_parts (nat_le ((length candidate.first + length candidate.added) + length exits) MOST_PIECES)
    (list_all (λ (added : Added). is_short added.case.stack) exits) may in
    let fits : (length candidate.first + length candidate.added) + length exits ≤ 64 = within _ _ parts.0 in
    let all = length-append candidate.first (added_cases candidate.added) in
    let added = length-map candidate.added (λ (one : Added). one.case) in
    let left = length-map exits (λ (one : Added). one.case) in
    omega (arith, fits, all, added, left)
  where
    within : (n m : ℕ) → nat_le n m ≡ true → n ≤ m
    within n m e = grind (arith, nat_tests)

if_some_weaker : {X : Type 0} {P Q : X → Type 0} (o : Option X) → ((x : X) → P x → Q x) → IfSome o P → IfSome o Q
if_some_weaker None gives holds = tt
if_some_weaker (Some x) gives holds = gives x holds

tour_ok : (r : Toured) (tour : Tour) → result_ok r ≡ Some tour → r ≡ Ok tour
tour_ok (Ok other) tour e = cc
tour_ok (Err refusal) tour e = absurd (cc)

-- what is found is a loop of the style, and may stand in a certificate
pub record IsMadeLoop (style : Style) (one : Turning) (found : Loop) : Type 0 where
  pub of_style : IsLoopOf style found
  pub stands : IsNameable style one.test → IsNameable style one.body → IsLoop style found

module _ (cert : Cert) (frame : Frame) (one : Turning) (ready : IsFrame frame) (certified : IsCertified frame.style cert)
    (at : frame.at_entry ≡ one.entry) (pos : frame.has_pos ≡ one.entry) (writes : AreWritten frame.style one.entry frame.writes)
    (written : AreWrites one.entry frame.style.names frame.writes) where
  -- a case as certificates have it
  piece_of : (case : Piece) → IsCase frame case → IsPiece frame.style one.entry one.entry 0 case
  piece_of case is =
      subst (λ (has_pos : Bool). IsPiece frame.style one.entry has_pos 0 case) pos
      (subst (λ (entry : Bool). IsPiece frame.style entry frame.has_pos 0 case) at is.piece)

  some_there : (candidate : Candidate) → HasCases frame candidate → 1 ≤ length (cases_of candidate)
  some_there candidate has =
      let all = length-append candidate.first (added_cases candidate.added) in
      let first = has.some in
      omega (arith, all, first)

  cases_there : (candidate : Candidate) → HasCases frame candidate → All (IsPieceOf frame.style one.entry) (cases_of candidate)
  cases_there candidate has =
      All-append (IsPieceOf frame.style one.entry) candidate.first (added_cases candidate.added)
      (first_pieces frame frame.style one.entry candidate ready.sound has refl at)
      (All-map (IsPieceOf frame.style one.entry) (λ (added : Added). added.case) candidate.added
      (added_pieces frame frame.style one.entry candidate ready.sound has refl at))

  exits_there : (exits : List Added) (left : List State) → exits ≡ exits_of frame left → All (WellMade frame.style) left
      → list_all (λ added. is_short added.case.stack) exits ≡ true → All (IsPieceOf frame.style one.entry) (added_cases exits)
  exits_there exits left is made short =
      All-map (IsPieceOf frame.style one.entry) (λ (added : Added). added.case) exits
      (subst (λ (entry : Bool). All (λ (added : Added). IsPieceOf frame.style entry added.case) exits) at
      (exit_pieces frame exits ready.sound (exits_are_cases frame left exits is ready made) (exits_made frame left exits is ready) short))

  pieces_written : (candidate : Candidate) → HasCases frame candidate → Each (IsPiece frame.style one.entry one.entry 0) (cases_of candidate)
  pieces_written candidate has =
      let P = IsPiece frame.style one.entry one.entry 0 in
      each_of_all P (cases_of candidate)
      (All-append P candidate.first (added_cases candidate.added)
      (All-weaker (IsCase frame) P (λ case is. piece_of case is) candidate.first has.first)
      (All-map P (λ (added : Added). added.case) candidate.added
      (All-weaker (λ (added : Added). IsCase frame added.case) (λ added. P added.case) (λ added is. piece_of added.case is) candidate.added has.added)))

  exits_written : (exits : List Added) → All (MayExit frame) exits → All IsMade exits → list_all (λ added. is_short added.case.stack) exits ≡ true
      → Each (IsPiece frame.style one.entry one.entry 0) (added_cases exits)
  exits_written [] may made short = tt
  exits_written (exit ∷ exits) may made short =
      let parts = and_parts (is_short exit.case.stack) (list_all (λ (added : Added). is_short added.case.stack) exits) short in (
        piece_of exit.case (short_case frame exit (All-head (MayExit frame) exit exits may) (All-head IsMade exit exits made) parts.0),
        exits_written exits (All-tail (MayExit frame) exit exits may) (All-tail IsMade exit exits made) parts.1,
      )

  made_there : (candidate : Candidate) (tour : Tour) (left : List State) (exits : List Added) → exits ≡ exits_of frame left → HasCases frame candidate
      → All (WellMade frame.style) left → may_be_written candidate exits ≡ true → Each IsHint (hints_of frame candidate exits tour)
      → IsMadeLoop frame.style one (loop_with frame one candidate exits (hints_of frame candidate exits tour))
  made_there candidate tour left exits is has made may hints =
      let short = (and_parts (nat_le ((length candidate.first + length candidate.added) + length exits) MOST_PIECES)
      (list_all (λ (added : Added). is_short added.case.stack) exits) may).1 in
      let some = some_there candidate has in
      let few = few_there candidate exits may in
      record {
        of_style = record {
          cases = cases_there candidate has;
          exits = exits_there exits left is made short;
          some = some;
          few = few;
          writes = writes;
          hints = hints_few (hints_of frame candidate exits tour) hints;
        };
        stands = λ test body. record {
          test = test;
          body = body;
          writes = written;
          cases = pieces_written candidate has;
          exits = exits_written exits (exits_are_cases frame left exits is ready made) (exits_made frame left exits is ready) short;
          some = some;
          few = few;
          hints = hints;
        };
      }

  -- the loop of a candidate that passes
  loop_there : (candidate : Candidate) (tour : Tour) → HasCases frame candidate → HasMadeEnds frame.style tour
      → IfSome (loop_of frame one candidate tour) (IsMadeLoop frame.style one)
  loop_there candidate tour has ends =
      let left : List State = ended_states false tour.ends in
      let exits : List Added = exits_of frame left in
      let test = may_be_written candidate exits && list_all is_hint (hints_of frame candidate exits tour) in
      elim test as (λ (b : Bool). test ≡ b → IfSome (cond b (Some (loop_with frame one candidate exits (hints_of frame candidate exits tour))) None) (IsMadeLoop frame.style one)) [
        | true ↦ λ may.
            let parts = and_parts (may_be_written candidate exits) (list_all is_hint (hints_of frame candidate exits tour)) may in
            made_there candidate tour left exits refl has (made_states frame.style false tour.ends ends) parts.0
            (hints_are (hints_of frame candidate exits tour) parts.1)
        | false ↦ λ _. tt
      ] refl

  ends_there : (candidate : Candidate) (tour : Tour) → HasCases frame candidate → toured frame.style cert one candidate ≡ Some tour
      → HasMadeEnds frame.style tour
  ends_there candidate tour has e =
      (turns_keep (everywhere frame.style cert) one ready.sound certified tt (cases_of candidate) (setting_out Straight) tour
      (cases_there candidate has) refl
      (tour_ok (turns_of (everywhere frame.style cert) one (cases_of candidate) (setting_out Straight)) tour e)).ends
      (All-nil (λ (end : Ended). WellMade frame.style end.state))

  -- what comes of a candidate that was walked
  settled_there : (candidate : Candidate) (tour : Tour) (later : Candidate → Option Loop) (next : Next) → HasCases frame candidate
      → HasMadeEnds frame.style tour → HasNextCases frame next
      → ((after : Candidate) → HasCases frame after → IfSome (later after) (IsMadeLoop frame.style one))
      → IfSome (settled_by frame one candidate tour later next) (IsMadeLoop frame.style one)
  settled_there candidate tour later Passes has ends nexts made = loop_there candidate tour has ends
  settled_there candidate tour later Ends has ends nexts made = tt
  settled_there candidate tour later (Goes after) has ends nexts made = made after nexts

  walked_there : (candidate : Candidate) (later : Candidate → Option Loop) (walked : Option Tour) → walked ≡ toured frame.style cert one candidate
      → HasCases frame candidate → ((after : Candidate) → HasCases frame after → IfSome (later after) (IsMadeLoop frame.style one))
      → IfSome (walked_by frame one candidate later walked) (IsMadeLoop frame.style one)
  walked_there candidate later None is has made = tt
  walked_there candidate later (Some tour) is has made =
      let ends = ends_there candidate tour has (sym is) in
      let turned : List State = ended_states true tour.ends in
      settled_there candidate tour later (next_of frame candidate tour) has ends
      (next_has_cases frame candidate turned (next_of frame candidate tour) refl ready (made_states frame.style true tour.ends ends) has) made

  -- candidates one after the other
  sequence_there : (n : ℕ) (candidate : Candidate) → HasCases frame candidate → IfSome (sequence n cert frame one candidate) (IsMadeLoop frame.style one)
  sequence_there zero candidate has = tt
  sequence_there (suc n) candidate has =
      walked_there candidate (sequence n cert frame one) (toured frame.style cert one candidate) refl has (λ after. sequence_there n after)

  pub loop_found : IfSome (found_in cert frame one) (IsMadeLoop frame.style one)
  loop_found = first_there (first_candidate frame) refl
    where
      first_there : (first : Option Candidate) → first ≡ first_candidate frame
          → IfSome (option_and_then (sequence MOST_CANDIDATES cert frame one) first) (IsMadeLoop frame.style one)
      first_there None is = tt
      first_there (Some candidate) is = sequence_there MOST_CANDIDATES candidate (first_has_cases frame (Some candidate) is ready)

-- what is found for states that enter
invariant_there : (style : Style) (cert : Cert) (test body : Target) (entering : List State) → IsSound style → IsCertified style cert → 1 ≤ length entering
    → All (WellMade style) entering
    → IfSome (invariant_of style cert test body entering)
    (IsMadeLoop style (turning test body entering))
invariant_there style cert test body entering sound certified some made =
    let one : Turning = turning test body entering in
    let found : Occurring = occurring_in style cert.cond one in
    loop_found cert (frame_of style cert.cond one entering) one (record {
      sound = sound;
      entering = made;
      some = some;
      there = λ at_entry. at_entry;
      sums = sums_small (terms_over style found one.entry);
      over = sums_over_names style found one.entry one.entry;
    })
    certified refl refl (are_written style one.entry found.quoted sound) (written_rise style one.entry found.quoted)

pub invariants_made : (style : Style) (cert : Cert) → IsSound style → IsCertified style cert → MakesLoops style (invariant_of style cert)
invariants_made style cert sound certified test body entering some made =
    if_some_weaker (invariant_of style cert test body entering) (λ found is. is.of_style)
    (invariant_there style cert test body entering sound certified some made)

pub invariants_stand : (style : Style) (cert : Cert) → IsSound style → IsCertified style cert → MakesStanding style (invariant_of style cert)
invariants_stand style cert sound certified test body entering names named some made =
    if_some_weaker (invariant_of style cert test body entering) (λ found is. is.stands names named)
    (invariant_there style cert test body entering sound certified some made)
