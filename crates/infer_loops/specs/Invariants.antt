-- The invariant of a loop (docs/ANALYSER.md, "Loops"): candidates in sequence, until one passes.
use Rattle.std.specs.Prelude.{ℕ, zero, suc, ◌+◌, Bool, true, false, ◌&&◌, not, nat_le, if◌then◌else◌, List, [], ◌∷◌, ◌++◌, length, map, flat_map, Option, None, Some}
use Rattle.std.specs.List.{list_all}
use Rattle.std.specs.Option.{option_and_then}
use Rattle.std.specs.Result.{result_ok}
use Rattle.lin_facts.specs.declared.row.Part.{Part}
use Rattle.name_table.specs.declared.names.NameId.{NameId}
use Rattle.name_table.specs.declared.style.Style.{Style}
use Rattle.bst_meaning.specs.declared.condition.Cond.{Cond}
use Rattle.bst_meaning.specs.declared.value.Target.{Target}
use Rattle.cert_format.specs.CertText.{reference_number}
use Rattle.cert_format.specs.declared.cert.Cert.{Cert}
use Rattle.cert_format.specs.declared.cert.Loop.{Loop}
use Rattle.cert_format.specs.declared.items.TheConstants.{MOST_NUMBER}
use Rattle.cert_format.specs.declared.limits.TheConstants.{MOST}
use Rattle.sym_state.specs.State.{State}
use Rattle.sym_state.specs.declared.hint.Hint.{Hint}
use Rattle.sym_state.specs.declared.hint.Hint.TheVariants.{Apply, Case, Drop, Loop as LoopHint, Step as StepHint}
use Rattle.sym_state.specs.declared.piece.Piece.{Piece}
use Rattle.sym_state.specs.declared.proof.Proof.{Proof}
use Rattle.sym_state.specs.declared.proof.Use.{Use}
use Rattle.straight_hints.specs.declared.finding.Finding.TheVariants.{Straight}
use Rattle.loop_templates.specs.declared.candidates.Added.{Added}
use Rattle.loop_templates.specs.declared.candidates.Candidate.{Candidate}
use Rattle.loop_templates.specs.declared.candidates.Next.{Next}
use Rattle.loop_templates.specs.declared.candidates.Next.TheVariants.{Passes, Ends, Goes}
use Rattle.loop_templates.specs.declared.limits.TheConstants.{MOST_ITEMS, MOST_PIECES}
use Rattle.loop_templates.specs.Bound.{all_bound, is_bound_variable}
use Rattle.loop_templates.specs.Candidates.{HasCases, entailing_one, exits_of, first_candidate, is_short, next_after}
use Rattle.loop_templates.specs.Cases.{Frame}
use Rattle.loop_templates.specs.Reaching.{Occurring, occurring, occurring_of, roots_of, terms_over}
use Rattle.loop_templates.specs.Sums.{sums}
use Rattle.cert_check.specs.Tours.{found_since, setting_out, turns_of}
use Rattle.cert_check.specs.declared.tours.Ended.{Ended}
use Rattle.cert_check.specs.declared.tours.Tour.{Tour}
use Rattle.cert_check.specs.declared.tours.Turning.{Turning}
use Rattle.cert_check.specs.Units.{everywhere}
use Rattle.cert_check.specs.Walks.{type_functions}
use Rattle.infer_loops.specs.declared.limits.TheConstants.{MOST_CANDIDATES}
use Rattle.infer_loops.specs.declared.sequence.Step.{Step}
use Rattle.infer_loops.specs.declared.sequence.Step.TheVariants.{Settled, Onward}

-- the cases that were added
abbrev pub added_cases : List Added → List Piece
added_cases added = map (λ one. one.case) added

-- the cases of a candidate, in their order
abbrev pub cases_of : Candidate → List Piece
cases_of candidate = candidate.first ++ added_cases candidate.added

-- the two functions of a loop as these states enter it: at an entry, and with whole stacks, where each of them is
abbrev pub turning : Target → Target → List State → Turning
turning test body entering = record {
  test = test;
  body = body;
  entry = list_all (λ state. state.at_entry) entering;
  whole = list_all (λ state. state.whole) entering;
}

-- which names occur in the bodies of a loop
abbrev pub occurring_in : Style → Cond → Turning → Occurring
occurring_in style admits one =
    let types = type_functions style admits in
    occurring style types (roots_of style types one.test ++ roots_of style types one.body)

-- the variables that count as written, which are those that are quoted
abbrev pub written_in : Style → Turning → Occurring → List NameId
written_in style one found = occurring_of (is_bound_variable (all_bound one.entry)) style found.quoted

-- the sums over the terms that occur
abbrev pub sums_in : Style → Turning → Occurring → List (List Part)
sums_in style one found = sums (terms_over style found one.entry)

-- the frame of a loop over these sums, where these variables count as written
abbrev pub frame_with : Style → Cond → Turning → List NameId → List (List Part) → List State → Frame
frame_with style admits one writes all entering = record {
  style = style;
  admits = admits;
  whole = one.whole;
  at_entry = one.entry;
  has_pos = one.entry;
  bound = all_bound one.entry;
  writes = writes;
  sums = all;
  entering = entering;
}

-- the frame of a loop in which these names occur
abbrev pub frame_over : Style → Cond → Turning → Occurring → List State → Frame
frame_over style admits one found entering = frame_with style admits one (written_in style one found) (sums_in style one found) entering

-- that of the loop that some states enter
abbrev pub frame_of : Style → Cond → Turning → List State → Frame
frame_of style admits one entering = frame_over style admits one (occurring_in style admits one) entering

-- a candidate is walked: a turn from each of its cases
abbrev pub toured : Style → Cert → Turning → Candidate → Option Tour
toured style cert one candidate = result_ok (turns_of (everywhere style cert) one (cases_of candidate) (setting_out Straight))

-- a state is behind a turn, or it leaves
abbrev pub is_behind : Bool → Ended → Bool
is_behind true end = end.turned
is_behind false end = not end.turned

-- the states behind turns, or those that leave
abbrev pub ended_states : Bool → List Ended → List State
ended_states turned [] = []
ended_states turned (end ∷ ends) = if is_behind turned end then end.state ∷ ended_states turned ends else ended_states turned ends

-- the hints by which the state at an end entails a case or an exit
abbrev pub shown_at_end : Frame → Candidate → List Added → Ended → List Hint
shown_at_end frame candidate exits end =
    if end.turned
    then entailing_one frame.admits end.state (length candidate.first) candidate.added
    else entailing_one frame.admits end.state 0 exits

-- the hints at an end: those found before it, and those
abbrev pub hints_at_end : Frame → Candidate → List Added → Ended → List Hint
hints_at_end frame candidate exits end = end.hints ++ shown_at_end frame candidate exits end

-- the hints of the loop, in the order in which its check takes them
abbrev pub hints_of : Frame → Candidate → List Added → Tour → List Hint
hints_of frame candidate exits tour = flat_map (hints_at_end frame candidate exits) tour.ends ++ found_since tour

-- the loop of a candidate with these exits and hints
abbrev pub loop_with : Frame → Turning → Candidate → List Added → List Hint → Loop
loop_with frame one candidate exits hints = record {
  test = one.test;
  body = one.body;
  entry = one.entry;
  whole = one.whole;
  writes = frame.writes;
  cases = cases_of candidate;
  exits = added_cases exits;
  hints = hints;
}

-- cases and exits may be written together
abbrev pub may_be_written : Candidate → List Added → Bool
may_be_written candidate exits =
    nat_le ((length candidate.first + length candidate.added) + length exits) MOST_PIECES && list_all (λ added. is_short added.case.stack) exits

-- a number from 1 on, of 32 bits
abbrev pub is_positive : ℕ → Bool
is_positive n = nat_le 1 n && nat_le n MOST_NUMBER

-- the numbers of a reference that is taken are within the limits
abbrev pub is_use : Use → Bool
is_use one = is_positive one.times && nat_le (reference_number one.reference) MOST_NUMBER

-- those of a proof are
abbrev pub is_proof : Proof → Bool
is_proof proof = is_positive proof.divisor && (list_all is_use proof.uses && nat_le (length proof.uses) MOST_ITEMS)

-- those of a hint are
abbrev pub is_hint : Hint → Bool
is_hint (Apply n) = nat_le n MOST
is_hint (LoopHint n) = nat_le n MOST
is_hint (Case n) = nat_le n MOST
is_hint (Drop proof) = is_proof proof
is_hint (StepHint proof) = is_proof proof
is_hint _ = true

-- the loop of a candidate that passes, where it is within the limits
abbrev pub loop_of : Frame → Turning → Candidate → Tour → Option Loop
loop_of frame one candidate tour =
    let exits = exits_of frame (ended_states false tour.ends) in
    let hints = hints_of frame candidate exits tour in
    if may_be_written candidate exits && list_all is_hint hints then Some (loop_with frame one candidate exits hints) else None

-- what comes of a candidate that was walked: its loop where it passes, and else what the next one gives
abbrev pub settled_by : Frame → Turning → Candidate → Tour → (Candidate → Option Loop) → Next → Option Loop
settled_by frame one candidate tour later Passes = loop_of frame one candidate tour
settled_by frame one candidate tour later Ends = None
settled_by frame one candidate tour later (Goes next) = later next

-- what follows a candidate that was walked
abbrev pub next_of : Frame → Candidate → Tour → Next
next_of frame candidate tour = next_after frame candidate (ended_states true tour.ends)

-- the same, where its walk may fail: there the sequence ends
abbrev pub walked_by : Frame → Turning → Candidate → (Candidate → Option Loop) → Option Tour → Option Loop
walked_by frame one candidate later None = None
walked_by frame one candidate later (Some tour) =
    settled_by frame one candidate tour later (next_of frame candidate tour)

-- how a sequence goes on: it ends with a loop or without, or another candidate is walked
abbrev pub gone_on : (Candidate → Option Loop) → Step → Option Loop
gone_on later (Settled found) = found
gone_on later (Onward candidate) = later candidate

-- the loop of the first candidate that passes, among so many
abbrev pub sequence : ℕ → Cert → Frame → Turning → Candidate → Option Loop
sequence zero cert frame one candidate = None
sequence (suc n) cert frame one candidate = walked_by frame one candidate (sequence n cert frame one) (toured frame.style cert one candidate)

-- the loop that is found in a frame, if one is
abbrev pub found_in : Cert → Frame → Turning → Option Loop
found_in cert frame one = option_and_then (sequence MOST_CANDIDATES cert frame one) (first_candidate frame)

-- the loop that is found for two functions and the states that enter it, if one is: by a certificate that has the condition and no unit
abbrev pub invariant_of : Style → Cert → Target → Target → List State → Option Loop
invariant_of style cert test body entering =
    let one = turning test body entering in found_in cert (frame_of style cert.cond one entering) one

-- the cases of the candidate that is walked next may stand in a certificate
abbrev pub CanGoOn : Frame → Step → Type 0
CanGoOn frame (Settled found) = Unit {0}
CanGoOn frame (Onward candidate) = HasCases frame candidate
