-- Candidates of a loop (docs/ANALYSER.md, "Loops"): the first one, and what comes after a candidate by the states behind its turns.
use Rattle.std.specs.Prelude.{◌≡◌, ℕ, ◌+◌, ◌-◌, ◌≤◌, Bool, ◌&&◌, nat_le, nat_lt, if◌then◌else◌, List, [], ◌∷◌, ◌++◌, length, map, Option, None, Some, is_none, is_some}
use Rattle.std.specs.List.{All, filter, list_all, list_any}
use Rattle.lin_facts.specs.declared.row.Row.{Row}
use Rattle.bst_meaning.specs.declared.condition.Cond.{Cond}
use Rattle.cert_format.specs.CertText.{IsPiece}
use Rattle.sym_state.specs.Entailing.{first_unentailed, line_count, match_of}
use Rattle.sym_state.specs.Renaming.{row_renamed}
use Rattle.sym_state.specs.State.{State}
use Rattle.sym_state.specs.WellMade.{HasBounds, HasShortText, IsBounded}
use Rattle.sym_state.specs.declared.hint.Hint.{Hint}
use Rattle.sym_state.specs.declared.hint.Hint.TheVariants.{Case}
use Rattle.sym_state.specs.declared.piece.Piece.{Piece}
use Rattle.straight_proofs.specs.Straight.{straight_proof}
use Rattle.straight_hints.specs.Found.{step_found}
use Rattle.straight_hints.specs.declared.finding.Finding.TheVariants.{Straight}
use Rattle.loop_templates.specs.declared.candidates.Added.{Added}
use Rattle.loop_templates.specs.declared.candidates.Candidate.{Candidate}
use Rattle.loop_templates.specs.declared.candidates.Next.{Next}
use Rattle.loop_templates.specs.declared.candidates.Next.TheVariants.{Passes, Ends, Goes}
use Rattle.loop_templates.specs.declared.limits.TheConstants.{MOST_ADDED, MOST_ITEMS, MOST_PIECES}
use Rattle.loop_templates.specs.Cases.{Frame, case_of, entering_case}
use Rattle.loop_templates.specs.Skeletons.{Skeleton, new_skeletons, same_skeleton, skeleton, states_of}

-- a stack has no more symbols than a piece may have
abbrev pub is_short : {X : Type 0} → List X → Bool
is_short stack = nat_le (length stack) MOST_ITEMS

-- a certificate may have a case for each of these states
abbrev pub may_enter : List State → Bool
may_enter states = nat_le (length states) MOST_PIECES && list_all (λ state. is_short state.stack) states

-- the first candidate: a case for each state that enters, where a certificate may have these; else the sequence ends
abbrev pub first_candidate : Frame → Option Candidate
first_candidate frame =
    if may_enter frame.entering
    then Some (record { first = map (entering_case frame) frame.entering; added = [] })
    else None

-- a case of some states is added for a skeleton
abbrev pub added_for : Frame → List State → Skeleton → Added
added_for frame states bones = record { bones = bones; case = case_of frame states bones }

-- a candidate has room for so many more
abbrev pub has_room : Candidate → ℕ → Bool
has_room candidate more =
    nat_le more (MOST_ADDED - length candidate.added) && nat_le more ((MOST_PIECES - length candidate.first) - length candidate.added)

-- these skeletons may have cases
abbrev pub may_grow : Candidate → List Skeleton → Bool
may_grow candidate new = has_room candidate (length new) && list_all is_short new

-- the candidate with these added cases comes next
abbrev pub goes : Candidate → List Added → Next
goes candidate added = Goes (record { first = candidate.first; added = added })

-- a case is added for each of these skeletons of states behind a turn, where they may stand; else the sequence ends
abbrev pub grown : Frame → Candidate → List State → List Skeleton → Next
grown frame candidate turned new =
    if may_grow candidate new
    then goes candidate (candidate.added ++ map (added_for frame turned) new)
    else Ends

-- a row of a case has a straight proof in a state
abbrev pub is_proved : Cond → Piece → Row → State → Bool
is_proved admits case row state = is_some (straight_proof admits state (row_renamed (match_of state case 0) row))

-- the rows of a case that have one in each of some states
abbrev pub proved_rows : Cond → Piece → List State → List Row → List Row
proved_rows admits case states rows = filter (λ row. list_all (is_proved admits case row) states) rows

-- an added case without the rows that have none in some of the states of its skeleton
abbrev pub lowered : Cond → List State → Added → Added
lowered admits turned one = record {
  bones = one.bones;
  case = record one.case { rows = proved_rows admits one.case (states_of one.bones turned) one.case.rows };
}

-- it has fewer rows than before
abbrev pub is_lower : Cond → List State → Added → Bool
is_lower admits turned one = nat_lt (length (lowered admits turned one).case.rows) (length one.case.rows)

-- the places and facts of a case hold in a state: it entails the case without rows
abbrev pub agrees_with : Cond → State → Piece → Bool
agrees_with admits state case = is_none (first_unentailed state admits (record case { rows = [] }) 0 [])

-- those of an added case of its skeleton do
abbrev pub is_met : Cond → List Added → State → Bool
is_met admits added state = list_any (λ one. same_skeleton one.bones (skeleton state) && agrees_with admits state one.case) added

-- the candidate passes where each state behind a turn entails an added case of its skeleton; else the sequence ends
abbrev pub passes : Cond → List Added → List State → Next
passes admits added turned = if list_all (is_met admits added) turned then Passes else Ends

-- where no skeleton is new: rows without a proof are left out, and where none is, the candidate passes or ends
abbrev pub settled : Cond → Candidate → List State → Next
settled admits candidate turned =
    if list_any (is_lower admits turned) candidate.added
    then goes candidate (map (lowered admits turned) candidate.added)
    else passes admits (map (lowered admits turned) candidate.added) turned

-- what follows a candidate where these skeletons are new
abbrev pub next_by : Frame → Candidate → List State → List Skeleton → Next
next_by frame candidate turned [] = settled frame.admits candidate turned
next_by frame candidate turned (bones ∷ more) = grown frame candidate turned (bones ∷ more)

-- what follows a candidate, by the states behind its turns
abbrev pub next_after : Frame → Candidate → List State → Next
next_after frame candidate turned = next_by frame candidate turned (new_skeletons (map (λ one. one.bones) candidate.added) turned)

-- the exits: a case for each skeleton of the states that leave
abbrev pub exits_of : Frame → List State → List Added
exits_of frame left = map (added_for frame left) (new_skeletons [] left)

-- the hints by which a state entails a case of this number: a step for each of its rows
abbrev pub entailing : Cond → State → ℕ → Piece → List Hint
entailing admits state number case =
    Case number ∷ map (λ row. step_found Straight admits state (row_renamed (match_of state case 0) row)) case.rows

-- those by which it entails the one with its skeleton among these, which are numbered from here
abbrev pub entailing_one : Cond → State → ℕ → List Added → List Hint
entailing_one admits state number [] = []
entailing_one admits state number (one ∷ added) =
    if same_skeleton one.bones (skeleton state) then entailing admits state number one.case else entailing_one admits state (number + 1) added

-- a case whose stack is as long as its skeleton, with rows within their bounds, of which the lines can be numbered
pub record IsMade (one : Added) : Type 0 where
  pub stack : length one.case.stack ≡ length one.bones
  pub rows : All IsBounded one.case.rows
  pub lines : line_count one.case ≤ 2147483648

-- the rows of a case with a stack of this length can be looked for in a state
abbrev pub CanMatch : ℕ → State → Type 0
CanMatch n state = HasBounds state × (n ≤ length state.stack)

-- a case that a certificate may have where it is walked, with texts that states may have
pub record IsCase (frame : Frame) (case : Piece) : Type 0 where
  pub piece : IsPiece frame.style frame.at_entry frame.has_pos 0 case
  pub texts : All HasShortText case.facts

-- a state enters, and the cases of a candidate are such; those that were added are made so
pub record HasCases (frame : Frame) (candidate : Candidate) : Type 0 where
  pub some : 1 ≤ length candidate.first
  pub first : All (IsCase frame) candidate.first
  pub added : All (λ one. IsCase frame one.case) candidate.added
  pub made : All IsMade candidate.added

-- so are those of what follows
abbrev pub HasNextCases : Frame → Next → Type 0
HasNextCases frame (Goes candidate) = HasCases frame candidate
HasNextCases frame _ = Unit {0}
