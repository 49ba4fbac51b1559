-- The commands of a style whose hints, loops and pieces are found (docs/ANALYSER.md, "Commands"): what an EXECUTE leaves, and what visits
-- leave one for the next.
use Rattle.std.specs.Prelude.{◌≡◌, ◌+◌, ◌<◌, ◌≤◌, ℕ, zero, suc, Bool, true, false, nat_eq, nat_lt, if◌then◌else◌, List, [], ◌∷◌, ◌++◌, length, flat_map, Option, None, Some, Result, Ok}
use Rattle.std.specs.List.{All}
use Rattle.bv_base.specs.Answers.{then_do}
use Rattle.bv_base.specs.declared.place.Place.{Place}
use Rattle.lin_facts.specs.declared.row.Part.{Part}
use Rattle.name_table.specs.Sound.{Each}
use Rattle.name_table.specs.declared.names.NameId.{NameId}
use Rattle.name_table.specs.declared.style.Command.{Command}
use Rattle.name_table.specs.declared.style.Command.TheVariants.{Execute, Iterate, Reverse}
use Rattle.name_table.specs.declared.style.CommandAt.{CommandAt}
use Rattle.name_table.specs.declared.style.Style.{Style}
use Rattle.bst_meaning.specs.declared.condition.Cond.{Cond}
use Rattle.bst_meaning.specs.declared.value.Target.TheVariants.{Named}
use Rattle.cert_format.specs.CertText.{IsCommandPart, IsHint, IsPiece}
use Rattle.cert_format.specs.CondText.{is_chain}
use Rattle.cert_format.specs.declared.cert.Cert.{Cert}
use Rattle.cert_format.specs.declared.cert.CommandPart.{CommandPart}
use Rattle.sym_state.specs.Positions.{AtStart, AtNext, AtEnd}
use Rattle.sym_state.specs.State.{State}
use Rattle.sym_state.specs.WellMade.{HasShortText}
use Rattle.sym_state.specs.declared.hint.Hint.{Hint}
use Rattle.sym_state.specs.declared.piece.Piece.{Piece}
use Rattle.straight_hints.specs.Found.{piece_hints}
use Rattle.straight_hints.specs.declared.finding.Finding.TheVariants.{Straight}
use Rattle.loop_templates.specs.Bound.{all_bound, is_bound_variable}
use Rattle.loop_templates.specs.Cases.{Frame}
use Rattle.loop_templates.specs.Reaching.{Occurring, command_terms, occurring, occurring_anywhere, occurring_of, roots_of}
use Rattle.loop_templates.specs.Sums.{sums}
use Rattle.loop_templates.specs.Visits.{common_case, left_by}
use Rattle.loop_templates.specs.declared.limits.TheConstants.{MOST_ITEMS}
use Rattle.cert_check.specs.Certified.{IsCommandOf, IsMovable, IsStanding}
use Rattle.cert_check.specs.Courses.{refuses}
use Rattle.cert_check.specs.Room.{IsEnd}
use Rattle.cert_check.specs.Units.{Checked, call_made}
use Rattle.cert_check.specs.Walks.{Make, type_functions}
use Rattle.cert_check.specs.declared.checker.Called.{Called}
use Rattle.cert_check.specs.declared.limits.TheConstants.{MOST_LOOPS}
use Rattle.cert_check.specs.declared.refusal.Reason.TheVariants.{NoInvariant}
use Rattle.cert_check.specs.declared.refusal.Refusal.{Refusal}
use Rattle.command_flow.specs.Between.{opened, piece_moved}
use Rattle.command_flow.specs.Commands.{call_ends, given, started_between, started_visit}
use Rattle.command_flow.specs.Ready.{AreReady, IsReady}
use Rattle.command_flow.specs.declared.between.Between.{Between}
use Rattle.command_flow.specs.declared.leaving.Leaving.{Leaving}
use Rattle.command_flow.specs.declared.templates.Lasting.{Lasting}
use Rattle.command_flow.specs.declared.templates.Made.{Made}
use Rattle.command_flow.specs.declared.templates.Visits.{Visits}

-- the style that is walked, under the condition of a certificate that has no unit, and how loops are made
pub record Seeking : Type 0 where
  pub style : Style
  pub cert : Cert
  pub make : Option Make

-- that of a checker, with how its loops are made
abbrev pub seeking_by : Checked → Option Make → Seeking
seeking_by checked make = record { style = checked.style; cert = checked.cert; make = make }

-- a command's name is called from a state, behind so many loops that stay: what comes of it, where the stack of each state at the end is
-- empty
abbrev pub called_in : Seeking → ℕ → NameId → Place → State → Result Called Refusal
called_in seeking stay name place state =
    then_do (call_made seeking.make seeking.style seeking.cert stay (state ∷ []) (Named name) place) (λ calling.
    then_do (call_ends seeking.cert.cond place [] calling.given calling.found) (λ hints. Ok calling))

-- an EXECUTE leaves something of the global variables
abbrev pub after_execute : Leaving
after_execute = record { at_entry = false; has_pos = false; bound = record { globals = true; entry = false } }

-- visits leave something of them, one for the next
abbrev pub before_visits : Leaving
before_visits = record { at_entry = true; has_pos = true; bound = record { globals = true; entry = false } }

-- a visit leaves something of its entry
abbrev pub after_visit : Leaving
after_visit = record { at_entry = true; has_pos = false; bound = record { globals = false; entry = true } }

-- which names occur in the bodies that a command's name reaches
abbrev pub reached_from : Style → Cond → NameId → Occurring
reached_from style admits name =
    let types = type_functions style admits in occurring style types (roots_of style types (Named name))

-- the frame of a piece that a command leaves, over these sums: it is made against one state, and these variables count as written
abbrev pub frame_of_parts : Style → Cond → Leaving → List NameId → List (List Part) → List State → Frame
frame_of_parts style admits leaving writes all entering = record {
  style = style;
  admits = admits;
  whole = true;
  at_entry = leaving.at_entry;
  has_pos = leaving.has_pos;
  bound = leaving.bound;
  writes = writes;
  sums = all;
  entering = entering;
}

-- what a command leaves: a variable counts as written where it is quoted in the bodies that the command's name reaches
abbrev pub frame_left : Style → Cond → NameId → Leaving → State → Frame
frame_left style admits name leaving start =
    frame_of_parts style admits leaving
    (occurring_of (is_bound_variable (all_bound true)) style (reached_from style admits name).quoted)
    (sums (command_terms style (occurring_anywhere style) leaving.bound leaving.has_pos)) (start ∷ [])

-- what states have in common, where there is one
abbrev pub left_in : Frame → List State → Option Piece
left_in frame [] = None
left_in frame (state ∷ states) = Some (common_case frame (state ∷ states))

-- the steps by which a state shows pieces
abbrev pub pieces_hints : Cond → List Piece → State → List Hint
pieces_hints admits pieces state = flat_map (piece_hints Straight admits state) pieces

-- those of the states at a call's end, in order
abbrev pub ends_hints : Cond → List Piece → List State → List Hint
ends_hints admits pieces states = flat_map (pieces_hints admits pieces) states

-- the record of an EXECUTE: there is none where it leaves nothing and takes no hint
abbrev pub executed_parts : ℕ → Option Piece → List Hint → List CommandPart
executed_parts index None [] = []
executed_parts index after hints = record { index = index; after = after; visit = None; keeps = None; hints = hints } ∷ []

-- EXECUTE, by what its call came to and by what it leaves
abbrev pub executed_with : Cond → ℕ → Lasting → Called → Option Piece → Made
executed_with admits index lasting calling after = record {
  lasting = record {
    between = record { globals = given after; entry = lasting.between.entry };
    loops = lasting.loops ++ calling.loops;
  };
  parts = executed_parts index after (calling.found ++ ends_hints admits (given after ∷ []) calling.given);
}

-- EXECUTE, by what its call came to: it leaves what the states at the end have in common
abbrev pub executed_by : Style → Cond → ℕ → NameId → Lasting → Called → Made
executed_by style admits index name lasting calling =
    let start = started_between style admits lasting.between in
    executed_with admits index lasting calling (left_in (frame_left style admits name after_execute start) calling.given)

-- EXECUTE: what its end states have in common of the global variables stands behind it
abbrev pub executed_in : Seeking → ℕ → NameId → Place → Lasting → Result Made Refusal
executed_in seeking index name place lasting =
    then_do (called_in seeking (length lasting.loops) name place (started_between seeking.style seeking.cert.cond lasting.between)) (λ calling.
    Ok (executed_by seeking.style seeking.cert.cond index name lasting calling))

-- what comes of a visit that was walked: it is the command's where no row is left out, and else the next one is walked
abbrev pub visits_by : (Piece → Result Visits Refusal) → Piece → Piece → Called → Result Visits Refusal
visits_by later visit next calling =
    if nat_eq (length next.rows) (length visit.rows) then Ok (record { visit = visit; calling = calling }) else later next

-- visits one after the other, so many: each next one leaves out the rows that some state at its end doesn't show of the next entry
unfoldable pub visits_from : ℕ → Seeking → NameId → Place → Lasting → Piece → Result Visits Refusal
visits_from zero seeking name place lasting visit = refuses place NoInvariant
visits_from (suc n) seeking name place lasting visit =
    then_do (called_in seeking (length lasting.loops) name place (started_visit seeking.style seeking.cert.cond visit lasting.between.entry)) (λ calling.
    visits_by (visits_from n seeking name place lasting) visit (left_by seeking.cert.cond calling.given visit) calling)

-- the first one: what the state before all visits has of the global variables
abbrev pub first_visit : Style → Cond → NameId → Between → Piece
first_visit style admits name between =
    let before = started_between style admits between in common_case (frame_left style admits name before_visits before) (before ∷ [])

-- the record of ITERATE and REVERSE
abbrev pub visited_parts : ℕ → Piece → Option Piece → List Hint → List CommandPart
visited_parts index visit keeps hints = record { index = index; after = None; visit = Some visit; keeps = keeps; hints = hints } ∷ []

-- its hints: those by which the state before all visits shows what stands before each, those that were found on the way, and those by which
-- the states at the end show what stands before the next visit, and what is kept
abbrev pub visits_hints : Cond → State → Piece → Piece → List Hint → List State → List Hint
visits_hints admits before visit kept found ends =
    piece_hints Straight admits before (piece_moved AtStart visit) ++ (found ++ ends_hints admits (piece_moved AtNext visit ∷ (kept ∷ [])) ends)

-- ITERATE and REVERSE, by what was found of their visits and by what these keep
abbrev pub visited_with : Style → Cond → ℕ → Lasting → Visits → Option Piece → Made
visited_with style admits index lasting found keeps =
    let before = started_between style admits lasting.between in
    record {
      lasting = record {
        between = record { globals = piece_moved AtEnd found.visit; entry = given keeps };
        loops = lasting.loops ++ found.calling.loops;
      };
      parts = visited_parts index found.visit keeps (visits_hints admits before found.visit (given keeps) found.calling.found found.calling.given);
    }

-- ITERATE and REVERSE, by what was found of their visits: these keep what the states at the end have in common
abbrev pub visited_by : Style → Cond → ℕ → NameId → Lasting → Visits → Made
visited_by style admits index name lasting found =
    let start = started_visit style admits found.visit lasting.between.entry in
    visited_with style admits index lasting found (left_in (frame_left style admits name after_visit start) found.calling.given)

-- ITERATE and REVERSE: a visit has at most 64 rows, and each next one has fewer
abbrev pub visited_in : Seeking → ℕ → NameId → Place → Lasting → Result Made Refusal
visited_in seeking index name place lasting =
    then_do (visits_from (suc MOST_ITEMS) seeking name place lasting (first_visit seeking.style seeking.cert.cond name lasting.between)) (λ found.
    Ok (visited_by seeking.style seeking.cert.cond index name lasting found))

-- a command: READ, SORT and declarations change nothing that is known
abbrev pub command_in : Seeking → ℕ → Command → Place → Lasting → Result Made Refusal
command_in seeking index (Execute name) place lasting = executed_in seeking index name place lasting
command_in seeking index (Iterate name) place lasting = visited_in seeking index name place lasting
command_in seeking index (Reverse name) place lasting = visited_in seeking index name place lasting
command_in seeking index _ place lasting = Ok (record { lasting = lasting; parts = [] })

-- commands in order, numbered from here, behind the records of those before them
abbrev pub commands_in : Seeking → ℕ → Lasting → List CommandPart → List CommandAt → Result Made Refusal
commands_in seeking index lasting parts [] = Ok (record { lasting = lasting; parts = parts })
commands_in seeking index lasting parts (at ∷ commands) =
    then_do (command_in seeking index at.command at.place lasting) (λ made.
    commands_in seeking (suc index) made.lasting (parts ++ made.parts) commands)

-- what is made for the commands of a style, or the first rule that fails
abbrev pub made_in : Seeking → Result Made Refusal
made_in seeking = commands_in seeking 0 (record { between = opened seeking.style; loops = [] }) [] seeking.style.commands

-- a piece that a certificate may have for a command, with texts that states may have and without a stack
pub record IsLeft (style : Style) (has_pos : Bool) (piece : Piece) : Type 0 where
  pub stands : IsPiece style true has_pos 0 piece
  pub texts : All HasShortText piece.facts
  pub bare : piece.stack ≡ []

-- such a piece stands before each visit: states may start from it, and another number of visited entries may stand in its rows
pub record IsVisit (style : Style) (visit : Piece) : Type 0 where
  pub left : IsLeft style true visit
  pub ready : IsReady style visit
  pub movable : All IsMovable visit.rows
  pub bare : visit.stack ≡ []

-- records that are made stand in a certificate, upwards by their numbers, of which none is this one or a higher one
pub record AreMadeBefore (style : Style) (index : ℕ) (parts : List CommandPart) : Type 0 where
  pub each : Each (IsCommandPart style) parts
  pub of_style : All (IsCommandOf style) parts
  pub rise : is_chain (λ a b. nat_lt a.index b.index) parts ≡ true
  pub before : Each (λ part. part.index < index) parts

-- what is made for a command of a number: at most one record of that number, which stands in a certificate
pub record AreMadeAt (style : Style) (index : ℕ) (parts : List CommandPart) : Type 0 where
  pub each : Each (IsCommandPart style) parts
  pub of_style : All (IsCommandOf style) parts
  pub at : Each (λ part. part.index ≡ index) parts
  pub few : length parts ≤ 1

-- what stands behind commands: pieces from which the next may start, and loops that may stand in a certificate, no more than it may have
pub record CanLast (style : Style) (lasting : Lasting) : Type 0 where
  pub ready : AreReady style lasting.between
  pub loops : All (IsStanding style) lasting.loops
  pub few : length lasting.loops ≤ MOST_LOOPS

-- what a call came to behind so many loops: states at its end that are well made, hints that may be written, and loops that may stand in a
-- certificate
pub record HasCalled (style : Style) (stay : ℕ) (called : Called) : Type 0 where
  pub given : All (IsEnd style) called.given
  pub found : Each IsHint called.found
  pub loops : All (IsStanding style) called.loops
  pub few : stay + length called.loops ≤ MOST_LOOPS

-- what is made for a command of a number
pub record HasMade (style : Style) (index : ℕ) (made : Made) : Type 0 where
  pub parts : AreMadeAt style index made.parts
  pub lasting : CanLast style made.lasting
