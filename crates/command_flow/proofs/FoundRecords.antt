-- The records that are found are those of a certificate that checks: each command finds its own, and no piece has to be shown.
use Rattle.std.proofs.Common.{◌≡◌, ℕ, suc, ◌<◌, ◌≤◌, Bool, true, false, cond, nat_eq, nat_lt, List, [], ◌∷◌, ◌++◌, length, Option, None, Some, Ok, Err, refl, sym, ap, subst, ◌∙◌, append_assoc, arith}
use Rattle.std.specs.List.{All}
use Rattle.std.specs.Option.{option_map_or, option_or}
use Rattle.std.proofs.lemmas.Bool.Decides.{nat_tests}
use Rattle.std.proofs.lemmas.List.{append-nil}
use Rattle.std.proofs.lemmas.List.Elements.{All-append, All-cons, All-head, All-nil, All-tail, All-weaker}
use Rattle.std.proofs.lemmas.List.Folds.{find-append}
use Rattle.bv_base.specs.Answers.{then_do}
use Rattle.bv_base.specs.declared.place.Place.{Place}
use Rattle.bv_base.proofs.ThenLemmas.{ok_is, then_ok}
use Rattle.name_table.specs.declared.names.NameId.{NameId}
use Rattle.name_table.specs.declared.style.Command.{Command}
use Rattle.name_table.specs.declared.style.Command.TheVariants.{Execute, Iterate, Reverse}
use Rattle.name_table.specs.declared.style.CommandAt.{CommandAt}
use Rattle.name_table.specs.declared.style.Style.{Style}
use Rattle.bst_meaning.specs.declared.condition.Cond.{Cond}
use Rattle.bst_meaning.specs.declared.value.Target.TheVariants.{Named}
use Rattle.cert_format.specs.declared.cert.Cert.{Cert}
use Rattle.cert_format.specs.declared.cert.CommandPart.{CommandPart}
use Rattle.cert_format.specs.declared.cert.Loop.{Loop}
use Rattle.cert_format.specs.declared.cert.Summary.{Summary}
use Rattle.sym_state.specs.State.{State}
use Rattle.sym_state.specs.declared.demand.EffectFault.TheVariants.{NotEntailed}
use Rattle.sym_state.specs.declared.hint.Hint.{Hint}
use Rattle.sym_state.specs.declared.piece.Piece.{Piece}
use Rattle.sym_state.specs.declared.symbol.Sym.{Sym}
use Rattle.straight_hints.specs.declared.finding.Finding.{Finding}
use Rattle.cert_check.specs.Courses.{Course, Walk, placed, refuses}
use Rattle.cert_check.specs.Laws.{FoundIsRead}
use Rattle.cert_check.specs.Units.{call_found, call_walked, none_left}
use Rattle.cert_check.specs.declared.refusal.Reason.TheVariants.{CommandShape}
use Rattle.command_flow.specs.Between.{nothing, opened}
use Rattle.command_flow.specs.Checks.{Checks, commands_checked, loops_checked, summaries_checked}
use Rattle.command_flow.specs.Commands.{Left, Onward, call_ends, called, command_checked, command_taken, emptied, executed, is_shaped, parts_of, piece_shown, pieces_shown, started_between, started_visit, visited}
use Rattle.command_flow.specs.Finding.{called_finding, command_found, commands_found, executed_finding, record_of, records_found, visited_finding}
use Rattle.command_flow.specs.Records.{record_at}
use Rattle.command_flow.specs.declared.between.Between.{Between}
use Rattle.command_flow.specs.declared.between.Parts.{Parts}
use Rattle.command_flow.specs.declared.finding.Found.{Found}

-- pieces that every state shows by no hint
abbrev AreFree : Cond → Place → List Piece → Type 0
AreFree admits place pieces = (state : State) → pieces_shown admits place state pieces [] ≡ Ok []

none_below : (n : ℕ) → nat_lt n 0 ≡ false
none_below n = grind (arith, nat_tests)

-- a piece that says nothing takes no hint
nothing_shown : (admits : Cond) (place : Place) (state : State) (hints : List Hint) → piece_shown admits place state nothing hints ≡ Ok hints
nothing_shown admits place state hints = ap (λ (t : Bool). placed place (cond t (Err (NotEntailed 0)) (Ok hints))) (none_below (length state.stack))

nothing_more : (admits : Cond) (place : Place) (pieces : List Piece) → AreFree admits place pieces → AreFree admits place (nothing ∷ pieces)
nothing_more admits place pieces free state =
    ap (λ (r : Left). then_do r (pieces_shown admits place state pieces)) (nothing_shown admits place state []) ∙ free state

-- at the end of a call each stack is empty, and such pieces leave no hint
pub ends_free : (admits : Cond) (place : Place) (pieces : List Piece) (states : List State) (hints left : List Hint) → AreFree admits place pieces
    → call_ends admits place [] states hints ≡ Ok left → (left ≡ hints) × (call_ends admits place pieces states [] ≡ Ok [])
ends_free admits place pieces [] hints left free e = (ok_is hints left e, refl)
ends_free admits place pieces (state ∷ states) hints left free e =
    elim state.stack as (λ (stack : List Sym).
    then_do (then_do (emptied place stack hints) (pieces_shown admits place state [])) (call_ends admits place [] states) ≡ Ok left
    → (left ≡ hints)
    × (then_do (then_do (emptied place stack []) (pieces_shown admits place state pieces)) (call_ends admits place pieces states) ≡ Ok [])) [
      | [] ↦ λ e.
          let later = ends_free admits place pieces states hints left free e in
          (later.0, ap (λ (r : Left). then_do r (call_ends admits place pieces states)) (free state) ∙ later.1)
      | s ∷ stack ↦ λ e. absurd (cc)
    ] e

-- a call whose hints were found is one that reads them, where its pieces are such
called_free : (finding : Finding) (style : Style) (cert : Cert) (parts : List CommandPart) (name : NameId) (place : Place) (state : State) (pieces : List Piece)
    (hints : List Hint) → FoundIsRead → AreFree cert.cond place pieces → called_finding finding style cert name place state ≡ Ok hints
    → called style (record cert { commands = parts }) name place state pieces hints ≡ Ok []
called_free finding style cert parts name place state pieces hints read free e =
    let first = then_ok (call_found finding style cert (state ∷ []) (Named name) place)
    (λ course. call_ends cert.cond place [] course.given course.found) hints e in
    let end = ends_free cert.cond place pieces first.0.given first.0.found hints free first.2 in
    ends_read first.0 (read finding style cert parts (state ∷ []) (Named name) place first.0 [] first.1) end.0 end.1
  where
    ends_read : (course : Course)
        → call_walked style (record cert { commands = parts }) (state ∷ []) (Named name) place (course.found ++ [])
        ≡ Ok (record course { hints = []; finding = None; found = [] })
        → hints ≡ course.found → call_ends cert.cond place pieces course.given [] ≡ Ok []
        → called style (record cert { commands = parts }) name place state pieces hints ≡ Ok []
    ends_read course walk is ends =
        let next : Course → Left = λ after. then_do (call_ends cert.cond place pieces after.given after.hints) (none_left place) in
        ap (λ (all : List Hint). then_do (call_walked style (record cert { commands = parts }) (state ∷ []) (Named name) place all) next)
        (is ∙ sym (append-nil course.found))
        ∙ ap (λ (r : Walk). then_do r next) walk
        ∙ ap (λ (r : Left). then_do r (none_left place)) ends

-- the record of the command of a number, which has hints alone, or none where no hint was found
abbrev kept : ℕ → List Hint → Option CommandPart
kept index [] = None
kept index (hint ∷ hints) = Some (record { index = index; after = None; visit = None; keeps = None; hints = hint ∷ hints })

-- hints alone
abbrev bare : List Hint → Parts
bare hints = record { after = nothing; visit = nothing; keeps = nothing; hints = hints }

kept_parts : (index : ℕ) (hints : List Hint) → parts_of (kept index hints) ≡ bare hints
kept_parts index [] = refl
kept_parts index (hint ∷ hints) = refl

-- a command with such a record, whose shape it has
taken_where : (style : Style) (cert : Cert) (index : ℕ) (command : Command) (place : Place) (between : Between) (hints : List Hint) (after : Between)
    → ((more : List Hint) → is_shaped style command (record { index = index; after = None; visit = None; keeps = None; hints = more }) ≡ true)
    → command_checked style cert command place (bare hints) between ≡ Ok after
    → command_taken style cert (record { command = command; place = place }) (kept index hints) between ≡ Ok after
taken_where style cert index command place between hints after shaped checks =
    ap (λ (t : Bool). cond t (command_checked style cert command place (parts_of (kept index hints)) between) (refuses place CommandShape)) (fits hints)
    ∙ ap (λ (p : Parts). command_checked style cert command place p between) (kept_parts index hints)
    ∙ checks
  where
    fits : (hints : List Hint) → option_map_or (is_shaped style command) (kept index hints) true ≡ true
    fits [] = refl
    fits (hint ∷ hints) = shaped (hint ∷ hints)

executed_free : (finding : Finding) (style : Style) (cert : Cert) (parts : List CommandPart) (name : NameId) (place : Place) (between : Between) (found : Found)
    → FoundIsRead → executed_finding finding style cert name place between ≡ Ok found
    → executed style (record cert { commands = parts }) name place (bare found.hints) between ≡ Ok found.between
executed_free finding style cert parts name place between found read e =
    let start = started_between style cert.cond between in
    let first = then_ok (called_finding finding style cert name place start)
    (λ hints. Ok (record { between = record { globals = nothing; entry = between.entry }; hints = hints })) found e in
    subst (λ (f : Found). executed style (record cert { commands = parts }) name place (bare f.hints) between ≡ Ok f.between)
    (sym (ok_is (record { between = record { globals = nothing; entry = between.entry }; hints = first.0 }) found first.2))
    (ap (λ (r : Left). then_do r (λ hints. Ok (record { globals = nothing; entry = between.entry })))
    (called_free finding style cert parts name place start (nothing ∷ []) first.0 read
    (nothing_more cert.cond place [] (λ state. refl)) first.1))

visited_free : (finding : Finding) (style : Style) (cert : Cert) (parts : List CommandPart) (name : NameId) (place : Place) (between : Between) (found : Found)
    → FoundIsRead → visited_finding finding style cert name place between ≡ Ok found
    → visited style (record cert { commands = parts }) name place (bare found.hints) between ≡ Ok found.between
visited_free finding style cert parts name place between found read e =
    let start = started_visit style cert.cond nothing between.entry in
    let none : Between = record { globals = nothing; entry = nothing } in
    let first = then_ok (called_finding finding style cert name place start) (λ hints. Ok (record { between = none; hints = hints })) found e in
    let reads = called_free finding style cert parts name place start (nothing ∷ (nothing ∷ [])) first.0 read
    (nothing_more cert.cond place (nothing ∷ []) (nothing_more cert.cond place [] (λ state. refl))) first.1 in
    subst (λ (f : Found). visited style (record cert { commands = parts }) name place (bare f.hints) between ≡ Ok f.between)
    (sym (ok_is (record { between = none; hints = first.0 }) found first.2))
    (ap (λ (r : Left). then_do r (λ hints.
    then_do (called style (record cert { commands = parts }) name place start (nothing ∷ (nothing ∷ [])) hints) (λ left. Ok none)))
    (nothing_shown cert.cond place (started_between style cert.cond between) first.0)
    ∙ ap (λ (r : Left). then_do r (λ left. Ok none)) reads)

-- a command whose hints were found is taken with its record
command_free : (finding : Finding) (style : Style) (cert : Cert) (parts : List CommandPart) (index : ℕ) (command : Command) (place : Place) (between : Between)
    (found : Found) → FoundIsRead → command_found finding style cert command place between ≡ Ok found
    → command_taken style (record cert { commands = parts }) (record { command = command; place = place }) (kept index found.hints) between
    ≡ Ok found.between
command_free finding style cert parts index (Execute name) place between found read e =
    taken_where style (record cert { commands = parts }) index (Execute name) place between found.hints found.between (λ hints. refl)
    (executed_free finding style cert parts name place between found read e)
command_free finding style cert parts index (Iterate name) place between found read e =
    taken_where style (record cert { commands = parts }) index (Iterate name) place between found.hints found.between (λ hints. refl)
    (visited_free finding style cert parts name place between found read e)
command_free finding style cert parts index (Reverse name) place between found read e =
    taken_where style (record cert { commands = parts }) index (Reverse name) place between found.hints found.between (λ hints. refl)
    (visited_free finding style cert parts name place between found read e)
command_free finding style cert parts index command place between found read e =
    subst (λ (f : Found). command_taken style (record cert { commands = parts }) (record { command = command; place = place }) (kept index f.hints) between
    ≡ Ok f.between) (sym (ok_is (record { between = between; hints = [] }) found e)) refl

-- the number of a record, beside that of a command
same : (n : ℕ) → nat_eq n n ≡ true
same n = grind (arith, nat_tests)

lower : (m n : ℕ) → m < n → nat_eq m n ≡ false
lower m n less = grind (arith, nat_tests)

higher : (m n : ℕ) → suc n ≤ m → nat_eq m n ≡ false
higher m n less = grind (arith, nat_tests)

-- no record has this number
missing : (index : ℕ) (parts : List CommandPart) → All (λ part. nat_eq part.index index ≡ false) parts → record_at index parts ≡ None
missing index [] others = refl
missing index (part ∷ parts) others =
    let Other : CommandPart → Type 0 = λ p. nat_eq p.index index ≡ false in
    ap (λ (t : Bool). cond t (Some part) (record_at index parts)) (All-head Other part parts others)
    ∙ missing index parts (All-tail Other part parts others)

kept_is : (index : ℕ) (hints : List Hint) → record_at index (record_of index hints) ≡ kept index hints
kept_is index [] = refl
kept_is index (hint ∷ hints) = ap (λ (t : Bool). cond t (kept index (hint ∷ hints)) None) (same index)

-- what holds of a number holds of its record
all_kept : (P : ℕ → Type 0) (index : ℕ) (hints : List Hint) → P index → All (λ part. P part.index) (record_of index hints)
all_kept P index [] here = All-nil _
all_kept P index (hint ∷ hints) here =
    All-cons (λ (part : CommandPart). P part.index) (record { index = index; after = None; visit = None; keeps = None; hints = hint ∷ hints }) [] here
    (All-nil (λ (part : CommandPart). P part.index))

-- the record of a number stands between those of the commands before it and those of the commands behind it
found_at : (index : ℕ) (hints : List Hint) (before later : List CommandPart) → All (λ part. part.index < index) before
    → All (λ part. suc index ≤ part.index) later → record_at index ((before ++ record_of index hints) ++ later) ≡ kept index hints
found_at index hints before later low high =
    let test : CommandPart → Bool = λ part. nat_eq part.index index in
    let Other : CommandPart → Type 0 = λ part. test part ≡ false in
    let none_before = missing index before (All-weaker (λ (p : CommandPart). p.index < index) Other (λ p less. lower p.index index less) before low) in
    let none_later = missing index later (All-weaker (λ (p : CommandPart). suc index ≤ p.index) Other (λ p more. higher p.index index more) later high) in
    find-append test (before ++ record_of index hints) later
    ∙ ap (λ (o : Option CommandPart). option_or o (record_at index later)) (find-append test before (record_of index hints))
    ∙ ap (λ (o : Option CommandPart). option_or (option_or o (record_at index (record_of index hints))) (record_at index later)) none_before
    ∙ ap (λ (o : Option CommandPart). option_or o (record_at index later)) (kept_is index hints)
    ∙ ap (λ (o : Option CommandPart). option_or (kept index hints) o) none_later
    ∙ or_none (kept index hints)
  where
    or_none : (o : Option CommandPart) → option_or o None ≡ o
    or_none (Some part) = refl
    or_none None = refl

-- the records found behind some have greater numbers
record Later (index : ℕ) (parts all : List CommandPart) : Type 0 where
  pub later : List CommandPart
  pub are : all ≡ parts ++ later
  pub from : All (λ part. index ≤ part.index) later

found_later : (finding : Finding) (style : Style) (cert : Cert) (index : ℕ) (between : Between) (parts : List CommandPart) (commands : List CommandAt)
    (all : List CommandPart) → commands_found finding style cert index between parts commands ≡ Ok all → Later index parts all
found_later finding style cert index between parts [] all e =
    record { later = []; are = ok_is parts all e ∙ sym (append-nil parts); from = All-nil _ }
found_later finding style cert index between parts (at ∷ commands) all e =
    let first = then_ok (command_found finding style cert at.command at.place between)
    (λ found. commands_found finding style cert (suc index) found.between (parts ++ record_of index found.hints) commands) all e in
    let here = record_of index first.0.hints in
    let rest = found_later finding style cert (suc index) first.0.between (parts ++ here) commands all first.2 in
    record {
      later = here ++ rest.later;
      are = rest.are ∙ append_assoc parts here rest.later;
      from = All-append (λ (part : CommandPart). index ≤ part.index) here rest.later (all_kept (λ n. index ≤ n) index first.0.hints (omega arith))
          (All-weaker (λ (part : CommandPart). suc index ≤ part.index) (λ part. index ≤ part.index) (λ part more. omega (arith, more)) rest.later rest.from);
    }

-- the commands check with all records
commands_free : (finding : Finding) (style : Style) (cert : Cert) (index : ℕ) (between : Between) (parts : List CommandPart) (commands : List CommandAt)
    (all : List CommandPart) → FoundIsRead → All (λ part. part.index < index) parts
    → commands_found finding style cert index between parts commands ≡ Ok all
    → commands_checked style (record cert { commands = all }) index between commands ≡ Ok []
commands_free finding style cert index between parts [] all read low e = refl
commands_free finding style cert index between parts (at ∷ commands) all read low e =
    let first = then_ok (command_found finding style cert at.command at.place between)
    (λ found. commands_found finding style cert (suc index) found.between (parts ++ record_of index found.hints) commands) all e in
    let found = first.0 in
    let here = record_of index found.hints in
    let rest = found_later finding style cert (suc index) found.between (parts ++ here) commands all first.2 in
    let full : Cert = record cert { commands = all } in
    let next : Between → Left = λ after. commands_checked style full (suc index) after commands in
    ap (λ (o : Option CommandPart). then_do (command_taken style full at o between) next)
    (ap (record_at index) rest.are ∙ found_at index found.hints parts rest.later low rest.from)
    ∙ ap (λ (r : Onward). then_do r next) (command_free finding style cert all index at.command at.place between found read first.1)
    ∙ commands_free finding style cert (suc index) found.between (parts ++ here) commands all read
    (All-append (λ (part : CommandPart). part.index < suc index) parts here
    (All-weaker (λ (part : CommandPart). part.index < index) (λ part. part.index < suc index) (λ part less. omega (arith, less)) parts low)
    (all_kept (λ n. n < suc index) index found.hints (omega arith))) first.2

-- what is found for a style is a certificate of it that checks, where there is no summary and no loop
pub records_check : FoundIsRead → (finding : Finding) (style : Style) (cert : Cert) (parts : List CommandPart) → cert.summaries ≡ [] → cert.loops ≡ []
    → records_found finding style cert ≡ Ok parts → Checks style (record cert { commands = parts })
records_check read finding style cert parts no_summary no_loop e =
    let full : Cert = record cert { commands = parts } in
    let commands : Left = commands_checked style full 0 (opened style) style.commands in
    ap (λ (summaries : List Summary). then_do (summaries_checked style full summaries) (λ hints.
    then_do (loops_checked style full cert.loops) (λ left. commands))) no_summary
    ∙ ap (λ (loops : List Loop). then_do (loops_checked style full loops) (λ left. commands)) no_loop
    ∙ commands_free finding style cert 0 (opened style) [] style.commands parts read (All-nil (λ (part : CommandPart). part.index < 0)) e
