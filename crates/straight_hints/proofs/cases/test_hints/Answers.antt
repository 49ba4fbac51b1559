-- The cases of which all hints were taken have bounds, and what is found for them has short proofs
-- that can be written.
use Rattle.std.proofs.Common.{◌≡◌, Ok, List, arith, subst, sym, ◌∙◌}
use Rattle.std.specs.List.{All}
use Rattle.cert_format.specs.CertText.{IsHint}
use Rattle.name_table.specs.Sound.{Each}
use Rattle.sym_state.specs.Cases.{split_of}
use Rattle.sym_state.specs.State.{State}
use Rattle.sym_state.specs.WellMade.{HasBounds}
use Rattle.sym_state.specs.declared.hint.Hint.{Hint}
use Rattle.straight_hints.specs.Found.{both_kept, case_hints}
use Rattle.straight_hints.proofs.Bounded.{cases_bounded}
use Rattle.straight_hints.proofs.Short.{cases_short, found_short}
use Rattle.straight_hints.proofs.Written.{found_written_by, split_written}
use Rattle.straight_hints.proofs.cases.test_hints.Goals as goal

pub case_hints-requires : goal.case_hints-requires
case_hints-requires c = λ none.
    let split = subst (λ (hints : List Hint). split_of c.args.cond.now c.args.state.now c.args.test hints
    ≡ Ok (record { states = c.in-Ok.states.items; hints = c.split.new.hints })) c.new-hints.ensures c.in-Ok.ensures.ok in
    subst (All HasBounds) (sym c.as_slice.ensures.value)
    (cases_bounded c.args.cond.now c.args.state.now c.args.test
    (record { states = c.in-Ok.states.items; hints = c.split.new.hints }) c.requires.bounds split (sym c.rest.ensures ∙ none))

pub returns-in-Ok-clause-few : goal.returns-in-Ok-clause-few
returns-in-Ok-clause-few c =
    found_short _ c.case_hints.result (cases_short c.args.finding c.args.cond.now c.as_slice.result.now c.rest.result.now) c.case_hints.ensures

pub returns-in-Ok-clause-written : goal.returns-in-Ok-clause-written
returns-in-Ok-clause-written c =
    let room = c.requires.room in
    let split = subst (λ (hints : List Hint). split_of c.args.cond.now c.args.state.now c.args.test hints
    ≡ Ok (record { states = c.in-Ok.states.items; hints = c.split.new.hints })) c.new-hints.ensures c.in-Ok.ensures.ok in
    let written = split_written c.args.finding c.args.cond.now c.args.state.now c.args.test
    (record { states = c.in-Ok.states.items; hints = c.split.new.hints }) both_kept (omega (arith, room)) split in
    found_written_by _ c.case_hints.result
    (subst (λ (states : List State). Each IsHint (case_hints c.args.finding c.args.cond.now states c.rest.result.now)) (sym c.as_slice.ensures.value)
    (subst (λ (left : List Hint). Each IsHint (case_hints c.args.finding c.args.cond.now c.in-Ok.states.items left)) (sym c.rest.ensures) written))
    c.case_hints.ensures
