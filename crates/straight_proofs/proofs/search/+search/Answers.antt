use Rattle.std.proofs.Common.{◌≡◌, ℕ, suc, ◌-◌, ◌^◌, List, Option, None, Some, Vec, Global, IfOk, option_map, reverse, refl, ap, sym, ◌∙◌, subst, arith}
use Rattle.std.specs.Option.{option_and_then}
use Rattle.std.proofs.lemmas.Int.{ints}
use Rattle.lin_facts.specs.Rows.{IsWithin}
use Rattle.lin_facts.specs.declared.row.Row.{Row}
use Rattle.lin_facts.specs.declared.row.Term.{Term}
use Rattle.sym_state.specs.declared.proof.Reference.{Reference}
use Rattle.straight_proofs.specs.Remainders.{lead}
use Rattle.straight_proofs.specs.Remembered.{IsNear}
use Rattle.straight_proofs.specs.Straight.{first_list, left_behind, list_within}
use Rattle.straight_proofs.proofs.Alike.{same_behind, same_list}
use Rattle.straight_proofs.proofs.Bare.{near_within}
use Rattle.straight_proofs.proofs.Floored.{none_below, none_floored}
use Rattle.straight_proofs.proofs.Lists.{at_end, none_left}
use Rattle.straight_proofs.proofs.Rooms.{room_for_fewer}
use Rattle.straight_proofs.proofs.Searched.{looked_up}
use Rattle.straight_proofs.proofs.search.+search.Goals as goal

-- a remainder without a lead
unled : (found wanted : Option Term) → ((t : Term) → found ≡ Some t → ⊥) → found ≡ wanted → wanted ≡ None
unled None wanted none is = sym is
unled (Some t) wanted none is = absurd (none t refl)

pub list_within-returns-in_default-clause-found : goal.list_within-returns-in_default-clause-found
list_within-returns-in_default-clause-found t c =
    c.ended.ensures
    ∙ sym (at_end c.args.most c.args.known.now.cond.now c.args.known.now.state.now c.args.remainder.now
    (unled c.lead.result (lead c.args.remainder.now) c.in_default.not-Some c.lead.ensures))

-- a lead, and no reference may follow
pub list_within-returns-then-most-eq0-clause-found : goal.list_within-returns-then-most-eq0-clause-found
list_within-returns-then-most-eq0-clause-found t c =
    sym (ap (λ (n : ℕ). list_within n c.args.known.now.cond.now c.args.known.now.state.now c.args.remainder.now) c.if-most-eq0.true
    ∙ none_left c.args.known.now.cond.now c.args.known.now.state.now c.args.remainder.now c.in-Some.term (sym c.in-Some.ensures))

-- no floor
pub list_within-returns-in_default-2-clause-found : goal.list_within-returns-in_default-2-clause-found
list_within-returns-in_default-2-clause-found t c =
    none_floored c.args.most c.args.known.now.cond.now c.args.known.now.state.now c.args.remainder.now c.in_ok-floor.field-0 c.in_default-2.not-Some
    c.in_ok-floor.ensures.greatest

-- a floor below 0
pub list_within-returns-then-floor-lt0-clause-found : goal.list_within-returns-then-floor-lt0-clause-found
list_within-returns-then-floor-lt0-clause-found t c =
    let floor = c.in-Some-2.floor in
    let near : IsNear c.args.most c.args.remainder.now (Some floor) =
    subst (IsNear c.args.most c.args.remainder.now) c.in-Some-2.is c.in_ok-floor.ensures.near in
    let small : IsWithin (2 ^ 49) floor = near_within c.args.most c.args.remainder.now (Some floor) c.requires.room near in
    none_below c.args.most c.args.known.now.cond.now c.args.known.now.state.now c.args.remainder.now floor
    (sym c.in-Some-2.is ∙ c.in_ok-floor.ensures.greatest) (omega (arith, ints, c.if-floor-lt0.true, small.low, small.high))

-- the list behind a lead is found by look-up
pub list_within-references_to-requires-clause-room : goal.list_within-references_to-requires-clause-room
list_within-references_to-requires-clause-room t c = room_for_fewer 0 c.args.most c.args.remainder.now (omega arith) c.requires.room

pub list_within-returns-clause-found : goal.list_within-returns-clause-found
list_within-returns-clause-found t c =
    let n : ℕ = c.args.most - 1 in
    let more : suc n ≡ c.args.most = omega (arith, c.if-most-eq0.false) in
    let found : List Reference → Option (List Reference) =
    first_list (λ r. option_and_then (list_within n c.args.known.now.cond.now c.args.known.now.state.now)
    (left_behind c.args.known.now.cond.now c.args.known.now.state.now (Some c.in-Some.term) c.args.remainder.now r)) in
    subst (λ (wanted : Option (List Reference)). IfOk c.first_list.result
    (λ result. option_map (λ (list : Vec Reference Global). reverse list.items) result ≡ wanted))
    (ap found (c.as_slice.ensures.value ∙ c.in_ok-there.ensures)
    ∙ sym (looked_up n c.args.known.now.cond.now c.args.known.now.state.now c.args.remainder.now c.in-Some.term (sym c.in-Some.ensures))
    ∙ ap (λ (m : ℕ). list_within m c.args.known.now.cond.now c.args.known.now.state.now c.args.remainder.now) more)
    c.first_list.ensures.found

-- what is left is alike what the definition leaves
pub list_behind-returns-in-Some-clause-found : goal.list_behind-returns-in-Some-clause-found
list_behind-returns-in-Some-clause-found t c =
    let next : Row → Option (List Reference) = list_within c.args.most c.args.known.now.cond.now c.args.known.now.state.now in
    let left : Option Row = left_behind c.args.known.now.cond.now c.args.known.now.state.now c.args.leads c.args.remainder.now c.args.reference in
    subst (λ (wanted : Option (List Reference)). IfOk c.list_within.result
    (λ result. option_map (λ (list : Vec Reference Global). reverse list.items) result ≡ wanted))
    (sym (ap (option_and_then next) c.in-Some.is)
    ∙ same_behind next (same_list c.args.most c.args.known.now.cond.now c.args.known.now.state.now) c.in_ok-left.field-0 left c.in_ok-left.ensures.said)
    c.list_within.ensures.found
