use Rattle.std.proofs.Common.{◌≡◌, ℕ, ◌^◌, Option, Some, Vec, Global, IfOk, ap, sym, ◌∙◌, subst, arith}
use Rattle.std.specs.Prelude.{ℤ, ◌-ℤ◌}
use Rattle.std.specs.Option.{IfSome, option_and_then}
use Rattle.lin_facts.specs.Rows.{IsWithin}
use Rattle.lin_facts.specs.declared.row.Row.{Row}
use Rattle.straight_proofs.specs.Floors.{floor_within}
use Rattle.straight_proofs.specs.Remainders.{left_of}
use Rattle.straight_proofs.proofs.Alike.{same_behind, same_floor}
use Rattle.straight_proofs.proofs.Bare.{all_near_behind, floor_kept, floor_remembered, kept_within, near_remembered, near_within, one_more}
use Rattle.straight_proofs.proofs.Floored.{floor_at_end, no_floor}
use Rattle.straight_proofs.proofs.Gathered.{found_over}
use Rattle.straight_proofs.proofs.Remembering.{floor_found, floors_stay}
use Rattle.straight_proofs.proofs.Rooms.{room_for_fewer}
use Rattle.straight_proofs.proofs.floors.+floors.Goals as goal

-- a remainder without a lead
pub floor_within-returns-in-None-clause-greatest : goal.floor_within-returns-in-None-clause-greatest
floor_within-returns-in-None-clause-greatest t c =
    c.ended.ensures.value
    ∙ sym (floor_at_end c.args.most c.args.known.now.cond.now c.args.known.now.state.now c.args.remainder.now (sym c.in-None.ensures))

-- a lead, and no reference may follow
pub floor_within-returns-then-most-eq0-clause-greatest : goal.floor_within-returns-then-most-eq0-clause-greatest
floor_within-returns-then-most-eq0-clause-greatest t c =
    sym (ap (λ (n : ℕ). floor_within n c.args.known.now.cond.now c.args.known.now.state.now c.args.remainder.now) c.if-most-eq0.true
    ∙ no_floor c.args.known.now.cond.now c.args.known.now.state.now c.args.remainder.now c.in-Some.term (sym c.in-Some.ensures))

-- what was remembered, with the constant, is the floor
pub floor_if_new-returns-in-Some-clause-greatest : goal.floor_if_new-returns-in-Some-clause-greatest
floor_if_new-returns-in-Some-clause-greatest t c =
    floor_remembered c.args.most c.args.known.now.cond.now c.args.known.now.state.now c.args.remainder.now c.in-Some.floor.now c.with_constant.result
    (floor_found _ _ _ _ _ _ _ _ _ c.requires.ready.floors c.as_slice.ensures c.in_ok-key.ensures c.as_slice-2.ensures.value c.in-Some.ensures)
    c.with_constant.ensures

pub floor_if_new-returns-in-Some-clause-near : goal.floor_if_new-returns-in-Some-clause-near
floor_if_new-returns-in-Some-clause-near t c =
    near_remembered c.args.most c.args.known.now.cond.now c.args.known.now.state.now c.args.remainder.now c.in-Some.floor.now c.with_constant.result
    (floor_found _ _ _ _ _ _ _ _ _ c.requires.ready.floors c.as_slice.ensures c.in_ok-key.ensures c.as_slice-2.ensures.value c.in-Some.ensures)
    c.with_constant.ensures

pub floor_if_new-with_constant-requires-clause-floor : goal.floor_if_new-with_constant-requires-clause-floor
floor_if_new-with_constant-requires-clause-floor t c =
    kept_within c.args.most c.args.known.now.cond.now c.args.known.now.state.now c.args.remainder.now c.in-Some.floor.now c.requires.room
    (floor_found _ _ _ _ _ _ _ _ _ c.requires.ready.floors c.as_slice.ensures c.in_ok-key.ensures c.as_slice-2.ensures.value c.in-Some.ensures)

pub floor_if_new-without_constant-requires-clause-room : goal.floor_if_new-without_constant-requires-clause-room
floor_if_new-without_constant-requires-clause-room t c = room_for_fewer 0 c.args.most c.args.remainder.now (omega arith) c.requires.room

pub floor_if_new-without_constant-requires-clause-floor : goal.floor_if_new-without_constant-requires-clause-floor
floor_if_new-without_constant-requires-clause-floor t c =
    near_within c.args.most c.args.remainder.now c.in_ok-floor.floor c.requires.room
    (one_more c.args.most c.args.remainder.now c.in_ok-floor.floor c.requires.more c.in_ok-floor.ensures.near)

-- the floor behind a lead is found by look-up
pub floor_if_new-returns-clause-greatest : goal.floor_if_new-returns-clause-greatest
floor_if_new-returns-clause-greatest t c =
    found_over c.args.most c.args.known.now.cond.now c.args.known.now.state.now c.args.remainder.now c.args.term c.is_above-above.result c.as_slice-rows.result.now c.in_ok-floor.floor c.requires.more
    c.requires.leads (sym c.is_above-above.ensures)
    (c.as_slice-rows.ensures.value ∙ ap (λ (rows : Vec Row Global). rows.items) c.as_ref.ensures ∙ c.in_ok-rows.ensures.with.are) c.in_ok-floor.ensures.greatest

pub floor_if_new-returns-clause-near : goal.floor_if_new-returns-clause-near
floor_if_new-returns-clause-near t c = one_more c.args.most c.args.remainder.now c.in_ok-floor.floor c.requires.more c.in_ok-floor.ensures.near

-- what is remembered is the floor without the constant
pub floor_if_new-returns-clause-ready : goal.floor_if_new-returns-clause-ready
floor_if_new-returns-clause-ready t c =
    let is : c.in_ok-floor.floor ≡ floor_within c.args.most c.args.known.now.cond.now c.args.known.now.state.now c.args.remainder.now =
    found_over c.args.most c.args.known.now.cond.now c.args.known.now.state.now c.args.remainder.now c.args.term c.is_above-above.result c.as_slice-rows.result.now c.in_ok-floor.floor c.requires.more
    c.requires.leads (sym c.is_above-above.ensures)
    (c.as_slice-rows.ensures.value ∙ ap (λ (rows : Vec Row Global). rows.items) c.as_ref.ensures ∙ c.in_ok-rows.ensures.with.are) c.in_ok-floor.ensures.greatest in
    record {
      bounds = c.requires.ready.bounds;
      rows = c.requires.ready.rows;
      floors = floors_stay _ _ _ _ _ _ _ _ _ c.greatest_behind.ensures.ready.floors c.as_slice.ensures c.in_ok-key.ensures
          (floor_kept c.args.most c.args.known.now.cond.now c.args.known.now.state.now c.args.remainder.now c.in_ok-floor.floor c.without_constant.result
          is (one_more c.args.most c.args.remainder.now c.in_ok-floor.floor c.requires.more c.in_ok-floor.ensures.near) c.without_constant.ensures)
          c.in_ok-add.ensures.added;
      with = c.greatest_behind.ensures.ready.with;
    }

-- what is left is alike what the definition leaves
pub floor_behind-returns-in-Some-clause-greatest : goal.floor_behind-returns-in-Some-clause-greatest
floor_behind-returns-in-Some-clause-greatest t c =
    let next : Row → Option ℤ = floor_within c.args.most c.args.known.now.cond.now c.args.known.now.state.now in
    let left : Option Row = left_of (Some c.args.term) c.args.remainder.now c.args.row.now in
    subst (λ (wanted : Option ℤ). IfOk c.floor_within.result (λ result. result ≡ wanted))
    (sym (ap (option_and_then next) c.in-Some.is)
    ∙ same_behind next (same_floor c.args.most c.args.known.now.cond.now c.args.known.now.state.now) c.in_ok-left.field-0 left c.in_ok-left.ensures.said)
    c.floor_within.ensures.greatest

pub floor_behind-returns-in-Some-clause-near : goal.floor_behind-returns-in-Some-clause-near
floor_behind-returns-in-Some-clause-near t c =
    all_near_behind c.args.most c.args.remainder.now c.in-Some.left c.floor_within.result
    (subst (λ (o : Option Row). IfSome o (λ row. IsWithin (2 ^ 45) (row.constant -ℤ c.args.remainder.now.constant))) c.in-Some.is c.in_ok-left.ensures.near)
    c.floor_within.ensures.near
