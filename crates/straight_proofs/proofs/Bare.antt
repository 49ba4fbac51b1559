-- The floor of a remainder is that of its parts, moved by its constant.
use Rattle.std.proofs.Common.{◌≡◌, ℕ, zero, suc, ◌+◌, ◌-◌, ◌<◌, ◌^◌, List, [], ◌∷◌, Option, None, Some, Result, Ok, Err, IfOk, ap, sym, ◌∙◌, refl, subst, arith}
use Rattle.std.specs.Prelude.{ℤ, pos, ◌+ℤ◌, ◌-ℤ◌}
use Rattle.std.specs.Int.{int_max}
use Rattle.std.specs.Option.{IfSome, option_and_then, option_map}
use Rattle.std.proofs.lemmas.Int.{clamps, ints}
use Rattle.lin_facts.specs.Rows.{IsWithin}
use Rattle.lin_facts.specs.declared.row.Row.{Row}
use Rattle.lin_facts.specs.declared.row.Term.{Term}
use Rattle.bst_meaning.specs.declared.condition.Cond.{Cond}
use Rattle.sym_state.specs.State.{State}
use Rattle.sym_state.specs.declared.proof.Reference.{Reference}
use Rattle.straight_proofs.specs.Floors.{floor_within, greatest, greatest_behind, lessened}
use Rattle.straight_proofs.specs.Remainders.{HasRoom, lead}
use Rattle.straight_proofs.specs.Remembered.{IsFloor, IsNear, bare}
use Rattle.straight_proofs.specs.Straight.{left_behind, references}
use Rattle.straight_proofs.proofs.Floored.{floor_at_end, floor_behind, floor_further, left_of_less, no_floor}

-- a floor less a number
abbrev pub moved : ℤ → Option ℤ → Option ℤ
moved k floor = option_map (λ n. n -ℤ k) floor

greater_moved : (k : ℤ) (x y : Option ℤ) → greatest (moved k x) (moved k y) ≡ moved k (greatest x y)
greater_moved k None y = refl
greater_moved k (Some m) None = refl
greater_moved k (Some m) (Some n) =
    let same : int_max (m -ℤ k) (n -ℤ k) ≡ (int_max m n -ℤ k) = omega (arith, ints, clamps) in
    ap (λ (most : ℤ). Some most) same

greatest_moved : (k : ℤ) (behind other : Reference → Option ℤ) → ((r : Reference) → other r ≡ moved k (behind r)) → (all : List Reference)
    → greatest_behind other all ≡ moved k (greatest_behind behind all)
greatest_moved k behind other h [] = refl
greatest_moved k behind other h (r ∷ all) =
    ap (λ (o : Option ℤ). greatest o (greatest_behind other all)) (h r)
    ∙ ap (greatest (moved k (behind r))) (greatest_moved k behind other h all)
    ∙ greater_moved k (behind r) (greatest_behind behind all)

moved_behind : (n : ℕ) (c : Cond) (state : State) (k : ℤ) → ((left : Row) → floor_within n c state (lessened left k) ≡ moved k (floor_within n c state left))
    → (o : Option Row) → option_and_then (floor_within n c state) (option_map (λ left. lessened left k) o) ≡ moved k (option_and_then (floor_within n c state) o)
moved_behind n c state k h None = refl
moved_behind n c state k h (Some left) = h left

-- the floor of a remainder less a number is its floor less the number
floor_moved : (n : ℕ) (c : Cond) (state : State) (k : ℤ) (remainder : Row)
    → floor_within n c state (lessened remainder k) ≡ moved k (floor_within n c state remainder)
floor_moved zero c state k remainder =
    elim (lead remainder) as (λ (o : Option Term). lead remainder ≡ o → floor_within zero c state (lessened remainder k) ≡ moved k (floor_within zero c state remainder)) [
      | None ↦ λ e. floor_at_end zero c state (lessened remainder k) e ∙ ap (moved k) (sym (floor_at_end zero c state remainder e))
      | Some t ↦ λ e. no_floor c state (lessened remainder k) t e ∙ ap (moved k) (sym (no_floor c state remainder t e))
    ] refl
floor_moved (suc n) c state k remainder =
    elim (lead remainder) as (λ (o : Option Term). lead remainder ≡ o → floor_within (suc n) c state (lessened remainder k) ≡ moved k (floor_within (suc n) c state remainder)) [
      | None ↦ λ e. floor_at_end (suc n) c state (lessened remainder k) e ∙ ap (moved k) (sym (floor_at_end (suc n) c state remainder e))
      | Some t ↦ λ e.
          floor_further n c state (lessened remainder k) t e
          ∙ greatest_moved k (floor_behind n c state remainder t) (floor_behind n c state (lessened remainder k) t)
          (λ r. ap (option_and_then (floor_within n c state)) (left_of_less c state t remainder k r)
          ∙ moved_behind n c state k (floor_moved n c state k) (left_behind c state (Some t) remainder r)) (references state)
          ∙ ap (moved k) (sym (floor_further n c state remainder t e))
    ] refl

without_constant : (row : Row) → lessened row row.constant ≡ bare row.parts
without_constant row =
    let none : (row.constant -ℤ row.constant) ≡ pos 0 = omega (arith, ints) in
    ap (λ (n : ℤ). record { constant = n; parts = row.parts }) none

-- the floor of a remainder's parts is its floor less its constant
floor_of_parts : (n : ℕ) (c : Cond) (state : State) (row : Row) → moved row.constant (floor_within n c state row) ≡ floor_within n c state (bare row.parts)
floor_of_parts n c state row = sym (floor_moved n c state row.constant row) ∙ ap (floor_within n c state) (without_constant row)

back : (k : ℤ) (o : Option ℤ) → option_map (λ n. n +ℤ k) (moved k o) ≡ o
back k None = refl
back k (Some n) =
    let same : ((n -ℤ k) +ℤ k) ≡ n = omega (arith, ints) in
    ap (λ (m : ℤ). Some m) same

-- what is remembered, with the constant of a remainder, is its floor
pub floor_remembered : (n : ℕ) (c : Cond) (state : State) (row : Row) (kept found : Option ℤ) → IsFloor c state n row.parts kept
    → found ≡ option_map (λ m. m +ℤ row.constant) kept → found ≡ floor_within n c state row
floor_remembered n c state row kept found h e =
    e
    ∙ ap (option_map (λ m. m +ℤ row.constant)) (h.is ∙ sym (floor_of_parts n c state row))
    ∙ back row.constant (floor_within n c state row)

pub near_remembered : (n : ℕ) (c : Cond) (state : State) (row : Row) (kept found : Option ℤ) → IsFloor c state n row.parts kept
    → found ≡ option_map (λ m. m +ℤ row.constant) kept → IsNear n row found
near_remembered n c state row kept found h e = subst (IsNear n row) (sym e) (by kept h.near)
  where
    by : (o : Option ℤ) → IsNear n (bare row.parts) o → IsNear n row (option_map (λ m. m +ℤ row.constant) o)
    by None near = tt
    by (Some m) near = record { low = omega (arith, ints, near.low); high = omega (arith, ints, near.high) }

-- a remainder's floor without its constant is that of its parts
pub floor_kept : (n : ℕ) (c : Cond) (state : State) (row : Row) (found kept : Option ℤ) → found ≡ floor_within n c state row → IsNear n row found
    → kept ≡ moved row.constant found → IsFloor c state n row.parts kept
floor_kept n c state row found kept is near e = record {
  is = e ∙ ap (moved row.constant) is ∙ floor_of_parts n c state row;
  near = subst (IsNear n (bare row.parts)) (sym e) (by found near);
}
  where
    by : (o : Option ℤ) → IsNear n row o → IsNear n (bare row.parts) (moved row.constant o)
    by None h = tt
    by (Some m) h = record { low = omega (arith, ints, h.low); high = omega (arith, ints, h.high) }

-- a floor that is near is within its bounds
pub near_within : (more : ℕ) (row : Row) (floor : Option ℤ) → HasRoom more row → IsNear more row floor → IfSome floor (IsWithin (2 ^ 49))
near_within more row None room near = tt
near_within more row (Some n) room near =
    let few = room.few in
    record {
      low = omega (arith, ints, few, near.low, room.constant.low);
      high = omega (arith, ints, few, near.high, room.constant.high);
    }

pub kept_within : (n : ℕ) (c : Cond) (state : State) (row : Row) (kept : Option ℤ) → HasRoom n row → IsFloor c state n row.parts kept → IfSome kept (IsWithin (2 ^ 49))
kept_within n c state row kept room h = by kept h.near
  where
    by : (o : Option ℤ) → IsNear n (bare row.parts) o → IfSome o (IsWithin (2 ^ 49))
    by None near = tt
    by (Some m) near =
        let few = room.few in
        record { low = omega (arith, ints, few, near.low); high = omega (arith, ints, few, near.high) }

-- the floor of what is left of a remainder is near it, by one row more
near_behind : (more : ℕ) (remainder left : Row) (floor : Option ℤ) → IsWithin (2 ^ 45) (left.constant -ℤ remainder.constant) → IsNear more left floor
    → IsNear (more + 1) remainder floor
near_behind more remainder left None h near = tt
near_behind more remainder left (Some n) h near = record {
  low = omega (arith, ints, h.low, near.low);
  high = omega (arith, ints, h.high, near.high);
}

pub all_near_behind : {E : Type 0} (more : ℕ) (remainder left : Row) (found : Result (Option ℤ) E) → IsWithin (2 ^ 45) (left.constant -ℤ remainder.constant)
    → IfOk found (IsNear more left) → IfOk found (IsNear (more + 1) remainder)
all_near_behind more remainder left (Ok floor) h near = near_behind more remainder left floor h near
all_near_behind more remainder left (Err e) h near = near

-- a floor behind a reference more is near by one row more
pub one_more : (most : ℕ) (remainder : Row) (floor : Option ℤ) → 0 < most → IsNear (most - 1 + 1) remainder floor → IsNear most remainder floor
one_more most remainder floor h near =
    let same : (most - 1 + 1) ≡ most = omega (arith, h) in
    subst (λ (m : ℕ). IsNear m remainder floor) same near
