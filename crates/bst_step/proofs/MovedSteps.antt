-- The top is taken off, and its bytes are brought down in the pool: what else is held stands there as before.
use Rattle.std.proofs.Common.{◌≡◌, ℕ, ◌<◌, sym, ap, subst, List, [], ◌∷◌, drop, length, take, arith}
use Rattle.std.proofs.lemmas.List.{length-take}
use Rattle.bst_step.specs.declared.held.Held.{Held}
use Rattle.bst_step.specs.declared.variables.Variable.{Variable}
use Rattle.bst_step.specs.EntryStates.{EntryState}
use Rattle.bst_step.specs.Held.{ValuesWithin}
use Rattle.bst_step.specs.Values.{IsHeld}
use Rattle.bst_step.proofs.HeldSteps.{values_dropped}

-- the values that are left on the stack stand in the pool: there is none, or the pool is as it was
left_within : (pool later : List ℕ) (hs : List Held) → (0 < length hs → later ≡ pool) → ValuesWithin (length pool) hs → ValuesWithin (length later) hs
left_within pool later [] same within = tt
left_within pool later (h ∷ hs) same within =
    subst (λ (l : List ℕ). ValuesWithin (length l) (h ∷ hs)) (sym (same (omega arith))) within

-- the top is taken off, and the front of the pool is as it was
pub held_moved : (pool later : List ℕ) (kept : ℕ) (hs fewer : List Held) (gs : List Variable) (es : List EntryState) → fewer ≡ drop 1 hs
    → (0 < length fewer → later ≡ pool) → take kept later ≡ take kept pool → IsHeld pool kept hs gs es → IsHeld later kept fewer gs es
held_moved pool later kept hs fewer gs es is same front held = record {
  on_stack =
      left_within pool later fewer same
      (subst (ValuesWithin (length pool)) (sym is) (values_dropped (length pool) hs 1 held.on_stack));
  in_globals = held.in_globals;
  in_entries = held.in_entries;
  in_front =
      omega (arith, held.in_front, ap (λ (l : List ℕ). length l) front, length-take kept later, length-take kept pool);
}
