-- The floor by its cases, and that it is the greatest number that straight proofs show.
use Rattle.std.proofs.Common.{◌≡◌, ℕ, zero, suc, ◌+◌, ◌-◌, ◌<◌, Bool, true, false, cond, not, ◌||◌, List, [], ◌∷◌, length, drop, get_or, Option, None, Some, ap, sym, ◌∙◌, refl, arith}
use Rattle.std.specs.Prelude.{ℤ, pos, ◌-ℤ◌, ◌≤ℤ◌, ◌<ℤ◌, int_lt, is_some, IsSome, IsSomeAnd, ◌↔◌}
use Rattle.std.specs.Int.{int_max}
use Rattle.std.specs.List.{filter}
use Rattle.std.specs.Option.{option_and_then, option_map}
use Rattle.std.proofs.lemmas.Int.{clamps, ints}
use Rattle.lin_facts.specs.declared.row.Row.{Row}
use Rattle.lin_facts.specs.declared.row.Term.{Term}
use Rattle.bst_meaning.specs.declared.condition.Cond.{Cond}
use Rattle.sym_state.specs.References.{row_said}
use Rattle.sym_state.specs.State.{State}
use Rattle.sym_state.specs.declared.proof.Reference.{Reference}
use Rattle.straight_proofs.specs.declared.straight.TheConstants.{MOST_REFERENCES}
use Rattle.straight_proofs.specs.Floors.{floor, floor_within, greatest, greatest_behind, lessened}
use Rattle.straight_proofs.specs.Lookup.{references_to}
use Rattle.straight_proofs.specs.Remainders.{fits, lead, minus}
use Rattle.straight_proofs.specs.Straight.{ended, first_list, left_behind, list_within, proof_of, references, straight_proof}
use Rattle.straight_proofs.proofs.Lists.{at_end, none_behind, none_left, one_more}
use Rattle.straight_proofs.proofs.Looked.{leaves, looks_up}
use Rattle.straight_proofs.proofs.Searched.{next_item}

-- a remainder without a lead
pub floor_at_end : (n : ℕ) (c : Cond) (state : State) (remainder : Row) → lead remainder ≡ None → floor_within n c state remainder ≡ Some remainder.constant
unfolding floor_within
floor_at_end zero c state remainder e = ap (λ (o : Option Term). elim o as (λ _. Option ℤ) [ None ↦ Some remainder.constant | Some term ↦ None ]) e
floor_at_end (suc n) c state remainder e =
    ap (λ (o : Option Term). elim o as (λ _. Option ℤ) [
      | None ↦ Some remainder.constant
      | Some term ↦ greatest_behind (λ r. option_and_then (floor_within n c state) (left_behind c state (Some term) remainder r)) (references state)
    ]) e

-- a lead with no references to come
pub no_floor : (c : Cond) (state : State) (remainder : Row) (t : Term) → lead remainder ≡ Some t → floor_within zero c state remainder ≡ None
unfolding floor_within
no_floor c state remainder t e = ap (λ (o : Option Term). elim o as (λ _. Option ℤ) [ None ↦ Some remainder.constant | Some term ↦ None ]) e

-- the floor behind a reference, where a term leads
abbrev pub floor_behind : ℕ → Cond → State → Row → Term → Reference → Option ℤ
floor_behind n c state remainder t r = option_and_then (floor_within n c state) (left_behind c state (Some t) remainder r)

-- a lead with references to come
pub floor_further : (n : ℕ) (c : Cond) (state : State) (remainder : Row) (t : Term) → lead remainder ≡ Some t
    → floor_within (suc n) c state remainder ≡ greatest_behind (floor_behind n c state remainder t) (references state)
unfolding floor_within
floor_further n c state remainder t e =
    ap (λ (o : Option Term). elim o as (λ _. Option ℤ) [
      | None ↦ Some remainder.constant
      | Some term ↦ greatest_behind (λ r. option_and_then (floor_within n c state) (left_behind c state (Some term) remainder r)) (references state)
    ]) e

-- the greatest is that of the references or rows that are kept, where none is behind each other
pub greatest_kept : {X : Type 0} (keeps : X → Bool) (behind : X → Option ℤ) → ((x : X) → keeps x ≡ false → behind x ≡ None)
    → (all : List X) → greatest_behind behind all ≡ greatest_behind behind (filter keeps all)
greatest_kept keeps behind h [] = refl
greatest_kept keeps behind h (r ∷ all) =
    elim (keeps r) as (λ (b : Bool). keeps r ≡ b → greatest_behind behind (r ∷ all) ≡ greatest_behind behind (cond b (r ∷ filter keeps all) (filter keeps all))) [
      | true ↦ λ e. ap (greatest (behind r)) (greatest_kept keeps behind h all)
      | false ↦ λ e. ap (λ (first : Option ℤ). greatest first (greatest_behind behind all)) (h r e) ∙ greatest_kept keeps behind h all
    ] refl

-- the floor behind a lead is the greatest behind the references to it
floor_looked_up : (n : ℕ) (c : Cond) (state : State) (remainder : Row) (t : Term) → lead remainder ≡ Some t
    → floor_within (suc n) c state remainder ≡ greatest_behind (floor_behind n c state remainder t) (references_to state remainder t)
floor_looked_up n c state remainder t e =
    let b = floor_behind n c state remainder t in
    let none : (r : Reference) → leaves c state t remainder r ≡ false → b r ≡ None =
    λ r f. none_behind (floor_within n c state) (left_behind c state (Some t) remainder r) f in
    floor_further n c state remainder t e ∙ looks_up (greatest_behind b) c state t remainder (greatest_kept (leaves c state t remainder) b none)

pub found_behind : (most : ℕ) (c : Cond) (state : State) (remainder : Row) (t : Term) (there : List Reference) (floor : Option ℤ) → 0 < most → lead remainder ≡ Some t
    → there ≡ references_to state remainder t → floor ≡ greatest_behind (floor_behind (most - 1) c state remainder t) there
    → floor ≡ floor_within most c state remainder
found_behind most c state remainder t there floor h e are is =
    let more : suc (most - 1) ≡ most = omega (arith, h) in
    is
    ∙ ap (greatest_behind (floor_behind (most - 1) c state remainder t)) are
    ∙ sym (floor_looked_up (most - 1) c state remainder t e)
    ∙ ap (λ (m : ℕ). floor_within m c state remainder) more

-- the greatest of three
grouped : (x y z : Option ℤ) → greatest (greatest x y) z ≡ greatest x (greatest y z)
grouped None y z = refl
grouped (Some m) None z = refl
grouped (Some m) (Some n) None = refl
grouped (Some m) (Some n) (Some k) =
    let same : int_max (int_max m n) k ≡ int_max m (int_max n k) = omega (arith, ints, clamps) in
    ap (λ (most : ℤ). Some most) same

-- one row less, whose floor is among those so far
pub one_further : (behind : Row → Option ℤ) (all : List Row) (i : ℕ) (d : Row) (so_far : Option ℤ) → i < length all
    → greatest (greatest so_far (behind (get_or all i d))) (greatest_behind behind (drop (i + 1) all)) ≡ greatest so_far (greatest_behind behind (drop i all))
one_further behind all i d so_far h =
    let row = get_or all i d in
    grouped so_far (behind row) (greatest_behind behind (drop (i + 1) all))
    ∙ ap (λ (rest : List Row). greatest so_far (greatest_behind behind rest)) (sym (next_item all i d h))

-- whether a floor is there and a number is at most it
abbrev pub reaches : ℤ → Option ℤ → Bool
reaches k None = false
reaches k (Some most) = not (int_lt most k)

-- a number is at most the greater of two where it is at most one of them
most_of_two : (k m n : ℤ) → not (int_lt (int_max m n) k) ≡ (not (int_lt m k) || not (int_lt n k))
most_of_two k m n =
    elim (int_lt m k) as (λ (b : Bool). int_lt m k ≡ b → not (int_lt (int_max m n) k) ≡ (not b || not (int_lt n k))) [
      | false ↦ λ e. above k m n e (int_lt (int_max m n) k) refl
      | true ↦ λ e. below k m n e (int_lt (int_max m n) k) (int_lt n k) refl refl
    ] refl
  where
    above : (k m n : ℤ) → int_lt m k ≡ false → (b : Bool) → int_lt (int_max m n) k ≡ b → not b ≡ true
    above k m n e true f = absurd (omega (arith, ints, clamps))
    above k m n e false f = refl

    below : (k m n : ℤ) → int_lt m k ≡ true → (b d : Bool) → int_lt (int_max m n) k ≡ b → int_lt n k ≡ d → not b ≡ not d
    below k m n e true true f g = refl
    below k m n e true false f g = absurd (omega (arith, ints, clamps))
    below k m n e false true f g = absurd (omega (arith, ints, clamps))
    below k m n e false false f g = refl

reaches_one : (k : ℤ) (x y : Option ℤ) → reaches k (greatest x y) ≡ (reaches k x || reaches k y)
reaches_one k None y = refl
reaches_one k (Some m) None = elim (int_lt m k) as (λ (b : Bool). not b ≡ (not b || false)) [ true ↦ refl | false ↦ refl ]
reaches_one k (Some m) (Some n) = most_of_two k m n

-- a list is found behind some references where the greatest floor behind them reaches so far
found_where : (k : ℤ) (lists : Reference → Option (List Reference)) (floors : Reference → Option ℤ) → ((r : Reference) → is_some (lists r) ≡ reaches k (floors r))
    → (all : List Reference) → is_some (first_list lists all) ≡ reaches k (greatest_behind floors all)
found_where k lists floors h [] = refl
found_where k lists floors h (r ∷ all) =
    either (lists r)
    ∙ ap (λ (b : Bool). b || is_some (first_list lists all)) (h r)
    ∙ ap (λ (b : Bool). reaches k (floors r) || b) (found_where k lists floors h all)
    ∙ sym (reaches_one k (floors r) (greatest_behind floors all))
  where
    either : (first : Option (List Reference))
        → is_some (elim first as (λ _. Option (List Reference)) [ Some list ↦ Some (r ∷ list) | None ↦ first_list lists all ]) ≡ (is_some first || is_some (first_list lists all))
    either None = refl
    either (Some list) = refl

-- what is left of a sum less a number is what is left of the sum, less the number
pub left_of_less : (c : Cond) (state : State) (t : Term) (remainder : Row) (k : ℤ) (r : Reference)
    → left_behind c state (Some t) (lessened remainder k) r ≡ option_map (λ left. lessened left k) (left_behind c state (Some t) remainder r)
left_of_less c state t remainder k r = by (row_said c state r)
  where
    less : (row : Row) → minus (lessened remainder k) row ≡ lessened (minus remainder row) k
    less row =
        let same : ((remainder.constant -ℤ k) -ℤ row.constant) ≡ ((remainder.constant -ℤ row.constant) -ℤ k) = omega (arith, ints) in
        ap (λ (n : ℤ). record { constant = n; parts = (minus remainder row).parts }) same

    fit : (row : Row) (b : Bool)
        → cond b (Some (minus (lessened remainder k) row)) None ≡ option_map (λ left. lessened left k) (cond b (Some (minus remainder row)) None)
    fit row true = ap (λ (left : Row). Some left) (less row)
    fit row false = refl

    by : (o : Option Row)
        → option_and_then (λ row. cond (fits (Some t) (lessened remainder k) row) (Some (minus (lessened remainder k) row)) None) o
        ≡ option_map (λ left. lessened left k) (option_and_then (λ row. cond (fits (Some t) remainder row) (Some (minus remainder row)) None) o)
    by None = refl
    by (Some row) = fit row (fits (Some t) remainder row)

-- a remainder without a lead less a number holds where the number is at most its constant
ended_where : (remainder : Row) (k : ℤ) → is_some (ended (lessened remainder k)) ≡ reaches k (Some remainder.constant)
ended_where remainder k = by (int_lt (remainder.constant -ℤ k) (pos 0)) (int_lt remainder.constant k) refl refl
  where
    by : (b d : Bool) → int_lt (remainder.constant -ℤ k) (pos 0) ≡ b → int_lt remainder.constant k ≡ d → is_some {T = List Reference} (cond b None (Some [])) ≡ not d
    by true true e f = refl
    by true false e f = absurd (omega (arith, ints))
    by false true e f = absurd (omega (arith, ints))
    by false false e f = refl

-- the same behind a reference
behind_where : (n : ℕ) (c : Cond) (state : State) (k : ℤ) → ((left : Row) → is_some (list_within n c state (lessened left k)) ≡ reaches k (floor_within n c state left))
    → (o : Option Row) → is_some (option_and_then (list_within n c state) (option_map (λ left. lessened left k) o)) ≡ reaches k (option_and_then (floor_within n c state) o)
behind_where n c state k h None = refl
behind_where n c state k h (Some left) = h left

-- a list shows a remainder less a number where the floor of the remainder reaches so far
listed_where : (n : ℕ) (c : Cond) (state : State) (k : ℤ) (remainder : Row)
    → is_some (list_within n c state (lessened remainder k)) ≡ reaches k (floor_within n c state remainder)
listed_where zero c state k remainder =
    elim (lead remainder) as (λ (o : Option Term). lead remainder ≡ o → is_some (list_within zero c state (lessened remainder k)) ≡ reaches k (floor_within zero c state remainder)) [
      | None ↦ λ e.
          ap (λ (o : Option (List Reference)). is_some o) (at_end zero c state (lessened remainder k) e)
          ∙ ended_where remainder k
          ∙ ap (reaches k) (sym (floor_at_end zero c state remainder e))
      | Some t ↦ λ e.
          ap (λ (o : Option (List Reference)). is_some o) (none_left c state (lessened remainder k) t e)
          ∙ ap (reaches k) (sym (no_floor c state remainder t e))
    ] refl
listed_where (suc n) c state k remainder =
    elim (lead remainder) as (λ (o : Option Term). lead remainder ≡ o → is_some (list_within (suc n) c state (lessened remainder k)) ≡ reaches k (floor_within (suc n) c state remainder)) [
      | None ↦ λ e.
          ap (λ (o : Option (List Reference)). is_some o) (at_end (suc n) c state (lessened remainder k) e)
          ∙ ended_where remainder k
          ∙ ap (reaches k) (sym (floor_at_end (suc n) c state remainder e))
      | Some t ↦ λ e.
          ap (λ (o : Option (List Reference)). is_some o) (one_more n c state (lessened remainder k) t e)
          ∙ found_where k (λ r. option_and_then (list_within n c state) (left_behind c state (Some t) (lessened remainder k) r)) (floor_behind n c state remainder t)
          (λ r. ap (λ (o : Option Row). is_some (option_and_then (list_within n c state) o)) (left_of_less c state t remainder k r)
          ∙ behind_where n c state k (listed_where n c state k) (left_behind c state (Some t) remainder r)) (references state)
          ∙ ap (reaches k) (sym (floor_further n c state remainder t e))
    ] refl

less_nothing : (row : Row) → lessened row (pos 0) ≡ row
less_nothing row =
    let same : (row.constant -ℤ pos 0) ≡ row.constant = omega (arith, ints) in
    ap (λ (n : ℤ). record { constant = n; parts = row.parts }) same

-- a list shows a remainder where its floor is at least 0
list_where : (n : ℕ) (c : Cond) (state : State) (remainder : Row) → is_some (list_within n c state remainder) ≡ reaches (pos 0) (floor_within n c state remainder)
list_where n c state remainder =
    ap (λ (row : Row). is_some (list_within n c state row)) (sym (less_nothing remainder)) ∙ listed_where n c state (pos 0) remainder

-- nothing is there where it isn't so that something is
none_there : {X : Type 0} (o : Option X) → is_some o ≡ false → None ≡ o
none_there None e = refl
none_there (Some x) e = absurd (cc)

-- so none does where it is below 0, or where it has none
pub none_below : (n : ℕ) (c : Cond) (state : State) (remainder : Row) (floor : ℤ) → Some floor ≡ floor_within n c state remainder → floor <ℤ pos 0
    → None ≡ list_within n c state remainder
none_below n c state remainder floor e h =
    none_there (list_within n c state remainder) (list_where n c state remainder ∙ ap (reaches (pos 0)) (sym e) ∙ by (int_lt floor (pos 0)) refl)
  where
    by : (b : Bool) → int_lt floor (pos 0) ≡ b → not b ≡ false
    by true f = refl
    by false f = absurd (omega (arith, ints, h))

pub none_floored : (n : ℕ) (c : Cond) (state : State) (remainder : Row) (floor : Option ℤ) → ((k : ℤ) → floor ≡ Some k → ⊥) → floor ≡ floor_within n c state remainder
    → None ≡ list_within n c state remainder
none_floored n c state remainder None h e =
    none_there (list_within n c state remainder) (list_where n c state remainder ∙ ap (reaches (pos 0)) (sym e))
none_floored n c state remainder (Some k) h e = absurd (h k refl)

mapped : {X Y : Type 0} (f : X → Y) (o : Option X) → is_some (option_map f o) ≡ is_some o
mapped f None = refl
mapped f (Some x) = refl

-- a straight proof shows a sum less a number where the floor of the sum reaches so far
proved_where : (c : Cond) (state : State) (sum : Row) (k : ℤ) → is_some (straight_proof c state (lessened sum k)) ≡ reaches k (floor c state sum)
proved_where c state sum k = mapped proof_of (list_within MOST_REFERENCES c state (lessened sum k)) ∙ listed_where MOST_REFERENCES c state k sum

reached : (k : ℤ) (o : Option ℤ) → reaches k o ≡ true → IsSomeAnd o (λ most. k ≤ℤ most)
reached k None e = absurd (cc)
reached k (Some most) e = by (int_lt most k) refl e
  where
    by : (b : Bool) → int_lt most k ≡ b → not b ≡ true → k ≤ℤ most
    by true f g = absurd (cc)
    by false f g = omega (arith, ints)

within_reach : (k : ℤ) (o : Option ℤ) → IsSomeAnd o (λ most. k ≤ℤ most) → reaches k o ≡ true
within_reach k None h = absurd h
within_reach k (Some most) h = by (int_lt most k) refl
  where
    by : (b : Bool) → int_lt most k ≡ b → not b ≡ true
    by true f = absurd (omega (arith, ints, h))
    by false f = refl

-- the floor is the greatest number that straight proofs show
pub floor_is_shown : (c : Cond) (state : State) (sum : Row) (k : ℤ) → IsSome (straight_proof c state (lessened sum k)) ↔ IsSomeAnd (floor c state sum) (λ most. k ≤ℤ most)
floor_is_shown c state sum k =
    let same = proved_where c state sum k in
    (λ h. reached k (floor c state sum) (sym same ∙ h), λ h. same ∙ within_reach k (floor c state sum) h)
