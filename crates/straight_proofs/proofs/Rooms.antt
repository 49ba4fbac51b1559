-- What is left of a remainder has room for one row less.
use Rattle.std.proofs.Common.{◌≡◌, ℕ, suc, ◌+◌, ◌-◌, ◌*◌, ◌≤◌, ◌^◌, List, [], ◌∷◌, length, sym, subst, arith}
use Rattle.std.specs.List.{fold}
use Rattle.std.proofs.lemmas.Int.{ints}
use Rattle.std.proofs.lemmas.List.Elements.{All-nil, All-head, All-tail}
use Rattle.lin_facts.specs.Rows.{IsWithin, IsSmall}
use Rattle.lin_facts.specs.declared.row.Part.{Part}
use Rattle.lin_facts.specs.declared.row.Row.{Row}
use Rattle.straight_proofs.specs.Remainders.{HasRoom, added, canonical, less, turned}
use Rattle.straight_proofs.proofs.Canonical.{AreWithin, added_few, added_within, wider}

-- each part that is added, or taken away, makes the coefficients greater by its own at most
all_within : (size : ℕ) (parts others : List Part) → AreWithin size parts → AreWithin (2 ^ 45) others
    → AreWithin (size + length others * 2 ^ 45) (fold (λ parts part. added part parts) parts others)
all_within size parts [] h k = wider size (size + 0 * 2 ^ 45) parts (omega arith) h
all_within size parts (part ∷ others) h k =
    let here = All-head (λ (p : Part). IsWithin (2 ^ 45) p.coefficient) part others k in
    let behind = All-tail (λ (p : Part). IsWithin (2 ^ 45) p.coefficient) part others k in
    wider ((size + 2 ^ 45) + length others * 2 ^ 45) (size + suc (length others) * 2 ^ 45) (fold (λ parts part. added part parts) (added part parts) others) (omega arith)
    (all_within (size + 2 ^ 45) (added part parts) others (added_within size (2 ^ 45) part parts here h) behind)

pub turned_within : (size : ℕ) (part : Part) → IsWithin size part.coefficient → IsWithin size (turned part).coefficient
turned_within size part h = record { low = omega (arith, ints, h.high); high = omega (arith, ints, h.low) }

all_left_within : (size : ℕ) (parts others : List Part) → AreWithin size parts → AreWithin (2 ^ 45) others
    → AreWithin (size + length others * 2 ^ 45) (fold (λ parts part. added (turned part) parts) parts others)
all_left_within size parts [] h k = wider size (size + 0 * 2 ^ 45) parts (omega arith) h
all_left_within size parts (part ∷ others) h k =
    let here = All-head (λ (p : Part). IsWithin (2 ^ 45) p.coefficient) part others k in
    let behind = All-tail (λ (p : Part). IsWithin (2 ^ 45) p.coefficient) part others k in
    wider ((size + 2 ^ 45) + length others * 2 ^ 45) (size + suc (length others) * 2 ^ 45) (fold (λ parts part. added (turned part) parts) (added (turned part) parts) others)
    (omega arith)
    (all_left_within (size + 2 ^ 45) (added (turned part) parts) others (added_within size (2 ^ 45) (turned part) parts (turned_within (2 ^ 45) part here) h) behind)

all_few : (parts others : List Part) → length (fold (λ parts part. added part parts) parts others) ≤ length parts + length others
all_few parts [] = omega arith
all_few parts (part ∷ others) = omega (arith, added_few part parts, all_few (added part parts) others)

all_left_few : (parts others : List Part) → length (fold (λ parts part. added (turned part) parts) parts others) ≤ length parts + length others
all_left_few parts [] = omega arith
all_left_few parts (part ∷ others) = omega (arith, added_few (turned part) parts, all_left_few (added (turned part) parts) others)

room_left : (more : ℕ) (remainder row : Row) → HasRoom (more + 1) remainder → IsSmall row → HasRoom more (less remainder row)
room_left more remainder row h k =
    let few = h.few in
    let first = h.parts in
    let second = k.parts in
    record {
      few = omega arith;
      parts = omega (arith, all_left_few remainder.parts row.parts);
      constant = record {
        low = omega (arith, ints, h.constant.low, k.constant.high);
        high = omega (arith, ints, h.constant.high, k.constant.low);
      };
      coefficients =
          wider (2 ^ 50 * (9 - (more + 1)) + length row.parts * 2 ^ 45) (2 ^ 50 * (9 - more)) (less remainder row).parts (omega arith)
          (all_left_within (2 ^ 50 * (9 - (more + 1))) remainder.parts row.parts h.coefficients k.coefficients);
    }

-- room for rows is room for fewer
pub room_for_fewer : (fewer more : ℕ) (remainder : Row) → fewer ≤ more → HasRoom more remainder → HasRoom fewer remainder
room_for_fewer fewer more remainder e h =
    let few = h.few in
    let first = h.parts in
    record {
      few = omega arith;
      parts = omega arith;
      constant = record { low = omega (arith, ints, h.constant.low); high = omega (arith, ints, h.constant.high) };
      coefficients = wider (2 ^ 50 * (9 - more)) (2 ^ 50 * (9 - fewer)) remainder.parts (omega arith) h.coefficients;
    }

-- the same of what is the remainder less the row
pub room_of : (more : ℕ) (remainder row left : Row) → left ≡ less remainder row → HasRoom (more + 1) remainder → IsSmall row → HasRoom more left
room_of more remainder row left e h k = subst (HasRoom more) (sym e) (room_left more remainder row h k)

-- a row has room in its form
pub room_at_first : (row same : Row) → same ≡ canonical row → IsSmall row → HasRoom 8 same
room_at_first row same e k =
    let few = k.parts in
    subst (HasRoom 8) (sym e)
    (record {
      few = omega arith;
      parts = omega (arith, all_few [] row.parts);
      constant = record { low = omega (arith, ints, k.constant.low); high = omega (arith, ints, k.constant.high) };
      coefficients =
          wider (0 + length row.parts * 2 ^ 45) (2 ^ 50 * (9 - 8)) (canonical row).parts (omega arith)
          (all_within 0 [] row.parts (All-nil (λ (p : Part). IsWithin 0 p.coefficient)) k.coefficients);
    })
