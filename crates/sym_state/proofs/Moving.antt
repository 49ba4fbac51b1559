-- A row with something in place of `pos` holds where the row holds with that as its position, and is within the bounds of rows.
use Rattle.std.proofs.Common.{◌≡◌, ℕ, suc, ◌+◌, ◌≤◌, ◌^◌, List, [], ◌∷◌, length, refl, ap, ◌∙◌, arith}
use Rattle.std.specs.Prelude.{ℤ, pos, ◌+ℤ◌, ◌*ℤ◌, ◌↔◌}
use Rattle.std.proofs.Math.IntN.{*ℤ_comm}
use Rattle.std.proofs.lemmas.Int.{ints}
use Rattle.std.proofs.lemmas.List.Sums.{sum_by-cons}
use Rattle.lin_facts.specs.Rows.{Holds, sum_of}
use Rattle.lin_facts.specs.declared.row.Part.{Part}
use Rattle.lin_facts.specs.declared.row.Row.{Row}
use Rattle.lin_facts.specs.declared.row.Term.{Term}
use Rattle.lin_facts.specs.declared.row.Term.TheVariants.{Value as ValueOf, Length as LengthOf, Names as NamesOf, Pos, Count}
use Rattle.lin_facts.proofs.Integers.{mul_add, mul_zero}
use Rattle.sym_state.specs.Positions.{AtEnd, AtNext, AtStart, Position, moved_to, parts_add, parts_moved, position_adds, position_size, position_sizes, row_moved, term_adds, with_position, with_term}
use Rattle.sym_state.specs.Symbols.{Valuation, numbers}
use Rattle.sym_state.specs.WellMade.{IsBounded, size}
use Rattle.sym_state.proofs.Bounds.{within_size}
use Rattle.sym_state.proofs.RowSums.{and_sum}
use Rattle.sym_state.proofs.Saying.{once}
use Rattle.sym_state.proofs.Sums.{and_length, and_size, size_sum, sizes, sizes-cons}

one_more : (n : ℤ) (v : Valuation) → n *ℤ numbers (moved_to AtNext v) Pos ≡ n *ℤ pos v.position +ℤ n
one_more n v =
    let next : numbers (moved_to AtNext v) Pos ≡ pos v.position +ℤ pos 1 = omega (arith, ints) in
    let product = mul_add n (pos v.position) (pos 1) in
    let same = ap (λ (x : ℤ). n *ℤ x) next in
    let one = *ℤ_comm n (pos 1) ∙ once n in
    omega (arith, ints, product, same, one)

position_sum : (p : Position) (v : Valuation) (n : ℤ) (parts : List Part)
    → sum_of (numbers v) (with_position p n parts) +ℤ position_adds p n ≡ sum_of (numbers v) parts +ℤ n *ℤ numbers (moved_to p v) Pos
position_sum AtStart v n parts = let none = mul_zero n in omega (arith, ints, none)
position_sum AtNext v n parts =
    let sum = and_sum (numbers v) n Pos parts in
    let more = one_more n v in
    omega (arith, ints, sum, more)
position_sum AtEnd v n parts = let sum = and_sum (numbers v) n Count parts in omega (arith, ints, sum)

term_sum : (p : Position) (v : Valuation) (n : ℤ) (t : Term) (parts : List Part)
    → sum_of (numbers v) (with_term p n t parts) +ℤ term_adds p n t ≡ sum_of (numbers v) parts +ℤ n *ℤ numbers (moved_to p v) t
term_sum p v n Pos parts = position_sum p v n parts
term_sum p v n (ValueOf s) parts = let sum = and_sum (numbers v) n (ValueOf s) parts in omega (arith, ints, sum)
term_sum p v n (LengthOf s) parts = let sum = and_sum (numbers v) n (LengthOf s) parts in omega (arith, ints, sum)
term_sum p v n (NamesOf s) parts = let sum = and_sum (numbers v) n (NamesOf s) parts in omega (arith, ints, sum)
term_sum p v n Count parts = let sum = and_sum (numbers v) n Count parts in omega (arith, ints, sum)

parts_sum : (p : Position) (v : Valuation) (before parts : List Part)
    → sum_of (numbers v) (parts_moved p before parts) +ℤ parts_add p parts ≡ sum_of (numbers v) before +ℤ sum_of (numbers (moved_to p v)) parts
parts_sum p v before [] = refl
parts_sum p v before (part ∷ parts) =
    let first = term_sum p v part.coefficient part.term before in
    let rest = parts_sum p v (with_term p part.coefficient part.term before) parts in
    omega (arith, ints, first, rest)

pub row_moves : (p : Position) (v : Valuation) (row : Row) → Holds (numbers v) (row_moved p row) ↔ Holds (numbers (moved_to p v)) row
row_moves p v row =
    let sum = parts_sum p v [] row.parts in
    (λ h. omega (arith, ints, sum, h), λ h. omega (arith, ints, sum, h))

-- the coefficients of `pos` are as great as what stands for it, and add to the constant
with_position_length : (p : Position) (n : ℤ) (parts : List Part) → length (with_position p n parts) ≤ suc (length parts)
with_position_length AtStart n parts = omega arith
with_position_length AtNext n parts = and_length n Pos parts
with_position_length AtEnd n parts = and_length n Count parts

with_position_size : (p : Position) (n : ℤ) (parts : List Part) → sizes (with_position p n parts) ≤ size n + sizes parts
with_position_size AtStart n parts = omega arith
with_position_size AtNext n parts = and_size n Pos parts
with_position_size AtEnd n parts = and_size n Count parts

with_term_length : (p : Position) (n : ℤ) (t : Term) (parts : List Part) → length (with_term p n t parts) ≤ suc (length parts)
with_term_length p n Pos parts = with_position_length p n parts
with_term_length p n (ValueOf s) parts = and_length n (ValueOf s) parts
with_term_length p n (LengthOf s) parts = and_length n (LengthOf s) parts
with_term_length p n (NamesOf s) parts = and_length n (NamesOf s) parts
with_term_length p n Count parts = and_length n Count parts

with_term_size : (p : Position) (n : ℤ) (t : Term) (parts : List Part) → sizes (with_term p n t parts) ≤ size n + sizes parts
with_term_size p n Pos parts = with_position_size p n parts
with_term_size p n (ValueOf s) parts = and_size n (ValueOf s) parts
with_term_size p n (LengthOf s) parts = and_size n (LengthOf s) parts
with_term_size p n (NamesOf s) parts = and_size n (NamesOf s) parts
with_term_size p n Count parts = and_size n Count parts

moved_length : (p : Position) (before parts : List Part) → length (parts_moved p before parts) ≤ length before + length parts
moved_length p before [] = omega arith
moved_length p before (part ∷ parts) =
    let first = with_term_length p part.coefficient part.term before in
    let rest = moved_length p (with_term p part.coefficient part.term before) parts in
    omega (arith, first, rest)

moved_size : (p : Position) (before parts : List Part) → sizes (parts_moved p before parts) ≤ sizes before + sizes parts
moved_size p before [] = omega arith
moved_size p before (part ∷ parts) =
    let first = with_term_size p part.coefficient part.term before in
    let rest = moved_size p (with_term p part.coefficient part.term before) parts in
    let all = sizes-cons part parts in
    omega (arith, first, rest, all)

added_size : (p : Position) (n : ℤ) (t : Term) → size (term_adds p n t) ≤ position_size n t
added_size AtStart n Pos = omega arith
added_size AtNext n Pos = omega arith
added_size AtEnd n Pos = omega arith
added_size p n (ValueOf s) = omega arith
added_size p n (LengthOf s) = omega arith
added_size p n (NamesOf s) = omega arith
added_size p n Count = omega arith

parts_added : (p : Position) (parts : List Part) → size (parts_add p parts) ≤ position_sizes parts
parts_added p [] = omega arith
parts_added p (part ∷ parts) =
    let first = added_size p part.coefficient part.term in
    let rest = parts_added p parts in
    let sum = size_sum (term_adds p part.coefficient part.term) (parts_add p parts) in
    let all = sum_by-cons (λ (q : Part). position_size q.coefficient q.term) part parts in
    omega (arith, first, rest, sum, all)

-- a row that is moved is within the bounds of rows, where its constant is
pub moved_bounded : (p : Position) (row : Row) → IsBounded row → size row.constant + position_sizes row.parts ≤ 2 ^ 45 → IsBounded (row_moved p row)
moved_bounded p row bounded few =
    let most = moved_length p [] row.parts in
    let sizes_most = moved_size p [] row.parts in
    let added = parts_added p row.parts in
    let sum = size_sum row.constant (parts_add p row.parts) in
    let none : sizes [] ≡ 0 = refl in
    let parts = bounded.parts in
    let coefficients = bounded.coefficients in
    record {
      parts = omega (arith, most, parts);
      constant = within_size (2 ^ 45) (row.constant +ℤ parts_add p row.parts) (omega (arith, sum, added, few));
      coefficients = omega (arith, sizes_most, none, coefficients);
    }
