-- A row is moved part by part.
use Rattle.std.proofs.Common.{◌≡◌, ℕ, suc, ◌+◌, ◌≤◌, ◌^◌, List, [], ◌∷◌, drop, get_or, length, ◌<◌, refl, sym, ap, subst, ◌∙◌, arith, drop-cons, add-one}
use Rattle.std.specs.Prelude.{ℤ, ◌+ℤ◌}
use Rattle.std.specs.List.{All}
use Rattle.std.proofs.lemmas.Int.{ints}
use Rattle.std.proofs.lemmas.List.Elements.{All-cons, All-nil}
use Rattle.std.proofs.lemmas.List.Sums.{sum_by-cons}
use Rattle.lin_facts.specs.Rows.{IsWithin}
use Rattle.lin_facts.specs.declared.row.Part.{Part}
use Rattle.lin_facts.specs.declared.row.Row.{Row}
use Rattle.lin_facts.specs.declared.row.Term.{Term}
use Rattle.lin_facts.specs.declared.row.Term.TheVariants as term
use Rattle.sym_state.specs.Positions.{Position, AtStart, AtNext, AtEnd, parts_add, parts_moved, position_size, position_sizes, term_adds, with_term}
use Rattle.sym_state.specs.WellMade.{IsBounded, size}
use Rattle.sym_state.proofs.Bounds.{within_size}
use Rattle.sym_state.proofs.Sums.{and_size, size_sum}
use Rattle.cert_check.specs.Certified.{IsMovable}
use Rattle.command_flow.specs.Moments.{sizes}

-- a constant and parts, and with what is left of a row they come to the row that is moved
pub record Moved (p : Position) (row : Row) (left : List Part) (constant : ℤ) (parts : List Part) : Type 0 where
  pub constant_is : constant +ℤ parts_add p left ≡ row.constant +ℤ parts_add p row.parts
  pub parts_are : parts_moved p parts left ≡ parts_moved p [] row.parts
  pub small : size constant + position_sizes left ≤ 2 ^ 45
  pub few : sizes parts + sizes left ≤ 2 ^ 45

pub moved_nothing : (p : Position) (row : Row) → IsBounded row → IsMovable row → Moved p row row.parts row.constant []
moved_nothing p row bounded movable = record {
  constant_is = refl;
  parts_are = refl;
  small = movable;
  few = let few = bounded.coefficients in omega (arith, few);
}

-- each coefficient is within what all are together
pub each_within : (n : ℕ) (parts : List Part) → sizes parts ≤ n → All (λ p. IsWithin n p.coefficient) parts
each_within n [] few = All-nil (λ (p : Part). IsWithin n p.coefficient)
each_within n (part ∷ parts) few =
    let sum = sum_by-cons (λ (p : Part). size p.coefficient) part parts in
    All-cons (λ (p : Part). IsWithin n p.coefficient) part parts (within_size n part.coefficient (omega (arith, sum, few)))
    (each_within n parts (omega (arith, sum, few)))

put_size : (p : Position) (n : ℤ) (t : Term) (parts : List Part) → sizes (with_term p n t parts) ≤ size n + sizes parts
put_size AtStart n term.Pos parts = omega arith
put_size AtNext n term.Pos parts = and_size n term.Pos parts
put_size AtEnd n term.Pos parts = and_size n term.Count parts
put_size p n t parts = and_size n t parts

adds_few : (p : Position) (n : ℤ) (t : Term) → size (term_adds p n t) ≤ position_size n t
adds_few AtStart n term.Pos = omega arith
adds_few AtNext n term.Pos = omega arith
adds_few AtEnd n term.Pos = omega arith
adds_few p n (term.Value s) = omega arith
adds_few p n (term.Length s) = omega arith
adds_few p n (term.Names s) = omega arith
adds_few p n term.Count = omega arith

one_more : (p : Position) (row : Row) (part : Part) (left : List Part) (constant : ℤ) (parts : List Part) → Moved p row (part ∷ left) constant parts
    → Moved p row left (constant +ℤ term_adds p part.coefficient part.term) (with_term p part.coefficient part.term parts)
one_more p row part left constant parts so_far =
    let adds = term_adds p part.coefficient part.term in
    let before : constant +ℤ (adds +ℤ parts_add p left) ≡ row.constant +ℤ parts_add p row.parts = so_far.constant_is in
    let positions = sum_by-cons (λ (q : Part). position_size q.coefficient q.term) part left in
    let all = sum_by-cons (λ (q : Part). size q.coefficient) part left in
    let few = so_far.few in
    let small = so_far.small in
    let sum = size_sum constant adds in
    let one = adds_few p part.coefficient part.term in
    let put = put_size p part.coefficient part.term parts in
    record {
      constant_is = omega (arith, ints, before);
      parts_are = so_far.parts_are;
      small = omega (arith, positions, small, sum, one);
      few = omega (arith, all, few, put);
    }

-- what the next part leaves
pub part_more : (p : Position) (row : Row) (i : ℕ) (part : Part) (constant after : ℤ) (parts more : List Part) → i < length row.parts → get_or row.parts i part ≡ part
    → after ≡ constant +ℤ term_adds p part.coefficient part.term → more ≡ with_term p part.coefficient part.term parts
    → Moved p row (drop i row.parts) constant parts → Moved p row (drop (i + 1) row.parts) after more
part_more p row i part constant after parts more less is adds puts so_far =
    let split : drop i row.parts ≡ part ∷ drop (suc i) row.parts = drop-cons row.parts i part less ∙ ap (λ (q : Part). q ∷ drop (suc i) row.parts) is in
    let next = one_more p row part (drop (suc i) row.parts) constant parts (subst (λ (l : List Part). Moved p row l constant parts) split so_far) in
    subst (λ (n : ℕ). Moved p row (drop n row.parts) after more) (sym (add-one i))
    (subst (λ (k : ℤ). Moved p row (drop (suc i) row.parts) k more) (sym adds)
    (subst (λ (l : List Part). Moved p row (drop (suc i) row.parts) (constant +ℤ term_adds p part.coefficient part.term) l) (sym puts) next))
