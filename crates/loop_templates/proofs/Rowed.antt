-- The rows of a case are within the bounds of rows.
use Rattle.std.proofs.Common.{◌≡◌, ℕ, suc, ◌+◌, ◌*◌, ◌≤◌, ◌^◌, Bool, true, false, not, cond, refl, arith, List, [], ◌∷◌, ◌++◌, length, map, ℤ, ◌+ℤ◌, pos, negsuc}
use Rattle.std.specs.List.{All, filter, flat_map, fold}
use Rattle.std.proofs.lemmas.Bool.{and_parts}
use Rattle.std.proofs.lemmas.Bool.Decides.{nat_tests}
use Rattle.std.proofs.lemmas.List.{length-map}
use Rattle.std.proofs.lemmas.List.Elements.{All-nil, All-cons, All-head, All-tail, All-map, All-take}
use Rattle.lin_facts.specs.Rows.{IsWithin, same_term}
use Rattle.lin_facts.specs.declared.row.Part.{Part}
use Rattle.lin_facts.specs.declared.row.Row.{Row}
use Rattle.name_table.specs.declared.style.Style.{Style}
use Rattle.bst_meaning.specs.declared.condition.Cond.{Cond}
use Rattle.cert_format.specs.CertText.{is_within}
use Rattle.cert_format.specs.PieceItems.{is_before, is_zero}
use Rattle.cert_format.specs.declared.limits.TheConstants.{MOST_ITEMS}
use Rattle.cert_format.specs.declared.piece_items.TheConstants.{ROW_SIZE}
use Rattle.sym_state.proofs.Bounds.{within_size}
use Rattle.sym_state.proofs.Sums.{size_within, sizes, sizes-cons}
use Rattle.sym_state.specs.Starting.{started}
use Rattle.sym_state.specs.State.{State}
use Rattle.sym_state.specs.WellMade.{IsBounded, size}
use Rattle.sym_state.specs.declared.piece.Piece.{Piece}
use Rattle.loop_templates.specs.Rows.{is_said, is_wanted, row_in_piece, rows_of_sum, rows_over, summed, symbol_of, with_part}
use Rattle.loop_templates.specs.Sums.{IsSmallSum}
use Rattle.loop_templates.proofs.Placed.{all_within}
use Rattle.loop_templates.proofs.SmallSums.{AreWithin, negated_small, renamed, with_part_within}
use Rattle.loop_templates.proofs.Summed.{HasSum, rows_sums}

-- one part more makes a row no more than one longer
with_part_few : (part : Part) (parts : List Part) → length (with_part part parts) ≤ suc (length parts)
with_part_few part [] = omega arith
with_part_few part (first ∷ parts) =
    let rest = with_part_few part parts in
    elim (is_before part.term first.term)
    as (λ (b : Bool). length (cond b (part ∷ (first ∷ parts)) (cond (same_term part.term first.term) (summed part first ++ parts) (first ∷ with_part part parts))) ≤ suc (suc (length parts))) [
      | true ↦ omega arith
      | false ↦ elim (same_term part.term first.term)
          as (λ (b : Bool). length (cond b (summed part first ++ parts) (first ∷ with_part part parts)) ≤ suc (suc (length parts))) [
            | true ↦ elim (is_zero (part.coefficient +ℤ first.coefficient))
                as (λ (b : Bool). length (cond b [] (record { coefficient = part.coefficient +ℤ first.coefficient; term = first.term } ∷ []) ++ parts) ≤ suc (suc (length parts))) [
                  | true ↦ omega arith
                  | false ↦ omega arith
                ]
            | false ↦ omega (arith, rest)
          ]
    ]

-- parts that are placed in their order are no more than there are, and their coefficients no greater
pub record AreFew (n : ℕ) (parts : List Part) : Type 0 where
  pub few : length parts ≤ n
  pub within : AreWithin n parts

all_few : (n m : ℕ) (old parts : List Part) → n + length parts ≤ m → AreFew n old → AreWithin 1 parts → AreFew m (fold (λ parts part. with_part part parts) old parts)
all_few n m old [] most few units =
    let many = few.few in record { few = omega (arith, most, many); within = all_within n m old (omega (arith, most)) few.within }
all_few n m old (part ∷ parts) most few units =
    let many = few.few in
    let one = with_part_few part old in
    let here = All-head (λ (p : Part). IsWithin 1 p.coefficient) part parts units in
    all_few (n + 1) m (with_part part old) parts (omega (arith, most))
    (record { few = omega (arith, many, one); within = with_part_within n part old here few.within })
    (All-tail (λ (p : Part). IsWithin 1 p.coefficient) part parts units)

renamed_units : (name : ℕ → ℕ) (parts : List Part) → AreWithin 1 parts → AreWithin 1 (map (renamed name) parts)
renamed_units name parts units = All-map (λ (p : Part). IsWithin 1 p.coefficient) (renamed name) parts units

few_sizes : (parts : List Part) → AreWithin 3 parts → sizes parts ≤ 3 * length parts
few_sizes [] within = omega arith
few_sizes (part ∷ parts) within =
    let here = size_within 3 part.coefficient (All-head (λ (p : Part). IsWithin 3 p.coefficient) part parts within) in
    let rest = few_sizes parts (All-tail (λ (p : Part). IsWithin 3 p.coefficient) part parts within) in
    let both = sizes-cons part parts in
    omega (arith, here, rest, both)

size_of : (n : ℤ) → is_within ROW_SIZE ROW_SIZE n ≡ true → size n ≤ ROW_SIZE
size_of (pos n) is = grind (arith, nat_tests)
size_of (negsuc n) is = grind (arith, nat_tests)

-- the parts of a row of a small sum
pub parts_few : (piece : Piece) (row : Row) → IsSmallSum row.parts → AreFew 3 (row_in_piece piece row).parts
parts_few piece row small =
    let name = symbol_of piece in
    let short = small.few in
    let many = length-map row.parts (renamed name) in
    all_few 0 3 [] (map (renamed name) row.parts) (omega (arith, short, many))
    (record { few = omega arith; within = All-nil (λ (p : Part). IsWithin 0 p.coefficient) }) (renamed_units name row.parts small.units)

placed_bounded : (piece : Piece) (row : Row) → IsSmallSum row.parts → is_within ROW_SIZE ROW_SIZE row.constant ≡ true → IsBounded (row_in_piece piece row)
placed_bounded piece row small constant =
    let parts = parts_few piece row small in
    let few = parts.few in
    let sum = few_sizes (row_in_piece piece row).parts parts.within in
    record {
      parts = omega (arith, few);
      constant = within_size (2 ^ 45) row.constant (let least = size_of row.constant constant in omega (arith, least));
      coefficients = omega (arith, few, sum);
    }

-- what holds of each image that passes a test holds of all that are kept
pub kept_hold : {X Y : Type 0} (Q : X → Type 0) (P : Y → Type 0) (test : Y → Bool) (f : X → Y) (xs : List X) → ((x : X) → Q x → test (f x) ≡ true → P (f x))
    → All Q xs → All P (filter test (map f xs))
kept_hold Q P test f [] shows all = All-nil P
kept_hold {X} {Y} Q P test f (x ∷ xs) shows all =
    let rest = kept_hold Q P test f xs shows (All-tail Q x xs all) in
    elim (test (f x)) as (λ (b : Bool). test (f x) ≡ b → All P (cond b (f x ∷ filter test (map f xs)) (filter test (map f xs)))) [
      | true ↦ λ passes. All-cons P (f x) (filter test (map f xs)) (shows x (All-head Q x xs all) passes) rest
      | false ↦ λ _. rest
    ] refl

filter_both : {X : Type 0} (P : X → Type 0) (test : X → Bool) (xs ys : List X) → All P (filter test xs) → All P (filter test ys) → All P (filter test (xs ++ ys))
filter_both P test [] ys a b = b
filter_both {X} P test (x ∷ xs) ys a b =
    elim (test x) as (λ (t : Bool). All P (cond t (x ∷ filter test xs) (filter test xs)) → All P (cond t (x ∷ filter test (xs ++ ys)) (filter test (xs ++ ys)))) [
      | true ↦ λ all. All-cons P x (filter test (xs ++ ys)) (All-head P x (filter test xs) all) (filter_both P test xs ys (All-tail P x (filter test xs) all) b)
      | false ↦ λ all. filter_both P test xs ys all b
    ] a

-- each row of a case, by what holds of those of small sums that are wanted
pub rows_hold : (P : Row → Type 0) (S : List Part → Type 0) (admits : Cond) (start : State) (states : List State) (piece : Piece) (sums : List (List Part))
    → ((sum : List Part) → S sum → All P (filter (is_wanted admits start) (map (row_in_piece piece) (rows_of_sum admits states sum))))
    → All S sums → All P (filter (is_wanted admits start) (flat_map (λ sum. map (row_in_piece piece) (rows_of_sum admits states sum)) sums))
rows_hold P S admits start states piece [] shows all = All-nil P
rows_hold P S admits start states piece (sum ∷ sums) shows all =
    filter_both P (is_wanted admits start) (map (row_in_piece piece) (rows_of_sum admits states sum))
    (flat_map (λ sum. map (row_in_piece piece) (rows_of_sum admits states sum)) sums)
    (shows sum (All-head S sum sums all))
    (rows_hold P S admits start states piece sums shows (All-tail S sum sums all))

sum_rows_bounded : (admits : Cond) (start : State) (states : List State) (piece : Piece) (sum : List Part) → IsSmallSum sum
    → All IsBounded (filter (is_wanted admits start) (map (row_in_piece piece) (rows_of_sum admits states sum)))
sum_rows_bounded admits start states piece sum small =
    kept_hold (HasSum IsSmallSum) IsBounded (is_wanted admits start) (row_in_piece piece) (rows_of_sum admits states sum)
    (λ row few wanted. placed_bounded piece row few
    ((and_parts (is_within ROW_SIZE ROW_SIZE row.constant) (not (is_said admits start (row_in_piece piece row))) wanted).0))
    (rows_sums IsSmallSum admits states sum small (negated_small sum small))

-- the rows of small sums are within their bounds
pub rows_bounded : (style : Style) (admits : Cond) (whole at_entry : Bool) (sums : List (List Part)) (states : List State) (piece : Piece) → All IsSmallSum sums
    → All IsBounded (rows_over style admits whole at_entry sums states piece)
rows_bounded style admits whole at_entry sums states piece small =
    let start = started style admits (piece ∷ []) whole at_entry in
    All-take IsBounded MOST_ITEMS (filter (is_wanted admits start) (flat_map (λ sum. map (row_in_piece piece) (rows_of_sum admits states sum)) sums))
    (rows_hold IsBounded IsSmallSum admits start states piece sums (sum_rows_bounded admits start states piece) small)
