-- What a reference says holds by every assignment that satisfies the state.
use Rattle.std.proofs.Common.{◌≡◌, ℕ, zero, suc, ◌≤◌, ◌<◌, Bool, true, false, cond, ap, subst, refl, List, [], ◌∷◌, length, arith, nat_lt, Option, None, Some, slice_get}
use Rattle.std.specs.Prelude.{ℤ, pos, negsuc, neg_ℤ, ◌+ℤ◌, ◌*ℤ◌, ◌≤ℤ◌}
use Rattle.std.specs.List.{AllByRecursion}
use Rattle.std.specs.Option.{option_map, option_and_then}
use Rattle.std.proofs.lemmas.Int.{ints}
use Rattle.std.proofs.lemmas.Bool.{leb-true}
use Rattle.std.proofs.lemmas.List.Elements.{All-nil, All-cons}
use borrow.Author.Differences.{product_is}
use Rattle.lin_facts.specs.Rows.{Assignment, Holds}
use Rattle.lin_facts.specs.Follows.{row_at, UsedHold}
use Rattle.lin_facts.specs.declared.row.Term.{Term}
use Rattle.lin_facts.specs.declared.row.Term.TheVariants.{Value as ValueOf, Length as LengthOf, Names as NamesOf, Pos, Count}
use Rattle.lin_facts.specs.declared.row.Row.{Row}
use Rattle.lin_facts.specs.declared.row.StepUse.{StepUse}
use Rattle.name_split.specs.Names.{names_of}
use Rattle.name_table.specs.declared.style.Style.{Style}
use Rattle.bst_meaning.specs.declared.condition.Cond.{Cond}
use Rattle.bst_meaning.specs.declared.value.Value.{Value}
use Rattle.bst_meaning.specs.declared.value.Value.TheVariants.{Int, Str}
use Rattle.bst_meaning.specs.Operands.{has_32_bits}
use Rattle.sym_state.specs.declared.proof.Reference.{Reference}
use Rattle.sym_state.specs.declared.proof.Reference.TheVariants as ref
use Rattle.sym_state.specs.declared.proof.Use.{Use}
use Rattle.sym_state.specs.State.{State}
use Rattle.sym_state.specs.Symbols.{Valuation, IsValue, integer_of, length_of, name_count_of, numbers}
use Rattle.sym_state.specs.Facts.{emptiness}
use Rattle.sym_state.specs.Decided.{exact_integer, exact_text, is_known_nonblank}
use Rattle.sym_state.specs.References.{at_least, at_most, exceeds, row_said, rows_said}
use Rattle.sym_state.specs.Stands.{Satisfies}
use Rattle.sym_state.proofs.Counting.{names_at_most, names_at_least}
use Rattle.sym_state.proofs.Deciding.{exact_integer_is, exact_text_is, nonblank_is}

-- a term once, and once less
pub once : (x : ℤ) → pos 1 *ℤ x ≡ x
once x = omega (arith, ints, product_is (pos 1) x)

pub minus : (x : ℤ) → negsuc 0 *ℤ x ≡ neg_ℤ x
minus x = omega (arith, ints, product_is (negsuc 0) x)

pub at_least_holds : (a : Assignment) (t : Term) (n : ℤ) → n ≤ℤ a t → Holds a (at_least t n)
at_least_holds a t n h = omega (arith, ints, once (a t))

pub at_most_holds : (a : Assignment) (t : Term) (n : ℤ) → a t ≤ℤ n → Holds a (at_most t n)
at_most_holds a t n h = omega (arith, ints, minus (a t))

pub exceeds_holds : (a : Assignment) (g l : Term) (n : ℤ) → (a l +ℤ n) ≤ℤ a g → Holds a (exceeds g l n)
exceeds_holds a g l n h = omega (arith, ints, once (a g), minus (a l))

-- integers of values have 32 bits
bits : (n : ℤ) → has_32_bits n ≡ true → (negsuc 2147483647 ≤ℤ n) × (n ≤ℤ pos 2147483647)
bits (pos k) e = let h = leb-true k 2147483647 e in (omega (arith, ints), omega (arith, ints))
bits (negsuc k) e = let h = leb-true k 2147483647 e in (omega (arith, ints), omega (arith, ints))

integer_low : (value : Value) → IsValue value → negsuc 2147483647 ≤ℤ integer_of value
integer_low (Int n) h = (bits n h).0
integer_low _ h = omega (arith, ints)

integer_high : (value : Value) → IsValue value → integer_of value ≤ℤ pos 2147483647
integer_high (Int n) h = (bits n h).1
integer_high _ h = omega (arith, ints)

length_low : (value : Value) → pos 0 ≤ℤ length_of value
length_low (Str bytes) = omega (arith, ints)
length_low _ = omega (arith, ints)

names_low : (value : Value) → pos 0 ≤ℤ name_count_of value
names_low (Str bytes) = omega (arith, ints)
names_low _ = omega (arith, ints)

names_high : (value : Value) → (name_count_of value +ℤ pos 0) ≤ℤ length_of value
names_high (Str bytes) = let few = names_at_most bytes in omega (arith, ints)
names_high _ = omega (arith, ints)

-- what `empty$` gives 0 for is a string with a byte and a name
not_empty : (value : Value) → emptiness value ≡ Some false → (pos 1 ≤ℤ length_of value) × (pos 1 ≤ℤ name_count_of value)
not_empty (Str []) e = absurd (cc)
not_empty (Str (b ∷ bytes)) e =
    let one : 1 ≤ length (b ∷ bytes) = omega arith in
    let named : 1 ≤ length (names_of (b ∷ bytes)) = names_at_least (b ∷ bytes) one in
    (omega (arith, ints), omega (arith, ints))
not_empty _ e = absurd (cc)

-- a row on a symbol is there where the symbol is the state's
there : {X : Type 0} (b : Bool) (row : Option X) (r : X) → cond b row None ≡ Some r → row ≡ Some r
there true row r e = e
there false row r e = absurd (cc)

here : (a : Assignment) (row : Row) → Holds a row → (r : Row) → Some row ≡ Some r → Holds a r
here a row h r e = let same : row ≡ r = cc in subst (λ (x : Row). Holds a x) same h

mapped : {X : Type 0} (a : Assignment) (f : X → Row) (o : Option X) (r : Row) → ((x : X) → o ≡ Some x → Holds a (f x)) → option_map f o ≡ Some r → Holds a r
mapped a f (Some x) r h e = here a (f x) (h x refl) r e
mapped a f None r h e = absurd (cc)

in_list : (a : Assignment) (rows : List Row) (k : ℕ) (r : Row) → AllByRecursion (Holds a) rows → slice_get rows k ≡ Some r → Holds a r
in_list a [] k r all e = absurd (cc)
in_list a (row ∷ rows) zero r all e = here a row all.0 r e
in_list a (row ∷ rows) (suc k) r all e = in_list a rows k r all.1 e

same_low : (x n : ℤ) → x ≡ n → n ≤ℤ x
same_low x n e = omega (arith, ints)

same_high : (x n : ℤ) → x ≡ n → x ≤ℤ n
same_high x n e = omega (arith, ints)

-- a symbol known nonblank
nonblank_row : (a : Assignment) (t : Term) (known : Bool) (r : Row) → (known ≡ true → pos 1 ≤ℤ a t) → cond known (Some (at_least t (pos 1))) None ≡ Some r → Holds a r
nonblank_row a t true r h e = here a (at_least t (pos 1)) (at_least_holds a t (pos 1) (h refl)) r e
nonblank_row a t false r h e = absurd (cc)

at_entry_row : (a : Assignment) (at_entry : Bool) (row r : Row) → (at_entry ≡ true → Holds a row) → cond at_entry (Some row) None ≡ Some r → Holds a r
at_entry_row a true row r h e = here a row (h refl) r e
at_entry_row a false row r h e = absurd (cc)

below : (m n : ℕ) → m < n → (pos m +ℤ pos 1) ≤ℤ pos n
below m n h = omega (arith, ints)

-- each reference says a row that holds
pub row_holds : (style : Style) (admits : Cond) (v : Valuation) (state : State) (reference : Reference) (row : Row)
    → Satisfies style admits v state → row_said admits state reference ≡ Some row → Holds (numbers v) row
row_holds style admits v state (ref.Row k) row h e = in_list (numbers v) state.rows k row h.rows e
row_holds style admits v state (ref.ValueLow s) row h e =
    here (numbers v) _ (at_least_holds (numbers v) (ValueOf s.0) (negsuc 2147483647) (integer_low (v.value s.0) (h.values s.0))) row (there (nat_lt s.0 state.next) _ row e)
row_holds style admits v state (ref.ValueHigh s) row h e =
    here (numbers v) _ (at_most_holds (numbers v) (ValueOf s.0) (pos 2147483647) (integer_high (v.value s.0) (h.values s.0))) row (there (nat_lt s.0 state.next) _ row e)
row_holds style admits v state (ref.LengthLow s) row h e =
    here (numbers v) _ (at_least_holds (numbers v) (LengthOf s.0) (pos 0) (length_low (v.value s.0))) row (there (nat_lt s.0 state.next) _ row e)
row_holds style admits v state (ref.NamesLow s) row h e =
    here (numbers v) _ (at_least_holds (numbers v) (NamesOf s.0) (pos 0) (names_low (v.value s.0))) row (there (nat_lt s.0 state.next) _ row e)
row_holds style admits v state (ref.NamesHigh s) row h e =
    here (numbers v) _ (exceeds_holds (numbers v) (LengthOf s.0) (NamesOf s.0) (pos 0) (names_high (v.value s.0))) row (there (nat_lt s.0 state.next) _ row e)
row_holds style admits v state (ref.ExactLow s) row h e =
    mapped (numbers v) (at_least (ValueOf s.0)) (exact_integer state.facts s.0) row
    (λ n found. at_least_holds (numbers v) (ValueOf s.0) n (same_low (integer_of (v.value s.0)) n (ap integer_of (exact_integer_is style v s.0 state.facts n h.facts found))))
    (there (nat_lt s.0 state.next) _ row e)
row_holds style admits v state (ref.ExactHigh s) row h e =
    mapped (numbers v) (at_most (ValueOf s.0)) (exact_integer state.facts s.0) row
    (λ n found. at_most_holds (numbers v) (ValueOf s.0) n (same_high (integer_of (v.value s.0)) n (ap integer_of (exact_integer_is style v s.0 state.facts n h.facts found))))
    (there (nat_lt s.0 state.next) _ row e)
row_holds style admits v state (ref.NonblankLength s) row h e =
    nonblank_row (numbers v) (LengthOf s.0) (is_known_nonblank state.facts s.0) row
    (λ known. (not_empty (v.value s.0) (nonblank_is style v s.0 state.facts h.facts known)).0) (there (nat_lt s.0 state.next) _ row e)
row_holds style admits v state (ref.NonblankNames s) row h e =
    nonblank_row (numbers v) (NamesOf s.0) (is_known_nonblank state.facts s.0) row
    (λ known. (not_empty (v.value s.0) (nonblank_is style v s.0 state.facts h.facts known)).1) (there (nat_lt s.0 state.next) _ row e)
row_holds style admits v state (ref.TextLow s) row h e =
    mapped (numbers v) (λ text. at_least (LengthOf s.0) (pos (length text))) (exact_text state.facts s.0) row
    (λ text found. at_least_holds (numbers v) (LengthOf s.0) (pos (length text)) (same_low (length_of (v.value s.0)) (pos (length text)) (ap length_of (exact_text_is style v s.0 state.facts text h.facts found))))
    (there (nat_lt s.0 state.next) _ row e)
row_holds style admits v state (ref.TextHigh s) row h e =
    mapped (numbers v) (λ text. at_most (LengthOf s.0) (pos (length text))) (exact_text state.facts s.0) row
    (λ text found. at_most_holds (numbers v) (LengthOf s.0) (pos (length text)) (same_high (length_of (v.value s.0)) (pos (length text)) (ap length_of (exact_text_is style v s.0 state.facts text h.facts found))))
    (there (nat_lt s.0 state.next) _ row e)
row_holds style admits v state ref.PosLow row h e =
    at_entry_row (numbers v) state.at_entry (at_least Pos (pos 0)) row (λ entered. at_least_holds (numbers v) Pos (pos 0) (omega (arith, ints))) e
row_holds style admits v state ref.PosHigh row h e =
    at_entry_row (numbers v) state.at_entry (exceeds Count Pos (pos 1)) row
    (λ entered. exceeds_holds (numbers v) Count Pos (pos 1) (below v.position v.count (h.position entered))) e
row_holds style admits v state ref.CountLow row h e =
    here (numbers v) _ (at_least_holds (numbers v) Count (pos 0) (omega (arith, ints))) row e
row_holds style admits v state ref.CountHigh row h e =
    let few = h.count in here (numbers v) _ (at_most_holds (numbers v) Count (pos admits.entries) (omega (arith, ints))) row e

-- all rows of a proof's references hold
pub rows_hold : (style : Style) (admits : Cond) (v : Valuation) (state : State) (uses : List Use) (rows : List Row)
    → Satisfies style admits v state → rows_said admits state uses ≡ Some rows → AllByRecursion (Holds (numbers v)) rows
rows_hold style admits v state [] [] h e = tt
rows_hold style admits v state [] (row ∷ rows) h e = absurd (cc)
rows_hold style admits v state (first ∷ uses) rows h e =
    elim (row_said admits state first.reference) as (λ (o : Option Row). row_said admits state first.reference ≡ o
    → option_and_then (λ row. option_map (λ others. row ∷ others) (rows_said admits state uses)) o ≡ Some rows → AllByRecursion (Holds (numbers v)) rows) [
      | None ↦ λ is found. absurd (cc)
      | Some row ↦ λ is found. elim (rows_said admits state uses) as (λ (o : Option (List Row)). rows_said admits state uses ≡ o
          → option_map (λ others. row ∷ others) o ≡ Some rows → AllByRecursion (Holds (numbers v)) rows) [
            | None ↦ λ none found. absurd (cc)
            | Some others ↦ λ some found.
                let same : row ∷ others ≡ rows = cc in
                subst (λ (all : List Row). AllByRecursion (Holds (numbers v)) all) same
                (row_holds style admits v state first.reference row h is, rows_hold style admits v state uses others h some)
          ] refl found
    ] refl e

-- no row that is read past the end is false
any_row : (a : Assignment) (rows : List Row) (k : ℕ) → AllByRecursion (Holds a) rows → Holds a (row_at rows k)
any_row a [] k all = omega (arith, ints)
any_row a (row ∷ rows) zero all = all.0
any_row a (row ∷ rows) (suc k) all = any_row a rows k all.1

pub used_hold : (a : Assignment) (rows : List Row) (uses : List StepUse) → AllByRecursion (Holds a) rows → UsedHold a rows uses
used_hold a rows [] all = All-nil (λ u. Holds a (row_at rows u.row))
used_hold a rows (u ∷ uses) all = All-cons (λ u. Holds a (row_at rows u.row)) u uses (any_row a rows u.row all) (used_hold a rows uses all)
