-- The effects of `num.names$`, `text.length$` and `width$` cover the machine.
use Rattle.std.proofs.Common.{◌≡◌, ℕ, ◌*◌, List, [], ◌∷◌, length, refl, ap, ◌∙◌, arith, true}
use Rattle.std.specs.Prelude.{ℤ, pos, negsuc, neg_ℤ, ◌*ℤ◌}
use Rattle.std.proofs.lemmas.Int.{ints}
use borrow.Author.Differences.{product_is}
use Rattle.lin_facts.specs.declared.row.Term.TheVariants.{Value as ValueOf, Length as LengthOf, Names as NamesOf}
use Rattle.lin_facts.proofs.Integers.{zero_mul}
use Rattle.name_split.specs.Names.{names_of}
use Rattle.name_table.specs.declared.builtin.Builtin.TheVariants as op
use Rattle.text_ops.specs.TextLength.{text_length_of}
use Rattle.text_ops.specs.Width.{width_of}
use Rattle.bst_meaning.specs.declared.value.Value.{Value}
use Rattle.bst_meaning.specs.declared.value.Value.TheVariants.{Int as IntValue, Str as StrValue}
use Rattle.bst_meaning.specs.Effect.{pushed}
use Rattle.sym_state.specs.declared.symbol.Kinds.TheVariants.{Int}
use Rattle.sym_state.specs.declared.symbol.Sym.{Sym}
use Rattle.sym_state.specs.References.{at_least, at_most, exceeds}
use Rattle.sym_state.specs.Results.{sum_of_two, with_result}
use Rattle.sym_state.specs.Symbols.{length_of, name_count_of, numbers}
use Rattle.sym_state.proofs.Pushing.{without}
use Rattle.sym_state.proofs.RowSums.{at_most_says, two_holds, two_says}
use Rattle.sym_state.proofs.Saying.{at_least_holds, exceeds_holds, minus}
use Rattle.sym_state.proofs.Spots.{Spot}
use Rattle.builtin_effects.proofs.Covering.{CoversAt, after_value, lower, one_then, put, row_met, term_new_value, term_old, CoversOf, around}
use Rattle.builtin_effects.proofs.Integers.{in_range, number_bits}
use Rattle.builtin_effects.proofs.OperandValues.{TextTaken, text_taken}
use Rattle.builtin_effects.proofs.TextSizes.{text_length_shorter, width_bounded}
use Rattle.std.specs.List.{AllByRecursion}
use Rattle.lin_facts.specs.Rows.{Holds}
use Rattle.lin_facts.specs.declared.row.Row.{Row}
use Rattle.name_table.specs.declared.builtin.Builtin.{Builtin}
use Rattle.bst_meaning.specs.Builtins.{built_in}
use Rattle.bst_meaning.specs.Operands.{has_32_bits, ranged}

-- a number is put on top that has 32 bits, as a step shows
counted : (s : Spot) (o : Builtin) (a : Sym) (rest : List Sym) (n : ℕ) (rows : List Row) → (t : TextTaken s a rest) → has_32_bits (pos n) ≡ true
    → built_in o (around s) (StrValue t.known.bytes ∷ lower s rest) ≡ ranged (pos n) (lower s rest)
    → AllByRecursion (Holds (numbers (after_value s (IntValue (pos n))))) rows → CoversAt s o (with_result Int [] rows (without rest s.state))
counted s o a rest n rows t bits machine hold =
    put s o rest Int [] rows (IntValue (pos n)) t.others
    (one_then s o a rest (StrValue t.known.bytes) (pushed (IntValue (pos n)) (lower s rest)) t.tops t.known.is (machine ∙ in_range (pos n) (lower s rest) bits))
    bits refl tt hold

pub num_names_covers : (s : Spot) → CoversOf s op.NumNames
num_names_covers s = λ a rest tops met enough.
    let t = text_taken s a rest tops met in
    let r = ValueOf s.state.next in
    let names = NamesOf a.0 in
    let n : ℕ = length (names_of t.known.bytes) in
    let count_is : numbers s.v names ≡ pos n = ap name_count_of t.known.is in
    let most = at_most_says (numbers s.v) names (pos 2147483647) (row_met s (at_most names (pos 2147483647)) enough) in
    let value : Value = IntValue (pos n) in
    let w = numbers (after_value s value) in
    let wr : w r ≡ pos n = term_new_value s value in
    let wn : w names ≡ pos n = term_old s value names t.old ∙ count_is in
    counted s op.NumNames a rest n (exceeds r names (pos 0) ∷ exceeds names r (pos 0) ∷ []) t (number_bits n (omega (arith, ints, most, count_is))) refl
    (exceeds_holds w r names (pos 0) (omega (arith, ints, wr, wn)), (exceeds_holds w names r (pos 0) (omega (arith, ints, wr, wn)), tt))

pub text_length_covers : (s : Spot) → CoversOf s op.TextLength
text_length_covers s = λ a rest tops met enough.
    let t = text_taken s a rest tops met in
    let r = ValueOf s.state.next in
    let bytes = LengthOf a.0 in
    let n : ℕ = text_length_of t.known.bytes in
    let few = text_length_shorter t.known.bytes in
    let length_is : numbers s.v bytes ≡ pos (length t.known.bytes) = ap length_of t.known.is in
    let most = at_most_says (numbers s.v) bytes (pos 2147483647) (row_met s (at_most bytes (pos 2147483647)) enough) in
    let value : Value = IntValue (pos n) in
    let w = numbers (after_value s value) in
    let wr : w r ≡ pos n = term_new_value s value in
    let wl : w bytes ≡ pos (length t.known.bytes) = term_old s value bytes t.old ∙ length_is in
    counted s op.TextLength a rest n (at_least r (pos 0) ∷ exceeds bytes r (pos 0) ∷ []) t (number_bits n (omega (arith, ints, most, length_is, few))) refl
    (at_least_holds w r (pos 0) (omega (arith, ints, wr)), (exceeds_holds w bytes r (pos 0) (omega (arith, ints, wr, wl, few)), tt))

-- a width in units of a byte's greatest one
scaled : (n : ℕ) → pos 1028 *ℤ pos n ≡ pos (1028 * n)
scaled n = omega (arith, ints, product_is (pos 1028) (pos n))

scaled_back : (n : ℕ) → negsuc 1027 *ℤ pos n ≡ neg_ℤ (pos (1028 * n))
scaled_back n = omega (arith, ints, product_is (negsuc 1027) (pos n))

pub width_covers : (s : Spot) → CoversOf s op.Width
width_covers s = λ a rest tops met enough.
    let t = text_taken s a rest tops met in
    let r = ValueOf s.state.next in
    let bytes = LengthOf a.0 in
    let within = sum_of_two (pos 2147483647) (negsuc 1027) bytes (pos 0) bytes in
    let n : ℕ = width_of t.known.bytes in
    let l : ℕ = length t.known.bytes in
    let few = width_bounded t.known.bytes in
    let length_is : numbers s.v bytes ≡ pos l = ap length_of t.known.is in
    let wide : negsuc 1027 *ℤ numbers s.v bytes ≡ neg_ℤ (pos (1028 * l)) = ap (λ (k : ℤ). negsuc 1027 *ℤ k) length_is ∙ scaled_back l in
    let none = zero_mul (numbers s.v bytes) in
    let most = two_says (numbers s.v) (pos 2147483647) (negsuc 1027) bytes (pos 0) bytes (row_met s within enough) in
    let value : Value = IntValue (pos n) in
    let w = numbers (after_value s value) in
    let wr : w r ≡ pos n = term_new_value s value in
    let wl : w bytes ≡ pos l = term_old s value bytes t.old ∙ length_is in
    let whole : pos 1028 *ℤ w bytes ≡ pos (1028 * l) = ap (λ (k : ℤ). pos 1028 *ℤ k) wl ∙ scaled l in
    counted s op.Width a rest n (at_least r (pos 0) ∷ sum_of_two (pos 0) (pos 1028) bytes (negsuc 0) r ∷ []) t
    (number_bits n (omega (arith, ints, most, wide, none, few))) refl (
      at_least_holds w r (pos 0) (omega (arith, ints, wr)),
      (two_holds w (pos 0) (pos 1028) bytes (negsuc 0) r (omega (arith, ints, wr, whole, few, minus (w r))), tt),
    )
