-- The effects of `chr.to.int$`, `int.to.chr$` and `int.to.str$` cover the machine.
use Rattle.std.proofs.Common.{◌≡◌, ℕ, ◌<◌, Bool, true, cond, List, [], ◌∷◌, length, reverse, Option, None, Some, Err, refl, sym, ap, subst, ◌∙◌, lt-ltb, arith}
use Rattle.std.specs.Prelude.{ℤ, pos, negsuc, ◌≤ℤ◌}
use Rattle.std.proofs.lemmas.Int.{ints}
use Rattle.lin_facts.specs.declared.row.Term.TheVariants.{Value as ValueOf, Length as LengthOf}
use Rattle.name_table.specs.declared.builtin.Builtin.TheVariants as op
use Rattle.bst_meaning.specs.declared.fault.Fault.TheVariants.{NotAscii as BeyondAscii}
use Rattle.bst_meaning.specs.declared.value.Value.{Value}
use Rattle.bst_meaning.specs.declared.value.Value.TheVariants.{Int as IntValue, Str as StrValue}
use Rattle.bst_meaning.specs.Builtins.{built_in, byte_string}
use Rattle.bst_meaning.specs.Effect.{pushed}
use Rattle.bst_meaning.specs.Entries.{IsByteList}
use Rattle.bst_meaning.specs.Operands.{has_32_bits}
use Rattle.text_ops.specs.IntToStr.{numeral}
use Rattle.sym_state.specs.declared.symbol.Fact.TheVariants.{Int as IntFact, Nonblank}
use Rattle.sym_state.specs.declared.symbol.Kinds.TheVariants.{Int, Str}
use Rattle.sym_state.specs.declared.symbol.Sym.{Sym}
use Rattle.sym_state.specs.Decided.{exact_text}
use Rattle.sym_state.specs.Effects.{byte_number, one_byte}
use Rattle.sym_state.specs.Facts.{emptiness}
use Rattle.sym_state.specs.References.{at_least, at_most}
use Rattle.sym_state.specs.Results.{next_of}
use Rattle.sym_state.specs.Symbols.{integer_of, length_of, numbers}
use Rattle.sym_state.proofs.Deciding.{exact_text_is}
use Rattle.sym_state.proofs.Pushing.{without}
use Rattle.sym_state.proofs.RowSums.{at_least_says, at_most_says}
use Rattle.sym_state.proofs.Saying.{at_least_holds, at_most_holds}
use Rattle.sym_state.proofs.Spots.{Spot}
use Rattle.bst_meaning.proofs.ByteTexts.{numeral_bytes}
use Rattle.builtin_effects.proofs.Covering.{after_value, around, lower, one_given, one_then, put, row_met, term_new_length, term_new_value, value_new, CoversBy, CoversOf}
use Rattle.builtin_effects.proofs.Integers.{number_bits}
use Rattle.builtin_effects.proofs.OperandValues.{TextTaken, number_taken, text_taken}
use Rattle.builtin_effects.proofs.TextSizes.{numeral_nonblank, numeral_sizes}

-- a text of one byte
record OneByte (bytes : List ℕ) : Type 0 where
  pub byte : ℕ
  pub is : bytes ≡ byte ∷ []

has_one_byte : (bytes : List ℕ) → pos 1 ≤ℤ pos (length bytes) → pos (length bytes) ≤ℤ pos 1 → OneByte bytes
has_one_byte [] low high = absurd (omega (arith, ints, low))
has_one_byte (b ∷ []) low high = record { byte = b; is = refl }
has_one_byte (b ∷ (c ∷ bytes)) low high = absurd (omega (arith, ints, high))

one_byte_is : (found : Option (List ℕ)) (b : ℕ) → one_byte found ≡ Some b → found ≡ Some (b ∷ [])
one_byte_is (Some (c ∷ [])) b e = let same : c ≡ b = cc in ap (λ (k : ℕ). Some (k ∷ [])) same
one_byte_is _ b e = absurd (cc)

byte_bits : (b : ℕ) → b < 256 → has_32_bits (pos b) ≡ true
byte_bits b less = number_bits b (omega (arith, less))

-- `chr.to.int$` of a string whose one byte is b
one_byte_pushed : (s : Spot) (a : Sym) (rest : List Sym) (b : ℕ) → reverse s.state.stack ≡ a ∷ rest → s.v.value a.0 ≡ StrValue (b ∷ [])
    → built_in op.ChrToInt (around s) s.c.stack ≡ pushed (IntValue (pos b)) (lower s rest)
one_byte_pushed s a rest b tops is = one_given s op.ChrToInt a rest (StrValue (b ∷ [])) tops is

first_below : (b : ℕ) (bytes : List ℕ) → IsByteList bytes → bytes ≡ b ∷ [] → b < 256
first_below b bytes fine is = let all : IsByteList (b ∷ []) = subst (λ (l : List ℕ). IsByteList l) is fine in all.0

exact_byte : (s : Spot) (a : Sym) (rest : List Sym) (b : ℕ) → (t : TextTaken s a rest) → exact_text s.state.facts a.0 ≡ Some (b ∷ [])
    → CoversBy s op.ChrToInt (byte_number a (without rest s.state) (Some b))
exact_byte s a rest b t exact =
    let value_is = exact_text_is s.style s.v a.0 s.state.facts (b ∷ []) s.stands.satisfied.facts exact in
    let same : StrValue t.known.bytes ≡ StrValue (b ∷ []) = sym t.known.is ∙ value_is in
    let bytes_are : t.known.bytes ≡ b ∷ [] = cc in
    let value : Value = IntValue (pos b) in
    put s op.ChrToInt rest Int (IntFact (next_of s.state) (pos b) ∷ []) [] value t.others (one_byte_pushed s a rest b t.tops value_is)
    (byte_bits b (first_below b t.known.bytes t.known.fine bytes_are)) refl (value_new s value, tt) tt

shown_byte : (s : Spot) (a : Sym) (rest : List Sym) → TextTaken s a rest → CoversBy s op.ChrToInt (byte_number a (without rest s.state) None)
shown_byte s a rest t = λ low high.
    let r = ValueOf s.state.next in
    let bytes : List ℕ = t.known.bytes in
    let length_is : numbers s.v (LengthOf a.0) ≡ pos (length bytes) = ap length_of t.known.is in
    let least = at_least_says (numbers s.v) (LengthOf a.0) (pos 1) (row_met s (at_least (LengthOf a.0) (pos 1)) low) in
    let most = at_most_says (numbers s.v) (LengthOf a.0) (pos 1) (row_met s (at_most (LengthOf a.0) (pos 1)) high) in
    let one = has_one_byte bytes (subst (λ (k : ℤ). pos 1 ≤ℤ k) length_is least) (subst (λ (k : ℤ). k ≤ℤ pos 1) length_is most) in
    let b : ℕ = one.byte in
    let less = first_below b bytes t.known.fine one.is in
    let value : Value = IntValue (pos b) in
    let w = numbers (after_value s value) in
    let wr : w r ≡ pos b = term_new_value s value in
    put s op.ChrToInt rest Int [] (at_least r (pos 0) ∷ at_most r (pos 255) ∷ []) value t.others
    (one_byte_pushed s a rest b t.tops (t.known.is ∙ ap (λ (l : List ℕ). StrValue l) one.is)) (byte_bits b less) refl tt
    (at_least_holds w r (pos 0) (omega (arith, ints, wr)), (at_most_holds w r (pos 255) (omega (arith, ints, wr, less)), tt))

pub chr_to_int_covers : (s : Spot) → CoversOf s op.ChrToInt
chr_to_int_covers s = λ a rest tops met.
    let t = text_taken s a rest tops met in
    elim (one_byte (exact_text s.state.facts a.0)) as (λ (o : Option ℕ). one_byte (exact_text s.state.facts a.0) ≡ o
    → CoversBy s op.ChrToInt (byte_number a (without rest s.state) o)) [
      | Some b ↦ λ is. exact_byte s a rest b t (one_byte_is (exact_text s.state.facts a.0) b is)
      | None ↦ λ is. shown_byte s a rest t
    ] refl

-- `int.to.chr$`
record Ascii (n : ℤ) : Type 0 where
  pub byte : ℕ
  pub is : n ≡ pos byte
  pub below : byte < 128

is_ascii : (n : ℤ) → pos 0 ≤ℤ n → n ≤ℤ pos 127 → Ascii n
is_ascii (pos k) low high = record { byte = k; is = refl; below = omega (arith, ints, high) }
is_ascii (negsuc k) low high = absurd (omega (arith, ints, low))

ascii_pushed : (b : ℕ) (stack : List Value) → b < 128 → byte_string (pos b) stack ≡ pushed (StrValue (b ∷ [])) stack
ascii_pushed b stack less = ap (λ (t : Bool). cond t (pushed (StrValue (b ∷ [])) stack) (Err BeyondAscii)) (lt-ltb b 128 less)

pub int_to_chr_covers : (s : Spot) → CoversOf s op.IntToChr
int_to_chr_covers s = λ a rest tops met low high.
    let t = number_taken s a rest tops met in
    let r = LengthOf s.state.next in
    let number_is : numbers s.v (ValueOf a.0) ≡ t.known.n = ap integer_of t.known.is in
    let least = at_least_says (numbers s.v) (ValueOf a.0) (pos 0) (row_met s (at_least (ValueOf a.0) (pos 0)) low) in
    let most = at_most_says (numbers s.v) (ValueOf a.0) (pos 127) (row_met s (at_most (ValueOf a.0) (pos 127)) high) in
    let ascii = is_ascii t.known.n (subst (λ (k : ℤ). pos 0 ≤ℤ k) number_is least) (subst (λ (k : ℤ). k ≤ℤ pos 127) number_is most) in
    let b : ℕ = ascii.byte in
    let value : Value = StrValue (b ∷ []) in
    let w = numbers (after_value s value) in
    let wr : w r ≡ pos 1 = term_new_length s value in
    let byte_is : s.v.value a.0 ≡ IntValue (pos b) = t.known.is ∙ ap (λ (k : ℤ). IntValue k) ascii.is in
    put s op.IntToChr rest Str [] (at_least r (pos 1) ∷ at_most r (pos 1) ∷ []) value t.others
    (one_then s op.IntToChr a rest (IntValue (pos b)) (pushed value (lower s rest)) tops byte_is (ascii_pushed b (lower s rest) ascii.below))
    (omega (arith, ascii.below), tt) refl tt
    (at_least_holds w r (pos 1) (omega (arith, ints, wr)), (at_most_holds w r (pos 1) (omega (arith, ints, wr)), tt))

-- `int.to.str$`
pub int_to_str_covers : (s : Spot) → CoversOf s op.IntToStr
int_to_str_covers s = λ a rest tops met.
    let t = number_taken s a rest tops met in
    let r = LengthOf s.state.next in
    let n : ℤ = t.known.n in
    let value : Value = StrValue (numeral n) in
    let w = numbers (after_value s value) in
    let wr : w r ≡ pos (length (numeral n)) = term_new_length s value in
    let sizes = numeral_sizes n t.known.bits in
    put s op.IntToStr rest Str (Nonblank (next_of s.state) ∷ []) (at_least r (pos 1) ∷ at_most r (pos 11) ∷ []) value t.others
    (one_given s op.IntToStr a rest (IntValue n) tops t.known.is) (numeral_bytes n) refl
    (ap emptiness (value_new s value) ∙ ap (λ (b : Bool). Some b) (numeral_nonblank n), tt)
    (at_least_holds w r (pos 1) (omega (arith, ints, wr, sizes.0)), (at_most_holds w r (pos 11) (omega (arith, ints, wr, sizes.1)), tt))
