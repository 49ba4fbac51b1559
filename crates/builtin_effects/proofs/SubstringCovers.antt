-- The effect of `substring$` covers the machine.
use Rattle.std.proofs.Common.{◌≡◌, ℕ, ◌+◌, ◌-◌, ◌<◌, ◌≤◌, ◌⊎◌, inl, inr, true, List, [], ◌∷◌, length, Option, None, Some, refl, sym, ap, subst, ◌∙◌, arith, Bool, false}
use Rattle.std.specs.Prelude.{ℤ, pos, negsuc}
use Rattle.std.specs.List.{AllByRecursion}
use Rattle.std.proofs.lemmas.Bool.{and_parts}
use Rattle.std.proofs.lemmas.Int.{ints}
use Rattle.lin_facts.specs.Rows.{Holds}
use Rattle.lin_facts.specs.declared.row.Term.TheVariants.{Length as LengthOf}
use Rattle.name_table.specs.declared.builtin.Builtin.TheVariants as op
use Rattle.text_ops.specs.Substring.{substring_of as cut}
use Rattle.bst_meaning.specs.declared.value.Value.{Value}
use Rattle.bst_meaning.specs.declared.value.Value.TheVariants.{Int as IntValue, Str as StrValue}
use Rattle.bst_meaning.specs.Builtins.{built_in}
use Rattle.bst_meaning.specs.Effect.{pushed}
use Rattle.sym_state.specs.declared.symbol.Kinds.TheVariants.{Str}
use Rattle.sym_state.specs.declared.symbol.Sym.{Sym}
use Rattle.sym_state.specs.Decided.{exact_integer}
use Rattle.sym_state.specs.Effects.{at_most_known, is_length, is_start, known_size, of_length, shorter}
use Rattle.sym_state.specs.References.{at_least, at_most, exceeds}
use Rattle.sym_state.specs.Results.{next_of}
use Rattle.sym_state.specs.Symbols.{length_of, numbers}
use Rattle.sym_state.proofs.Deciding.{exact_integer_is}
use Rattle.sym_state.proofs.Pushing.{without}
use Rattle.sym_state.proofs.RowSums.{at_least_says}
use Rattle.sym_state.proofs.Saying.{at_least_holds, at_most_holds, exceeds_holds}
use Rattle.sym_state.proofs.Spots.{Spot}
use Rattle.bst_meaning.proofs.ByteTexts.{substring_bytes}
use Rattle.builtin_effects.proofs.Covering.{Old, after_value, around, lower, put, row_met, term_new_length, term_old, three_given, CoversBy, CoversOf}
use Rattle.builtin_effects.proofs.OperandValues.{IsText, number_met, text_met}
use Rattle.builtin_effects.proofs.TextSizes.{substring_few, substring_known, substring_none, substring_shorter}
use Rattle.sym_state.proofs.Below.{three_below}

-- a string, a start and a length on top, and what the machine gives of them
record Cutting (s : Spot) (a b c : Sym) (rest : List Sym) : Type 0 where
  pub text : IsText s a
  pub start : ℤ
  pub count : ℤ
  pub start_is : s.v.value b.0 ≡ IntValue start
  pub count_is : s.v.value c.0 ≡ IntValue count
  pub old : a.0 < s.state.next
  pub others : Old s rest
  pub machine : built_in op.Substring (around s) s.c.stack ≡ pushed (StrValue (cut text.bytes start count)) (lower s rest)

-- an integer that is known is the value's
known_is : (s : Spot) (b : Sym) (n m : ℤ) → s.v.value b.0 ≡ IntValue n → exact_integer s.state.facts b.0 ≡ Some m → n ≡ m
known_is s b n m is exact =
    let same : IntValue n ≡ IntValue m = sym is ∙ exact_integer_is s.style s.v b.0 s.state.facts m s.stands.satisfied.facts exact in cc

-- what a test that `None` fails finds is the value
tested_known : (s : Spot) (b : Sym) (n : ℤ) (test : Option ℤ → Bool) → test None ≡ false → s.v.value b.0 ≡ IntValue n
    → test (exact_integer s.state.facts b.0) ≡ true → exact_integer s.state.facts b.0 ≡ Some n
tested_known s b n test none is e =
    elim (exact_integer s.state.facts b.0) as (λ (o : Option ℤ). exact_integer s.state.facts b.0 ≡ o → test o ≡ true → o ≡ Some n) [
      | Some m ↦ λ exact found. ap (λ (k : ℤ). Some k) (sym (known_is s b n m is exact))
      | None ↦ λ exact found. absurd (cc)
    ] refl e

-- the string is long enough
exactly_cut : (s : Spot) (a b c : Sym) (rest : List Sym) (start len : Option ℤ) → (g : Cutting s a b c rest)
    → start ≡ Some g.start → len ≡ Some g.count → is_start start ≡ true → is_length len ≡ true
    → Holds (numbers s.v) (at_least (LengthOf a.0) (pos (known_size start + known_size len - 1)))
    → CoversBy s op.Substring (of_length (known_size len) (without rest s.state))
exactly_cut s a b c rest start len g start_is len_is starts counts shown =
    let size : ℕ = known_size len in
    let least : ℕ = known_size start + known_size len - 1 in
    let says = at_least_says (numbers s.v) (LengthOf a.0) (pos least) shown in
    let length_is : numbers s.v (LengthOf a.0) ≡ pos (length g.text.bytes) = ap length_of g.text.is in
    let long : least ≤ length g.text.bytes = omega (arith, ints, says, length_is) in
    let x : List ℕ = cut g.text.bytes g.start g.count in
    let start_ok : is_start (Some g.start) ≡ true = ap is_start (sym start_is) ∙ starts in
    let count_ok : is_length (Some g.count) ≡ true = ap is_length (sym len_is) ∙ counts in
    let sizes : known_size (Some g.start) + known_size (Some g.count) - 1 ≡ least =
    ap (λ (o : Option ℤ). known_size o + known_size (Some g.count) - 1) (sym start_is) ∙ ap (λ (o : Option ℤ). known_size start + known_size o - 1) (sym len_is) in
    let enough : known_size (Some g.start) + known_size (Some g.count) - 1 ≤ length g.text.bytes =
    subst (λ (n : ℕ). n ≤ length g.text.bytes) (sym sizes) long in
    let exact : length x ≡ size = substring_known g.text.bytes g.start g.count start_ok count_ok enough ∙ ap known_size (sym len_is) in
    let r = LengthOf s.state.next in
    let value : Value = StrValue x in
    let w = numbers (after_value s value) in
    let wr : w r ≡ pos (length x) = term_new_length s value in
    put s op.Substring rest Str [] (at_least r (pos size) ∷ at_most r (pos size) ∷ []) value g.others g.machine
    (substring_bytes g.text.bytes g.start g.count g.text.fine) refl tt
    (at_least_holds w r (pos size) (omega (arith, ints, wr, exact)), (at_most_holds w r (pos size) (omega (arith, ints, wr, exact)), tt))

-- it is no longer than the string, nor than a length that is known
known_holds : (s : Spot) (text : List ℕ) (start count : ℤ) (len : Option ℤ) → (len ≡ None) ⊎ (len ≡ Some count)
    → AllByRecursion (Holds (numbers (after_value s (StrValue (cut text start count))))) (at_most_known len (next_of s.state))
known_holds s text start count None e = tt
known_holds s text start count (Some (pos n)) (inl e) = absurd (cc)
known_holds s text start count (Some (pos n)) (inr e) =
    let same : count ≡ pos n = cc in
    let few : length (cut text start count) ≤ n = subst (λ (k : ℤ). length (cut text start k) ≤ n) (sym same) (substring_few text start n) in
    let value : Value = StrValue (cut text start count) in
    let w = numbers (after_value s value) in
    let wr : w (LengthOf s.state.next) ≡ pos (length (cut text start count)) = term_new_length s value in
    (at_most_holds w (LengthOf s.state.next) (pos n) (omega (arith, ints, wr, few)), tt)
known_holds s text start count (Some (negsuc n)) (inl e) = absurd (cc)
known_holds s text start count (Some (negsuc n)) (inr e) =
    let same : count ≡ negsuc n = cc in
    let none : cut text start count ≡ [] = subst (λ (k : ℤ). cut text start k ≡ []) (sym same) (substring_none text start n) in
    let value : Value = StrValue (cut text start count) in
    let w = numbers (after_value s value) in
    let wr : w (LengthOf s.state.next) ≡ pos 0 = term_new_length s value ∙ ap (λ (l : List ℕ). pos (length l)) none in
    (at_most_holds w (LengthOf s.state.next) (pos 0) (omega (arith, ints, wr)), tt)

known_or_not : (s : Spot) (b : Sym) (n : ℤ) → s.v.value b.0 ≡ IntValue n
    → (exact_integer s.state.facts b.0 ≡ None) ⊎ (exact_integer s.state.facts b.0 ≡ Some n)
known_or_not s b n is =
    elim (exact_integer s.state.facts b.0) as (λ (o : Option ℤ). exact_integer s.state.facts b.0 ≡ o → (o ≡ None) ⊎ (o ≡ Some n)) [
      | Some m ↦ λ exact. inr (ap (λ (k : ℤ). Some k) (sym (known_is s b n m is exact)))
      | None ↦ λ exact. inl refl
    ] refl

loosely_cut : (s : Spot) (a b c : Sym) (rest : List Sym) → Cutting s a b c rest
    → CoversBy s op.Substring (shorter a (exact_integer s.state.facts c.0) (without rest s.state))
loosely_cut s a b c rest g =
    let len = exact_integer s.state.facts c.0 in
    let x : List ℕ = cut g.text.bytes g.start g.count in
    let r = LengthOf s.state.next in
    let value : Value = StrValue x in
    let w = numbers (after_value s value) in
    let wr : w r ≡ pos (length x) = term_new_length s value in
    let wa : w (LengthOf a.0) ≡ pos (length g.text.bytes) = term_old s value (LengthOf a.0) g.old ∙ ap length_of g.text.is in
    let few = substring_shorter g.text.bytes g.start g.count in
    put s op.Substring rest Str [] (exceeds (LengthOf a.0) r (pos 0) ∷ at_most_known len (next_of s.state)) value g.others g.machine
    (substring_bytes g.text.bytes g.start g.count g.text.fine) refl tt (
      exceeds_holds w (LengthOf a.0) r (pos 0) (omega (arith, ints, wr, wa, few)),
      known_holds s g.text.bytes g.start g.count len (known_or_not s c g.count g.count_is),
    )

pub substring_covers : (s : Spot) → CoversOf s op.Substring
substring_covers s = λ a b c rest tops lowest_met middle_met top_met.
    let count = number_met s c top_met in
    let start = number_met s b middle_met in
    let text = text_met s a lowest_met in
    let below = three_below s.style s.state a b c rest s.made tops in
    let g : Cutting s a b c rest = record {
      text = text;
      start = start.n;
      count = count.n;
      start_is = start.is;
      count_is = count.is;
      old = below.lower;
      others = below.others;
      machine = three_given s op.Substring a b c rest (StrValue text.bytes) (IntValue start.n) (IntValue count.n) tops text.is start.is count.is;
    } in
    let known_start = exact_integer s.state.facts b.0 in
    let len = exact_integer s.state.facts c.0 in
    let row = at_least (LengthOf a.0) (pos (known_size known_start + known_size len - 1)) in (
      λ wanted shown.
          let both = and_parts (is_start known_start) (is_length len) wanted in
          exactly_cut s a b c rest known_start len g (tested_known s b start.n is_start refl start.is both.0)
          (tested_known s c count.n is_length refl count.is both.1) both.0 both.1 (row_met s row shown),
      loosely_cut s a b c rest g,
    )
