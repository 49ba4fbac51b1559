-- The effects that give strings of strings cover the machine.
use Rattle.std.proofs.Common.{◌≡◌, ℕ, ◌<◌, ◌≤◌, ◌⊎◌, inl, inr, Bool, true, false, ◌||◌, List, [], ◌∷◌, ◌++◌, length, Option, None, Some, refl, sym, ap, ◌∙◌, arith}
use Rattle.std.specs.Prelude.{pos, negsuc, is_some}
use Rattle.std.specs.List.{AllByRecursion}
use Rattle.std.proofs.lemmas.Int.{ints}
use Rattle.std.proofs.lemmas.List.{length-append}
use Rattle.lin_facts.specs.declared.row.Term.TheVariants.{Length as LengthOf}
use Rattle.name_table.specs.declared.builtin.Builtin.{Builtin}
use Rattle.name_table.specs.declared.builtin.Builtin.TheVariants as op
use Rattle.text_ops.specs.AddPeriod.{with_period}
use Rattle.text_ops.specs.Blank.{blank}
use Rattle.text_ops.specs.ChangeCase.{case_changed}
use Rattle.text_ops.specs.Purify.{purified}
use Rattle.text_ops.specs.TextPrefix.{text_prefix_of}
use Rattle.text_ops.specs.declared.change_case.Case.{Case}
use Rattle.bst_meaning.specs.declared.value.Value.{Value}
use Rattle.bst_meaning.specs.declared.value.Value.TheVariants.{Int as IntValue, Str as StrValue}
use Rattle.bst_meaning.specs.Builtins.{built_in, case_of, change_case_in}
use Rattle.bst_meaning.specs.Effect.{pushed}
use Rattle.bst_meaning.specs.Entries.{IsByteList}
use Rattle.sym_state.specs.declared.symbol.Kinds.TheVariants.{Str}
use Rattle.sym_state.specs.declared.symbol.Sym.{Sym}
use Rattle.sym_state.specs.Decided.{exact_text, is_known_nonblank}
use Rattle.sym_state.specs.Effects.{is_mode, no_longer, nonblank_where}
use Rattle.sym_state.specs.Facts.{FactHolds, emptiness}
use Rattle.sym_state.specs.References.{exceeds}
use Rattle.sym_state.specs.Results.{next_of, sum_of_three}
use Rattle.sym_state.specs.Symbols.{length_of, numbers}
use Rattle.sym_state.proofs.Deciding.{exact_text_is, nonblank_is}
use Rattle.sym_state.proofs.Pushing.{without}
use Rattle.sym_state.proofs.RowSums.{three_holds}
use Rattle.sym_state.proofs.Saying.{exceeds_holds, minus, once}
use Rattle.sym_state.proofs.Spots.{Spot}
use Rattle.name_table.proofs.ByteLists.{bytes_joined}
use Rattle.bst_meaning.proofs.ByteTexts.{case_changed_bytes, purified_bytes, text_prefix_bytes, with_period_bytes}
use Rattle.builtin_effects.proofs.Covering.{Old, after_value, around, lower, one_given, put, term_new_length, term_old, two_given, two_then, value_new, CoversBy, CoversOf}
use Rattle.builtin_effects.proofs.OperandValues.{number_met, text_met, text_taken}
use Rattle.builtin_effects.proofs.TextSizes.{case_changed_shorter, joined_nonblank, joined_nonblank_behind, purified_shorter, with_period_longer, with_period_nonblank, with_period_shorter}
use Rattle.sym_state.proofs.Below.{two_below}

-- a string is known to be nonblank
known_nonblank : (s : Spot) (a : Sym) (bytes : List ℕ) → s.v.value a.0 ≡ StrValue bytes → is_known_nonblank s.state.facts a.0 ≡ true → blank bytes ≡ false
known_nonblank s a bytes is e =
    let said : Some (blank bytes) ≡ Some false = sym (ap emptiness is) ∙ nonblank_is s.style s.v a.0 s.state.facts s.stands.satisfied.facts e in
    cc

-- a new string that is nonblank where it has to be
nonblank_holds : (s : Spot) (bytes : List ℕ) (t : Bool) → (t ≡ true → blank bytes ≡ false)
    → AllByRecursion (FactHolds s.style (after_value s (StrValue bytes))) (nonblank_where t (next_of s.state))
nonblank_holds s bytes true h = (ap emptiness (value_new s (StrValue bytes)) ∙ ap (λ (b : Bool). Some b) (h refl), tt)
nonblank_holds s bytes false h = tt

either_true : (a b : Bool) → (a || b) ≡ true → (a ≡ true) ⊎ (b ≡ true)
either_true true b e = inl refl
either_true false b e = inr e

-- `*`
pub join_covers : (s : Spot) → CoversOf s op.Join
join_covers s = λ a b rest tops lower_met upper_met.
    let first = text_met s a lower_met in
    let second = text_met s b upper_met in
    let below = two_below s.style s.state a b rest s.made tops in
    let known : Bool = is_known_nonblank s.state.facts a.0 || is_known_nonblank s.state.facts b.0 in
    let r = LengthOf s.state.next in
    let la = LengthOf a.0 in
    let lb = LengthOf b.0 in
    let low = sum_of_three (pos 0) (pos 1) r (negsuc 0) la (negsuc 0) lb in
    let high = sum_of_three (pos 0) (negsuc 0) r (pos 1) la (pos 1) lb in
    let x : List ℕ = first.bytes in
    let y : List ℕ = second.bytes in
    let value : Value = StrValue (x ++ y) in
    let w = numbers (after_value s value) in
    let wr : w r ≡ pos (length (x ++ y)) = term_new_length s value in
    let wa : w la ≡ pos (length x) = term_old s value la below.lower ∙ ap length_of first.is in
    let wb : w lb ≡ pos (length y) = term_old s value lb below.upper ∙ ap length_of second.is in
    let total = length-append x y in
    put s op.Join rest Str (nonblank_where known (next_of s.state)) (low ∷ high ∷ []) value below.others
    (two_given s op.Join a b rest (StrValue x) (StrValue y) tops first.is second.is) (bytes_joined x y first.fine second.fine) refl
    (nonblank_holds s (x ++ y) known (λ one.
    elim (either_true (is_known_nonblank s.state.facts a.0) (is_known_nonblank s.state.facts b.0) one) [
      | inl h ↦ joined_nonblank x y (known_nonblank s a x first.is h)
      | inr h ↦ joined_nonblank_behind x y (known_nonblank s b y second.is h)
    ])) (
      three_holds w (pos 0) (pos 1) r (negsuc 0) la (negsuc 0) lb (omega (arith, ints, wr, wa, wb, total, once (w r), minus (w la), minus (w lb))),
      (three_holds w (pos 0) (negsuc 0) r (pos 1) la (pos 1) lb (omega (arith, ints, wr, wa, wb, total, minus (w r), once (w la), once (w lb))), tt),
    )

-- `add.period$`
pub add_period_covers : (s : Spot) → CoversOf s op.AddPeriod
add_period_covers s = λ a rest tops met.
    let t = text_taken s a rest tops met in
    let r = LengthOf s.state.next in
    let la = LengthOf a.0 in
    let x : List ℕ = t.known.bytes in
    let known : Bool = is_known_nonblank s.state.facts a.0 in
    let value : Value = StrValue (with_period x) in
    let w = numbers (after_value s value) in
    let wr : w r ≡ pos (length (with_period x)) = term_new_length s value in
    let wa : w la ≡ pos (length x) = term_old s value la t.old ∙ ap length_of t.known.is in
    let least = with_period_longer x in
    let most = with_period_shorter x in
    put s op.AddPeriod rest Str (nonblank_where known (next_of s.state)) (exceeds r la (pos 0) ∷ exceeds la r (negsuc 0) ∷ []) value t.others
    (one_given s op.AddPeriod a rest (StrValue x) tops t.known.is) (with_period_bytes x t.known.fine) refl
    (nonblank_holds s (with_period x) known (λ h. with_period_nonblank x (known_nonblank s a x t.known.is h)))
    (exceeds_holds w r la (pos 0) (omega (arith, ints, wr, wa, least)), (exceeds_holds w la r (negsuc 0) (omega (arith, ints, wr, wa, most)), tt))

-- a new string that is no longer than another
shorter_put : (s : Spot) (o : Builtin) (a : Sym) (rest : List Sym) (x y : List ℕ) → a.0 < s.state.next → Old s rest
    → s.v.value a.0 ≡ StrValue x → IsByteList y → length y ≤ length x → built_in o (around s) s.c.stack ≡ pushed (StrValue y) (lower s rest)
    → CoversBy s o (no_longer a (without rest s.state))
shorter_put s o a rest x y old others is fine few machine =
    let la = LengthOf a.0 in
    let r = LengthOf s.state.next in
    let value : Value = StrValue y in
    let w = numbers (after_value s value) in
    let wr : w r ≡ pos (length y) = term_new_length s value in
    let wa : w la ≡ pos (length x) = term_old s value la old ∙ ap length_of is in
    put s o rest Str [] (exceeds la r (pos 0) ∷ []) value others machine fine refl tt (exceeds_holds w la r (pos 0) (omega (arith, ints, wr, wa, few)), tt)

-- `purify$`
pub purify_covers : (s : Spot) → CoversOf s op.Purify
purify_covers s = λ a rest tops met.
    let t = text_taken s a rest tops met in
    let x : List ℕ = t.known.bytes in
    shorter_put s op.Purify a rest x (purified x) t.old t.others t.known.is (purified_bytes x t.known.fine) (purified_shorter x)
    (one_given s op.Purify a rest (StrValue x) tops t.known.is)

-- `change.case$`
record HasMode (found : Option (List ℕ)) : Type 0 where
  pub text : List ℕ
  pub is : found ≡ Some text
  pub mode : Case
  pub says : case_of text ≡ Some mode

has_mode : (found : Option (List ℕ)) → is_mode found ≡ true → HasMode found
has_mode None e = absurd (cc)
has_mode (Some text) e =
    elim (case_of text) as (λ (o : Option Case). case_of text ≡ o → is_some o ≡ true → HasMode (Some text)) [
      | Some mode ↦ λ says found. record { text = text; is = refl; mode = mode; says = says }
      | None ↦ λ says found. absurd (cc)
    ] refl e

changed_in : (found : Option Case) (mode : Case) (bytes : List ℕ) (stack : List Value) → found ≡ Some mode
    → change_case_in found bytes stack ≡ pushed (StrValue (case_changed mode bytes)) stack
changed_in found mode bytes stack e = ap (λ (o : Option Case). change_case_in o bytes stack) e

pub change_case_covers : (s : Spot) → CoversOf s op.ChangeCase
change_case_covers s = λ a c rest tops lower_met upper_met known.
    let text = text_met s a lower_met in
    let below = two_below s.style s.state a c rest s.made tops in
    let m = has_mode (exact_text s.state.facts c.0) known in
    let x : List ℕ = text.bytes in
    let mode_is = exact_text_is s.style s.v c.0 s.state.facts m.text s.stands.satisfied.facts m.is in
    shorter_put s op.ChangeCase a rest x (case_changed m.mode x) below.lower below.others text.is
    (case_changed_bytes m.mode x text.fine) (case_changed_shorter m.mode x)
    (two_then s op.ChangeCase a c rest (StrValue x) (StrValue m.text) (pushed (StrValue (case_changed m.mode x)) (lower s rest)) tops text.is mode_is
    (changed_in (case_of m.text) m.mode x (lower s rest) m.says))

-- `text.prefix$`
pub text_prefix_covers : (s : Spot) → CoversOf s op.TextPrefix
text_prefix_covers s = λ a n rest tops lower_met upper_met.
    let number = number_met s n upper_met in
    let text = text_met s a lower_met in
    put s op.TextPrefix rest Str [] [] (StrValue (text_prefix_of text.bytes number.n)) (two_below s.style s.state a n rest s.made tops).others
    (two_given s op.TextPrefix a n rest (StrValue text.bytes) (IntValue number.n) tops text.is number.is)
    (text_prefix_bytes text.bytes number.n text.fine) refl tt tt
