-- The effect of `format.name$` covers the machine.
use Rattle.std.proofs.Common.{◌≡◌, ℕ, true, List, [], length, Option, None, Some, Result, Ok, refl, sym, ap, subst, ◌∙◌, arith}
use Rattle.std.specs.Prelude.{pos}
use Rattle.std.proofs.lemmas.Int.{ints}
use Rattle.lin_facts.specs.declared.row.Term.TheVariants.{Names as NamesOf, Value as ValueOf}
use Rattle.name_split.specs.AllParts.{names_ok}
use Rattle.name_split.specs.Formatted.{Misfit, formatted}
use Rattle.name_split.specs.Names.{names_of}
use Rattle.name_split.specs.Patterns.{pattern_ok}
use Rattle.name_table.specs.declared.builtin.Builtin.TheVariants as op
use Rattle.bst_meaning.specs.declared.value.Value.{Value}
use Rattle.bst_meaning.specs.declared.value.Value.TheVariants.{Int as IntValue, Str as StrValue}
use Rattle.bst_meaning.specs.Builtins.{pushed_name}
use Rattle.bst_meaning.specs.Effect.{pushed}
use Rattle.sym_state.specs.declared.symbol.Fact.TheVariants.{Wellformed}
use Rattle.sym_state.specs.declared.symbol.Kinds.TheVariants.{Str}
use Rattle.sym_state.specs.declared.symbol.Sym.{Sym}
use Rattle.sym_state.specs.Decided.{exact_text}
use Rattle.sym_state.specs.Effects.{is_pattern}
use Rattle.sym_state.specs.Facts.{has_good_names}
use Rattle.sym_state.specs.References.{at_least, exceeds}
use Rattle.sym_state.specs.Symbols.{integer_of, name_count_of, numbers}
use Rattle.sym_state.proofs.Consequences.{known_holds}
use Rattle.sym_state.proofs.Deciding.{exact_text_is}
use Rattle.sym_state.proofs.RowSums.{at_least_says, exceeds_says}
use Rattle.sym_state.proofs.Spots.{Spot}
use Rattle.bst_meaning.proofs.FormattedBytes.{formatted_bytes, formatted_ok}
use Rattle.builtin_effects.proofs.Covering.{lower, put, row_met, three_then, CoversOf}
use Rattle.builtin_effects.proofs.OperandValues.{number_met, text_met}
use Rattle.sym_state.proofs.Below.{three_below}

-- a pattern that is known and well formed
has_pattern : (s : Spot) (p : Sym) (pattern : List ℕ) → s.v.value p.0 ≡ StrValue pattern → is_pattern (exact_text s.state.facts p.0) ≡ true
    → pattern_ok pattern ≡ true
has_pattern s p pattern is e =
    elim (exact_text s.state.facts p.0) as (λ (o : Option (List ℕ)). exact_text s.state.facts p.0 ≡ o → is_pattern o ≡ true → pattern_ok pattern ≡ true) [
      | Some text ↦ λ exact found.
          let same : StrValue text ≡ StrValue pattern = sym (exact_text_is s.style s.v p.0 s.state.facts text s.stands.satisfied.facts exact) ∙ is in
          let text_is : text ≡ pattern = cc in
          subst (λ (l : List ℕ). pattern_ok l ≡ true) text_is found
      | None ↦ λ exact found. absurd (cc)
    ] refl e

name_pushed : (result : Result (List ℕ) Misfit) (text : List ℕ) (stack : List Value) → result ≡ Ok text → pushed_name result stack ≡ pushed (StrValue text) stack
name_pushed result text stack e = ap (λ (r : Result (List ℕ) Misfit). pushed_name r stack) e

pub format_name_covers : (s : Spot) → CoversOf s op.FormatName
format_name_covers s = λ n i p rest tops lowest_met middle_met top_met low high formed known.
    let text = text_met s n lowest_met in
    let number = number_met s i middle_met in
    let pattern = text_met s p top_met in
    let number_is : numbers s.v (ValueOf i.0) ≡ number.n = ap integer_of number.is in
    let names_are : numbers s.v (NamesOf n.0) ≡ pos (length (names_of text.bytes)) = ap name_count_of text.is in
    let least = at_least_says (numbers s.v) (ValueOf i.0) (pos 1) (row_met s (at_least (ValueOf i.0) (pos 1)) low) in
    let most = exceeds_says (numbers s.v) (NamesOf n.0) (ValueOf i.0) (pos 0) (row_met s (exceeds (NamesOf n.0) (ValueOf i.0) (pos 0)) high) in
    let names_good = known_holds s.style s.v n.0 s.state.facts (Wellformed n) s.stands.satisfied.facts formed in
    let good : names_ok text.bytes ≡ true = subst (λ (x : Value). has_good_names x ≡ true) text.is names_good in
    let given = formatted_ok text.bytes number.n pattern.bytes (omega (arith, ints, least, number_is)) (omega (arith, ints, most, number_is, names_are)) good
    (has_pattern s p pattern.bytes pattern.is known) in
    put s op.FormatName rest Str [] [] (StrValue given.0) (three_below s.style s.state n i p rest s.made tops).others
    (three_then s op.FormatName n i p rest (StrValue text.bytes) (IntValue number.n) (StrValue pattern.bytes) (pushed (StrValue given.0) (lower s rest))
    tops text.is number.is pattern.is (name_pushed (formatted text.bytes number.n pattern.bytes) given.0 (lower s rest) given.1))
    (formatted_bytes text.bytes number.n pattern.bytes given.0 text.fine pattern.fine given.1) refl tt tt
