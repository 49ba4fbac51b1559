-- The exact integer and the exact text of a symbol are those of a fact, and within the bounds of facts.
use Rattle.std.proofs.Common.{◌≡◌, sym, IfSome, option_map, ℕ, ◌≤◌, ◌^◌, true, false, cond, subst, List, [], ◌∷◌, length, nat_eq, Bool, Option, None, Some, refl, ◌∙◌}
use Rattle.std.specs.Prelude.{ℤ}
use Rattle.std.specs.Borrow.{Bor}
use Rattle.std.specs.List.{All}
use Rattle.std.specs.Option.{option_or}
use Rattle.std.proofs.lemmas.List.Elements.{All-head, All-tail}
use Rattle.bst_meaning.specs.Entries.{IsByteList}
use Rattle.bst_meaning.specs.Operands.{has_32_bits}
use Rattle.sym_state.specs.declared.symbol.Fact.{Fact}
use Rattle.sym_state.specs.declared.symbol.Fact.TheVariants.{Int, Text}
use Rattle.sym_state.specs.declared.symbol.Sym.{Sym}
use Rattle.sym_state.specs.Decided.{exact_integer, exact_text, first_said, integer_said, text_said}
use Rattle.sym_state.specs.Facts.{subject}
use Rattle.sym_state.specs.WellMade.{HasByteText, HasShortText, HasSmallInteger}

-- what the first fact on a symbol says has what each fact gives to what it says
said_where : {X : Type 0} (said : Fact → Option X) (P : Fact → Type 0) (Q : X → Type 0) (facts : List Fact) (s : ℕ) (x : X)
    → ((fact : Fact) → P fact → said fact ≡ Some x → Q x) → All P facts → first_said said s facts ≡ Some x → Q x
said_where said P Q [] s x gives all e = absurd (cc)
said_where {X} said P Q (fact ∷ facts) s x gives all e =
    let later = said_where said P Q facts s x gives (All-tail P fact facts all) in
    elim (nat_eq (subject fact) s) as (λ (t : Bool). cond t (option_or (said fact) (first_said said s facts)) (first_said said s facts) ≡ Some x → Q x) [
      | true ↦ λ found. elim (said fact) as (λ (o : Option X). said fact ≡ o → option_or o (first_said said s facts) ≡ Some x → Q x) [
        | Some other ↦ λ is some. gives fact (All-head P fact facts all) (is ∙ some)
        | None ↦ λ is some. later some
      ] refl found
      | false ↦ λ found. later found
    ] e

small_said : (n : ℤ) (fact : Fact) → HasSmallInteger fact → integer_said fact ≡ Some n → has_32_bits n ≡ true
small_said n (Int s m) h e = let same : m ≡ n = cc in subst (λ (z : ℤ). has_32_bits z ≡ true) same h
small_said n _ h e = absurd (cc)

pub exact_small : (facts : List Fact) (s : ℕ) (n : ℤ) → All HasSmallInteger facts → exact_integer facts s ≡ Some n → has_32_bits n ≡ true
exact_small facts s n all e = said_where integer_said HasSmallInteger (λ (z : ℤ). has_32_bits z ≡ true) facts s n (small_said n) all e

-- what holds of the text of a text's fact
text_has : (P : Fact → Type 0) (Q : List ℕ → Type 0) (text : List ℕ) (fact : Fact) → ((s : Sym) → P (Text s text) → Q text)
    → P fact → text_said fact ≡ Some text → Q text
text_has P Q text (Text s other) gives h e =
    let same : other ≡ text = cc in gives s (subst (λ (t : List ℕ). P (Text s t)) same h)
text_has P Q text _ gives h e = absurd (cc)

pub exact_short : (facts : List Fact) (s : ℕ) (text : List ℕ) → All HasShortText facts → exact_text facts s ≡ Some text → length text ≤ 2 ^ 45
exact_short facts s text all e =
    said_where text_said HasShortText (λ (t : List ℕ). length t ≤ 2 ^ 45) facts s text
    (λ fact. text_has HasShortText (λ (t : List ℕ). length t ≤ 2 ^ 45) text fact (λ k h. h)) all e

pub exact_bytes : (facts : List Fact) (s : ℕ) (text : List ℕ) → All HasByteText facts → exact_text facts s ≡ Some text → IsByteList text
exact_bytes facts s text all e =
    said_where text_said HasByteText IsByteList facts s text (λ fact. text_has HasByteText IsByteList text fact (λ k h. h)) all e

-- the same of a text behind a reference
pub text_short : (facts : List Fact) (s : ℕ) (found : Option (Bor (List ℕ))) → All HasShortText facts
    → option_map (λ text. text.now) found ≡ exact_text facts s → IfSome found (λ text. length text.now ≤ 2 ^ 45)
text_short facts s (Some text) all e = exact_short facts s text.now all (sym e)
text_short facts s None all e = tt
