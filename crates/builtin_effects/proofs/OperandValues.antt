-- Operands that are known to be strings or integers, with their values.
use Rattle.std.proofs.Common.{◌≡◌, ℕ, ◌<◌, true, List, ◌∷◌, reverse, subst}
use Rattle.std.specs.Prelude.{ℤ}
use Rattle.bst_meaning.specs.declared.value.Value.{Value}
use Rattle.bst_meaning.specs.declared.value.Value.TheVariants.{Int as IntValue, Str as StrValue}
use Rattle.bst_meaning.specs.Entries.{IsByteList}
use Rattle.bst_meaning.specs.Operands.{has_32_bits}
use Rattle.sym_state.specs.declared.symbol.Kinds.TheVariants.{Int, Str}
use Rattle.sym_state.specs.declared.symbol.Sym.{Sym}
use Rattle.sym_state.specs.Demands.{is_of_kind}
use Rattle.sym_state.specs.Symbols.{IsValue}
use Rattle.sym_state.proofs.KnownKinds.{integer_is, string_is}
use Rattle.sym_state.proofs.Spots.{Spot}
use Rattle.sym_state.proofs.Below.{one_below}
use Rattle.builtin_effects.proofs.Covering.{Old, kind_met}

-- a symbol whose value is a string, and one whose value is an integer
pub record IsText (s : Spot) (a : Sym) : Type 0 where
  pub bytes : List ℕ
  pub is : s.v.value a.0 ≡ StrValue bytes
  pub fine : IsByteList bytes

pub text_met : (s : Spot) (a : Sym) → is_of_kind s.state Str a ≡ true → IsText s a
text_met s a e =
    let found = string_is (s.v.value a.0) (kind_met s Str a e) in
    record { bytes = found.0; is = found.1; fine = subst (λ (x : Value). IsValue x) found.1 (s.stands.satisfied.values a.0) }

pub record IsNumber (s : Spot) (a : Sym) : Type 0 where
  pub n : ℤ
  pub is : s.v.value a.0 ≡ IntValue n
  pub bits : has_32_bits n ≡ true

pub number_met : (s : Spot) (a : Sym) → is_of_kind s.state Int a ≡ true → IsNumber s a
number_met s a e =
    let found = integer_is (s.v.value a.0) (kind_met s Int a e) in
    record { n = found.0; is = found.1; bits = subst (λ (x : Value). IsValue x) found.1 (s.stands.satisfied.values a.0) }

-- one string on top
pub record TextTaken (s : Spot) (a : Sym) (rest : List Sym) : Type 0 where
  pub tops : reverse s.state.stack ≡ a ∷ rest
  pub old : a.0 < s.state.next
  pub others : Old s rest
  pub known : IsText s a

pub text_taken : (s : Spot) (a : Sym) (rest : List Sym) → reverse s.state.stack ≡ a ∷ rest → is_of_kind s.state Str a ≡ true → TextTaken s a rest
text_taken s a rest tops met =
    let below = one_below s.style s.state a rest s.made tops in
    record { tops = tops; old = below.old; others = below.others; known = text_met s a met }

-- one integer on top
pub record NumberTaken (s : Spot) (a : Sym) (rest : List Sym) : Type 0 where
  pub tops : reverse s.state.stack ≡ a ∷ rest
  pub others : Old s rest
  pub known : IsNumber s a

pub number_taken : (s : Spot) (a : Sym) (rest : List Sym) → reverse s.state.stack ≡ a ∷ rest → is_of_kind s.state Int a ≡ true → NumberTaken s a rest
number_taken s a rest tops met =
    let below = one_below s.style s.state a rest s.made tops in record { tops = tops; others = below.others; known = number_met s a met }
