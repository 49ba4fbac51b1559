-- Where the symbols of a piece stand that was read: each number below its count is at a place.
use Rattle.std.proofs.Common.{◌≡◌, ℕ, suc, ◌+◌, ◌≤◌, ◌<◌, ◌||◌, Bool, true, false, nat_eq, nat_le, nat_lt, max, List, [], ◌∷◌, length, refl, arith}
use Rattle.std.specs.List.{list_any}
use Rattle.std.proofs.lemmas.Bool.{and_parts}
use Rattle.std.proofs.lemmas.Bool.Decides.{nat_tests}
use Rattle.name_table.specs.Sound.{Each}
use Rattle.name_table.specs.declared.names.NameId.{NameId}
use Rattle.cert_format.specs.CertText.{are_placed, next_behind}
use Rattle.cert_format.specs.CondText.{is_below, is_chain}
use Rattle.cert_format.specs.PieceItems.{next_after}
use Rattle.sym_state.specs.Starting.{symbol_count}
use Rattle.sym_state.specs.declared.symbol.Bind.{Bind}
use Rattle.sym_state.specs.declared.symbol.Sym.{Sym}
use Rattle.cert_check.specs.Left.{AreUpwards}

-- what is said of symbols whose first places are in order, from this one on
pub record InOrder (next : ℕ) (syms : List Sym) : Type 0 where
  pub behind : next_behind next syms ≡ max next (symbol_count syms)
  pub few : symbol_count syms ≤ next + length syms
  pub places : (k : ℕ) → next ≤ k → k < symbol_count syms → list_any (λ t. nat_eq t.0 k) syms ≡ true

one_after : (next : ℕ) (s : Sym) → s.0 ≤ next → next < 4294967295 → next_after next s ≡ max next (suc s.0)
one_after next s low small = omega (arith, low, small)

either_true : (a b : Bool) → b ≡ true → (a || b) ≡ true
either_true true b e = refl
either_true false b e = e

first_true : (a b : Bool) → a ≡ true → (a || b) ≡ true
first_true true b e = refl
first_true false b e = absurd (cc)

pub in_order : (next : ℕ) (syms : List Sym) → are_placed next syms ≡ true → next + length syms ≤ 4294967295 → InOrder next syms
in_order next [] placed small = record {
  behind = omega arith;
  few = omega arith;
  places = λ k low high. absurd (omega (arith, high));
}
in_order next (s ∷ syms) placed small =
    let both = and_parts (nat_le s.0 next) (are_placed (next_after next s) syms) placed in
    let low : s.0 ≤ next = let is = both.0 in grind (arith, nat_tests) in
    let after = one_after next s low (omega (arith, small)) in
    let rest = in_order (next_after next s) syms both.1 (omega (arith, small, after, low)) in
    let behind = rest.behind in
    let few = rest.few in
    record {
      behind = omega (arith, behind, after);
      few = omega (arith, few, after, low);
      places = λ k from below.
          elim (nat_lt k (suc s.0)) as (λ (t : Bool). nat_lt k (suc s.0) ≡ t → (nat_eq s.0 k || list_any (λ t. nat_eq t.0 k) syms) ≡ true) [
            | true ↦ λ is. first_true (nat_eq s.0 k) _ (let at = low in grind (arith, nat_tests))
            | false ↦ λ is.
                let above : suc s.0 ≤ k = grind (arith, nat_tests) in
                either_true (nat_eq s.0 k) _ (rest.places k (omega (arith, after, from, above)) (omega (arith, above, below)))
          ] refl;
    }

-- bindings go upwards where each stands below the next one
pub go_upwards : (binds : List Bind) → is_chain (λ a b. is_below a.name b.name) binds ≡ true → AreUpwards 0 binds
go_upwards [] chain = tt
go_upwards (bind ∷ binds) chain = upwards_from 0 bind binds (omega arith) chain
  where
    above : (a b : NameId) → is_below a b ≡ true → suc a.0 ≤ b.0
    above a b e = grind (arith, nat_tests)

    upwards_from : (id : ℕ) (first : Bind) (binds : List Bind) → id ≤ first.name.0 → is_chain (λ a b. is_below a.name b.name) (first ∷ binds) ≡ true
        → AreUpwards id (first ∷ binds)
    upwards_from id first [] low chain = (low, tt)
    upwards_from id first (second ∷ binds) low chain =
        let both = and_parts (is_below first.name second.name) (is_chain (λ a b. is_below a.name b.name) (second ∷ binds)) chain in
        (low, upwards_from (suc first.name.0) second binds (above first.name second.name both.0) both.1)

-- as many things at most as there are numbers, where the number of each is below that of the next one
pub few_rise : {A : Type 0} (number : A → ℕ) (n : ℕ) (xs : List A) → is_chain (λ a b. nat_lt (number a) (number b)) xs ≡ true → Each (λ x. number x < n) xs
    → length xs ≤ n
few_rise number n [] chain each = omega arith
few_rise {A} number n (first ∷ rest) chain each = let few = few_from 0 first rest (omega arith) chain each in omega (arith, few)
  where
    few_from : (from : ℕ) (first : A) (rest : List A) → from ≤ number first → is_chain (λ a b. nat_lt (number a) (number b)) (first ∷ rest) ≡ true
        → Each (λ x. number x < n) (first ∷ rest) → from + suc (length rest) ≤ n
    few_from from first [] low chain each = let here = each.0 in omega (arith, here, low)
    few_from from first (second ∷ rest) low chain each =
        let both = and_parts (nat_lt (number first) (number second)) (is_chain (λ a b. nat_lt (number a) (number b)) (second ∷ rest)) chain in
        let above : suc (number first) ≤ number second = let is = both.0 in grind (arith, nat_tests) in
        let few = few_from (suc (number first)) second rest above both.1 each.1 in
        omega (arith, few, low)
