-- The effects of `+` and `-` cover the machine.
use Rattle.std.proofs.Common.{◌≡◌, List, [], ◌∷◌, reverse, Option, None, Some, refl, sym, ap, ◌∙◌, arith}
use Rattle.std.specs.Prelude.{ℤ, pos, negsuc, neg_ℤ, ◌+ℤ◌, ◌-ℤ◌, ◌*ℤ◌}
use Rattle.std.proofs.lemmas.Int.{ints}
use Rattle.lin_facts.specs.declared.row.Term.TheVariants.{Value as ValueOf}
use Rattle.name_table.specs.declared.builtin.Builtin.{Builtin}
use Rattle.name_table.specs.declared.builtin.Builtin.TheVariants as op
use Rattle.bst_meaning.specs.declared.value.Value.{Value}
use Rattle.bst_meaning.specs.declared.value.Value.TheVariants.{Int as IntValue}
use Rattle.bst_meaning.specs.Builtins.{built_in}
use Rattle.bst_meaning.specs.Operands.{has_32_bits, ranged}
use Rattle.sym_state.specs.declared.demand.DemandKind.TheVariants.{IntRange}
use Rattle.sym_state.specs.declared.symbol.Fact.TheVariants.{Int as IntFact}
use Rattle.sym_state.specs.declared.symbol.Kinds.TheVariants.{Int}
use Rattle.sym_state.specs.declared.symbol.Sym.{Sym}
use Rattle.sym_state.specs.Decided.{exact_integer}
use Rattle.sym_state.specs.Demands.{Demands}
use Rattle.sym_state.specs.Effects.{exact_sum, known_integer, sum, summed}
use Rattle.sym_state.specs.Results.{next_of, sum_of_three, sum_of_two}
use Rattle.sym_state.specs.Symbols.{integer_of, numbers}
use Rattle.sym_state.proofs.Deciding.{exact_integer_is}
use Rattle.sym_state.proofs.KnownKinds.{integer_is}
use Rattle.sym_state.proofs.Pushing.{without}
use Rattle.sym_state.proofs.RowSums.{three_holds, two_says}
use Rattle.sym_state.proofs.Saying.{minus, once}
use Rattle.sym_state.proofs.Spots.{Spot}
use Rattle.builtin_effects.proofs.Covering.{after_value, around, kind_met, lower, put, row_met, term_new_value, term_old, two_then, value_new, CoversBy, CoversOf}
use Rattle.builtin_effects.proofs.Integers.{bits_from, in_range}
use Rattle.sym_state.proofs.Below.{two_below}

-- a rule that adds its second operand with a sign
record Signed (sign : ℤ) (rule : ℤ → ℤ → ℤ) : Type 0 where
  pub sum : (x y : ℤ) → rule x y ≡ x +ℤ sign *ℤ y
  pub opposite : (y : ℤ) → neg_ℤ sign *ℤ y ≡ neg_ℤ (sign *ℤ y)

-- two integers on top, and what the machine gives of them
record Summing (s : Spot) (o : Builtin) (rule : ℤ → ℤ → ℤ) (a b : Sym) (rest : List Sym) : Type 0 where
  pub x : ℤ
  pub y : ℤ
  pub tops : reverse s.state.stack ≡ b ∷ (a ∷ rest)
  pub lower_is : s.v.value a.0 ≡ IntValue x
  pub upper_is : s.v.value b.0 ≡ IntValue y
  pub machine : built_in o (around s) s.c.stack ≡ ranged (rule x y) (lower s rest)

exact_covers : (s : Spot) (o : Builtin) (rule : ℤ → ℤ → ℤ) (a b : Sym) (rest : List Sym) (m n : ℤ)
    → Summing s o rule a b rest → exact_integer s.state.facts a.0 ≡ Some m → exact_integer s.state.facts b.0 ≡ Some n
    → CoversBy s o (Demands (has_32_bits (rule m n)) IntRange 0 (known_integer (rule m n) (without rest s.state)))
exact_covers s o rule a b rest m n g exact_a exact_b = λ bits.
    let facts = s.stands.satisfied.facts in
    let x_is : IntValue g.x ≡ IntValue m = sym g.lower_is ∙ exact_integer_is s.style s.v a.0 s.state.facts m facts exact_a in
    let y_is : IntValue g.y ≡ IntValue n = sym g.upper_is ∙ exact_integer_is s.style s.v b.0 s.state.facts n facts exact_b in
    let xm : g.x ≡ m = cc in
    let yn : g.y ≡ n = cc in
    let z : ℤ = rule m n in
    put s o rest Int (IntFact (next_of s.state) z ∷ []) [] (IntValue z) (two_below s.style s.state a b rest s.made g.tops).others
    (g.machine ∙ ap (λ (k : ℤ). ranged (rule k g.y) (lower s rest)) xm ∙ ap (λ (k : ℤ). ranged (rule m k) (lower s rest)) yn ∙ in_range z (lower s rest) bits)
    bits refl (value_new s (IntValue z), tt) tt

inexact_covers : (s : Spot) (o : Builtin) (sign : ℤ) (rule : ℤ → ℤ → ℤ) (a b : Sym) (rest : List Sym) → Signed sign rule → Summing s o rule a b rest
    → CoversBy s o (summed sign a b (without rest s.state) None)
inexact_covers s o sign rule a b rest signed g = λ low_shown high_shown.
    let ra = ValueOf a.0 in
    let rb = ValueOf b.0 in
    let r = ValueOf s.state.next in
    let low = sum_of_two (pos 2147483648) (pos 1) ra sign rb in
    let high = sum_of_two (pos 2147483647) (negsuc 0) ra (neg_ℤ sign) rb in
    let first = sum_of_three (pos 0) (pos 1) r (negsuc 0) ra (neg_ℤ sign) rb in
    let second = sum_of_three (pos 0) (negsuc 0) r (pos 1) ra sign rb in
    let below = two_below s.style s.state a b rest s.made g.tops in
    let xs : numbers s.v ra ≡ g.x = ap integer_of g.lower_is in
    let ys : numbers s.v rb ≡ g.y = ap integer_of g.upper_is in
    let z : ℤ = rule g.x g.y in
    let total : z ≡ g.x +ℤ sign *ℤ g.y = signed.sum g.x g.y in
    let by_y : sign *ℤ numbers s.v rb ≡ sign *ℤ g.y = ap (λ (k : ℤ). sign *ℤ k) ys in
    let opposite : neg_ℤ sign *ℤ numbers s.v rb ≡ neg_ℤ (sign *ℤ numbers s.v rb) = signed.opposite (numbers s.v rb) in
    let low_says = two_says (numbers s.v) (pos 2147483648) (pos 1) ra sign rb (row_met s low low_shown) in
    let high_says = two_says (numbers s.v) (pos 2147483647) (negsuc 0) ra (neg_ℤ sign) rb (row_met s high high_shown) in
    let plus_x = once (numbers s.v ra) in
    let minus_x = minus (numbers s.v ra) in
    let bits = bits_from z (omega (arith, ints, xs, total, by_y, low_says, plus_x)) (omega (arith, ints, xs, total, by_y, opposite, high_says, minus_x)) in
    let value : Value = IntValue z in
    let w = numbers (after_value s value) in
    let wr : w r ≡ z = term_new_value s value in
    let wa : w ra ≡ g.x = term_old s value ra below.lower ∙ xs in
    let wb : w rb ≡ g.y = term_old s value rb below.upper ∙ ys in
    let wby : sign *ℤ w rb ≡ sign *ℤ g.y = ap (λ (k : ℤ). sign *ℤ k) wb in
    let wopposite : neg_ℤ sign *ℤ w rb ≡ neg_ℤ (sign *ℤ w rb) = signed.opposite (w rb) in
    put s o rest Int [] (first ∷ second ∷ []) value below.others (g.machine ∙ in_range z (lower s rest) bits) bits refl tt (
      three_holds w (pos 0) (pos 1) r (negsuc 0) ra (neg_ℤ sign) rb (omega (arith, ints, wr, wa, wby, wopposite, total, once (w r), minus (w ra))),
      (three_holds w (pos 0) (negsuc 0) r (pos 1) ra sign rb (omega (arith, ints, wr, wa, wby, total, minus (w r), once (w ra))), tt),
    )

summed_covers : (s : Spot) (o : Builtin) (sign : ℤ) (rule : ℤ → ℤ → ℤ) (a b : Sym) (rest : List Sym) → Signed sign rule → Summing s o rule a b rest
    → CoversBy s o (summed sign a b (without rest s.state) (exact_sum (exact_integer s.state.facts a.0) (exact_integer s.state.facts b.0) rule))
summed_covers s o sign rule a b rest signed g =
    elim (exact_integer s.state.facts a.0) as (λ (p : Option ℤ). exact_integer s.state.facts a.0 ≡ p
    → CoversBy s o (summed sign a b (without rest s.state) (exact_sum p (exact_integer s.state.facts b.0) rule))) [
      | None ↦ λ none. inexact_covers s o sign rule a b rest signed g
      | Some m ↦ λ exact_a. elim (exact_integer s.state.facts b.0) as (λ (q : Option ℤ). exact_integer s.state.facts b.0 ≡ q
          → CoversBy s o (summed sign a b (without rest s.state) (exact_sum (Some m) q rule))) [
            | None ↦ λ none. inexact_covers s o sign rule a b rest signed g
            | Some n ↦ λ exact_b. exact_covers s o rule a b rest m n g exact_a exact_b
          ] refl
    ] refl

-- the operands of a sum that has an effect
sum_covers : (s : Spot) (o : Builtin) (sign : ℤ) (rule : ℤ → ℤ → ℤ) → Signed sign rule
    → ((x y : ℤ) (stack : List Value) → built_in o (around s) (IntValue y ∷ (IntValue x ∷ stack)) ≡ ranged (rule x y) stack)
    → CoversBy s o (sum s.state sign rule)
sum_covers s o sign rule signed machine = λ a b rest tops lower_met upper_met.
    let x = integer_is (s.v.value a.0) (kind_met s Int a lower_met) in
    let y = integer_is (s.v.value b.0) (kind_met s Int b upper_met) in
    summed_covers s o sign rule a b rest signed (record {
      x = x.0;
      y = y.0;
      tops = tops;
      lower_is = x.1;
      upper_is = y.1;
      machine = two_then s o a b rest (IntValue x.0) (IntValue y.0) (ranged (rule x.0 y.0) (lower s rest)) tops x.1 y.1 (machine x.0 y.0 (lower s rest));
    })

pub plus_covers : (s : Spot) → CoversOf s op.Plus
plus_covers s =
    sum_covers s op.Plus (pos 1) (λ a b. a +ℤ b)
    (record { sum = λ x y. omega (arith, ints, once y); opposite = λ y. omega (arith, ints, once y, minus y) }) (λ x y stack. refl)

pub minus_covers : (s : Spot) → CoversOf s op.Minus
minus_covers s =
    sum_covers s op.Minus (negsuc 0) (λ a b. a -ℤ b)
    (record { sum = λ x y. omega (arith, ints, minus y); opposite = λ y. omega (arith, ints, once y, minus y) }) (λ x y stack. refl)
