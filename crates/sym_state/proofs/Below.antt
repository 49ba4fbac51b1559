-- The operands of a well-made state are its own symbols, and without them it is well made.
use Rattle.std.proofs.Common.{◌≡◌, ◌<◌, List, ◌∷◌, reverse}
use Rattle.std.specs.List.{All}
use Rattle.std.proofs.lemmas.List.Elements.{All-head, All-tail}
use Rattle.name_table.specs.declared.style.Style.{Style}
use Rattle.sym_state.specs.State.{State}
use Rattle.sym_state.specs.declared.symbol.Sym.{Sym}
use Rattle.sym_state.specs.WellMade.{WellMade}
use Rattle.sym_state.proofs.Pushing.{tops_below, without}
use Rattle.sym_state.proofs.Resulting.{rest_made}

-- these symbols are the state's
abbrev pub AreBelow : State → List Sym → Type 0
AreBelow state syms = All (λ s. s.0 < state.next) syms

-- one operand, above others
pub record OneBelow (style : Style) (state : State) (a : Sym) (rest : List Sym) : Type 0 where
  pub old : a.0 < state.next
  pub others : AreBelow state rest
  pub made : WellMade style (without rest state)

below_from : (style : Style) (state : State) (a : Sym) (rest : List Sym) → WellMade style state → AreBelow state (a ∷ rest) → OneBelow style state a rest
below_from style state a rest made all =
    let others = All-tail (λ s. s.0 < state.next) a rest all in
    record { old = All-head (λ s. s.0 < state.next) a rest all; others = others; made = rest_made style state rest made others }

pub one_below : (style : Style) (state : State) (a : Sym) (rest : List Sym) → WellMade style state → reverse state.stack ≡ a ∷ rest
    → OneBelow style state a rest
one_below style state a rest made tops = below_from style state a rest made (tops_below style state (a ∷ rest) made tops)

-- two, the lower one first
pub record TwoBelow (style : Style) (state : State) (a b : Sym) (rest : List Sym) : Type 0 where
  pub lower : a.0 < state.next
  pub upper : b.0 < state.next
  pub others : AreBelow state rest
  pub made : WellMade style (without rest state)

pub two_below : (style : Style) (state : State) (a b : Sym) (rest : List Sym) → WellMade style state → reverse state.stack ≡ b ∷ (a ∷ rest)
    → TwoBelow style state a b rest
two_below style state a b rest made tops =
    let top = one_below style state b (a ∷ rest) made tops in
    let next = below_from style state a rest made top.others in
    record { lower = next.old; upper = top.old; others = next.others; made = next.made }

-- three, the lowest one first
pub three_below : (style : Style) (state : State) (a b c : Sym) (rest : List Sym) → WellMade style state → reverse state.stack ≡ c ∷ (b ∷ (a ∷ rest))
    → TwoBelow style state a b rest
three_below style state a b c rest made tops =
    let top = one_below style state c (b ∷ (a ∷ rest)) made tops in
    let next = below_from style state b (a ∷ rest) made top.others in
    let last = below_from style state a rest made next.others in
    record { lower = last.old; upper = next.old; others = last.others; made = last.made }
