-- The values of a post's symbols in the state that a summary leaves, beside those of the state that came to it.
use Rattle.std.proofs.Common.{◌≡◌, ℕ, zero, suc, ◌+◌, ◌≤◌, ◌<◌, Bool, true, false, cond, nat_eq, nat_lt, List, [], ◌∷◌, ◌++◌, Option, None, Some, refl, ap, ◌∙◌, arith}
use Rattle.std.specs.Prelude.{◌||◌}
use Rattle.std.specs.List.{AllByRecursion}
use Rattle.std.specs.Option.{unwrap_or}
use Rattle.std.proofs.lemmas.Bool.Decides.{nat_tests}
use Rattle.bst_meaning.specs.declared.value.Value.{Value}
use Rattle.sym_state.specs.State.{State}
use Rattle.sym_state.specs.Entailing.{at_first_place, matched}
use Rattle.sym_state.specs.Symbols.{Agrees, IsValue, Valuation}
use Rattle.sym_state.specs.declared.piece.Piece.{Piece}
use Rattle.sym_state.specs.declared.symbol.Sym.{Sym}
use Rattle.sym_state.proofs.Frames.{agrees_self, next_agrees, next_is, value_case, with_next}
use Rattle.cert_check.specs.Uses.{Passage, new_one, own_places, unchanged}
use Rattle.cert_check.proofs.LeftPlaces.{has_place}
use Rattle.cert_check.proofs.LeftSteps.{numbered}
use Rattle.cert_check.proofs.Safety.{agrees_on}

-- an assignment that gives each place the value of its symbol
pub record Valued (next : ℕ) (u : Valuation) (value : ℕ → Value) (places : List (Sym × Sym)) : Type 0 where
  pub assignment : Valuation
  pub agrees : Agrees next u assignment
  pub values : (s : ℕ) → IsValue (assignment.value s)
  pub placed : AllByRecursion (λ p. assignment.value p.1.0 ≡ value p.0.0) places

-- the own symbols of a post: those that stand for the state's have the values of these
pub own_valued : (unit : Passage) (state : State) (post : Piece) (value : ℕ → Value) (s more old next : ℕ) (u : Valuation) → old ≤ next
    → ((x : ℕ) → IsValue (value x)) → ((x : ℕ) → IsValue (u.value x))
    → ((x : ℕ) (there : Sym) → unchanged unit state post x ≡ Some there → (there.0 < old) × (u.value there.0 ≡ value x))
    → Valued next u value (own_places unit state post s more next)
own_valued unit state post value s zero old next u less valid all stay =
    record { assignment = u; agrees = agrees_self next u; values = all; placed = tt }
own_valued unit state post value s (suc more) old next u less valid all stay =
    elim (unchanged unit state post s) as (λ (o : Option Sym). unchanged unit state post s ≡ o
    → Valued next u value ((numbered s, unwrap_or o (numbered next)) ∷ own_places unit state post (suc s) more (next + new_one o))) [
      | Some there ↦ λ is.
          let rest = own_valued unit state post value (suc s) more old (next + 0) u (omega (arith, less)) valid all stay in
          let below = (stay s there is).0 in
          record {
            assignment = rest.assignment;
            agrees = agrees_on next (next + 0) u u rest.assignment (omega arith) (agrees_self next u) rest.agrees;
            values = rest.values;
            placed = (rest.agrees.value there.0 (omega (arith, below, less)) ∙ (stay s there is).1, rest.placed);
          }
      | None ↦ λ is.
          let x : Value = value s in
          let v : Valuation = with_next next x u in
          let before = next_agrees next x u in
          let rest = own_valued unit state post value (suc s) more old (next + 1) v (omega (arith, less)) valid (λ y. value_case x u (valid s) all y (nat_eq y next))
          (λ y there found. let both = stay y there found in let few = both.0 in (few, before.value there.0 (omega (arith, few, less)) ∙ both.1)) in
          record {
            assignment = rest.assignment;
            agrees = agrees_on next (next + 1) u v rest.assignment (omega arith) before rest.agrees;
            values = rest.values;
            placed = (rest.agrees.value next (omega arith) ∙ next_is next x u, rest.placed);
          }
    ] refl

-- at a symbol's first place is the value
pub first_valued : (value : ℕ → Value) (w : Valuation) (own rest : List (Sym × Sym)) (x : ℕ) → AllByRecursion (λ p. w.value p.1.0 ≡ value p.0.0) own
    → has_place own x ≡ true → w.value (at_first_place (own ++ rest) x) ≡ value x
first_valued value w [] rest x all has = absurd (cc)
first_valued value w (p ∷ own) rest x all has =
    elim (nat_eq p.0.0 x) as (λ (t : Bool). nat_eq p.0.0 x ≡ t → (t || has_place own x) ≡ true
    → w.value (cond t p.1.0 (at_first_place (own ++ rest) x)) ≡ value x) [
      | true ↦ λ is later. all.0 ∙ ap value (same p.0.0 x is)
      | false ↦ λ is later. first_valued value w own rest x all.1 later
    ] refl has
  where
    same : (a b : ℕ) → nat_eq a b ≡ true → a ≡ b
    same a b e = grind (arith, nat_tests)

-- a symbol below the post's own has none of their places
pub own_passed : (unit : Passage) (state : State) (post : Piece) (s more next x : ℕ) (rest : List (Sym × Sym)) → x < s
    → at_first_place (own_places unit state post s more next ++ rest) x ≡ at_first_place rest x
own_passed unit state post s zero next x rest less = refl
own_passed unit state post s (suc more) next x rest less =
    let then : ℕ = next + new_one (unchanged unit state post s) in
    let there : Sym = unwrap_or (unchanged unit state post s) (numbered next) in
    ap (λ (t : Bool). cond t there.0 (at_first_place (own_places unit state post (suc s) more then ++ rest) x)) (differ s x less)
    ∙ own_passed unit state post (suc s) more then x rest (omega (arith, less))
  where
    differ : (s x : ℕ) → x < s → nat_eq s x ≡ false
    differ s x less = grind (arith, nat_tests)

-- a match without symbols that are kept, and one of a symbol that is kept
pub none_kept : (ps : List (Sym × Sym)) (x : ℕ) → matched 0 ps x ≡ at_first_place ps x
none_kept ps x = ap (λ (t : Bool). cond t x (at_first_place ps x)) (never x)
  where
    never : (x : ℕ) → nat_lt x 0 ≡ false
    never x = grind (arith, nat_tests)

pub one_kept : (kept : ℕ) (ps : List (Sym × Sym)) (x : ℕ) → x < kept → matched kept ps x ≡ x
one_kept kept ps x less = ap (λ (t : Bool). cond t x (at_first_place ps x)) (below x kept less)
  where
    below : (x kept : ℕ) → x < kept → nat_lt x kept ≡ true
    below x kept less = grind (arith, nat_tests)
