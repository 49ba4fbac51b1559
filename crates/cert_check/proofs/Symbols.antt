-- Bindings by the symbols of their names.
use Rattle.std.proofs.Common.{◌≡◌, ℕ, ◌+◌, Bool, true, false, cond, nat_eq, List, [], ◌∷◌, map, Option, None, Some, option_map, refl, sym, ap, subst, ◌∙◌, arith}
use Rattle.std.specs.Prelude.{◌||◌}
use Rattle.std.specs.List.{AllByRecursion}
use Rattle.std.proofs.lemmas.Bool.Decides.{nat_tests}
use Rattle.name_table.specs.declared.names.Kind.{Kind}
use Rattle.name_table.specs.declared.names.NameId.{NameId}
use Rattle.name_table.specs.declared.style.Style.{Style}
use Rattle.bst_meaning.specs.StyleParts.{kind_of}
use Rattle.sym_state.specs.State.{State}
use Rattle.sym_state.specs.Changes.{symbol_at, with_bind}
use Rattle.sym_state.specs.WellMade.{ids_from}
use Rattle.sym_state.specs.declared.symbol.Bind.{Bind}
use Rattle.sym_state.specs.declared.symbol.Sym.{Sym}
use Rattle.sym_state.proofs.Rebound.{symbol_rebound}
use Rattle.builtin_effects.proofs.Rebinding.{Differs, Unique, bound_at, each_once}
use Rattle.cert_check.specs.Uses.{is_among, with_binds}

same_self : (n : ℕ) → nat_eq n n ≡ true
same_self n = grind (arith, nat_tests)

turned : (a b : ℕ) → nat_eq a b ≡ false → nat_eq b a ≡ false
turned a b e = grind (arith, nat_tests)

pub same_name : (a b : NameId) → nat_eq a.0 b.0 ≡ true → a ≡ b
same_name a b e = ap (λ (n : ℕ). let name : NameId = record { 0 = n } in name) (numbers a.0 b.0 e)
  where
    numbers : (m n : ℕ) → nat_eq m n ≡ true → m ≡ n
    numbers m n e = grind (arith, nat_tests)

-- a binding before others that are on other names hides none of them
behind : (b : Bind) (all bs : List Bind) → Differs b.name.0 bs → AllByRecursion (λ c. symbol_at c.name all ≡ Some c.sym) bs
    → AllByRecursion (λ c. symbol_at c.name (b ∷ all) ≡ Some c.sym) bs
behind b all [] differ found = tt
behind b all (c ∷ bs) differ found = (
  ap (λ (t : Bool). cond t (Some b.sym) (symbol_at c.name all)) (turned c.name.0 b.name.0 differ.0) ∙ found.0,
  behind b all bs differ.1 found.1,
)

-- where each name is bound once each binding's symbol is that of its name
pub self_bound : (binds : List Bind) → Unique binds → AllByRecursion (λ b. symbol_at b.name binds ≡ Some b.sym) binds
self_bound [] once = tt
self_bound (b ∷ binds) once = (
  ap (λ (t : Bool). cond t (Some b.sym) (symbol_at b.name binds)) (same_self b.name.0),
  behind b binds binds once.0 (self_bound binds once.1),
)

-- what holds of each name and its symbol holds of each binding
pub by_symbols : (P : NameId → Sym → Type 0) (all : List Bind) → Unique all → ((name : NameId) (s : Sym) → symbol_at name all ≡ Some s → P name s)
    → AllByRecursion (λ b. P b.name b.sym) all
by_symbols P all once each = from all (self_bound all once)
  where
    from : (bs : List Bind) → AllByRecursion (λ b. symbol_at b.name all ≡ Some b.sym) bs → AllByRecursion (λ b. P b.name b.sym) bs
    from [] found = tt
    from (b ∷ bs) found = (each b.name b.sym found.0, from bs found.1)

-- the symbol of a name that is bound
pub record HasSymbol (name : NameId) (binds : List Bind) : Type 0 where
  pub symbol : Sym
  pub is : symbol_at name binds ≡ Some symbol

-- each name whose kind passes the test has a symbol
pub symbol_there : (test : Kind → Bool) (style : Style) (name : NameId) (kind : Kind) (binds : List Bind) → kind_of style name ≡ Some kind → test kind ≡ true
    → map (λ b. b.name) binds ≡ ids_from test 0 style.names → HasSymbol name binds
symbol_there test style name kind binds is passes ids =
    let found = bound_at (λ b. symbol_at b.name binds ≡ Some b.sym) test 0 name.0 style.names kind binds is passes ids
    (self_bound binds (each_once test 0 style.names binds ids)) in
    let from_zero : 0 + name.0 ≡ name.0 = omega arith in
    let named : found.bind.name ≡ name = ap (λ (n : ℕ). let id : NameId = record { 0 = n } in id) (found.named ∙ from_zero) in
    record { symbol = found.bind.sym; is = subst (λ (n : NameId). symbol_at n binds ≡ Some found.bind.sym) named found.holds }

-- after bindings the symbol of a name is that of one of them, or its own where none of them is on the name
pub bound_last : (P : NameId → Sym → Type 0) (written : List Bind) (state : State) (name : NameId) (s : Sym) → AllByRecursion (λ b. P b.name b.sym) written
    → (symbol_at name state.vars ≡ Some s → is_among (map (λ b. b.name) written) name ≡ false → P name s)
    → symbol_at name (with_binds written state).vars ≡ Some s → P name s
bound_last P [] state name s all other e = other e refl
bound_last P (b ∷ written) state name s all other e =
    bound_last P written (with_bind b.name b.sym state) name s all.1 (λ found not. by_test (nat_eq b.name.0 name.0) refl
    (sym (symbol_rebound name b.name b.sym state.vars) ∙ found) not) e
  where
    here : (o : Option Sym) → nat_eq b.name.0 name.0 ≡ true → option_map (λ s. b.sym) o ≡ Some s → P name s
    here None is found = absurd (cc)
    here (Some old) is found =
        let same : b.sym ≡ s = cc in
        subst (λ (x : Sym). P name x) same (subst (λ (n : NameId). P n b.sym) (same_name b.name name is) all.0)

    by_test : (t : Bool) → nat_eq b.name.0 name.0 ≡ t → cond t (option_map (λ s. b.sym) (symbol_at name state.vars)) (symbol_at name state.vars) ≡ Some s
        → is_among (map (λ b. b.name) written) name ≡ false → P name s
    by_test true is found not = here (symbol_at name state.vars) is found
    by_test false is found not =
        other found (ap (λ (t : Bool). t || is_among (map (λ b. b.name) written) name) is ∙ not)

-- a name that is bound isn't among those that aren't
pub not_among : (names : List NameId) (binds : List Bind) (name : NameId) (s : Sym) → AllByRecursion (λ other. symbol_at other binds ≡ None) names
    → symbol_at name binds ≡ Some s → is_among names name ≡ false
not_among [] binds name s none e = refl
not_among (other ∷ names) binds name s none e = by_test (nat_eq other.0 name.0) refl (not_among names binds name s none.1 e)
  where
    by_test : (t : Bool) → nat_eq other.0 name.0 ≡ t → is_among names name ≡ false → (t || is_among names name) ≡ false
    by_test true is later = absurd (no_both (symbol_at name binds) (subst (λ (n : NameId). symbol_at n binds ≡ None) (same_name other name is) none.0) e)
      where
        no_both : (o : Option Sym) → o ≡ None → o ≡ Some s → ⊥
        no_both None a b = cc
        no_both (Some x) a b = cc
    by_test false is later = later
