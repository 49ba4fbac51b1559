-- A binding that is replaced.
use Rattle.std.proofs.Common.{◌≡◌, ℕ, zero, suc, ◌<◌, ap, sym, ◌∙◌, refl, true, false, cond, nat_eq, Bool, Option, None, Some, is_some, option_map, List, [], ◌∷◌, ◌++◌, length, map, reverse, take, drop, get_or, arith}
use Rattle.std.specs.List.{All, find}
use Rattle.std.specs.Option.{option_map_or}
use Rattle.std.proofs.Math.ListN.{set}
use Rattle.std.proofs.lemmas.Bool.Decides.{nat_tests}
use Rattle.std.proofs.lemmas.List.{reverse-append}
use Rattle.std.proofs.lemmas.List.Elements.{All-cons, All-head, All-tail, All-same}
use Rattle.name_table.specs.declared.names.NameId.{NameId}
use Rattle.name_table.specs.declared.style.Style.{Style}
use Rattle.sym_state.specs.declared.symbol.Bind.{Bind}
use Rattle.sym_state.specs.declared.symbol.Sym.{Sym}
use Rattle.sym_state.specs.State.{State}
use Rattle.sym_state.specs.Changes.{changed, rebound, symbol_at}
use Rattle.sym_state.specs.WellMade.{WellMade}

found_first : (name : NameId) (new : Sym) (b : Bind) (bs : List Bind) → b.name.0 ≡ name.0 → record { name = name; sym = new } ∷ bs ≡ rebound name new (b ∷ bs)
found_first name new b bs e = grind (arith, nat_tests)

-- the first binding of a name is where it is found
pub set_found : (name : NameId) (new : Sym) (bs : List Bind) (i : ℕ) (d : Bind) → i < length bs → (get_or bs i d).name.0 ≡ name.0
    → set bs i (record { name = name; sym = new }) ≡ take i bs ++ rebound name new (drop i bs)
set_found name new [] i d h e = absurd (omega arith)
set_found name new (b ∷ bs) zero d h e = found_first name new b bs e
set_found name new (b ∷ bs) (suc i) d h e = ap (λ (rest : List Bind). b ∷ rest) (set_found name new bs i d (omega arith) e)

same_number : (a b : ℕ) → nat_eq a b ≡ true → a ≡ b
same_number a b e = grind (arith, nat_tests)

-- what holds of each binding and of the new one holds of each binding then
pub All_rebound : (P : Bind → Type 0) (name : NameId) (new : Sym) (bs : List Bind) → P (record { name = name; sym = new }) → All P bs → All P (rebound name new bs)
All_rebound P name new [] p all = all
All_rebound P name new (b ∷ bs) p all =
    elim (nat_eq b.name.0 name.0) as (λ t. All P (cond t (record { name = name; sym = new } ∷ bs) (b ∷ rebound name new bs))) [
      | true ↦ All-cons P _ _ p (All-tail P b bs all)
      | false ↦ All-cons P _ _ (All-head P b bs all) (All_rebound P name new bs p (All-tail P b bs all))
    ]

-- the names stay
pub names_rebound : (name : NameId) (new : Sym) (bs : List Bind) → map (λ b. b.name) (rebound name new bs) ≡ map (λ b. b.name) bs
names_rebound name new [] = refl
names_rebound name new (b ∷ bs) =
    elim (nat_eq b.name.0 name.0) as (λ t. nat_eq b.name.0 name.0 ≡ t → map (λ a. a.name) (cond t (record { name = name; sym = new } ∷ bs) (b ∷ rebound name new bs)) ≡ b.name ∷ map (λ a. a.name) bs) [
      | true ↦ λ e. ap (λ (n : ℕ). let id : NameId = record { 0 = n } in id ∷ map (λ a. a.name) bs) (sym (same_number b.name.0 name.0 e))
      | false ↦ λ e. ap (λ (names : List NameId). b.name ∷ names) (names_rebound name new bs)
    ] refl

-- a state with another binding is well made
pub bind_kept : (style : Style) (name : NameId) (new : Sym) (state : State) (vars fields : List Bind)
    → vars ≡ rebound name new state.vars → fields ≡ rebound name new state.fields
    → WellMade style state → new.0 < state.next → WellMade style (record state { vars = vars; fields = fields })
bind_kept style name new state vars fields v f made below = record {
  stack = made.stack;
  vars = All-same (λ b. b.sym.0 < state.next) vars _ v (All_rebound (λ b. b.sym.0 < state.next) name new state.vars below made.vars);
  fields = All-same (λ b. b.sym.0 < state.next) fields _ f (All_rebound (λ b. b.sym.0 < state.next) name new state.fields below made.fields);
  facts = made.facts;
  rows = made.rows;
  binds_vars = ap (λ (bs : List Bind). map (λ b. b.name) bs) v ∙ names_rebound name new state.vars ∙ made.binds_vars;
  binds_fields = ap (λ (bs : List Bind). map (λ b. b.name) bs) f ∙ names_rebound name new state.fields ∙ made.binds_fields;
  of_style = made.of_style;
  integers = made.integers;
  bytes = made.bytes;
  bounds = record { facts = made.bounds.facts; rows = made.bounds.rows };
}

-- a name that is rebound has the new symbol where it is bound, and each other name has its own
pub symbol_rebound : (name other : NameId) (new : Sym) (binds : List Bind)
    → symbol_at name (rebound other new binds)
    ≡ cond (nat_eq other.0 name.0) (option_map (λ s. new) (symbol_at name binds)) (symbol_at name binds)
symbol_rebound name other new [] = by_test (nat_eq other.0 name.0)
  where
    by_test : (t : Bool) → None ≡ cond t (option_map (λ (s : Sym). new) None) None
    by_test true = refl
    by_test false = refl
symbol_rebound name other new (b ∷ bs) =
    elim (nat_eq b.name.0 other.0) as (λ t. nat_eq b.name.0 other.0 ≡ t
    → symbol_at name (cond t (record { name = other; sym = new } ∷ bs) (b ∷ rebound other new bs))
    ≡ cond (nat_eq other.0 name.0) (option_map (λ s. new) (symbol_at name (b ∷ bs))) (symbol_at name (b ∷ bs))) [
      | true ↦ λ e. the_same (nat_eq other.0 name.0) ∙ ap (λ t. cond (nat_eq other.0 name.0) (option_map (λ s. new) (cond t (Some b.sym) (symbol_at name bs))) (cond t (Some b.sym) (symbol_at name bs)))
          (ap (λ (n : ℕ). nat_eq n name.0) (sym (same_number b.name.0 other.0 e)))
      | false ↦ λ e. another (nat_eq other.0 name.0) (nat_eq b.name.0 name.0) refl refl e (symbol_rebound name other new bs)
    ] refl
  where
    the_same : (on : Bool) → cond on (Some new) (symbol_at name bs)
        ≡ cond on (option_map (λ s. new) (cond on (Some b.sym) (symbol_at name bs))) (cond on (Some b.sym) (symbol_at name bs))
    the_same true = refl
    the_same false = refl

    another : (on bn : Bool) → nat_eq other.0 name.0 ≡ on → nat_eq b.name.0 name.0 ≡ bn → nat_eq b.name.0 other.0 ≡ false
        → symbol_at name (rebound other new bs) ≡ cond on (option_map (λ s. new) (symbol_at name bs)) (symbol_at name bs)
        → cond bn (Some b.sym) (symbol_at name (rebound other new bs))
        ≡ cond on (option_map (λ s. new) (cond bn (Some b.sym) (symbol_at name bs))) (cond bn (Some b.sym) (symbol_at name bs))
    another true true on bn not e = absurd (grind (arith, nat_tests))
    another true false on bn not e = e
    another false true on bn not e = refl
    another false false on bn not e = e

-- what is bound after changes: the newest change of the name counts, where it is bound
pub symbol_changed : (name : NameId) (changes binds : List Bind)
    → symbol_at name (changed changes binds)
    ≡ option_map (λ first. option_map_or (λ (b : Bind). b.sym) (find (λ b. nat_eq b.name.0 name.0) changes) first) (symbol_at name binds)
symbol_changed name [] binds = by_first (symbol_at name binds)
  where
    by_first : (o : Option Sym) → o ≡ option_map (λ first. first) o
    by_first (Some s) = refl
    by_first None = refl
symbol_changed name (change ∷ older) binds =
    symbol_rebound name change.name change.sym (changed older binds) ∙ by_name (nat_eq change.name.0 name.0) (symbol_at name binds) (symbol_changed name older binds)
  where
    by_name : (same : Bool) (o : Option Sym)
        → symbol_at name (changed older binds) ≡ option_map (λ first. option_map_or (λ (b : Bind). b.sym) (find (λ b. nat_eq b.name.0 name.0) older) first) o
        → cond same (option_map (λ s. change.sym) (symbol_at name (changed older binds))) (symbol_at name (changed older binds))
        ≡ option_map (λ first. option_map_or (λ (b : Bind). b.sym) (cond same (Some change) (find (λ b. nat_eq b.name.0 name.0) older)) first) o
    by_name true (Some s) e = ap (option_map (λ s. change.sym)) e
    by_name true None e = ap (option_map (λ s. change.sym)) e
    by_name false o e = e

-- a name that isn't bound can't be rebound
pub rebound_none : (name : NameId) (new : Sym) (binds : List Bind) → symbol_at name binds ≡ None → rebound name new binds ≡ binds
rebound_none name new [] e = refl
rebound_none name new (b ∷ bs) e =
    elim (nat_eq b.name.0 name.0) as (λ t. cond t (Some b.sym) (symbol_at name bs) ≡ None
    → cond t (record { name = name; sym = new } ∷ bs) (b ∷ rebound name new bs) ≡ b ∷ bs) [
      | true ↦ λ e. absurd (cc)
      | false ↦ λ e. ap (λ (rest : List Bind). b ∷ rest) (rebound_none name new bs e)
    ] e

-- what a look-up among the first bindings and then among the changes gives
pub symbol_found : (name : NameId) (changes binds : List Bind) (first : Option Sym) → first ≡ symbol_at name binds
    → option_map (λ s. option_map_or (λ (b : Bind). b.sym) (find (λ b. nat_eq b.name.0 name.0) changes) s) first ≡ symbol_at name (changed changes binds)
symbol_found name changes binds first e =
    ap (option_map (λ s. option_map_or (λ (b : Bind). b.sym) (find (λ b. nat_eq b.name.0 name.0) changes) s)) e ∙ sym (symbol_changed name changes binds)

-- a name that isn't bound among the first bindings stays unbound
pub changed_none : (name : NameId) (new : Sym) (changes binds : List Bind) → is_some (symbol_at name binds) ≡ false
    → rebound name new (changed changes binds) ≡ changed changes binds
changed_none name new changes binds e =
    rebound_none name new (changed changes binds) (sym (symbol_found name changes binds None (none (symbol_at name binds) e)))
  where
    none : (o : Option Sym) → is_some o ≡ false → None ≡ o
    none None e = refl
    none (Some s) e = absurd (cc)

-- the newest change is the last one of a list
pub changed_last : (change : Bind) (changes binds : List Bind)
    → changed (reverse (changes ++ change ∷ [])) binds ≡ rebound change.name change.sym (changed (reverse changes) binds)
changed_last change changes binds = ap (λ (all : List Bind). changed all binds) (reverse-append changes (change ∷ []))
