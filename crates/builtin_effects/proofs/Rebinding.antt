-- The bindings of a state on variables with new values.
use Rattle.std.proofs.Common.{◌≡◌, ℕ, zero, suc, ◌+◌, ◌<◌, Bool, true, false, cond, nat_eq, List, [], ◌∷◌, map, Some, refl, sym, ap, subst, ◌∙◌, arith}
use Rattle.std.specs.List.{AllByRecursion}
use Rattle.std.proofs.lemmas.Bool.Decides.{nat_tests}
use Rattle.name_table.specs.declared.names.Kind.{Kind}
use Rattle.name_table.specs.declared.names.NameId.{NameId}
use Rattle.name_table.specs.declared.style.Style.{Style}
use Rattle.name_table.specs.Names.{kind_at}
use Rattle.bst_meaning.specs.Config.{Config}
use Rattle.bst_meaning.specs.Machine.{visited_entry}
use Rattle.bst_meaning.specs.StyleParts.{kind_of}
use Rattle.sym_state.specs.declared.symbol.Bind.{Bind}
use Rattle.sym_state.specs.declared.symbol.Sym.{Sym}
use Rattle.sym_state.specs.Changes.{rebound}
use Rattle.sym_state.specs.Stands.{IsBound, value_by}
use Rattle.sym_state.specs.Symbols.{Valuation}
use Rattle.sym_state.specs.WellMade.{ids_from}
use Rattle.sym_state.proofs.Deciding.{same_number}

-- no binding of these is on a name, and each name is bound once
abbrev pub Differs : ℕ → List Bind → Type 0
Differs id binds = AllByRecursion (λ b. nat_eq b.name.0 id ≡ false) binds

abbrev pub Unique : List Bind → Type 0
Unique [] = Unit {0}
Unique (b ∷ binds) = Differs b.name.0 binds × Unique binds

abbrev names_of : List Bind → List NameId
names_of binds = map (λ b. b.name) binds

greater : (n id low : ℕ) → n ≡ id → low < id → nat_eq n low ≡ false
greater n id low e less = grind (arith, nat_tests)

first_differs : (id low : ℕ) (rest : List NameId) (binds : List Bind) → low < id → names_of binds ≡ record { 0 = id } ∷ rest
    → ((bs : List Bind) → names_of bs ≡ rest → Differs low bs) → Differs low binds
first_differs id low rest [] less e later = absurd (cc)
first_differs id low rest (b ∷ binds) less e later =
    let head : b.name ≡ record { 0 = id } = cc in
    let tail : names_of binds ≡ rest = cc in
    (greater b.name.0 id low (ap (λ (n : NameId). n.0) head) less, later binds tail)

pub later_differ : (test : Kind → Bool) (id low : ℕ) (names : List (List ℕ × Kind)) (binds : List Bind) → low < id
    → names_of binds ≡ ids_from test id names → Differs low binds
later_differ test id low [] [] less e = tt
later_differ test id low [] (b ∷ binds) less e = absurd (cc)
later_differ test id low (name ∷ names) binds less e =
    elim (test name.1) as (λ (t : Bool). names_of binds ≡ cond t (record { 0 = id } ∷ ids_from test (suc id) names) (ids_from test (suc id) names)
    → Differs low binds) [
      | true ↦ λ found.
          first_differs id low (ids_from test (suc id) names) binds less found (λ bs is. later_differ test (suc id) low names bs (omega (arith, less)) is)
      | false ↦ λ found. later_differ test (suc id) low names binds (omega (arith, less)) found
    ] e

first_unique : (id : ℕ) (rest : List NameId) (binds : List Bind) → names_of binds ≡ record { 0 = id } ∷ rest
    → ((bs : List Bind) → names_of bs ≡ rest → Differs id bs) → ((bs : List Bind) → names_of bs ≡ rest → Unique bs) → Unique binds
first_unique id rest [] e differ later = absurd (cc)
first_unique id rest (b ∷ binds) e differ later =
    let head : b.name ≡ record { 0 = id } = cc in
    let tail : names_of binds ≡ rest = cc in
    (subst (λ (n : NameId). Differs n.0 binds) (sym head) (differ binds tail), later binds tail)

pub each_once : (test : Kind → Bool) (id : ℕ) (names : List (List ℕ × Kind)) (binds : List Bind) → names_of binds ≡ ids_from test id names → Unique binds
each_once test id [] [] e = tt
each_once test id [] (b ∷ binds) e = absurd (cc)
each_once test id (name ∷ names) binds e =
    elim (test name.1) as (λ (t : Bool). names_of binds ≡ cond t (record { 0 = id } ∷ ids_from test (suc id) names) (ids_from test (suc id) names)
    → Unique binds) [
      | true ↦ λ found.
          first_unique id (ids_from test (suc id) names) binds found (λ bs is. later_differ test (suc id) id names bs (omega arith) is)
          (λ bs is. each_once test (suc id) names bs is)
      | false ↦ λ found. each_once test (suc id) names binds found
    ] e

-- the binding of a name whose kind passes the test
pub record Found (P : Bind → Type 0) (id : ℕ) : Type 0 where
  pub bind : Bind
  pub named : bind.name.0 ≡ id
  pub holds : P bind

first_found : (P : Bind → Type 0) (id : ℕ) (rest : List NameId) (binds : List Bind) → names_of binds ≡ record { 0 = id } ∷ rest
    → AllByRecursion P binds → Found P id
first_found P id rest [] e all = absurd (cc)
first_found P id rest (b ∷ binds) e all =
    let head : b.name ≡ record { 0 = id } = cc in record { bind = b; named = ap (λ (n : NameId). n.0) head; holds = all.0 }

others_found : (P : Bind → Type 0) (id goal : ℕ) (rest : List NameId) (binds : List Bind) → names_of binds ≡ record { 0 = id } ∷ rest
    → AllByRecursion P binds → ((bs : List Bind) → names_of bs ≡ rest → AllByRecursion P bs → Found P goal) → Found P goal
others_found P id goal rest [] e all later = absurd (cc)
others_found P id goal rest (b ∷ binds) e all later = let tail : names_of binds ≡ rest = cc in later binds tail all.1

pub bound_at : (P : Bind → Type 0) (test : Kind → Bool) (id i : ℕ) (names : List (List ℕ × Kind)) (kind : Kind) (binds : List Bind)
    → kind_at (record { 0 = i }) names ≡ Some kind → test kind ≡ true → names_of binds ≡ ids_from test id names → AllByRecursion P binds → Found P (id + i)
bound_at P test id i [] kind binds is passes e all = absurd (cc)
bound_at P test id zero (name ∷ names) kind binds is passes e all =
    let same : kind ≡ name.1 = cc in
    let takes : test name.1 ≡ true = subst (λ (k : Kind). test k ≡ true) same passes in
    let ids : names_of binds ≡ record { 0 = id } ∷ ids_from test (suc id) names =
    e ∙ ap (λ (t : Bool). cond t (record { 0 = id } ∷ ids_from test (suc id) names) (ids_from test (suc id) names)) takes in
    let none : id ≡ id + 0 = omega arith in
    subst (λ (n : ℕ). Found P n) none (first_found P id (ids_from test (suc id) names) binds ids all)
bound_at P test id (suc i) (name ∷ names) kind binds is passes e all =
    let rest : List NameId = ids_from test (suc id) names in
    let next : suc id + i ≡ id + suc i = omega arith in
    let later : (bs : List Bind) → names_of bs ≡ rest → AllByRecursion P bs → Found P (id + suc i) =
    λ bs ids each. subst (λ (n : ℕ). Found P n) next (bound_at P test (suc id) i names kind bs is passes ids each) in
    elim (test name.1) as (λ (t : Bool). names_of binds ≡ cond t (record { 0 = id } ∷ rest) rest → Found P (id + suc i)) [
      | true ↦ λ found. others_found P id (id + suc i) rest binds found all later
      | false ↦ λ found. later binds found all
    ] e

-- the value of one name changes, and its binding with it
abbrev pub Kept : Style → NameId → Config → Config → Type 0
Kept style name c after = (n : NameId) → nat_eq n.0 name.0 ≡ false → value_by (kind_of style n) n after.globals (visited_entry after) ≡ value_by (kind_of style n) n c.globals (visited_entry c)

others_bound : (style : Style) (w : Valuation) (name : NameId) (c after : Config) (binds : List Bind) → Kept style name c after
    → Differs name.0 binds → AllByRecursion (IsBound style w c.globals (visited_entry c)) binds → AllByRecursion (IsBound style w after.globals (visited_entry after)) binds
others_bound style w name c after [] kept differ all = tt
others_bound style w name c after (b ∷ binds) kept differ all =
    (kept b.name differ.0 ∙ all.0, others_bound style w name c after binds kept differ.1 all.1)

pub rebound_bound : (style : Style) (w : Valuation) (name : NameId) (s : Sym) (c after : Config) (binds : List Bind) → Kept style name c after
    → value_by (kind_of style name) name after.globals (visited_entry after) ≡ Some (w.value s.0) → Unique binds → AllByRecursion (IsBound style w c.globals (visited_entry c)) binds
    → AllByRecursion (IsBound style w after.globals (visited_entry after)) (rebound name s binds)
rebound_bound style w name s c after [] kept here once all = tt
rebound_bound style w name s c after (b ∷ binds) kept here once all =
    elim (nat_eq b.name.0 name.0) as (λ (t : Bool). nat_eq b.name.0 name.0 ≡ t
    → AllByRecursion (IsBound style w after.globals (visited_entry after)) (cond t (record { name = name; sym = s } ∷ binds) (b ∷ rebound name s binds))) [
      | true ↦ λ is.
          (here, others_bound style w name c after binds kept (subst (λ (n : ℕ). Differs n binds) (same_number b.name.0 name.0 is) once.0) all.1)
      | false ↦ λ is. (kept b.name is ∙ all.0, rebound_bound style w name s c after binds kept here once.1 all.1)
    ] refl
