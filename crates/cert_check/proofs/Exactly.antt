-- A function that is known exactly is the one that a value is.
use Rattle.std.proofs.Common.{◌≡◌, ℕ, suc, ◌+◌, Bool, true, false, cond, nat_eq, List, [], ◌∷◌, slice_get, option_map, Option, None, Some, refl, sym, ap, subst, ◌∙◌, arith}
use Rattle.std.specs.List.{AllByRecursion}
use Rattle.std.specs.Option.{option_and_then, option_map_or}
use Rattle.std.proofs.lemmas.Bool.Decides.{nat_tests}
use Rattle.name_table.specs.Sound.{IsSound, block_of}
use Rattle.name_table.specs.declared.names.NameId.{NameId}
use Rattle.name_table.specs.declared.style.Body.{Body}
use Rattle.name_table.specs.declared.style.BodyId.{BodyId}
use Rattle.name_table.specs.declared.style.Style.{Style}
use Rattle.bst_meaning.specs.declared.value.Target.{Target}
use Rattle.bst_meaning.specs.declared.value.Target.TheVariants.{Named, Block}
use Rattle.bst_meaning.specs.declared.value.Value.{Value}
use Rattle.bst_meaning.specs.declared.value.Value.TheVariants as value
use Rattle.sym_state.specs.State.{State}
use Rattle.sym_state.specs.Decided.{ByName, ByNumber, Function, exact_function, function_said}
use Rattle.sym_state.specs.Facts.{FactHolds, IsBlock, Says}
use Rattle.sym_state.specs.Symbols.{Valuation}
use Rattle.sym_state.specs.declared.symbol.Fact.{Fact}
use Rattle.sym_state.specs.declared.symbol.Fact.TheVariants as fact
use Rattle.sym_state.specs.declared.symbol.Sym.{Sym}
use Rattle.sym_state.proofs.Deciding.{from_facts}
use Rattle.sym_state.proofs.KnownKinds.{name_is}
use Rattle.cert_check.specs.Walks.{block_body, exact_target, is_target, target_of}
use Rattle.cert_check.proofs.Safety.{Laws}

same_number : (a b : ℕ) → nat_eq a b ≡ true → a ≡ b
same_number a b e = grind (arith, nat_tests)

-- the body of a block with a number is a block with that number
block_found : (number id : ℕ) (bodies : List Body) (body : BodyId) → block_body number id bodies ≡ Some body
    → (at : ℕ) × (body.0 ≡ id + at) × (option_map (λ (b : Body). b.block) (slice_get bodies at) ≡ Some (Some number))
block_found number id [] body e = absurd (cc)
block_found number id (first ∷ bodies) body e =
    elim (option_map_or (nat_eq number) first.block false) as (λ (t : Bool). option_map_or (nat_eq number) first.block false ≡ t
    → cond t (Some (record { 0 = id })) (block_body number (suc id) bodies) ≡ Some body
    → (at : ℕ) × (body.0 ≡ id + at) × (option_map (λ (b : Body). b.block) (slice_get (first ∷ bodies) at) ≡ Some (Some number))) [
      | true ↦ λ here found. (0, at_first body found, ap Some (its_number first.block here))
      | false ↦ λ here found.
          let later = block_found number (suc id) bodies body found in
          let is = later.1 in
          (suc later.0, omega (arith, is), later.2)
    ] refl e
  where
    at_first : (b : BodyId) → Some (record { 0 = id }) ≡ Some b → b.0 ≡ id + 0
    at_first b e =
        let same : record { 0 = id } ≡ b = cc in
        let is : id ≡ b.0 = ap (λ (x : BodyId). x.0) same in omega (arith, is)

    its_number : (o : Option ℕ) → option_map_or (nat_eq number) o false ≡ true → o ≡ Some number
    its_number (Some n) e = ap Some (sym (same_number number n e))
    its_number None e = absurd (cc)

pub block_is : (style : Style) (number : ℕ) (body : BodyId) → block_body number 0 style.bodies ≡ Some body → block_of body style.bodies ≡ Some (Some number)
block_is style number body e =
    let found = block_found number 0 style.bodies body e in
    let place = found.1 in
    let is : body.0 ≡ found.0 = omega (arith, place) in
    subst (λ (n : ℕ). option_map (λ (b : Body). b.block) (slice_get style.bodies n) ≡ Some (Some number)) (sym is) found.2

block_fact : (style : Style) (x : Value) (said : Fact) (number : ℕ) → function_said said ≡ Some (ByNumber number) → Says style said x → IsBlock style number x
block_fact style x (fact.Block s other) number e h = let same : other ≡ number = cc in subst (λ (n : ℕ). IsBlock style n x) same h
block_fact style x _ number e h = absurd (cc)

-- a function that is known exactly is the one that the symbol's value is
pub exact_is : (style : Style) (laws : Laws) (v : Valuation) (state : State) (s : Sym) (target machine : Target) → IsSound style
    → AllByRecursion (FactHolds style v) state.facts → exact_target style state s ≡ Some target → v.value s.0 ≡ value.Func machine → machine ≡ target
exact_is style laws v state s target machine sound all e is = by_function (exact_function state.facts s.0) refl e
  where
    block_one : (number : ℕ) (o : Option BodyId) (m : Target) → block_body number 0 style.bodies ≡ o → option_map Block o ≡ Some target
        → IsBlock style number (value.Func m) → m ≡ target
    block_one number (Some body) (Block other) found e there =
        let one = laws.one_body style other body number sound there (block_is style number body found) in
        let same : Block body ≡ target = cc in
        ap (λ (n : ℕ). Block (record { 0 = n })) one ∙ same
    block_one number (Some body) (Named name) found e there = absurd there
    block_one number None m found e there = absurd (cc)

    names_same : (name : NameId) → Named name ≡ target → value.Func machine ≡ value.Func (Named name) → machine ≡ target
    names_same name same f = cc

    by_function : (o : Option Function) → exact_function state.facts s.0 ≡ o → option_and_then (target_of style) o ≡ Some target → machine ≡ target
    by_function (Some (ByName name)) known e =
        let there = name_is style v s.0 state.facts name all known in
        let same : Named name ≡ target = cc in
        names_same name same (sym is ∙ there)
    by_function (Some (ByNumber number)) known e =
        let source = from_facts function_said style v s.0 state.facts (ByNumber number) all known in
        block_one number (block_body number 0 style.bodies) machine refl e
        (subst (IsBlock style number) is (block_fact style (v.value s.0) source.fact number source.says source.holds))
    by_function None known e = absurd (cc)

-- two targets that are the same
pub target_same : (a b : Target) → is_target a b ≡ true → a ≡ b
target_same (Named a) (Named b) e =
    ap (λ (n : ℕ). let name : NameId = record { 0 = n } in Named name) (numbers a.0 b.0 e)
  where
    numbers : (m n : ℕ) → nat_eq m n ≡ true → m ≡ n
    numbers m n e = grind (arith, nat_tests)
target_same (Block a) (Block b) e =
    ap (λ (n : ℕ). let body : BodyId = record { 0 = n } in Block body) (numbers a.0 b.0 e)
  where
    numbers : (m n : ℕ) → nat_eq m n ≡ true → m ≡ n
    numbers m n e = grind (arith, nat_tests)
target_same (Named a) (Block b) e = absurd (cc)
target_same (Block a) (Named b) e = absurd (cc)
