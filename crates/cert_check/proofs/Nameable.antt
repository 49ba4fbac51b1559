-- What a state knows exactly may be named in a certificate.
use Rattle.std.proofs.Common.{◌≡◌, ℕ, zero, suc, ◌+◌, ◌<◌, List, [], ◌∷◌, length, map, slice_get, Option, None, Some, is_some, Bool, true, false, cond, nat_eq, refl, subst, ◌∙◌, arith}
use Rattle.std.specs.List.{All}
use Rattle.std.specs.Option.{option_and_then, option_map, option_or}
use Rattle.std.proofs.lemmas.List.Elements.{All-head, All-tail}
use Rattle.name_table.specs.Names.{kind_at}
use Rattle.name_table.specs.Sound.{AreNumbered, IsSound}
use Rattle.name_table.specs.declared.names.Kind.{Kind}
use Rattle.name_table.specs.declared.names.NameId.{NameId}
use Rattle.name_table.specs.declared.style.Body.{Body}
use Rattle.name_table.specs.declared.style.BodyId.{BodyId}
use Rattle.name_table.specs.declared.style.Style.{Style}
use Rattle.bst_meaning.specs.declared.value.Target.{Target}
use Rattle.bst_meaning.specs.declared.value.Target.TheVariants.{Named, Block}
use Rattle.cert_format.specs.CertText.{IsNameable}
use Rattle.sym_state.specs.Decided.{Function, ByName, ByNumber, exact_function, first_said, function_said}
use Rattle.sym_state.specs.Demands.{Two}
use Rattle.sym_state.specs.Facts.{subject}
use Rattle.sym_state.specs.State.{State}
use Rattle.sym_state.specs.WellMade.{IsOfStyle, WellMade}
use Rattle.sym_state.specs.declared.symbol.Fact.{Fact}
use Rattle.sym_state.specs.declared.symbol.Fact.TheVariants as fact
use Rattle.sym_state.specs.declared.symbol.Sym.{Sym}
use Rattle.cert_check.specs.Walks.{Scope, While, block_body, exact_target, target_of, while_by, while_of}
use Rattle.cert_check.proofs.Exactly.{block_is}

-- a name of the style has a kind
kind_there : (names : List (List ℕ × Kind)) (id : ℕ) → id < length names → is_some (kind_at (record { 0 = id }) names) ≡ true
kind_there [] id within = absurd (omega (arith, within))
kind_there (name ∷ names) zero within = refl
kind_there (name ∷ names) (suc id) within = kind_there names id (omega (arith, within))

-- numbers of blocks are fewer than there are bodies
few_here : (o : Option ℕ) (n number : ℕ) (bodies : List Body) → AreNumbered n (o ∷ map (λ body. body.block) bodies) → Some o ≡ Some (Some number)
    → number < n + suc (length bodies)
few_here None n number bodies h e = absurd (cc)
few_here (Some k) n number bodies h e = (let same : k ≡ number = cc in let first = h.0 in omega (arith, same, first))

few_behind : (o : Option ℕ) (n number : ℕ) (bodies : List Body) → AreNumbered n (o ∷ map (λ body. body.block) bodies)
    → ((m : ℕ) → AreNumbered m (map (λ body. body.block) bodies) → number < m + length bodies) → number < n + suc (length bodies)
few_behind None n number bodies h later = (let few = later n h in omega (arith, few))
few_behind (Some k) n number bodies h later = (let few = later (suc n) h.1 in omega (arith, few))

block_few : (bodies : List Body) (n at number : ℕ) → AreNumbered n (map (λ body. body.block) bodies)
    → option_map (λ (body : Body). body.block) (slice_get bodies at) ≡ Some (Some number) → number < n + length bodies
block_few [] n at number order is = absurd (cc)
block_few (body ∷ bodies) n zero number order is = few_here body.block n number bodies order is
block_few (body ∷ bodies) n (suc at) number order is = few_behind body.block n number bodies order (λ m h. block_few bodies m at number h is)

-- a function by its name is one of the style
abbrev IsThere : Style → Function → Type 0
IsThere style (ByName name) = name.0 < length style.names
IsThere style (ByNumber number) = Unit {0}

said_there : (style : Style) (f : Function) (said : Fact) → IsOfStyle style said → function_said said ≡ Some f → IsThere style f
said_there style (ByName name) (fact.Call s other) of_style e =
    let same : other ≡ name = cc in subst (λ (id : NameId). id.0 < length style.names) same of_style
said_there style (ByName name) _ of_style e = absurd (cc)
said_there style (ByNumber number) said of_style e = tt

first_there : (style : Style) (f : Function) (s : ℕ) (facts : List Fact) → All (IsOfStyle style) facts → first_said function_said s facts ≡ Some f
    → IsThere style f
first_there style f s [] all e = absurd (cc)
first_there style f s (said ∷ facts) all e =
    let rest = first_there style f s facts (All-tail (IsOfStyle style) said facts all) in
    elim (nat_eq (subject said) s)
    as (λ (t : Bool). cond t (option_or (function_said said) (first_said function_said s facts)) (first_said function_said s facts) ≡ Some f → IsThere style f) [
      | true ↦ λ found. elim (function_said said)
          as (λ (o : Option Function). function_said said ≡ o → option_or o (first_said function_said s facts) ≡ Some f → IsThere style f) [
            | Some other ↦ λ is some. said_there style f said (All-head (IsOfStyle style) said facts all) (is ∙ some)
            | None ↦ λ is some. rest some
          ] refl found
      | false ↦ λ found. rest found
    ] e

-- what a symbol exactly is
exact_named : (style : Style) (state : State) (s : Sym) (target : Target) → IsSound style → WellMade style state → exact_target style state s ≡ Some target
    → IsNameable style target
exact_named style state s target sound made e = by_function (exact_function state.facts s.0) refl e
  where
    block_named : (number : ℕ) (o : Option BodyId) → block_body number 0 style.bodies ≡ o → option_map Block o ≡ Some target → IsNameable style target
    block_named number (Some body) found e =
        let there = block_is style number body found in
        let few = block_few style.bodies 0 body.0 number sound.numbered there in
        let most = sound.few_bodies in
        let same : Block body ≡ target = cc in
        subst (IsNameable style) same (number, there, omega (arith, few, most))
    block_named number None found e = absurd (cc)

    by_function : (o : Option Function) → exact_function state.facts s.0 ≡ o → option_and_then (target_of style) o ≡ Some target → IsNameable style target
    by_function (Some (ByName name)) known e =
        let there = first_there style (ByName name) s.0 state.facts made.of_style known in
        let same : Named name ≡ target = cc in
        subst (IsNameable style) same (kind_there style.names name.0 there)
    by_function (Some (ByNumber number)) known e = block_named number (block_body number 0 style.bodies) refl e
    by_function None known e = absurd (cc)

-- both functions of a `while$` are
both_named : (style : Style) (rest : State) (one : While) (test body : Option Target) → ((target : Target) → test ≡ Some target → IsNameable style target)
    → ((target : Target) → body ≡ Some target → IsNameable style target) → while_by test body rest ≡ Some one
    → IsNameable style one.test × IsNameable style one.body
both_named style rest one (Some test) (Some body) names named e =
    let same : record { test = test; body = body; rest = rest } ≡ one = cc in
    subst (λ (w : While). IsNameable style w.test × IsNameable style w.body) same (names test refl, named body refl)
both_named style rest one (Some test) None names named e = absurd (cc)
both_named style rest one None body names named e = absurd (cc)

pub while_named : (scope : Scope) (state : State) (two : Two) (one : While) → IsSound scope.style → WellMade scope.style state
    → while_of scope state two ≡ Some one → IsNameable scope.style one.test × IsNameable scope.style one.body
while_named scope state two one sound made e =
    both_named scope.style two.rest one (exact_target scope.style state two.lower) (exact_target scope.style state two.upper)
    (λ target is. exact_named scope.style state two.lower target sound made is) (λ target is. exact_named scope.style state two.upper target sound made is) e
