-- Of the cases of each test, one covers what the machine does.
use Rattle.std.proofs.Common.{◌≡◌, Bool, true, false, List, [], ◌∷◌, ◌++◌, reverse, Option, None, Some, Ok, refl, ap, ◌∙◌}
use Rattle.name_table.specs.declared.builtin.Builtin.TheVariants as op
use Rattle.text_ops.specs.Blank.{blank}
use Rattle.bst_meaning.specs.Builtins.{Context, built_in}
use Rattle.bst_meaning.specs.Effect.{pushed}
use Rattle.bst_meaning.specs.Machine.{context_of}
use Rattle.bst_meaning.specs.Operands.{truth}
use Rattle.bst_meaning.specs.declared.value.Value.{Value}
use Rattle.bst_meaning.specs.declared.value.Value.TheVariants.{Str as StrValue, Missing as MissingValue}
use Rattle.sym_state.specs.declared.hint.Hint.{Hint}
use Rattle.sym_state.specs.declared.symbol.Fact.TheVariants.{Is, Blank, Nonblank}
use Rattle.sym_state.specs.declared.symbol.Kinds.{Kinds}
use Rattle.sym_state.specs.declared.symbol.Kinds.TheVariants.{Int, Str, Missing, Optional, Func, Any}
use Rattle.sym_state.specs.declared.symbol.Sym.{Sym}
use Rattle.sym_state.specs.Cases.{Cases, both, empty, empty_cases, missing, missing_cases}
use Rattle.sym_state.specs.Decided.{emptiness_said, first_said, known_kind}
use Rattle.sym_state.specs.Facts.{emptiness, has_kind}
use Rattle.sym_state.proofs.Deciding.{emptiness_fact, from_facts}
use Rattle.sym_state.proofs.KnownKinds.{known_kind_holds, of_kind_holds}
use Rattle.sym_state.proofs.Below.{one_below}
use Rattle.sym_state.proofs.Ensured.{one_taken}
use Rattle.sym_state.proofs.Frames.{value_list}
use Rattle.sym_state.proofs.Pushing.{without}
use Rattle.sym_state.proofs.Resulting.{both_fit, one_fits}
use Rattle.sym_state.proofs.Spots.{Spot}
use Rattle.refinements.proofs.Taking.{Found, at_one, both_found, decided_found, taken_one}

-- `empty$`
machine_empty : (context : Context) (value : Value) (b : Bool) (stack : List Value) → emptiness value ≡ Some b
    → built_in op.Empty context (value ∷ stack) ≡ pushed (truth b) stack
machine_empty context (StrValue bytes) b stack e = let same : blank bytes ≡ b = cc in ap (λ (t : Bool). pushed (truth t) stack) same
machine_empty context (MissingValue name) b stack e = let same : true ≡ b = cc in ap (λ (t : Bool). pushed (truth t) stack) same
machine_empty context _ b stack e = absurd (cc)

record Emptiness (value : Value) : Type 0 where
  pub empty : Bool
  pub is : emptiness value ≡ Some empty

has_emptiness : (value : Value) → has_kind Optional value ≡ true → Emptiness value
has_emptiness (StrValue bytes) e = record { empty = blank bytes; is = refl }
has_emptiness (MissingValue name) e = record { empty = true; is = refl }
has_emptiness _ e = absurd (cc)

not_empty_string : (value : Value) → emptiness value ≡ Some false → has_kind Str value ≡ true
not_empty_string (StrValue bytes) e = refl
not_empty_string _ e = absurd (cc)

empty_undecided : (p : Spot) (a : Sym) (rest : List Sym) (hints : List Hint) (cases : Cases) (b : Bool) → reverse p.state.stack ≡ a ∷ rest
    → emptiness (p.v.value a.0) ≡ Some b → both (Blank a ∷ []) (Is a Str ∷ (Nonblank a ∷ [])) (without rest p.state) hints ≡ Ok cases
    → Found p op.Empty cases
empty_undecided p a rest hints cases b tops is e =
    let less = (one_below p.style p.state a rest p.made tops).old in
    both_found p op.Empty rest b (Blank a ∷ []) (Is a Str ∷ (Nonblank a ∷ [])) hints cases
    (at_one p op.Empty a rest b tops (machine_empty (context_of p.style p.c) (p.v.value a.0) b (value_list p.v rest ++ p.below) is))
    (one_fits p.style p.state.next (Blank a) less tt tt tt tt)
    (both_fit p.style p.state.next (Is a Str ∷ []) (Nonblank a ∷ []) [] [] (one_fits p.style p.state.next (Is a Str) less tt tt tt tt) (one_fits p.style p.state.next (Nonblank a) less tt tt tt tt))
    (λ t. (is ∙ ap (λ (x : Bool). Some x) t, tt))
    (λ t. (not_empty_string (p.v.value a.0) (is ∙ ap (λ (x : Bool). Some x) t), (is ∙ ap (λ (x : Bool). Some x) t, tt)))
    e

pub empty_found : (p : Spot) (hints : List Hint) (cases : Cases) → empty p.state hints ≡ Ok cases → Found p op.Empty cases
empty_found p hints cases e =
    let f = one_taken Optional p.state (λ one. empty_cases (first_said emptiness_said one.operand.0 p.state.facts) one hints) cases e in
    elim (first_said emptiness_said f.a.0 p.state.facts) as (λ (o : Option Bool). first_said emptiness_said f.a.0 p.state.facts ≡ o
    → empty_cases o (taken_one f.a f.rest p.state) hints ≡ Ok cases → Found p op.Empty cases) [
      | Some b ↦ λ is found.
          let source = from_facts emptiness_said p.style p.v f.a.0 p.state.facts b p.stands.satisfied.facts is in
          let says = emptiness_fact p.style (p.v.value f.a.0) source.fact b source.says source.holds in
          decided_found p op.Empty f.rest b b hints cases
          (at_one p op.Empty f.a f.rest b f.tops (machine_empty (context_of p.style p.c) (p.v.value f.a.0) b (value_list p.v f.rest ++ p.below) says)) refl found
      | None ↦ λ is found.
          let some = has_emptiness (p.v.value f.a.0) (of_kind_holds p.style p.v f.a.0 p.state.facts Optional p.stands.satisfied.facts f.met) in
          empty_undecided p f.a f.rest hints cases some.empty f.tops some.is found
    ] refl f.given

-- `missing$`
abbrev is_missing : Value → Bool
is_missing (MissingValue name) = true
is_missing _ = false

machine_missing : (context : Context) (value : Value) (stack : List Value) → has_kind Optional value ≡ true
    → built_in op.Missing context (value ∷ stack) ≡ pushed (truth (is_missing value)) stack
machine_missing context (StrValue bytes) stack e = refl
machine_missing context (MissingValue name) stack e = refl
machine_missing context _ stack e = absurd (cc)

missing_one : (value : Value) → has_kind Missing value ≡ true → is_missing value ≡ true
missing_one (MissingValue name) e = refl
missing_one _ e = absurd (cc)

string_one : (value : Value) → has_kind Str value ≡ true → is_missing value ≡ false
string_one (StrValue bytes) e = refl
string_one _ e = absurd (cc)

one_missing : (value : Value) → is_missing value ≡ true → has_kind Missing value ≡ true
one_missing (MissingValue name) e = refl
one_missing _ e = absurd (cc)

one_string : (value : Value) → has_kind Optional value ≡ true → is_missing value ≡ false → has_kind Str value ≡ true
one_string (StrValue bytes) o e = refl
one_string _ o e = absurd (cc)

missing_undecided : (p : Spot) (a : Sym) (rest : List Sym) (hints : List Hint) (cases : Cases) → reverse p.state.stack ≡ a ∷ rest
    → has_kind Optional (p.v.value a.0) ≡ true → both (Is a Missing ∷ []) (Is a Str ∷ []) (without rest p.state) hints ≡ Ok cases
    → Found p op.Missing cases
missing_undecided p a rest hints cases tops kind e =
    let less = (one_below p.style p.state a rest p.made tops).old in
    both_found p op.Missing rest (is_missing (p.v.value a.0)) (Is a Missing ∷ []) (Is a Str ∷ []) hints cases
    (at_one p op.Missing a rest (is_missing (p.v.value a.0)) tops (machine_missing (context_of p.style p.c) (p.v.value a.0) (value_list p.v rest ++ p.below) kind))
    (one_fits p.style p.state.next (Is a Missing) less tt tt tt tt) (one_fits p.style p.state.next (Is a Str) less tt tt tt tt)
    (λ t. (one_missing (p.v.value a.0) t, tt)) (λ t. (one_string (p.v.value a.0) kind t, tt)) e

missing_decided : (p : Spot) (a : Sym) (rest : List Sym) (hints : List Hint) (cases : Cases) (kind : Kinds) → reverse p.state.stack ≡ a ∷ rest
    → has_kind Optional (p.v.value a.0) ≡ true → has_kind kind (p.v.value a.0) ≡ true
    → missing_cases kind (taken_one a rest p.state) hints ≡ Ok cases → Found p op.Missing cases
missing_decided p a rest hints cases Missing tops o kind e =
    decided_found p op.Missing rest (is_missing (p.v.value a.0)) true hints cases
    (at_one p op.Missing a rest (is_missing (p.v.value a.0)) tops (machine_missing (context_of p.style p.c) (p.v.value a.0) (value_list p.v rest ++ p.below) o))
    (missing_one (p.v.value a.0) kind) e
missing_decided p a rest hints cases Str tops o kind e =
    decided_found p op.Missing rest (is_missing (p.v.value a.0)) false hints cases
    (at_one p op.Missing a rest (is_missing (p.v.value a.0)) tops (machine_missing (context_of p.style p.c) (p.v.value a.0) (value_list p.v rest ++ p.below) o))
    (string_one (p.v.value a.0) kind) e
missing_decided p a rest hints cases Int tops o kind e = missing_undecided p a rest hints cases tops o e
missing_decided p a rest hints cases Func tops o kind e = missing_undecided p a rest hints cases tops o e
missing_decided p a rest hints cases Optional tops o kind e = missing_undecided p a rest hints cases tops o e
missing_decided p a rest hints cases Any tops o kind e = missing_undecided p a rest hints cases tops o e

pub missing_found : (p : Spot) (hints : List Hint) (cases : Cases) → missing p.state hints ≡ Ok cases → Found p op.Missing cases
missing_found p hints cases e =
    let f = one_taken Optional p.state (λ one. missing_cases (known_kind p.state.facts one.operand.0) one hints) cases e in
    missing_decided p f.a f.rest hints cases (known_kind p.state.facts f.a.0) f.tops
    (of_kind_holds p.style p.v f.a.0 p.state.facts Optional p.stands.satisfied.facts f.met)
    (known_kind_holds p.style p.v f.a.0 p.state.facts p.stands.satisfied.facts) f.given
