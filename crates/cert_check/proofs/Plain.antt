-- Built-in functions that enter nothing: the machine's step comes to the state that the rule gives.
use Rattle.std.proofs.Common.{◌≡◌, ℕ, Bool, true, false, cond, List, ◌∷◌, ◌++◌, map, reverse, Option, None, Some, IfSome, Ok, refl, sym, ap, subst, ◌∙◌}
use Rattle.std.specs.Prelude.{pos}
use Rattle.bv_base.specs.declared.place.Place.{Place}
use Rattle.bv_base.proofs.ThenLemmas.{then_ok}
use Rattle.lin_facts.specs.declared.row.Term.TheVariants.{Length}
use Rattle.name_table.specs.declared.builtin.Builtin.{Builtin}
use Rattle.name_table.specs.declared.builtin.Builtin.TheVariants as op
use Rattle.name_table.specs.declared.names.Kind.{Kind}
use Rattle.name_table.specs.declared.names.Kind.TheVariants as kind
use Rattle.name_table.specs.declared.names.NameId.{NameId}
use Rattle.name_table.specs.declared.style.Style.{Style}
use Rattle.bst_meaning.specs.StyleParts.{kind_of}
use Rattle.bst_meaning.specs.declared.condition.Cond.{Cond}
use Rattle.bst_meaning.specs.EntryLists.{EntryList}
use Rattle.bst_meaning.specs.declared.value.Value.{Value}
use Rattle.bst_meaning.specs.Builtins.{built_in}
use Rattle.bst_meaning.specs.Config.{Config, Variable}
use Rattle.bst_meaning.specs.Effect.{Effect, Entered}
use Rattle.bst_meaning.specs.Invariant.{IsWellFormed}
use Rattle.bst_meaning.specs.Keeping.{is_assign, is_plain, name_on_top}
use Rattle.bst_meaning.specs.Machine.{assigned_by, context_of, with_assigned, with_effect, with_entered}
use Rattle.sym_state.specs.State.{State}
use Rattle.sym_state.specs.Changes.{with_bind}
use Rattle.sym_state.specs.Decided.{ByName, ByNumber, Function, exact_function, exact_text}
use Rattle.sym_state.specs.Demands.{After, Chooses, Gives, Rule}
use Rattle.sym_state.specs.Effects.{assigned, assigned_to, cut_bound, effect_of, fits_exactly, rule_of, string_assigned}
use Rattle.sym_state.specs.References.{at_most}
use Rattle.sym_state.specs.WellMade.{is_variable}
use Rattle.sym_state.specs.declared.hint.Hint.{Hint}
use Rattle.sym_state.specs.declared.symbol.Sym.{Sym}
use Rattle.sym_state.proofs.Ensured.{Ensures, ensured}
use Rattle.sym_state.proofs.KnownKinds.{name_is}
use Rattle.sym_state.proofs.Pushing.{stack_of_tops, without}
use Rattle.builtin_effects.proofs.EffectsCover.{effect_covers}
use Rattle.cert_check.specs.Courses.{Course, behind, gives, placed}
use Rattle.cert_check.specs.Walks.{Scope, confined, hints_at, is_within, plain, written_by}
use Rattle.cert_check.proofs.Inverted.{confined_ok, placed_ok}
use Rattle.cert_check.proofs.Keeping.{Told, effect_follows}
use Rattle.cert_check.proofs.Safety.{SafeAfter, SafeFor, Start, spot_at}
use Rattle.cert_check.proofs.Tokens.{covered_reached, given_among}

-- the top symbol's exact function is a variable that has a value
record NamesVariable (style : Style) (state : State) : Type 0 where
  pub top : Sym
  pub below : List Sym
  pub on_top : reverse state.stack ≡ top ∷ below
  pub name : NameId
  pub named : exact_function state.facts top.0 ≡ Some (ByName name)
  pub kind : Kind
  pub is : kind_of style name ≡ Some kind
  pub variable : is_variable state.at_entry kind ≡ true

-- a rule gives a state there alone
abbrev NamedBy : Style → Cond → State → Rule → Type 0
NamedBy style admits state rule = Ensures admits state (λ after. NamesVariable style state) rule

string_named : (style : Style) (admits : Cond) (state : State) (rest : List Sym) (name : NameId) (most : ℕ) (a : Sym) → NamesVariable style state
    → NamedBy style admits state (string_assigned state name most a (without rest state))
string_named style admits state rest name most a names =
    elim (fits_exactly (exact_text state.facts a.0) most) as (λ (t : Bool). NamedBy style admits state
    (cond t (Gives (with_bind name a (without rest state))) (Chooses true (at_most (Length a.0) (pos most)) (Gives (with_bind name a (without rest state))) (cut_bound name most (without rest state))))) [
      | true ↦ names
      | false ↦ (λ wanted shown. names, names)
    ]

kind_named : (style : Style) (admits : Cond) (state : State) (f : Sym) (below rest : List Sym) (name : NameId) (found : Option Kind) (a : Sym)
    → reverse state.stack ≡ f ∷ below → exact_function state.facts f.0 ≡ Some (ByName name) → kind_of style name ≡ found
    → NamedBy style admits state (assigned state found name a (without rest state))
kind_named style admits state f below rest name (Some kind.IntGlobal) a tops named is = λ met.
    record { top = f; below = below; on_top = tops; name = name; named = named; kind = kind.IntGlobal; is = is; variable = refl }
kind_named style admits state f below rest name (Some kind.StrGlobal) a tops named is = λ met. string_named style admits state rest name 20000 a
    (record { top = f; below = below; on_top = tops; name = name; named = named; kind = kind.StrGlobal; is = is; variable = refl })
kind_named style admits state f below rest name (Some kind.IntEntry) a tops named is = λ there met.
    record { top = f; below = below; on_top = tops; name = name; named = named; kind = kind.IntEntry; is = is; variable = there }
kind_named style admits state f below rest name (Some kind.StrEntry) a tops named is = λ there met. string_named style admits state rest name 250 a
    (record { top = f; below = below; on_top = tops; name = name; named = named; kind = kind.StrEntry; is = is; variable = there })
kind_named style admits state f below rest name _ a tops named is = tt

function_named : (style : Style) (admits : Cond) (state : State) (f : Sym) (below rest : List Sym) (found : Option Function) (a : Sym)
    → reverse state.stack ≡ f ∷ below → exact_function state.facts f.0 ≡ found → NamedBy style admits state (assigned_to style state found a (without rest state))
function_named style admits state f below rest (Some (ByName name)) a tops named = kind_named style admits state f below rest name (kind_of style name) a tops named refl
function_named style admits state f below rest (Some (ByNumber number)) a tops named = tt
function_named style admits state f below rest None a tops named = tt

-- where `:=` has an effect
assign_named : (style : Style) (admits : Cond) (state : State) (hints : List Hint) (after : After) → effect_of style admits state op.Assign hints ≡ Ok after
    → NamesVariable style state
assign_named style admits state hints after e =
    ensured admits state (λ after. NamesVariable style state) (rule_of style admits state op.Assign) hints after
    (λ a f rest tops lower upper. function_named style admits state f (a ∷ rest) rest (exact_function state.facts f.0) a tops refl) e

-- a variable that has a value where no entry is visited is a global one, and its assignment leaves the entries
global_entries : (found : Kind) (at_entry : Bool) (new : Variable) (c : Config) → at_entry ≡ false → is_variable at_entry found ≡ true
    → (assigned_by (Some found) new c).entries ≡ c.entries
global_entries kind.IntGlobal at_entry new c outside is = refl
global_entries kind.StrGlobal at_entry new c outside is = refl
global_entries kind.IntEntry at_entry new c outside is = absurd (no_both at_entry outside is)
  where
    no_both : (t : Bool) → t ≡ false → t ≡ true → ⊥
    no_both true e f = cc
    no_both false e f = cc
global_entries kind.StrEntry at_entry new c outside is = absurd (no_both at_entry outside is)
  where
    no_both : (t : Bool) → t ≡ false → t ≡ true → ⊥
    no_both true e f = cc
    no_both false e f = cc
global_entries _ at_entry new c outside is = absurd (cc)

entered_entries : (style : Style) (o : Option Entered) (at : Place) (c : Config) → (with_entered style o at c).entries ≡ c.entries
entered_entries style None at c = refl
entered_entries style (Some entered) at c = refl

assigned_entries : (style : Style) (o : Option Variable) (c : Config)
    → IfSome o (λ new. (assigned_by (kind_of style new.name) new c).entries ≡ c.entries) → (with_assigned style o c).entries ≡ c.entries
assigned_entries style None c h = refl
assigned_entries style (Some new) c h = h

some_all : {X : Type 0} (P Q : X → Type 0) (o : Option X) → ((x : X) → P x → Q x) → IfSome o P → IfSome o Q
some_all P Q None each h = tt
some_all P Q (Some x) each h = each x h

-- where the state isn't at an entry, `:=` leaves the entries
assign_entries : (scope : Scope) (list : EntryList) (s : Start scope list) (at : Place) (effect : Effect) (hints : List Hint) (after : After)
    → effect_of scope.style scope.cert.cond s.state op.Assign hints ≡ Ok after → built_in op.Assign (context_of scope.style s.c) s.c.stack ≡ Ok effect
    → s.state.at_entry ≡ false → (with_effect scope.style (Ok effect) at s.c).entries ≡ s.c.entries
assign_entries scope list s at effect hints after e machine outside =
    let names = assign_named scope.style scope.cert.cond s.state hints after e in
    let written : Config = record s.c { stack = effect.stack; events = s.c.events ++ effect.wrote; log = s.c.log ++ effect.logged } in
    let tops = stack_of_tops scope.style scope.cert.cond list s.v s.state s.c s.below (names.top ∷ names.below) s.stands names.on_top in
    let value = name_is scope.style s.v names.top.0 s.state.facts names.name s.stands.satisfied.facts names.named in
    let on_top : name_on_top s.c.stack ≡ Some names.name =
    ap name_on_top tops ∙ ap (λ (x : Value). name_on_top (x ∷ (map (λ (y : Sym). s.v.value y.0) names.below ++ s.below))) value in
    entered_entries scope.style effect.entered at (with_assigned scope.style effect.assigned written)
    ∙ assigned_entries scope.style effect.assigned written
    (some_all (λ new. (is_assign op.Assign ≡ true) × (name_on_top s.c.stack ≡ Some new.name)) (λ new. (assigned_by (kind_of scope.style new.name) new written).entries ≡ written.entries)
    effect.assigned (λ new h.
    let same : names.name ≡ new.name = some_is names.name new.name (sym on_top ∙ h.1) in
    subst (λ (found : Option Kind). (assigned_by found new written).entries ≡ written.entries)
    (sym names.is ∙ ap (λ (n : NameId). kind_of scope.style n) same)
    (global_entries names.kind s.state.at_entry new written outside names.variable))
    (s.laws.confined op.Assign (context_of scope.style s.c) s.c.stack effect machine).assigned)
  where
    some_is : (a b : NameId) → Some a ≡ Some b → a ≡ b
    some_is a b e = cc

-- any built-in function that enters nothing
plain_entries : (scope : Scope) (list : EntryList) (s : Start scope list) (o : Builtin) (at : Place) (effect : Effect) (hints : List Hint) (after : After)
    → effect_of scope.style scope.cert.cond s.state o hints ≡ Ok after → built_in o (context_of scope.style s.c) s.c.stack ≡ Ok effect
    → s.state.at_entry ≡ false → (with_effect scope.style (built_in o (context_of scope.style s.c) s.c.stack) at s.c).entries ≡ s.c.entries
plain_entries scope list s o at effect hints after e machine outside = by_still (is_assign o) refl
  where
    assign_case : (b : Builtin) → is_assign b ≡ true → effect_of scope.style scope.cert.cond s.state b hints ≡ Ok after
        → built_in b (context_of scope.style s.c) s.c.stack ≡ Ok effect → (with_effect scope.style (built_in b (context_of scope.style s.c) s.c.stack) at s.c).entries ≡ s.c.entries
    assign_case op.Assign is e machine = ap (λ r. (with_effect scope.style r at s.c).entries) machine ∙ assign_entries scope list s at effect hints after e machine outside
    assign_case _ is e machine = absurd (cc)

    by_still : (t : Bool) → is_assign o ≡ t → (with_effect scope.style (built_in o (context_of scope.style s.c) s.c.stack) at s.c).entries ≡ s.c.entries
    by_still false is = (s.laws.kept scope.style o at s.c).entries is
    by_still true is = assign_case o is e machine

pub plain_safe : (scope : Scope) (list : EntryList) (n : ℕ) (s : Start scope list) (o : Builtin) (place at : Place) (course after : Course) → Told scope
    → is_plain o ≡ true → IsWellFormed scope.style list (with_effect scope.style (built_in o (context_of scope.style s.c) s.c.stack) at s.c)
    → plain scope o place s.state course ≡ Ok after → SafeAfter scope list n s.c.frames s after.given
    → SafeFor scope.style n (with_effect scope.style (built_in o (context_of scope.style s.c) s.c.stack) at s.c)
plain_safe scope list n s o place at course after told is formed e safe =
    let hints = hints_at scope o s.state course in
    let effect = confined (is_within scope.writes (written_by o s.state)) (effect_of scope.style scope.cert.cond s.state o hints) in
    let mid = then_ok (placed place effect) (λ given. gives place given.state (behind hints given.hints course)) after e in
    let inside = confined_ok (is_within scope.writes (written_by o s.state)) (effect_of scope.style scope.cert.cond s.state o hints) mid.0
    (placed_ok place effect mid.0 mid.1) in
    let covers = effect_covers (spot_at scope list s at) o hints mid.0 inside.1 in
    safe mid.0.state covers.assignment (with_effect scope.style (built_in o (context_of scope.style s.c) s.c.stack) at s.c)
    (given_among place mid.0.state (behind hints mid.0.hints course) after mid.2)
    (covered_reached scope list s o at mid.0.state is (effect_follows scope s.state o hints mid.0 told s.made inside.0 inside.1)
    (plain_entries scope list s o at covers.effect hints mid.0 inside.1 covers.gives) formed covers)
