-- A step of the machine where a token is taken from a state: it comes to a state that the token gives.
use Rattle.std.proofs.Common.{◌≡◌, ℕ, ◌<◌, Bool, true, false, List, [], ◌∷◌, ◌++◌, reverse, slice_get, Option, None, Some, Ok, Err, refl, sym, ap, subst, ◌∙◌, inl}
use Rattle.std.specs.Option.{option_map_or, option_or}
use Rattle.std.proofs.lemmas.List.{reverse-append}
use Rattle.bv_base.specs.declared.place.Place.{Place}
use Rattle.bv_base.proofs.ThenLemmas.{then_ok}
use Rattle.name_table.specs.Numbers.{IsByteList}
use Rattle.name_table.specs.Sound.{IsTokenSound, block_of}
use Rattle.name_table.specs.declared.builtin.Builtin.{Builtin}
use Rattle.name_table.specs.declared.builtin.Builtin.TheVariants as op
use Rattle.name_table.specs.declared.names.Kind.{Kind}
use Rattle.name_table.specs.declared.names.Kind.TheVariants as kind
use Rattle.name_table.specs.declared.names.NameId.{NameId}
use Rattle.name_table.specs.declared.style.Style.{Style}
use Rattle.name_table.specs.declared.style.Token.{Token}
use Rattle.name_table.specs.declared.style.Token.TheVariants as token
use Rattle.name_table.proofs.Within.{got}
use Rattle.bst_meaning.specs.StyleParts.{kind_of, text_of}
use Rattle.bst_meaning.specs.EntryLists.{EntryList}
use Rattle.bst_meaning.specs.declared.value.Target.TheVariants.{Named, Block}
use Rattle.bst_meaning.specs.declared.value.Value.{Value}
use Rattle.bst_meaning.specs.declared.value.Value.TheVariants as value
use Rattle.bst_meaning.specs.Builtins.{built_in}
use Rattle.bst_meaning.specs.Config.{Config, Variable}
use Rattle.bst_meaning.specs.Effect.{Effect, Entered}
use Rattle.bst_meaning.specs.Invariant.{IsWellFormed}
use Rattle.bst_meaning.specs.Keeping.{IsKept, is_assign, is_plain}
use Rattle.bst_meaning.specs.Machine.{assigned_by, call_step, context_of, token_step, visited_entry, with_assigned, with_effect, with_entered, with_found, with_value}
use Rattle.sym_state.specs.State.{State}
use Rattle.sym_state.specs.Cases.{split_of}
use Rattle.sym_state.specs.Changes.{bound, symbol_at}
use Rattle.sym_state.specs.Covers.{Covers}
use Rattle.sym_state.specs.Facts.{FactHolds, IsBlock, has_kind}
use Rattle.sym_state.specs.Results.{next_of, with_top}
use Rattle.sym_state.specs.Stands.{Stands, value_by}
use Rattle.sym_state.specs.Symbols.{IsValue, Valuation}
use Rattle.sym_state.specs.declared.symbol.Fact.{Fact}
use Rattle.sym_state.specs.declared.symbol.Fact.TheVariants as fact
use Rattle.sym_state.specs.declared.symbol.Kinds.{Kinds}
use Rattle.sym_state.specs.declared.symbol.Kinds.TheVariants.{Int, Str, Func}
use Rattle.sym_state.specs.declared.symbol.Sym.{Sym}
use Rattle.sym_state.specs.declared.test.Test.{Test}
use Rattle.sym_state.specs.declared.test.Test.TheVariants as test
use Rattle.sym_state.proofs.Entailed.{found_value}
use Rattle.sym_state.proofs.Frames.{agrees_self, next_agrees, next_is, with_next}
use Rattle.sym_state.proofs.Pushing.{moved, pushed, tops_below, with_stack, without}
use Rattle.builtin_effects.proofs.Covering.{untaken}
use Rattle.refinements.specs.Covered.{IsAmong, function_of}
use Rattle.refinements.proofs.Covering.{among_later}
use Rattle.refinements.proofs.Found.{test_found}
use Rattle.cert_check.specs.declared.refusal.Refusal.{Refusal}
use Rattle.cert_check.specs.Courses.{Course, behind, gives, gives_all, placed}
use Rattle.cert_check.specs.Walks.{Enter, Scope, hints_of_test, literal, number_of, split, test_of, token_taken, variable}
use Rattle.cert_check.proofs.Inverted.{gives_all_ok, gives_ok, placed_ok}
use Rattle.cert_check.proofs.Followed.{Follows, among_all}
use Rattle.cert_check.proofs.Keeping.{Told, bound_below, number_is, of_text, split_follow, test_fits, token_follows, top_follows}
use Rattle.cert_check.proofs.Safety.{Reaches, Remains, SafeAfter, SafeFor, Start, remains_framed, spot_at}

-- a value is put on top: the state with the new symbol is reached
put_reached : (scope : Scope) (list : EntryList) (s : Start scope list) (kind : Kinds) (said : Fact) (x : Value) → IsValue x → has_kind kind x ≡ true
    → FactHolds scope.style (with_next s.state.next x s.v) said → IsWellFormed scope.style list (with_value x s.c)
    → Follows scope s.state (literal kind said s.state)
    → Reaches scope list s.c.frames s (literal kind said s.state) (with_next s.state.next x s.v) (with_value x s.c)
put_reached scope list s kind said x is of_kind fine formed follows =
    let w : Valuation = with_next s.state.next x s.v in
    let tops : List Sym = reverse s.state.stack in
    let given = pushed scope.style scope.cert.cond list s.v s.state s.c s.below tops kind (said ∷ []) [] x s.c.events s.c.log s.made s.stands
    (tops_below scope.style s.state tops s.made refl) is of_kind (fine, tt) tt in
    record {
      follows = follows;
      agrees = next_agrees s.state.next x s.v;
      remains = remains_framed s.state.at_entry s.c.frames s.c (with_value x s.c) s.goes refl refl refl refl refl;
      formed = formed;
      stands = subst (λ (old : State). Stands scope.style scope.cert.cond list w (literal kind said old) (with_value x s.c) s.below) (untaken s.state)
          (subst (λ (l : List Value). Stands scope.style scope.cert.cond list w (literal kind said (without tops s.state)) (with_stack (x ∷ l) s.c.events s.c.log s.c) s.below)
          (sym s.stands.stack) given);
    }

-- the state that one rule gives is among those after it
pub given_among : (place : Place) (state : State) (course after : Course) → gives place state course ≡ Ok after → IsAmong state after.given
given_among place state course after e =
    subst (λ (c : Course). IsAmong state c.given) (sym (gives_ok place state course after e)) (among_later state course.given (state ∷ []) (inl refl))

literal_safe : (scope : Scope) (list : EntryList) (n : ℕ) (s : Start scope list) (kind : Kinds) (said : Fact) (x : Value) (place : Place) (course after : Course)
    → IsValue x → has_kind kind x ≡ true → FactHolds scope.style (with_next s.state.next x s.v) said → IsWellFormed scope.style list (with_value x s.c)
    → Follows scope s.state (literal kind said s.state)
    → gives place (literal kind said s.state) course ≡ Ok after → SafeAfter scope list n s.c.frames s after.given → SafeFor scope.style n (with_value x s.c)
literal_safe scope list n s kind said x place course after is of_kind fine formed follows e safe =
    safe (literal kind said s.state) (with_next s.state.next x s.v) (with_value x s.c) (given_among place (literal kind said s.state) course after e)
    (put_reached scope list s kind said x is of_kind fine formed follows)

-- a token that is a literal, or calls a name
pub token_safe : (scope : Scope) (list : EntryList) (n : ℕ) (enter : Enter) (s : Start scope list) (t : Token) (place at : Place) (course after : Course) → Told scope
    → IsTokenSound scope.style.names scope.style.bodies scope.style.texts t → IsWellFormed scope.style list (token_step scope.style t at s.c)
    → ((id : NameId) → t ≡ token.Call id → SafeFor scope.style n (token_step scope.style t at s.c))
    → token_taken scope enter t place s.state course ≡ Ok after → SafeAfter scope list n s.c.frames s after.given
    → SafeFor scope.style n (token_step scope.style t at s.c)
token_safe scope list n enter s (token.Int m) place at course after told sound formed calls e safe =
    literal_safe scope list n s Int (fact.Int (next_of s.state) m) (value.Int m) place course after sound refl (next_is s.state.next (value.Int m) s.v) formed
    (token_follows scope (token.Int m) s.state told s.made sound) e safe
token_safe scope list n enter s (token.Str text) place at course after told sound formed calls e safe =
    let bytes = text_of scope.style text in
    literal_safe scope list n s Str (fact.Text (next_of s.state) bytes) (value.Str bytes) place course after
    (of_text IsByteList (slice_get scope.style.texts text.0) (got IsByteList scope.style.texts text.0 told.sound.byte_texts) tt) refl
    (next_is s.state.next (value.Str bytes) s.v) formed (token_follows scope (token.Str text) s.state told s.made sound) e safe
token_safe scope list n enter s (token.Quote id) place at course after told sound formed calls e safe =
    literal_safe scope list n s Func (fact.Call (next_of s.state) id) (value.Func (Named id)) place course after tt refl
    (next_is s.state.next (value.Func (Named id)) s.v) formed (token_follows scope (token.Quote id) s.state told s.made sound) e safe
token_safe scope list n enter s (token.Block body) place at course after told sound formed calls e safe =
    let x : Value = value.Func (Block body) in
    let numbered = sound.1 ∙ ap (λ (k : ℕ). Some (Some k)) (sym (number_is scope.style (block_of body scope.style.bodies) sound.0 sound.1)) in
    literal_safe scope list n s Func (fact.Block (next_of s.state) (number_of scope.style body)) x place course after tt refl
    (subst (IsBlock scope.style (number_of scope.style body)) (sym (next_is s.state.next x s.v)) numbered) formed
    (token_follows scope (token.Block body) s.state told s.made sound) e safe
token_safe scope list n enter s (token.Call id) place at course after told sound formed calls e safe = calls id refl

-- a variable or a field: the symbol that is bound to it is put on top
top_reached : (scope : Scope) (list : EntryList) (s : Start scope list) (top : Sym) → top.0 < s.state.next → IsWellFormed scope.style list (with_value (s.v.value top.0) s.c)
    → Reaches scope list s.c.frames s (with_top top s.state) s.v (with_value (s.v.value top.0) s.c)
top_reached scope list s top old formed =
    let tops : List Sym = reverse s.state.stack in
    let given = moved scope.style scope.cert.cond list s.v s.state s.c s.below (top ∷ tops) (s.state.stack ++ top ∷ []) s.c.events s.c.log s.stands
    (reverse-append s.state.stack (top ∷ [])) in
    record {
      follows = top_follows scope s.state top s.made old;
      agrees = agrees_self s.state.next s.v;
      remains = remains_framed s.state.at_entry s.c.frames s.c (with_value (s.v.value top.0) s.c) s.goes refl refl refl refl refl;
      formed = formed;
      stands = subst (λ (l : List Value). Stands scope.style scope.cert.cond list s.v (with_top top s.state) (with_stack (s.v.value top.0 ∷ l) s.c.events s.c.log s.c) s.below)
          (sym s.stands.stack) given;
    }

-- the value of the symbol that is bound to a name
pub bound_value : (scope : Scope) (list : EntryList) (s : Start scope list) (name : NameId) (there : Sym) → bound name s.state ≡ Some there
    → value_by (kind_of scope.style name) name s.c.globals (visited_entry s.c) ≡ Some (s.v.value there.0)
bound_value scope list s name there e =
    elim (symbol_at name s.state.vars) as (λ (o : Option Sym). symbol_at name s.state.vars ≡ o → option_or o (symbol_at name s.state.fields) ≡ Some there
    → value_by (kind_of scope.style name) name s.c.globals (visited_entry s.c) ≡ Some (s.v.value there.0)) [
      | Some first ↦ λ is found. found_value scope.style s.v s.c name s.state.vars there s.stands.vars (is ∙ found)
      | None ↦ λ is found. found_value scope.style s.v s.c name s.state.fields there s.stands.fields found
    ] refl e

-- the machine pushes the value of a name that has one
value_step : (style : Style) (found : Option Kind) (name : NameId) (at : Place) (c : Config) (x : Value)
    → value_by found name c.globals (visited_entry c) ≡ Some x → call_step style found name at c ≡ with_value x c
value_step style (Some (kind.Builtin o)) name at c x e = absurd (cc)
value_step style (Some (kind.Wizard body)) name at c x e = absurd (cc)
value_step style (Some _) name at c x e = ap (λ (o : Option Value). with_found o at c) e
value_step style None name at c x e = absurd (cc)

pub variable_safe : (scope : Scope) (list : EntryList) (n : ℕ) (s : Start scope list) (name : NameId) (place at : Place) (course after : Course)
    → IsWellFormed scope.style list (call_step scope.style (kind_of scope.style name) name at s.c) → variable name place s.state course ≡ Ok after
    → SafeAfter scope list n s.c.frames s after.given → SafeFor scope.style n (call_step scope.style (kind_of scope.style name) name at s.c)
variable_safe scope list n s name place at course after formed e safe = by_bound (bound name s.state) _ refl e
  where
    by_bound : (o : Option Sym) (refusal : Refusal) → bound name s.state ≡ o → option_map_or (λ top. gives place (with_top top s.state) course) o (Err refusal) ≡ Ok after
        → SafeFor scope.style n (call_step scope.style (kind_of scope.style name) name at s.c)
    by_bound (Some top) refusal is found =
        let steps = value_step scope.style (kind_of scope.style name) name at s.c (s.v.value top.0) (bound_value scope list s name top is) in
        subst (SafeFor scope.style n) (sym steps)
        (safe (with_top top s.state) s.v (with_value (s.v.value top.0) s.c) (given_among place (with_top top s.state) course after found)
        (top_reached scope list s top (bound_below scope.style name s.state top s.made is) (subst (IsWellFormed scope.style list) steps formed)))
    by_bound None refusal is found = absurd (cc)

-- built-in functions that enter nothing
entered_goes : (style : Style) (o : Option Entered) (at : Place) (c : Config) → (with_entered style o at c).stopped ≡ c.stopped
entered_goes style None at c = refl
entered_goes style (Some entered) at c = refl

assigned_goes : (style : Style) (o : Option Variable) (c : Config) → (with_assigned style o c).stopped ≡ c.stopped
assigned_goes style None c = refl
assigned_goes style (Some new) c = by_kind (kind_of style new.name)
  where
    by_kind : (found : Option Kind) → (assigned_by found new c).stopped ≡ c.stopped
    by_kind (Some kind.IntEntry) = refl
    by_kind (Some kind.StrEntry) = refl
    by_kind _ = refl

effect_goes : (style : Style) (effect : Effect) (at : Place) (c : Config) → c.stopped ≡ None → (with_effect style (Ok effect) at c).stopped ≡ None
effect_goes style effect at c goes =
    let written : Config = record c { stack = effect.stack; events = c.events ++ effect.wrote; log = c.log ++ effect.logged } in
    entered_goes style effect.entered at (with_assigned style effect.assigned written) ∙ assigned_goes style effect.assigned written ∙ goes

-- what stays of a configuration where such a function keeps what it doesn't change
remains_kept : (at_entry : Bool) (o : Builtin) (c d : Config) → is_plain o ≡ true → d.stopped ≡ None → (at_entry ≡ false → d.entries ≡ c.entries) → IsKept o c d
    → Remains at_entry c.frames c d
remains_kept at_entry o c d plain goes entries is =
    record { goes = goes; waiting = is.frames plain; commands = is.commands; running = is.running; visit = is.visit; order = is.order; others = is.other_entries; entries = entries }

-- what a built-in function that enters nothing does where a state covers it
pub covered_reached : (scope : Scope) (list : EntryList) (s : Start scope list) (o : Builtin) (at : Place) (after : State) → is_plain o ≡ true → Follows scope s.state after
    → (s.state.at_entry ≡ false → (with_effect scope.style (built_in o (context_of scope.style s.c) s.c.stack) at s.c).entries ≡ s.c.entries)
    → IsWellFormed scope.style list (with_effect scope.style (built_in o (context_of scope.style s.c) s.c.stack) at s.c)
    → (covers : Covers scope.style scope.cert.cond list s.v s.state s.c s.below at o after)
    → Reaches scope list s.c.frames s after covers.assignment (with_effect scope.style (built_in o (context_of scope.style s.c) s.c.stack) at s.c)
covered_reached scope list s o at after plain follows entries formed covers =
    let gives : with_effect scope.style (Ok covers.effect) at s.c ≡ with_effect scope.style (built_in o (context_of scope.style s.c) s.c.stack) at s.c =
    ap (λ r. with_effect scope.style r at s.c) (sym covers.gives) in
    record {
      follows = follows;
      agrees = covers.agrees;
      remains = remains_kept s.state.at_entry o s.c (with_effect scope.style (built_in o (context_of scope.style s.c) s.c.stack) at s.c) plain
          (subst (λ (d : Config). d.stopped ≡ None) gives (effect_goes scope.style covers.effect at s.c s.goes)) entries (s.laws.kept scope.style o at s.c);
      formed = formed;
      stands = subst (λ (d : Config). Stands scope.style scope.cert.cond list covers.assignment after d s.below) gives covers.stands;
    }

-- the built-in function of a test
record IsTested (o : Builtin) (asked : Test) : Type 0 where
  pub function : function_of asked ≡ Some o
  pub plain : is_plain o ≡ true
  pub still : is_assign o ≡ false

tested_by : (o : Builtin) (first asked : Test) → IsTested o first → first ≡ asked → IsTested o asked
tested_by o first asked its is = subst (IsTested o) is its

tested : (o : Builtin) (asked : Test) → test_of o ≡ Some asked → IsTested o asked
tested op.Empty asked e = tested_by op.Empty test.Empty asked (record { function = refl; plain = refl; still = refl }) (cc)
tested op.Missing asked e = tested_by op.Missing test.Missing asked (record { function = refl; plain = refl; still = refl }) (cc)
tested op.Equal asked e = tested_by op.Equal test.Equal asked (record { function = refl; plain = refl; still = refl }) (cc)
tested op.Less asked e = tested_by op.Less test.Less asked (record { function = refl; plain = refl; still = refl }) (cc)
tested op.Greater asked e = tested_by op.Greater test.Greater asked (record { function = refl; plain = refl; still = refl }) (cc)
tested _ asked e = absurd (cc)

pub test_safe : (scope : Scope) (list : EntryList) (n : ℕ) (s : Start scope list) (o : Builtin) (asked : Test) (place at : Place) (course after : Course)
    → test_of o ≡ Some asked → IsWellFormed scope.style list (with_effect scope.style (built_in o (context_of scope.style s.c) s.c.stack) at s.c)
    → split scope asked place s.state course ≡ Ok after → SafeAfter scope list n s.c.frames s after.given
    → SafeFor scope.style n (with_effect scope.style (built_in o (context_of scope.style s.c) s.c.stack) at s.c)
test_safe scope list n s o asked place at course after is formed e safe =
    let t = tested o asked is in
    let hints = hints_of_test scope asked s.state course in
    let mid = then_ok (placed place (split_of scope.cert.cond s.state asked hints)) (λ cases. gives_all place cases.states (behind hints cases.hints course))
    after e in
    let cases = placed_ok place (split_of scope.cert.cond s.state asked hints) mid.0 mid.1 in
    let one = test_found (spot_at scope list s at) asked o hints mid.0 t.function cases in
    let given = gives_all_ok place mid.0.states (behind hints mid.0.hints course) after mid.2 in
    safe one.after one.covers.assignment (with_effect scope.style (built_in o (context_of scope.style s.c) s.c.stack) at s.c)
    (subst (λ (c : Course). IsAmong one.after c.given) (sym given) (among_later one.after course.given mid.0.states one.among))
    (covered_reached scope list s o at one.after t.plain
    (among_all (Follows scope s.state) one.after mid.0.states one.among
    (split_follow scope asked s.state hints mid.0 s.made (test_fits o s.state asked is) cases))
    (λ outside. (s.laws.kept scope.style o at s.c).entries t.still) formed one.covers)
