-- `while$`: the machine enters the test of the loop that is used.
use Rattle.std.proofs.Common.{◌≡◌, ℕ, List, [], ◌++◌, reverse, Some, Ok, refl, sym, ap, subst, ◌∙◌, arith}
use Rattle.std.proofs.lemmas.List.{reverse-reverse}
use Rattle.bv_base.specs.declared.place.Place.{Place}
use Rattle.name_table.specs.declared.builtin.Builtin.TheVariants as op
use Rattle.bst_meaning.specs.StyleParts.{entered_tokens}
use Rattle.bst_meaning.specs.EntryLists.{EntryList}
use Rattle.bst_meaning.specs.declared.value.Target.{Target}
use Rattle.bst_meaning.specs.declared.value.Value.{Value}
use Rattle.bst_meaning.specs.declared.value.Value.TheVariants as value
use Rattle.bst_meaning.specs.Config.{Config, Testing}
use Rattle.bst_meaning.specs.Effect.{Effect, left}
use Rattle.bst_meaning.specs.Invariant.{IsWellFormed}
use Rattle.bst_meaning.specs.Machine.{with_effect, with_frame}
use Rattle.sym_state.specs.State.{State}
use Rattle.sym_state.specs.declared.symbol.Kinds.TheVariants.{Func}
use Rattle.sym_state.proofs.Frames.{agrees_self, value_list}
use Rattle.sym_state.proofs.KnownKinds.{function_is}
use Rattle.sym_state.proofs.Pushing.{moved, with_stack}
use Rattle.sym_state.proofs.Spots.{Spot}
use Rattle.builtin_effects.proofs.Covering.{kind_met, two_then}
use Rattle.cert_check.specs.Safely.{loop_step}
use Rattle.cert_check.specs.Walks.{Enter, Scope, repeated}
use Rattle.cert_check.proofs.Bodies.{unframed}
use Rattle.cert_check.proofs.Entering.{OnwardSafe, after_function}
use Rattle.cert_check.proofs.Exactly.{exact_is, target_same}
use Rattle.cert_check.proofs.Keeping.{Told}
use Rattle.cert_check.proofs.Levels.{Levels}
use Rattle.cert_check.proofs.Repeating.{repeated_ok, without_two}
use Rattle.cert_check.proofs.Safety.{Reaches, SafeFor, Start, onward, remains_framed, safe_on, spot_at}
use Rattle.cert_check.proofs.Makings.{popped_follows}

pub repeated_safe : (scope : Scope) (list : EntryList) (n : ℕ) (enter : Enter) (place at : Place) (s : Start scope list) → Told scope → Levels scope list n enter
    → IsWellFormed scope.style list (after_function scope list op.WhileDo at s)
    → OnwardSafe scope list n s.c.frames (repeated scope place) s (after_function scope list op.WhileDo at s)
repeated_safe scope list n enter place at s told levels formed course after e safe =
    let is = repeated_ok scope place s.state course after e in
    let one = is.loop.one in
    let popped : State = without_two s.state (reverse s.state.stack) is.met in
    let spot : Spot = spot_at scope list s at in
    let test = function_is (s.v.value is.met.test.0) (kind_met spot Func is.met.test is.met.lower) in
    let body = function_is (s.v.value is.met.body.0) (kind_met spot Func is.met.body is.met.upper) in
    let values : List Value = value_list s.v is.met.rest ++ s.below in
    let effect : Effect = record (left values) { entered = Some (record { target = test.0; part = Testing test.0 body.0 }) } in
    let gives = two_then spot op.WhileDo is.met.test is.met.body is.met.rest (value.Func test.0) (value.Func body.0) (Ok effect) is.met.on_top test.1 body.1 refl in
    let bare : Config = with_stack values (s.c.events ++ []) (s.c.log ++ []) s.c in
    let same_test : test.0 ≡ one.test =
    exact_is scope.style s.laws s.v s.state is.met.test is.test test.0 told.sound s.stands.satisfied.facts is.exact_test test.1
    ∙ sym (target_same one.test is.test is.loop.same_test) in
    let same_body : body.0 ≡ one.body =
    exact_is scope.style s.laws s.v s.state is.met.body is.body body.0 told.sound s.stands.satisfied.facts is.exact_body body.1
    ∙ sym (target_same one.body is.body is.loop.same_body) in
    let there : after_function scope list op.WhileDo at s ≡ loop_step scope.style one at bare =
    ap (λ r. with_effect scope.style r at s.c) gives
    ∙ ap (λ (t : Target). with_frame (entered_tokens scope.style t at) at (Testing t body.0) bare) same_test
    ∙ ap (λ (t : Target). with_frame (entered_tokens scope.style one.test at) at (Testing one.test t) bare) same_body in
    let fine = subst (IsWellFormed scope.style list) there formed in
    let reached : Reaches scope list s.c.frames s popped s.v bare = record {
      follows = popped_follows scope s.state is.met s.made;
      agrees = agrees_self s.state.next s.v;
      remains = remains_framed s.state.at_entry s.c.frames s.c bare s.goes refl refl refl refl refl;
      formed = unframed scope.style list (entered_tokens scope.style one.test at) at (Testing one.test one.body) bare fine;
      stands = moved scope.style scope.cert.cond list s.v s.state s.c s.below is.met.rest (reverse is.met.rest) (s.c.events ++ []) (s.c.log ++ []) s.stands
          (reverse-reverse is.met.rest);
    } in
    let start : Start scope list = onward scope list s.c.frames s popped s.v bare reached in
    subst (SafeFor scope.style n) (sym there)
    (levels.loops n (omega arith) is.loop.k one place at start is.loop.there fine (record course { hints = is.loop.hints }) after is.loop.used
    (safe_on scope list n s.c.frames s.c.frames s popped s.v bare after.given reached safe))
