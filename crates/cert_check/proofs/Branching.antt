-- `if$` is safe where what it enters is: bodies and uses for as many steps, calls of names for fewer.
use Rattle.std.proofs.Common.{◌≡◌, ℕ, ◌<◌, Bool, true, false, cond, List, [], ◌∷◌, ◌++◌, reverse, Option, None, Some, Ok, refl, sym, ap, subst, ◌∙◌, arith}
use Rattle.std.specs.Prelude.{ℤ}
use Rattle.std.specs.Option.{option_map_or}
use Rattle.std.proofs.lemmas.List.{reverse-reverse}
use Rattle.std.proofs.lemmas.List.Elements.{All-head, All-tail}
use Rattle.bv_base.specs.declared.place.Place.{Place}
use Rattle.bv_base.proofs.ThenLemmas.{then_ok}
use Rattle.name_table.specs.declared.builtin.Builtin.{Builtin}
use Rattle.name_table.specs.declared.builtin.Builtin.TheVariants as op
use Rattle.name_table.specs.declared.names.Kind.{Kind}
use Rattle.bst_meaning.specs.StyleParts.{entered_tokens}
use Rattle.bst_meaning.specs.EntryLists.{EntryList}
use Rattle.bst_meaning.specs.declared.value.Target.{Target}
use Rattle.bst_meaning.specs.declared.value.Target.TheVariants.{Named}
use Rattle.bst_meaning.specs.declared.value.Value.{Value}
use Rattle.bst_meaning.specs.declared.value.Value.TheVariants as value
use Rattle.bst_meaning.specs.Config.{Config, Whole}
use Rattle.bst_meaning.specs.Effect.{Effect, left}
use Rattle.bst_meaning.specs.Entries.{Fits}
use Rattle.bst_meaning.specs.Invariant.{IsWellFormed}
use Rattle.bst_meaning.specs.Keeping.{is_plain}
use Rattle.bst_meaning.specs.Machine.{call_step, with_effect, with_frame}
use Rattle.bst_meaning.specs.Operands.{is_positive}
use Rattle.sym_state.specs.State.{State}
use Rattle.sym_state.specs.Cases.{above_of}
use Rattle.sym_state.specs.Decided.{exact_integer}
use Rattle.sym_state.specs.Demands.{Three, three_by}
use Rattle.sym_state.specs.Symbols.{Valuation}
use Rattle.sym_state.specs.declared.symbol.Kinds.TheVariants.{Func, Int}
use Rattle.sym_state.specs.declared.symbol.Sym.{Sym}
use Rattle.sym_state.proofs.Frames.{agrees_self, value_list}
use Rattle.sym_state.proofs.KnownKinds.{function_is, integer_is}
use Rattle.sym_state.proofs.Pushing.{moved, tops_below, with_stack}
use Rattle.sym_state.proofs.Resulting.{rest_made}
use Rattle.sym_state.proofs.Spots.{Spot}
use Rattle.builtin_effects.proofs.Covering.{kind_met, three_then}
use Rattle.refinements.specs.Covered.{above_case}
use Rattle.refinements.proofs.Framing.{above_left}
use Rattle.refinements.proofs.Kept.{above_made}
use Rattle.refinements.proofs.Signs.{labelled_sign_found}
use Rattle.cert_check.specs.Courses.{behind, placed}
use Rattle.cert_check.specs.Walks.{Call, Enter, Make, Onward, Scope, built_in, cases_entered, choice, hints_of_choice, if_else, name_entered, while_by_make}
use Rattle.cert_check.proofs.Bodies.{returned, unframed}
use Rattle.cert_check.proofs.Choosing.{case_entered, function_safe, name_safe}
use Rattle.cert_check.proofs.Entering.{OnwardSafe, after_function}
use Rattle.cert_check.proofs.Exactly.{exact_is}
use Rattle.cert_check.proofs.Inverted.{placed_ok}
use Rattle.cert_check.proofs.Keeping.{Told}
use Rattle.cert_check.proofs.Levels.{Levels, lower_levels}
use Rattle.cert_check.proofs.Looping.{repeated_safe}
use Rattle.cert_check.proofs.Safety.{Reaches, SafeFor, Start, onward, remains_framed, safe_fewer, safe_on, spot_at}
use Rattle.cert_check.proofs.Followed.{among_all}
use Rattle.cert_check.proofs.Typing.{typed_safe}
use Rattle.cert_check.proofs.Walked.{Calls, CaseFollows, Enters, cases_follow, if_else_moved, name_moved, three_ok}

-- a case has the stack of the state
above_stack : (state : State) (a : Sym) (positive : Bool) → (above_case state a positive).stack ≡ state.stack
above_stack state a positive = by_known (exact_integer state.facts a.0) _ refl
  where
    by_known : (o : Option ℤ) (other : State) → other.stack ≡ state.stack → (option_map_or (λ n. state) o other).stack ≡ state.stack
    by_known (Some n) other e = refl
    by_known None other e = e

-- the function of a sign
picked : (v : Valuation) (b c : Sym) (first other : Target) (positive : Bool) → v.value b.0 ≡ value.Func first → v.value c.0 ≡ value.Func other
    → v.value (cond positive b c).0 ≡ value.Func (cond positive first other)
picked v b c first other true e f = e
picked v b c first other false e f = f

-- a built-in function that enters others
pub functions_safe : (scope : Scope) (list : EntryList) (n : ℕ) (enter : Enter) (other : Onward) (o : Builtin) (place at : Place) (s : Start scope list) → Told scope
    → Fits scope.style list → Enters scope enter → Levels scope list n enter → is_plain o ≡ false → IsWellFormed scope.style list (after_function scope list o at s)
    → (o ≡ op.IfElse → OnwardSafe scope list n s.c.frames other s (after_function scope list o at s))
    → OnwardSafe scope list n s.c.frames (built_in scope enter other o place) s (after_function scope list o at s)
functions_safe scope list n enter other op.IfElse place at s told fits moves levels is formed chosen course after e safe = chosen refl course after e safe
functions_safe scope list n enter other op.WhileDo place at s told fits moves levels is formed chosen course after e safe =
    repeated_safe scope list n enter place at s told levels formed course after
    (subst (λ (m : Option Make). while_by_make m scope place s.state course ≡ Ok after) s.unmade e) safe
functions_safe scope list n enter other op.CallType place at s told fits moves levels is formed chosen course after e safe =
    typed_safe scope list n enter place at s told fits moves levels formed course after e safe
functions_safe scope list n enter other _ place at s told fits moves levels is formed chosen course after e safe = absurd (cc)

pub if_else_safe : (scope : Scope) (list : EntryList) (enter : Enter) (place at : Place) (stack : List Sym) (n : ℕ) (s : Start scope list) → Told scope
    → Fits scope.style list → Enters scope enter → Levels scope list n enter → reverse s.state.stack ≡ stack
    → IsWellFormed scope.style list (after_function scope list op.IfElse at s)
    → OnwardSafe scope list n s.c.frames (if_else scope enter place stack) s (after_function scope list op.IfElse at s)
if_else_safe scope list enter place at [] n s told fits moves levels tops formed course after e safe = absurd (cc)
if_else_safe scope list enter place at (c ∷ []) n s told fits moves levels tops formed course after e safe = absurd (cc)
if_else_safe scope list enter place at (c ∷ (b ∷ [])) n s told fits moves levels tops formed course after e safe = absurd (cc)
if_else_safe scope list enter place at (c ∷ (b ∷ (a ∷ rest))) n s told fits moves levels tops formed course after e safe =
    let popped : State = record s.state { stack = reverse rest } in
    let found : Three = record { lowest = a; middle = b; top = c; rest = popped } in
    let call : Call = name_entered scope enter (if_else scope enter place rest) place in
    let operands = three_by Int Func Func (c ∷ (b ∷ (a ∷ rest))) s.state in
    let taken = then_ok (placed place operands) (λ three. choice scope enter call place three course) after e in
    let met = three_ok s.state a b c rest taken.0 (placed_ok place operands taken.0 taken.1) in
    let chose : choice scope enter call place found course ≡ Ok after = subst (λ (three : Three). choice scope enter call place three course ≡ Ok after) met.is taken.2 in
    let hints = hints_of_choice scope found course in
    let weighed = above_of scope.cert.cond popped a hints in
    let split = then_ok (placed place weighed) (λ labelled. cases_entered scope enter call place found labelled.cases (behind hints labelled.hints course))
    after chose in
    let cases = placed_ok place weighed split.0 split.1 in
    let below = tops_below scope.style s.state (c ∷ (b ∷ (a ∷ rest))) s.made tops in
    let lower = All-tail (λ (x : Sym). x.0 < s.state.next) b (a ∷ rest) (All-tail (λ (x : Sym). x.0 < s.state.next) c (b ∷ (a ∷ rest)) below) in
    let under = All-tail (λ (x : Sym). x.0 < s.state.next) a rest lower in
    let old = All-head (λ (x : Sym). x.0 < s.state.next) a rest lower in
    let follow = cases_follow scope s.state rest split.0.cases under
    (above_made scope.style scope.cert.cond popped a hints split.0 (rest_made scope.style s.state rest s.made under) old cases)
    (above_left scope.cert.cond popped a hints split.0 cases) in
    let spot : Spot = spot_at scope list s at in
    let top = function_is (s.v.value c.0) (kind_met spot Func c met.top) in
    let middle = function_is (s.v.value b.0) (kind_met spot Func b met.middle) in
    let lowest = integer_is (s.v.value a.0) (kind_met spot Int a met.lowest) in
    let positive : Bool = is_positive lowest.0 in
    let machine : Target = cond positive middle.0 top.0 in
    let values : List Value = value_list s.v rest ++ s.below in
    let effect : Effect = record (left values) { entered = Some (record { target = machine; part = Whole }) } in
    let gives = three_then spot op.IfElse a b c rest (value.Int lowest.0) (value.Func middle.0) (value.Func top.0) (Ok effect) tops lowest.1 middle.1 top.1 refl in
    let bare : Config = with_stack values (s.c.events ++ []) (s.c.log ++ []) s.c in
    let there : after_function scope list op.IfElse at s ≡ with_frame (entered_tokens scope.style machine at) at Whole bare =
    ap (λ r. with_effect scope.style r at s.c) gives in
    let fine = subst (IsWellFormed scope.style list) there formed in
    let bare_fine : IsWellFormed scope.style list bare =
    unframed scope.style list (entered_tokens scope.style machine at) at Whole bare fine in
    let one = labelled_sign_found scope.style scope.cert.cond list s.v popped bare s.below a lowest.0 hints split.0
    (moved scope.style scope.cert.cond list s.v s.state s.c s.below rest (reverse rest) (s.c.events ++ []) (s.c.log ++ []) s.stands (reverse-reverse rest)) lowest.1 cases in
    let state : State = above_case popped a positive in
    let case : Bool × State = (positive, state) in
    let here = among_all (CaseFollows scope s.state rest) case split.0.cases one.among follow in
    let calls : Calls scope call rest = λ name inner made less. name_moved scope enter (if_else scope enter place rest) place name inner told moves made (if_else_moved scope enter place rest inner told moves made less) in
    let entered = case_entered scope enter call place found rest s.state case split.0.cases (behind hints split.0.hints course) after told moves
    calls follow one.among split.2 in
    let reached : Reaches scope list s.c.frames s state s.v bare = record {
      follows = here.follows;
      agrees = agrees_self s.state.next s.v;
      remains = remains_framed s.state.at_entry s.c.frames s.c bare s.goes refl refl refl refl refl;
      formed = bare_fine;
      stands = one.stands;
    } in
    let start : Start scope list = onward scope list s.c.frames s state s.v bare reached in
    let waits = safe_fewer scope list n s.c.frames start entered.middle.given entered.more after.given entered.given
    (safe_on scope list n s.c.frames s.c.frames s state s.v bare after.given reached safe) in
    subst (SafeFor scope.style n) (sym there)
    (function_safe scope list n enter call place at Whole _ machine start told fits (levels.enters n (omega arith)) (levels.blocks n (omega arith))
    (λ t is. exact_is scope.style s.laws s.v state (cond positive b c) t machine told.sound one.stands.satisfied.facts is (picked s.v b c middle.0 top.0 positive middle.1 top.1))
    fine
    (λ name m is t same fine_call. name_safe scope list m enter (if_else scope enter place rest) name place at t told fits (levels.enters m (omega (arith, is)))
    (levels.uses m (omega (arith, is)) (Named name)) fine_call
    (λ o known enters_one.
    let lower_ones = lower_levels scope list m n enter (omega (arith, is)) levels in
    let called = subst (λ (k : Option Kind). IsWellFormed scope.style list (call_step scope.style k name at t.c)) known fine_call in
    functions_safe scope list m enter (if_else scope enter place rest) o place at t told fits moves lower_ones enters_one called
    (λ is_if. subst (λ (x : Builtin). OnwardSafe scope list m t.c.frames (if_else scope enter place rest) t (after_function scope list x at t)) (sym is_if)
    (if_else_safe scope list enter place at rest m t told fits moves lower_ones
    (ap (λ (x : State). reverse x.stack) same ∙ ap (λ (l : List Sym). reverse l) (above_stack popped a positive) ∙ reverse-reverse rest)
    (subst (λ (x : Builtin). IsWellFormed scope.style list (after_function scope list x at t)) is_if called)))))
    entered.before entered.middle entered.entered (returned scope list n at s.c.frames start entered.middle.given told fits waits))
