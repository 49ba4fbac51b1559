-- `call.type$`: the machine enters one of the functions that are walked.
use Rattle.std.proofs.Common.{◌≡◌, ℕ, List, [], ◌∷◌, ◌++◌, reverse, Option, None, Some, Ok, refl, sym, ap, subst, ◌∙◌, arith, inl, inr}
use Rattle.std.specs.Option.{option_map}
use Rattle.std.proofs.lemmas.List.{append-nil}
use Rattle.bv_base.specs.declared.place.Place.{Place}
use Rattle.bv_base.proofs.ThenLemmas.{then_ok, where_ok}
use Rattle.name_table.specs.TypeTarget.{target_of}
use Rattle.name_table.specs.declared.builtin.Builtin.TheVariants as op
use Rattle.name_table.specs.declared.names.Kind.{Kind}
use Rattle.name_table.specs.declared.names.NameId.{NameId}
use Rattle.bst_meaning.specs.StyleParts.{entered_tokens, kind_of}
use Rattle.bst_meaning.specs.EntryLists.{EntryList}
use Rattle.bst_meaning.specs.declared.value.Target.TheVariants.{Named}
use Rattle.bst_meaning.specs.declared.value.Value.{Value}
use Rattle.bst_meaning.specs.Builtins.{at_entry, built_in as machine_gives, type_entered}
use Rattle.bst_meaning.specs.Config.{Config, EntryState, Whole}
use Rattle.bst_meaning.specs.Effect.{Effect, left, with_entered}
use Rattle.bst_meaning.specs.Entries.{Fits}
use Rattle.bst_meaning.specs.Invariant.{IsWellFormed}
use Rattle.bst_meaning.specs.Machine.{call_step, context_of, with_effect, with_frame}
use Rattle.sym_state.specs.State.{State}
use Rattle.sym_state.specs.Stands.{Stands}
use Rattle.sym_state.specs.WellMade.{WellMade}
use Rattle.sym_state.specs.declared.hint.Hint.{Hint}
use Rattle.sym_state.proofs.Frames.{agrees_self}
use Rattle.sym_state.proofs.Pushing.{moved, with_stack}
use Rattle.builtin_effects.proofs.EntryCovers.{entry_given}
use Rattle.refinements.specs.Covered.{IsAmong}
use Rattle.straight_hints.specs.Found.{plain_hints}
use Rattle.straight_hints.specs.declared.finding.Finding.{Finding}
use Rattle.cert_check.specs.Courses.{Course, behind, counts, found_with, gives, handed, left_behind}
use Rattle.cert_check.specs.Walks.{Enter, Scope, entered, plain, type_called, type_functions, type_walked, typed, types_called}
use Rattle.cert_check.proofs.Bodies.{EnterSafe, returned, unframed}
use Rattle.cert_check.proofs.Choosing.{frame_safe}
use Rattle.cert_check.proofs.Entering.{OnwardSafe, UseSafe, after_function, called_safe, entered_safe}
use Rattle.cert_check.proofs.Followed.{follows_self}
use Rattle.cert_check.proofs.Keeping.{Told}
use Rattle.cert_check.proofs.Levels.{Levels}
use Rattle.cert_check.proofs.Plain.{plain_safe}
use Rattle.cert_check.proofs.Safety.{Reaches, SafeFor, Start, onward, remains_framed, safe_fewer, safe_on, spot_at}
use Rattle.cert_check.proofs.TypeKinds.{IsTyped, type_among, type_typed}
use Rattle.cert_check.proofs.Walked.{Enters, types_moved}

-- one of the functions is walked from the state
record TypeOne (scope : Scope) (enter : Enter) (place : Place) (name : NameId) (state : State) (after : Course) : Type 0 where
  pub before : Course
  pub middle : Course
  pub called : type_called scope enter place name state before ≡ Ok middle
  pub more : List State
  pub given : after.given ≡ middle.given ++ more

type_one : (scope : Scope) (enter : Enter) (place : Place) (name : NameId) (names : List NameId) (state : State) (course after : Course) → Told scope
    → Enters scope enter → WellMade scope.style state → IsAmong name names → types_called scope enter place names state course ≡ Ok after
    → TypeOne scope enter place name state after
type_one scope enter place name [] state course after told enters made among e = absurd among
type_one scope enter place name (first ∷ names) state course after told enters made (inl is) e =
    let one = then_ok (type_called scope enter place first state course) (types_called scope enter place names state) after e in
    let later = types_moved scope enter place names state told enters made one.0 after one.2 in
    record {
      before = course;
      middle = one.0;
      called = subst (λ (n : NameId). type_called scope enter place n state course ≡ Ok one.0) (sym is) one.1;
      more = later.more;
      given = later.given;
    }
type_one scope enter place name (first ∷ names) state course after told enters made (inr among) e =
    let one = then_ok (type_called scope enter place first state course) (types_called scope enter place names state) after e in
    type_one scope enter place name names state one.0 after told enters made among one.2

-- the course behind a rule that takes no hint, for which none is found
left_same : (finding : Option Finding) (left : List Hint) (find : Finding → List Hint) → left_behind finding left (handed finding left find) ≡ left
left_same None left find = refl
left_same (Some finding) left find = refl

found_same : (finding : Option Finding) (left found : List Hint) (find : Finding → List Hint) → ((finding : Finding) → find finding ≡ [])
    → found_with finding found (handed finding left find) ≡ found
found_same None left found find none = refl
found_same (Some finding) left found find none = ap (λ (l : List Hint). found ++ l) (none finding) ∙ append-nil found

none_taken : (course : Course) (find : Finding → List Hint) → ((finding : Finding) → find finding ≡ [])
    → behind (handed course.finding course.hints find) (handed course.finding course.hints find) course ≡ course
none_taken course find none =
    let hints = handed course.finding course.hints find in
    ap (λ (l : List Hint). record course { hints = l; found = found_with course.finding course.found hints }) (left_same course.finding course.hints find)
    ∙ ap (λ (l : List Hint). record course { found = l }) (found_same course.finding course.hints course.found find none)

-- `skip$` takes no hint
skipped : (scope : Scope) (place : Place) (state : State) (course after : Course) → gives place state course ≡ Ok after
    → plain scope op.Skip place state course ≡ Ok after
skipped scope place state course after e =
    ap (gives place state) (none_taken course (λ finding. plain_hints finding scope.style scope.cert.cond state op.Skip) (λ finding. refl)) ∙ e

-- a function that is entered is walked, and `skip$` changes nothing
walk_safe : (scope : Scope) (list : EntryList) (n : ℕ) (enter : Enter) (name : NameId) (place at : Place) (t : Start scope list) → Told scope → Fits scope.style list
    → EnterSafe scope list n enter → IsTyped scope.style name → IsWellFormed scope.style list (call_step scope.style (kind_of scope.style name) name at t.c)
    → OnwardSafe scope list n t.c.frames (type_walked enter (kind_of scope.style name) place) t (call_step scope.style (kind_of scope.style name) name at t.c)
walk_safe scope list n enter name place at t told fits enters (inl defined) formed course after e safe =
    called_safe scope list n enter name defined.0 place at t told fits defined.1 enters formed course after
    (subst (λ (k : Option Kind). type_walked enter k place t.state course ≡ Ok after) defined.1 e) safe
walk_safe scope list n enter name place at t told fits enters (inr is) formed course after e safe =
    let there = ap (λ (k : Option Kind). call_step scope.style k name at t.c) is in
    subst (SafeFor scope.style n) (sym there)
    (plain_safe scope list n t op.Skip place at course after told refl (subst (IsWellFormed scope.style list) there formed)
    (skipped scope place t.state course after (subst (λ (k : Option Kind). type_walked enter k place t.state course ≡ Ok after) is e)) safe)

type_safe : (scope : Scope) (list : EntryList) (n : ℕ) (enter : Enter) (name : NameId) (place at : Place) (t : Start scope list) → Told scope → Fits scope.style list
    → EnterSafe scope list n enter → UseSafe scope list n (Named name) → IsTyped scope.style name
    → IsWellFormed scope.style list (call_step scope.style (kind_of scope.style name) name at t.c)
    → OnwardSafe scope list n t.c.frames (type_called scope enter place name) t (call_step scope.style (kind_of scope.style name) name at t.c)
type_safe scope list n enter name place at t told fits enters uses is formed course after e safe =
    let walk = type_walked enter (kind_of scope.style name) place in
    let mid = then_ok (counts 1 place course) (entered scope place (Named name) walk t.state) after e in
    entered_safe scope list n place at Whole (Named name) walk t uses formed (walk_safe scope list n enter name place at t told fits enters is formed)
    mid.0 after mid.2 safe

pub typed_safe : (scope : Scope) (list : EntryList) (n : ℕ) (enter : Enter) (place at : Place) (s : Start scope list) → Told scope → Fits scope.style list
    → Enters scope enter → Levels scope list n enter → IsWellFormed scope.style list (after_function scope list op.CallType at s)
    → OnwardSafe scope list n s.c.frames (typed scope enter place) s (after_function scope list op.CallType at s)
typed_safe scope list n enter place at s told fits moves levels formed course after e safe =
    let names = type_functions scope.style scope.cert.cond in
    let found = where_ok s.state.at_entry (types_called scope enter place names s.state course) _ after e in
    let visited = entry_given (spot_at scope list s at) found.0 in
    let type = visited.entry.entry.entry_type in
    let name : NameId = type_entered (target_of type scope.style) in
    let effect : Effect = record (left s.c.stack) { entered = Some (record { target = Named name; part = Whole }) } in
    let gives : machine_gives op.CallType (context_of scope.style s.c) s.c.stack ≡ Ok effect =
    ap (λ (o : Option EntryState). at_entry (option_map (λ x. x.entry) o) (λ x. with_entered (Named (type_entered (target_of x.entry_type scope.style))) Whole s.c.stack))
    visited.visited in
    let bare : Config = with_stack s.c.stack (s.c.events ++ []) (s.c.log ++ []) s.c in
    let there : after_function scope list op.CallType at s ≡ with_frame (entered_tokens scope.style (Named name) at) at Whole bare =
    ap (λ r. with_effect scope.style r at s.c) gives in
    let fine = subst (IsWellFormed scope.style list) there formed in
    let stands = moved scope.style scope.cert.cond list s.v s.state s.c s.below (reverse s.state.stack) s.state.stack (s.c.events ++ []) (s.c.log ++ []) s.stands refl in
    let reached : Reaches scope list s.c.frames s s.state s.v bare = record {
      follows = follows_self scope s.state s.made;
      agrees = agrees_self s.state.next s.v;
      remains = remains_framed s.state.at_entry s.c.frames s.c bare s.goes refl refl refl refl refl;
      formed = unframed scope.style list (entered_tokens scope.style (Named name) at) at Whole bare fine;
      stands = subst (λ (l : List Value). Stands scope.style scope.cert.cond list s.v s.state (with_stack l (s.c.events ++ []) (s.c.log ++ []) s.c) s.below)
          (sym s.stands.stack) stands;
    } in
    let start : Start scope list = onward scope list s.c.frames s s.state s.v bare reached in
    let one = type_one scope enter place name names s.state course after told moves s.made (type_among scope.style scope.cert.cond type visited.meets.types) found.1 in
    subst (SafeFor scope.style n) (sym there)
    (frame_safe scope list n (type_called scope enter place name) name at Whole start told fits fine
    (λ m is t same formed_call. type_safe scope list m enter name place at t told fits (levels.enters m (omega (arith, is)))
    (levels.uses m (omega (arith, is)) (Named name)) (type_typed scope.style type told.sound) formed_call) one.before one.middle one.called
    (returned scope list n at s.c.frames start one.middle.given told fits
    (safe_fewer scope list n s.c.frames start one.middle.given one.more after.given one.given
    (safe_on scope list n s.c.frames s.c.frames s s.state s.v bare after.given reached safe))))
