-- Bodies that are walked are safe where the uses of units are, for fewer steps.
use Rattle.std.proofs.Common.{◌≡◌, ℕ, zero, suc, ◌<◌, false, reverse, Option, Some, Ok, refl, sym, subst, ◌∙◌, arith}
use Rattle.bv_base.specs.declared.place.Place.{Place}
use Rattle.name_table.specs.declared.builtin.Builtin.{Builtin}
use Rattle.name_table.specs.declared.names.Kind.{Kind}
use Rattle.name_table.specs.declared.names.Kind.TheVariants as kind
use Rattle.name_table.specs.declared.names.NameId.{NameId}
use Rattle.name_table.specs.declared.style.BodyId.{BodyId}
use Rattle.bst_meaning.specs.StyleParts.{entered_tokens, kind_of}
use Rattle.bst_meaning.specs.EntryLists.{EntryList}
use Rattle.bst_meaning.specs.declared.value.Target.{Target}
use Rattle.bst_meaning.specs.declared.value.Target.TheVariants.{Named, Block}
use Rattle.bst_meaning.specs.Config.{Part, Whole}
use Rattle.bst_meaning.specs.Entries.{Fits}
use Rattle.bst_meaning.specs.Invariant.{IsWellFormed}
use Rattle.bst_meaning.specs.Keeping.{is_plain}
use Rattle.bst_meaning.specs.Machine.{call_step, with_frame}
use Rattle.sym_state.specs.State.{State}
use Rattle.cert_check.specs.declared.limits.TheConstants.{MOST_DEPTH}
use Rattle.cert_check.specs.Courses.{Course}
use Rattle.cert_check.specs.Units.{body_of, body_of_kind, own_walked, target_entered}
use Rattle.cert_check.specs.Walks.{Enter, Scope, body_walked, built_in, chosen_in, function_entered, name_entered, named}
use Rattle.cert_check.proofs.Bodies.{EnterSafe, NamesSafe, body_fine, body_safe, nothing_walked, returned}
use Rattle.cert_check.proofs.Branching.{functions_safe, if_else_safe}
use Rattle.cert_check.proofs.Choosing.{function_safe, name_safe}
use Rattle.cert_check.proofs.Entering.{OnwardSafe, UseSafe, after_function, built_in_safe, by_variable, entry_frames, entry_step, named_safe}
use Rattle.cert_check.proofs.Keeping.{Told}
use Rattle.cert_check.proofs.Levels.{Levels, UnitsSafe}
use Rattle.cert_check.proofs.Safety.{Start, emptied}
use Rattle.cert_check.proofs.Walked.{Enters, body_moved}

-- a built-in function that enters others, on the stack of the state
pub chosen_safe : (scope : Scope) (list : EntryList) (n : ℕ) (enter : Enter) (place at : Place) (s : Start scope list) (o : Builtin) → Told scope → Fits scope.style list
    → Enters scope enter → Levels scope list n enter → is_plain o ≡ false → IsWellFormed scope.style list (after_function scope list o at s)
    → OnwardSafe scope list n s.c.frames (built_in scope enter (chosen_in scope enter place) o place) s (after_function scope list o at s)
chosen_safe scope list n enter place at s o told fits moves levels is formed =
    functions_safe scope list n enter (chosen_in scope enter place) o place at s told fits moves levels is formed
    (λ same. subst (λ (x : Builtin). OnwardSafe scope list n s.c.frames (chosen_in scope enter place) s (after_function scope list x at s)) (sym same)
    (if_else_safe scope list enter place at (reverse s.state.stack) n s told fits moves levels refl
    (subst (λ (x : Builtin). IsWellFormed scope.style list (after_function scope list x at s)) same formed)))

-- the calls of names are safe where bodies and units are
names_safe : (scope : Scope) (list : EntryList) (n : ℕ) (enter : Enter) → Told scope → Fits scope.style list → Enters scope enter → Levels scope list n enter
    → ((target : Target) → UseSafe scope list n target) → NamesSafe scope list n enter
names_safe scope list n enter told fits moves levels uses name place at s course after e formed safe =
    named_safe scope list n enter (chosen_in scope enter place) (kind_of scope.style name) name place at s told fits refl (levels.enters n (omega arith)) (uses (Named name))
    formed
    (λ o known is. chosen_safe scope list n enter place at s o told fits moves levels is
    (subst (λ (k : Option Kind). IsWellFormed scope.style list (call_step scope.style k name at s.c)) known formed)) course after e safe

-- bodies that are walked, however many one in the other
pub bodies_safe : (scope : Scope) (list : EntryList) (depth n : ℕ) → Told scope → Fits scope.style list
    → ((m : ℕ) → m < n → UnitsSafe scope list m) → EnterSafe scope list n (body_walked scope depth)
bodies_safe scope list zero n told fits units = nothing_walked scope list n
bodies_safe scope list (suc depth) zero told fits units = body_fine scope list (body_walked scope (suc depth))
bodies_safe scope list (suc depth) (suc n) told fits units =
    body_safe scope list n depth told fits
    (names_safe scope list n (body_walked scope depth) told fits (body_moved scope depth told) (record {
      enters = λ m few. bodies_safe scope list depth m told fits (λ k less. units k (omega (arith, few, less)));
      blocks = λ m few body. (units m (omega (arith, few))).uses (Block body);
      loops = λ m few. (units m (omega (arith, few))).loops;
      uses = λ m few. (units m (omega (arith, few))).uses;
    }) (units n (omega arith)).uses)

-- what is safe for fewer steps than units are
pub levels_below : (scope : Scope) (list : EntryList) (m n : ℕ) → Told scope → Fits scope.style list → m < n → ((m : ℕ) → m < n → UnitsSafe scope list m)
    → Levels scope list m (body_walked scope MOST_DEPTH)
levels_below scope list m n told fits less units = record {
  enters = λ k few. bodies_safe scope list MOST_DEPTH k told fits (λ j low. units j (omega (arith, less, few, low)));
  blocks = λ k few body. (units k (omega (arith, less, few))).uses (Block body);
  loops = λ k few. (units k (omega (arith, less, few))).loops;
  uses = λ k few. (units k (omega (arith, less, few))).uses;
}

own_named : (scope : Scope) (list : EntryList) (n : ℕ) (found : Option Kind) (name : NameId) (place at : Place) (s : Start scope list) → Told scope → Fits scope.style list
    → Levels scope list n (body_walked scope MOST_DEPTH) → kind_of scope.style name ≡ found → IsWellFormed scope.style list (call_step scope.style found name at s.c)
    → OnwardSafe scope list n s.c.frames (own_walked scope place (Named name) (body_of_kind found)) s (call_step scope.style found name at s.c)
own_named scope list n (Some (kind.Wizard body)) name place at s told fits levels is formed course after e safe =
    levels.enters n (omega arith) place at Whole body s course after e formed (returned scope list n at s.c.frames s after.given told fits safe)
own_named scope list n (Some (kind.Builtin o)) name place at s told fits levels is formed course after e safe =
    let enter = body_walked scope MOST_DEPTH in
    built_in_safe scope list n enter (chosen_in scope enter place) o place at s told formed
    (λ one. chosen_safe scope list n enter place at s o told fits (body_moved scope MOST_DEPTH told) levels one formed) course after
    (subst (λ (k : Option Kind). named scope enter (chosen_in scope enter place) k name place s.state course ≡ Ok after) is e) safe
own_named scope list n _ name place at s told fits levels is formed course after e safe =
    by_variable scope list n name place at s course after _ is formed
    (subst (λ (k : Option Kind). named scope (body_walked scope MOST_DEPTH) (chosen_in scope (body_walked scope MOST_DEPTH) place) k name place s.state course ≡ Ok after) is e) safe

-- a unit's own body is safe, of a name that isn't a function of the style its call
pub own_safe : (scope : Scope) (list : EntryList) (n : ℕ) (target : Target) (place at : Place) (part : Part) (s : Start scope list) → Told scope → Fits scope.style list
    → Levels scope list n (body_walked scope MOST_DEPTH) → IsWellFormed scope.style list (entry_step scope.style target at part s.c)
    → OnwardSafe scope list n (entry_frames target at part s.c.frames) (own_walked scope place target (body_of scope.style target)) s
    (entry_step scope.style target at part s.c)
own_safe scope list n (Named name) place at part s told fits levels formed course after e safe =
    own_named scope list n (kind_of scope.style name) name place at s told fits levels refl formed course after e safe
own_safe scope list n (Block body) place at part s told fits levels formed course after e safe =
    levels.enters n (omega arith) place at part body s course after e formed safe

-- a target that is entered is a known function that is
as_function : (scope : Scope) (place : Place) (target : Target) (state : State) (course : Course)
    → (let enter = body_walked scope MOST_DEPTH in
    function_entered scope enter (name_entered scope enter (chosen_in scope enter place) place) place (Some target) state course)
    ≡ target_entered scope place target state course
as_function scope place (Named name) state course = refl
as_function scope place (Block body) state course = refl

-- a target that the machine enters in a frame of any part
pub target_framed : (scope : Scope) (list : EntryList) (n : ℕ) (target : Target) (place at : Place) (part : Part) (s : Start scope list) → Told scope
    → Fits scope.style list → ((m : ℕ) → m < n → UnitsSafe scope list m) → ((body : BodyId) → UseSafe scope list n (Block body))
    → IsWellFormed scope.style list (with_frame (entered_tokens scope.style target at) at part s.c)
    → OnwardSafe scope list n (emptied at part s.c.frames) (target_entered scope place target) s (with_frame (entered_tokens scope.style target at) at part s.c)
target_framed scope list n target place at part s told fits units blocks formed course after e safe =
    let enter = body_walked scope MOST_DEPTH in
    function_safe scope list n enter (name_entered scope enter (chosen_in scope enter place) place) place at part (Some target) target s told fits
    (bodies_safe scope list MOST_DEPTH n told fits units) blocks (λ t is. let same : target ≡ t = cc in same) formed
    (λ name m is t same fine.
    let levels = levels_below scope list m n told fits (omega (arith, is)) units in
    name_safe scope list m enter (chosen_in scope enter place) name place at t told fits (levels.enters m (omega arith)) ((units m (omega (arith, is))).uses (Named name)) fine
    (λ o known one. chosen_safe scope list m enter place at t o told fits (body_moved scope MOST_DEPTH told) levels one
    (subst (λ (k : Option Kind). IsWellFormed scope.style list (call_step scope.style k name at t.c)) known fine)))
    course after (as_function scope place target s.state course ∙ e) safe
