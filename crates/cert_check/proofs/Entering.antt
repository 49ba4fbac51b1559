-- A target that is entered is safe where its walk is and the use of its summaries is.
use Rattle.std.proofs.Common.{◌≡◌, ℕ, Bool, true, false, cond, List, [], ◌∷◌, Option, None, Some, slice_get, Ok, refl, sym, ap, subst, ◌∙◌}
use Rattle.bv_base.specs.declared.place.Place.{Place}
use Rattle.bv_base.proofs.ThenLemmas.{where_ok}
use Rattle.name_table.specs.declared.builtin.Builtin.{Builtin}
use Rattle.name_table.specs.declared.builtin.Builtin.TheVariants as op
use Rattle.name_table.specs.declared.names.Kind.{Kind}
use Rattle.name_table.specs.declared.names.Kind.TheVariants as kind
use Rattle.name_table.specs.declared.names.NameId.{NameId}
use Rattle.name_table.specs.declared.style.BodyId.{BodyId}
use Rattle.name_table.specs.declared.style.Style.{Style}
use Rattle.bst_meaning.specs.StyleParts.{kind_of, tokens_of}
use Rattle.bst_meaning.specs.EntryLists.{EntryList}
use Rattle.bst_meaning.specs.declared.value.Target.{Target}
use Rattle.bst_meaning.specs.declared.value.Target.TheVariants.{Named, Block}
use Rattle.bst_meaning.specs.Builtins.{built_in as machine_gives}
use Rattle.bst_meaning.specs.Entries.{Fits}
use Rattle.bst_meaning.specs.Config.{Config, Frame, Part, Whole}
use Rattle.bst_meaning.specs.Invariant.{IsWellFormed}
use Rattle.bst_meaning.specs.Keeping.{is_plain}
use Rattle.bst_meaning.specs.Machine.{call_step, context_of, with_effect, with_frame}
use Rattle.cert_format.specs.declared.cert.Summary.{Summary}
use Rattle.sym_state.specs.State.{State}
use Rattle.sym_state.specs.declared.hint.Hint.{Hint}
use Rattle.sym_state.specs.declared.hint.Hint.TheVariants as hint
use Rattle.sym_state.specs.declared.test.Test.{Test}
use Rattle.cert_check.specs.Courses.{Course}
use Rattle.cert_check.specs.Walks.{Enter, Onward, Scope, built_in, entered, entered_by, entering_nothing, enters, has_summary, is_target, named, summary_used, test_of, use_of, variable}
use Rattle.cert_check.proofs.Bodies.{EnterSafe, returned}
use Rattle.cert_check.proofs.Keeping.{Told}
use Rattle.cert_check.proofs.Plain.{plain_safe}
use Rattle.cert_check.proofs.Safety.{SafeAfter, SafeFor, Start, emptied}
use Rattle.cert_check.proofs.Tokens.{test_safe, variable_safe}

-- the machine enters a target in a frame of a part, where the frame of a name waits already
abbrev pub entry_step : Style → Target → Place → Part → Config → Config
entry_step style (Named name) at part c = call_step style (kind_of style name) name at c
entry_step style (Block body) at part c = with_frame (tokens_of style body) at part c

-- the frames that wait where it comes to the end
abbrev pub entry_frames : Target → Place → Part → List Frame → List Frame
entry_frames (Named name) at part frames = frames
entry_frames (Block body) at part frames = emptied at part frames

-- a way on from a start is safe in a configuration that the machine comes to, where these frames wait behind it
abbrev pub OnwardSafe : (scope : Scope) (list : EntryList) → ℕ → List Frame → Onward → Start scope list → Config → Type 0
OnwardSafe scope list n frames walk s d =
    (course after : Course) → walk s.state course ≡ Ok after → SafeAfter scope list n frames s after.given → SafeFor scope.style n d

-- a summary of the certificate that is one of the target's is used
abbrev pub UseSafe : Scope → EntryList → ℕ → Target → Type 0
UseSafe scope list n target = (k : ℕ) (summary : Summary) (place at : Place) (part : Part) (s : Start scope list) → slice_get scope.cert.summaries k ≡ Some summary
    → is_target summary.body target ≡ true → IsWellFormed scope.style list (entry_step scope.style target at part s.c)
    → OnwardSafe scope list n (entry_frames target at part s.c.frames) (summary_used scope place summary) s (entry_step scope.style target at part s.c)

use_safe : (scope : Scope) (list : EntryList) (n : ℕ) (place at : Place) (part : Part) (target : Target) (k : ℕ) (found : Option Summary) (s : Start scope list)
    → slice_get scope.cert.summaries k ≡ found → UseSafe scope list n target → IsWellFormed scope.style list (entry_step scope.style target at part s.c)
    → OnwardSafe scope list n (entry_frames target at part s.c.frames) (use_of scope place target found) s (entry_step scope.style target at part s.c)
use_safe scope list n place at part target k None s is uses formed course after e safe = absurd (cc)
use_safe scope list n place at part target k (Some summary) s is uses formed course after e safe =
    let on = where_ok (is_target summary.body target) (summary_used scope place summary s.state course) _ after e in
    uses k summary place at part s is on.0 formed course after on.1 safe

hint_safe : (scope : Scope) (list : EntryList) (n : ℕ) (place at : Place) (part : Part) (target : Target) (walk : Onward) (s : Start scope list) (hints : List Hint)
    (course after : Course) → UseSafe scope list n target → IsWellFormed scope.style list (entry_step scope.style target at part s.c)
    → OnwardSafe scope list n (entry_frames target at part s.c.frames) walk s (entry_step scope.style target at part s.c)
    → entered_by scope place target walk s.state course hints ≡ Ok after → SafeAfter scope list n (entry_frames target at part s.c.frames) s after.given
    → SafeFor scope.style n (entry_step scope.style target at part s.c)
hint_safe scope list n place at part target walk s [] course after uses formed walks e safe = absurd (cc)
hint_safe scope list n place at part target walk s (hint.Apply k ∷ hints) course after uses formed walks e safe =
    use_safe scope list n place at part target k (slice_get scope.cert.summaries k) s refl uses formed (record course { hints = hints }) after e safe
hint_safe scope list n place at part target walk s (hint.Walk ∷ hints) course after uses formed walks e safe = walks (record course { hints = hints }) after e safe
hint_safe scope list n place at part target walk s (_ ∷ hints) course after uses formed walks e safe = absurd (cc)

pub entered_safe : (scope : Scope) (list : EntryList) (n : ℕ) (place at : Place) (part : Part) (target : Target) (walk : Onward) (s : Start scope list)
    → UseSafe scope list n target → IsWellFormed scope.style list (entry_step scope.style target at part s.c)
    → OnwardSafe scope list n (entry_frames target at part s.c.frames) walk s (entry_step scope.style target at part s.c)
    → OnwardSafe scope list n (entry_frames target at part s.c.frames) (entered scope place target walk) s (entry_step scope.style target at part s.c)
entered_safe scope list n place at part target walk s uses formed walks course after e safe =
    elim (has_summary scope.cert target) as (λ (t : Bool). cond t (entered_by scope place target walk s.state course course.hints) (walk s.state course) ≡ Ok after
    → SafeFor scope.style n (entry_step scope.style target at part s.c)) [
      | true ↦ λ used. hint_safe scope list n place at part target walk s course.hints course after uses formed walks used safe
      | false ↦ λ walked. walks course after walked safe
    ] e

-- a body that a name is entered by, which the machine calls
pub called_safe : (scope : Scope) (list : EntryList) (n : ℕ) (enter : Enter) (name : NameId) (body : BodyId) (place at : Place) (s : Start scope list) → Told scope
    → Fits scope.style list → kind_of scope.style name ≡ Some (kind.Wizard body) → EnterSafe scope list n enter
    → IsWellFormed scope.style list (call_step scope.style (kind_of scope.style name) name at s.c)
    → OnwardSafe scope list n s.c.frames (enter place body) s (call_step scope.style (kind_of scope.style name) name at s.c)
called_safe scope list n enter name body place at s told fits is enters formed course after e safe =
    let there : call_step scope.style (kind_of scope.style name) name at s.c ≡ with_frame (tokens_of scope.style body) at Whole s.c =
    ap (λ (k : Option Kind). call_step scope.style k name at s.c) is in
    subst (SafeFor scope.style n) (sym there)
    (enters place at Whole body s course after e (subst (IsWellFormed scope.style list) there formed)
    (returned scope list n at s.c.frames s after.given told fits safe))

-- a variable, whose kind is told
pub by_variable : (scope : Scope) (list : EntryList) (n : ℕ) (name : NameId) (place at : Place) (s : Start scope list) (course after : Course) (found : Option Kind)
    → kind_of scope.style name ≡ found → IsWellFormed scope.style list (call_step scope.style found name at s.c) → variable name place s.state course ≡ Ok after
    → SafeAfter scope list n s.c.frames s after.given → SafeFor scope.style n (call_step scope.style found name at s.c)
by_variable scope list n name place at s course after found is formed e safe =
    let there = ap (λ (k : Option Kind). call_step scope.style k name at s.c) is in
    subst (SafeFor scope.style n) there
    (variable_safe scope list n s name place at course after (subst (IsWellFormed scope.style list) (sym there) formed) e safe)

-- the configuration after a built-in function
abbrev pub after_function : (scope : Scope) (list : EntryList) → Builtin → Place → Start scope list → Config
after_function scope list o at s = with_effect scope.style (machine_gives o (context_of scope.style s.c) s.c.stack) at s.c

nothing_safe : (scope : Scope) (list : EntryList) (n : ℕ) (o : Builtin) (asked : Option Test) (place at : Place) (s : Start scope list) → Told scope → is_plain o ≡ true
    → test_of o ≡ asked → IsWellFormed scope.style list (after_function scope list o at s)
    → OnwardSafe scope list n s.c.frames (entering_nothing scope o asked place) s (after_function scope list o at s)
nothing_safe scope list n o (Some asked) place at s told is tested formed course after e safe = test_safe scope list n s o asked place at course after tested formed e safe
nothing_safe scope list n o None place at s told is tested formed course after e safe = plain_safe scope list n s o place at course after told is formed e safe

-- a built-in function that enters nothing
pub enters_nothing : (scope : Scope) (enter : Enter) (other : Onward) (o : Builtin) (place : Place) (state : State) (course : Course) → enters o ≡ false
    → built_in scope enter other o place state course ≡ entering_nothing scope o (test_of o) place state course
enters_nothing scope enter other op.IfElse place state course e = absurd (cc)
enters_nothing scope enter other op.WhileDo place state course e = absurd (cc)
enters_nothing scope enter other op.CallType place state course e = absurd (cc)
enters_nothing scope enter other _ place state course e = refl

plain_enters : (o : Builtin) → is_plain o ≡ true → enters o ≡ false
plain_enters op.IfElse is = absurd (cc)
plain_enters op.WhileDo is = absurd (cc)
plain_enters op.CallType is = absurd (cc)
plain_enters _ is = refl

-- a built-in function is safe where those are that enter a function
pub built_in_safe : (scope : Scope) (list : EntryList) (n : ℕ) (enter : Enter) (other : Onward) (o : Builtin) (place at : Place) (s : Start scope list) → Told scope
    → IsWellFormed scope.style list (after_function scope list o at s)
    → (is_plain o ≡ false → OnwardSafe scope list n s.c.frames (built_in scope enter other o place) s (after_function scope list o at s))
    → OnwardSafe scope list n s.c.frames (built_in scope enter other o place) s (after_function scope list o at s)
built_in_safe scope list n enter other o place at s told formed entering course after e safe =
    elim (is_plain o) as (λ (t : Bool). is_plain o ≡ t → SafeFor scope.style n (after_function scope list o at s)) [
      | true ↦ λ is. nothing_safe scope list n o (test_of o) place at s told is refl formed course after
          (sym (enters_nothing scope enter other o place s.state course (plain_enters o is)) ∙ e) safe
      | false ↦ λ is. entering is course after e safe
    ] refl

-- the call of a name of a kind
pub named_safe : (scope : Scope) (list : EntryList) (n : ℕ) (enter : Enter) (other : Onward) (found : Option Kind) (name : NameId) (place at : Place) (s : Start scope list)
    → Told scope → Fits scope.style list → kind_of scope.style name ≡ found → EnterSafe scope list n enter → UseSafe scope list n (Named name)
    → IsWellFormed scope.style list (call_step scope.style found name at s.c)
    → ((o : Builtin) → found ≡ Some (kind.Builtin o) → is_plain o ≡ false
    → OnwardSafe scope list n s.c.frames (built_in scope enter other o place) s (after_function scope list o at s))
    → OnwardSafe scope list n s.c.frames (named scope enter other found name place) s (call_step scope.style found name at s.c)
named_safe scope list n enter other (Some (kind.Builtin o)) name place at s told fits is enters uses formed entering course after e safe =
    built_in_safe scope list n enter other o place at s told formed (entering o refl) course after e safe
named_safe scope list n enter other (Some (kind.Wizard body)) name place at s told fits is enters uses formed entering course after e safe =
    let there = ap (λ (k : Option Kind). call_step scope.style k name at s.c) is in
    let fine = subst (IsWellFormed scope.style list) (sym there) formed in
    subst (SafeFor scope.style n) there
    (entered_safe scope list n place at Whole (Named name) (enter place body) s uses fine
    (called_safe scope list n enter name body place at s told fits is enters fine) course after e safe)
named_safe scope list n enter other _ name place at s told fits is enters uses formed entering course after e safe =
    by_variable scope list n name place at s course after _ is formed e safe
