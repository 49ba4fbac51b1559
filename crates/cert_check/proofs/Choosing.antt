-- `if$`: the machine enters the function that the case of the integer's sign enters.
use Rattle.std.proofs.Common.{◌≡◌, ℕ, zero, suc, Bool, true, false, cond, List, [], ◌∷◌, ◌++◌, Option, None, Some, Ok, refl, sym, ap, subst, inl, inr}
use Rattle.std.specs.List.{All}
use Rattle.std.proofs.lemmas.List.Elements.{All-tail}
use Rattle.bv_base.specs.declared.place.Place.{Place}
use Rattle.bv_base.proofs.ThenLemmas.{then_ok}
use Rattle.name_table.specs.declared.builtin.Builtin.{Builtin}
use Rattle.name_table.specs.declared.names.Kind.TheVariants as kind
use Rattle.name_table.specs.declared.names.NameId.{NameId}
use Rattle.name_table.specs.declared.style.BodyId.{BodyId}
use Rattle.bst_meaning.specs.StyleParts.{entered_tokens, kind_of}
use Rattle.bst_meaning.specs.EntryLists.{EntryList}
use Rattle.bst_meaning.specs.declared.value.Target.{Target}
use Rattle.bst_meaning.specs.declared.value.Target.TheVariants.{Named, Block}
use Rattle.bst_meaning.specs.Config.{Config, Frame, Part, Whole}
use Rattle.bst_meaning.specs.Entries.{Fits}
use Rattle.bst_meaning.specs.Invariant.{IsWellFormed}
use Rattle.bst_meaning.specs.Keeping.{is_plain}
use Rattle.bst_meaning.specs.Machine.{call_step, with_frame}
use Rattle.sym_state.specs.State.{State}
use Rattle.sym_state.specs.Demands.{Three}
use Rattle.sym_state.specs.declared.symbol.Sym.{Sym}
use Rattle.refinements.specs.Covered.{IsAmong}
use Rattle.cert_check.specs.Courses.{Course, counts}
use Rattle.cert_check.specs.Walks.{Call, Enter, Onward, Scope, built_in, cases_entered, entered, entering, exact_target, function_entered, is_wizard, name_entered, named}
use Rattle.cert_check.proofs.Bodies.{EnterSafe, formed_framed, framed_start, safe_framed}
use Rattle.cert_check.proofs.Entering.{OnwardSafe, UseSafe, after_function, entered_safe, named_safe}
use Rattle.cert_check.proofs.Keeping.{Told}
use Rattle.cert_check.proofs.Safety.{Framed, SafeFor, Start, emptied, formed_step, framed_fine, one_before, safe_less}
use Rattle.cert_check.proofs.Walked.{Calls, CaseFollows, Enters, cases_moved}

-- a name is entered that counts, where the machine calls it
pub name_safe : (scope : Scope) (list : EntryList) (n : ℕ) (enter : Enter) (other : Onward) (name : NameId) (place at : Place) (s : Start scope list) → Told scope
    → Fits scope.style list → EnterSafe scope list n enter → UseSafe scope list n (Named name)
    → IsWellFormed scope.style list (call_step scope.style (kind_of scope.style name) name at s.c)
    → ((o : Builtin) → kind_of scope.style name ≡ Some (kind.Builtin o) → is_plain o ≡ false
    → OnwardSafe scope list n s.c.frames (built_in scope enter other o place) s (after_function scope list o at s))
    → OnwardSafe scope list n s.c.frames (name_entered scope enter other place name) s (call_step scope.style (kind_of scope.style name) name at s.c)
name_safe scope list n enter other name place at s told fits enters uses formed entering_one course after e safe =
    let found = kind_of scope.style name in
    let call = named scope enter other found name place in
    let mid = then_ok (counts 1 place course) (entering scope call found name place s.state) after e in
    let calls = named_safe scope list n enter other found name place at s told fits refl enters uses formed entering_one in
    elim (is_wizard found) as (λ (t : Bool). cond t (call s.state mid.0) (entered scope place (Named name) call s.state mid.0) ≡ Ok after
    → SafeFor scope.style n (call_step scope.style found name at s.c)) [
      | true ↦ λ own. calls mid.0 after own safe
      | false ↦ λ theirs. entered_safe scope list n place at Whole (Named name) call s uses formed calls mid.0 after theirs safe
    ] mid.2

-- the call that stands alone in a frame of any part
pub frame_safe : (scope : Scope) (list : EntryList) (n : ℕ) (walk : Onward) (name : NameId) (at : Place) (part : Part) (s : Start scope list) → Told scope
    → Fits scope.style list → IsWellFormed scope.style list (with_frame (entered_tokens scope.style (Named name) at) at part s.c)
    → ((m : ℕ) → n ≡ suc m → (t : Start scope list) → t.state ≡ s.state
    → IsWellFormed scope.style list (call_step scope.style (kind_of scope.style name) name at t.c)
    → OnwardSafe scope list m t.c.frames walk t (call_step scope.style (kind_of scope.style name) name at t.c))
    → OnwardSafe scope list n (emptied at part s.c.frames) walk s (with_frame (entered_tokens scope.style (Named name) at) at part s.c)
frame_safe scope list zero walk name at part s told fits formed calls course after e safe =
    framed_fine scope.style (record { tokens = entered_tokens scope.style (Named name) at; place = at; part = part }) s.c.frames
    (with_frame (entered_tokens scope.style (Named name) at) at part s.c) (record { goes = s.goes; framed = refl })
frame_safe scope list (suc m) walk name at part s told fits formed calls course after e safe =
    let frame : Frame = record { tokens = entered_tokens scope.style (Named name) at; place = at; part = part } in
    let rest : List Frame = emptied at part s.c.frames in
    let d : Config = with_frame (entered_tokens scope.style (Named name) at) at part s.c in
    let here : Framed frame s.c.frames d = record { goes = s.goes; framed = refl } in
    let empty : IsWellFormed scope.style list (record s.c { frames = rest }) =
    formed_framed scope.style list s.c rest s.formed (record { tokens = tt; part = formed.frames.0.part }, s.formed.frames) in
    let inner : Start scope list = framed_start scope list s rest empty in
    one_before scope.style frame s.c.frames m d here
    (calls m refl inner refl (formed_step s.laws scope list frame s.c.frames d told.sound fits here formed) course after e
    (safe_framed scope list m s rest rest after.given empty (safe_less scope list m rest s after.given safe)))

-- what a target is entered by where the machine enters it in a frame of any part
pub function_safe : (scope : Scope) (list : EntryList) (n : ℕ) (enter : Enter) (call : Call) (place at : Place) (part : Part) (target : Option Target) (machine : Target)
    (s : Start scope list) → Told scope → Fits scope.style list → EnterSafe scope list n enter → ((body : BodyId) → UseSafe scope list n (Block body))
    → ((t : Target) → target ≡ Some t → machine ≡ t)
    → IsWellFormed scope.style list (with_frame (entered_tokens scope.style machine at) at part s.c)
    → ((name : NameId) (m : ℕ) → n ≡ suc m → (t : Start scope list) → t.state ≡ s.state
    → IsWellFormed scope.style list (call_step scope.style (kind_of scope.style name) name at t.c)
    → OnwardSafe scope list m t.c.frames (call name) t (call_step scope.style (kind_of scope.style name) name at t.c))
    → OnwardSafe scope list n (emptied at part s.c.frames) (function_entered scope enter call place target) s
    (with_frame (entered_tokens scope.style machine at) at part s.c)
function_safe scope list n enter call place at part None machine s told fits enters uses is formed calls course after e safe = absurd (cc)
function_safe scope list n enter call place at part (Some (Named name)) machine s told fits enters uses is formed calls course after e safe =
    let same = is (Named name) refl in
    let there = ap (λ (t : Target). with_frame (entered_tokens scope.style t at) at part s.c) same in
    subst (SafeFor scope.style n) (sym there)
    (frame_safe scope list n (call name) name at part s told fits (subst (IsWellFormed scope.style list) there formed) (calls name) course after e safe)
function_safe scope list n enter call place at part (Some (Block body)) machine s told fits enters uses is formed calls course after e safe =
    let same = is (Block body) refl in
    let there = ap (λ (t : Target). with_frame (entered_tokens scope.style t at) at part s.c) same in
    let fine = subst (IsWellFormed scope.style list) there formed in
    subst (SafeFor scope.style n) (sym there)
    (entered_safe scope list n place at part (Block body) (enter place body) s (uses body) fine
    (λ begun ended walk waits. enters place at part body s begun ended walk fine waits) course after e safe)

-- a case among those that are entered
pub record EnteredCase (scope : Scope) (enter : Enter) (call : Call) (place : Place) (three : Three) (case : Bool × State) (after : Course) : Type 0 where
  pub before : Course
  pub middle : Course
  pub entered : function_entered scope enter call place (exact_target scope.style case.1 (cond case.0 three.middle three.top)) case.1 before ≡ Ok middle
  pub more : List State
  pub given : after.given ≡ middle.given ++ more

pub case_entered : (scope : Scope) (enter : Enter) (call : Call) (place : Place) (three : Three) (stack : List Sym) (start : State) (case : Bool × State) (cases : List (Bool × State))
    (course after : Course) → Told scope → Enters scope enter → Calls scope call stack → All (CaseFollows scope start stack) cases → IsAmong case cases
    → cases_entered scope enter call place three cases course ≡ Ok after → EnteredCase scope enter call place three case after
case_entered scope enter call place three stack start case [] course after told enters calls all among e = absurd among
case_entered scope enter call place three stack start case (first ∷ cases) course after told enters calls all (inl is) e =
    let one = then_ok (function_entered scope enter call place (exact_target scope.style first.1 (cond first.0 three.middle three.top)) first.1 course) (cases_entered scope enter call place three cases) after e in
    let later = cases_moved scope enter call place three stack start cases one.0 after told enters calls (All-tail (CaseFollows scope start stack) first cases all) one.2 in
    record {
      before = course;
      middle = one.0;
      entered = subst (λ (x : Bool × State). function_entered scope enter call place (exact_target scope.style x.1 (cond x.0 three.middle three.top)) x.1 course ≡ Ok one.0) (sym is) one.1;
      more = later.more;
      given = later.given;
    }
case_entered scope enter call place three stack start case (first ∷ cases) course after told enters calls all (inr among) e =
    let one = then_ok (function_entered scope enter call place (exact_target scope.style first.1 (cond first.0 three.middle three.top)) first.1 course) (cases_entered scope enter call place three cases) after e in
    case_entered scope enter call place three stack start case cases one.0 after told enters calls (All-tail (CaseFollows scope start stack) first cases all) among one.2
