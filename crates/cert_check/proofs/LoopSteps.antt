-- What the steps of the use of a loop come to, and those of `call.type$`.
use Rattle.std.proofs.Common.{◌≡◌, ℕ, List, ◌∷◌, IfOk, Result, Ok, Err, sym, ap, subst, ◌∙◌, arith, IfSome}
use Rattle.bv_base.specs.Answers.{then_do}
use Rattle.bv_base.specs.declared.place.Place.{Place}
use Rattle.name_table.specs.Sound.{IsSound}
use Rattle.name_table.specs.declared.names.NameId.{NameId}
use Rattle.sym_state.specs.State.{State}
use Rattle.sym_state.specs.declared.demand.EffectFault.{EffectFault}
use Rattle.cert_check.specs.declared.refusal.Refusal.{Refusal}
use Rattle.cert_check.specs.Certified.{IsCertified, MakesLoops}
use Rattle.cert_check.specs.Courses.{Course, Walk, placed}
use Rattle.cert_check.specs.Given.{Refused}
use Rattle.cert_check.specs.Room.{HasRoom}
use Rattle.cert_check.specs.Walks.{Enter, Scope, body_walked, type_called, types_called}
use Rattle.cert_check.proofs.RoomLeft.{room_on, type_room}
use Rattle.cert_check.proofs.WalkSteps.{then_goes}

-- a step on states that is refused at a place is refused with what comes behind it
pub step_refused : {X Y : Type 0} (place : Place) (step : Result X EffectFault) (next : X → Result Y EffectFault) (refusal : Refusal)
    → Refused (placed place step) refusal → Refused (placed place (then_do step next)) refusal
step_refused {X} {Y} place step next refusal refused differs = at_step step (refused differs)
  where
    at_step : (step : Result X EffectFault) → placed place step ≡ Err refusal → placed place (then_do step next) ≡ Err refusal
    at_step (Ok x) e = absurd (cc)
    at_step (Err fault) e = cc

-- a branch of a state
pub branch_is : {E : Type 0} (state one : State) (r : Result State E) → r ≡ Ok one → IfOk r (λ s. s ≡ state) → one ≡ state
branch_is {E} state one r e is = subst (λ (r : Result State E). IfOk r (λ s. s ≡ state)) e is

-- the functions that are left
pub next_called : (scope : Scope) (enter : Enter) (place : Place) (names rest : List NameId) (name : NameId) (state one : State) (course mid : Course) (whole : Walk)
    → names ≡ name ∷ rest → one ≡ state → types_called scope enter place names state course ≡ whole → type_called scope enter place name one course ≡ Ok mid
    → types_called scope enter place rest state mid ≡ whole
next_called scope enter place names rest name state one course mid whole is same left e =
    sym (then_goes (type_called scope enter place name state course) (types_called scope enter place rest state) mid
    (ap (λ (s : State). type_called scope enter place name s course) (sym same) ∙ e))
    ∙ sym (ap (λ (l : List NameId). types_called scope enter place l state course) is) ∙ left

pub called_room : (scope : Scope) (depth : ℕ) (place : Place) (name : NameId) (state one : State) (course mid : Course) → IsSound scope.style
    → IsCertified scope.style scope.cert → IfSome scope.make (MakesLoops scope.style) → one ≡ state → HasRoom scope.style 0 course.count state
    → type_called scope (body_walked scope depth) place name one course ≡ Ok mid → HasRoom scope.style 0 mid.count state
called_room scope depth place name state one course mid sound cert makes same room e =
    let kept = type_room scope depth place name one course mid sound cert makes (subst (HasRoom scope.style 0 course.count) (sym same) room) e in
    room_on scope.style 0 0 course.count mid.count state (omega arith) kept.count room

pub called_refused : (scope : Scope) (enter : Enter) (place : Place) (names rest : List NameId) (name : NameId) (state one : State) (course : Course) (whole : Walk)
    (refusal : Refusal) → names ≡ name ∷ rest → one ≡ state → types_called scope enter place names state course ≡ whole
    → Refused (type_called scope enter place name one course) refusal → Refused whole refusal
called_refused scope enter place names rest name state one course whole refusal is same left refused differs =
    sym left ∙ ap (λ (l : List NameId). types_called scope enter place l state course) is
    ∙ ap (λ (w : Walk). then_do w (types_called scope enter place rest state))
    (ap (λ (s : State). type_called scope enter place name s course) (sym same) ∙ refused differs)
