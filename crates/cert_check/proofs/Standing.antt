-- The loops that a call makes may stand in a certificate, behind those that stay.
use Rattle.std.proofs.Common.{◌≡◌, ℕ, List, [], ◌∷◌, Option, None, IfSome, Ok, subst, sym, ap, ◌∙◌}
use Rattle.std.specs.List.{All}
use Rattle.std.proofs.lemmas.List.Elements.{All-head, All-nil, All-tail}
use Rattle.bv_base.specs.declared.place.Place.{Place}
use Rattle.bv_base.proofs.ThenLemmas.{ok_is, then_ok}
use Rattle.name_table.specs.Sound.{IsSound}
use Rattle.name_table.specs.declared.style.Style.{Style}
use Rattle.bst_meaning.specs.declared.value.Target.{Target}
use Rattle.cert_format.specs.declared.cert.Cert.{Cert}
use Rattle.sym_state.specs.State.{State}
use Rattle.sym_state.specs.WellMade.{WellMade}
use Rattle.straight_hints.specs.declared.finding.Finding.TheVariants.{Straight}
use Rattle.cert_check.specs.Certified.{IsCertified, IsStanding, MakesLoops, MakesStanding}
use Rattle.cert_check.specs.Courses.{Course}
use Rattle.cert_check.specs.Units.{call_made, came_to, searching, target_entered, target_from}
use Rattle.cert_check.specs.Walks.{Make, Scope}
use Rattle.cert_check.specs.declared.checker.Called.{Called}
use Rattle.cert_check.proofs.Calling.{target_moved}
use Rattle.cert_check.proofs.Followed.{KeepsLoops}
use Rattle.cert_check.proofs.Keeping.{Told, told_by}

targets_keep : (scope : Scope) (place : Place) (target : Target) (states : List State) (course after : Course) → Told scope
    → All (WellMade scope.style) states → target_from scope place target states course ≡ Ok after → KeepsLoops scope course after
targets_keep scope place target [] course after told made e = λ makes all. subst (λ (c : Course). All (IsStanding scope.style) c.loops) (sym (ok_is course after e)) all
targets_keep scope place target (state ∷ states) course after told made e =
    let first = then_ok (target_entered scope place target state course) (target_from scope place target states) after e in
    let moved = target_moved scope target place state told (All-head (WellMade scope.style) state states made) course first.0 first.1 in
    let rest = targets_keep scope place target states first.0 after told (All-tail (WellMade scope.style) state states made) first.2 in
    λ makes all. rest makes (moved.loops makes all)

targets_stay : (scope : Scope) (place : Place) (target : Target) (states : List State) (course after : Course) → Told scope
    → All (WellMade scope.style) states → target_from scope place target states course ≡ Ok after → after.stay ≡ course.stay
targets_stay scope place target [] course after told made e = ap (λ (c : Course). c.stay) (ok_is course after e)
targets_stay scope place target (state ∷ states) course after told made e =
    let first = then_ok (target_entered scope place target state course) (target_from scope place target states) after e in
    targets_stay scope place target states first.0 after told (All-tail (WellMade scope.style) state states made) first.2
    ∙ (target_moved scope target place state told (All-head (WellMade scope.style) state states made) course first.0 first.1).stay

-- so many stay as did before
pub call_stays : (make : Option Make) (style : Style) (cert : Cert) (stay : ℕ) (states : List State) (target : Target) (place : Place) (after : Course)
    → IsSound style → IsCertified style cert → IfSome make (MakesLoops style) → All (WellMade style) states
    → target_from (record { style = style; cert = cert; writes = None; make = make }) place target states (record (searching Straight) { stay = stay }) ≡ Ok after
    → after.stay ≡ stay
call_stays make style cert stay states target place after sound certified makes made e =
    let scope : Scope = record { style = style; cert = cert; writes = None; make = make } in
    targets_stay scope place target states (record (searching Straight) { stay = stay }) after (told_by scope sound certified makes) made e

pub call_stands : (make : Option Make) (style : Style) (cert : Cert) (stay : ℕ) (states : List State) (target : Target) (place : Place) (called : Called)
    → IsSound style → IsCertified style cert → IfSome make (MakesLoops style) → IfSome make (MakesStanding style) → All (WellMade style) states
    → call_made make style cert stay states target place ≡ Ok called → All (IsStanding style) called.loops
call_stands make style cert stay states target place called sound certified makes stand made e =
    let scope : Scope = record { style = style; cert = cert; writes = None; make = make } in
    let begun : Course = record (searching Straight) { stay = stay } in
    let walked = then_ok (target_from scope place target states begun) (λ course. Ok (came_to course)) called e in
    subst (λ (c : Called). All (IsStanding style) c.loops) (sym (ok_is (came_to walked.0) called walked.2))
    (targets_keep scope place target states begun walked.0 (told_by scope sound certified makes) made walked.1 stand (All-nil (IsStanding style)))
