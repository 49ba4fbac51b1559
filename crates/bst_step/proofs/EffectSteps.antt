-- What a built-in function leaves on the literal stack is its effect on the configuration.
use Rattle.std.proofs.Common.{◌≡◌, arith, ℕ, List, [], ◌++◌, append-nil, refl, sym, ap, ◌∙◌, Result, Ok, Err}
use Rattle.name_table.specs.declared.style.Style.{Style}
use Rattle.bv_base.specs.declared.place.Place.{Place}
use Rattle.bst_meaning.specs.declared.fault.Fault.{Fault}
use Rattle.bst_meaning.specs.declared.value.Value.{Value}
use Rattle.bst_meaning.specs.Config.{Config, Event}
use Rattle.bst_meaning.specs.Effect.{Effect, left}
use Rattle.bst_meaning.specs.Machine.{with_effect}
use Rattle.bst_step.specs.declared.state.State.{State}
use Rattle.bst_step.specs.declared.stop.Stop.{Stop}
use Rattle.bst_step.specs.declared.stop.Stop.TheVariants.{Fault as Faulted, NoMemory}
use Rattle.bst_step.specs.Effects.{Leaves, Makes}
use Rattle.bst_step.specs.MarkRules.{unless_fault}
use Rattle.bst_step.specs.Marks.{Marks}
use Rattle.bst_step.specs.Moves.{with_stack}
use Rattle.bst_step.specs.State.{config_of}
use Rattle.bst_step.specs.Values.{Holding}
use Rattle.bst_step.proofs.AssignSteps.{values_moved}

-- an effect that leaves a stack and does nothing else
left_alone : (style : Style) (place : Place) (stack : List Value) (c : Config) → with_stack stack c ≡ with_effect style (Ok (left stack)) place c
left_alone style place stack c =
    ap (λ (events : List Event). let d : Config = record c { stack = stack; events = events } in d) (sym (append-nil c.events))
    ∙ ap (λ (lines : List (List ℕ)). let d : Config = record c { stack = stack; events = c.events ++ []; log = lines } in d) (sym (append-nil c.log))

-- values that have been moved so, and the room for frames is as it was
pub left_makes : (style : Style) (place : Place) (s : State) (v : Holding) (r : Result (Unit {0}) Stop) (wanted : Result Effect Fault) (marks : Marks → Marks)
    → Leaves r s.values v wanted marks → Makes style place r s (record s { values = v }) wanted marks
left_makes style place s v (Ok done) wanted marks is = (
  values_moved s v v.stack refl is.1.0 is.1.1
      ∙ left_alone style place v.stack (config_of s)
      ∙ ap (λ (w : Result Effect Fault). with_effect style w place (config_of s)) is.0,
  is.2 ∙ ap (λ (w : Result Effect Fault). unless_fault w (marks s.values.marks) s.values.marks) is.0,
  (omega arith, is.3),
)
left_makes style place s v (Err (Faulted fault)) wanted marks is =
    (is.0.0, values_moved s v s.values.stack is.0.1 is.1.0 is.1.1, is.2, (omega arith, is.3))
left_makes style place s v (Err NoMemory) wanted marks is = tt
