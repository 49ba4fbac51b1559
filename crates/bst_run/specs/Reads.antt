-- What each call that reads files keeps (docs/COMMANDS.md, "Files and sinks").
use Rattle.std.specs.Prelude.{◌≡◌, ◌≤◌, Result, IfErr}
use Rattle.bv_base.specs.Outside.{Listing, last_begun}
use Rattle.bv_base.specs.declared.files.Files.{Ghosts}
use Rattle.bst_run.specs.declared.outcome.Outcome.{Outcome}
use Rattle.bst_run.specs.declared.stop.Stop.{Stop}
use Rattle.bst_run.specs.Stops.{Gives, HasCause}

-- a call on files gives what is wanted of them, where they tell, and the outside shows why it stops
pub record Reads {F A : Type 0} (see : Ghosts F) (old new : F) (wanted : Listing → Result A Outcome) (result : Result A Stop) : Type 0 where
  pub gives : Gives {A = A} (see.told old) wanted result
  pub cause : IfErr result (λ stop. HasCause stop (last_begun (see.begun new)) (see.faults old) (see.faults new))
  pub told : see.told new ≡ see.told old
  pub count : see.faults old ≤ see.faults new
