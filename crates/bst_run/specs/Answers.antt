-- What the words of a command come to, by how it is given (docs/COMMANDS.md, "A run").
use Rattle.bst_meaning.specs.Config.{Config}
use Rattle.bst_step.specs.declared.machine.Turn.{Turn}
use Rattle.bst_run.specs.declared.answer.Given.{Given}
use Rattle.bst_run.specs.declared.answer.Given.TheVariants.{Made, Asked}
use Rattle.bst_run.specs.declared.answer.Run.{Run}
use Rattle.bst_run.specs.declared.outcome.Outcome.{Outcome}
use Rattle.bst_run.specs.Ran.{answered, log_at, logged, run_joined}

-- the outcome of a run that has come to a configuration
abbrev pub ran_to : Run → Turn → Config → Outcome
ran_to run turn c = logged run.front (answered run.steps (log_at run.reading run.found.warnings c) turn c)

-- the outcome of a run: that of its first steps, with what its log begins with
abbrev pub ran : Run → Outcome
ran run = logged run.front (run_joined run.steps run.style run.reading run.found)

-- the outcome that is given
abbrev pub outcome_of : Given → Outcome
outcome_of (Made outcome) = outcome
outcome_of (Asked run) = ran run
