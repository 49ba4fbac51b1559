use Rattle.std.proofs.Common.{refl}
use Rattle.bst_run.specs.FilesBegun.{sources_begun}
use Rattle.bst_run.specs.Forms.{Run}
use Rattle.bst_run.specs.Ran.{run_outcome}
use Rattle.bst_run.proofs.BegunLemmas.{told_begun}
use Rattle.bst_run.proofs.CommandLemmas.{nothing_promised, told_answer}
use Rattle.bst_run.proofs.command.answer_run.Goals as goal

pub returns-clause-answer : goal.returns-clause-answer
returns-clause-answer g c =
    told_answer g.F.Files c.args.files.now c.run.new.files (Run c.args.aux.now c.args.steps)
    (λ t. run_outcome t c.args.aux.now c.args.steps) c.run.result c.told.result
    c.run.ensures.reads c.run.ensures.decided
    (nothing_promised (g.F.Files.told c.args.files.now) (Run c.args.aux.now c.args.steps) c.run.result (λ told o. tt)) (λ under. absurd under) (λ t. refl) (λ o. tt) c.told.ensures

pub returns-clause-begun : goal.returns-clause-begun
returns-clause-begun g c =
    told_begun g.F.Files c.args.files.now c.run.new.files (λ t. sources_begun t c.args.aux.now) (g.F.Files.told c.args.files.now) c.run.result c.told.result
    c.run.ensures.begun c.run.ensures.reads.cause c.told.ensures
