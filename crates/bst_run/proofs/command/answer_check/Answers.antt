use Rattle.std.proofs.Common.{refl}
use Rattle.bst_run.specs.FilesBegun.{check_begun}
use Rattle.bst_run.specs.Forms.{Check}
use Rattle.bst_run.specs.Top.{check_outcome}
use Rattle.bst_run.proofs.BegunLemmas.{told_begun}
use Rattle.bst_run.proofs.CommandLemmas.{told_answer}
use Rattle.bst_run.proofs.command.answer_check.Goals as goal

pub returns-clause-answer : goal.returns-clause-answer
returns-clause-answer g c =
    told_answer g.F.Files c.args.files.now c.check.new.files (Check c.args.style.now c.args.cert.now)
    (λ t. check_outcome t c.args.style.now c.args.cert.now) c.check.result c.told.result
    c.check.ensures.reads c.check.ensures.decided c.check.ensures.safe (λ under. absurd under) (λ t. refl) (λ o. tt) (rw c.made.ensures at c.told.ensures)

pub returns-clause-begun : goal.returns-clause-begun
returns-clause-begun g c =
    told_begun g.F.Files c.args.files.now c.check.new.files (λ t. check_begun t c.args.style.now c.args.cert.now) (g.F.Files.told c.args.files.now) c.check.result c.told.result
    c.check.ensures.begun c.check.ensures.reads.cause (rw c.made.ensures at c.told.ensures)
