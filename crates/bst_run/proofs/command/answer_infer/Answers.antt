use Rattle.std.proofs.Common.{refl}
use Rattle.bst_run.specs.FilesBegun.{infer_begun}
use Rattle.bst_run.specs.Forms.{Infer, name_in}
use Rattle.bst_run.specs.Inferred.{infer_outcome}
use Rattle.bst_run.proofs.BegunLemmas.{told_begun}
use Rattle.bst_run.proofs.CommandLemmas.{told_answer}
use Rattle.bst_run.proofs.command.answer_infer.Goals as goal

pub returns-clause-answer : goal.returns-clause-answer
returns-clause-answer g c =
    told_answer g.F.Files c.args.files.now c.infer.new.files (Infer c.args.style.now (name_in c.args.cond))
    (λ t. infer_outcome t c.args.style.now (name_in c.args.cond)) c.infer.result c.told.result
    c.infer.ensures.reads c.infer.ensures.decided c.infer.ensures.safe (λ under. absurd under) (λ t. refl) (λ o. tt) (rw c.made.ensures at c.told.ensures)

pub returns-clause-begun : goal.returns-clause-begun
returns-clause-begun g c =
    told_begun g.F.Files c.args.files.now c.infer.new.files (λ t. infer_begun t c.args.style.now (name_in c.args.cond))
    (g.F.Files.told c.args.files.now) c.infer.result c.told.result
    c.infer.ensures.begun c.infer.ensures.reads.cause (rw c.made.ensures at c.told.ensures)
