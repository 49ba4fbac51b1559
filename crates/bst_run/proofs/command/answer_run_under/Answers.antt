use Rattle.std.proofs.Common.{refl}
use Rattle.bst_run.specs.FilesBegun.{under_begun}
use Rattle.bst_run.specs.Forms.{RunUnder}
use Rattle.bst_run.specs.Under.{under_outcome}
use Rattle.bst_run.proofs.BegunLemmas.{told_begun}
use Rattle.bst_run.proofs.CommandLemmas.{nothing_promised, told_answer}
use Rattle.bst_run.proofs.command.answer_run_under.Goals as goal

pub returns-clause-answer : goal.returns-clause-answer
returns-clause-answer g c =
    told_answer g.F.Files c.args.files.now c.run_under.new.files (RunUnder c.args.aux.now c.args.steps c.args.cert.now)
    (λ t. under_outcome t c.args.aux.now c.args.steps c.args.cert.now) c.run_under.result c.told.result
    c.run_under.ensures.reads c.run_under.ensures.decided
    (nothing_promised (g.F.Files.told c.args.files.now) (RunUnder c.args.aux.now c.args.steps c.args.cert.now) c.run_under.result (λ told o. tt))
    (λ under. c.run_under.ensures.outside) (λ t. refl) (λ o. tt) c.told.ensures

pub returns-clause-begun : goal.returns-clause-begun
returns-clause-begun g c =
    told_begun g.F.Files c.args.files.now c.run_under.new.files (λ t. under_begun t c.args.aux.now c.args.cert.now) (g.F.Files.told c.args.files.now)
    c.run_under.result c.told.result
    c.run_under.ensures.begun c.run_under.ensures.reads.cause c.told.ensures
