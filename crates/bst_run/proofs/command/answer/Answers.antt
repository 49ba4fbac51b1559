use Rattle.std.proofs.Common.{ap}
use Rattle.bst_run.specs.Forms.{form_in}
use Rattle.bst_run.proofs.CommandLemmas.{gen_answer}
use Rattle.bst_run.proofs.command.answer.Goals as goal

pub returns-in-Gen-clause-answer : goal.returns-in-Gen-clause-answer
returns-in-Gen-clause-answer g c =
    gen_answer g.F.Files c.args.files.now c.in-Gen.seed c.in-Gen.count (form_in c.args.form) c.answer_gen.result (ap form_in c.in-Gen.is) c.answer_gen.ensures.answer
