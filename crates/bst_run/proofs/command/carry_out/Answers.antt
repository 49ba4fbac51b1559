use Rattle.bst_run.proofs.CommandLemmas.{form_not_usage, form_answered, no_file_shown, read_failed_shown, write_failed_shown, form_safe, form_done, form_inside, form_made}
use Rattle.bst_run.proofs.BegunLemmas.{form_begun}
use Rattle.bst_run.proofs.DeliveryLemmas.{sinks_told}
use Rattle.bst_run.specs.Delivery.{sunk}
use Rattle.bst_run.specs.FilesBegun.{files_begun}
use Rattle.bst_run.specs.Forms.{form_in}
use Rattle.bst_run.proofs.command.carry_out.Goals as goal

pub returns-clause-not_usage : goal.returns-clause-not_usage
returns-clause-not_usage g c = λ is.
    form_not_usage g.F.Files c.args.files.now c.answer-outcome.new.files (form_in c.args.form) c.answer-outcome.result c.deliver_answer.result (sunk g.O.Sink c.args.out.now c.deliver_answer.new.out) (sunk g.E.Sink c.args.err.now c.deliver_answer.new.err) c.answer-outcome.ensures.answer c.deliver_answer.ensures is

pub returns-clause-answered : goal.returns-clause-answered
returns-clause-answered g c =
    form_answered g.F.Files c.args.files.now c.answer-outcome.new.files (form_in c.args.form) c.answer-outcome.result c.deliver_answer.result (sunk g.O.Sink c.args.out.now c.deliver_answer.new.out) (sunk g.E.Sink c.args.err.now c.deliver_answer.new.err) c.answer-outcome.ensures.answer c.deliver_answer.ensures

pub returns-clause-no_file : goal.returns-clause-no_file
returns-clause-no_file g c = λ is.
    no_file_shown g.F.Files c.args.files.now c.answer-outcome.new.files (form_in c.args.form) c.answer-outcome.result c.deliver_answer.result (sunk g.O.Sink c.args.out.now c.deliver_answer.new.out) (sunk g.E.Sink c.args.err.now c.deliver_answer.new.err) c.answer-outcome.ensures.answer c.deliver_answer.ensures is

pub returns-clause-read_failed : goal.returns-clause-read_failed
returns-clause-read_failed g c = λ is.
    read_failed_shown g.F.Files c.args.files.now c.answer-outcome.new.files (form_in c.args.form) c.answer-outcome.result c.deliver_answer.result (sunk g.O.Sink c.args.out.now c.deliver_answer.new.out) (sunk g.E.Sink c.args.err.now c.deliver_answer.new.err) c.answer-outcome.ensures.answer c.deliver_answer.ensures is

pub returns-clause-safe : goal.returns-clause-safe
returns-clause-safe g c = λ more.
    form_safe g.F.Files c.args.files.now c.answer-outcome.new.files (form_in c.args.form) c.answer-outcome.result c.deliver_answer.result (sunk g.O.Sink c.args.out.now c.deliver_answer.new.out) (sunk g.E.Sink c.args.err.now c.deliver_answer.new.err) c.answer-outcome.ensures.answer c.deliver_answer.ensures more

pub returns-clause-done : goal.returns-clause-done
returns-clause-done g c = λ is.
    form_done g.F.Files c.args.files.now c.answer-outcome.new.files (form_in c.args.form) c.answer-outcome.result c.deliver_answer.result (sunk g.O.Sink c.args.out.now c.deliver_answer.new.out) (sunk g.E.Sink c.args.err.now c.deliver_answer.new.err) c.answer-outcome.ensures.answer c.deliver_answer.ensures is

pub returns-clause-sinks : goal.returns-clause-sinks
returns-clause-sinks g c =
    sinks_told c.answer-outcome.result c.deliver_answer.result (sunk g.O.Sink c.args.out.now c.deliver_answer.new.out) (sunk g.E.Sink c.args.err.now c.deliver_answer.new.err) c.deliver_answer.ensures
    (write_failed_shown g.F.Files c.args.files.now c.answer-outcome.new.files (form_in c.args.form) c.answer-outcome.result c.deliver_answer.result (sunk g.O.Sink c.args.out.now c.deliver_answer.new.out) (sunk g.E.Sink c.args.err.now c.deliver_answer.new.err) c.answer-outcome.ensures.answer c.deliver_answer.ensures)

pub returns-clause-begun : goal.returns-clause-begun
returns-clause-begun g c =
    form_begun g.F.Files c.args.files.now c.answer-outcome.new.files (λ t. files_begun t (form_in c.args.form)) (g.F.Files.told c.args.files.now) (form_in c.args.form) c.answer-outcome.result c.deliver_answer.result
    (sunk g.O.Sink c.args.out.now c.deliver_answer.new.out) (sunk g.E.Sink c.args.err.now c.deliver_answer.new.err) c.answer-outcome.ensures.answer c.answer-outcome.ensures.begun c.deliver_answer.ensures

pub returns-clause-inside : goal.returns-clause-inside
returns-clause-inside g c = λ inside is.
    form_inside g.F.Files c.args.files.now c.answer-outcome.new.files (form_in c.args.form) c.answer-outcome.result c.deliver_answer.result (sunk g.O.Sink c.args.out.now c.deliver_answer.new.out) (sunk g.E.Sink c.args.err.now c.deliver_answer.new.err) c.answer-outcome.ensures.answer c.deliver_answer.ensures inside is

pub returns-clause-made : goal.returns-clause-made
returns-clause-made g c =
    form_made g.F.Files c.args.files.now c.answer-outcome.new.files (form_in c.args.form) c.answer-outcome.result c.deliver_answer.result (sunk g.O.Sink c.args.out.now c.deliver_answer.new.out) (sunk g.E.Sink c.args.err.now c.deliver_answer.new.err) c.answer-outcome.ensures.answer c.deliver_answer.ensures
