use Rattle.std.proofs.Common.{ap, subst, sym, []}
use Rattle.std.proofs.lemmas.Result.{err_from_is_err_and}
use Rattle.std.specs.Prelude.{ℕ, List, ◌++◌}
use Rattle.bv_base.specs.declared.sink.PutAnswer.TheVariants.{Failed, NoMemory}
use Rattle.bst_step.specs.Lines.{broken_in, finished_in, page_in, spelt}
use Rattle.bst_step.specs.Machine.{configuration, style_of}
use Rattle.bst_run.specs.Delivery.{IsPut, sunk}
use Rattle.bst_run.proofs.PutLemmas.{cut_behind, further, held_behind, held_there, refused_as}
use Rattle.bst_run.proofs.running.put_part.Goals as goal

-- nothing of the part was put
pub returns-in-Err-clause-wanting : goal.returns-in-Err-clause-wanting
returns-in-Err-clause-wanting g c = λ is k more c' start so_far.
    held_there (style_of c.args.machine.now) k c.args.count more c' (configuration c.args.machine.now) (page_in c.args.page.now)
    (g.O.Sink.written start) (g.O.Sink.written c.args.out.now) (g.O.Sink.faults start) (g.O.Sink.faults c.args.out.now) so_far

-- a front of the part was put
pub returns-in_err-put-clause-failed : goal.returns-in_err-put-clause-failed
returns-in_err-put-clause-failed g c =
    let p = err_from_is_err_and c.from_residual.result c.from_residual.ensures.1 in
    let rest : List ℕ = (spelt [] (broken_in c.taken.new.page)).text in
    rw (p.1, p.2)
    (λ is k more c' start so_far.
    cut_behind (style_of c.args.machine.now) k c.args.count more c' (configuration c.args.machine.now) (page_in c.args.page.now)
    (page_in c.taken.new.page) c.text.result.now rest
    (g.O.Sink.written start) (g.O.Sink.written c.args.out.now) (g.O.Sink.written c.put.new.sink)
    (g.O.Sink.faults start) (g.O.Sink.faults c.args.out.now) (g.O.Sink.faults c.put.new.sink) so_far c.in-Ok.ensures.page
    (ap (λ (t : List ℕ). t ++ rest) (sym c.text.ensures)) (c.in_err-put.ensures.failed (refused_as c.in_err-put.field-0.0 Failed is)))

pub returns-in_err-put-clause-wanting : goal.returns-in_err-put-clause-wanting
returns-in_err-put-clause-wanting g c =
    let p = err_from_is_err_and c.from_residual.result c.from_residual.ensures.1 in
    let rest : List ℕ = (spelt [] (broken_in c.taken.new.page)).text in
    rw (p.1, p.2)
    (λ is k more c' start so_far.
    held_behind (style_of c.args.machine.now) k c.args.count more c' (configuration c.args.machine.now) (page_in c.args.page.now)
    (page_in c.taken.new.page) c.text.result.now rest
    (g.O.Sink.written start) (g.O.Sink.written c.args.out.now) (g.O.Sink.written c.put.new.sink)
    (g.O.Sink.faults start) (g.O.Sink.faults c.args.out.now) (g.O.Sink.faults c.put.new.sink) so_far c.in-Ok.ensures.page
    (ap (λ (t : List ℕ). t ++ rest) (sym c.text.ensures)) (c.in_err-put.ensures.wanting (refused_as c.in_err-put.field-0.0 NoMemory is)))

-- all of it was put
pub returns-clause-further : goal.returns-clause-further
returns-clause-further g c = λ k c' start so_far.
    further (style_of c.args.machine.now) k c.args.count c' (configuration c.args.machine.now) (configuration c.taken.new.machine)
    (page_in c.args.page.now) (page_in c.taken.new.page) (page_in c.clear_text.new.self) (finished_in c.taken.new.page)
    (g.O.Sink.written start) (g.O.Sink.written c.args.out.now) (g.O.Sink.written c.put.new.sink)
    (g.O.Sink.faults start) (g.O.Sink.faults c.args.out.now) (g.O.Sink.faults c.put.new.sink)
    so_far c.in-Ok.ensures.moved c.in-Ok.ensures.page c.clear_text.ensures.rest
    (subst (λ (t : List ℕ). IsPut t (sunk g.O.Sink c.args.out.now c.put.new.sink)) c.text.ensures c.in_ok-put.ensures.done)
