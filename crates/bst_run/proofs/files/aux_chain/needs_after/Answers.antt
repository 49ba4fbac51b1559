use Rattle.std.proofs.Common.{refl, Err}
use Rattle.std.proofs.lemmas.Result.{err_from_is_err_and}
use Rattle.bst_run.specs.declared.files.requests.Needs.{Needs}
use Rattle.bst_run.specs.declared.files.requests.Requests.{Requests}
use Rattle.aux_read.specs.declared.aux.Aux.{Aux}
use Rattle.bst_run.specs.AuxChain.{aux_in, needs_after, take_input}
use Rattle.bst_run.specs.FilesBegun.{aux_begun, input_begun, inputs_begun}
use Rattle.bst_run.specs.Requests.{nothing}
use Rattle.bst_run.proofs.BegunLemmas.{begins_last, begins_refused}
use Rattle.bst_run.proofs.ChainLemmas.{first_begun, first_unread, first_stopped, first_taken}
use Rattle.bst_run.proofs.files.aux_chain.needs_after.Goals as goal

-- the file is no .aux file
pub returns-in_err-aux-clause-reads : goal.returns-in_err-aux-clause-reads
unfolding needs_after
returns-in_err-aux-clause-reads g c =
    let p = err_from_is_err_and c.from_residual.result c.from_residual.ensures.1 in
    rw (p.1, p.2)
    (first_unread g.F.Files c.args.files.now 16 c.args.name.now c.args.text.now c.in_err-aux.field-0.0 _ c.in_err-aux.ensures.decides c.in_err-aux.ensures.inside refl)

-- the file or an input of it stops the reading
pub returns-in_err-requests-clause-reads : goal.returns-in_err-requests-clause-reads
unfolding needs_after
returns-in_err-requests-clause-reads g c =
    let p = err_from_is_err_and c.from_residual-in_err-requests.result c.from_residual-in_err-requests.ensures.1 in
    rw (p.1, p.2)
    (first_stopped g.F.Files c.args.files.now _ 16 c.args.name.now c.args.text.now c.nothing.result c.in_ok-aux.aux c.in_err-requests.field-0.0 _
    c.nothing.ensures.nothing c.in_ok-aux.ensures.decides c.in_err-requests.ensures.reads refl)

-- all are taken
pub returns-clause-reads : goal.returns-clause-reads
unfolding needs_after
returns-clause-reads g c =
    first_taken g.F.Files c.args.files.now _ 16 c.args.name.now c.args.text.now c.nothing.result c.in_ok-requests.requests c.in_ok-aux.aux c.complete.result
    c.nothing.ensures.nothing c.in_ok-aux.ensures.decides c.in_ok-requests.ensures.reads c.complete.ensures.decides c.complete.ensures.inside

pub returns-in_err-aux-clause-begun : goal.returns-in_err-aux-clause-begun
unfolding inputs_begun
returns-in_err-aux-clause-begun g c =
    let p = err_from_is_err_and c.from_residual.result c.from_residual.ensures.1 in
    rw (p.1, p.2)
    (begins_refused {A = Aux} Needs (g.F.Files.told c.args.files.now) (aux_in c.args.name.now c.args.text.now)
    (λ t. aux_begun 16 (take_input 16 t) (input_begun 16 t) nothing) (g.F.Files.begun c.args.files.now) c.in_err-aux.field-0.0 c.in_err-aux.ensures.decides)

pub returns-in_err-requests-clause-begun : goal.returns-in_err-requests-clause-begun
unfolding inputs_begun
returns-in_err-requests-clause-begun g c =
    let p = err_from_is_err_and c.from_residual-in_err-requests.result c.from_residual-in_err-requests.ensures.1 in
    rw (p.1, p.2)
    (first_begun (g.F.Files.told c.args.files.now) 16 c.args.name.now c.args.text.now c.nothing.result c.in_ok-aux.aux (g.F.Files.begun c.args.files.now) _
    (Err c.in_err-requests.field-0.0) c.nothing.ensures.nothing c.in_ok-aux.ensures.decides c.in_err-requests.ensures.begun)

pub returns-clause-begun : goal.returns-clause-begun
unfolding inputs_begun
returns-clause-begun g c =
    first_begun (g.F.Files.told c.args.files.now) 16 c.args.name.now c.args.text.now c.nothing.result c.in_ok-aux.aux (g.F.Files.begun c.args.files.now) _ c.complete.result
    c.nothing.ensures.nothing c.in_ok-aux.ensures.decides
    (begins_last {A = Requests} {B = Needs} (g.F.Files.told c.args.files.now) (λ t. aux_begun 16 (take_input 16 t) (input_begun 16 t) c.nothing.result c.in_ok-aux.aux)
    (g.F.Files.begun c.args.files.now) _ c.in_ok-requests.requests c.complete.result c.in_ok-requests.ensures.begun)
