use Rattle.std.proofs.Common.{Err}
use Rattle.std.proofs.lemmas.Result.{err_from_is_err_and}
use Rattle.bst_meaning.specs.declared.condition.Cond.{Cond}
use Rattle.bst_run.specs.declared.outcome.Outcome.{Outcome}
use Rattle.bst_run.specs.FilesBegun.{cond_begun}
use Rattle.bst_run.specs.Forms.{name_in}
use Rattle.bst_run.proofs.BegunLemmas.{begins_last}
use Rattle.bst_run.proofs.InferLemmas.{cond_unread, infer_reads, writes}
use Rattle.bst_run.proofs.StyleLemmas.{style_read_begun, style_refused_begun, style_unread_begun}
use Rattle.bst_run.proofs.inferring.infer.Goals as goal

-- the style and the condition were read, and a certificate is looked for
pub returns-clause-reads : goal.returns-clause-reads
returns-clause-reads g c =
    infer_reads g.F.Files c.args.files.now _ _ c.args.style_name.now (name_in c.args.cond_name)
    c.in_ok-source.source c.as_slice.result.now c.in_ok-style.style c.in_ok-cond.cond c.certificate_under.result
    c.as_slice.ensures c.in_ok-source.ensures.reads c.in_ok-style.ensures.decides c.in_ok-cond.ensures.reads
    c.certificate_under.ensures.decides c.certificate_under.ensures.inside

-- a certificate is written
pub returns-clause-safe : goal.returns-clause-safe
returns-clause-safe g c =
    writes (g.F.Files.told c.args.files.now) _ c.args.style_name.now (name_in c.args.cond_name)
    c.in_ok-source.source c.as_slice.result.now c.in_ok-style.style c.in_ok-cond.cond c.certificate_under.result
    c.in_ok-source.ensures.reads.told c.as_slice.ensures c.in_ok-source.ensures.reads.gives c.in_ok-style.ensures.decides
    c.in_ok-cond.ensures.reads.gives c.certificate_under.ensures.certified

-- the style isn't read
pub returns-in_err-source-clause-begun : goal.returns-in_err-source-clause-begun
returns-in_err-source-clause-begun g c =
    let p = err_from_is_err_and c.from_residual.result c.from_residual.ensures.1 in
    rw (p.1, p.2)
    (style_unread_begun (λ t. cond_begun t (name_in c.args.cond_name)) Outcome (g.F.Files.told c.args.files.now) c.args.style_name.now
    (g.F.Files.begun c.args.files.now) _
    c.in_err-source.field-0.0 c.in_err-source.ensures.reads.gives c.in_err-source.ensures.begun)

-- it is no style
pub returns-in_err-style-clause-begun : goal.returns-in_err-style-clause-begun
returns-in_err-style-clause-begun g c =
    let p = err_from_is_err_and c.from_residual-in_err-style.result c.from_residual-in_err-style.ensures.1 in
    rw (p.1, p.2)
    (style_refused_begun (λ t. cond_begun t (name_in c.args.cond_name)) Outcome (g.F.Files.told c.args.files.now) c.args.style_name.now
    c.in_ok-source.source c.as_slice.result.now (g.F.Files.begun c.args.files.now) _ c.in_err-style.field-0.0
    c.as_slice.ensures c.in_ok-source.ensures.reads.gives c.in_ok-source.ensures.begun c.in_err-style.ensures.decides)

-- the condition isn't read
pub returns-in_err-cond-clause-reads : goal.returns-in_err-cond-clause-reads
returns-in_err-cond-clause-reads g c =
    let p = err_from_is_err_and c.from_residual-in_err-cond.result c.from_residual-in_err-cond.ensures.1 in
    rw (p.1, p.2)
    (cond_unread g.F.Files c.args.files.now _ c.cond_for.new.files c.args.style_name.now (name_in c.args.cond_name)
    c.in_ok-source.source c.as_slice.result.now c.in_ok-style.style c.in_err-cond.field-0.0
    c.as_slice.ensures c.in_ok-source.ensures.reads c.in_ok-style.ensures.decides c.in_err-cond.ensures.reads)

pub returns-in_err-cond-clause-begun : goal.returns-in_err-cond-clause-begun
returns-in_err-cond-clause-begun g c =
    let p = err_from_is_err_and c.from_residual-in_err-cond.result c.from_residual-in_err-cond.ensures.1 in
    rw (p.1, p.2)
    (style_read_begun (λ t. cond_begun t (name_in c.args.cond_name)) {B = Outcome} (g.F.Files.told c.args.files.now) _ c.args.style_name.now
    c.in_ok-source.source c.as_slice.result.now c.in_ok-style.style
    (g.F.Files.begun c.args.files.now) _ _ (Err c.in_err-cond.field-0.0) c.in_ok-source.ensures.reads.told c.as_slice.ensures c.in_ok-source.ensures.reads.gives
    c.in_ok-source.ensures.begun c.in_ok-style.ensures.decides c.in_err-cond.ensures.begun)

-- both are read
pub returns-clause-begun : goal.returns-clause-begun
returns-clause-begun g c =
    style_read_begun (λ t. cond_begun t (name_in c.args.cond_name)) {B = Outcome} (g.F.Files.told c.args.files.now) _ c.args.style_name.now
    c.in_ok-source.source c.as_slice.result.now c.in_ok-style.style
    (g.F.Files.begun c.args.files.now) _ _ c.certificate_under.result c.in_ok-source.ensures.reads.told c.as_slice.ensures c.in_ok-source.ensures.reads.gives
    c.in_ok-source.ensures.begun c.in_ok-style.ensures.decides
    (begins_last {A = Cond} {B = Outcome} _ (λ t. cond_begun t (name_in c.args.cond_name)) _ _ c.in_ok-cond.cond
    c.certificate_under.result c.in_ok-cond.ensures.begun)
