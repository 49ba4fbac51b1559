use Rattle.std.proofs.Common.{List, ℕ, Err}
use Rattle.std.proofs.lemmas.Result.{err_from_is_err_and}
use Rattle.bst_run.specs.declared.outcome.Outcome.{Outcome}
use Rattle.bst_run.specs.FilesBegun.{file_begun}
use Rattle.bst_run.proofs.BegunLemmas.{begins_last}
use Rattle.bst_run.proofs.CheckLemmas.{accepts, check_reads}
use Rattle.bst_run.proofs.StyleLemmas.{style_read_begun, style_refused_begun, style_unread_begun}
use Rattle.bst_run.proofs.check.check.Goals as goal

-- both files were read, and decided
pub returns-clause-reads : goal.returns-clause-reads
returns-clause-reads g c =
    check_reads g.F.Files c.args.files.now _ _ c.args.style_name.now c.args.cert_name.now
    c.in_ok-source.source c.as_slice.result.now c.in_ok-text.text c.as_slice-2.result.now c.in_ok-style.style c.judge_text.result
    c.as_slice.ensures c.as_slice-2.ensures
    c.in_ok-source.ensures.reads c.in_ok-style.ensures.decides c.in_ok-text.ensures.reads c.judge_text.ensures.decides c.judge_text.ensures.inside

-- the rules hold
pub returns-clause-safe : goal.returns-clause-safe
returns-clause-safe g c =
    accepts (g.F.Files.told c.args.files.now) _ c.args.style_name.now c.args.cert_name.now
    c.in_ok-source.source c.as_slice.result.now c.in_ok-text.text c.as_slice-2.result.now c.in_ok-style.style c.judge_text.result
    c.in_ok-source.ensures.reads.told c.as_slice.ensures c.as_slice-2.ensures
    c.in_ok-source.ensures.reads.gives c.in_ok-style.ensures.decides c.in_ok-text.ensures.reads.gives
    c.judge_text.ensures.accepted

-- the style isn't read
pub returns-in_err-source-clause-begun : goal.returns-in_err-source-clause-begun
returns-in_err-source-clause-begun g c =
    let p = err_from_is_err_and c.from_residual.result c.from_residual.ensures.1 in
    rw (p.1, p.2)
    (style_unread_begun (λ t. file_begun t c.args.cert_name.now) Outcome (g.F.Files.told c.args.files.now) c.args.style_name.now (g.F.Files.begun c.args.files.now) _
    c.in_err-source.field-0.0 c.in_err-source.ensures.reads.gives c.in_err-source.ensures.begun)

-- it is no style
pub returns-in_err-style-clause-begun : goal.returns-in_err-style-clause-begun
returns-in_err-style-clause-begun g c =
    let p = err_from_is_err_and c.from_residual-in_err-style.result c.from_residual-in_err-style.ensures.1 in
    rw (p.1, p.2)
    (style_refused_begun (λ t. file_begun t c.args.cert_name.now) Outcome (g.F.Files.told c.args.files.now) c.args.style_name.now c.in_ok-source.source c.as_slice.result.now
    (g.F.Files.begun c.args.files.now) _ c.in_err-style.field-0.0 c.as_slice.ensures c.in_ok-source.ensures.reads.gives c.in_ok-source.ensures.begun c.in_err-style.ensures.decides)

-- the certificate isn't read
pub returns-in_err-text-clause-begun : goal.returns-in_err-text-clause-begun
returns-in_err-text-clause-begun g c =
    let p = err_from_is_err_and c.from_residual-in_err-text.result c.from_residual-in_err-text.ensures.1 in
    rw (p.1, p.2)
    (style_read_begun (λ t. file_begun t c.args.cert_name.now) {B = Outcome} (g.F.Files.told c.args.files.now) _ c.args.style_name.now c.in_ok-source.source c.as_slice.result.now c.in_ok-style.style
    (g.F.Files.begun c.args.files.now) _ _ (Err c.in_err-text.field-0.0) c.in_ok-source.ensures.reads.told c.as_slice.ensures c.in_ok-source.ensures.reads.gives
    c.in_ok-source.ensures.begun c.in_ok-style.ensures.decides c.in_err-text.ensures.begun)

-- both are read
pub returns-clause-begun : goal.returns-clause-begun
returns-clause-begun g c =
    style_read_begun (λ t. file_begun t c.args.cert_name.now) {B = Outcome} (g.F.Files.told c.args.files.now) _ c.args.style_name.now c.in_ok-source.source c.as_slice.result.now c.in_ok-style.style
    (g.F.Files.begun c.args.files.now) _ _ c.judge_text.result c.in_ok-source.ensures.reads.told c.as_slice.ensures c.in_ok-source.ensures.reads.gives
    c.in_ok-source.ensures.begun c.in_ok-style.ensures.decides
    (begins_last {A = List ℕ} {B = Outcome} _ (λ t. file_begun t c.args.cert_name.now) _ _ c.in_ok-text.text c.judge_text.result c.in_ok-text.ensures.begun)
