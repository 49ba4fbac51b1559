use Rattle.std.proofs.Common.{List, ℕ, Err, refl}
use Rattle.std.proofs.lemmas.Result.{err_from_is_err_and}
use Rattle.bv_base.specs.Answers.{then_do}
use Rattle.bv_base.specs.declared.limits.TheConstants.{STYLE_BYTES}
use Rattle.bst_run.specs.declared.files.sources.Sources.{Sources}
use Rattle.bst_run.specs.declared.outcome.Outcome.{Outcome}
use Rattle.bst_run.specs.Files.{file_in}
use Rattle.bst_run.specs.FilesBegun.{file_begun, sources_begun}
use Rattle.bst_run.specs.Sources.{sources_of}
use Rattle.bst_run.specs.Under.{text_under}
use Rattle.bst_run.proofs.BegunLemmas.{begins_last, begins_next, begins_stopped}
use Rattle.bst_run.proofs.ReadsLemmas.{reads_next, reads_stopped}
use Rattle.bst_run.proofs.under.run_under.Goals as goal

-- what a run reads stops the reading
pub returns-in_err-sources-clause-begun : goal.returns-in_err-sources-clause-begun
returns-in_err-sources-clause-begun g c =
    let p = err_from_is_err_and c.from_residual.result c.from_residual.ensures.1 in
    rw (p.1, p.2)
    (begins_stopped {A = Sources} Outcome (g.F.Files.told c.args.files.now) (λ t. sources_of t c.args.aux.now) (λ t. sources_begun t c.args.aux.now)
    (λ t _. file_begun t c.args.cert.now) (g.F.Files.begun c.args.files.now) _ c.in_err-sources.field-0.0
    c.in_err-sources.ensures.reads.gives c.in_err-sources.ensures.begun)

-- the certificate isn't read
pub returns-in_err-text-clause-reads : goal.returns-in_err-text-clause-reads
returns-in_err-text-clause-reads g c =
    let p = err_from_is_err_and c.from_residual-in_err-text.result c.from_residual-in_err-text.ensures.1 in
    rw (p.1, p.2)
    (reads_next {A = Sources} {B = Outcome} g.F.Files c.args.files.now _ c.style_file.new.files (λ t. sources_of t c.args.aux.now) c.in_ok-sources.sources
    (λ t sources. then_do (file_in t STYLE_BYTES c.args.cert.now) (text_under c.args.steps sources)) (Err c.in_err-text.field-0.0) c.in_ok-sources.ensures.reads
    (reads_stopped {A = List ℕ} {B = Outcome} g.F.Files _ c.style_file.new.files (λ t. file_in t STYLE_BYTES c.args.cert.now)
    (λ t. text_under c.args.steps c.in_ok-sources.sources) c.in_err-text.field-0.0 c.in_err-text.ensures.reads))

pub returns-in_err-text-clause-begun : goal.returns-in_err-text-clause-begun
returns-in_err-text-clause-begun g c =
    let p = err_from_is_err_and c.from_residual-in_err-text.result c.from_residual-in_err-text.ensures.1 in
    rw (p.1, p.2)
    (begins_next {A = Sources} {B = Outcome} (g.F.Files.told c.args.files.now) _ (λ t. sources_of t c.args.aux.now) c.in_ok-sources.sources c.in_ok-sources.sources
    (λ t. sources_begun t c.args.aux.now) (λ t _. file_begun t c.args.cert.now) (g.F.Files.begun c.args.files.now) _ _ (Err c.in_err-text.field-0.0)
    c.in_ok-sources.ensures.reads.told refl c.in_ok-sources.ensures.reads.gives c.in_ok-sources.ensures.begun c.in_err-text.ensures.begun)

-- all is read
pub returns-clause-begun : goal.returns-clause-begun
returns-clause-begun g c =
    begins_next {A = Sources} {B = Outcome} (g.F.Files.told c.args.files.now) _ (λ t. sources_of t c.args.aux.now) c.in_ok-sources.sources c.in_ok-sources.sources
    (λ t. sources_begun t c.args.aux.now) (λ t _. file_begun t c.args.cert.now) (g.F.Files.begun c.args.files.now) _ _ c.text_under.result
    c.in_ok-sources.ensures.reads.told refl c.in_ok-sources.ensures.reads.gives c.in_ok-sources.ensures.begun
    (begins_last {A = List ℕ} {B = Outcome} _ (λ t. file_begun t c.args.cert.now) _ _ c.in_ok-text.text c.text_under.result c.in_ok-text.ensures.begun)
