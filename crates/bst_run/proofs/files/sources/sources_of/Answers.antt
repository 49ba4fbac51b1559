use Rattle.std.proofs.Common.{refl}
use Rattle.std.proofs.lemmas.Result.{err_from_is_err_and}
use Rattle.bst_run.specs.declared.files.requests.Needs.{Needs}
use Rattle.bst_run.specs.declared.files.sources.Sources.{Sources}
use Rattle.bst_run.specs.AuxChain.{needs_of}
use Rattle.bst_run.specs.FilesBegun.{needs_begun, sources_begun_for}
use Rattle.bst_run.proofs.BegunLemmas.{begins_next, begins_stopped}
use Rattle.bst_run.proofs.files.sources.sources_of.Goals as goal

-- the .aux files stop the reading
pub returns-in_err-needs-clause-begun : goal.returns-in_err-needs-clause-begun
returns-in_err-needs-clause-begun g c =
    let p = err_from_is_err_and c.from_residual.result c.from_residual.ensures.1 in
    rw (p.1, p.2)
    (begins_stopped {A = Needs} Sources (g.F.Files.told c.args.files.now) (λ t. needs_of t c.args.name.now) (λ t. needs_begun t c.args.name.now)
    sources_begun_for (g.F.Files.begun c.args.files.now) _ c.in_err-needs.field-0.0 c.in_err-needs.ensures.reads.gives c.in_err-needs.ensures.begun)

-- they are read, and then the style and the databases
pub returns-clause-begun : goal.returns-clause-begun
returns-clause-begun g c =
    begins_next {A = Needs} {B = Sources} (g.F.Files.told c.args.files.now) _ (λ t. needs_of t c.args.name.now) c.in_ok-needs.needs c.in_ok-needs.needs
    (λ t. needs_begun t c.args.name.now) sources_begun_for (g.F.Files.begun c.args.files.now) _ _ c.sources_for.result
    c.in_ok-needs.ensures.reads.told refl c.in_ok-needs.ensures.reads.gives c.in_ok-needs.ensures.begun c.sources_for.ensures.begun
