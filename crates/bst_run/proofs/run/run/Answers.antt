use Rattle.std.proofs.Common.{subst, sym}
use Rattle.bst_run.specs.declared.files.sources.Sources.{Sources}
use Rattle.bst_run.specs.declared.outcome.Outcome.{Outcome}
use Rattle.bst_run.specs.FilesBegun.{sources_begun}
use Rattle.bst_run.specs.Stops.{IsDecided}
use Rattle.bst_run.proofs.BegunLemmas.{begins_last}
use Rattle.bst_run.proofs.UnderLemmas.{over_decided}
use Rattle.bst_run.proofs.run.run.Goals as goal

-- all is read, and memory is wanting for the run
pub returns-in_err-run_over-clause-begun : goal.returns-in_err-run_over-clause-begun
returns-in_err-run_over-clause-begun g c =
    begins_last {A = Sources} {B = Outcome} (g.F.Files.told c.args.files.now) (λ t. sources_begun t c.args.aux.now) (g.F.Files.begun c.args.files.now) _
    c.in_ok-sources.sources _ c.in_ok-sources.ensures.begun

-- what the run answers is decided by what was read
pub returns-clause-decided : goal.returns-clause-decided
returns-clause-decided g c =
    subst (λ (o : Outcome). IsDecided o.status) (sym c.in_ok-run_over.ensures) (over_decided c.args.steps c.in_ok-sources.sources)
