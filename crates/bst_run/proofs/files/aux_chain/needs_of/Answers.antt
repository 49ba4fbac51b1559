use Rattle.std.proofs.Common.{List, ℕ}
use Rattle.std.proofs.lemmas.Result.{err_from_is_err_and}
use Rattle.bv_base.specs.declared.limits.TheConstants.{DATA_BYTES}
use Rattle.bst_run.specs.declared.files.requests.Needs.{Needs}
use Rattle.bst_run.specs.Files.{file_in}
use Rattle.bst_run.specs.FilesBegun.{file_begun, inputs_begun}
use Rattle.bst_run.proofs.BegunLemmas.{begins_stopped}
use Rattle.bst_run.proofs.files.aux_chain.needs_of.Goals as goal

-- the first file isn't read
pub returns-in_err-text-clause-begun : goal.returns-in_err-text-clause-begun
returns-in_err-text-clause-begun g c =
    let p = err_from_is_err_and c.from_residual.result c.from_residual.ensures.1 in
    rw (p.1, p.2)
    (begins_stopped {A = List ℕ} Needs (g.F.Files.told c.args.files.now) (λ t. file_in t DATA_BYTES c.args.name.now) (λ t. file_begun t c.args.name.now)
    (λ t. inputs_begun t c.args.name.now) (g.F.Files.begun c.args.files.now) _ c.in_err-text.field-0.0 c.in_err-text.ensures.reads.gives c.in_err-text.ensures.begun)
