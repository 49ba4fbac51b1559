use Rattle.std.proofs.Common.{◌≡◌, ℕ, suc, ◌<◌, List, ◌∷◌, length, get_or, drop, drop-cons, codes, Option, Err, sym, ◌∙◌, ap, subst}
use Rattle.std.proofs.lemmas.Result.{err_from_is_err_and}
use Rattle.bv_base.specs.Outside.{Listing}
use Rattle.bv_base.specs.declared.files.Begun.{Begun}
use Rattle.bib_read.specs.declared.database.Database.{Database}
use Rattle.bst_run.specs.declared.stop.Stop.{Stop}
use Rattle.bst_run.specs.Files.{with_ending}
use Rattle.bst_run.specs.FilesBegun.{Begins, databases_begun, file_begun}
use Rattle.bst_run.specs.Sources.{database_named}
use Rattle.bst_run.specs.Stops.{Gives}
use Rattle.bst_run.proofs.BegunLemmas.{AreSoFar, so_far_stopped}
use Rattle.bst_run.proofs.files.sources.databases_in.Goals as goal

-- the next database isn't read
database_stopped : (told told' : Option Listing) (all : Listing → List Begun) (names : List (List ℕ)) (i : ℕ) (name : List ℕ) (before : Database) (old mid new : List Begun) (stop : Stop)
    → i < length names → name ≡ get_or names i name → told' ≡ told
    → AreSoFar told all (λ t. databases_begun t (drop i names) before) old mid
    → Gives {A = Database} told' (λ t. database_named t name before) (Err stop) → Begins {A = Database} told' (λ t. file_begun t (with_ending name (codes ".bib"))) mid new (Err stop)
    → Begins {A = Database} told all old new (Err stop)
database_stopped told told' all names i name before old mid new stop within is same so_far gives h =
    let first : drop i names ≡ name ∷ drop (suc i) names = drop-cons names i name within ∙ ap (λ (x : List ℕ). x ∷ drop (suc i) names) (sym is) in
    so_far_stopped {A = Database} Database told told' all (λ t. database_named t name before) (λ t. file_begun t (with_ending name (codes ".bib")))
    (λ t. databases_begun t (drop (suc i) names)) old mid new stop same
    (subst (λ (ns : List (List ℕ)). AreSoFar told all (λ t. databases_begun t ns before) old mid) first so_far) gives h

pub returns-in_err-database-clause-begun : goal.returns-in_err-database-clause-begun
returns-in_err-database-clause-begun g c =
    let p = err_from_is_err_and c.from_residual.result c.from_residual.ensures.1 in
    rw (p.1, p.2)
    (database_stopped (g.F.Files.told c.args.files.now) _ (λ t. databases_begun t c.args.names.now c.args.before) c.args.names.now c.loop-name.name-index _ c.loop-name.database
    (g.F.Files.begun c.args.files.now) _ _ c.in_err-database.field-0.0 c.loop-name-test.true c.name-item.is c.loop-name.invariant.told c.loop-name.invariant.begun
    c.in_err-database.ensures.reads.gives c.in_err-database.ensures.begun)
