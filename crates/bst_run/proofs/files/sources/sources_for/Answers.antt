use Rattle.std.proofs.Common.{◌≡◌, ℕ, List, Option, Result, Ok, Err, codes, refl, subst}
use Rattle.std.proofs.lemmas.Result.{err_from_is_err_and}
use Rattle.bv_base.specs.Answers.{then_do}
use Rattle.bv_base.specs.Outside.{Listing}
use Rattle.bv_base.specs.declared.files.Begun.{Begun}
use Rattle.bv_base.specs.declared.files.Files.{Ghosts}
use Rattle.name_table.specs.declared.style.Style.{Style}
use Rattle.bib_read.specs.declared.database.Database.{Database}
use Rattle.bib_read.specs.Reading.{opening}
use Rattle.bst_run.specs.declared.files.requests.Needs.{Needs}
use Rattle.bst_run.specs.declared.files.sources.Sources.{Sources}
use Rattle.bst_run.specs.declared.stop.Stop.{Stop}
use Rattle.bst_run.specs.FilesBegun.{Begins, databases_begun, file_begun, sources_begun_for}
use Rattle.bst_run.specs.Files.{with_ending}
use Rattle.bst_run.specs.Reads.{Reads}
use Rattle.bst_run.specs.Sources.{style_named, databases_in, sources_for}
use Rattle.bst_run.specs.Stops.{Gives}
use Rattle.bst_run.proofs.BegunLemmas.{begins_next, begins_stopped}
use Rattle.bst_run.proofs.ReadsLemmas.{reads_next, reads_stopped}
use Rattle.bst_run.proofs.files.sources.sources_for.Goals as goal

-- the style is read, and a database isn't
databases_stopped : {F : Type 0} (see : Ghosts F) (old mid new : F) (needs : Needs) (style : Style) (names : List (List ℕ)) (before : Database) (stop : Stop) (result : Result Sources Stop)
    → names ≡ needs.databases → before ≡ opening style.macros
    → Reads {F = F} {A = Style} see old mid (λ t. style_named t needs.style) (Ok style)
    → Reads {F = F} {A = Database} see mid new (λ t. databases_in t names before) (Err stop) → result ≡ Err stop
    → Reads {F = F} {A = Sources} see old new (λ t. sources_for t needs) result
databases_stopped {F = F} see old mid new needs style names before stop result e f style_read read is =
    rw is (reads_next {F = F} {A = Style} {B = Sources} see old mid new (λ t. style_named t needs.style) style
    (λ t s. then_do (databases_in t needs.databases (opening s.macros)) (λ (d : Database). Ok (record { style = s; items = needs.items; database = d }))) (Err stop) style_read
    (reads_stopped {F = F} {A = Database} {B = Sources} see mid new (λ t. databases_in t needs.databases (opening style.macros))
    (λ t (d : Database). Ok (record { style = style; items = needs.items; database = d })) stop
    (subst (λ (ns : List (List ℕ)). Reads {F = F} {A = Database} see mid new (λ t. databases_in t ns (opening style.macros)) (Err stop)) e
    (subst (λ (b : Database). Reads {F = F} {A = Database} see mid new (λ t. databases_in t names b) (Err stop)) f read))))

pub returns-in_err-database-clause-reads : goal.returns-in_err-database-clause-reads
returns-in_err-database-clause-reads g c =
    let p = err_from_is_err_and c.from_residual-in_err-database.result c.from_residual-in_err-database.ensures.1 in
    rw (p.1, p.2)
    (databases_stopped g.F.Files c.args.files.now _ _ c.args.needs c.in_ok-style.style c.as_slice.result.now c.in_ok-before.before c.in_err-database.field-0.0 _
    c.as_slice.ensures c.in_ok-before.ensures c.in_ok-style.ensures.reads c.in_err-database.ensures.reads refl)

-- the style is read, and then databases are begun
databases_after : {B : Type 0} (told told' : Option Listing) (needs : Needs) (style : Style) (names : List (List ℕ)) (before : Database) (old mid new : List Begun) (result : Result B Stop)
    → told' ≡ told → names ≡ needs.databases → before ≡ opening style.macros
    → Gives {A = Style} told (λ t. style_named t needs.style) (Ok style)
    → Begins {A = Style} told (λ t. file_begun t (with_ending needs.style (codes ".bst"))) old mid (Ok style)
    → Begins {A = B} told' (λ t. databases_begun t names before) mid new result
    → Begins {A = B} told (λ t. sources_begun_for t needs) old new result
databases_after {B = B} told told' needs style names before old mid new result same e f gives first more =
    begins_next {A = Style} {B = B} told told' (λ t. style_named t needs.style) style style (λ t. file_begun t (with_ending needs.style (codes ".bst")))
    (λ t s. databases_begun t needs.databases (opening s.macros)) old mid new result same refl gives first
    (subst (λ (ns : List (List ℕ)). Begins {A = B} told' (λ t. databases_begun t ns (opening style.macros)) mid new result) e
    (subst (λ (b : Database). Begins {A = B} told' (λ t. databases_begun t names b) mid new result) f more))

pub returns-in_err-style-clause-begun : goal.returns-in_err-style-clause-begun
returns-in_err-style-clause-begun g c =
    let p = err_from_is_err_and c.from_residual.result c.from_residual.ensures.1 in
    rw (p.1, p.2)
    (begins_stopped {A = Style} Sources (g.F.Files.told c.args.files.now) (λ t. style_named t c.args.needs.style) (λ t. file_begun t (with_ending c.args.needs.style (codes ".bst")))
    (λ t s. databases_begun t c.args.needs.databases (opening s.macros)) (g.F.Files.begun c.args.files.now) _ c.in_err-style.field-0.0 c.in_err-style.ensures.reads.gives c.in_err-style.ensures.begun)

pub returns-in_err-database-clause-begun : goal.returns-in_err-database-clause-begun
returns-in_err-database-clause-begun g c =
    let p = err_from_is_err_and c.from_residual-in_err-database.result c.from_residual-in_err-database.ensures.1 in
    rw (p.1, p.2)
    (databases_after {B = Sources} (g.F.Files.told c.args.files.now) _ c.args.needs c.in_ok-style.style c.as_slice.result.now c.in_ok-before.before (g.F.Files.begun c.args.files.now) _ _
    (Err c.in_err-database.field-0.0) c.in_ok-style.ensures.reads.told c.as_slice.ensures c.in_ok-before.ensures c.in_ok-style.ensures.reads.gives c.in_ok-style.ensures.begun
    c.in_err-database.ensures.begun)
