-- What a run reads: the .aux file with its inputs, the style and the databases (docs/COMMANDS.md, "The files of a run").
use Rattle.std.specs.Prelude.{◌≡◌, ℕ, List, [], ◌∷◌, codes, Some, Result, Ok, Err}
use Rattle.std.specs.FinMap.{get}
use Rattle.bv_base.specs.Outside.{Listing}
use Rattle.name_table.specs.declared.style.Style.{Style}
use Rattle.bib_read.specs.declared.database.Database.{Database}
use Rattle.bib_read.specs.declared.fault.BibFault.{BibFault}
use Rattle.bib_read.specs.Reading.{opening, database_of}
use Rattle.bst_parse.specs.declared.fault.StyleFault.{StyleFault}
use Rattle.bst_parse.specs.Reading.{style_of}
use Rattle.cert_format.specs.declared.cert.Cert.{Cert}
use Rattle.cert_format.specs.declared.fault.CertFault.{CertFault}
use Rattle.bv_base.specs.Answers.{then_do}
use Rattle.bv_base.specs.declared.limits.TheConstants.{DATA_BYTES, STYLE_BYTES}
use Rattle.bst_run.specs.declared.data_fault.DataFault.TheVariants.{Bib}
use Rattle.bst_run.specs.declared.files.requests.Needs.{Needs}
use Rattle.bst_run.specs.declared.files.sources.Sources.{Sources}
use Rattle.bst_run.specs.AuxChain.{needs_of}
use Rattle.bst_run.specs.Files.{file_in, with_ending}
use Rattle.bst_run.specs.declared.outcome.Outcome.{Outcome}
use Rattle.bst_run.specs.Report.{bad_cert, bad_data, bad_style}

-- the style that was read
abbrev pub read_style : Result Style StyleFault → Result Style Outcome
read_style (Ok style) = Ok style
read_style (Err fault) = Err (bad_style fault)

-- a file holds a style
pub record HoldsStyle (told : Listing) (name : List ℕ) (style : Style) : Type 0 where
  pub bytes : List ℕ
  pub file : get told name ≡ Some bytes
  pub read : style_of bytes ≡ Ok style

-- the certificate that was read, or its first fault
abbrev pub read_cert : Result Cert CertFault → Result Cert Outcome
read_cert (Ok cert) = Ok cert
read_cert (Err fault) = Err (bad_cert fault)

-- the style of this name
abbrev pub style_named : Listing → List ℕ → Result Style Outcome
style_named told name =
    then_do (file_in told STYLE_BYTES (with_ending name (codes ".bst"))) (λ text. read_style (style_of text))

-- the database that was read from a file of this name
abbrev pub read_database : List ℕ → Result Database BibFault → Result Database Outcome
read_database name (Ok database) = Ok database
read_database name (Err fault) = Err (bad_data name (Bib fault))

-- what the database in a file adds to those before it
abbrev pub database_in : Listing → List ℕ → Database → Result Database Outcome
database_in told name before =
    then_do (file_in told DATA_BYTES name) (λ text. read_database name (database_of text before))

-- what the database of this name adds
abbrev pub database_named : Listing → List ℕ → Database → Result Database Outcome
database_named told name before = database_in told (with_ending name (codes ".bib")) before

-- the databases of these names in order, after those before them
abbrev pub databases_in : Listing → List (List ℕ) → Database → Result Database Outcome
databases_in told [] before = Ok before
databases_in told (name ∷ names) before = then_do (database_named told name before) (databases_in told names)

-- the style, and then the databases
abbrev pub sources_for : Listing → Needs → Result Sources Outcome
sources_for told needs =
    then_do (style_named told needs.style) (λ style.
    then_do (databases_in told needs.databases (opening style.macros)) (λ database.
    Ok (record { style = style; items = needs.items; database = database })))

-- all that the run of an .aux file reads
abbrev pub sources_of : Listing → List ℕ → Result Sources Outcome
sources_of told name = then_do (needs_of told name) (sources_for told)
