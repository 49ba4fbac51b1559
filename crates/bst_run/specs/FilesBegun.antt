-- Which files a call begins, and in which order (docs/COMMANDS.md, "The files of a run"): those that the words and the .aux files
-- name, up to the one that decides, and no other.
use Rattle.std.specs.Prelude.{◌≡◌, ◌⊎◌, ℕ, zero, suc, Bool, true, false, List, [], ◌∷◌, ◌++◌, codes, Option, None, Some, IfSome, is_some, Result, Ok, Err}
use Rattle.std.specs.FinMap.{get}
use Rattle.bv_base.specs.Outside.{Listing, Rose, opened, missing}
use Rattle.bv_base.specs.declared.files.Begun.{Begun}
use Rattle.bv_base.specs.declared.files.Files.{Ghosts}
use Rattle.bv_base.specs.declared.limits.TheConstants.{DATA_BYTES, STYLE_BYTES}
use Rattle.bv_base.specs.declared.memory.NoMemory.{NoMemory}
use Rattle.bv_base.specs.declared.status.Status.{Status}
use Rattle.bv_base.specs.declared.status.Status.TheVariants as status
use Rattle.aux_read.specs.declared.aux.Aux.{Aux}
use Rattle.aux_read.specs.declared.aux.AuxItem.{AuxItem}
use Rattle.aux_read.specs.declared.aux.AuxItem.TheVariants.{Input}
use Rattle.bib_read.specs.declared.database.Database.{Database}
use Rattle.bib_read.specs.Reading.{opening}
use Rattle.bst_parse.specs.Reading.{style_of}
use Rattle.bst_run.specs.declared.data_fault.DataFault.{DataFault}
use Rattle.bst_run.specs.declared.files.requests.Needs.{Needs}
use Rattle.bst_run.specs.declared.files.requests.Requests.{Requests}
use Rattle.bst_run.specs.declared.outcome.Outcome.{Outcome}
use Rattle.bst_run.specs.declared.stop.Stop.{Stop}
use Rattle.bst_run.specs.AuxChain.{aux_in, aux_file, needs_of, take_input, with_item, with_names}
use Rattle.bst_run.specs.Files.{file_in, with_ending}
use Rattle.bst_run.specs.Forms.{Form, Check, Infer, Run, RunUnder, Gen}
use Rattle.bst_run.specs.Requests.{fault_after, nothing}
use Rattle.bst_run.specs.Sources.{database_named, read_style, sources_of, style_named}
use Rattle.bst_run.specs.Stops.{outcome_of}

-- a name is begun, which a file has or none
abbrev pub begun_as : List ℕ → Option (List ℕ) → List Begun
begun_as name None = missing name ∷ []
begun_as name (Some bytes) = opened name ∷ []

-- the file of this name is begun
abbrev pub file_begun : Listing → List ℕ → List Begun
file_begun told name = begun_as name (get told name)

-- what is begun once a value was found; after a fault nothing is
abbrev pub then_begun : {A : Type 0} → Result A Outcome → (A → List Begun) → List Begun
then_begun (Ok value) next = next value
then_begun (Err outcome) next = []

-- the inputs among items in order, each where those before it were taken
abbrev pub items_begun : (List ℕ → Requests → Result Requests Outcome) → (List ℕ → Requests → List Begun) → List AuxItem → Requests → List Begun
items_begun input begun [] requests = []
items_begun input begun (Input name place ∷ items) requests =
    begun name requests ++ then_begun (input name requests) (items_begun input begun items)
items_begun input begun (item ∷ items) requests = items_begun input begun items (with_item item requests)

-- none of a file that has a fault after those before it
abbrev pub unless_faulty_begun : Option DataFault → List Begun → List Begun
unless_faulty_begun None begun = begun
unless_faulty_begun (Some fault) begun = []

-- the inputs of a file, after what was asked for before it, where so many levels of inputs may lie below it
abbrev pub aux_begun : ℕ → (List ℕ → Requests → Result Requests Outcome) → (List ℕ → Requests → List Begun) → Requests → Aux → List Begun
aux_begun levels input begun before aux =
    unless_faulty_begun (fault_after levels before aux) (items_begun input begun aux.items (with_names aux before))

-- an input, and then its own inputs
abbrev pub input_begun : ℕ → Listing → List ℕ → Requests → List Begun
input_begun zero told name before = []
input_begun (suc levels) told name before =
    file_begun told name ++ then_begun (aux_file told name) (aux_begun levels (take_input levels told) (input_begun levels told) before)

-- the inputs of a first file with these bytes, below which so many levels of inputs may lie
abbrev pub inputs_within : ℕ → Listing → List ℕ → List ℕ → List Begun
inputs_within levels told name text =
    then_begun (aux_in name text) (aux_begun levels (take_input levels told) (input_begun levels told) nothing)

-- the inputs of a first file with these bytes
unfoldable pub inputs_begun : Listing → List ℕ → List ℕ → List Begun
inputs_begun told name text = inputs_within 16 told name text

-- the first .aux file, and then its inputs
abbrev pub needs_begun : Listing → List ℕ → List Begun
needs_begun told name = file_begun told name ++ then_begun (file_in told DATA_BYTES name) (inputs_begun told name)

-- the databases of these names in order, after those before them
abbrev pub databases_begun : Listing → List (List ℕ) → Database → List Begun
databases_begun told [] before = []
databases_begun told (name ∷ names) before =
    file_begun told (with_ending name (codes ".bib")) ++ then_begun (database_named told name before) (databases_begun told names)

-- the style, and then the databases
abbrev pub sources_begun_for : Listing → Needs → List Begun
sources_begun_for told needs =
    file_begun told (with_ending needs.style (codes ".bst"))
    ++ then_begun (style_named told needs.style) (λ style. databases_begun told needs.databases (opening style.macros))

-- the .aux files, the style and the databases
abbrev pub sources_begun : Listing → List ℕ → List Begun
sources_begun told name = needs_begun told name ++ then_begun (needs_of told name) (sources_begun_for told)

-- the style, and once it is read what comes after it
abbrev pub style_begun : Listing → List ℕ → List Begun → List Begun
style_begun told style after =
    file_begun told style ++ then_begun (file_in told STYLE_BYTES style) (λ bytes. then_begun (read_style (style_of bytes)) (λ _. after))

-- the style, and then the certificate
abbrev pub check_begun : Listing → List ℕ → List ℕ → List Begun
check_begun told style cert = style_begun told style (file_begun told cert)

-- a condition, where one is named
abbrev pub cond_begun : Listing → Option (List ℕ) → List Begun
cond_begun told None = []
cond_begun told (Some name) = file_begun told name

-- the style, and then the condition
abbrev pub infer_begun : Listing → List ℕ → Option (List ℕ) → List Begun
infer_begun told style cond = style_begun told style (cond_begun told cond)

-- what a run reads, and then the certificate
abbrev pub under_begun : Listing → List ℕ → List ℕ → List Begun
under_begun told aux cert = sources_begun told aux ++ then_begun (sources_of told aux) (λ _. file_begun told cert)

-- what the words of a form begin, over these files
abbrev pub files_begun : Listing → Form → List Begun
files_begun told (Check style cert) = check_begun told style cert
files_begun told (Infer style cond) = infer_begun told style cond
files_begun told (Run aux steps) = sources_begun told aux
files_begun told (RunUnder aux steps cert) = under_begun told aux cert
files_begun told (Gen seed count) = []

-- these have the first names of those
abbrev pub AreFirst : List Begun → List Begun → Type 0
AreFirst [] wanted = Unit {0}
AreFirst (file ∷ begun) [] = ⊥
AreFirst (file ∷ begun) (first ∷ wanted) = (file.name ≡ first.name) × AreFirst begun wanted

-- of the files that are wanted the first were begun, and no other
pub record BeginsFirst (wanted before after : List Begun) : Type 0 where
  pub begun : List Begun
  pub is : after ≡ before ++ begun
  pub first : AreFirst begun wanted

-- all files that are wanted were begun and no other, where what is given is decided by them
abbrev pub BeginsBy : Bool → List Begun → List Begun → List Begun → Type 0
BeginsBy true wanted before after = after ≡ before ++ wanted
BeginsBy false wanted before after = BeginsFirst wanted before after

-- a call gives what the files decide, and it didn't fail to read nor want memory
abbrev pub is_decided : {A : Type 0} → Result A Stop → Bool
is_decided (Ok value) = true
is_decided (Err stop) = is_some (outcome_of stop)

-- a call begins the files that are wanted, where they tell
abbrev pub Begins : {A : Type 0} → Option Listing → (Listing → List Begun) → List Begun → List Begun → Result A Stop → Type 0
Begins told wanted before after result = IfSome told (λ t. BeginsBy (is_decided result) (wanted t) before after)

-- the status of an outcome for which memory may have been wanting
abbrev pub given_of : Result Outcome NoMemory → Status
given_of (Ok outcome) = outcome.status
given_of (Err refused) = status.NoMemory

-- what a call begins with this answer: all files that are wanted and no other; or the first of them, where one couldn't be read or
-- memory was wanting
pub data HasBegun {F : Type 0} (see : Ghosts F) (old new : F) (wanted : List Begun) (given : Status) : Type 0 where
  All : see.begun new ≡ see.begun old ++ wanted → HasBegun see old new wanted given
  Unread : Rose (see.faults old) (see.faults new) → (given ≡ status.ReadFailed) ⊎ (given ≡ status.WriteFailed)
      → BeginsFirst wanted (see.begun old) (see.begun new) → HasBegun see old new wanted given
  Wanting : given ≡ status.NoMemory → BeginsFirst wanted (see.begun old) (see.begun new) → HasBegun see old new wanted given
