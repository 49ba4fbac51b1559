-- The tree of the `.aux` files of a run, and what they ask for together (docs/COMMANDS.md, "The files of a run").
use Rattle.std.specs.Prelude.{◌≡◌, ℕ, suc, ◌≤◌, List, [], ◌∷◌, ◌++◌, length, Option, None, Some}
use Rattle.std.specs.FinMap.{get}
use Rattle.bv_base.specs.Outside.{Listing}
use Rattle.aux_read.specs.Meaning.{AuxReads}
use Rattle.aux_read.specs.declared.aux.Aux.{Aux}
use Rattle.aux_read.specs.declared.aux.AuxItem.{AuxItem}
use Rattle.aux_read.specs.declared.aux.AuxItem.TheVariants.{All, Cite, Input}
use Rattle.bv_base.specs.declared.place.Place.{Place}
use Rattle.bv_base.specs.declared.limits.TheConstants.{DATA_BYTES}
use Rattle.bst_run.specs.declared.files.requests.Needs.{Needs}

-- the file of this name is there, has at most DATA_BYTES bytes, and asks for this
pub record Asks (told : Listing) (name : List ℕ) (aux : Aux) : Type 0 where
  pub text : List ℕ
  pub there : get told name ≡ Some text
  pub short : length text ≤ DATA_BYTES
  pub reads : AuxReads text aux

-- items, where inputs may nest so deep: the files that they name, each before those that its own items name, and the
-- citations, those of an input in its place
pub data Joined (told : Listing) : ℕ → List AuxItem → List Aux → List AuxItem → Type 0 where
  none : {levels : ℕ} → Joined told levels [] [] []
  key : {levels : ℕ} {items : List AuxItem} {files : List Aux} {joined : List AuxItem} {cited : List ℕ}
      → Joined told levels items files joined → Joined told levels (Cite cited ∷ items) files (Cite cited ∷ joined)
  all : {levels : ℕ} {items : List AuxItem} {files : List Aux} {joined : List AuxItem}
      → Joined told levels items files joined → Joined told levels (All ∷ items) files (All ∷ joined)
  input : {levels : ℕ} {items : List AuxItem} {below after : List Aux} {inner outer : List AuxItem} {name : List ℕ} {place : Place}
      {aux : Aux} → Asks told name aux → Joined told levels aux.items below inner → Joined told (suc levels) items after outer
      → Joined told (suc levels) (Input name place ∷ items) (aux ∷ (below ++ after)) (inner ++ outer)

-- the name of a style, where there is one
abbrev pub named : Option (List ℕ) → List (List ℕ)
named None = []
named (Some style) = style ∷ []

-- the styles that files name, in order
abbrev pub styles : List Aux → List (List ℕ)
styles [] = []
styles (aux ∷ files) = named aux.style ++ styles files

-- the names of databases as one line has them, where there is one
abbrev pub listed : List (List ℕ) → List (List (List ℕ))
listed [] = []
listed (first ∷ rest) = (first ∷ rest) ∷ []

-- the lines of databases that files have, in order
abbrev pub databases : List Aux → List (List (List ℕ))
databases [] = []
databases (aux ∷ files) = listed aux.databases ++ databases files

-- a text and the files below it, which nest at most 16 deep, are what a run needs: their citations, and the one style and
-- the one line of databases that they name
pub record NeedsRead (told : Listing) (text : List ℕ) (needs : Needs) : Type 0 where
  pub first : Aux
  pub reads : AuxReads text first
  pub files : List Aux
  pub joined : Joined told 16 first.items files needs.items
  pub one_style : styles (first ∷ files) ≡ needs.style ∷ []
  pub one_line : databases (first ∷ files) ≡ needs.databases ∷ []
