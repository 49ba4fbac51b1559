-- Tables by which summaries and blocks are found (docs/CHECKER.md, "The walk"): each says what the lists do.
use Rattle.std.specs.Prelude.{◌≡◌, ℕ, Bool, List, Option, Some, slice_get}
use Rattle.std.specs.List.{list_any}
use Rattle.name_table.specs.declared.style.Body.{Body}
use Rattle.name_table.specs.declared.style.BodyId.{BodyId}
use Rattle.name_table.specs.declared.style.Style.{Style}
use Rattle.bst_meaning.specs.declared.value.Target.{Target}
use Rattle.bst_meaning.specs.declared.value.Target.TheVariants.{Named, Block as BlockTarget}
use Rattle.cert_format.specs.declared.cert.Cert.{Cert}
use Rattle.cert_format.specs.declared.cert.Summary.{Summary}
use Rattle.cert_check.specs.Walks.{block_body, is_target}

-- whether names and blocks have a summary, by their ids, and the body of each block, by its number
pub record Tables : Type 0 where
  pub named : List Bool
  pub blocks : List Bool
  pub bodies : List (Option BodyId)

-- the name and the block of an id
abbrev pub name_of_id : ℕ → Target
name_of_id id = Named (record { 0 = id })

-- the block of an id
abbrev pub block_of_id : ℕ → Target
block_of_id id = BlockTarget (record { 0 = id })

-- a mark for each target that one of these summaries has, where targets are numbered
abbrev pub AreMarks : (ℕ → Target) → List Bool → List Summary → Type 0
AreMarks target marks summaries =
    (id : ℕ) (mark : Bool) → slice_get marks id ≡ Some mark → mark ≡ list_any (λ summary. is_target summary.body (target id)) summaries

-- the body of each block, among bodies that are numbered from here
abbrev pub AreBodies : ℕ → List (Option BodyId) → List Body → Type 0
AreBodies from found bodies = (number : ℕ) (body : Option BodyId) → slice_get found number ≡ Some body → body ≡ block_body number from bodies

-- the tables of a certificate for a style
pub record AreTables (style : Style) (cert : Cert) (tables : Tables) : Type 0 where
  pub named : AreMarks name_of_id tables.named cert.summaries
  pub blocks : AreMarks block_of_id tables.blocks cert.summaries
  pub bodies : AreBodies 0 tables.bodies style.bodies

-- what the tables say of a target, where it is in them
abbrev pub mark_of : Tables → Target → Option Bool
mark_of tables (Named name) = slice_get tables.named name.0
mark_of tables (BlockTarget body) = slice_get tables.blocks body.0
