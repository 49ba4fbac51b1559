-- The keys that an `.aux` file cites (docs/DATA.md, "Lines of an .aux file").
use Rattle.std.specs.Prelude.{List}
use Rattle.std.specs.List.{AllByRecursion}
use Rattle.bv_base.specs.Keys.{IsKey}
use Rattle.aux_read.specs.declared.aux.AuxItem.{AuxItem}
use Rattle.aux_read.specs.declared.aux.AuxItem.TheVariants.{Cite}

-- a request for an entry has a key
abbrev pub HasKey : AuxItem → Type 0
HasKey (Cite key) = IsKey key
HasKey _ = Unit {0}

-- each request for an entry has a key
abbrev pub HaveKeys : List AuxItem → Type 0
HaveKeys items = AllByRecursion HasKey items
