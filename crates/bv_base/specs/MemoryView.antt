-- How files in memory are kept: a newer file stands before an older one of its name and hides it.
use Rattle.std.specs.Prelude.{◌≡◌, ◌≤◌, List, [], ◌∷◌, drop, length}
use Rattle.std.specs.FinMap as map
use Rattle.bv_base.specs.Outside.{Listing}
use Rattle.bv_base.specs.Memory.{FileMemory}
use Rattle.bv_base.specs.declared.mem_files.MemFile.{MemFile}
use Rattle.bv_base.specs.declared.mem_files.MemFiles.TheInside.{Inside}

-- the first file of a name answers for it
abbrev pub listing_of : List MemFile → Listing
listing_of [] = map.empty
listing_of (file ∷ files) = map.insert (listing_of files) file.name file.bytes

-- what the fields stand for
abbrev pub memory_of : Inside → FileMemory
memory_of m = record {
  listing = listing_of m.files.items;
  calls = m.calls;
  failing = m.failing.items;
  begun = m.begun.items;
  rest = drop m.at m.opened.items;
  faults = m.faults;
}

-- what is left is a part of what was opened, and nothing is left before the first `begin`
pub record IsKept (m : Inside) : Type 0 where
  pub within : m.at ≤ length m.opened.items
  pub unbegun : m.begun.items ≡ [] → drop m.at m.opened.items ≡ []
