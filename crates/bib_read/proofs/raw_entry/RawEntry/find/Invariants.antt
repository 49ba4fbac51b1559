use Rattle.std.proofs.Common.{◌≡◌, None, take}
use Rattle.bib_read.specs.Names.{text_of}
use Rattle.bib_read.proofs.raw_entry.RawEntry.find.Given as goal

-- the fields so far have other names
abbrev pub invariant-loop-at : goal.invariant-loop-at
invariant-loop-at l = text_of l.name (take l.at l.self.fields) ≡ None
