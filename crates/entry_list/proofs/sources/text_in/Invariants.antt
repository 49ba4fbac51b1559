use Rattle.std.proofs.Common.{◌≡◌, drop}
use Rattle.bib_read.specs.Names.{text_of}
use Rattle.entry_list.proofs.sources.text_in.Given as goal

-- the first field of this name is among those that are left
abbrev pub invariant-loop-field : goal.invariant-loop-field
invariant-loop-field l = text_of l.name (drop l.field-index l.fields) ≡ text_of l.name l.fields
