-- Where and why the reader of a database stops (docs/DATA.md, "Faults of a .bib file").
use Rattle.std.specs.Prelude.{ℕ, List, [], ◌∷◌, length}
use Rattle.bv_base.specs.Places.{place_before}
use Rattle.bib_read.specs.declared.fault.BibFault.{BibFault}
use Rattle.bib_read.specs.declared.fault.BibFault.TheVariants.{Expected as ExpectedAt, EndOfFile as EndOfFileAt, Unbalanced as UnbalancedAt, RepeatedKey as RepeatedKeyAt, NoMemory as WantOfMemory}
use Rattle.bib_read.specs.declared.stop.Stop.{Stop}
use Rattle.bib_read.specs.declared.stop.Stop.TheVariants.{Expected, EndOfFile, Unbalanced, RepeatedKey, NoMemory}

-- the fault of a text for which the reader stops
abbrev pub fault_of : List ℕ → Stop → BibFault
fault_of source (Expected left) = ExpectedAt (place_before source left)
fault_of source EndOfFile = EndOfFileAt (place_before source 0)
fault_of source (Unbalanced left) = UnbalancedAt (place_before source left)
fault_of source (RepeatedKey left) = RepeatedKeyAt (place_before source left)
fault_of source NoMemory = WantOfMemory

-- what stops the reader at a byte that isn't wanted: the byte, or the text's end
abbrev pub unexpected : List ℕ → Stop
unexpected [] = EndOfFile
unexpected (b ∷ bytes) = Expected (length (b ∷ bytes))
