-- No file before the rest has the name.
use Rattle.std.proofs.Common.{◌≡◌, length}
use Rattle.std.specs.FinMap.{get}
use Rattle.bv_base.specs.MemoryView.{listing_of}
use Rattle.bv_base.proofs.mem_files.find_file.Given as goal

abbrev pub invariant-loop-rest : goal.invariant-loop-rest
invariant-loop-rest l = get (listing_of l.files) l.name ≡ get (listing_of l.rest) l.name

abbrev pub decreases-loop-rest : goal.decreases-loop-rest
decreases-loop-rest l = length l.rest
