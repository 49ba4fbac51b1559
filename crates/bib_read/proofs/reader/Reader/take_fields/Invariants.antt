use Rattle.std.proofs.Common.{◌≡◌, ◌-◌, length}
use Rattle.bib_read.specs.Progressing.{progress_of}
use Rattle.bib_read.specs.Entering.{take_fields}
use Rattle.bib_read.proofs.reader.Reader.take_fields.Given as goal

abbrev pub invariant-loop-round : goal.invariant-loop-round
invariant-loop-round l =
    take_fields (l._round-end - l._round) l.close l.key (progress_of l.self)
    ≡ take_fields (length l.fn.self.rest.now) l.close l.key (progress_of l.fn.self)
