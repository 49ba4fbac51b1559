use Rattle.std.proofs.Common.{◌≡◌, ◌-◌, length}
use Rattle.bib_read.specs.Progressing.{progress_of}
use Rattle.bib_read.specs.Values.{take_pieces}
use Rattle.bib_read.proofs.reader.Reader.take_pieces.Given as goal

abbrev pub invariant-loop-round : goal.invariant-loop-round
invariant-loop-round l =
    take_pieces (l._round-end - l._round) (progress_of l.self)
    ≡ take_pieces (length l.fn.self.rest.now) (progress_of l.fn.self)
