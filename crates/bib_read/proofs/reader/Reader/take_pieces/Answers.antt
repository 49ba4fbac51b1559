use Rattle.std.proofs.Common.{◌≡◌, ◌+◌, ◌-◌, length, cond, Ok, rules}
use Rattle.bv_base.specs.Answers.{then_do}
use Rattle.bib_read.specs.Parts.{passed, stands}
use Rattle.bib_read.specs.Progress.{Progress}
use Rattle.bib_read.specs.Progressing.{progress_of}
use Rattle.bib_read.specs.Values.{take_piece, take_pieces}
use Rattle.bib_read.proofs.Rounds.{pieces_round}
use Rattle.bib_read.proofs.reader.Reader.take_pieces.Goals as goal

pub returns-in_err-take_piece : goal.returns-in_err-take_piece
returns-in_err-take_piece c =
    let end = length c.args.self.now.rest.now in
    let i = c.loop-round._round in
    let p : Progress = progress_of c.loop-round.self in
    let round : take_pieces (end - i) p
    ≡ then_do (take_piece p) (λ q. cond (stands 35 q) (take_pieces (end - (i + 1)) (passed 35 q)) (Ok (passed 35 q))) =
    pieces_round end i p c.loop-round-test.true in
    search rules
