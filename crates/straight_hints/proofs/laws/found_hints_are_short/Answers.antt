-- The law of short proofs.
use Rattle.straight_hints.proofs.Short.{above_short, piece_short, plain_short, test_short}
use Rattle.straight_hints.proofs.laws.found_hints_are_short.Goals as goal

pub returns : goal.returns
returns c = record { plain = plain_short; test = test_short; piece = piece_short; above = above_short }
