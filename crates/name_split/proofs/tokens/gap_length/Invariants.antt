use Rattle.std.proofs.Common.{◌≡◌, ◌+◌, drop}
use Rattle.name_split.specs.Spans.{front}
use Rattle.name_split.specs.Tokens.{ends_token}
use Rattle.name_split.proofs.tokens.gap_length.Given as goal

abbrev pub invariant-loop-i : goal.invariant-loop-i
invariant-loop-i l = l.i + front (ends_token 0) (drop l.i l.bytes) ≡ front (ends_token 0) l.bytes
