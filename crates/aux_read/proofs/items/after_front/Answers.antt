-- Where the bytes end before the marks do, the marks don't stand there.
use Rattle.std.proofs.Common.{◌≡◌, ℕ, ◌<◌, List, [], ◌∷◌, length, drop, None, ap, sym, ◌∙◌, arith, drop-cons}
use Rattle.aux_read.specs.Items.{after_front}
use Rattle.aux_read.proofs.items.after_front.Goals as goal

too_short : (marks rest : List ℕ) (i : ℕ) → i < length marks → length rest < 1
    → after_front (drop i marks) rest ≡ None
too_short marks [] i within short = ap (λ left. after_front left []) (drop-cons marks i 0 within)
too_short marks (b ∷ rest) i within short = absurd (omega arith)

pub returns-in-empty : goal.returns-in-empty
returns-in-empty c =
    sym (too_short _ _ _ c.loop-mark-test.true c.in-empty.len_below) ∙ c.loop-mark.invariant
