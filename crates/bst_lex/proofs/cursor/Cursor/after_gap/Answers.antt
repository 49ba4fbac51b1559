-- The gap is passed over.
use Rattle.std.proofs.Common.{refl}
use Rattle.bst_lex.proofs.Moving.{stands_moved}
use Rattle.bst_lex.proofs.Remaining.{after_gap, gap_gone}
use Rattle.bst_lex.proofs.cursor.Cursor.after_gap.Goals as goal

pub returns-clause-gone : goal.returns-clause-gone
returns-clause-gone c = gap_gone _ _ _ c.gap_length.ensures.gap c.passed.ensures.rest

pub returns-clause-stands : goal.returns-clause-stands
returns-clause-stands c =
    λ source stands.
    stands_moved source _ _ _ _ _ _ _ stands c.gap_length.ensures.within c.passed.ensures.start c.passed.ensures.place
    c.passed.ensures.rest c.passed.ensures.line c.passed.ensures.column

pub returns-clause-reading : goal.returns-clause-reading
returns-clause-reading c =
    λ source failed.
    after_gap source failed _ _ _ _ _ _ _ _ refl c.gap_length.ensures.gap c.passed.ensures.start c.passed.ensures.place
    c.passed.ensures.rest
