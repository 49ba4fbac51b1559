-- The cursor is as far from the end as what is left is long.
use Rattle.std.proofs.Common.{◌∙◌, ap, length}
use Rattle.bv_base.specs.Places.{place_at}
use Rattle.bst_lex.proofs.Moving.{end_place}
use Rattle.bst_lex.proofs.Remaining.{source_kept}
use Rattle.bst_lex.proofs.lexer.Lexer.end.Goals as goal

pub returns : goal.returns
returns c =
    end_place _ _ _ _ _ c.self.invariant c.passed.ensures.place
    ∙ ap (λ source. place_at source (length source))
    (source_kept c.self.inside.source.now c.self.inside.failed _ _ _ _ c.self.view_is)
