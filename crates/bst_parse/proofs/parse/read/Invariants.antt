use Rattle.std.proofs.Common.{◌≡◌, length}
use Rattle.bst_parse.specs.Progressing.{progress_of}
use Rattle.bst_parse.specs.Reading.{reading_on, style_of}
use Rattle.bst_parse.proofs.parse.read.Given as goal

abbrev pub invariant-loop-lexeme : goal.invariant-loop-lexeme
invariant-loop-lexeme l =
    record {
      source : l.lexer.source ≡ l.source;
      read : reading_on l.lexer (progress_of l.parser) ≡ style_of l.source;
    }

abbrev pub decreases-loop-lexeme : goal.decreases-loop-lexeme
decreases-loop-lexeme l = length l.lexer.left
