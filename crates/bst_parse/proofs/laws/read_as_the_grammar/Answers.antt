use Rattle.bst_parse.proofs.BothWays.{reads_of, of_reads}
use Rattle.bst_parse.proofs.laws.read_as_the_grammar.Goals as goal

pub returns : goal.returns
returns c =
    λ style.
    (reads_of c.args.source.now style c.lexemes_as_spelled.ensures, of_reads c.args.source.now style c.lexemes_as_spelled.ensures)
