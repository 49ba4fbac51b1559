use Rattle.bst_parse.proofs.BothWays.{same_style}
use Rattle.bst_parse.proofs.laws.one_style_at_most.Goals as goal

pub returns : goal.returns
returns c =
    λ first second f s.
    same_style c.args.source.now first second ((c.read_as_the_grammar.ensures first).1 f) ((c.read_as_the_grammar.ensures second).1 s)
