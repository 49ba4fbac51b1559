use Rattle.std.proofs.Common.{◌≡◌, map, drop}
use Rattle.bst_parse.specs.Commands.{word_among}
use Rattle.bst_parse.proofs.grammar.word_among.Given as goal

abbrev pub invariant-loop-text : goal.invariant-loop-text
invariant-loop-text l =
    word_among l.fn.name (map (λ word. (word.0.now, word.1)) l.fn.words)
    ≡ word_among l.fn.name (map (λ word. (word.0.now, word.1)) (drop l.text-index l.words))
