-- What the definition reads the grammar spells, and what the grammar spells stands in order.
use Rattle.std.proofs.Common.{refl}
use Rattle.bst_lex.specs.Lexemes.{lexed_after}
use Rattle.bv_base.specs.Places.{first_place}
use Rattle.bst_lex.proofs.Ordering.{in_order}
use Rattle.bst_lex.proofs.Spelling.{spelled}
use Rattle.bst_lex.proofs.laws.lexemes_in_order.Goals as goal

pub returns : goal.returns
returns c =
    let found = lexed_after 0 0 first_place c.args.source.now in
    in_order c.args.source.now 0 first_place c.args.source.now found.lexemes found.fault refl refl
    (spelled 0 first_place c.args.source.now)
