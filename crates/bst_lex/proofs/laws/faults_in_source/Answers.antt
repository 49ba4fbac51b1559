-- What the grammar spells ends in a fault within the source.
use Rattle.std.proofs.Common.{refl, arith}
use Rattle.bst_lex.specs.Lexemes.{lexed_after}
use Rattle.bv_base.specs.Places.{first_place}
use Rattle.bst_lex.proofs.Placing.{spelled_stands}
use Rattle.bst_lex.proofs.Spelling.{spelled}
use Rattle.bst_lex.proofs.laws.faults_in_source.Goals as goal

pub returns : goal.returns
returns c =
    let found = lexed_after 0 0 first_place c.args.source.now in
    spelled_stands c.args.source.now 0 first_place c.args.source.now found.lexemes found.fault refl refl (omega arith)
    (spelled 0 first_place c.args.source.now)
