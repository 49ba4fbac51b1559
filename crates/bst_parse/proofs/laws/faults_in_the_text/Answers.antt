use Rattle.std.proofs.Common.{refl}
use Rattle.bst_lex.specs.Lexemes.{lexed}
use Rattle.bst_parse.proofs.FaultsStand.{fault_stands}
use Rattle.bst_parse.proofs.laws.faults_in_the_text.Goals as goal

pub returns : goal.returns
returns c =
    let source = c.args.source.now in
    λ fault e.
    fault_stands source fault c.lexemes_in_order.ensures
    ((c.lexemes_as_spelled.ensures (lexed source).left (lexed source).fault).1 (refl, refl)) c.faults_in_source.ensures e
