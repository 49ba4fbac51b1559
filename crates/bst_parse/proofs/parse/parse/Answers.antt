use Rattle.bst_lex.specs.Lexemes.{lexed}
use Rattle.std.proofs.Common.{refl}
use Rattle.bst_parse.proofs.SoundStyle.{sound_style}
use Rattle.bst_parse.proofs.parse.parse.Goals as goal

-- a style that is read is sound
pub returns-clause-sound : goal.returns-clause-sound
returns-clause-sound c =
    let read = lexed c.args.source.now in
    let spells = (c.lexemes_as_spelled.ensures read.left read.fault).1 (refl, refl) in
    sound_style c.args.source.now c.read.result c.requires c.are_bytes.ensures spells c.read.ensures.ok
