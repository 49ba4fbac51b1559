use Rattle.std.proofs.Common.{◌∙◌, ap, get_or, List}
use Rattle.entry_store.specs.NumberedTexts.{Numbered, no_text}
use Rattle.entry_store.proofs.Numbering.{text_read}
use Rattle.entry_store.proofs.numbered_texts.NumberedTexts.at.Goals as goal

pub returns : goal.returns
returns c =
    c.at.ensures
    ∙ text_read c.self.inside.numbers.items c.self.inside.texts c.args.at c.self.invariant
    ∙ ap (λ (l : List Numbered). (get_or l c.args.at no_text).text) c.self.view_is
