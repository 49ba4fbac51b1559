use Rattle.std.proofs.Common.{◌≡◌, ◌∙◌, ap, arith, length, sym, List}
use Rattle.entry_store.specs.NumberedTexts.{Numbered}
use Rattle.entry_store.proofs.Numbering.{as_many}
use Rattle.entry_store.proofs.numbered_texts.NumberedTexts.len.Goals as goal

pub returns : goal.returns
returns c =
    let count : c.len.result ≡ length c.self.inside.numbers.items = omega (arith, c.len.ensures) in
    count
    ∙ sym (as_many c.self.inside.numbers.items c.self.inside.texts c.self.invariant)
    ∙ ap (λ (l : List Numbered). length l) c.self.view_is
