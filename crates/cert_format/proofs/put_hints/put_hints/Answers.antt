use Rattle.std.proofs.Common.{[], ◌∷◌, map, codes}
use Rattle.cert_format.specs.HintSpelling.{hint_items}
use Rattle.cert_format.proofs.Texts.{puts, puts_last, puts_line}
use Rattle.cert_format.proofs.put_hints.put_hints.Goals as goal

pub returns : goal.returns
returns c =
    let end = (codes "end" ∷ []) ∷ [] in
    puts_line c.put_word-2.result (codes "hints" ∷ []) _ c.args.printer.now c.put_word.new.printer _ c.in_ok-put_word.ensures
    (puts c.put_word-2.result (map hint_items c.args.hints.now) end c.put_word.new.printer c.put_each.new.printer _ c.in_ok-put_each.ensures
    (puts_last c.put_word-2.result (codes "end" ∷ []) c.put_each.new.printer _ c.put_word-2.ensures))
