use Rattle.std.proofs.Common.{◌≡◌, ◌-◌, drop, take}
use Rattle.entry_store.specs.NumberedTexts.{numbered, text_under}
use Rattle.entry_store.proofs.numbered_texts.text_in.Given as goal

-- none of the texts so far decides
abbrev pub invariant-loop-at : goal.invariant-loop-at
invariant-loop-at l =
    text_under l.number (take (l.end - l.at) (drop l.at (numbered l.numbers l.texts)))
    ≡ text_under l.number (take l.count (drop l.from (numbered l.numbers l.texts)))
