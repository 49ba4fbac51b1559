use Rattle.std.proofs.Common.{◌∙◌, ◌++◌, ◌∷◌, [], ap, sym}
use Rattle.entry_list.proofs.Lists.{take_next}
use Rattle.entry_list.proofs.sources.read_into.Goals as goal

pub loop-at-preserved : goal.loop-at-preserved
loop-at-preserved c =
    c.in_ok-push.ensures.items
    ∙ ap (λ l. l ++ c.in-Some.field ∷ []) c.loop-at.invariant
    ∙ sym (take_next c.args.entry.now.fields c.loop-at.at c.in-Some.field (sym c.in-Some.ensures))
