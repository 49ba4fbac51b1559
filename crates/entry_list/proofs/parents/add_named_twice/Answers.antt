use Rattle.std.proofs.Common.{◌∙◌, ◌+◌, ◌∷◌, ap, sym, drop}
use Rattle.bv_base.specs.KeySets.{has_lowered}
use Rattle.entry_list.specs.Keys.{Listed}
use Rattle.entry_list.proofs.Lists.{drop_end, drop_item}
use Rattle.entry_list.proofs.Naming.{twice_end, twice_step, twice_with}
use Rattle.entry_list.proofs.parents.add_named_twice.Goals as goal

pub loop-parent-preserved : goal.loop-parent-preserved
loop-parent-preserved c =
    let parents = c.args.parents.now in
    let i = c.loop-parent.parent-index in
    let left = drop (i + 1) parents in
    let parent : Listed = record { key = c.parent.inside.key.now; entry = c.parent.inside.entry } in
    λ key. twice_step c.loop-parent.twice c.name.new.twice c.loop-parent.once c.name.new.once parent key left
    (c.in_ok-name.ensures.once key) (c.in_ok-name.ensures.twice key)
    ∙ ap (λ p. twice_with (has_lowered key c.loop-parent.twice) (has_lowered key c.loop-parent.once) key (p ∷ left)) c.parent.view_is
    ∙ ap (twice_with (has_lowered key c.loop-parent.twice) (has_lowered key c.loop-parent.once) key)
    (sym (drop_item parents i c.parent-item.result c.loop-parent-test.true c.parent-item.is))
    ∙ c.loop-parent.invariant key

pub returns : goal.returns
returns c =
    let parents = c.args.parents.now in
    let once = c.loop-parent.once in
    let twice = c.loop-parent.twice in
    λ key. sym (twice_end (has_lowered key twice) (has_lowered key once) key)
    ∙ ap (twice_with (has_lowered key twice) (has_lowered key once) key)
    (sym (drop_end parents c.loop-parent.parent-index c.loop-parent-test.false))
    ∙ c.loop-parent.invariant key
