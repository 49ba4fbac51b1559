use Rattle.std.proofs.Common.{◌∙◌, ◌+◌, ◌∷◌, ◌&&◌, ◌||◌, ap, sym, drop}
use Rattle.bv_base.specs.KeySets.{has_lowered}
use Rattle.entry_list.specs.Keys.{Listed, is_listed}
use Rattle.entry_list.proofs.Among.{among_end, among_step}
use Rattle.entry_list.proofs.Lists.{drop_end, drop_item}
use Rattle.entry_list.proofs.listed.listed_among.Goals as goal

pub loop-chosen-preserved : goal.loop-chosen-preserved
loop-chosen-preserved c =
    let list = c.args.list.now in
    let named = c.args.named.now in
    let listed = c.loop-chosen.listed in
    let i = c.loop-chosen.chosen-index in
    let left = drop (i + 1) list in
    let entry : Listed = record { key = c.chosen.inside.key.now; entry = c.chosen.inside.entry } in
    λ key. among_step listed c.add_named.new.listed named entry key left (c.in_ok-add_named.ensures key)
    ∙ ap (λ e. has_lowered key listed || (has_lowered key named && is_listed key (e ∷ left))) c.chosen.view_is
    ∙ ap (λ l. has_lowered key listed || (has_lowered key named && is_listed key l))
    (sym (drop_item list i c.chosen-item.result c.loop-chosen-test.true c.chosen-item.is))
    ∙ c.loop-chosen.invariant key

pub returns : goal.returns
returns c =
    let list = c.args.list.now in
    let named = c.args.named.now in
    let listed = c.loop-chosen.listed in
    λ key. sym (among_end (has_lowered key listed) (has_lowered key named))
    ∙ ap (λ l. has_lowered key listed || (has_lowered key named && is_listed key l))
    (sym (drop_end list c.loop-chosen.chosen-index c.loop-chosen-test.false))
    ∙ c.loop-chosen.invariant key
