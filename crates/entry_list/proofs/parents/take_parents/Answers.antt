use Rattle.std.proofs.Common.{◌∙◌, ap, refl, ◌++◌}
use Rattle.std.specs.Prelude.{filter}
use Rattle.bv_base.specs.KeySets.{has_lowered}
use Rattle.entry_list.specs.Parents.{is_chosen, same_listed}
use Rattle.entry_list.proofs.Lists.{drop_item, fresh_all, stepped_filter}
use Rattle.entry_list.proofs.Naming.{is_done}
use Rattle.entry_list.proofs.parents.take_parents.Goals as goal

pub loop-parent-init : goal.loop-parent-init
loop-parent-init c =
    ap (λ l. c.args.found.now.items ++ filter (is_chosen c.args.twice.now c.args.listed.now) l)
    (fresh_all same_listed is_done c.new-done.result (λ p. ap (has_lowered p.key) c.new-done.ensures) c.args.parents.now)

pub loop-parent-preserved : goal.loop-parent-preserved
loop-parent-preserved c =
    let parents = c.args.parents.now in
    let parent = c.parent-item.result in
    let i = c.loop-parent.parent-index in
    stepped_filter same_listed is_done (is_chosen c.args.twice.now c.args.listed.now) _ c.loop-parent.done c.take_parent.new.done parent parents i _ _
    (drop_item parents i parent c.loop-parent-test.true c.parent-item.is)
    (λ later. c.in_ok-take_parent.ensures.done later.key)
    refl
    c.in_ok-take_parent.ensures.found
    ∙ c.loop-parent.invariant
