-- A row is kept where it is wanted and there is room.
use Rattle.std.proofs.Common.{◌≤◌, ◌<◌, [], ◌∷◌, length, sym, ◌∙◌, arith}
use Rattle.std.specs.List.{filter}
use Rattle.loop_templates.specs.Rows.{is_wanted}
use Rattle.loop_templates.proofs.Taken.{take_full}
use Rattle.loop_templates.proofs.Wanted.{one_kept, one_passed}
use Rattle.loop_templates.proofs.rows.keep_one.Goals as goal

pub returns-then-len-ge-MOST_ITEMS-clause-kept : goal.returns-then-len-ge-MOST_ITEMS-clause-kept
returns-then-len-ge-MOST_ITEMS-clause-kept c =
    let full : 64 ≤ length c.args.rows.now.items = omega arith in
    sym (take_full 64 c.args.rows.now.items (filter (is_wanted c.args.cond.now c.args.start.now) (c.args.row ∷ [])) full c.requires.few)

pub returns-in_ok-push-clause-kept : goal.returns-in_ok-push-clause-kept
returns-in_ok-push-clause-kept c =
    let room : length c.args.rows.now.items < 64 = omega arith in
    one_kept (is_wanted c.args.cond.now c.args.start.now) 64 c.args.row c.args.rows.now.items c.push.new.self.items room
    (sym c.in_ok-is_wanted.ensures ∙ c.if-branch.true) c.in_ok-push.ensures.items

pub returns-else-branch-clause-kept : goal.returns-else-branch-clause-kept
returns-else-branch-clause-kept c =
    one_passed (is_wanted c.args.cond.now c.args.start.now) 64 c.args.row c.args.rows.now.items c.requires.few
    (sym c.in_ok-is_wanted.ensures ∙ c.if-branch.false)
