use Rattle.std.proofs.Common.{◌≡◌, ◌++◌, ◌∙◌, false, ap, refl}
use Rattle.std.specs.Prelude.{flat_map}
use Rattle.entry_list.specs.declared.citing.Seen.{Seen}
use Rattle.entry_list.specs.Citing.{asked_for, asks_same, not_found}
use Rattle.entry_list.specs.Keys.{firsts}
use Rattle.entry_list.specs.Tables.{was_asked}
use Rattle.entry_list.proofs.Lists.{drop_item, fresh_all, stepped}
use Rattle.entry_list.proofs.Unseen.{none_asked, unseen}
use Rattle.entry_list.proofs.citing.cited_list.Goals as goal

pub loop-item-init : goal.loop-item-init
loop-item-init c =
    let items = c.args.items.now in
    let table = c.args.table.now in
    let seen : Seen = record { keys = c.new-3.result; all = false } in
    let all : unseen seen items ≡ firsts asks_same items =
    fresh_all asks_same was_asked seen (none_asked seen c.new-3.ensures refl) items in
    record {
      list =
          ap (λ l. l ++ flat_map (asked_for items table) (unseen seen items)) c.new.ensures.items
          ∙ ap (flat_map (asked_for items table)) all;
      warnings =
          ap (λ l. l ++ flat_map (not_found table) (unseen seen items)) c.new-2.ensures
          ∙ ap (flat_map (not_found table)) all;
    }

pub loop-item-preserved : goal.loop-item-preserved
loop-item-preserved c =
    let items = c.args.items.now in
    let table = c.args.table.now in
    let item = c.item-item.result in
    let i = c.loop-item.item-index in
    let at = drop_item items i item c.loop-item-test.true c.item-item.is in
    record {
      list =
          stepped asks_same was_asked (asked_for items table) c.loop-item.seen c.take.new.seen item items i
          c.loop-item.cited.list.items c.take.new.cited.list.items at c.in_ok-take.ensures.noted c.in_ok-take.ensures.list
          ∙ c.loop-item.invariant.list;
      warnings =
          stepped asks_same was_asked (not_found table) c.loop-item.seen c.take.new.seen item items i
          c.loop-item.cited.warnings c.take.new.cited.warnings at c.in_ok-take.ensures.noted c.in_ok-take.ensures.warnings
          ∙ c.loop-item.invariant.warnings;
    }
