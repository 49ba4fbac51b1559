use Rattle.std.proofs.Common.{◌≡◌, true, rules}
use Rattle.std.specs.List.{list_all}
use Rattle.entry_list.specs.Keys.{is_no_input}
use Rattle.entry_list.proofs.Keyed.{citations_of}
use Rattle.reading_tests.proofs.tests.entries.lines_of.Goals as goal

pub join-requires-clause-items : goal.join-requires-clause-items
join-requires-clause-items c =
    let all : list_all is_no_input c.args.items.now ≡ true = search rules in
    citations_of c.args.items.now c.requires.items all
