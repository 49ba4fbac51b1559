use Rattle.std.proofs.Common.{List, ap, ◌∙◌}
use Rattle.aux_read.specs.declared.aux.AuxItem.{AuxItem}
use Rattle.entry_list.specs.Joining.{joined}
use Rattle.bst_run.proofs.run.join_all.Goals as goal

pub returns-clause-found : goal.returns-clause-found
returns-clause-found c =
    c.in_ok-found.ensures.joined ∙ ap (λ (items : List AuxItem). joined c.args.sources.style items c.args.sources.database) c.as_slice.ensures
