use Rattle.std.proofs.Common.{◌∙◌, ap}
use Rattle.std.proofs.lemmas.Result.{IfOk-weaker}
use Rattle.entry_list.specs.Keys.{is_listed}
use Rattle.entry_list.proofs.Tables.{all_told}
use Rattle.entry_list.proofs.parents.listed_parents.Goals as goal

-- the keys of the parents of a list say of each whether it is in the list
pub returns : goal.returns
returns c =
    IfOk-weaker c.listed_of.result _ _
    (λ listed same. all_told listed c.args.table.now c.args.list.now c.args.list.now
    (λ key among. same key (ap (is_listed key) (c.as_slice.ensures.value ∙ c.in_ok-parents.ensures) ∙ among)))
    c.listed_of.ensures
