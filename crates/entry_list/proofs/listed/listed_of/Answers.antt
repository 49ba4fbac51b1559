use Rattle.std.proofs.Common.{◌≡◌, ◌∙◌, ◌&&◌, ap, sym, false, true}
use Rattle.std.proofs.lemmas.Result.{IfOk-weaker}
use Rattle.entry_list.specs.Keys.{is_listed}
use Rattle.entry_list.proofs.Among.{none_named}
use Rattle.entry_list.proofs.listed.listed_of.Goals as goal

-- no key is one of no parents
pub returns-then-is_empty : goal.returns-then-is_empty
returns-then-is_empty c =
    λ key among.
    let none : false ≡ true =
    sym (none_named key c.args.parents.now c.is_empty.result c.is_empty.ensures c.if-is_empty.true) ∙ among in
    absurd cc

-- a key of the parents is in the list, or isn't
pub returns : goal.returns
returns c =
    IfOk-weaker c.listed_among.result _ _
    (λ listed same key among. same key ∙ ap (λ b. b && is_listed key c.args.list.now) (c.in_ok-named.ensures key ∙ among))
    c.listed_among.ensures
