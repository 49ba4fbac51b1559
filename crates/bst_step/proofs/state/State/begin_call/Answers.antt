-- What is held is seen as before, and the name is entered.
use Rattle.std.proofs.Common.{◌≡◌, true, [], ◌∷◌, subst}
use Rattle.std.specs.Result.{OnOk}
use Rattle.name_table.specs.declared.style.Token.TheVariants.{Call}
use Rattle.bst_meaning.specs.Config.{Config, Whole}
use Rattle.bst_meaning.specs.Machine.{with_frame}
use Rattle.bst_step.specs.State.{config_of}
use Rattle.bst_step.proofs.AssignSteps.{call_begun}
use Rattle.bst_step.proofs.state.State.begin_call.Goals as goal

pub returns-clause-moved : goal.returns-clause-moved
returns-clause-moved c =
    subst (λ (d : Config). OnOk c.enter.result (config_of c.enter.new.self
    ≡ with_frame (record { token = Call c.args.name; place = c.args.place } ∷ []) c.args.place Whole d))
    (call_begun c.args.self.now c.renew.new.self true c.in_ok-renew.ensures.stack c.in_ok-renew.ensures.globals c.in_ok-renew.ensures.entries)
    c.enter.ensures.moved
