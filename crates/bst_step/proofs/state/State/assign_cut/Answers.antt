-- The line is logged, the name taken off, and a part of the string assigned.
use Rattle.std.proofs.Common.{◌∙◌, List, [], ◌∷◌, ap}
use Rattle.bst_meaning.specs.declared.value.Value.{Value}
use Rattle.bst_step.specs.Moves.{with_log}
use Rattle.bst_step.specs.State.{config_of}
use Rattle.bst_step.specs.Values.{cut}
use Rattle.bst_step.proofs.AssignSteps.{cut_from_top}
use Rattle.bst_step.proofs.state.State.assign_cut.Goals as goal

pub returns-clause-moved : goal.returns-clause-moved
returns-clause-moved c =
    cut_from_top c.args.style.now c.args.name c.args.size c.log_line.new.self c.cut_top.new.self
    (with_log (c.args.line ∷ []) (config_of c.args.self.now)) (config_of c.assign_top.new.self)
    (c.cut_top.ensures.stack ∙ ap (λ (vs : List Value). cut 0 c.args.size vs) c.drop_top.ensures.stack)
    (c.cut_top.ensures.globals ∙ c.drop_top.ensures.globals) (c.cut_top.ensures.entries ∙ c.drop_top.ensures.entries)
    c.in_ok-log_line.ensures.moved c.assign_top.ensures.moved
