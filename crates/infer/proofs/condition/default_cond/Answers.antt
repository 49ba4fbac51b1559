-- What is given is the default condition, which keeps the limits and the order.
use Rattle.std.proofs.Common.{◌∙◌}
use Rattle.infer.proofs.Conditions.{kept_as}
use Rattle.infer.proofs.condition.default_cond.Goals as goal

pub returns-clause-kept : goal.returns-clause-kept
returns-clause-kept c =
    kept_as c.args.style.now c.from_vec.result c.new.result c.from_vec-2.result (c.from_vec.ensures ∙ c.in_ok-names_lines.ensures) c.new.ensures
    (c.from_vec-2.ensures ∙ c.in_ok-types.ensures)
