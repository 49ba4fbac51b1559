-- The sort key is the string of the variable `sort.key$`.
use Rattle.std.proofs.Common.{◌∙◌, ◌*◌, [], ℕ, ap, drop, length, slice_get}
use Rattle.bst_meaning.specs.Sorting as rule
use Rattle.bst_meaning.specs.declared.value.Value.{Value}
use Rattle.bst_step.specs.Variables.{names_in}
use Rattle.bst_step.proofs.SortSteps.{key_found, no_key, no_key_there}
use Rattle.bst_step.proofs.VariableSteps.{as_many}
use Rattle.bst_step.proofs.order.sort_key.Goals as goal

pub returns-in-Some-value_at : goal.returns-in-Some-value_at
returns-in-Some-value_at c =
    c.string_of.ensures
    ∙ ap (λ (v : Value). rule.string_of v) c.operand.ensures
    ∙ key_found c.args.pool.now (names_in c.args.own.now) c.args.values.now [] c.args.place c.in-Some.index c.in-Some-value_at.held
    c.in-Some.ensures
    (c.in-Some-value_at.ensures
    ∙ ap (λ (n : ℕ). slice_get (drop (c.args.place * n) c.args.values.now) c.in-Some.index) (ap length c.values.ensures ∙ as_many c.args.own.now))

pub returns-in-None : goal.returns-in-None
returns-in-None c =
    no_key_there c.args.pool.now (names_in c.args.own.now) c.args.values.now [] c.args.place c.in-Some.index c.in-Some.ensures
    (c.in-None.ensures
    ∙ ap (λ (n : ℕ). slice_get (drop (c.args.place * n) c.args.values.now) c.in-Some.index) (ap length c.values.ensures ∙ as_many c.args.own.now))

pub returns-in_default : goal.returns-in_default
returns-in_default c =
    no_key c.args.pool.now (names_in c.args.own.now) c.args.values.now [] c.args.place c.in_default.ensures
