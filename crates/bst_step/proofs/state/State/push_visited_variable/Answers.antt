-- The variable is that of the visited entry.
use Rattle.std.proofs.Common.{◌≡◌, Option, ap, is_some, slice_get, subst}
use Rattle.std.specs.Option.{option_and_then}
use Rattle.std.specs.Result.{IfOk, OnOk}
use Rattle.bst_meaning.specs.Config as config
use Rattle.bst_meaning.specs.Machine as rule
use Rattle.bst_step.specs.Moves.{with_stack}
use Rattle.bst_step.specs.State.{config_of}
use Rattle.bst_step.specs.Values.{with_pushed}
use Rattle.bst_step.proofs.AssignSteps.{moved_where_ok}
use Rattle.bst_step.proofs.state.State.push_visited_variable.Goals as goal

pub returns-in-Some-clause-moved : goal.returns-in-Some-clause-moved
returns-in-Some-clause-moved c =
    subst
    (λ (e : Option config.EntryState). OnOk c.push_entry_variable.result (config_of (record c.args.self.now { values = c.push_entry_variable.new.self })
    ≡ with_stack (with_pushed (option_and_then (λ s. rule.value_at c.args.name.0 s.variables) e) c.args.self.now.values.stack) (config_of c.args.self.now)))
    (ap (λ o. option_and_then (slice_get c.args.self.now.values.entries) o) c.in-Some.ensures)
    (moved_where_ok c.args.self.now c.push_entry_variable.new.self _ c.push_entry_variable.result c.push_entry_variable.ensures.stack
    c.push_entry_variable.ensures.globals c.push_entry_variable.ensures.entries)

pub returns-in-Some-clause-found : goal.returns-in-Some-clause-found
returns-in-Some-clause-found c =
    subst
    (λ (e : Option config.EntryState). IfOk c.push_entry_variable.result
    (λ found. found ≡ is_some (option_and_then (λ s. rule.value_at c.args.name.0 s.variables) e)))
    (ap (λ o. option_and_then (slice_get c.args.self.now.values.entries) o) c.in-Some.ensures)
    c.push_entry_variable.ensures.found
