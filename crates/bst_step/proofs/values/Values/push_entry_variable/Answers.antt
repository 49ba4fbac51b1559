-- The value of the entry's variable is pushed, where there is one.
use Rattle.std.proofs.Common.{◌≡◌, ◌∙◌, List, Option, None, Some, ap, map, is_some, slice_get, sym}
use Rattle.std.specs.Option.{option_and_then, option_map}
use Rattle.bst_meaning.specs.declared.value.Value.{Value}
use Rattle.bst_meaning.specs.Config as config
use Rattle.bst_meaning.specs.Machine as rule
use Rattle.bst_step.specs.declared.held.Held.{Held}
use Rattle.bst_step.specs.EntryStates.{EntryState}
use Rattle.bst_step.specs.Held.{value_in}
use Rattle.bst_step.specs.Values.{Holding, with_pushed}
use Rattle.bst_step.specs.Variables.{held_at}
use Rattle.bst_step.proofs.HeldSteps.{entry_end, held_pushed}
use Rattle.bst_step.proofs.ValueSteps.{entry_value_held}
use Rattle.bst_step.proofs.MarkSteps.{entry_mark_held, found_marks, none_found}
use Rattle.bst_step.specs.Marks.{found, mark_at, mark_of, marked_in}
use Rattle.bst_step.proofs.values.Values.push_entry_variable.Goals as goal

pub invariant_of-self-in-Some : goal.invariant_of-self-in-Some
invariant_of-self-in-Some c =
    let there : option_and_then (λ (e : EntryState). held_at c.args.name.0 e.variables) (slice_get c.self.inside.entries c.args.at) ≡ Some c.in-Some.held =
    sym c.in-Some.ensures in
    held_pushed c.self.inside.pool.items c.self.inside.kept c.in-Some.held c.self.inside.stack.items c.push.new.self.items c.self.inside.globals
    c.self.inside.entries c.in_ok-push-in-Some.ensures.moved
    (entry_end c.self.inside.pool.items c.self.inside.kept c.self.inside.stack.items c.self.inside.globals c.self.inside.entries c.args.at
    c.args.name.0 c.in-Some.held c.self.invariant there)
    c.self.invariant

pub returns-in_ok-push-in-Some-clause-stack : goal.returns-in_ok-push-in-Some-clause-stack
returns-in_ok-push-in-Some-clause-stack c =
    let there : option_and_then (λ (e : EntryState). held_at c.args.name.0 e.variables) (slice_get c.self.inside.entries c.args.at) ≡ Some c.in-Some.held =
    sym c.in-Some.ensures in
    ap (λ (l : List Held). map (value_in c.self.inside.pool.items) l) c.in_ok-push-in-Some.ensures.moved
    ∙ ap (λ (o : Option Value). with_pushed o (map (value_in c.self.inside.pool.items) c.self.inside.stack.items))
    (sym (entry_value_held c.self.inside.pool.items c.args.name.0 c.args.at c.self.inside.entries
    ∙ ap (λ (o : Option Held). option_map (value_in c.self.inside.pool.items) o) there))
    ∙ ap (λ (h : Holding). with_pushed (option_and_then (λ (e : config.EntryState). rule.value_at c.args.name.0 e.variables) (slice_get h.entries c.args.at)) h.stack) c.self.view_is

pub returns-in_ok-push-in-Some-clause-found : goal.returns-in_ok-push-in-Some-clause-found
returns-in_ok-push-in-Some-clause-found c =
    let there : option_and_then (λ (e : EntryState). held_at c.args.name.0 e.variables) (slice_get c.self.inside.entries c.args.at) ≡ Some c.in-Some.held =
    sym c.in-Some.ensures in
    ap (λ (o : Option Value). is_some o)
    (sym (entry_value_held c.self.inside.pool.items c.args.name.0 c.args.at c.self.inside.entries
    ∙ ap (λ (o : Option Held). option_map (value_in c.self.inside.pool.items) o) there))
    ∙ ap (λ (h : Holding). is_some (option_and_then (λ (e : config.EntryState). rule.value_at c.args.name.0 e.variables) (slice_get h.entries c.args.at))) c.self.view_is

pub returns-in-None-clause-stack : goal.returns-in-None-clause-stack
returns-in-None-clause-stack c =
    let there : option_and_then (λ (e : EntryState). held_at c.args.name.0 e.variables) (slice_get c.self.inside.entries c.args.at) ≡ None =
    sym c.in-None.ensures in
    sym (ap (λ (o : Option Value). with_pushed o c.args.self.now.stack)
    (ap (λ (h : Holding). option_and_then (λ (e : config.EntryState). rule.value_at c.args.name.0 e.variables) (slice_get h.entries c.args.at)) (sym c.self.view_is)
    ∙ entry_value_held c.self.inside.pool.items c.args.name.0 c.args.at c.self.inside.entries
    ∙ ap (λ (o : Option Held). option_map (value_in c.self.inside.pool.items) o) there))

pub returns-in-None-clause-found : goal.returns-in-None-clause-found
returns-in-None-clause-found c =
    let there : option_and_then (λ (e : EntryState). held_at c.args.name.0 e.variables) (slice_get c.self.inside.entries c.args.at) ≡ None =
    sym c.in-None.ensures in
    sym (ap (λ (o : Option Value). is_some o)
    (ap (λ (h : Holding). option_and_then (λ (e : config.EntryState). rule.value_at c.args.name.0 e.variables) (slice_get h.entries c.args.at)) (sym c.self.view_is)
    ∙ entry_value_held c.self.inside.pool.items c.args.name.0 c.args.at c.self.inside.entries
    ∙ ap (λ (o : Option Held). option_map (value_in c.self.inside.pool.items) o) there))

pub returns-in_ok-push-in-Some-clause-marks : goal.returns-in_ok-push-in-Some-clause-marks
returns-in_ok-push-in-Some-clause-marks c =
    let there : option_and_then (λ (e : EntryState). held_at c.args.name.0 e.variables) (slice_get c.self.inside.entries c.args.at) ≡ Some c.in-Some.held =
    sym c.in-Some.ensures in
    found_marks c.self.inside.stack.items c.push.new.self.items c.self.inside.globals c.self.inside.entries c.in-Some.held
    (option_and_then (mark_at c.args.name.0) (slice_get (map marked_in c.self.inside.entries) c.args.at)) c.in_ok-push-in-Some.ensures.moved
    (entry_mark_held c.args.name.0 c.args.at c.self.inside.entries ∙ ap (λ (o : Option Held). option_map mark_of o) there)
    ∙ ap (λ (h : Holding). found (option_and_then (mark_at c.args.name.0) (slice_get h.marks.entries c.args.at)) h.marks) c.self.view_is

pub returns-in-None-clause-marks : goal.returns-in-None-clause-marks
returns-in-None-clause-marks c =
    let there : option_and_then (λ (e : EntryState). held_at c.args.name.0 e.variables) (slice_get c.self.inside.entries c.args.at) ≡ None =
    sym c.in-None.ensures in
    none_found (option_and_then (mark_at c.args.name.0) (slice_get c.args.self.now.marks.entries c.args.at)) c.args.self.now.marks
    (ap (λ (h : Holding). option_and_then (mark_at c.args.name.0) (slice_get h.marks.entries c.args.at)) (sym c.self.view_is)
    ∙ entry_mark_held c.args.name.0 c.args.at c.self.inside.entries ∙ ap (λ (o : Option Held). option_map mark_of o) there)
