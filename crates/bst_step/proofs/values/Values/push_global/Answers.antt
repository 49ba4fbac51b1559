-- The value of the variable is pushed, where there is one.
use Rattle.std.proofs.Common.{◌∙◌, List, Option, ap, map, is_some, sym}
use Rattle.std.specs.Option.{option_map}
use Rattle.bst_meaning.specs.declared.value.Value.{Value}
use Rattle.bst_meaning.specs.Machine as rule
use Rattle.bst_step.specs.declared.held.Held.{Held}
use Rattle.bst_step.specs.Held.{value_in}
use Rattle.bst_step.specs.Values.{Holding, with_pushed}
use Rattle.bst_step.proofs.HeldSteps.{global_end, held_pushed}
use Rattle.bst_step.proofs.ValueSteps.{value_held}
use Rattle.bst_step.proofs.MarkSteps.{found_marks, mark_held, none_found}
use Rattle.bst_step.specs.Marks.{found, mark_at, mark_of, marked_of}
use Rattle.bst_step.proofs.values.Values.push_global.Goals as goal

pub invariant_of-self-in-Some : goal.invariant_of-self-in-Some
invariant_of-self-in-Some c =
    held_pushed c.self.inside.pool.items c.self.inside.kept c.in-Some.held c.self.inside.stack.items c.push.new.self.items c.self.inside.globals
    c.self.inside.entries c.in_ok-push-in-Some.ensures.moved
    (global_end c.self.inside.pool.items c.self.inside.kept c.self.inside.stack.items c.self.inside.globals c.self.inside.entries
    c.args.name.0 c.in-Some.held c.self.invariant (sym c.in-Some.ensures))
    c.self.invariant

pub returns-in_ok-push-in-Some-clause-stack : goal.returns-in_ok-push-in-Some-clause-stack
returns-in_ok-push-in-Some-clause-stack c =
    ap (λ (l : List Held). map (value_in c.self.inside.pool.items) l) c.in_ok-push-in-Some.ensures.moved
    ∙ ap (λ (o : Option Value). with_pushed o (map (value_in c.self.inside.pool.items) c.self.inside.stack.items))
    (sym (value_held c.self.inside.pool.items c.args.name.0 c.self.inside.globals
    ∙ ap (λ (o : Option Held). option_map (value_in c.self.inside.pool.items) o) (sym c.in-Some.ensures)))
    ∙ ap (λ (h : Holding). with_pushed (rule.value_at c.args.name.0 h.globals) h.stack) c.self.view_is

pub returns-in_ok-push-in-Some-clause-found : goal.returns-in_ok-push-in-Some-clause-found
returns-in_ok-push-in-Some-clause-found c =
    ap (λ (o : Option Value). is_some o)
    (sym (value_held c.self.inside.pool.items c.args.name.0 c.self.inside.globals
    ∙ ap (λ (o : Option Held). option_map (value_in c.self.inside.pool.items) o) (sym c.in-Some.ensures)))
    ∙ ap (λ (h : Holding). is_some (rule.value_at c.args.name.0 h.globals)) c.self.view_is

pub returns-in-None-clause-stack : goal.returns-in-None-clause-stack
returns-in-None-clause-stack c =
    sym (ap (λ (o : Option Value). with_pushed o c.args.self.now.stack)
    (ap (λ (h : Holding). rule.value_at c.args.name.0 h.globals) (sym c.self.view_is)
    ∙ value_held c.self.inside.pool.items c.args.name.0 c.self.inside.globals
    ∙ ap (λ (o : Option Held). option_map (value_in c.self.inside.pool.items) o) (sym c.in-None.ensures)))

pub returns-in-None-clause-found : goal.returns-in-None-clause-found
returns-in-None-clause-found c =
    sym (ap (λ (o : Option Value). is_some o)
    (ap (λ (h : Holding). rule.value_at c.args.name.0 h.globals) (sym c.self.view_is)
    ∙ value_held c.self.inside.pool.items c.args.name.0 c.self.inside.globals
    ∙ ap (λ (o : Option Held). option_map (value_in c.self.inside.pool.items) o) (sym c.in-None.ensures)))

pub returns-in_ok-push-in-Some-clause-marks : goal.returns-in_ok-push-in-Some-clause-marks
returns-in_ok-push-in-Some-clause-marks c =
    found_marks c.self.inside.stack.items c.push.new.self.items c.self.inside.globals c.self.inside.entries c.in-Some.held (mark_at c.args.name.0 (map marked_of c.self.inside.globals)) c.in_ok-push-in-Some.ensures.moved
    (mark_held c.args.name.0 c.self.inside.globals ∙ ap (λ (o : Option Held). option_map mark_of o) (sym c.in-Some.ensures))
    ∙ ap (λ (h : Holding). found (mark_at c.args.name.0 h.marks.globals) h.marks) c.self.view_is

pub returns-in-None-clause-marks : goal.returns-in-None-clause-marks
returns-in-None-clause-marks c =
    none_found (mark_at c.args.name.0 c.args.self.now.marks.globals) c.args.self.now.marks
    (ap (λ (h : Holding). mark_at c.args.name.0 h.marks.globals) (sym c.self.view_is)
    ∙ mark_held c.args.name.0 c.self.inside.globals ∙ ap (λ (o : Option Held). option_map mark_of o) (sym c.in-None.ensures))
