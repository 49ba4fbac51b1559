-- The value at the depth is seen over the pool.
use Rattle.std.proofs.Common.{◌∙◌, List, Option, Some, ℕ, ap, slice_get, sym}
use Rattle.std.specs.Option.{option_map}
use Rattle.std.proofs.lemmas.Option.{slice_get-map}
use Rattle.bst_meaning.specs.declared.value.Value.{Value}
use Rattle.bst_step.specs.declared.held.Held.{Held}
use Rattle.bst_step.specs.Held.{value_in}
use Rattle.bst_step.specs.Values.{Holding}
use Rattle.bst_step.proofs.values.Values.below.Goals as goal

pub returns-in-Some : goal.returns-in-Some
returns-in-Some c =
    ap (λ (v : Value). Some v) (c.operand.ensures ∙ ap (λ (pool : List ℕ). value_in pool c.in-Some.held) c.as_slice.ensures.value)
    ∙ ap (λ (o : Option Held). option_map (value_in c.self.inside.pool.items) o) c.in-Some.ensures
    ∙ sym (slice_get-map (value_in c.self.inside.pool.items) c.self.inside.stack.items c.args.depth)
    ∙ ap (λ (h : Holding). slice_get h.stack c.args.depth) c.self.view_is

pub returns-in-None : goal.returns-in-None
returns-in-None c =
    ap (λ (o : Option Held). option_map (value_in c.self.inside.pool.items) o) c.in-None.ensures
    ∙ sym (slice_get-map (value_in c.self.inside.pool.items) c.self.inside.stack.items c.args.depth)
    ∙ ap (λ (h : Holding). slice_get h.stack c.args.depth) c.self.view_is
