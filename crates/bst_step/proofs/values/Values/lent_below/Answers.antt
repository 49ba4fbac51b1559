-- The string at the depth is lent where it is held so.
use Rattle.std.proofs.Common.{◌∙◌, Option, ap, sym}
use Rattle.std.specs.Option.{option_and_then}
use Rattle.bst_step.specs.declared.held.Held.{Held}
use Rattle.bst_step.specs.Held.{lent_of}
use Rattle.bst_step.specs.Marks.{lent_at}
use Rattle.bst_step.specs.Values.{Holding}
use Rattle.bst_step.proofs.MarkSteps.{lent_held}
use Rattle.bst_step.proofs.values.Values.lent_below.Goals as goal

pub returns-in-Some : goal.returns-in-Some
returns-in-Some c =
    c.lent.ensures
    ∙ ap (λ (o : Option Held). option_and_then lent_of o) c.in-Some.ensures
    ∙ sym (lent_held c.self.inside.pool.items c.args.depth c.self.inside.stack.items)
    ∙ ap (λ (h : Holding). lent_at c.args.depth h.marks.stack h.stack) c.self.view_is

pub returns-in-None : goal.returns-in-None
returns-in-None c =
    ap (λ (o : Option Held). option_and_then lent_of o) c.in-None.ensures
    ∙ sym (lent_held c.self.inside.pool.items c.args.depth c.self.inside.stack.items)
    ∙ ap (λ (h : Holding). lent_at c.args.depth h.marks.stack h.stack) c.self.view_is
