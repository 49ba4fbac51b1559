-- The name at the id is the one that is asked for.
use Rattle.std.proofs.Common.{◌∙◌, ap, arith, sym}
use Rattle.std.proofs.lemmas.Bool.{ltb-true}
use Rattle.std.specs.Cmp.Lexicographic.{same_text}
use Rattle.name_table.specs.TypeTarget.{type_function}
use Rattle.bst_step.proofs.PreparedSteps.{known_there}
use Rattle.bst_step.proofs.prepared.PreparedStyle.is_type_function.Goals as goal
use Rattle.bst_step.proofs.prepared.PreparedStyle.is_type_function.Goals.{then-at-len, else-at-len}

pub returns-then-index : goal.returns-then-index
returns-then-index c = λ same.
    elim c.if-at-len.branch [
      | then-at-len w ↦
          ap (λ s. type_function c.args.name.now s) (sym c.self.view_is)
          ∙ known_there c.self.inside.base.now c.args.name.now c.text.result.now c.args.id
          (sym (c.self.invariant.0 c.args.id.0 w.index.result.now (omega (arith, w.if-at-len.true, c.len.ensures))) ∙ sym w.index.ensures ∙ sym w.value-is ∙ c.if-index.true)
          c.text.ensures (same_text c.text.result.now c.args.name.now (sym same ∙ c.eq.ensures))
      | else-at-len w ↦ absurd (omega (arith, w.if-at-len.false, ltb-true c.args.id.0 c.len.result (sym w.value-is ∙ c.if-index.true)))
    ]
