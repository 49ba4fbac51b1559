-- The part stands behind one more.
use Rattle.std.proofs.Common.{sym, ◌∙◌}
use Rattle.std.proofs.lemmas.List.Elements.{All-drop, All-take}
use Rattle.lin_facts.proofs.Steps.{no_part}
use Rattle.lin_facts.specs.Rows.{IsWithin}
use Rattle.lin_facts.specs.declared.row.Part.{Part}
use Rattle.loop_templates.proofs.Placed.{placed_behind}
use Rattle.loop_templates.proofs.in_piece.with_part.Goals as goal

pub loop-left-preserved : goal.loop-left-preserved
loop-left-preserved c = record {
  placed = placed_behind c.args.part no_part c.loop-left.left.now c.loop-left.all.items c.push-in-len1-up.new.self.items _ c.in-len1-up.len_at_least
      (sym c.is_before.ensures ∙ c.if-is_before.false)
      (sym c.same_term.ensures ∙ c.if-same_term.false)
      c.in_ok-push-2.ensures.items c.loop-left.invariant.placed;
  small = All-take (λ (other : Part). IsWithin 4 other.coefficient) _ _
      (All-drop (λ (other : Part). IsWithin 4 other.coefficient) 1 c.loop-left.left.now c.loop-left.invariant.small);
}
