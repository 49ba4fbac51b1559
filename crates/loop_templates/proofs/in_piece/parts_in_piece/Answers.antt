-- One part more is placed.
use Rattle.std.proofs.Common.{◌≡◌, ◌+◌, List, get_or, ap, sym, subst, ◌∙◌, arith}
use Rattle.lin_facts.proofs.Steps.{no_part}
use Rattle.lin_facts.specs.Rows.{IsWithin}
use Rattle.lin_facts.specs.declared.row.Part.{Part}
use Rattle.loop_templates.specs.Rows.{symbol_of, with_part}
use Rattle.loop_templates.proofs.Placed.{all_within, placed_all, placed_next}
use Rattle.loop_templates.proofs.SmallSums.{AreWithin, renamed, with_part_within}
use Rattle.loop_templates.proofs.in_piece.parts_in_piece.Goals as goal

pub with_part-requires-clause-one : goal.with_part-requires-clause-one
with_part-requires-clause-one c =
    subst (λ (part : Part). IsWithin 1 part.coefficient) (sym c.part_in_piece-placed.ensures)
    (c.requires.units c.loop-part.part-index no_part c.loop-part-test.true)

pub with_part-requires-clause-small : goal.with_part-requires-clause-small
with_part-requires-clause-small c =
    let few = c.requires.few in
    let more = c.loop-part-test.true in
    subst (λ parts. AreWithin 4 parts) (sym c.as_slice.ensures.value)
    (all_within c.loop-part.part-index 4 c.loop-part.all.items (omega (arith, few, more)) c.loop-part.invariant.small)

pub loop-part-preserved : goal.loop-part-preserved
loop-part-preserved c =
    let parts = c.args.parts.now in
    let i = c.loop-part.part-index in
    let part = get_or parts i no_part in
    let name = symbol_of c.args.piece.now in
    let added : c.in_ok-next.next.items ≡ with_part (renamed name part) c.loop-part.all.items =
    c.in_ok-next.ensures.placed
    ∙ ap (λ (all : List Part). with_part c.part_in_piece-placed.result all) c.as_slice.ensures.value
    ∙ ap (λ (placed : Part). with_part placed c.loop-part.all.items) c.part_in_piece-placed.ensures in
    record {
      placed = placed_next name i parts no_part c.loop-part.all.items c.in_ok-next.next.items _ c.loop-part-test.true added c.loop-part.invariant.placed;
      small = subst (λ all. AreWithin (i + 1) all) (sym added)
          (with_part_within i (renamed name part) c.loop-part.all.items (c.requires.units i no_part c.loop-part-test.true) c.loop-part.invariant.small);
    }

pub returns : goal.returns
returns c = placed_all (symbol_of c.args.piece.now) c.loop-part.part-index c.args.parts.now c.loop-part.all.items _ (omega arith) c.loop-part.invariant.placed
