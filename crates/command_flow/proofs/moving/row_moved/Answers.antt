-- A part is put into the row.
use Rattle.std.proofs.Common.{◌≡◌, length, ap, arith}
use Rattle.std.specs.Prelude.{pos}
use Rattle.std.proofs.lemmas.Grind.{common_steps}
use Rattle.lin_facts.specs.declared.row.Part.{Part}
use Rattle.lin_facts.specs.declared.row.Term.TheVariants.{Value}
use Rattle.command_flow.specs.Moments.{position_of}
use Rattle.command_flow.proofs.MovedRows.{part_more}
use Rattle.command_flow.proofs.moving.row_moved.Goals as goal

pub loop-part-preserved : goal.loop-part-preserved
loop-part-preserved c =
    let d : Part = record { coefficient = pos 0; term = Value 0 } in
    let same : length c.as_slice-part-items.result.now ≡ length c.args.row.now.parts = ap length c.as_slice-part-items.ensures in
    let within = c.loop-part-test.true in
    part_more (position_of c.args.moment) c.args.row.now c.loop-part.part-index _ c.loop-part.moved.constant _
    c.loop-part.moved.parts _ (omega (arith, same, within)) (grind (arith, common_steps)) c.in_ok-put.ensures.constant c.in_ok-put.ensures.parts c.loop-part.invariant
