-- The parts that are left are placed yet.
use Rattle.std.proofs.Common.{◌≡◌, [], drop, fold, map}
use Rattle.loop_templates.specs.Rows.{symbol_of, with_part}
use Rattle.loop_templates.proofs.SmallSums.{AreWithin, renamed}
use Rattle.loop_templates.proofs.in_piece.parts_in_piece.Given as goal

abbrev pub invariant-loop-part : goal.invariant-loop-part
invariant-loop-part l = record {
  placed : fold (λ parts part. with_part part parts) l.all.items (map (renamed (symbol_of l.piece)) (drop l.part-index l.parts))
      ≡ fold (λ parts part. with_part part parts) [] (map (renamed (symbol_of l.piece)) l.parts);
  small : AreWithin l.part-index l.all.items;
}
