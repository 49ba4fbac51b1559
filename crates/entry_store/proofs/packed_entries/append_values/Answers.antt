-- The values so far, and one more.
use Rattle.std.proofs.Common.{arith, map, sym, None}
use Rattle.std.proofs.Math.ListN.{get_or-map}
use Rattle.std.proofs.lemmas.List.{length-map}
use Rattle.std.specs.Option.{option_map}
use Rattle.entry_store.proofs.Numbering.{values_more}
use Rattle.entry_store.proofs.packed_entries.append_values.Goals as goal

pub loop-at-preserved : goal.loop-at-preserved
loop-at-preserved c =
    values_more c.args.texts.now c.loop-at.texts c.append_value.new.texts (map (option_map (λ text. text.now)) c.args.values.now) _ c.loop-at.at
    c.loop-at.invariant c.in_ok-append_value.ensures
    (omega (arith, c.loop-at-test.true, c.min-at-end.ensures, length-map c.args.values.now (option_map (λ text. text.now))))
    (sym (get_or-map (option_map (λ text. text.now)) c.args.values.now c.loop-at.at None))
