use Rattle.std.proofs.Common.{◌≡◌, map, take}
use Rattle.std.specs.Option.{option_map}
use Rattle.entry_list.specs.Bytes.{AreByteTexts}
use Rattle.entry_list.specs.Sources.{value_among}
use Rattle.entry_list.proofs.fields.values_into.Given as goal

-- the values so far are those of the fields so far, and bytes
abbrev pub invariant-loop-field : goal.invariant-loop-field
invariant-loop-field l = record {
  values : map (option_map (λ text. text.now)) l.found.items
      ≡ map (λ field. value_among l.sources.own.items l.sources.lent.items l.keeps field.name) (take l.field-index l.declared);
  bytes : AreByteTexts (map (option_map (λ text. text.now)) l.found.items);
}
