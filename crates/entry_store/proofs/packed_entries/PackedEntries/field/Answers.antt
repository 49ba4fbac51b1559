-- The field has the name at its place, and the value that stands under it.
use Rattle.std.proofs.Common.{◌∙◌, ◌+◌, ap, refl, drop, get_or, length, take, List, None, Some}
use Rattle.std.proofs.lemmas.Option.{slice_get_past, slice_get_read}
use Rattle.std.specs.Option.{option_map}
use Rattle.entry_store.specs.NumberedTexts.{text_under}
use Rattle.entry_store.specs.PackedEntries.{no_row}
use Rattle.entry_store.specs.declared.row.Row.{Row}
use Rattle.entry_store.proofs.Packed.{field_seen}
use Rattle.entry_store.proofs.packed_entries.PackedEntries.field.Goals as goal

pub returns-in-Some : goal.returns-in-Some
returns-in-Some c =
    field_seen c.self.inside.names.items c.as_slice-2.result.now c.self.inside.texts c.self.inside.rows.items c.args.self.now c.args.at c.args.field
    c.row_at-row.result (Some c.in-Some.name.now) (option_map (λ text. text.now) c.under.result)
    c.self.view_is c.requires
    (c.row_at-row.ensures ∙ ap (λ (l : List Row). get_or l c.args.at no_row) c.as_slice.ensures.value)
    c.as_slice-2.ensures.value
    (slice_get_read c.as_slice-2.result.now (length c.as_slice-2.result.now) c.args.field c.in-Some.name.now refl c.in-Some.ensures.lookup.3.0 c.in-Some.ensures.lookup.1)
    c.under.ensures

pub returns-in-None : goal.returns-in-None
returns-in-None c =
    field_seen c.self.inside.names.items c.as_slice-2.result.now c.self.inside.texts c.self.inside.rows.items c.args.self.now c.args.at c.args.field
    c.row_at-row.result None (text_under c.args.field (take c.row_at-row.result.count (drop (c.row_at-row.result.begin + 2) c.self.inside.texts)))
    c.self.view_is c.requires
    (c.row_at-row.ensures ∙ ap (λ (l : List Row). get_or l c.args.at no_row) c.as_slice.ensures.value)
    c.as_slice-2.ensures.value
    (slice_get_past c.as_slice-2.result.now c.args.field c.in-None.ensures.lookup.3)
    refl
