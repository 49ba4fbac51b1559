-- The entry that is appended has the key, the type and the values that are wanted.
use Rattle.std.proofs.Common.{◌∙◌, ap, map, List, ℕ, Option}
use Rattle.std.specs.Borrow.{Bor}
use Rattle.std.specs.Option.{option_map}
use Rattle.entry_list.specs.Fields.{Declared, value_of}
use Rattle.entry_list.specs.Keys.{Listed}
use Rattle.entry_list.proofs.Packed.{appended, appended_bytes}
use Rattle.entry_list.proofs.fields.append_entry.Goals as goal

pub returns-clause-joined : goal.returns-clause-joined
returns-clause-joined c =
    appended c.args.declared.now c.args.chosen.now (option_map (λ e. e.now) c.args.parent) c.args.keeps c.chosen.inside.key.now c.entry_type-entry_type.result.now
    (map (option_map (λ text. text.now)) c.as_slice.result.now)
    (ap (λ (l : Listed). l.key) c.chosen.view_is) (c.entry_type-entry_type.ensures ∙ ap (λ (l : Listed). l.entry.entry_type) c.chosen.view_is)
    (ap (λ (l : List (Option (Bor (List ℕ)))). map (option_map (λ text. text.now)) l) c.as_slice.ensures.value
    ∙ c.in_ok-fill.ensures.values
    ∙ ap (λ (l : Listed). map (λ (d : Declared). value_of l.entry (option_map (λ e. e.now) c.args.parent) c.args.keeps d.name) c.args.declared.now) c.chosen.view_is)
    c.args.found.now c.push.new.self c.requires c.in_ok-push.ensures.ok

pub returns-clause-bytes : goal.returns-clause-bytes
returns-clause-bytes c =
    appended_bytes c.args.declared.now c.args.chosen.now (option_map (λ e. e.now) c.args.parent) c.args.keeps c.chosen.inside.key.now c.entry_type-entry_type.result.now
    (map (option_map (λ text. text.now)) c.fill.new.self.values.items)
    (ap (λ (l : Listed). l.key) c.chosen.view_is) (c.entry_type-entry_type.ensures ∙ ap (λ (l : Listed). l.entry.entry_type) c.chosen.view_is)
    (c.in_ok-fill.ensures.values
    ∙ ap (λ (l : Listed). map (λ (d : Declared). value_of l.entry (option_map (λ e. e.now) c.args.parent) c.args.keeps d.name) c.args.declared.now) c.chosen.view_is)
    c.are_bytes.ensures c.are_bytes-2.ensures c.in_ok-fill.ensures.bytes
