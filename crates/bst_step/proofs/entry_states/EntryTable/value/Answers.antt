-- The value is that of the variable at the place of the name, in the row at the place.
use Rattle.std.proofs.Common.{◌∙◌, ◌*◌, List, ℕ, ap, drop, length, slice_get, sym}
use Rattle.std.specs.Option.{option_and_then}
use Rattle.bst_step.specs.EntryStates.{EntryState}
use Rattle.bst_step.specs.Variables.{held_at, names_in}
use Rattle.bst_step.proofs.TableSteps.{no_entry_there, no_value_there, value_there}
use Rattle.bst_step.proofs.VariableSteps.{as_many}
use Rattle.bst_step.proofs.entry_states.EntryTable.value.Goals as goal

pub returns-in-Some-place_at : goal.returns-in-Some-place_at
returns-in-Some-place_at c =
    c.value_at.ensures
    ∙ ap (λ (n : ℕ). slice_get (drop (c.in-Some-place_at.place * n) c.self.inside.values) c.in-Some.index)
    (ap length c.values-count.ensures ∙ as_many c.self.inside.own)
    ∙ value_there (names_in c.self.inside.own) c.self.inside.values c.self.inside.list.now.entries c.self.inside.rows.items c.args.at
    c.args.name.0 c.in-Some.index c.in-Some-place_at.place
    (sym (c.in-Some-place_at.ensures ∙ ap (λ (rows : List ℕ). slice_get rows c.args.at) c.as_slice.ensures.value)) c.in-Some.ensures
    ∙ ap (λ (es : List EntryState). option_and_then (λ (e : EntryState). held_at c.args.name.0 e.variables) (slice_get es c.args.at)) c.self.view_is

pub returns-in-None : goal.returns-in-None
returns-in-None c =
    no_entry_there (names_in c.self.inside.own) c.self.inside.values c.self.inside.list.now.entries c.self.inside.rows.items c.args.at
    c.args.name.0 (sym (c.in-None.ensures ∙ ap (λ (rows : List ℕ). slice_get rows c.args.at) c.as_slice.ensures.value))
    ∙ ap (λ (es : List EntryState). option_and_then (λ (e : EntryState). held_at c.args.name.0 e.variables) (slice_get es c.args.at)) c.self.view_is

pub returns-in_default : goal.returns-in_default
returns-in_default c =
    no_value_there (names_in c.self.inside.own) c.self.inside.values c.self.inside.list.now.entries c.self.inside.rows.items c.args.at
    c.args.name.0 c.in_default.ensures
    ∙ ap (λ (es : List EntryState). option_and_then (λ (e : EntryState). held_at c.args.name.0 e.variables) (slice_get es c.args.at)) c.self.view_is
