-- The value behind the entry's first one is written, and no other entry has it.
use Rattle.std.proofs.Common.{◌∙◌, ◌*◌, List, ℕ, ap, arith, length, slice_get, sym}
use Rattle.std.proofs.lemmas.List.{length-set}
use Rattle.bst_step.specs.declared.held.Held.{Held}
use Rattle.bst_step.specs.EntryStates.{EntryState, states_at, with_held_in}
use Rattle.bst_step.specs.Variables.{names_in}
use Rattle.bst_step.proofs.TableSteps.{entry_given, no_entry_given, none_given_there, past_given, table_stays}
use Rattle.bst_step.proofs.VariableSteps.{as_many}
use Rattle.bst_step.proofs.entry_states.EntryTable.set.Goals as goal

pub invariant_of-self : goal.invariant_of-self
invariant_of-self c = (
  table_stays (length (names_in c.self.inside.own)) c.self.inside.values c.set.new.self c.self.inside.list.now.entries c.self.inside.rows.items
      (ap (λ (vs : List Held). length vs) c.set.ensures ∙ length-set c.self.inside.values c.saturating_add-index.result c.args.new.value) c.self.invariant.0,
  c.self.invariant.1,
)

pub returns-then-index-len : goal.returns-then-index-len
returns-then-index-len c =
    ap (λ (vs : List Held). states_at (names_in c.self.inside.own) vs c.self.inside.list.now.entries c.self.inside.rows.items) c.set.ensures
    ∙ entry_given (names_in c.self.inside.own) c.self.inside.values c.self.inside.list.now.entries c.self.inside.rows.items c.args.at
    c.in-Some-place_at.place c.args.new c.in-Some.among c.saturating_add-index.result c.self.invariant.0
    (sym (c.in-Some-place_at.ensures ∙ ap (λ (rows : List ℕ). slice_get rows c.args.at) c.as_slice.ensures.value)) c.in-Some.ensures
    (omega (
      arith,
      c.saturating_add-index.ensures,
      c.saturating_mul.ensures,
      ap (λ (n : ℕ). c.in-Some-place_at.place * n) (ap length c.values-count.ensures ∙ as_many c.self.inside.own),
      c.if-index-len.true,
    ))
    ∙ ap (λ (es : List EntryState). with_held_in c.args.new c.args.at es) c.self.view_is

pub returns-else-index-len : goal.returns-else-index-len
returns-else-index-len c =
    sym c.self.view_is
    ∙ past_given (names_in c.self.inside.own) c.self.inside.values c.self.inside.list.now.entries c.self.inside.rows.items c.args.at
    c.in-Some-place_at.place c.args.new c.in-Some.among c.self.invariant.0
    (sym (c.in-Some-place_at.ensures ∙ ap (λ (rows : List ℕ). slice_get rows c.args.at) c.as_slice.ensures.value)) c.in-Some.ensures
    (omega (
      arith,
      c.saturating_add-index.ensures,
      c.saturating_mul.ensures,
      ap (λ (n : ℕ). c.in-Some-place_at.place * n) (ap length c.values-count.ensures ∙ as_many c.self.inside.own),
      c.if-index-len.false,
      c.len.ensures,
    ))
    ∙ ap (λ (es : List EntryState). with_held_in c.args.new c.args.at es) c.self.view_is

pub returns-in_default-place_at : goal.returns-in_default-place_at
returns-in_default-place_at c =
    sym c.self.view_is
    ∙ no_entry_given (names_in c.self.inside.own) c.self.inside.values c.self.inside.list.now.entries c.self.inside.rows.items c.args.at
    c.args.new (sym (c.in_default-place_at.ensures ∙ ap (λ (rows : List ℕ). slice_get rows c.args.at) c.as_slice.ensures.value))
    ∙ ap (λ (es : List EntryState). with_held_in c.args.new c.args.at es) c.self.view_is

pub returns-in_default : goal.returns-in_default
returns-in_default c =
    sym c.self.view_is
    ∙ none_given_there (names_in c.self.inside.own) c.self.inside.values c.self.inside.list.now.entries c.self.inside.rows.items c.args.at
    c.args.new c.in_default.ensures
    ∙ ap (λ (es : List EntryState). with_held_in c.args.new c.args.at es) c.self.view_is
