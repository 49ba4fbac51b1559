-- What a state's box holds, and what is lent of it.
use Rattle.std.proofs.Common.{◌≡◌, subst, sym}
use Rattle.sym_state.specs.State.{State}
use Rattle.sym_state.specs.declared.state.Known.{Known}

-- the record that contracts see of it
abbrev pub seen : Known → State
seen k = record {
  stack = k.stack;
  whole = k.whole;
  at_entry = k.at_entry;
  vars = k.vars;
  fields = k.fields;
  facts = k.facts;
  rows = k.rows;
  next = k.next;
}

-- what holds of the box holds of what is lent of it
pub lent : (P : State → Type 0) → {k l : Known} → k ≡ l → P (seen l) → P (seen k)
lent P same = subst (λ k. P (seen k)) (sym same)
