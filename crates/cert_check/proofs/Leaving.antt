-- What the bindings of a post leave of a state.
use Rattle.std.proofs.Common.{◌≡◌, Bool, false, cond, nat_eq, List, [], ◌∷◌, None, option_map, refl, ap, ◌∙◌}
use Rattle.std.specs.List.{AllByRecursion}
use Rattle.name_table.specs.declared.names.NameId.{NameId}
use Rattle.sym_state.specs.State.{State}
use Rattle.sym_state.specs.Changes.{rebound, symbol_at, with_bind}
use Rattle.sym_state.specs.declared.symbol.Bind.{Bind}
use Rattle.sym_state.proofs.Rebound.{rebound_none, symbol_rebound}
use Rattle.cert_check.specs.Uses.{with_binds}

-- a name that isn't among the bindings keeps its symbol
pub others_bound : (written : List Bind) (state : State) (name : NameId) → AllByRecursion (λ b. nat_eq b.name.0 name.0 ≡ false) written
    → symbol_at name (with_binds written state).vars ≡ symbol_at name state.vars
others_bound [] state name differ = refl
others_bound (b ∷ written) state name differ =
    others_bound written (with_bind b.name b.sym state) name differ.1
    ∙ symbol_rebound name b.name b.sym state.vars
    ∙ ap (λ (t : Bool). cond t (option_map (λ s. b.sym) (symbol_at name state.vars)) (symbol_at name state.vars)) differ.0

-- where none of the names is a field's, the fields stay
pub fields_bound : (written : List Bind) (state : State) → AllByRecursion (λ b. symbol_at b.name state.fields ≡ None) written
    → (with_binds written state).fields ≡ state.fields
fields_bound [] state none = refl
fields_bound (b ∷ written) state none =
    let same : rebound b.name b.sym state.fields ≡ state.fields = rebound_none b.name b.sym state.fields none.0 in
    fields_bound written (with_bind b.name b.sym state) (moved written none.1 same) ∙ same
  where
    moved : (bs : List Bind) → AllByRecursion (λ c. symbol_at c.name state.fields ≡ None) bs → rebound b.name b.sym state.fields ≡ state.fields
        → AllByRecursion (λ c. symbol_at c.name (rebound b.name b.sym state.fields) ≡ None) bs
    moved [] all same = tt
    moved (c ∷ bs) all same = (ap (symbol_at c.name) same ∙ all.0, moved bs all.1 same)

-- what no binding changes stays under all of them
part_bound : {X : Type 0} (part : State → X) → ((b : Bind) (state : State) → part (with_bind b.name b.sym state) ≡ part state) → (written : List Bind) (state : State)
    → part (with_binds written state) ≡ part state
part_bound part same [] state = refl
part_bound part same (b ∷ written) state = part_bound part same written (with_bind b.name b.sym state) ∙ same b state

-- facts and rows stay, the stack and whether all of it is known, and whether an entry is visited
pub facts_bound : (written : List Bind) (state : State) → (with_binds written state).facts ≡ state.facts
facts_bound = part_bound (λ state. state.facts) (λ b state. refl)

pub rows_bound : (written : List Bind) (state : State) → (with_binds written state).rows ≡ state.rows
rows_bound = part_bound (λ state. state.rows) (λ b state. refl)

pub stack_bound : (written : List Bind) (state : State) → (with_binds written state).stack ≡ state.stack
stack_bound = part_bound (λ state. state.stack) (λ b state. refl)

pub whole_bound : (written : List Bind) (state : State) → (with_binds written state).whole ≡ state.whole
whole_bound = part_bound (λ state. state.whole) (λ b state. refl)

pub entry_bound : (written : List Bind) (state : State) → (with_binds written state).at_entry ≡ state.at_entry
entry_bound = part_bound (λ state. state.at_entry) (λ b state. refl)
