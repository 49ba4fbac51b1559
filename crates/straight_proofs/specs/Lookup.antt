-- Where the references are that may lead to a proof (docs/STATES.md, "Straight proofs"): those whose rows have a term.
use Rattle.std.specs.Prelude.{ℕ, suc, Bool, if◌then◌else◌, List, [], ◌∷◌, ◌++◌, map, take, pos, int_lt, Some}
use Rattle.std.specs.List.{filter, filter_map, range_with_len}
use Rattle.lin_facts.specs.Rows.{coefficient_of}
use Rattle.lin_facts.specs.declared.row.Row.{Row}
use Rattle.lin_facts.specs.declared.row.Term.{Term}
use Rattle.lin_facts.specs.declared.row.Term.TheVariants.{Value, Length, Names, Pos, Count}
use Rattle.bst_meaning.specs.declared.condition.Cond.{Cond}
use Rattle.sym_state.specs.declared.proof.Reference.{Reference}
use Rattle.sym_state.specs.declared.proof.Reference.TheVariants as ref
use Rattle.sym_state.specs.declared.symbol.Sym.{Sym}
use Rattle.sym_state.specs.References.{row_said}
use Rattle.sym_state.specs.State.{State}
use Rattle.straight_proofs.specs.declared.lookup.Kind.{Kind}
use Rattle.straight_proofs.specs.declared.lookup.Kind.TheVariants as kind
use Rattle.straight_proofs.specs.Remainders.{fits}
use Rattle.straight_proofs.specs.Straight.{rows_named}

-- the symbol of a number
abbrev pub sym : ℕ → Sym
sym s = record { 0 = s }

-- the references that say something of a term, in their order, whatever rows a state has
abbrev pub on_term : Term → List Reference
on_term (Value s) = ref.ValueLow (sym s) ∷ ref.ValueHigh (sym s) ∷ ref.ExactLow (sym s) ∷ ref.ExactHigh (sym s) ∷ []
on_term (Length s) =
    ref.LengthLow (sym s) ∷ ref.NamesHigh (sym s) ∷ ref.NonblankLength (sym s) ∷ ref.TextLow (sym s) ∷ ref.TextHigh (sym s) ∷ []
on_term (Names s) = ref.NamesLow (sym s) ∷ ref.NamesHigh (sym s) ∷ ref.NonblankNames (sym s) ∷ []
on_term Pos = ref.PosLow ∷ ref.PosHigh ∷ []
on_term Count = ref.PosHigh ∷ ref.CountLow ∷ ref.CountHigh ∷ []

-- a row, where it may be subtracted where a term leads
abbrev pub row_on : Term → Row → ℕ → Row → List Reference
row_on term remainder k row = if fits (Some term) remainder row then ref.Row k ∷ [] else []

-- those of some rows, numbered from here, that may be subtracted where a term leads
abbrev pub rows_on : Term → Row → ℕ → List Row → List Reference
rows_on term remainder k [] = []
rows_on term remainder k (row ∷ rows) = row_on term remainder k row ++ rows_on term remainder (suc k) rows

-- the rows of a state that references can name
abbrev pub rows_in_reach : State → List Row
rows_in_reach state = take (rows_named state) state.rows

-- the references that may lead to a proof where a term leads, in their order
abbrev pub references_to : State → Row → Term → List Reference
references_to state remainder term = rows_on term remainder 0 (rows_in_reach state) ++ on_term term

-- whether a row has a term with this sign, above 0 or below
abbrev pub has : Bool → Term → Row → Bool
has above term row = if above then int_lt (pos 0) (coefficient_of row.parts term) else int_lt (coefficient_of row.parts term) (pos 0)

-- the rows of a state and those that references say of a term
abbrev pub rows_about : Cond → State → Term → List Row
rows_about cond state term = rows_in_reach state ++ filter_map (row_said cond state) (on_term term)

-- those that have the term with a sign: where the term leads with it, one of them is subtracted
abbrev pub rows_with : Cond → State → Bool → Term → List Row
rows_with cond state above term = filter (has above term) (rows_about cond state term)

-- the reference of a kind to a symbol
abbrev pub reference_of : Kind → Sym → Reference
reference_of kind.ValueLow s = ref.ValueLow s
reference_of kind.ValueHigh s = ref.ValueHigh s
reference_of kind.LengthLow s = ref.LengthLow s
reference_of kind.NamesLow s = ref.NamesLow s
reference_of kind.NamesHigh s = ref.NamesHigh s
reference_of kind.ExactLow s = ref.ExactLow s
reference_of kind.ExactHigh s = ref.ExactHigh s
reference_of kind.NonblankLength s = ref.NonblankLength s
reference_of kind.NonblankNames s = ref.NonblankNames s
reference_of kind.TextLow s = ref.TextLow s
reference_of kind.TextHigh s = ref.TextHigh s

-- those of a kind to the symbols below a number
abbrev pub each_below : ℕ → Kind → List Reference
each_below next kind = map (λ s. reference_of kind (sym s)) (range_with_len 0 next)
