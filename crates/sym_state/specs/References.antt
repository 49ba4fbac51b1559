-- References of a step (docs/STATES.md, "References"): the row that each says, where it is there, and when a proof shows a row.
use Rattle.std.specs.Prelude.{ℕ, suc, ℤ, pos, negsuc, neg_ℤ, Bool, false, nat_lt, if◌then◌else◌, List, [], ◌∷◌, length, Option, None, Some, slice_get}
use Rattle.std.specs.Option.{option_map, option_and_then, option_map_or}
use Rattle.lin_facts.specs.Follows.{follows}
use Rattle.lin_facts.specs.declared.row.Term.{Term}
use Rattle.lin_facts.specs.declared.row.Term.TheVariants.{Value, Length, Names, Pos, Count}
use Rattle.lin_facts.specs.declared.row.Row.{Row}
use Rattle.lin_facts.specs.declared.row.StepUse.{StepUse}
use Rattle.bv_base.specs.declared.limits.TheConstants.{GREATEST_INTEGER}
use Rattle.bst_meaning.specs.declared.condition.Cond.{Cond}
use Rattle.sym_state.specs.declared.references.Bound.{Bound}
use Rattle.sym_state.specs.declared.references.Bound.TheVariants.{Least, Most}
use Rattle.sym_state.specs.declared.proof.Reference.{Reference}
use Rattle.sym_state.specs.declared.proof.Reference.TheVariants as ref
use Rattle.sym_state.specs.declared.proof.Use.{Use}
use Rattle.sym_state.specs.declared.proof.Proof.{Proof}
use Rattle.sym_state.specs.State.{State}
use Rattle.sym_state.specs.declared.symbol.Sym.{Sym}
use Rattle.sym_state.specs.Decided.{exact_integer, exact_text, is_known_nonblank}

-- the term is at least n
abbrev pub at_least : Term → ℤ → Row
at_least term n = record { constant = neg_ℤ n; parts = record { coefficient = pos 1; term = term } ∷ [] }

-- the term is at most n
abbrev pub at_most : Term → ℤ → Row
at_most term n = record { constant = n; parts = record { coefficient = negsuc 0; term = term } ∷ [] }

-- the row of a bound on a term by n
abbrev pub bound_row : Bound → ℤ → Row
bound_row (Least term) n = at_least term n
bound_row (Most term) n = at_most term n

-- the first term is at least n more than the second
abbrev pub exceeds : Term → Term → ℤ → Row
exceeds greater less n = record {
  constant = neg_ℤ n;
  parts = record { coefficient = pos 1; term = greater } ∷ record { coefficient = negsuc 0; term = less } ∷ [];
}

-- a row on a symbol is there for the symbols of the state alone
abbrev pub on_symbol : State → Sym → Option Row → Option Row
on_symbol state s row = if nat_lt s.0 state.next then row else None

-- the row that a reference says, where it is there
abbrev pub row_said : Cond → State → Reference → Option Row
row_said cond state (ref.Row k) = slice_get state.rows k
row_said cond state (ref.ValueLow s) = on_symbol state s (Some (at_least (Value s.0) (negsuc GREATEST_INTEGER)))
row_said cond state (ref.ValueHigh s) = on_symbol state s (Some (at_most (Value s.0) (pos GREATEST_INTEGER)))
row_said cond state (ref.LengthLow s) = on_symbol state s (Some (at_least (Length s.0) (pos 0)))
row_said cond state (ref.NamesLow s) = on_symbol state s (Some (at_least (Names s.0) (pos 0)))
row_said cond state (ref.NamesHigh s) = on_symbol state s (Some (exceeds (Length s.0) (Names s.0) (pos 0)))
row_said cond state (ref.ExactLow s) = on_symbol state s (option_map (at_least (Value s.0)) (exact_integer state.facts s.0))
row_said cond state (ref.ExactHigh s) = on_symbol state s (option_map (at_most (Value s.0)) (exact_integer state.facts s.0))
row_said cond state (ref.NonblankLength s) =
    on_symbol state s (if is_known_nonblank state.facts s.0 then Some (at_least (Length s.0) (pos 1)) else None)
row_said cond state (ref.NonblankNames s) =
    on_symbol state s (if is_known_nonblank state.facts s.0 then Some (at_least (Names s.0) (pos 1)) else None)
row_said cond state (ref.TextLow s) =
    on_symbol state s (option_map (λ text. at_least (Length s.0) (pos (length text))) (exact_text state.facts s.0))
row_said cond state (ref.TextHigh s) =
    on_symbol state s (option_map (λ text. at_most (Length s.0) (pos (length text))) (exact_text state.facts s.0))
row_said cond state ref.PosLow = if state.at_entry then Some (at_least Pos (pos 0)) else None
row_said cond state ref.PosHigh = if state.at_entry then Some (exceeds Count Pos (pos 1)) else None
row_said cond state ref.CountLow = Some (at_least Count (pos 0))
row_said cond state ref.CountHigh = Some (at_most Count (pos cond.entries))

-- the rows of the references, in order, where each of them is there
abbrev pub rows_said : Cond → State → List Use → Option (List Row)
rows_said cond state [] = Some []
rows_said cond state (first ∷ uses) =
    option_and_then (λ row. option_map (λ rows. row ∷ rows) (rows_said cond state uses)) (row_said cond state first.reference)

-- each of the rows is used as often as its reference, where they are numbered from k
abbrev pub row_uses : ℕ → List Use → List StepUse
row_uses k [] = []
row_uses k (first ∷ uses) = record { row = k; times = first.times } ∷ row_uses (suc k) uses

-- a proof shows a row where all its references are there, and their rows show it
abbrev pub shows : Cond → State → Proof → Row → Bool
shows cond state proof goal =
    option_map_or (λ rows. follows rows (record { uses = row_uses 0 proof.uses; divisor = proof.divisor }) goal)
    (rows_said cond state proof.uses) false
