-- Straight proofs (docs/STATES.md, "Straight proofs"): the first list of references that shows a goal, each taken once.
use Rattle.std.specs.Prelude.{ℕ, zero, suc, ◌-◌, ◌^◌, min, int_lt, pos, if◌then◌else◌, List, [], ◌∷◌, ◌++◌, length, map, Option, None, Some}
use Rattle.std.specs.List.{flat_map, range_with_len}
use Rattle.std.specs.Option.{option_and_then, option_map}
use Rattle.lin_facts.specs.declared.row.Row.{Row}
use Rattle.lin_facts.specs.declared.row.Term.{Term}
use Rattle.bst_meaning.specs.declared.condition.Cond.{Cond}
use Rattle.sym_state.specs.declared.proof.Proof.{Proof}
use Rattle.sym_state.specs.declared.proof.Reference.{Reference}
use Rattle.sym_state.specs.declared.proof.Reference.TheVariants as ref
use Rattle.sym_state.specs.declared.proof.Use.{Use}
use Rattle.sym_state.specs.declared.symbol.Sym.{Sym}
use Rattle.sym_state.specs.Cases.{absurdity}
use Rattle.sym_state.specs.References.{row_said}
use Rattle.sym_state.specs.State.{State}
use Rattle.straight_proofs.specs.declared.straight.TheConstants.{MOST_REFERENCES}
use Rattle.straight_proofs.specs.Remainders.{fits, lead, minus}

-- a reference of this kind to each symbol of a state
abbrev pub on_symbols : State → (Sym → Reference) → List Reference
on_symbols state kind = map (λ s. kind (record { 0 = s })) (range_with_len 0 state.next)

-- the kinds of references to symbols, in their order
abbrev pub kinds : List (Sym → Reference)
kinds =
    ref.ValueLow ∷ ref.ValueHigh ∷ ref.LengthLow ∷ ref.NamesLow ∷ ref.NamesHigh ∷ ref.ExactLow ∷ ref.ExactHigh
    ∷ ref.NonblankLength ∷ ref.NonblankNames ∷ ref.TextLow ∷ ref.TextHigh ∷ []

-- the references to no symbol and no row
abbrev pub on_entries : List Reference
on_entries = ref.PosLow ∷ ref.PosHigh ∷ ref.CountLow ∷ ref.CountHigh ∷ []

-- how many rows of a state references can name: their numbers have 32 bits
abbrev pub rows_named : State → ℕ
rows_named state = min (length state.rows) (2 ^ 32)

-- the references to a state in their order: by their kinds as the table of references has them, then by their numbers
abbrev pub references : State → List Reference
references state =
    map ref.Row (range_with_len 0 (rows_named state))
    ++ (flat_map (on_symbols state) kinds ++ on_entries)

-- what is left of a remainder behind a reference: its row is there and may be subtracted
abbrev pub left_behind : Cond → State → Option Term → Row → Reference → Option Row
left_behind cond state leads remainder reference =
    option_and_then (λ row. if fits leads remainder row then Some (minus remainder row) else None) (row_said cond state reference)

-- the first reference behind which a list goes on, with that list
abbrev pub first_list : (Reference → Option (List Reference)) → List Reference → Option (List Reference)
first_list behind [] = None
first_list behind (reference ∷ more) = elim (behind reference) [ Some list ↦ Some (reference ∷ list) | None ↦ first_list behind more ]

-- a remainder without a lead holds where its constant is at least 0
abbrev pub ended : Row → Option (List Reference)
ended remainder = if int_lt remainder.constant (pos 0) then None else Some []

-- the first list of at most so many references of which each row, one after the other, has the lead of what is left of the
-- remainder, and behind which a row without a lead is left that holds
unfoldable pub list_within : ℕ → Cond → State → Row → Option (List Reference)
list_within zero cond state remainder = elim (lead remainder) [ None ↦ ended remainder | Some term ↦ None ]
list_within (suc n) cond state remainder = elim (lead remainder) [
  | None ↦ ended remainder
  | Some term ↦ first_list (λ r. option_and_then (list_within n cond state) (left_behind cond state (Some term) remainder r)) (references state)
]

-- a reference that is taken once
abbrev pub once : Reference → Use
once reference = record { reference = reference; times = 1 }

-- the proof that takes each of these references once
abbrev pub proof_of : List Reference → Proof
proof_of list = record { divisor = 1; uses = map once list }

-- the straight proof of a goal, where it has one
abbrev pub straight_proof : Cond → State → Row → Option Proof
straight_proof cond state goal = option_map proof_of (list_within MOST_REFERENCES cond state goal)

-- the list that shows that a case can't come about: its first reference may be any that is there
abbrev pub drop_list : Cond → State → Option (List Reference)
drop_list cond state =
    first_list (λ r. option_and_then (list_within (MOST_REFERENCES - 1) cond state) (left_behind cond state None absurdity r)) (references state)

-- its straight proof, where it has one
abbrev pub drop_proof : Cond → State → Option Proof
drop_proof cond state = option_map proof_of (drop_list cond state)
