-- When a state entails a piece (docs/STATES.md, "Entailment"), and the first line of the piece that fails.
use Rattle.std.specs.Prelude.{ℕ, suc, ◌+◌, ◌-◌, Bool, false, nat_eq, nat_lt, if◌then◌else◌, List, [], ◌∷◌, ◌++◌, length, take, drop, slice_get, Option, None, Some}
use Rattle.std.specs.List.{list_all, filter_map, zip}
use Rattle.std.specs.Option.{option_or, option_map, option_map_or}
use Rattle.lin_facts.specs.declared.row.Row.{Row}
use Rattle.bst_meaning.specs.declared.condition.Cond.{Cond}
use Rattle.sym_state.specs.declared.symbol.Sym.{Sym}
use Rattle.sym_state.specs.declared.symbol.Bind.{Bind}
use Rattle.sym_state.specs.declared.symbol.Fact.{Fact}
use Rattle.sym_state.specs.declared.piece.Piece.{Piece}
use Rattle.sym_state.specs.declared.proof.Proof.{Proof}
use Rattle.sym_state.specs.State.{State}
use Rattle.sym_state.specs.Changes.{symbol_at}
use Rattle.sym_state.specs.Decided.{is_known}
use Rattle.sym_state.specs.Facts.{subject}
use Rattle.sym_state.specs.References.{shows}
use Rattle.sym_state.specs.Renaming.{row_renamed}

-- the piece's symbols on its stack, each with the state's symbol there: the stack lies on the top of the state's
abbrev pub stack_places : List Sym → List Sym → List (Sym × Sym)
stack_places known stack = zip stack (drop (length known - length stack) known)

-- the piece's symbols that are bound, each with the one that the state binds to the same name
abbrev pub bind_places : List Bind → List Bind → List (Sym × Sym)
bind_places known binds = filter_map (λ bind. option_map (λ there. (bind.sym, there)) (symbol_at bind.name known)) binds

-- all places of the piece's symbols, in the order of its lines
abbrev pub places : State → Piece → List (Sym × Sym)
places state piece =
    stack_places state.stack piece.stack ++ (bind_places state.vars piece.vars ++ bind_places state.fields piece.fields)

-- the state's symbol at the first place of one of the piece's
abbrev pub at_first_place : List (Sym × Sym) → ℕ → ℕ
at_first_place [] s = s
at_first_place (place ∷ places) s = if nat_eq place.0.0 s then place.1.0 else at_first_place places s

-- the state's symbol that one of the piece's is matched to: itself below `kept`
abbrev pub matched : ℕ → List (Sym × Sym) → ℕ → ℕ
matched kept places s = if nat_lt s kept then s else at_first_place places s

-- a place agrees with a match
abbrev pub agrees : (ℕ → ℕ) → Sym × Sym → Bool
agrees match place = nat_eq (match place.0.0) place.1.0

-- a line of a variable or a field agrees with a match
abbrev pub bind_agrees : (ℕ → ℕ) → List Bind → Bind → Bool
bind_agrees match known bind = option_map_or (λ there. agrees match (bind.sym, there)) (symbol_at bind.name known) false

-- a line of a fact follows from the state's facts
abbrev pub fact_follows : (ℕ → ℕ) → List Fact → Fact → Bool
fact_follows match facts fact = is_known facts (match (subject fact)) fact

-- the number of the first line that fails, where they are numbered from here
abbrev pub first_failing : {X : Type 0} → (X → Bool) → ℕ → List X → Option ℕ
first_failing test line [] = None
first_failing test line (x ∷ xs) = if test x then first_failing test (suc line) xs else Some line

-- a row is shown under a match by its proof, if there is one
abbrev pub row_shown : (ℕ → ℕ) → Cond → State → Row → Option Proof → Bool
row_shown match cond state row proof = option_map_or (λ p. shows cond state p (row_renamed match row)) proof false

-- the number of the first row that its proof doesn't show, where they are numbered from here
abbrev pub first_unshown : (ℕ → ℕ) → Cond → State → ℕ → List Row → List Proof → Option ℕ
first_unshown match cond state line [] proofs = None
first_unshown match cond state line (row ∷ rows) proofs =
    if row_shown match cond state row (slice_get proofs 0)
    then first_unshown match cond state (suc line) rows (drop 1 proofs)
    else Some line

-- the number of the line after the one of the stack, which is written where there is a symbol on it
abbrev pub after_stack : List Sym → ℕ
after_stack [] = 1
after_stack (s ∷ stack) = 2

-- the number of the first row's line
abbrev pub first_row_line : Piece → ℕ
first_row_line piece = after_stack piece.stack + (length piece.vars + (length piece.fields + length piece.facts))

-- the first line before the rows that fails under a match: those of the stack, the variables, the fields, the facts
abbrev pub first_before_rows : (ℕ → ℕ) → State → Piece → Option ℕ
first_before_rows match state piece =
    let vars = after_stack piece.stack in
    let fields = vars + length piece.vars in
    let facts = fields + length piece.fields in
    option_or (if list_all (agrees match) (stack_places state.stack piece.stack) then None else Some 1)
    (option_or (first_failing (bind_agrees match state.vars) vars piece.vars)
    (option_or (first_failing (bind_agrees match state.fields) fields piece.fields)
    (first_failing (fact_follows match state.facts) facts piece.facts)))

-- the first line of a piece that fails under a match: the rows come last
abbrev pub first_line_failing : (ℕ → ℕ) → Cond → State → Piece → List Proof → Option ℕ
first_line_failing match cond state piece proofs =
    option_or (first_before_rows match state piece)
    (first_unshown match cond state (first_row_line piece) piece.rows proofs)

-- how many lines a piece has at most
abbrev pub line_count : Piece → ℕ
line_count piece = 1 + (length piece.vars + (length piece.fields + (length piece.facts + length piece.rows)))

-- the state's symbols below those that the piece's stack lies on
abbrev pub under : State → Piece → List Sym
under state piece = take (length state.stack - length piece.stack) state.stack

-- the match of a piece to a state
abbrev pub match_of : State → Piece → ℕ → ℕ → ℕ
match_of state piece kept = matched kept (places state piece)

-- none where the state entails the piece, else the first line that fails: 0 where the state knows fewer symbols on the stack
abbrev pub first_unentailed : State → Cond → Piece → ℕ → List Proof → Option ℕ
first_unentailed state cond piece kept proofs =
    if nat_lt (length state.stack) (length piece.stack)
    then Some 0
    else first_line_failing (match_of state piece kept) cond state piece proofs
