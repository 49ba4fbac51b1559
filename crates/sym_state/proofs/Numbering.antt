-- The symbols of a piece are below their count.
use Rattle.std.proofs.Common.{◌≡◌, ℕ, ◌≤◌, ◌<◌, ap, ◌∙◌, List, [], ◌∷◌, ◌++◌, map, max, arith}
use Rattle.std.specs.List.{All}
use Rattle.std.proofs.lemmas.List.Elements.{All-nil, All-cons}
use Rattle.sym_state.specs.declared.symbol.Sym.{Sym}
use Rattle.sym_state.specs.declared.symbol.Bind.{Bind}
use Rattle.sym_state.specs.declared.piece.Piece.{Piece}
use Rattle.sym_state.specs.Starting.{symbol_count, symbols_of}

pub symbol_count-append : (a b : List Sym) → symbol_count (a ++ b) ≡ max (symbol_count a) (symbol_count b)
symbol_count-append [] b = omega arith
symbol_count-append (s ∷ a) b = let rest = symbol_count-append a b in omega arith

pub all_below : (n : ℕ) (syms : List Sym) → symbol_count syms ≤ n → All (λ s. s.0 < n) syms
all_below n [] h = All-nil (λ s. s.0 < n)
all_below n (s ∷ syms) h = All-cons (λ t. t.0 < n) s syms (omega arith) (all_below n syms (omega arith))

pub binds_below : (n : ℕ) (binds : List Bind) → symbol_count (map (λ b. b.sym) binds) ≤ n → All (λ b. b.sym.0 < n) binds
binds_below n [] h = All-nil (λ b. b.sym.0 < n)
binds_below n (b ∷ binds) h = All-cons (λ c. c.sym.0 < n) b binds (omega arith) (binds_below n binds (omega arith))

-- the three counts of a piece
pub piece_count : (piece : Piece) → symbols_of piece
    ≡ max (symbol_count piece.stack) (max (symbol_count (map (λ b. b.sym) piece.vars)) (symbol_count (map (λ b. b.sym) piece.fields)))
piece_count piece =
    symbol_count-append piece.stack (map (λ b. b.sym) piece.vars ++ map (λ b. b.sym) piece.fields)
    ∙ ap (λ (n : ℕ). max (symbol_count piece.stack) n) (symbol_count-append (map (λ b. b.sym) piece.vars) (map (λ b. b.sym) piece.fields))

pub stack_below : (n : ℕ) (piece : Piece) → symbols_of piece ≤ n → All (λ s. s.0 < n) piece.stack
stack_below n piece h = let count = piece_count piece in all_below n piece.stack (omega arith)

pub vars_below : (n : ℕ) (piece : Piece) → symbols_of piece ≤ n → All (λ b. b.sym.0 < n) piece.vars
vars_below n piece h = let count = piece_count piece in binds_below n piece.vars (omega arith)

pub fields_below : (n : ℕ) (piece : Piece) → symbols_of piece ≤ n → All (λ b. b.sym.0 < n) piece.fields
fields_below n piece h = let count = piece_count piece in binds_below n piece.fields (omega arith)
