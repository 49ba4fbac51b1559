-- What a unit says of a state that comes to it, and of those that it may leave (docs/CHECKER.md, "Use of a summary").
use Rattle.std.specs.Prelude.{ℕ, zero, suc, ◌+◌, ◌-◌, Bool, ◌&&◌, ◌||◌, not, nat_eq, if◌then◌else◌, List, [], ◌∷◌, ◌++◌, length, map, Option, None, Some, Err}
use Rattle.std.specs.List.{flat_map, list_any}
use Rattle.std.specs.Option.{option_and_then, option_or, unwrap_or}
use Rattle.lin_facts.specs.declared.row.Row.{Row}
use Rattle.name_table.specs.declared.names.NameId.{NameId}
use Rattle.name_table.specs.declared.style.Style.{Style}
use Rattle.bst_meaning.specs.declared.condition.Cond.{Cond}
use Rattle.bst_meaning.specs.StyleParts.{kind_of}
use Rattle.cert_format.specs.declared.cert.Loop.{Loop}
use Rattle.cert_format.specs.declared.cert.Summary.{Summary}
use Rattle.sym_state.specs.State.{State}
use Rattle.sym_state.specs.declared.demand.EffectFault.TheVariants.{NotEntailed}
use Rattle.sym_state.specs.declared.hint.Hint.{Hint}
use Rattle.sym_state.specs.declared.piece.Piece.{Piece}
use Rattle.sym_state.specs.declared.symbol.Bind.{Bind}
use Rattle.sym_state.specs.declared.symbol.Fact.{Fact}
use Rattle.sym_state.specs.declared.symbol.Sym.{Sym}
use Rattle.sym_state.specs.Changes.{bound, with_bind}
use Rattle.sym_state.specs.Entailing.{matched, places, under}
use Rattle.sym_state.specs.Renaming.{bind_renamed, fact_renamed, row_renamed, sym_renamed}
use Rattle.sym_state.specs.Showing.{Shown, piece_by}
use Rattle.sym_state.specs.Starting.{own_facts, own_rows, seats, symbols_of, unbound}

-- a name is among these
abbrev pub is_among : List NameId → NameId → Bool
is_among names name = list_any (λ other. nat_eq other.0 name.0) names

-- what is said of every way through a unit: whether it is entered at an entry alone, whether the stacks of its pieces are the
-- whole stack, and which variables it may write
pub record Passage : Type 0 where
  pub entry : Bool
  pub whole : Bool
  pub writes : List NameId

-- that of a summary
abbrev pub passage : Summary → Passage
passage summary = record { entry = summary.entry; whole = summary.whole; writes = summary.writes }

-- that of a loop
abbrev pub around : Loop → Passage
around one = record { entry = one.entry; whole = one.whole; writes = one.writes }

-- where a unit's stacks are whole, the state's is, and has the length of the piece's
abbrev pub fits_stack : Passage → Piece → State → Bool
fits_stack unit piece state = not unit.whole || (state.whole && nat_eq (length state.stack) (length piece.stack))

-- a state may come to a unit: its stack fits, and where the unit is entered at an entry the state is at one
abbrev pub fits : Passage → Piece → State → Bool
fits unit piece state = fits_stack unit piece state && (not unit.entry || state.at_entry)

-- a state comes to a unit by the piece that stands before it
abbrev pub comes_by : Passage → Cond → Piece → State → List Hint → Shown
comes_by unit cond piece state hints = if fits unit piece state then piece_by cond state piece 0 hints else Err (NotEntailed 0)

-- the name at a symbol's first place in a piece, which is none where that is on the stack
abbrev pub name_at : ℕ → List Bind → Option NameId
name_at s [] = None
name_at s (bind ∷ binds) = if nat_eq bind.sym.0 s then Some bind.name else name_at s binds

-- the same in a whole piece, whose variables stand before its fields
abbrev pub first_name : ℕ → Piece → Option NameId
first_name s piece =
    if list_any (λ sym. nat_eq sym.0 s) piece.stack then None else option_or (name_at s piece.vars) (name_at s piece.fields)

-- the symbol that a name keeps where it isn't written
abbrev pub unwritten : Passage → State → NameId → Option Sym
unwritten unit state name = if is_among unit.writes name then None else bound name state

-- the state's symbol for a post's own symbol, where its first place is a variable or field that isn't written
abbrev pub unchanged : Passage → State → Piece → ℕ → Option Sym
unchanged unit state post s = option_and_then (unwritten unit state) (first_name s post)

-- how many symbols are new where this one stands for another, if it does
abbrev pub new_one : Option Sym → ℕ
new_one (Some sym) = 0
new_one None = 1

-- a post's own symbols, so many from this one on, each with the state's symbol: the new ones are numbered from `next`
abbrev pub own_places : Passage → State → Piece → ℕ → ℕ → ℕ → List (Sym × Sym)
own_places unit state post s zero next = []
own_places unit state post s (suc more) next =
    let found = unchanged unit state post s in
    (record { 0 = s }, unwrap_or found (record { 0 = next })) ∷ own_places unit state post (suc s) more (next + new_one found)

-- how many of them are new
abbrev pub new_symbols : Passage → State → Piece → ℕ → ℕ → ℕ
new_symbols unit state post s zero = 0
new_symbols unit state post s (suc more) = new_one (unchanged unit state post s) + new_symbols unit state post (suc s) more

-- how many symbols a post has beside those that it shares with its pre
abbrev pub own_count : Piece → ℕ → ℕ
own_count post kept = symbols_of post - kept

-- the state's symbol for each symbol of a post: for one of its own, and else by the match of the pre
abbrev pub post_match : List (Sym × Sym) → State → Piece → ℕ → ℕ
post_match own state pre = matched 0 (own ++ places state pre)

-- bindings take the place of those of their names
abbrev pub with_binds : List Bind → State → State
with_binds [] state = state
with_binds (bind ∷ binds) state = with_binds binds (with_bind bind.name bind.sym state)

-- the facts that a post adds: first those of the written variables' own
abbrev pub facts_left : Style → Cond → (ℕ → ℕ) → List Bind → Piece → List Fact
facts_left style cond name written post =
    flat_map (λ bind. own_facts cond (kind_of style bind.name) bind) written ++ map (fact_renamed name) post.facts

-- its rows
abbrev pub rows_left : Style → Cond → (ℕ → ℕ) → List Bind → Piece → List Row
rows_left style cond name written post =
    flat_map (λ bind. own_rows cond (kind_of style bind.name) bind) written ++ map (row_renamed name) post.rows

-- the state after a post, over a state without the stack of the pre: the post's stack, the written variables with their symbols,
-- what they and the post add, and so many symbols
abbrev pub left_by : Style → Cond → (ℕ → ℕ) → List Bind → ℕ → Piece → State → State
left_by style cond name written next post below =
    with_binds written (record below {
      stack = below.stack ++ map (sym_renamed name) post.stack;
      facts = below.facts ++ facts_left style cond name written post;
      rows = below.rows ++ rows_left style cond name written post;
      next = next;
    })

-- the state after a unit that a state came to by this piece, where it leaves by this post: the written variables that the post
-- doesn't bind have new symbols, behind the post's own
unfoldable pub left_state : Style → Cond → Passage → Piece → ℕ → State → Piece → State
left_state style cond unit pre kept state post =
    let count = own_count post kept in
    let own = own_places unit state post kept count state.next in
    let name = post_match own state pre in
    let first = state.next + new_symbols unit state post kept count in
    let binds = map (bind_renamed name) post.vars in
    left_by style cond name (seats binds first unit.writes) (first + unbound binds unit.writes) post
    (record state { stack = under state pre })
