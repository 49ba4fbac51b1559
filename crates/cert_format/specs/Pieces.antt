-- How the lines of a piece are read (docs/CERTIFICATES.md, "Pieces").
use Rattle.std.specs.Prelude.{ℕ, suc, Bool, nat_le, if◌then◌else◌, List, [], ◌∷◌, ◌++◌, length, codes, Option, None, Some, Result, Ok, Err}
use Rattle.std.specs.Option.{option_map, option_and_then}
use Rattle.bv_base.specs.Answers.{then_do}
use Rattle.bv_base.specs.declared.limits.TheConstants.{GREATEST_INTEGER}
use Rattle.lin_facts.specs.declared.row.Part.{Part}
use Rattle.name_table.specs.declared.names.Kind.{Kind}
use Rattle.name_table.specs.declared.names.NameId.{NameId}
use Rattle.name_table.specs.declared.style.Style.{Style}
use Rattle.sym_state.specs.declared.symbol.Bind.{Bind}
use Rattle.sym_state.specs.declared.symbol.Fact.{Fact}
use Rattle.sym_state.specs.declared.symbol.Fact.TheVariants as fact
use Rattle.sym_state.specs.declared.symbol.Sym.{Sym}
use Rattle.cert_format.specs.Items.{among, last_of, name_in}
use Rattle.cert_format.specs.Lines.{Item, Line, line_end, next_item}
use Rattle.cert_format.specs.PieceItems as items
use Rattle.cert_format.specs.declared.limits.TheConstants.{MOST_ITEMS, MOST_TERMS}
use Rattle.cert_format.specs.declared.piece_items.TheConstants.{ROW_SIZE}
use Rattle.cert_format.specs.declared.piece_lines.PieceSoFar.{PieceSoFar}
use Rattle.cert_format.specs.declared.stages.PieceStage.{PieceStage}
use Rattle.cert_format.specs.declared.stages.PieceStage.TheVariants as stage
use Rattle.cert_format.specs.declared.stages.PieceWord.{PieceWord}
use Rattle.cert_format.specs.declared.stages.PieceWord.TheVariants.{Stack, Var, Field, Is, Int, Text, Call, Block, Blank, Nonblank, Wellformed, Row}
use Rattle.cert_format.specs.declared.stop.Stop.{Stop}
use Rattle.cert_format.specs.declared.stop.Stop.TheVariants.{TooMany}

-- before the first line
abbrev pub no_piece : Bool → Bool → ℕ → PieceSoFar
no_piece at_entry has_pos next =
    record {
      at_entry = at_entry;
      has_pos = has_pos;
      stage = stage.Stack;
      next = next;
      piece = record { stack = []; vars = []; fields = []; facts = []; rows = [] };
    }

-- a symbol on top of the stack
abbrev pub push_symbol : Item → PieceSoFar → Result PieceSoFar Stop
push_symbol item p =
    then_do (items.placed p.next item) (λ sym.
    if nat_le MOST_ITEMS (length p.piece.stack) then Err (TooMany item.left)
    else Ok (record p {
      stage = stage.Vars;
      next = items.next_after p.next sym;
      piece = record p.piece { stack = p.piece.stack ++ sym ∷ [] };
    }))

-- symbols on top of the stack, one after the other
abbrev pub push_symbols : List Item → PieceSoFar → Result PieceSoFar Stop
push_symbols [] p = Ok p
push_symbols (item ∷ more) p = then_do (push_symbol item p) (push_symbols more)

-- what is read, where a line ends here
abbrev pub at_end : {A : Type 0} → Line → A → Result A Stop
at_end line value = then_do (line_end line) (λ _. Ok value)

-- what is read of all items of a line that are left
abbrev pub with_all : {A : Type 0} → Line → (List Item → Result A Stop) → Result A Stop
with_all line read = then_do (read line.items) (at_end (record { items = []; end = line.end }))

-- `stack` S {S}, after its word
abbrev pub stack_line : Line → PieceSoFar → Result PieceSoFar Stop
stack_line line p =
    then_do (next_item line) (λ item.
    then_do (push_symbol item.0 p) (λ q. with_all item.1 (λ more. push_symbols more q)))

-- the name of the last of some bindings
abbrev pub last_bound : List Bind → Option NameId
last_bound binds = option_map (λ bind. bind.name) (last_of binds)

-- the symbol of a variable or a field, which ends its line
abbrev pub bound : ℕ → NameId → Line → Result Bind Stop
bound next name line =
    then_do (next_item line) (λ item.
    then_do (items.placed next item.0) (λ sym. at_end item.1 (record { name = name; sym = sym })))

-- a name that is read from an item, and the symbol behind it
abbrev pub bind_line : (Item → Result NameId Stop) → ℕ → Line → (Bind → PieceSoFar) → Result PieceSoFar Stop
bind_line name_of next line make =
    then_do (next_item line) (λ item. then_do (name_of item.0) (λ name. then_do (bound next name item.1) (λ bind. Ok (make bind))))

-- `var` V S, after its word
abbrev pub var_line : List (List ℕ × Kind) → Line → PieceSoFar → Result PieceSoFar Stop
var_line names line p =
    bind_line (items.variable_above p.at_entry (last_bound p.piece.vars) names) p.next line (λ bind.
    record p { stage = stage.Vars; next = items.next_after p.next bind.sym; piece = record p.piece { vars = p.piece.vars ++ bind ∷ [] } })

-- `field` F S, after its word
abbrev pub field_line : List (List ℕ × Kind) → Line → PieceSoFar → Result PieceSoFar Stop
field_line names line p =
    bind_line (items.entry_field p.at_entry (last_bound p.piece.fields) names) p.next line (λ bind.
    record p { stage = stage.Fields; next = items.next_after p.next bind.sym; piece = record p.piece { fields = p.piece.fields ++ bind ∷ [] } })

-- the line of a variable or of a field, after its word
abbrev pub bound_line : PieceWord → List (List ℕ × Kind) → Line → PieceSoFar → Result PieceSoFar Stop
bound_line Var names line p = var_line names line p
bound_line _ names line p = field_line names line p

-- the name of a variable or of a field, above the last one
abbrev pub bound_name : PieceWord → List (List ℕ × Kind) → PieceSoFar → Item → Result NameId Stop
bound_name Var names p item = items.variable_above p.at_entry (last_bound p.piece.vars) names item
bound_name _ names p item = items.entry_field p.at_entry (last_bound p.piece.fields) names item

-- a fact by the word of its line, after its symbol
abbrev pub fact_of : Style → PieceWord → Sym → Line → Result Fact Stop
fact_of style Is sym line =
    then_do (next_item line) (λ item. then_do (items.kind item.0) (λ kind. at_end item.1 (fact.Is sym kind)))
fact_of style Int sym line =
    then_do (next_item line) (λ item.
    then_do (items.integer (suc GREATEST_INTEGER) GREATEST_INTEGER item.0) (λ n. at_end item.1 (fact.Int sym n)))
fact_of style Text sym line =
    then_do (next_item line) (λ item.
    then_do (items.text item.0) (λ text. at_end item.1 (fact.Text sym text)))
fact_of style Call sym line =
    then_do (next_item line) (λ item. then_do (name_in style.names item.0) (λ name. at_end item.1 (fact.Call sym name)))
fact_of style Block sym line =
    then_do (next_item line) (λ item.
    then_do (items.block_number style.bodies item.0) (λ number. at_end item.1 (fact.Block sym number)))
fact_of style Blank sym line = at_end line (fact.Blank sym)
fact_of style Nonblank sym line = at_end line (fact.Nonblank sym)
fact_of style _ sym line = at_end line (fact.Wellformed sym)

-- a fact, after the word of its line
abbrev pub fact_line : Style → PieceWord → Item → Line → PieceSoFar → Result PieceSoFar Stop
fact_line style kind word line p =
    if nat_le MOST_ITEMS (length p.piece.facts) then Err (TooMany word.left)
    else then_do (next_item line) (λ item.
    then_do (items.known p.next item.0) (λ sym.
    then_do (fact_of style kind sym item.1) (λ fact.
    Ok (record p { stage = stage.Facts; piece = record p.piece { facts = p.piece.facts ++ fact ∷ [] } }))))

-- a coefficient with its term, after those before them
abbrev pub part : Bool → ℕ → List Part → Item → Line → Result (Part × Line) Stop
part has_pos next before first line =
    then_do (items.coefficient first) (λ c.
    if nat_le MOST_TERMS (length before) then Err (TooMany first.left)
    else then_do (next_item line) (λ item.
    then_do (items.term_behind has_pos next (last_of before) item.0) (λ t.
    Ok (record { coefficient = c; term = t }, item.1))))

-- coefficients with their terms, after those before them
abbrev pub parts : Bool → ℕ → ℕ → List Item → List Part → Result (List Part) Stop
parts has_pos next end [] before = Ok before
parts has_pos next end (first ∷ []) before =
    then_do (part has_pos next before first (record { items = []; end = end })) (λ found. Ok (before ++ found.0 ∷ []))
parts has_pos next end (first ∷ (second ∷ more)) before =
    then_do (part has_pos next before first (record { items = second ∷ more; end = end })) (λ found.
    parts has_pos next end more (before ++ found.0 ∷ []))

-- `row` I {I TERM}, after its word
abbrev pub row_line : Item → Line → PieceSoFar → Result PieceSoFar Stop
row_line word line p =
    if nat_le MOST_ITEMS (length p.piece.rows) then Err (TooMany word.left)
    else then_do (next_item line) (λ item.
    then_do (items.integer ROW_SIZE ROW_SIZE item.0) (λ constant.
    then_do (with_all item.1 (λ more. parts p.has_pos p.next item.1.end more [])) (λ all.
    Ok (record p { stage = stage.Rows; piece = record p.piece { rows = p.piece.rows ++ record { constant = constant; parts = all } ∷ [] } }))))

-- the words of the lines of a piece
abbrev pub piece_words : List (List ℕ × PieceWord)
piece_words =
    (codes "stack", Stack) ∷ (codes "var", Var) ∷ (codes "field", Field)
    ∷ (codes "is", Is) ∷ (codes "int", Int) ∷ (codes "text", Text) ∷ (codes "call", Call) ∷ (codes "block", Block)
    ∷ (codes "blank", Blank) ∷ (codes "nonblank", Nonblank) ∷ (codes "wellformed", Wellformed) ∷ (codes "row", Row) ∷ []

-- the order of the lines of a piece, by which a line may come
abbrev pub stage_rank : PieceStage → ℕ
stage_rank stage.Stack = 0
stage_rank stage.Vars = 1
stage_rank stage.Fields = 2
stage_rank stage.Facts = 3
stage_rank stage.Rows = 4

-- the line that a word begins
abbrev pub stage_of : PieceWord → PieceStage
stage_of Stack = stage.Stack
stage_of Var = stage.Vars
stage_of Field = stage.Fields
stage_of Row = stage.Rows
stage_of _ = stage.Facts

-- the order of the lines of a piece, by their words
abbrev pub word_rank : PieceWord → ℕ
word_rank word = stage_rank (stage_of word)

-- a word, where its line may come
abbrev pub where_due : PieceStage → PieceWord → Option PieceWord
where_due s word = if nat_le (stage_rank s) (word_rank word) then Some word else None

-- the word of a line of a piece that may come
abbrev pub piece_word : PieceStage → List ℕ → Option PieceWord
piece_word s text = option_and_then (where_due s) (among text piece_words)

-- a line of a piece, after its word
abbrev pub piece_line : Style → PieceWord → Item → Line → PieceSoFar → Result PieceSoFar Stop
piece_line style Stack word line p = stack_line line p
piece_line style Var word line p = var_line style.names line p
piece_line style Field word line p = field_line style.names line p
piece_line style Row word line p = row_line word line p
piece_line style kind word line p = fact_line style kind word line p
