-- A piece that keeps the limits is read from the lines that it spells.
use Rattle.std.proofs.Common.{◌≡◌, ℕ, ◌+◌, ◌<◌, ◌≤◌, Bool, true, false, ◌&&◌, nat_le, List, [], ◌∷◌, ◌++◌, length, length-append, map, None, Ok, codes, lit≤, refl, sym, ap, subst, ◌∙◌, append_assoc, arith}
use Rattle.std.specs.Fmt.{decimal, signed_decimal}
use Rattle.std.proofs.lemmas.Bool.{and_parts}
use Rattle.std.proofs.lemmas.Bool.Decides.{nat_tests}
use Rattle.std.proofs.lemmas.List.{append-nil}
use Rattle.lin_facts.specs.declared.row.Part.{Part}
use Rattle.lin_facts.specs.declared.row.Row.{Row as RowOf}
use Rattle.name_table.specs.Sound.{Each}
use Rattle.name_table.specs.declared.names.Kind.{Kind}
use Rattle.name_table.specs.declared.style.Style.{Style}
use Rattle.sym_state.specs.declared.piece.Piece.{Piece}
use Rattle.sym_state.specs.declared.symbol.Bind.{Bind}
use Rattle.sym_state.specs.declared.symbol.Fact.{Fact}
use Rattle.sym_state.specs.declared.symbol.Fact.TheVariants as fact
use Rattle.sym_state.specs.declared.symbol.Sym.{Sym}
use Rattle.cert_format.specs.CertText.{IsFact, IsPart, IsPiece, IsRow, IsVariable, are_placed, bound_symbols, next_behind, places_of}
use Rattle.cert_format.specs.CondText.{ArePlain, IsField, is_chain}
use Rattle.cert_format.specs.Items.{last_of, name_in}
use Rattle.cert_format.specs.Lines.{Item, Line, next_item}
use Rattle.cert_format.specs.PieceItems as items
use Rattle.cert_format.specs.PieceSpelling.{bind_items, fact_items, hex_text, kind_text, part_items, piece_lines, row_items, stack_lines, sym_text, term_text}
use Rattle.cert_format.specs.Pieces as pieces
use Rattle.cert_format.specs.Spelling.{name_text}
use Rattle.cert_format.specs.declared.items.TheConstants.{MOST_NUMBER}
use Rattle.cert_format.specs.declared.piece_lines.PieceSoFar.{PieceSoFar}
use Rattle.cert_format.specs.declared.stages.PieceStage.{PieceStage}
use Rattle.cert_format.specs.declared.stages.PieceStage.TheVariants as stage
use Rattle.cert_format.specs.declared.stages.PieceWord.{PieceWord}
use Rattle.cert_format.specs.declared.stages.PieceWord.TheVariants.{Stack, Var, Field, Is, Int, Text, Call, Block, Blank, Nonblank, Wellformed, Row}
use Rattle.cert_format.proofs.CertItems.{block_taken, integer_taken, known_taken, placed_taken}
use Rattle.cert_format.proofs.CertKept.{all_taken, ended_taken, last_taken, next_small, word_text}
use Rattle.cert_format.proofs.CertNames.{entry_field_taken, name_taken, variable_taken}
use Rattle.cert_format.proofs.CertSteps.{fits_bind, fits_part, rises, with_field, with_var}
use Rattle.cert_format.proofs.CertWords.{kind_taken, term_taken, text_taken}
use Rattle.cert_format.proofs.CondRead.{Has}
use Rattle.cert_format.proofs.CondTaken.{first_text, other_texts, take_first, then_go}
use Rattle.cert_format.proofs.CondWhole.{Up, last_snoc, up_of}
use Rattle.cert_format.proofs.Split.{texts_of}

full : (most n : ℕ) → n < most → nat_le most n ≡ false
full most n small = grind (arith, nat_tests)

room : {A : Type 0} (most : ℕ) (before more : List A) (x : A) → length before + length (x ∷ more) ≤ most → nat_le most (length before) ≡ false
room most before more x few = full most (length before) (omega (arith, few))

room_more : {A : Type 0} (most : ℕ) (before more : List A) (x : A) → length before + length (x ∷ more) ≤ most
    → length (before ++ x ∷ []) + length more ≤ most
room_more most before more x few =
    let long : length (before ++ x ∷ []) ≡ length before + length (x ∷ []) = length-append before (x ∷ []) in
    omega (arith, long, few)

-- as many as there are, behind none
alone : (n most : ℕ) → n ≤ most → 0 + n ≤ most
alone n most small = omega (arith, small)

within : (a b : ℕ) → nat_le a b ≡ true → a ≤ b
within a b e = grind (arith, nat_tests)

-- symbols at places in two parts
placed_parts : (next : ℕ) (a b : List Sym) → are_placed next (a ++ b) ≡ true → (are_placed next a ≡ true) × (are_placed (next_behind next a) b ≡ true)
placed_parts next [] b e = (refl, e)
placed_parts next (s ∷ a) b e =
    let both = and_parts (nat_le s.0 next) (are_placed (items.next_after next s) (a ++ b)) e in
    let rest = placed_parts (items.next_after next s) a b both.1 in
    (ap (λ (t : Bool). t && are_placed (items.next_after next s) a) both.0 ∙ rest.0, rest.1)

behind_parts : (next : ℕ) (a b : List Sym) → next_behind next (a ++ b) ≡ next_behind (next_behind next a) b
behind_parts next [] b = refl
behind_parts next (s ∷ a) b = behind_parts (items.next_after next s) a b

pub behind_small : (next : ℕ) (syms : List Sym) → next ≤ MOST_NUMBER → next_behind next syms ≤ MOST_NUMBER
behind_small next [] small = small
behind_small next (s ∷ syms) small = behind_small (items.next_after next s) syms (next_small next s)

-- the line of a binding
bound_taken : (next : ℕ) (bind : Bind) (line : Line) → next ≤ MOST_NUMBER → bind.sym.0 ≤ next → Has line (sym_text bind.sym ∷ [])
    → pieces.bound next bind.name line ≡ Ok bind
bound_taken next bind line small placed has =
    let make : Sym → Bind = λ s. record { name = bind.name; sym = s } in
    last_taken (items.placed next) make line bind.sym (sym_text bind.sym) has (λ item said. placed_taken next item bind.sym small placed said)

var_taken : (style : Style) (p : PieceSoFar) (x : Bind) (line : Line) → ArePlain style.names → p.next ≤ MOST_NUMBER → x.sym.0 ≤ p.next
    → IsVariable p.at_entry style.names x.name → fits_bind (last_of p.piece.vars) x ≡ true
    → Has line (name_text style.names x.name ∷ (sym_text x.sym ∷ [])) → pieces.var_line style.names line p ≡ Ok (with_var x p)
var_taken style p x line plain small placed is above has =
    let names = style.names in
    let last = pieces.last_bound p.piece.vars in
    let t = take_first line (name_text names x.name) (sym_text x.sym ∷ []) has in
    then_go (next_item line) (t.item, t.rest) _ _ t.gives
    (then_go (items.variable_above p.at_entry last names t.item) x.name _ _ (variable_taken p.at_entry last names t.item x.name plain is above t.said)
    (then_go (pieces.bound p.next x.name t.rest) x _ _ (bound_taken p.next x t.rest small placed t.has) refl))

field_taken : (style : Style) (p : PieceSoFar) (x : Bind) (line : Line) → ArePlain style.names → p.next ≤ MOST_NUMBER → x.sym.0 ≤ p.next
    → IsField style.names x.name → p.at_entry ≡ true → fits_bind (last_of p.piece.fields) x ≡ true
    → Has line (name_text style.names x.name ∷ (sym_text x.sym ∷ [])) → pieces.field_line style.names line p ≡ Ok (with_field x p)
field_taken style p x line plain small placed is entry above has =
    let names = style.names in
    let last = pieces.last_bound p.piece.fields in
    let t = take_first line (name_text names x.name) (sym_text x.sym ∷ []) has in
    then_go (next_item line) (t.item, t.rest) _ _ t.gives
    (then_go (items.entry_field p.at_entry last names t.item) x.name _ _ (entry_field_taken p.at_entry last names t.item x.name plain is entry above t.said)
    (then_go (pieces.bound p.next x.name t.rest) x _ _ (bound_taken p.next x t.rest small placed t.has) refl))

-- the word of the line of a fact
abbrev fact_word : Fact → PieceWord
fact_word (fact.Is s k) = Is
fact_word (fact.Int s n) = Int
fact_word (fact.Text s t) = Text
fact_word (fact.Call s n) = Call
fact_word (fact.Block s n) = Block
fact_word (fact.Blank s) = Blank
fact_word (fact.Nonblank s) = Nonblank
fact_word (fact.Wellformed s) = Wellformed

-- the symbol of a fact
abbrev fact_sym : Fact → Sym
fact_sym x = elim x [
  | fact.Is s k ↦ s
  | fact.Int s n ↦ s
  | fact.Text s t ↦ s
  | fact.Call s n ↦ s
  | fact.Block s n ↦ s
  | fact.Blank s ↦ s
  | fact.Nonblank s ↦ s
  | fact.Wellformed s ↦ s
]

-- what stands behind the symbol of a fact
abbrev fact_more : List (List ℕ × Kind) → Fact → List (List ℕ)
fact_more names (fact.Is s k) = kind_text k ∷ []
fact_more names (fact.Int s n) = signed_decimal n ∷ []
fact_more names (fact.Text s t) = hex_text t ∷ []
fact_more names (fact.Call s n) = name_text names n ∷ []
fact_more names (fact.Block s n) = decimal n ∷ []
fact_more names (fact.Blank s) = []
fact_more names (fact.Nonblank s) = []
fact_more names (fact.Wellformed s) = []

fact_spelled : (names : List (List ℕ × Kind)) (x : Fact) → fact_items names x ≡ word_text (fact_word x) ∷ (sym_text (fact_sym x) ∷ fact_more names x)
fact_spelled names (fact.Is s k) = refl
fact_spelled names _ = refl

fact_known : (style : Style) (next : ℕ) (x : Fact) → IsFact style next x → (fact_sym x).0 < next
fact_known style next (fact.Is s k) is = is.0
fact_known style next (fact.Int s n) is = is.0
fact_known style next (fact.Text s t) is = is.0
fact_known style next (fact.Call s n) is = is.0
fact_known style next (fact.Block s n) is = is.0
fact_known style next (fact.Blank s) is = is
fact_known style next (fact.Nonblank s) is = is
fact_known style next (fact.Wellformed s) is = is

fact_ranked : (x : Fact) → pieces.word_rank (fact_word x) ≡ 3
fact_ranked (fact.Is s k) = refl
fact_ranked _ = refl

-- the line of a fact goes to the reader of facts
fact_goes : (style : Style) (x : Fact) (word : Item) (line : Line) (p : PieceSoFar)
    → pieces.piece_line style (fact_word x) word line p ≡ pieces.fact_line style (fact_word x) word line p
fact_goes style (fact.Is s k) word line p = refl
fact_goes style _ word line p = refl

fact_of_taken : (style : Style) (next : ℕ) (x : Fact) (line : Line) → ArePlain style.names → IsFact style next x → Has line (fact_more style.names x)
    → pieces.fact_of style (fact_word x) (fact_sym x) line ≡ Ok x
fact_of_taken style next (fact.Is s k) line plain is has =
    last_taken items.kind (fact.Is s) line k (kind_text k) has (λ item said. kind_taken item k is.1 said)
fact_of_taken style next (fact.Int s n) line plain is has =
    last_taken (items.integer 2147483648 2147483647) (fact.Int s) line n (signed_decimal n) has
    (λ item said. integer_taken 2147483648 2147483647 item n (lit≤ tt) (lit≤ tt) is.1 said)
fact_of_taken style next (fact.Text s t) line plain is has =
    last_taken items.text (fact.Text s) line t (hex_text t) has (λ item said. text_taken item t is.1 said)
fact_of_taken style next (fact.Call s n) line plain is has =
    last_taken (name_in style.names) (fact.Call s) line n (name_text style.names n) has (λ item said. name_taken style.names item n plain is.1 said)
fact_of_taken style next (fact.Block s n) line plain is has =
    last_taken (items.block_number style.bodies) (fact.Block s) line n (decimal n) has (λ item said. block_taken style.bodies item n is.1 is.2 said)
fact_of_taken style next (fact.Blank s) line plain is has = ended_taken line (fact.Blank s) has
fact_of_taken style next (fact.Nonblank s) line plain is has = ended_taken line (fact.Nonblank s) has
fact_of_taken style next (fact.Wellformed s) line plain is has = ended_taken line (fact.Wellformed s) has

-- a fact behind those before it
abbrev with_fact : Fact → PieceSoFar → PieceSoFar
with_fact x p = record p { stage = stage.Facts; piece = record p.piece { facts = p.piece.facts ++ x ∷ [] } }

fact_taken : (style : Style) (p : PieceSoFar) (x : Fact) (word : Item) (line : Line) → ArePlain style.names → p.next ≤ MOST_NUMBER → IsFact style p.next x
    → nat_le 64 (length p.piece.facts) ≡ false → Has line (sym_text (fact_sym x) ∷ fact_more style.names x)
    → pieces.fact_line style (fact_word x) word line p ≡ Ok (with_fact x p)
fact_taken style p x word line plain small is few has =
    let t = take_first line (sym_text (fact_sym x)) (fact_more style.names x) has in
    rw few
    (then_go (next_item line) (t.item, t.rest) _ _ t.gives
    (then_go (items.known p.next t.item) (fact_sym x) _ _ (known_taken p.next t.item (fact_sym x) small (fact_known style p.next x is) t.said)
    (then_go (pieces.fact_of style (fact_word x) (fact_sym x) t.rest) x _ _ (fact_of_taken style p.next x t.rest plain is t.has) refl)))

-- coefficients and terms behind those before them
part_taken : (has_pos : Bool) (next : ℕ) (before : List Part) (first second : Item) (more : List Item) (end : ℕ) (x : Part) → next ≤ MOST_NUMBER
    → IsPart has_pos next x → fits_part (last_of before) x ≡ true → nat_le 32 (length before) ≡ false → first.text ≡ signed_decimal x.coefficient
    → second.text ≡ term_text x.term
    → pieces.part has_pos next before first (record { items = second ∷ more; end = end }) ≡ Ok (x, record { items = more; end = end })
part_taken has_pos next before first second more end x small is fit few coefficient term =
    then_go (items.coefficient first) x.coefficient _ _
    (then_go (items.integer 1099511627776 1099511627776 first) x.coefficient _ _
    (integer_taken 1099511627776 1099511627776 first x.coefficient (lit≤ tt) (lit≤ tt) is.small coefficient) (rw is.some refl))
    (rw few
    (then_go (items.term_behind has_pos next (last_of before) second) x.term _ _
    (then_go (items.term has_pos next second) x.term _ _ (term_taken has_pos next second x.term small is.term term) (rw fit refl)) refl))

parts_taken : (has_pos : Bool) (next end : ℕ) (more : List Item) (parts before : List Part) → next ≤ MOST_NUMBER → Each (IsPart has_pos next) parts
    → Up fits_part (last_of before) parts → length before + length parts ≤ 32 → texts_of more ≡ part_items parts
    → pieces.parts has_pos next end more before ≡ Ok (before ++ parts)
parts_taken has_pos next end [] [] before small each up few said = ap Ok (sym (append-nil before))
parts_taken has_pos next end (first ∷ more) [] before small each up few said = absurd (cc)
parts_taken has_pos next end [] (x ∷ parts) before small each up few said = absurd (cc)
parts_taken has_pos next end (first ∷ []) (x ∷ parts) before small each up few said = absurd (nothing (ap other_texts said))
  where
    nothing : {a : List ℕ} {l : List (List ℕ)} → [] ≡ a ∷ l → ⊥
    nothing e = absurd (cc)
parts_taken has_pos next end (first ∷ (second ∷ more)) (x ∷ parts) before small each up few said =
    let later = subst (λ last. Up fits_part last parts) (sym (last_snoc before x)) up.1 in
    let rest = parts_taken has_pos next end more parts (before ++ x ∷ []) small each.1 later (room_more 32 before parts x few)
    (ap (λ l. other_texts (other_texts l)) said) in
    then_go (pieces.part has_pos next before first (record { items = second ∷ more; end = end })) (x, record { items = more; end = end }) _ _
    (part_taken has_pos next before first second more end x small each.0 up.0 (room 32 before parts x few) (ap first_text said)
    (ap (λ l. first_text (other_texts l)) said))
    (rest ∙ ap Ok (append_assoc before (x ∷ []) parts))

-- a row behind those before it
abbrev with_row : RowOf → PieceSoFar → PieceSoFar
with_row x p = record p { stage = stage.Rows; piece = record p.piece { rows = p.piece.rows ++ x ∷ [] } }

row_taken : (style : Style) (p : PieceSoFar) (x : RowOf) (word : Item) (line : Line) → p.next ≤ MOST_NUMBER → IsRow p.has_pos p.next x
    → nat_le 64 (length p.piece.rows) ≡ false → Has line (signed_decimal x.constant ∷ part_items x.parts) → pieces.row_line word line p ≡ Ok (with_row x p)
row_taken style p x word line small is few has =
    let t = take_first line (signed_decimal x.constant) (part_items x.parts) has in
    let up = up_of (λ a b. items.is_before a.term b.term) fits_part (λ a b e. e) (λ b. refl) x.parts is.rise in
    let none : length {A = Part} [] + length x.parts ≤ 32 = alone (length x.parts) 32 is.few in
    rw few
    (then_go (next_item line) (t.item, t.rest) _ _ t.gives
    (then_go (items.integer 1099511627776 1099511627776 t.item) x.constant _ _
    (integer_taken 1099511627776 1099511627776 t.item x.constant (lit≤ tt) (lit≤ tt) is.constant t.said)
    (then_go (pieces.with_all t.rest (λ more. pieces.parts p.has_pos p.next t.rest.end more [])) x.parts _ _
    (all_taken t.rest (λ more. pieces.parts p.has_pos p.next t.rest.end more []) x.parts t.has.ends
    (parts_taken p.has_pos p.next t.rest.end t.rest.items x.parts [] small is.parts up none t.has.items)) refl)))

-- symbols on top of the stack
abbrev with_symbol : Sym → PieceSoFar → PieceSoFar
with_symbol s p = record p { stage = stage.Vars; next = items.next_after p.next s; piece = record p.piece { stack = p.piece.stack ++ s ∷ [] } }

abbrev with_symbols : List Sym → PieceSoFar → PieceSoFar
with_symbols syms p =
    record p { stage = stage.Vars; next = next_behind p.next syms; piece = record p.piece { stack = p.piece.stack ++ syms } }

push_taken : (p : PieceSoFar) (s : Sym) (item : Item) → p.next ≤ MOST_NUMBER → s.0 ≤ p.next → nat_le 64 (length p.piece.stack) ≡ false
    → item.text ≡ sym_text s → pieces.push_symbol item p ≡ Ok (with_symbol s p)
push_taken p s item small placed few said =
    then_go (items.placed p.next item) s _ _ (placed_taken p.next item s small placed said) (rw few refl)

pushes_taken : (more : List Item) (syms : List Sym) (p : PieceSoFar) → p.stage ≡ stage.Vars → p.next ≤ MOST_NUMBER → are_placed p.next syms ≡ true
    → length p.piece.stack + length syms ≤ 64 → texts_of more ≡ map sym_text syms → pieces.push_symbols more p ≡ Ok (with_symbols syms p)
pushes_taken [] [] p at small placed few said =
    ap (λ (s : PieceStage). let q : PieceSoFar = record p { stage = s } in Ok q) at
    ∙ ap (λ (l : List Sym). let q : PieceSoFar = record p { stage = stage.Vars; piece = record p.piece { stack = l } } in Ok q) (sym (append-nil p.piece.stack))
pushes_taken [] (s ∷ syms) p at small placed few said = absurd (cc)
pushes_taken (item ∷ more) [] p at small placed few said = absurd (cc)
pushes_taken (item ∷ more) (s ∷ syms) p at small placed few said =
    let both = and_parts (nat_le s.0 p.next) (are_placed (items.next_after p.next s) syms) placed in
    then_go (pieces.push_symbol item p) (with_symbol s p) _ _
    (push_taken p s item small (within s.0 p.next both.0) (room 64 p.piece.stack syms s few) (ap first_text said))
    (pushes_taken more syms (with_symbol s p) refl (next_small p.next s) both.1 (room_more 64 p.piece.stack syms s few) (ap other_texts said)
    ∙ ap (λ (l : List Sym). let q : PieceSoFar = record p { stage = stage.Vars; next = next_behind p.next (s ∷ syms); piece = record p.piece { stack = l } } in Ok q)
    (append_assoc p.piece.stack (s ∷ []) syms))

stack_taken : (p : PieceSoFar) (s : Sym) (syms : List Sym) (line : Line) → p.next ≤ MOST_NUMBER → are_placed p.next (s ∷ syms) ≡ true
    → length p.piece.stack + length (s ∷ syms) ≤ 64 → Has line (map sym_text (s ∷ syms)) → pieces.stack_line line p ≡ Ok (with_symbols (s ∷ syms) p)
stack_taken p s syms line small placed few has =
    let both = and_parts (nat_le s.0 p.next) (are_placed (items.next_after p.next s) syms) placed in
    let t = take_first line (sym_text s) (map sym_text syms) has in
    then_go (next_item line) (t.item, t.rest) _ _ t.gives
    (then_go (pieces.push_symbol t.item p) (with_symbol s p) _ _
    (push_taken p s t.item small (within s.0 p.next both.0) (room 64 p.piece.stack syms s few) t.said)
    (all_taken t.rest (λ more. pieces.push_symbols more (with_symbol s p)) (with_symbols (s ∷ syms) p) t.has.ends
    (pushes_taken t.rest.items syms (with_symbol s p) refl (next_small p.next s) both.1 (room_more 64 p.piece.stack syms s few) t.has.items
    ∙ ap (λ (l : List Sym). let q : PieceSoFar = record p { stage = stage.Vars; next = next_behind p.next (s ∷ syms); piece = record p.piece { stack = l } } in Ok q)
    (append_assoc p.piece.stack (s ∷ []) syms))))

-- a piece that has been read, whatever line may come next
abbrev pub read_at : Bool → Bool → PieceStage → ℕ → Piece → PieceSoFar
read_at at_entry has_pos s next piece = record { at_entry = at_entry; has_pos = has_pos; stage = s; next = next; piece = piece }

-- a piece with other variables or other fields
abbrev vars_at : PieceSoFar → PieceStage → ℕ → List Bind → PieceSoFar
vars_at p s n l = record p { stage = s; next = n; piece = record p.piece { vars = l } }

abbrev fields_at : PieceSoFar → PieceStage → ℕ → List Bind → PieceSoFar
fields_at p s n l = record p { stage = s; next = n; piece = record p.piece { fields = l } }

-- bindings of one list, which `at` puts into a piece, are read up to what follows them
abbrev BindsGo : List (List ℕ × Kind) → (PieceSoFar → List (List (List ℕ)) → Type 0) → List ℕ → ℕ → (PieceStage → ℕ → List Bind → PieceSoFar)
    → (Bind → Type 0) → Type 0
BindsGo names Run word rank at Good =
    (binds : List Bind) (s : PieceStage) (n : ℕ) (l : List Bind) (more : List (List (List ℕ))) → n ≤ MOST_NUMBER → pieces.stage_rank s ≤ rank
    → Each Good binds → Up fits_bind (last_of l) binds → are_placed n (bound_symbols binds) ≡ true
    → ((t : PieceStage) → pieces.stage_rank t ≤ rank → Run (at t (next_behind n (bound_symbols binds)) (l ++ binds)) more)
    → Run (at s n l) (map (bind_items word names) binds ++ more)

-- lines that are read from what has been read of a piece
module _ (style : Style) (Run : PieceSoFar → List (List (List ℕ)) → Type 0) (plain : ArePlain style.names)
    (step : (p q : PieceSoFar) (kind : PieceWord) (texts : List (List ℕ)) (more : List (List (List ℕ))) → pieces.stage_rank p.stage ≤ pieces.word_rank kind
    → ((word : Item) (rest : Line) → Has rest texts → pieces.piece_line style kind word rest p ≡ Ok q) → Run q more
    → Run p ((word_text kind ∷ texts) ∷ more)) where
  binds_go : (word : List ℕ) (stage_after : PieceStage) (rank : ℕ) (at : PieceStage → ℕ → List Bind → PieceSoFar) (Good : Bind → Type 0)
      → pieces.stage_rank stage_after ≤ rank
      → ((s : PieceStage) (n : ℕ) (l : List Bind) (x : Bind) (more : List (List (List ℕ))) → pieces.stage_rank s ≤ rank → n ≤ MOST_NUMBER → x.sym.0 ≤ n → Good x
      → fits_bind (last_of l) x ≡ true → Run (at stage_after (items.next_after n x.sym) (l ++ x ∷ [])) more → Run (at s n l) (bind_items word style.names x ∷ more))
      → BindsGo style.names Run word rank at Good
  binds_go word stage_after rank at Good low one [] s n l more small early each up placed next =
      subst (λ (k : List Bind). Run (at s n k) more) (append-nil l) (next s early)
  binds_go word stage_after rank at Good low one (x ∷ binds) s n l more small early each up placed next =
      let both = and_parts (nat_le x.sym.0 n) (are_placed (items.next_after n x.sym) (bound_symbols binds)) placed in
      let later = subst (λ last. Up fits_bind last binds) (sym (last_snoc l x)) up.1 in
      one s n l x (map (bind_items word style.names) binds ++ more) early small (within x.sym.0 n both.0) each.0 up.0
      (binds_go word stage_after rank at Good low one binds stage_after (items.next_after n x.sym) (l ++ x ∷ []) more (next_small n x.sym) low each.1 later both.1
      (λ t late. subst (λ (k : List Bind). Run (at t (next_behind n (bound_symbols (x ∷ binds))) k) more) (sym (append_assoc l (x ∷ []) binds)) (next t late)))

  vars_go : (p : PieceSoFar) → BindsGo style.names Run (codes "var") 1 (vars_at p) (λ x. IsVariable p.at_entry style.names x.name)
  vars_go p =
      binds_go (codes "var") stage.Vars 1 (vars_at p) (λ x. IsVariable p.at_entry style.names x.name) (lit≤ tt) (λ s n l x rest low few placed good up.
      step (vars_at p s n l) (with_var x (vars_at p s n l)) Var (name_text style.names x.name ∷ (sym_text x.sym ∷ [])) rest low
      (λ word line has. var_taken style (vars_at p s n l) x line plain few placed good up has))

  fields_go : (p : PieceSoFar) → BindsGo style.names Run (codes "field") 2 (fields_at p) (λ x. IsField style.names x.name × (p.at_entry ≡ true))
  fields_go p =
      binds_go (codes "field") stage.Fields 2 (fields_at p) (λ x. IsField style.names x.name × (p.at_entry ≡ true)) (lit≤ tt) (λ s n l x rest low few placed good up.
      step (fields_at p s n l) (with_field x (fields_at p s n l)) Field (name_text style.names x.name ∷ (sym_text x.sym ∷ [])) rest low
      (λ word line has. field_taken style (fields_at p s n l) x line plain few placed good.0 good.1 up has))

  facts_go : (facts : List Fact) (p : PieceSoFar) (more : List (List (List ℕ))) → p.next ≤ MOST_NUMBER → pieces.stage_rank p.stage ≤ 3
      → Each (IsFact style p.next) facts → length p.piece.facts + length facts ≤ 64
      → ((s : PieceStage) → pieces.stage_rank s ≤ 3 → Run (record p { stage = s; piece = record p.piece { facts = p.piece.facts ++ facts } }) more)
      → Run p (map (fact_items style.names) facts ++ more)
  facts_go [] p more small rank each few next =
      subst (λ (l : List Fact). Run (record p { piece = record p.piece { facts = l } }) more) (append-nil p.piece.facts) (next p.stage rank)
  facts_go (x ∷ facts) p more small rank each few next =
      let behind = map (fact_items style.names) facts ++ more in
      let low : pieces.stage_rank p.stage ≤ pieces.word_rank (fact_word x) = subst (λ (n : ℕ). pieces.stage_rank p.stage ≤ n) (sym (fact_ranked x)) rank in
      subst (λ (l : List (List ℕ)). Run p (l ∷ behind)) (sym (fact_spelled style.names x))
      (step p (with_fact x p) (fact_word x) (sym_text (fact_sym x) ∷ fact_more style.names x) behind low
      (λ word rest has. fact_goes style x word rest p ∙ fact_taken style p x word rest plain small each.0 (room 64 p.piece.facts facts x few) has)
      (facts_go facts (with_fact x p) more small (lit≤ tt) each.1 (room_more 64 p.piece.facts facts x few) (λ s lower.
      subst (λ (l : List Fact). Run (record p { stage = s; piece = record p.piece { facts = l } }) more)
      (sym (append_assoc p.piece.facts (x ∷ []) facts)) (next s lower))))

  rows_go : (rows : List RowOf) (p : PieceSoFar) (more : List (List (List ℕ))) → p.next ≤ MOST_NUMBER → pieces.stage_rank p.stage ≤ 4
      → Each (IsRow p.has_pos p.next) rows → length p.piece.rows + length rows ≤ 64
      → ((s : PieceStage) → Run (record p { stage = s; piece = record p.piece { rows = p.piece.rows ++ rows } }) more)
      → Run p (map row_items rows ++ more)
  rows_go [] p more small rank each few next =
      subst (λ (l : List RowOf). Run (record p { piece = record p.piece { rows = l } }) more) (append-nil p.piece.rows) (next p.stage)
  rows_go (x ∷ rows) p more small rank each few next =
      step p (with_row x p) Row (signed_decimal x.constant ∷ part_items x.parts) (map row_items rows ++ more) rank
      (λ word rest has. row_taken style p x word rest small each.0 (room 64 p.piece.rows rows x few) has)
      (rows_go rows (with_row x p) more small (lit≤ tt) each.1 (room_more 64 p.piece.rows rows x few) (λ s.
      subst (λ (l : List RowOf). Run (record p { stage = s; piece = record p.piece { rows = l } }) more)
      (sym (append_assoc p.piece.rows (x ∷ []) rows)) (next s)))

  stack_go : (stack : List Sym) (p : PieceSoFar) (more : List (List (List ℕ))) → p.next ≤ MOST_NUMBER → pieces.stage_rank p.stage ≤ 0
      → p.piece.stack ≡ [] → are_placed p.next stack ≡ true → length stack ≤ 64
      → ((s : PieceStage) → pieces.stage_rank s ≤ 1 → Run (record p { stage = s; next = next_behind p.next stack; piece = record p.piece { stack = stack } }) more)
      → Run p (stack_lines stack ++ more)
  stack_go [] p more small rank none placed few next =
      subst (λ (l : List Sym). Run (record p { piece = record p.piece { stack = l } }) more) (sym none) (next p.stage (omega (arith, rank)))
  stack_go (s ∷ stack) p more small rank none placed few next =
      let many : length p.piece.stack + length (s ∷ stack) ≤ 64 = omega (arith, few, ap (λ (l : List Sym). length l) none) in
      step p (with_symbols (s ∷ stack) p) Stack (map sym_text (s ∷ stack)) more rank
      (λ word rest has. stack_taken p s stack rest small placed many has)
      (subst (λ (l : List Sym). Run (record p { stage = stage.Vars; next = next_behind p.next (s ∷ stack); piece = record p.piece { stack = l ++ (s ∷ stack) } }) more)
      (sym none) (next stage.Vars (lit≤ tt)))

  -- all lines of a piece
  pub piece_goes : (at_entry has_pos : Bool) (start : ℕ) (piece : Piece) (more : List (List (List ℕ))) → start ≤ MOST_NUMBER
      → IsPiece style at_entry has_pos start piece
      → ((s : PieceStage) → Run (read_at at_entry has_pos s (next_behind start (places_of piece)) piece) more)
      → Run (pieces.no_piece at_entry has_pos start) (piece_lines style.names piece ++ more)
  piece_goes at_entry has_pos start piece more small is next =
      let names = style.names in
      let vars = map (bind_items (codes "var") names) piece.vars in
      let fields = map (bind_items (codes "field") names) piece.fields in
      let facts = map (fact_items names) piece.facts in
      let rows = map row_items piece.rows in
      let first = stack_lines piece.stack in
      let first_parts = placed_parts start piece.stack (bound_symbols piece.vars ++ bound_symbols piece.fields) is.placed in
      let n1 = next_behind start piece.stack in
      let second_parts = placed_parts n1 (bound_symbols piece.vars) (bound_symbols piece.fields) first_parts.1 in
      let n2 = next_behind n1 (bound_symbols piece.vars) in
      let n3 = next_behind n2 (bound_symbols piece.fields) in
      let same : next_behind start (places_of piece) ≡ n3 =
      behind_parts start piece.stack (bound_symbols piece.vars ++ bound_symbols piece.fields) ∙ behind_parts n1 (bound_symbols piece.vars) (bound_symbols piece.fields) in
      let s1 = behind_small start piece.stack small in
      let s2 = behind_small n1 (bound_symbols piece.vars) s1 in
      let s3 = behind_small n2 (bound_symbols piece.fields) s2 in
      let lines : piece_lines names piece ++ more ≡ first ++ (vars ++ (fields ++ (facts ++ (rows ++ more)))) =
      append_assoc first (vars ++ (fields ++ (facts ++ rows))) more
      ∙ ap (λ l. first ++ l) (append_assoc vars (fields ++ (facts ++ rows)) more
      ∙ ap (λ l. vars ++ l) (append_assoc fields (facts ++ rows) more ∙ ap (λ l. fields ++ l) (append_assoc facts rows more))) in
      let rise : (binds : List Bind) → is_chain rises binds ≡ true → Up fits_bind None binds = λ binds e. up_of rises fits_bind (λ a b f. f) (λ b. refl) binds e in
      let after = subst (λ (n : ℕ). (s : PieceStage) → Run (read_at at_entry has_pos s n piece) more) same next in
      subst (Run (pieces.no_piece at_entry has_pos start)) (sym lines)
      (stack_go piece.stack (pieces.no_piece at_entry has_pos start) (vars ++ (fields ++ (facts ++ (rows ++ more)))) small (lit≤ tt) refl first_parts.0 is.few_symbols (λ t low.
      vars_go (read_at at_entry has_pos t n1 (record { stack = piece.stack; vars = []; fields = []; facts = []; rows = [] })) piece.vars t n1 []
      (fields ++ (facts ++ (rows ++ more))) s1 low is.vars (rise piece.vars is.vars_rise) second_parts.0 (λ u lower.
      fields_go (read_at at_entry has_pos u n2 (record { stack = piece.stack; vars = piece.vars; fields = []; facts = []; rows = [] })) piece.fields u n2 []
      (facts ++ (rows ++ more)) s2 (omega (arith, lower)) is.fields (rise piece.fields is.fields_rise) second_parts.1 (λ v third.
      facts_go piece.facts (read_at at_entry has_pos v n3 (record { stack = piece.stack; vars = piece.vars; fields = piece.fields; facts = []; rows = [] }))
      (rows ++ more) s3 (omega (arith, third)) (subst (λ (n : ℕ). Each (IsFact style n) piece.facts) same is.facts) (alone (length piece.facts) 64 is.few_facts) (λ w fourth.
      rows_go piece.rows (read_at at_entry has_pos w n3 (record { stack = piece.stack; vars = piece.vars; fields = piece.fields; facts = piece.facts; rows = [] }))
      more s3 (omega (arith, fourth)) (subst (λ (n : ℕ). Each (IsRow has_pos n) piece.rows) same is.rows) (alone (length piece.rows) 64 is.few_rows) after)))))
