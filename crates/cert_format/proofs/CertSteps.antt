-- Each line of a piece that is read is spelled by what has been read after it, and that keeps the limits.
use Rattle.std.proofs.Common.{◌≡◌, ℕ, ◌<◌, ◌≤◌, Bool, true, false, nat_le, ℤ, List, [], ◌∷◌, ◌++◌, length, map, Option, Some, Result, Ok, Err, codes, lit≤, refl, sym, ap, subst, ◌∙◌, append_assoc, arith}
use Rattle.std.specs.Fmt.{decimal, signed_decimal}
use Rattle.std.specs.Option.{option_map}
use Rattle.std.proofs.lemmas.List.{append-nil}
use Rattle.bv_base.specs.Answers.{then_do}
use Rattle.bv_base.proofs.ThenLemmas.{ok_is, then_ok, unless_ok, where_ok}
use Rattle.lin_facts.specs.declared.row.Part.{Part}
use Rattle.lin_facts.specs.declared.row.Row.{Row as RowOf}
use Rattle.lin_facts.specs.declared.row.Term.{Term}
use Rattle.name_table.specs.Sound.{Each}
use Rattle.name_table.specs.declared.names.Kind.{Kind}
use Rattle.name_table.specs.declared.names.NameId.{NameId}
use Rattle.name_table.specs.declared.style.Style.{Style}
use Rattle.sym_state.specs.declared.piece.Piece.{Piece}
use Rattle.sym_state.specs.declared.symbol.Bind.{Bind}
use Rattle.sym_state.specs.declared.symbol.Fact.{Fact}
use Rattle.sym_state.specs.declared.symbol.Fact.TheVariants as fact
use Rattle.sym_state.specs.declared.symbol.Sym.{Sym}
use Rattle.cert_format.specs.CertText.{IsFact, IsPart, IsPiece, IsRow, IsVariable, are_placed, bound_symbols, is_within, next_behind, places_of}
use Rattle.cert_format.specs.CondText.{IsField, is_below, is_chain}
use Rattle.cert_format.specs.Items.{is_above, last_of, name_in}
use Rattle.cert_format.specs.Lines.{Item, Line, next_item, with_item}
use Rattle.cert_format.specs.PieceItems as items
use Rattle.cert_format.specs.PieceSpelling.{bind_items, fact_items, hex_text, kind_text, part_items, piece_lines, row_items, stack_lines, sym_text, term_text}
use Rattle.cert_format.specs.Pieces as pieces
use Rattle.cert_format.specs.Spelling.{name_text}
use Rattle.cert_format.specs.declared.items.TheConstants.{MOST_NUMBER}
use Rattle.cert_format.specs.declared.piece_lines.PieceSoFar.{PieceSoFar}
use Rattle.cert_format.specs.declared.stages.PieceStage.{PieceStage}
use Rattle.cert_format.specs.declared.stages.PieceStage.TheVariants as stage
use Rattle.cert_format.specs.declared.stages.PieceWord.{PieceWord}
use Rattle.cert_format.specs.declared.stages.PieceWord.TheVariants.{Stack, Var, Field, Is, Int, Text, Call, Block, Blank, Nonblank, Wellformed, Row}
use Rattle.cert_format.specs.declared.stop.Stop.{Stop}
use Rattle.cert_format.proofs.CertItems.{block_read, integer_read, known_read, placed_read}
use Rattle.cert_format.proofs.CertKept.{all_read, behind_snoc, due, each_none, ended_read, last_read, more_few, next_small, placed_snoc, word_text}
use Rattle.cert_format.proofs.CertNames.{entry_field_read, known_name, variable_read}
use Rattle.cert_format.proofs.CertWords.{kind_read, term_read, text_read}
use Rattle.cert_format.proofs.CondKept.{chain_snoc, each_snoc}
use Rattle.cert_format.proofs.CondRead.{Has, item_before, next_is}
use Rattle.cert_format.proofs.CondSteps.{map_snoc, snoc_left}
use Rattle.cert_format.proofs.Split.{Ended, texts, texts_of}

-- what has been read of a piece keeps the limits, and the next new symbol is known
pub record Kept (style : Style) (start : ℕ) (p : PieceSoFar) : Type 0 where
  pub is : IsPiece style p.at_entry p.has_pos start p.piece
  pub next : p.next ≡ next_behind start (places_of p.piece)
  pub small : p.next ≤ MOST_NUMBER

-- lists whose lines haven't come are empty
pub record Fits (rank : ℕ) (piece : Piece) : Type 0 where
  pub stack : rank < 1 → piece.stack ≡ []
  pub vars : rank < 1 → piece.vars ≡ []
  pub fields : rank < 2 → piece.fields ≡ []
  pub facts : rank < 3 → piece.facts ≡ []
  pub rows : rank < 4 → piece.rows ≡ []

-- a line that is read is spelled behind those before it
pub record PieceStep (style : Style) (start : ℕ) (p : PieceSoFar) (line : Line) (q : PieceSoFar) : Type 0 where
  pub goes : piece_lines style.names q.piece ≡ piece_lines style.names p.piece ++ texts line ∷ []
  pub ends : Ended line
  pub fits : Fits (pieces.stage_rank q.stage) q.piece
  pub kept : Kept style start q
  pub entry : q.at_entry ≡ p.at_entry
  pub pos : q.has_pos ≡ p.has_pos

piece_step : (style : Style) (start : ℕ) (p : PieceSoFar) (line : Line) (q next : PieceSoFar) (texts_here : List (List ℕ)) → q ≡ next
    → piece_lines style.names next.piece ≡ piece_lines style.names p.piece ++ texts_here ∷ [] → Has line texts_here
    → Fits (pieces.stage_rank next.stage) next.piece → Kept style start next → next.at_entry ≡ p.at_entry → next.has_pos ≡ p.has_pos
    → PieceStep style start p line q
piece_step style start p line q next texts_here is goes has fits kept entry pos =
    let step : PieceStep style start p line next =
    record {
      goes = goes ∙ ap (λ (i : List (List ℕ)). piece_lines style.names p.piece ++ i ∷ []) (sym has.items);
      ends = has.ends;
      fits = fits;
      kept = kept;
      entry = entry;
      pos = pos;
    } in
    subst (λ (r : PieceSoFar). PieceStep style start p line r) (sym is) step

-- a piece that keeps the limits, by its parts
pub piece_of : (style : Style) (at_entry has_pos : Bool) (start : ℕ) (piece : Piece) → are_placed start (places_of piece) ≡ true → length piece.stack ≤ 64
    → Each (λ bind. IsVariable at_entry style.names bind.name) piece.vars → is_chain (λ a b. is_below a.name b.name) piece.vars ≡ true
    → Each (λ bind. IsField style.names bind.name × (at_entry ≡ true)) piece.fields → is_chain (λ a b. is_below a.name b.name) piece.fields ≡ true
    → Each (IsFact style (next_behind start (places_of piece))) piece.facts → length piece.facts ≤ 64
    → Each (IsRow has_pos (next_behind start (places_of piece))) piece.rows → length piece.rows ≤ 64 → IsPiece style at_entry has_pos start piece
piece_of style at_entry has_pos start piece a b c d e f g h i j =
    record { placed = a; few_symbols = b; vars = c; vars_rise = d; fields = e; fields_rise = f; facts = g; few_facts = h; rows = i; few_rows = j }

-- the lists behind the line of this rank are empty, where those behind an earlier one are and nothing else stands in it
fits_from : (from rank : ℕ) (old piece : Piece) → Fits from old → from ≤ rank → (rank < 1 → piece.stack ≡ []) → (rank < 1 → piece.vars ≡ old.vars)
    → (rank < 2 → piece.fields ≡ old.fields) → (rank < 3 → piece.facts ≡ old.facts) → (rank < 4 → piece.rows ≡ old.rows) → Fits rank piece
fits_from from rank old piece fits low stack vars fields facts rows =
    record {
      stack = stack;
      vars = λ h. vars h ∙ fits.vars (omega (arith, low, h));
      fields = λ h. fields h ∙ fits.fields (omega (arith, low, h));
      facts = λ h. facts h ∙ fits.facts (omega (arith, low, h));
      rows = λ h. rows h ∙ fits.rows (omega (arith, low, h));
    }

-- nothing stands behind the rows
nothing_behind : (piece : Piece) → Fits 4 piece
nothing_behind piece =
    let early : (n : ℕ) → n ≤ 4 → 4 < n → ⊥ = λ n few more. omega (arith, few, more) in
    record {
      stack = λ h. absurd (early 1 (lit≤ tt) h);
      vars = λ h. absurd (early 1 (lit≤ tt) h);
      fields = λ h. absurd (early 2 (lit≤ tt) h);
      facts = λ h. absurd (early 3 (lit≤ tt) h);
      rows = λ h. absurd (early 4 (lit≤ tt) h);
    }

-- what stands behind other items
pub in_back : {A : Type 0} (a m n : List A) (x : A) → n ≡ m ++ x ∷ [] → a ++ n ≡ (a ++ m) ++ x ∷ []
in_back a m n x e = ap (λ l. a ++ l) e ∙ sym (append_assoc a m (x ∷ []))

-- one more symbol at a place
pub record Placed (start next : ℕ) (places : List Sym) (s : Sym) : Type 0 where
  pub placed : are_placed start places ≡ true
  pub follows : items.next_after next s ≡ next_behind start places

placed_more : (start next : ℕ) (before places : List Sym) (s : Sym) → places ≡ before ++ s ∷ [] → are_placed start before ≡ true
    → next ≡ next_behind start before → s.0 ≤ next → Placed start next places s
placed_more start next before places s more placed is small =
    record {
      placed = ap (are_placed start) more ∙ placed_snoc start before s placed (subst (λ (n : ℕ). s.0 ≤ n) is small);
      follows = ap (λ (n : ℕ). items.next_after n s) is ∙ sym (behind_snoc start before s) ∙ ap (next_behind start) (sym more);
    }

-- the symbol that ends the line of a variable or a field
record Bound (next : ℕ) (name : NameId) (line : Line) (bind : Bind) : Type 0 where
  pub named : bind.name ≡ name
  pub placed : bind.sym.0 ≤ next
  pub has : Has line (sym_text bind.sym ∷ [])

bound_read : (next : ℕ) (name : NameId) (line : Line) (bind : Bind) → next ≤ MOST_NUMBER → pieces.bound next name line ≡ Ok bind → Bound next name line bind
bound_read next name line bind small e =
    let make : Sym → Bind = λ s. record { name = name; sym = s } in
    let l = last_read (items.placed next) make line bind e in
    let r = placed_read next l.item l.value small l.got in
    record {
      named = ap (λ (b : Bind). b.name) l.is;
      placed = subst (λ (b : Bind). b.sym.0 ≤ next) (sym l.is) r.1;
      has = l.has (sym_text bind.sym) (r.0 ∙ ap (λ (b : Bind). sym_text b.sym) (sym l.is));
    }

-- a variable behind those before it
abbrev pub with_var : Bind → PieceSoFar → PieceSoFar
with_var x p = record p { stage = stage.Vars; next = items.next_after p.next x.sym; piece = record p.piece { vars = p.piece.vars ++ x ∷ [] } }

-- a field behind those before it
abbrev pub with_field : Bind → PieceSoFar → PieceSoFar
with_field x p = record p { stage = stage.Fields; next = items.next_after p.next x.sym; piece = record p.piece { fields = p.piece.fields ++ x ∷ [] } }

-- a line that binds a symbol to a name, after its word
record Binding (names : List (List ℕ × Kind)) (next : ℕ) (text : List ℕ) (name_of : Item → Result NameId Stop) (make : Bind → PieceSoFar) (line : Line)
    (q : PieceSoFar) : Type 0 where
  pub bind : Bind
  pub item : Item
  pub got : name_of item ≡ Ok bind.name
  pub is : q ≡ make bind
  pub placed : bind.sym.0 ≤ next
  pub has : item.text ≡ name_text names bind.name → Has line (bind_items text names bind)

binding_read : (names : List (List ℕ × Kind)) (next : ℕ) (text : List ℕ) (name_of : Item → Result NameId Stop) (make : Bind → PieceSoFar) (word : Item)
    (rest line : Line) (q : PieceSoFar) → next ≤ MOST_NUMBER → line ≡ with_item word rest → word.text ≡ text
    → pieces.bind_line name_of next rest make ≡ Ok q → Binding names next text name_of make line q
binding_read names next text name_of make word rest line q small is said e =
    let a = then_ok (next_item rest) _ _ e in
    let b = then_ok (name_of a.0.0) _ _ a.2 in
    let c = then_ok (pieces.bound next b.0 a.0.1) _ _ b.2 in
    let x : Bind = c.0 in
    let l = bound_read next b.0 a.0.1 x small c.1 in
    record {
      bind = x;
      item = a.0.0;
      got = b.1 ∙ ap Ok (sym l.named);
      is = ok_is (make x) q c.2;
      placed = l.placed;
      has = λ name. item_before line word rest text _ is said
          (item_before rest a.0.0 a.0.1 (name_text names x.name) (sym_text x.sym ∷ []) (next_is rest a.0.0 a.0.1 a.1) name l.has);
    }

-- a binding may stand behind the last one
abbrev pub fits_bind : Option Bind → Bind → Bool
fits_bind last bind = is_above (option_map (λ b. b.name) last) bind.name

-- each binding stands above the one before it
abbrev pub rises : Bind → Bind → Bool
rises a b = is_below a.name b.name

facts_none : (names : List (List ℕ × Kind)) (piece : Piece) → piece.facts ≡ [] → piece.rows ≡ [] → map (fact_items names) piece.facts ++ map row_items piece.rows ≡ []
facts_none names piece f r = ap (λ l. map (fact_items names) l ++ map row_items piece.rows) f ∙ ap (λ l. map row_items l) r

fields_none : (names : List (List ℕ × Kind)) (piece : Piece) → piece.fields ≡ [] → piece.facts ≡ [] → piece.rows ≡ []
    → map (bind_items (codes "field") names) piece.fields ++ (map (fact_items names) piece.facts ++ map row_items piece.rows) ≡ []
fields_none names piece b f r =
    ap (λ l. map (bind_items (codes "field") names) l ++ (map (fact_items names) piece.facts ++ map row_items piece.rows)) b ∙ facts_none names piece f r

below : (a b c : ℕ) → a ≤ b → b < c → a < c
below a b c small under = omega (arith, small, under)

var_step : (style : Style) (start : ℕ) (p : PieceSoFar) (word : Item) (rest line : Line) (q : PieceSoFar) → line ≡ with_item word rest
    → word.text ≡ codes "var" → Kept style start p → Fits (pieces.stage_rank p.stage) p.piece → pieces.stage_rank p.stage ≤ 1
    → pieces.var_line style.names rest p ≡ Ok q → PieceStep style start p line q
var_step style start p word rest line q is said kept fits small e =
    let names = style.names in
    let piece = p.piece in
    let last = pieces.last_bound piece.vars in
    let b = binding_read names p.next (codes "var") (items.variable_above p.at_entry last names) (λ x. with_var x p) word rest line q kept.small is said e in
    let x : Bind = b.bind in
    let v = variable_read p.at_entry last names b.item x.name b.got in
    let next : PieceSoFar = with_var x p in
    let fit : Fits 1 next.piece = fits_from (pieces.stage_rank p.stage) 1 piece next.piece fits small (λ h. absurd (omega (arith, h))) (λ h. absurd (omega (arith, h))) (λ h. refl) (λ h. refl) (λ h. refl) in
    let no_fields = fit.fields (lit≤ tt) in
    let no_facts = fit.facts (lit≤ tt) in
    let no_rows = fit.rows (lit≤ tt) in
    let f = bind_items (codes "var") names in
    let behind = map (bind_items (codes "field") names) piece.fields ++ (map (fact_items names) piece.facts ++ map row_items piece.rows) in
    let goes : piece_lines names next.piece ≡ piece_lines names piece ++ f x ∷ [] =
    in_back (stack_lines piece.stack) (map f piece.vars ++ behind) (map f (piece.vars ++ x ∷ []) ++ behind) (f x)
    (ap (λ l. l ++ behind) (map_snoc f piece.vars x) ∙ snoc_left (map f piece.vars) (f x) behind (fields_none names piece no_fields no_facts no_rows)) in
    let places : places_of next.piece ≡ places_of piece ++ x.sym ∷ [] =
    in_back piece.stack (bound_symbols piece.vars ++ bound_symbols piece.fields) (bound_symbols (piece.vars ++ x ∷ []) ++ bound_symbols piece.fields) x.sym
    (ap (λ l. l ++ bound_symbols piece.fields) (map_snoc (λ b. b.sym) piece.vars x)
    ∙ snoc_left (bound_symbols piece.vars) x.sym (bound_symbols piece.fields) (ap bound_symbols no_fields)) in
    let m = placed_more start p.next (places_of piece) (places_of next.piece) x.sym places kept.is.placed kept.next b.placed in
    let good =
    piece_of style p.at_entry p.has_pos start next.piece m.placed kept.is.few_symbols
    (each_snoc (λ bind. IsVariable p.at_entry names bind.name) piece.vars x kept.is.vars v.is)
    (chain_snoc rises fits_bind (λ a b f. f) piece.vars x kept.is.vars_rise v.above) kept.is.fields kept.is.fields_rise
    (each_none (IsFact style (next_behind start (places_of next.piece))) piece.facts no_facts) kept.is.few_facts
    (each_none (IsRow p.has_pos (next_behind start (places_of next.piece))) piece.rows no_rows) kept.is.few_rows in
    piece_step style start p line q next (f x) b.is goes (b.has v.said) fit (record { is = good; next = m.follows; small = next_small p.next x.sym }) refl refl

field_step : (style : Style) (start : ℕ) (p : PieceSoFar) (word : Item) (rest line : Line) (q : PieceSoFar) → line ≡ with_item word rest
    → word.text ≡ codes "field" → Kept style start p → Fits (pieces.stage_rank p.stage) p.piece → pieces.stage_rank p.stage ≤ 2
    → pieces.field_line style.names rest p ≡ Ok q → PieceStep style start p line q
field_step style start p word rest line q is said kept fits small e =
    let names = style.names in
    let last = pieces.last_bound p.piece.fields in
    let b = binding_read names p.next (codes "field") (items.entry_field p.at_entry last names) (λ x. with_field x p) word rest line q kept.small is said e in
    let v = entry_field_read p.at_entry last names b.item b.bind.name b.got in
    let x : Bind = b.bind in
    let piece = p.piece in
    let next : PieceSoFar = with_field x p in
    let fit : Fits 2 next.piece = fits_from (pieces.stage_rank p.stage) 2 piece next.piece fits small (λ h. absurd (omega (arith, h))) (λ h. refl) (λ h. absurd (omega (arith, h))) (λ h. refl) (λ h. refl) in
    let no_facts = fit.facts (lit≤ tt) in
    let no_rows = fit.rows (lit≤ tt) in
    let f = bind_items (codes "field") names in
    let vars = map (bind_items (codes "var") names) piece.vars in
    let behind = map (fact_items names) piece.facts ++ map row_items piece.rows in
    let goes : piece_lines names next.piece ≡ piece_lines names piece ++ f x ∷ [] =
    in_back (stack_lines piece.stack) (vars ++ (map f piece.fields ++ behind)) (vars ++ (map f (piece.fields ++ x ∷ []) ++ behind)) (f x)
    (in_back vars (map f piece.fields ++ behind) (map f (piece.fields ++ x ∷ []) ++ behind) (f x)
    (ap (λ l. l ++ behind) (map_snoc f piece.fields x) ∙ snoc_left (map f piece.fields) (f x) behind (facts_none names piece no_facts no_rows))) in
    let places : places_of next.piece ≡ places_of piece ++ x.sym ∷ [] =
    in_back piece.stack (bound_symbols piece.vars ++ bound_symbols piece.fields) (bound_symbols piece.vars ++ bound_symbols (piece.fields ++ x ∷ [])) x.sym
    (in_back (bound_symbols piece.vars) (bound_symbols piece.fields) (bound_symbols (piece.fields ++ x ∷ [])) x.sym (map_snoc (λ b. b.sym) piece.fields x)) in
    let m = placed_more start p.next (places_of piece) (places_of next.piece) x.sym places kept.is.placed kept.next b.placed in
    let good =
    piece_of style p.at_entry p.has_pos start next.piece m.placed kept.is.few_symbols kept.is.vars kept.is.vars_rise
    (each_snoc (λ bind. IsField names bind.name × (p.at_entry ≡ true)) piece.fields x kept.is.fields (v.is, v.entry))
    (chain_snoc rises fits_bind (λ a b f. f) piece.fields x kept.is.fields_rise v.above)
    (each_none (IsFact style (next_behind start (places_of next.piece))) piece.facts no_facts) kept.is.few_facts
    (each_none (IsRow p.has_pos (next_behind start (places_of next.piece))) piece.rows no_rows) kept.is.few_rows in
    piece_step style start p line q next (f x) b.is goes (b.has v.said) fit (record { is = good; next = m.follows; small = next_small p.next x.sym }) refl refl

-- what the line of a fact says behind its symbol
record Said (style : Style) (next : ℕ) (kind : PieceWord) (s : Sym) (line : Line) (x : Fact) : Type 0 where
  pub more : List (List ℕ)
  pub said : fact_items style.names x ≡ word_text kind ∷ (sym_text s ∷ more)
  pub has : Has line more
  pub is : IsFact style next x

-- a fact with a value behind its symbol
said_last : {A : Type 0} {Good : A → Type 0} (style : Style) (next : ℕ) (kind : PieceWord) (s : Sym) (reader : Item → Result A Stop) (make : A → Fact)
    (line : Line) (x : Fact) → then_do (next_item line) (λ item. then_do (reader item.0) (λ value. pieces.at_end item.1 (make value))) ≡ Ok x
    → (spelled : A → List ℕ) → ((value : A) → fact_items style.names (make value) ≡ word_text kind ∷ (sym_text s ∷ (spelled value ∷ [])))
    → ((item : Item) (value : A) → reader item ≡ Ok value → (item.text ≡ spelled value) × Good value) → ((value : A) → Good value → IsFact style next (make value))
    → Said style next kind s line x
said_last style next kind s reader make line x e spelled items_are reads good =
    let l = last_read reader make line x e in
    let r = reads l.item l.value l.got in
    record {
      more = spelled l.value ∷ [];
      said = ap (fact_items style.names) l.is ∙ items_are l.value;
      has = l.has (spelled l.value) r.0;
      is = subst (IsFact style next) (sym l.is) (good l.value r.1);
    }

-- a fact with nothing behind its symbol
said_end : (style : Style) (next : ℕ) (kind : PieceWord) (s : Sym) (made : Fact) (line : Line) (x : Fact) → pieces.at_end line made ≡ Ok x
    → fact_items style.names made ≡ word_text kind ∷ (sym_text s ∷ []) → IsFact style next made → Said style next kind s line x
said_end style next kind s made line x e items_are good =
    let r = ended_read line made x e in
    record { more = []; said = ap (fact_items style.names) r.0 ∙ items_are; has = r.1; is = subst (IsFact style next) (sym r.0) good }

in_two : {A B C : Type 0} → A × B × C → A × (B × C)
in_two h = (h.0, (h.1, h.2))

fact_read : (style : Style) (next : ℕ) (kind : PieceWord) (s : Sym) (line : Line) (x : Fact) → s.0 < next → pieces.word_rank kind ≡ 3
    → pieces.fact_of style kind s line ≡ Ok x → Said style next kind s line x
fact_read style next Stack s line x small rank e = absurd (omega (arith, rank))
fact_read style next Var s line x small rank e = absurd (omega (arith, rank))
fact_read style next Field s line x small rank e = absurd (omega (arith, rank))
fact_read style next Row s line x small rank e = absurd (omega (arith, rank))
fact_read style next Is s line x small rank e =
    said_last style next Is s items.kind (fact.Is s) line x e kind_text (λ value. refl) (λ item value got. kind_read item value got)
    (λ value is. (small, is))
fact_read style next Int s line x small rank e =
    said_last style next Int s (items.integer 2147483648 2147483647) (fact.Int s) line x e signed_decimal (λ value. refl)
    (λ item value got. integer_read 2147483648 2147483647 item value (lit≤ tt) (lit≤ tt) got) (λ value is. (small, is))
fact_read style next Text s line x small rank e =
    said_last style next Text s items.text (fact.Text s) line x e hex_text (λ value. refl) (λ item value got. text_read item value got)
    (λ value is. (small, is))
fact_read style next Call s line x small rank e =
    said_last style next Call s (name_in style.names) (fact.Call s) line x e (name_text style.names) (λ value. refl)
    (λ item value got. known_name style.names item value got) (λ value is. (small, is))
fact_read style next Block s line x small rank e =
    said_last style next Block s (items.block_number style.bodies) (fact.Block s) line x e decimal (λ value. refl)
    (λ item value got. in_two (block_read style.bodies item value got)) (λ value is. (small, is.0, is.1))
fact_read style next Blank s line x small rank e = said_end style next Blank s (fact.Blank s) line x e refl small
fact_read style next Nonblank s line x small rank e = said_end style next Nonblank s (fact.Nonblank s) line x e refl small
fact_read style next Wellformed s line x small rank e = said_end style next Wellformed s (fact.Wellformed s) line x e refl small

fact_step : (style : Style) (start : ℕ) (kind : PieceWord) (p : PieceSoFar) (word : Item) (rest line : Line) (q : PieceSoFar) → line ≡ with_item word rest
    → word.text ≡ word_text kind → Kept style start p → Fits (pieces.stage_rank p.stage) p.piece → pieces.stage_rank p.stage ≤ 3
    → pieces.word_rank kind ≡ 3 → pieces.fact_line style kind word rest p ≡ Ok q → PieceStep style start p line q
fact_step style start kind p word rest line q is said kept fits small rank e =
    let names = style.names in
    let piece = p.piece in
    let many = unless_ok (nat_le 64 (length piece.facts)) _ _ _ e in
    let a = then_ok (next_item rest) _ _ many.1 in
    let b = then_ok (items.known p.next a.0.0) _ _ a.2 in
    let c = then_ok (pieces.fact_of style kind b.0 a.0.1) _ _ b.2 in
    let k = known_read p.next a.0.0 b.0 kept.small b.1 in
    let x : Fact = c.0 in
    let r = fact_read style p.next kind b.0 a.0.1 x k.1 rank c.1 in
    let next : PieceSoFar = record p { stage = stage.Facts; piece = record p.piece { facts = p.piece.facts ++ x ∷ [] } } in
    let fit : Fits 3 next.piece = fits_from (pieces.stage_rank p.stage) 3 piece next.piece fits small (λ h. absurd (omega (arith, h))) (λ h. refl) (λ h. refl) (λ h. absurd (omega (arith, h))) (λ h. refl) in
    let no_rows = fit.rows (lit≤ tt) in
    let f = fact_items names in
    let vars = map (bind_items (codes "var") names) piece.vars in
    let fields = map (bind_items (codes "field") names) piece.fields in
    let behind = map row_items piece.rows in
    let before = map f piece.facts ++ behind in
    let after = map f (piece.facts ++ x ∷ []) ++ behind in
    let goes : piece_lines names next.piece ≡ piece_lines names piece ++ f x ∷ [] =
    in_back (stack_lines piece.stack) (vars ++ (fields ++ before)) (vars ++ (fields ++ after)) (f x)
    (in_back vars (fields ++ before) (fields ++ after) (f x)
    (in_back fields before after (f x)
    (ap (λ l. l ++ behind) (map_snoc f piece.facts x) ∙ snoc_left (map f piece.facts) (f x) behind (ap (λ l. map row_items l) no_rows)))) in
    let good =
    piece_of style p.at_entry p.has_pos start next.piece kept.is.placed kept.is.few_symbols kept.is.vars kept.is.vars_rise kept.is.fields kept.is.fields_rise
    (each_snoc (IsFact style (next_behind start (places_of piece))) piece.facts x kept.is.facts (subst (λ (n : ℕ). IsFact style n x) kept.next r.is))
    (more_few 64 piece.facts x many.0) kept.is.rows kept.is.few_rows in
    let inner = item_before rest a.0.0 a.0.1 (sym_text b.0) r.more (next_is rest a.0.0 a.0.1 a.1) k.0 r.has in
    let outer = item_before line word rest (word_text kind) (sym_text b.0 ∷ r.more) is said inner in
    piece_step style start p line q next (f x) (ok_is next q c.2) goes
    (record { items = outer.items ∙ sym r.said; ends = outer.ends }) fit (record { is = good; next = kept.next; small = kept.small }) refl refl

-- nothing stands behind the stack yet
record Alone (piece : Piece) : Type 0 where
  pub vars : piece.vars ≡ []
  pub fields : piece.fields ≡ []
  pub facts : piece.facts ≡ []
  pub rows : piece.rows ≡ []

-- symbols that are read on top of a stack
record Pushed (style : Style) (start : ℕ) (p : PieceSoFar) (texts_here : List (List ℕ)) (q : PieceSoFar) : Type 0 where
  pub syms : List Sym
  pub said : texts_here ≡ map sym_text syms
  pub piece : q.piece ≡ record p.piece { stack = p.piece.stack ++ syms }
  pub kept : Kept style start q
  pub entry : q.at_entry ≡ p.at_entry
  pub pos : q.has_pos ≡ p.has_pos

-- a symbol on top of a stack
abbrev pushed : Sym → PieceSoFar → PieceSoFar
pushed s p =
    record p {
      stage = stage.Vars;
      next = items.next_after p.next s;
      piece = record p.piece { stack = p.piece.stack ++ s ∷ [] };
    }

-- what one symbol on top of a stack is
record One (style : Style) (start : ℕ) (p : PieceSoFar) (item : Item) (q : PieceSoFar) : Type 0 where
  pub top : Sym
  pub said : item.text ≡ sym_text top
  pub is : q ≡ pushed top p
  pub kept : Kept style start (pushed top p)

push_read : (style : Style) (start : ℕ) (p : PieceSoFar) (item : Item) (q : PieceSoFar) → Kept style start p → Alone p.piece
    → pieces.push_symbol item p ≡ Ok q → One style start p item q
push_read style start p item q kept alone e =
    let piece = p.piece in
    let a = then_ok (items.placed p.next item) _ _ e in
    let many = unless_ok (nat_le 64 (length piece.stack)) _ _ _ a.2 in
    let r = placed_read p.next item a.0 kept.small a.1 in
    let s : Sym = a.0 in
    let next : PieceSoFar = pushed s p in
    let none : bound_symbols piece.vars ++ bound_symbols piece.fields ≡ [] =
    ap (λ l. bound_symbols l ++ bound_symbols piece.fields) alone.vars ∙ ap bound_symbols alone.fields in
    let places : places_of next.piece ≡ places_of piece ++ s ∷ [] = snoc_left piece.stack s (bound_symbols piece.vars ++ bound_symbols piece.fields) none in
    let m = placed_more start p.next (places_of piece) (places_of next.piece) s places kept.is.placed kept.next r.1 in
    let good =
    piece_of style p.at_entry p.has_pos start next.piece m.placed (more_few 64 piece.stack s many.0) kept.is.vars kept.is.vars_rise kept.is.fields
    kept.is.fields_rise (each_none (IsFact style (next_behind start (places_of next.piece))) piece.facts alone.facts) kept.is.few_facts
    (each_none (IsRow p.has_pos (next_behind start (places_of next.piece))) piece.rows alone.rows) kept.is.few_rows in
    record {
      top = s;
      said = r.0;
      is = ok_is next q many.1;
      kept = record { is = good; next = m.follows; small = next_small p.next s };
    }

pushes_read : (style : Style) (start : ℕ) (more : List Item) (p q : PieceSoFar) → Kept style start p → Alone p.piece → pieces.push_symbols more p ≡ Ok q
    → Pushed style start p (texts_of more) q
pushes_read style start [] p q kept alone e =
    let is : q ≡ p = ok_is p q e in
    record {
      syms = [];
      said = refl;
      piece = ap (λ (r : PieceSoFar). r.piece) is ∙ ap (λ (l : List Sym). record p.piece { stack = l }) (sym (append-nil p.piece.stack));
      kept = subst (Kept style start) (sym is) kept;
      entry = ap (λ (r : PieceSoFar). r.at_entry) is;
      pos = ap (λ (r : PieceSoFar). r.has_pos) is;
    }
pushes_read style start (item ∷ more) p q kept alone e =
    let a = then_ok (pieces.push_symbol item p) _ _ e in
    let o = push_read style start p item a.0 kept alone a.1 in
    let others : Alone (pushed o.top p).piece = record { vars = alone.vars; fields = alone.fields; facts = alone.facts; rows = alone.rows } in
    let r = pushes_read style start more (pushed o.top p) q o.kept others (ap (pieces.push_symbols more) (sym o.is) ∙ a.2) in
    record {
      syms = o.top ∷ r.syms;
      said = ap (λ (t : List ℕ). t ∷ texts_of more) o.said ∙ ap (λ (l : List (List ℕ)). sym_text o.top ∷ l) r.said;
      piece = r.piece ∙ ap (λ (l : List Sym). record p.piece { stack = l }) (append_assoc p.piece.stack (o.top ∷ []) r.syms);
      kept = r.kept;
      entry = r.entry;
      pos = r.pos;
    }

-- the first push, which moves to the lines behind the stack
stage_moved : (more : List Item) (p q : PieceSoFar) → p.stage ≡ stage.Vars → pieces.push_symbols more p ≡ Ok q → q.stage ≡ stage.Vars
stage_moved [] p q is e = ap (λ (r : PieceSoFar). r.stage) (ok_is p q e) ∙ is
stage_moved (item ∷ more) p q is e =
    let a = then_ok (pieces.push_symbol item p) _ _ e in
    let b = then_ok (items.placed p.next item) _ _ a.1 in
    let c = unless_ok (nat_le 64 (length p.piece.stack)) _ _ _ b.2 in
    stage_moved more a.0 q (ap (λ (r : PieceSoFar). r.stage) (ok_is (pushed b.0 p) a.0 c.1)) a.2

stack_step : (style : Style) (start : ℕ) (p : PieceSoFar) (word : Item) (rest line : Line) (q : PieceSoFar) → line ≡ with_item word rest
    → word.text ≡ codes "stack" → Kept style start p → Fits (pieces.stage_rank p.stage) p.piece → pieces.stage_rank p.stage ≤ 0
    → pieces.stack_line rest p ≡ Ok q → PieceStep style start p line q
stack_step style start p word rest line q is said kept fits small e =
    let names = style.names in
    let piece = p.piece in
    let rank = pieces.stage_rank p.stage in
    let a = then_ok (next_item rest) _ _ e in
    let b = then_ok (pieces.push_symbol a.0.0 p) _ _ a.2 in
    let c = all_read a.0.1 (λ more. pieces.push_symbols more b.0) q b.2 in
    let alone : Alone piece =
    record {
      vars = fits.vars (below rank 0 1 small (lit≤ tt));
      fields = fits.fields (below rank 0 2 small (lit≤ tt));
      facts = fits.facts (below rank 0 3 small (lit≤ tt));
      rows = fits.rows (below rank 0 4 small (lit≤ tt));
    } in
    let no_stack = fits.stack (below rank 0 1 small (lit≤ tt)) in
    let o = push_read style start p a.0.0 b.0 kept alone b.1 in
    let first : PieceSoFar = pushed o.top p in
    let others : Alone first.piece = record { vars = alone.vars; fields = alone.fields; facts = alone.facts; rows = alone.rows } in
    let rest_read : pieces.push_symbols a.0.1.items first ≡ Ok q = ap (pieces.push_symbols a.0.1.items) (sym o.is) ∙ c.0 in
    let r = pushes_read style start a.0.1.items first q o.kept others rest_read in
    let moved = stage_moved a.0.1.items first q refl rest_read in
    let syms = o.top ∷ r.syms in
    let whole : q.piece ≡ record piece { stack = syms } =
    r.piece ∙ ap (λ (l : List Sym). record piece { stack = (l ++ o.top ∷ []) ++ r.syms }) no_stack in
    let here : List (List ℕ) = codes "stack" ∷ map sym_text syms in
    let behind = map (bind_items (codes "var") names) piece.vars
    ++ (map (bind_items (codes "field") names) piece.fields ++ (map (fact_items names) piece.facts ++ map row_items piece.rows)) in
    let none : behind ≡ [] =
    ap (λ l. map (bind_items (codes "var") names) l ++ (map (bind_items (codes "field") names) piece.fields ++ (map (fact_items names) piece.facts ++ map row_items piece.rows))) alone.vars
    ∙ fields_none names piece alone.fields alone.facts alone.rows in
    let inner : Has rest (sym_text o.top ∷ map sym_text r.syms) =
    item_before rest a.0.0 a.0.1 (sym_text o.top) (map sym_text r.syms) (next_is rest a.0.0 a.0.1 a.1) o.said (record { items = r.said; ends = c.1 }) in
    let outer : Has line here = item_before line word rest (codes "stack") _ is said inner in
    let goes : piece_lines names (record piece { stack = syms }) ≡ piece_lines names piece ++ here ∷ [] =
    ap (λ l. here ∷ l) none
    ∙ sym (ap (λ (l : List Sym). (stack_lines l ++ behind) ++ here ∷ []) no_stack ∙ ap (λ l. l ++ here ∷ []) none) in
    record {
      goes = ap (piece_lines names) whole ∙ goes ∙ ap (λ (i : List (List ℕ)). piece_lines names piece ++ i ∷ []) (sym outer.items);
      ends = outer.ends;
      fits = subst (λ (s : PieceStage). Fits (pieces.stage_rank s) q.piece) (sym moved) (subst (Fits 1) (sym whole) (record {
        stack = λ h. absurd (omega (arith, h));
        vars = λ h. absurd (omega (arith, h));
        fields = λ h. alone.fields;
        facts = λ h. alone.facts;
        rows = λ h. alone.rows;
      }));
      kept = r.kept;
      entry = r.entry;
      pos = r.pos;
    }

-- coefficients and terms that are within the limits, in their order
pub record Parts (has_pos : Bool) (next : ℕ) (parts : List Part) : Type 0 where
  pub each : Each (IsPart has_pos next) parts
  pub few : length parts ≤ 32
  pub rise : is_chain (λ a b. items.is_before a.term b.term) parts ≡ true

-- a term may stand behind the last one
abbrev pub fits_part : Option Part → Part → Bool
fits_part last part = items.is_later last part.term

-- what a coefficient is
record Coefficient (text : List ℕ) (n : ℤ) : Type 0 where
  pub said : text ≡ signed_decimal n
  pub small : is_within 1099511627776 1099511627776 n ≡ true
  pub some : items.is_zero n ≡ false

coefficient_read : (item : Item) (n : ℤ) → items.coefficient item ≡ Ok n → Coefficient item.text n
coefficient_read item n e =
    let a = then_ok (items.integer 1099511627776 1099511627776 item) _ _ e in
    let b = unless_ok (items.is_zero a.0) _ _ _ a.2 in
    let r = integer_read 1099511627776 1099511627776 item a.0 (lit≤ tt) (lit≤ tt) a.1 in
    let is : n ≡ a.0 = ok_is a.0 n b.1 in
    record {
      said = r.0 ∙ ap signed_decimal (sym is);
      small = ap (is_within 1099511627776 1099511627776) is ∙ r.1;
      some = ap items.is_zero is ∙ b.0;
    }

-- coefficients and terms that are read behind others
record Added (has_pos : Bool) (next : ℕ) (before all : List Part) (texts_here : List (List ℕ)) : Type 0 where
  pub added : List Part
  pub is : all ≡ before ++ added
  pub said : texts_here ≡ part_items added
  pub kept : Parts has_pos next all

parts_read : (has_pos : Bool) (next end : ℕ) (more : List Item) (before all : List Part) → next ≤ MOST_NUMBER → Parts has_pos next before
    → pieces.parts has_pos next end more before ≡ Ok all → Added has_pos next before all (texts_of more)
parts_read has_pos next end [] before all bound kept e =
    let is : all ≡ before = ok_is before all e in
    record { added = []; is = is ∙ sym (append-nil before); said = refl; kept = subst (Parts has_pos next) (sym is) kept }
parts_read has_pos next end (first ∷ []) before all bound kept e =
    let a = then_ok (pieces.part has_pos next before first (record { items = []; end = end })) _ _ e in
    let c = then_ok (items.coefficient first) _ _ a.1 in
    let d = unless_ok (nat_le 32 (length before)) _ _ _ c.2 in
    absurd (never d.1)
  where
    never : {A E : Type 0} {fault : E} {value : A} → Err fault ≡ Ok value → ⊥
    never e = absurd (cc)
parts_read has_pos next end (first ∷ (second ∷ more)) before all bound kept e =
    let a = then_ok (pieces.part has_pos next before first (record { items = second ∷ more; end = end })) _ _ e in
    let c = then_ok (items.coefficient first) _ _ a.1 in
    let d = unless_ok (nat_le 32 (length before)) _ _ _ c.2 in
    let t = then_ok (items.term_behind has_pos next (last_of before) second) _ _ d.1 in
    let u = then_ok (items.term has_pos next second) _ _ t.1 in
    let v = where_ok (items.is_later (last_of before) u.0) _ _ _ u.2 in
    let k = coefficient_read first c.0 c.1 in
    let w = term_read has_pos next second u.0 bound u.1 in
    let same : t.0 ≡ u.0 = ok_is u.0 t.0 v.1 in
    let x : Part = record { coefficient = c.0; term = u.0 } in
    let given : Part × Line = (record { coefficient = c.0; term = t.0 }, record { items = more; end = end }) in
    let found : a.0.0 ≡ x =
    ap (λ (f : Part × Line). f.0) (ok_is given a.0 t.2) ∙ ap (λ (m : Term). let y : Part = record { coefficient = c.0; term = m } in y) same in
    let good : IsPart has_pos next x = record { small = k.small; some = k.some; term = w.1 } in
    let more_kept : Parts has_pos next (before ++ x ∷ []) =
    record {
      each = each_snoc (IsPart has_pos next) before x kept.each good;
      few = more_few 32 before x d.0;
      rise = chain_snoc (λ a b. items.is_before a.term b.term) fits_part (λ a b f. f) before x kept.rise (fits_part_of before u.0 c.0 v.0);
    } in
    let r = parts_read has_pos next end more (before ++ x ∷ []) all bound more_kept
    (ap (λ (y : Part). pieces.parts has_pos next end more (before ++ y ∷ [])) (sym found) ∙ a.2) in
    record {
      added = x ∷ r.added;
      is = r.is ∙ append_assoc before (x ∷ []) r.added;
      said = ap (λ (i : List ℕ). i ∷ (second.text ∷ texts_of more)) k.said
          ∙ ap (λ (i : List ℕ). signed_decimal c.0 ∷ (i ∷ texts_of more)) w.0
          ∙ ap (λ (l : List (List ℕ)). signed_decimal c.0 ∷ (term_text u.0 ∷ l)) r.said;
      kept = r.kept;
    }
  where
    fits_part_of : (before : List Part) (t : Term) (c : ℤ) → items.is_later (last_of before) t ≡ true → fits_part (last_of before) (record { coefficient = c; term = t }) ≡ true
    fits_part_of before t c e = e

row_step : (style : Style) (start : ℕ) (p : PieceSoFar) (word : Item) (rest line : Line) (q : PieceSoFar) → line ≡ with_item word rest
    → word.text ≡ codes "row" → Kept style start p → pieces.stage_rank p.stage ≤ 4 → pieces.row_line word rest p ≡ Ok q → PieceStep style start p line q
row_step style start p word rest line q is said kept small e =
    let names = style.names in
    let piece = p.piece in
    let many = unless_ok (nat_le 64 (length piece.rows)) _ _ _ e in
    let a = then_ok (next_item rest) _ _ many.1 in
    let b = then_ok (items.integer 1099511627776 1099511627776 a.0.0) _ _ a.2 in
    let c = then_ok (pieces.with_all a.0.1 (λ more. pieces.parts p.has_pos p.next a.0.1.end more [])) _ _ b.2 in
    let d = all_read a.0.1 (λ more. pieces.parts p.has_pos p.next a.0.1.end more []) c.0 c.1 in
    let i = integer_read 1099511627776 1099511627776 a.0.0 b.0 (lit≤ tt) (lit≤ tt) b.1 in
    let none : Parts p.has_pos p.next [] = record { each = tt; few = lit≤ tt; rise = refl } in
    let r = parts_read p.has_pos p.next a.0.1.end a.0.1.items [] c.0 kept.small none d.0 in
    let x : RowOf = record { constant = b.0; parts = c.0 } in
    let next : PieceSoFar = record p { stage = stage.Rows; piece = record p.piece { rows = p.piece.rows ++ x ∷ [] } } in
    let good_row : IsRow p.has_pos p.next x = record { constant = i.1; parts = r.kept.each; few = r.kept.few; rise = r.kept.rise } in
    let vars = map (bind_items (codes "var") names) piece.vars in
    let fields = map (bind_items (codes "field") names) piece.fields in
    let facts = map (fact_items names) piece.facts in
    let before = map row_items piece.rows in
    let after = map row_items (piece.rows ++ x ∷ []) in
    let goes : piece_lines names next.piece ≡ piece_lines names piece ++ row_items x ∷ [] =
    in_back (stack_lines piece.stack) (vars ++ (fields ++ (facts ++ before))) (vars ++ (fields ++ (facts ++ after))) (row_items x)
    (in_back vars (fields ++ (facts ++ before)) (fields ++ (facts ++ after)) (row_items x)
    (in_back fields (facts ++ before) (facts ++ after) (row_items x)
    (in_back facts before after (row_items x) (map_snoc row_items piece.rows x)))) in
    let good =
    piece_of style p.at_entry p.has_pos start next.piece kept.is.placed kept.is.few_symbols kept.is.vars kept.is.vars_rise kept.is.fields kept.is.fields_rise
    kept.is.facts kept.is.few_facts
    (each_snoc (IsRow p.has_pos (next_behind start (places_of piece))) piece.rows x kept.is.rows (subst (λ (n : ℕ). IsRow p.has_pos n x) kept.next good_row))
    (more_few 64 piece.rows x many.0) in
    let last_items : Has a.0.1 (part_items c.0) = record { items = r.said ∙ ap part_items (sym r.is); ends = d.1 } in
    piece_step style start p line q next (row_items x) (ok_is next q c.2) goes
    (item_before line word rest (codes "row") _ is said
    (item_before rest a.0.0 a.0.1 (signed_decimal b.0) (part_items c.0) (next_is rest a.0.0 a.0.1 a.1) i.0 last_items))
    (nothing_behind next.piece) (record { is = good; next = kept.next; small = kept.small }) refl refl

-- a line of a piece that is read
pub piece_read : (style : Style) (start : ℕ) (kind : PieceWord) (p : PieceSoFar) (word : Item) (rest line : Line) (q : PieceSoFar) → line ≡ with_item word rest
    → Kept style start p → Fits (pieces.stage_rank p.stage) p.piece → pieces.piece_word p.stage word.text ≡ Some kind
    → pieces.piece_line style kind word rest p ≡ Ok q → PieceStep style start p line q
piece_read style start kind p word rest line q is kept fits due_here e =
    let d = due p.stage word.text kind due_here in
    by_kind kind d.0 d.1 e
  where
    by_kind : (k : PieceWord) → word.text ≡ word_text k → pieces.stage_rank p.stage ≤ pieces.word_rank k
        → pieces.piece_line style k word rest p ≡ Ok q → PieceStep style start p line q
    by_kind Stack said small f = stack_step style start p word rest line q is said kept fits small f
    by_kind Var said small f = var_step style start p word rest line q is said kept fits small f
    by_kind Field said small f = field_step style start p word rest line q is said kept fits small f
    by_kind Row said small f = row_step style start p word rest line q is said kept small f
    by_kind Is said small f = fact_step style start Is p word rest line q is said kept fits small refl f
    by_kind Int said small f = fact_step style start Int p word rest line q is said kept fits small refl f
    by_kind Text said small f = fact_step style start Text p word rest line q is said kept fits small refl f
    by_kind Call said small f = fact_step style start Call p word rest line q is said kept fits small refl f
    by_kind Block said small f = fact_step style start Block p word rest line q is said kept fits small refl f
    by_kind Blank said small f = fact_step style start Blank p word rest line q is said kept fits small refl f
    by_kind Nonblank said small f = fact_step style start Nonblank p word rest line q is said kept fits small refl f
    by_kind Wellformed said small f = fact_step style start Wellformed p word rest line q is said kept fits small refl f
