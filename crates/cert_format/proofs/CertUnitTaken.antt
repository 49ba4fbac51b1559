-- The lines of a unit that keeps the limits are read as that unit.
use Rattle.std.proofs.Common.{◌≡◌, ℕ, ◌+◌, ◌<◌, ◌≤◌, Bool, true, false, ◌&&◌, cond, nat_le, List, [], ◌∷◌, ◌++◌, length, map, Option, Some, None, Ok, Err, codes, lit≤, refl, sym, ap, subst, ◌∙◌, append_assoc, arith}
use Rattle.std.specs.Option.{option_and_then}
use Rattle.std.proofs.lemmas.Bool.Decides.{nat_tests}
use Rattle.std.proofs.lemmas.List.{append-nil}
use Rattle.bv_base.specs.Answers.{then_do}
use Rattle.name_table.specs.Sound.{Each}
use Rattle.name_table.specs.declared.names.NameId.{NameId}
use Rattle.name_table.specs.declared.style.Style.{Style}
use Rattle.sym_state.specs.declared.hint.Hint.{Hint}
use Rattle.sym_state.specs.declared.piece.Piece.{Piece}
use Rattle.cert_format.specs.CertText.{AreWrites, IsHint, IsPiece, IsVariable, next_behind, places_of}
use Rattle.cert_format.specs.Certs as certs
use Rattle.cert_format.specs.CondText.{ArePlain, is_below}
use Rattle.cert_format.specs.HintSpelling.{hint_items, hints_lines}
use Rattle.cert_format.specs.Hints.{hint_line}
use Rattle.cert_format.specs.Items.{among, is_above, is_word, last_of}
use Rattle.cert_format.specs.Lines.{Item, Line, next_item}
use Rattle.cert_format.specs.PieceItems.{variable_above}
use Rattle.cert_format.specs.PieceSpelling.{piece_lines}
use Rattle.cert_format.specs.Pieces as pieces
use Rattle.cert_format.specs.Spelling.{name_text}
use Rattle.cert_format.specs.UnitSpelling.{all_marked, head_lines, marked_lines, word_lines, writes_items}
use Rattle.cert_format.specs.Units as units
use Rattle.cert_format.specs.declared.cert_lines.CertSoFar.{CertSoFar}
use Rattle.cert_format.specs.declared.items.TheConstants.{MOST_NUMBER}
use Rattle.cert_format.specs.declared.piece_lines.PieceSoFar.{PieceSoFar}
use Rattle.cert_format.specs.declared.stages.CertStage.TheVariants as at_stage
use Rattle.cert_format.specs.declared.stages.Mark.{Mark}
use Rattle.cert_format.specs.declared.stages.Mark.TheVariants.{Pre, Post, Case, Exit, After, Visit, Keeps}
use Rattle.cert_format.specs.declared.stages.PieceStage.{PieceStage}
use Rattle.cert_format.specs.declared.stages.PieceWord.{PieceWord}
use Rattle.cert_format.specs.declared.stages.UnitKind.{UnitKind}
use Rattle.cert_format.specs.declared.stages.UnitStage.{UnitStage}
use Rattle.cert_format.specs.declared.stages.UnitStage.TheVariants as stage
use Rattle.cert_format.specs.declared.stop.Stop.{Stop}
use Rattle.cert_format.specs.declared.stop.Stop.TheVariants.{Syntax, TooMany}
use Rattle.cert_format.specs.declared.unit_lines.UnitSoFar.{UnitSoFar}
use Rattle.cert_format.proofs.CertHints.{hint_more, hint_spelled, hint_taken, hint_word, not_end}
use Rattle.cert_format.proofs.CertKept.{due_taken, ended_taken, last_taken, word_text}
use Rattle.cert_format.proofs.CertNames.{variable_taken}
use Rattle.cert_format.proofs.CertTaken.{piece_goes, read_at}
use Rattle.cert_format.proofs.CertUnits.{Closed, Lines, mark_text, rank, with_closed}
use Rattle.cert_format.proofs.CondRead.{Has}
use Rattle.cert_format.proofs.CondTaken.{other_word, take_first, then_go, word_taken}
use Rattle.cert_format.proofs.CondWhole.{Up, last_snoc, up_of}
use Rattle.cert_format.proofs.Spelt.{AllHave}

-- lines that are read one after the other
abbrev pub Goes : Style → Lines → CertSoFar → CertSoFar → Type 0
Goes style more p q = (lines : List Line) → AllHave lines more → certs.cert_lines style lines p ≡ Ok q

pub goes_line : (style : Style) (p next q : CertSoFar) (text : List ℕ) (rest : List (List ℕ)) (more : Lines)
    → ((word : Item) (line : Line) → word.text ≡ text → Has line rest → certs.cert_staged style p.stage word line p ≡ Ok next)
    → Goes style more next q → Goes style ((text ∷ rest) ∷ more) p q
goes_line style p next q text rest more one after [] have = absurd (have)
goes_line style p next q text rest more one after (line ∷ lines) have =
    let t = take_first line text rest have.0 in
    then_go (certs.cert_line style line p) next (certs.cert_lines style lines) (Ok q)
    (then_go (next_item line) (t.item, t.rest) _ _ t.gives (one t.item t.rest t.said t.has))
    (after lines have.1)

-- a certificate with an open unit
abbrev pub inside : CertSoFar → UnitSoFar → CertSoFar
inside c u = record c { stage = at_stage.InUnit; unit = u }

unit_goes : (style : Style) (c : CertSoFar) (u v : UnitSoFar) (q : CertSoFar) (text : List ℕ) (rest : List (List ℕ)) (more : Lines)
    → units.is_done v.stage ≡ false
    → ((word : Item) (line : Line) → word.text ≡ text → Has line rest → units.unit_line style word line u ≡ Ok v)
    → Goes style more (inside c v) q → Goes style ((text ∷ rest) ∷ more) (inside c u) q
unit_goes style c u v q text rest more going one after =
    goes_line style (inside c u) (inside c v) q text rest more
    (λ word line said has. then_go (units.unit_line style word line u) v _ _ (one word line said has)
    (ap (λ (t : Bool). Ok (cond t (certs.unit_finished (inside c v)) (inside c v))) going)) after

and_false : (b : Bool) → b && false ≡ false
and_false true = refl
and_false false = refl

-- a unit of which the head has been read
abbrev headed : UnitKind → UnitStage → Bool → Bool → List NameId → UnitSoFar
headed kind s entry whole writes = record (units.no_unit kind) { stage = s; entry = entry; whole = whole; writes = writes }

to_whole : (style : Style) (word : Item) (line : Line) (u : UnitSoFar) → is_word (codes "entry") word ≡ false → units.may_have_whole u.stage ≡ true
    → is_word (codes "whole") word ≡ true
    → units.body_line style word line u ≡ pieces.at_end line (record u { stage = stage.Writes; whole = true })
to_whole style word line u first may is = rw first (rw (and_false (units.may_have_entry u.stage)) (rw may (rw is refl)))

to_writes : (style : Style) (word : Item) (line : Line) (u : UnitSoFar) → is_word (codes "entry") word ≡ false → is_word (codes "whole") word ≡ false
    → units.may_have_writes u.stage ≡ true → is_word (codes "writes") word ≡ true
    → units.body_line style word line u ≡ units.writes_line style.names line u
to_writes style word line u first second may is =
    rw first (rw (and_false (units.may_have_entry u.stage)) (rw second (rw (and_false (units.may_have_whole u.stage)) (rw may (rw is refl)))))

to_piece : (style : Style) (word : Item) (line : Line) (u : UnitSoFar) → is_word (codes "entry") word ≡ false → is_word (codes "whole") word ≡ false
    → is_word (codes "writes") word ≡ false
    → units.body_line style word line u ≡ units.piece_or_mark style (units.open_word u.last u.piece word) word line u
to_piece style word line u first second third =
    rw first (rw (and_false (units.may_have_entry u.stage)) (rw second (rw (and_false (units.may_have_whole u.stage))
    (rw third (rw (and_false (units.may_have_writes u.stage)) refl)))))

-- before the hints
staged_low : (style : Style) (s : UnitStage) (word : Item) (line : Line) (u : UnitSoFar) → rank s < 4
    → units.staged_line style s word line u ≡ units.body_line style word line u
staged_low style stage.Entry word line u low = refl
staged_low style stage.Whole word line u low = refl
staged_low style stage.Writes word line u low = refl
staged_low style stage.Pieces word line u low = refl
staged_low style stage.Hints word line u low = absurd (omega (arith, low))
staged_low style stage.Done word line u low = absurd (omega (arith, low))

may_low : (s : UnitStage) → units.may_have_writes s ≡ true → rank s < 4
may_low stage.Entry e = lit≤ tt
may_low stage.Whole e = lit≤ tt
may_low stage.Writes e = lit≤ tt
may_low stage.Pieces e = absurd (cc)
may_low stage.Hints e = absurd (cc)
may_low stage.Done e = absurd (cc)

whole_writes : (s : UnitStage) → units.may_have_whole s ≡ true → units.may_have_writes s ≡ true
whole_writes stage.Entry e = refl
whole_writes stage.Whole e = refl
whole_writes stage.Writes e = absurd (cc)
whole_writes stage.Pieces e = absurd (cc)
whole_writes stage.Hints e = absurd (cc)
whole_writes stage.Done e = absurd (cc)

writes_taken : (style : Style) (u : UnitSoFar) (id : NameId) (word : Item) (line : Line) → ArePlain style.names → units.may_have_writes u.stage ≡ true
    → IsVariable u.entry style.names id → is_above (last_of u.writes) id ≡ true → word.text ≡ codes "writes" → Has line (name_text style.names id ∷ [])
    → units.unit_line style word line u ≡ Ok (record u { stage = stage.Writes; writes = u.writes ++ id ∷ [] })
writes_taken style u id word line plain may is above said has =
    let make : NameId → UnitSoFar = λ n. record u { stage = stage.Writes; writes = u.writes ++ n ∷ [] } in
    staged_low style u.stage word line u (may_low u.stage may)
    ∙ to_writes style word line u (other_word (codes "writes") (codes "entry") word said refl) (other_word (codes "writes") (codes "whole") word said refl) may
    (word_taken (codes "writes") word said)
    ∙ last_taken (variable_above u.entry (last_of u.writes) style.names) make line id (name_text style.names id) has
    (λ item text. variable_taken u.entry (last_of u.writes) style.names item id plain is above text)

writes_go : (style : Style) (c : CertSoFar) (kind : UnitKind) (s : UnitStage) (entry whole : Bool) (writes before : List NameId) (more : Lines) (q : CertSoFar)
    → ArePlain style.names → units.may_have_writes s ≡ true → Each (IsVariable entry style.names) writes → Up is_above (last_of before) writes
    → ((t : UnitStage) → rank t < 4 → Goes style more (inside c (headed kind t entry whole (before ++ writes))) q)
    → Goes style (map (writes_items style.names) writes ++ more) (inside c (headed kind s entry whole before)) q
writes_go style c kind s entry whole [] before more q plain may each up after =
    subst (λ (l : List NameId). Goes style more (inside c (headed kind s entry whole l)) q) (append-nil before) (after s (may_low s may))
writes_go style c kind s entry whole (id ∷ writes) before more q plain may each up after =
    let later = subst (λ last. Up is_above last writes) (sym (last_snoc before id)) up.1 in
    unit_goes style c (headed kind s entry whole before) (headed kind stage.Writes entry whole (before ++ id ∷ [])) q (codes "writes")
    (name_text style.names id ∷ []) (map (writes_items style.names) writes ++ more) refl
    (λ word line said has. writes_taken style (headed kind s entry whole before) id word line plain may each.0 up.0 said has)
    (writes_go style c kind stage.Writes entry whole writes (before ++ id ∷ []) more q plain refl each.1 later (λ t low.
    subst (λ (l : List NameId). Goes style more (inside c (headed kind t entry whole l)) q) (sym (append_assoc before (id ∷ []) writes)) (after t low)))

whole_go : (style : Style) (c : CertSoFar) (kind : UnitKind) (s : UnitStage) (entry whole : Bool) (more : Lines) (q : CertSoFar)
    → units.may_have_whole s ≡ true
    → ((t : UnitStage) → units.may_have_writes t ≡ true → Goes style more (inside c (headed kind t entry whole [])) q)
    → Goes style (word_lines (codes "whole") whole ++ more) (inside c (headed kind s entry false [])) q
whole_go style c kind s entry true more q may after =
    unit_goes style c (headed kind s entry false []) (headed kind stage.Writes entry true []) q (codes "whole") [] more refl
    (λ word line said has. staged_low style s word line (headed kind s entry false []) (may_low s (whole_writes s may))
    ∙ to_whole style word line (headed kind s entry false []) (other_word (codes "whole") (codes "entry") word said refl) may (word_taken (codes "whole") word said)
    ∙ ended_taken line (headed kind stage.Writes entry true []) has)
    (after stage.Writes refl)
whole_go style c kind s entry false more q may after = after s (whole_writes s may)

entry_go : (style : Style) (c : CertSoFar) (kind : UnitKind) (entry : Bool) (more : Lines) (q : CertSoFar)
    → ((t : UnitStage) → units.may_have_whole t ≡ true → Goes style more (inside c (headed kind t entry false [])) q)
    → Goes style (word_lines (codes "entry") entry ++ more) (inside c (headed kind stage.Entry false false [])) q
entry_go style c kind true more q after =
    unit_goes style c (headed kind stage.Entry false false []) (headed kind stage.Whole true false []) q (codes "entry") [] more refl
    (λ word line said has. rw (word_taken (codes "entry") word said) (ended_taken line (headed kind stage.Whole true false []) has))
    (after stage.Whole refl)
entry_go style c kind false more q after = after stage.Entry refl

-- the lines between the first line of a summary or a loop and its pieces
pub head_go : (style : Style) (c : CertSoFar) (kind : UnitKind) (entry whole : Bool) (writes : List NameId) (more : Lines) (q : CertSoFar)
    → ArePlain style.names → AreWrites entry style.names writes
    → ((t : UnitStage) → rank t < 4 → Goes style more (inside c (record (units.no_unit kind) { stage = t; entry = entry; whole = whole; writes = writes })) q)
    → Goes style (head_lines style.names entry whole writes ++ more) (inside c (record (units.no_unit kind) { stage = stage.Entry })) q
head_go style c kind entry whole writes more q plain is after =
    let e = word_lines (codes "entry") entry in
    let w = word_lines (codes "whole") whole in
    let v = map (writes_items style.names) writes in
    let lines : head_lines style.names entry whole writes ++ more ≡ e ++ (w ++ (v ++ more)) =
    append_assoc e (w ++ v) more ∙ ap (λ (l : Lines). e ++ l) (append_assoc w v more) in
    subst (λ (l : Lines). Goes style l (inside c (headed kind stage.Entry false false [])) q) (sym lines)
    (entry_go style c kind entry (w ++ (v ++ more)) q (λ s may.
    whole_go style c kind s entry whole (v ++ more) q may (λ t can.
    writes_go style c kind t entry whole writes [] more q plain can is.0 (up_of is_below is_above (λ x y f. f) (λ y. refl) writes is.1) after)))

-- a unit with an open piece
abbrev pub state : UnitKind → Bool → Bool → List NameId → Option Mark → ℕ → Closed → PieceSoFar → UnitSoFar
state kind entry whole writes last n cl p =
    with_closed cl (record (units.no_unit kind) { stage = stage.Pieces; entry = entry; whole = whole; writes = writes; last = last; count = n; piece = p })

-- a word by its text
abbrev worded : List ℕ → ℕ → Item
worded text left = record { text = text; left = left }

-- the word before a piece is no word of a head or of a piece
record IsMark (mark : Mark) (left : ℕ) : Type 0 where
  pub entry : is_word (codes "entry") (worded (mark_text mark) left) ≡ false
  pub whole : is_word (codes "whole") (worded (mark_text mark) left) ≡ false
  pub writes : is_word (codes "writes") (worded (mark_text mark) left) ≡ false
  pub piece : among (mark_text mark) pieces.piece_words ≡ None
  pub marked : among (mark_text mark) units.mark_words ≡ Some mark

is_mark : (mark : Mark) (left : ℕ) → IsMark mark left
is_mark Pre left = record { entry = refl; whole = refl; writes = refl; piece = refl; marked = refl }
is_mark Post left = record { entry = refl; whole = refl; writes = refl; piece = refl; marked = refl }
is_mark Case left = record { entry = refl; whole = refl; writes = refl; piece = refl; marked = refl }
is_mark Exit left = record { entry = refl; whole = refl; writes = refl; piece = refl; marked = refl }
is_mark After left = record { entry = refl; whole = refl; writes = refl; piece = refl; marked = refl }
is_mark Visit left = record { entry = refl; whole = refl; writes = refl; piece = refl; marked = refl }
is_mark Keeps left = record { entry = refl; whole = refl; writes = refl; piece = refl; marked = refl }

not_open : (last : Option Mark) (p : PieceSoFar) (text : List ℕ) (left : ℕ) → among text pieces.piece_words ≡ None
    → units.open_word last p (worded text left) ≡ None
not_open None p text left none = refl
not_open (Some mark) p text left none = ap (option_and_then (pieces.where_due p.stage)) none

mark_by : (style : Style) (u : UnitSoFar) (mark : Mark) (left : ℕ) (line : Line) → rank u.stage < 4 → units.may_follow u.kind u.last mark ≡ true
    → nat_le 64 u.count ≡ false → Has line [] → units.unit_line style (worded (mark_text mark) left) line u ≡ Ok (units.opened mark u)
mark_by style u mark left line low follows room has =
    let word = worded (mark_text mark) left in
    let m = is_mark mark left in
    staged_low style u.stage word line u low
    ∙ to_piece style word line u m.entry m.whole m.writes
    ∙ ap (λ o. units.piece_or_mark style o word line u) (not_open u.last u.piece (mark_text mark) left m.piece)
    ∙ ap (λ o. units.marked_line o word line u) m.marked
    ∙ ap (λ (t : Bool). cond t (units.mark_line mark word line u) (Err (at_fault left))) follows
    ∙ ap (λ (t : Bool). cond t (Err (too_many left)) (pieces.at_end line (units.opened mark u))) room
    ∙ ended_taken line (units.opened mark u) has
  where
    at_fault : ℕ → Stop
    at_fault n = Syntax n

    too_many : ℕ → Stop
    too_many n = TooMany n

-- the lines of a piece and the word before it
pub marked_go : (style : Style) (c : CertSoFar) (kind : UnitKind) (entry whole : Bool) (writes : List NameId) (u : UnitSoFar) (mark : Mark) (n : ℕ) (cl : Closed)
    (at_entry has_pos : Bool) (start : ℕ) (piece : Piece) (more : Lines) (q : CertSoFar) → ArePlain style.names → rank u.stage < 4
    → units.may_follow u.kind u.last mark ≡ true → nat_le 64 u.count ≡ false
    → units.opened mark u ≡ state kind entry whole writes (Some mark) n cl (pieces.no_piece at_entry has_pos start)
    → start ≤ MOST_NUMBER → IsPiece style at_entry has_pos start piece
    → ((t : PieceStage) → Goes style more (inside c (state kind entry whole writes (Some mark) n cl (read_at at_entry has_pos t (next_behind start (places_of piece)) piece))) q)
    → Goes style (marked_lines (mark_text mark) style.names piece ++ more) (inside c u) q
marked_go style c kind entry whole writes u mark n cl at_entry has_pos start piece more q plain low follows room opens small is after =
    let at : PieceSoFar → UnitSoFar = λ p. state kind entry whole writes (Some mark) n cl p in
    let Run : PieceSoFar → Lines → Type 0 = λ p l. Goes style l (inside c (at p)) q in
    let step : (p r : PieceSoFar) (word : PieceWord) (texts : List (List ℕ)) (l : Lines) → pieces.stage_rank p.stage ≤ pieces.word_rank word
    → ((w : Item) (rest : Line) → Has rest texts → pieces.piece_line style word w rest p ≡ Ok r) → Run r l → Run p ((word_text word ∷ texts) ∷ l) =
    λ p r word texts l due one next.
    unit_goes style c (at p) (at r) q (word_text word) texts l refl
    (λ w rest said has. ap (λ o. units.piece_or_mark style o w rest (at p)) (due_taken p.stage word w.text said due)
    ∙ then_go (pieces.piece_line style word w rest p) r _ _ (one w rest has) refl) next in
    unit_goes style c u (at (pieces.no_piece at_entry has_pos start)) q (mark_text mark) [] (piece_lines style.names piece ++ more) refl
    (λ word line said has. ap (λ (t : List ℕ). units.unit_line style (worded t word.left) line u) said
    ∙ mark_by style u mark word.left line low follows room has ∙ ap Ok opens)
    (piece_goes style Run plain step at_entry has_pos start piece more small is after)

full : (n most : ℕ) → n < most → nat_le most n ≡ false
full n most small = grind (arith, nat_tests)

-- further pieces of one mark
pub list_go : (style : Style) (c : CertSoFar) (kind : UnitKind) (entry whole : Bool) (writes : List NameId) (mark : Mark) (put : List Piece → Closed)
    (at_entry has_pos : Bool) (start : ℕ) (list before : List Piece) (p : PieceSoFar) (n : ℕ) (more : Lines) (q : CertSoFar) → ArePlain style.names
    → units.may_follow kind (Some mark) mark ≡ true → start ≤ MOST_NUMBER
    → ((l : List Piece) (r : PieceSoFar) (m : ℕ)
    → units.opened mark (state kind entry whole writes (Some mark) m (put l) r)
    ≡ state kind entry whole writes (Some mark) (m + 1) (put (l ++ r.piece ∷ [])) (pieces.no_piece at_entry has_pos start))
    → n + length list ≤ 64 → Each (IsPiece style at_entry has_pos start) list
    → ((l : List Piece) (r : PieceSoFar) → l ++ r.piece ∷ [] ≡ (before ++ p.piece ∷ []) ++ list
    → Goes style more (inside c (state kind entry whole writes (Some mark) (n + length list) (put l) r)) q)
    → Goes style (all_marked (mark_text mark) style.names list ++ more) (inside c (state kind entry whole writes (Some mark) n (put before) p)) q
list_go style c kind entry whole writes mark put at_entry has_pos start [] before p n more q plain follows small opens few each after =
    let same : n + 0 ≡ n = omega arith in
    subst (λ (m : ℕ). Goes style more (inside c (state kind entry whole writes (Some mark) m (put before) p)) q) same
    (after before p (sym (append-nil (before ++ p.piece ∷ []))))
list_go style c kind entry whole writes mark put at_entry has_pos start (x ∷ list) before p n more q plain follows small opens few each after =
    let m = marked_lines (mark_text mark) style.names x in
    let rest = all_marked (mark_text mark) style.names list in
    let below : n < 64 = omega (arith, few) in
    let count : n + 1 + length list ≡ n + length (x ∷ list) = omega arith in
    subst (λ (l : Lines). Goes style l (inside c (state kind entry whole writes (Some mark) n (put before) p)) q) (sym (append_assoc m rest more))
    (marked_go style c kind entry whole writes (state kind entry whole writes (Some mark) n (put before) p) mark (n + 1) (put (before ++ p.piece ∷ []))
    at_entry has_pos start x (rest ++ more) q plain (lit≤ tt) follows (full n 64 below) (opens before p n) small each.0 (λ t.
    list_go style c kind entry whole writes mark put at_entry has_pos start list (before ++ p.piece ∷ [])
    (read_at at_entry has_pos t (next_behind start (places_of x)) x) (n + 1) more q plain follows small opens (omega (arith, few)) each.1 (λ l r e.
    subst (λ (k : ℕ). Goes style more (inside c (state kind entry whole writes (Some mark) k (put l) r)) q) (sym count)
    (after l r (e ∙ append_assoc (before ++ p.piece ∷ []) (x ∷ []) list)))))

-- a unit of which hints are read
abbrev pub hinted : UnitKind → Bool → Bool → List NameId → ℕ → Closed → List Hint → UnitSoFar
hinted kind entry whole writes n cl hints =
    record (state kind entry whole writes None n cl (pieces.no_piece false false 0)) { stage = stage.Hints; hints = hints }

-- hints
each_go : (style : Style) (c : CertSoFar) (kind : UnitKind) (entry whole : Bool) (writes : List NameId) (n : ℕ) (cl : Closed) (hints before : List Hint)
    (more : Lines) (q : CertSoFar) → Each IsHint hints
    → Goes style more (inside c (hinted kind entry whole writes n cl (before ++ hints))) q
    → Goes style (map hint_items hints ++ more) (inside c (hinted kind entry whole writes n cl before)) q
each_go style c kind entry whole writes n cl [] before more q each after =
    subst (λ (l : List Hint). Goes style more (inside c (hinted kind entry whole writes n cl l)) q) (append-nil before) after
each_go style c kind entry whole writes n cl (h ∷ hints) before more q each after =
    let at : List Hint → UnitSoFar = λ l. hinted kind entry whole writes n cl l in
    let behind = map hint_items hints ++ more in
    subst (λ (l : List (List ℕ)). Goes style (l ∷ behind) (inside c (at before)) q) (sym (hint_spelled h))
    (unit_goes style c (at before) (at (before ++ h ∷ [])) q (hint_word h) (hint_more h) behind refl
    (λ word line said has.
    ap (λ (t : Bool). cond t (pieces.at_end line (record (at before) { stage = stage.Done }))
    (then_do (hint_line word line) (λ hint. Ok (at (before ++ hint ∷ []))))) (ap (λ (t : List ℕ). is_word (codes "end") (worded t word.left)) said ∙ not_end h word.left)
    ∙ then_go (hint_line word line) h _ _ (hint_taken word line h each.0 said has) refl)
    (each_go style c kind entry whole writes n cl hints (before ++ h ∷ []) more q each.1
    (subst (λ (l : List Hint). Goes style more (inside c (at l)) q) (sym (append_assoc before (h ∷ []) hints)) after)))

hints_by : (style : Style) (u : UnitSoFar) (left : ℕ) (line : Line) → rank u.stage < 4 → units.may_have_hints u.kind u.last ≡ true → Has line []
    → units.unit_line style (worded (codes "hints") left) line u
    ≡ Ok (record (units.placed_as u.last (pieces.no_piece false false 0) u) { stage = stage.Hints; last = None })
hints_by style u left line low may has =
    let word = worded (codes "hints") left in
    let next : UnitSoFar = record (units.placed_as u.last (pieces.no_piece false false 0) u) { stage = stage.Hints; last = None } in
    staged_low style u.stage word line u low
    ∙ to_piece style word line u refl refl refl
    ∙ ap (λ o. units.piece_or_mark style o word line u) (not_open u.last u.piece (codes "hints") left refl)
    ∙ ap (λ (t : Bool). cond t (pieces.at_end line next) (Err (at_fault left))) may
    ∙ ended_taken line next has
  where
    at_fault : ℕ → Stop
    at_fault n = Syntax n

-- the hints of a unit, which end it
pub hints_go : (style : Style) (c : CertSoFar) (kind : UnitKind) (entry whole : Bool) (writes : List NameId) (u : UnitSoFar) (n : ℕ) (cl : Closed)
    (hints : List Hint) (more : Lines) (q : CertSoFar) → rank u.stage < 4 → units.may_have_hints u.kind u.last ≡ true
    → record (units.placed_as u.last (pieces.no_piece false false 0) u) { stage = stage.Hints; last = None } ≡ hinted kind entry whole writes n cl []
    → Each IsHint hints
    → Goes style more (certs.unit_finished (inside c (record (hinted kind entry whole writes n cl hints) { stage = stage.Done }))) q
    → Goes style (hints_lines hints ++ more) (inside c u) q
hints_go style c kind entry whole writes u n cl hints more q low may ends each after =
    let at : List Hint → UnitSoFar = λ l. hinted kind entry whole writes n cl l in
    let end : Lines = (codes "end" ∷ []) ∷ [] in
    let last : Goes style (end ++ more) (inside c (at hints)) q =
    goes_line style (inside c (at hints)) (certs.unit_finished (inside c (record (at hints) { stage = stage.Done }))) q (codes "end") [] more
    (λ word line said has. then_go (units.unit_line style word line (at hints)) (record (at hints) { stage = stage.Done }) _ _
    (rw (word_taken (codes "end") word said) (ended_taken line (record (at hints) { stage = stage.Done }) has)) refl) after in
    unit_goes style c u (at []) q (codes "hints") [] ((map hint_items hints ++ end) ++ more) refl
    (λ word line said has. ap (λ (t : List ℕ). units.unit_line style (worded t word.left) line u) said ∙ hints_by style u word.left line low may has ∙ ap Ok ends)
    (subst (λ (l : Lines). Goes style l (inside c (at [])) q) (sym (append_assoc (map hint_items hints) end more))
    (each_go style c kind entry whole writes n cl hints [] (end ++ more) q each last))
