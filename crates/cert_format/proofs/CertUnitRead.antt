-- Each line of a unit that is read is spelled by what has been read after it, and that keeps the limits.
use Rattle.std.proofs.Common.{◌≡◌, ℕ, ◌+◌, ◌<◌, ◌≤◌, Bool, true, false, ◌&&◌, cond, nat_lt, nat_le, List, [], ◌∷◌, ◌++◌, map, Option, Some, None, Ok, codes, lit≤, refl, sym, ap, subst, ◌∙◌, arith}
use Rattle.std.proofs.lemmas.Bool.{and_parts}
use Rattle.std.proofs.lemmas.Bool.Decides.{nat_tests}
use Rattle.bv_base.specs.Answers.{then_do}
use Rattle.bv_base.proofs.ThenLemmas.{ok, ok_is, then_ok, unless_ok, where_ok}
use Rattle.name_table.specs.Sound.{Each}
use Rattle.name_table.specs.declared.names.Kind.{Kind}
use Rattle.name_table.specs.declared.names.NameId.{NameId}
use Rattle.name_table.specs.declared.style.Style.{Style}
use Rattle.sym_state.specs.declared.hint.Hint.{Hint}
use Rattle.sym_state.proofs.Consequences.{same_bytes}
use Rattle.cert_format.specs.CertText.{AreWrites, IsHint, IsPiece, IsVariable}
use Rattle.cert_format.specs.CondText.{is_below}
use Rattle.cert_format.specs.HintSpelling.{hint_items}
use Rattle.cert_format.specs.Hints.{hint_line}
use Rattle.cert_format.specs.Items.{among, is_above, is_word, last_of}
use Rattle.cert_format.specs.Lines.{Item, Line, with_item}
use Rattle.cert_format.specs.PieceItems.{variable_above}
use Rattle.cert_format.specs.PieceSpelling.{piece_lines}
use Rattle.cert_format.specs.Pieces as pieces
use Rattle.cert_format.specs.Spelling.{name_text}
use Rattle.cert_format.specs.UnitSpelling.{head_lines, word_lines, writes_items}
use Rattle.cert_format.specs.Units as units
use Rattle.cert_format.specs.declared.items.TheConstants.{MOST_NUMBER}
use Rattle.cert_format.specs.declared.piece_lines.PieceSoFar.{PieceSoFar}
use Rattle.cert_format.specs.declared.stages.Mark.{Mark}
use Rattle.cert_format.specs.declared.stages.Mark.TheVariants.{Pre, Post, Case, Exit, After, Visit, Keeps}
use Rattle.cert_format.specs.declared.stages.PieceWord.{PieceWord}
use Rattle.cert_format.specs.declared.stages.UnitKind.{UnitKind}
use Rattle.cert_format.specs.declared.stages.UnitKind.TheVariants as unit
use Rattle.cert_format.specs.declared.stages.UnitStage.{UnitStage}
use Rattle.cert_format.specs.declared.stages.UnitStage.TheVariants as stage
use Rattle.cert_format.specs.declared.stop.Stop.{Stop}
use Rattle.cert_format.specs.declared.unit_lines.UnitSoFar.{UnitSoFar}
use Rattle.cert_format.proofs.CertBodies.{bare_body, bare_good, bare_ready, close_good, count_more, front_behind, full_last, mark_body, new_front, piece_body, ready_next, start_small}
use Rattle.cert_format.proofs.CertHints.{hint_read}
use Rattle.cert_format.proofs.CertKept.{among_said, ended_read, last_read}
use Rattle.cert_format.proofs.CertNames.{variable_read}
use Rattle.cert_format.proofs.CertSteps.{Fits, Kept, in_back, piece_of, piece_read}
use Rattle.cert_format.proofs.CertUnits.{Bare, CountAt, Counted, Full, Good, Headless, Lines, Open, OpenAt, Ready, Shape, UnitKept, body_lines, closed, closed_of, first_items, hints_at, kept_of, mark_text, rank, tail_lines, unit_spelled, with_closed}
use Rattle.cert_format.proofs.CondKept.{chain_snoc, each_snoc}
use Rattle.cert_format.proofs.CondRead.{Has, item_before}
use Rattle.cert_format.proofs.CondSteps.{map_snoc}
use Rattle.cert_format.proofs.Split.{Ended, texts}

-- a line that is read is spelled behind those before it
pub record UnitStep (style : Style) (u : UnitSoFar) (line : Line) (v : UnitSoFar) : Type 0 where
  pub goes : unit_spelled style v ≡ unit_spelled style u ++ texts line ∷ []
  pub ends : Ended line
  pub kept : UnitKept style v
  pub kind : v.kind ≡ u.kind

unit_step : (style : Style) (u : UnitSoFar) (line : Line) (v next : UnitSoFar) (here : List (List ℕ)) → v ≡ next
    → unit_spelled style next ≡ unit_spelled style u ++ here ∷ [] → Has line here → UnitKept style next → next.kind ≡ u.kind → UnitStep style u line v
unit_step style u line v next here is goes has kept kind =
    let step : UnitStep style u line next =
    record {
      goes = goes ∙ ap (λ (i : List (List ℕ)). unit_spelled style u ++ i ∷ []) (sym has.items);
      ends = has.ends;
      kept = kept;
      kind = kind;
    } in
    subst (λ (r : UnitSoFar). UnitStep style u line r) (sym is) step

-- what holds of each stage before the hints
before_hints : (P : UnitStage → Type 0) → P stage.Entry → P stage.Whole → P stage.Writes → P stage.Pieces → (s : UnitStage) → rank s < 4 → P s
before_hints P entry whole writes at_pieces stage.Entry low = entry
before_hints P entry whole writes at_pieces stage.Whole low = whole
before_hints P entry whole writes at_pieces stage.Writes low = writes
before_hints P entry whole writes at_pieces stage.Pieces low = at_pieces
before_hints P entry whole writes at_pieces stage.Hints low = absurd (omega (arith, low))
before_hints P entry whole writes at_pieces stage.Done low = absurd (omega (arith, low))

-- no piece has come before the stage of pieces
shape_bare : (s : UnitStage) (last : Option Mark) (kind : UnitKind) (u : UnitSoFar) → rank s < 4 → last ≡ None → Shape s last kind u → Bare kind u
shape_bare s last kind u low none shape =
    before_hints (λ t. Shape t None kind u → Bare kind u) (λ h. h) (λ h. h) (λ h. h) (λ h. h) s low (subst (λ (l : Option Mark). Shape s l kind u) none shape)

no_hint_lines : (s : UnitStage) (hints : List Hint) → rank s < 4 → hints_at s hints ≡ []
no_hint_lines s hints low = before_hints (λ t. hints_at t hints ≡ []) refl refl refl refl s low

-- nothing is spelled behind the head before the stage of pieces
tail_none : (style : Style) (u : UnitSoFar) → rank u.stage < 3 → u.last ≡ None → Bare u.kind u → tail_lines style u ≡ []
tail_none style u low none bare =
    ap (λ (l : Option Mark). body_lines style.names u.kind (units.placed_as l u.piece u) ++ hints_at u.stage u.hints) none
    ∙ ap (λ (b : Lines). b ++ hints_at u.stage u.hints) (bare_body style.names u.kind u bare)
    ∙ no_hint_lines u.stage u.hints (omega (arith, low))

-- one more line of the head
head_step : (first : List (List ℕ)) (head more tail after : Lines) (x : List (List ℕ)) → more ≡ head ++ x ∷ [] → tail ≡ [] → after ≡ []
    → first ∷ (more ++ after) ≡ (first ∷ (head ++ tail)) ++ x ∷ []
head_step first head more tail after x e none also =
    ap (λ (l : Lines). first ∷ (more ++ l)) also
    ∙ ap (λ (l : Lines). first ∷ (l ++ [])) e
    ∙ ap (λ (l : Lines). first ∷ l) (append_nil (head ++ x ∷ []) ∙ ap (λ (l : Lines). l ++ x ∷ []) (sym (append_nil head)))
    ∙ ap (λ (l : Lines). first ∷ ((head ++ l) ++ x ∷ [])) (sym none)
  where
    append_nil : (l : Lines) → l ++ [] ≡ l
    append_nil [] = refl
    append_nil (y ∷ l) = ap (λ (r : Lines). y ∷ r) (append_nil l)

low_rank : (s t : UnitStage) → s ≡ t → rank s ≡ rank t
low_rank s t e = ap rank e

open_none : (style : Style) (last : Option Mark) (u : UnitSoFar) → last ≡ None → OpenAt style last u
open_none style last u none = subst (λ (l : Option Mark). OpenAt style l u) (sym none) tt

-- a unit with a head is no command
with_head : (kind : UnitKind) (s t : UnitStage) (entry whole other also : Bool) (writes more : List NameId) → rank s < 3
    → Headless kind s entry whole writes → Headless kind t other also more
with_head (unit.Summary entered) s t entry whole other also writes more low h = tt
with_head (unit.Loop test repeated) s t entry whole other also writes more low h = tt
with_head (unit.Command index) s t entry whole other also writes more low h = absurd (omega (arith, low, h.0))

still_headless : (kind : UnitKind) (s t : UnitStage) (entry whole : Bool) (writes : List NameId) → 3 ≤ rank t → Headless kind s entry whole writes
    → Headless kind t entry whole writes
still_headless (unit.Summary entered) s t entry whole writes late h = tt
still_headless (unit.Loop test repeated) s t entry whole writes late h = tt
still_headless (unit.Command index) s t entry whole writes late h = (late, h.1, h.2, h.3)

-- `entry`
entry_step : (style : Style) (u : UnitSoFar) (word : Item) (rest line : Line) (v : UnitSoFar) → line ≡ with_item word rest → UnitKept style u
    → u.stage ≡ stage.Entry → word.text ≡ codes "entry" → pieces.at_end rest (record u { stage = stage.Whole; entry = true }) ≡ Ok v
    → UnitStep style u line v
entry_step style u word rest line v is kept at said e =
    let names = style.names in
    let low = low_rank u.stage stage.Entry at in
    let next : UnitSoFar = record u { stage = stage.Whole; entry = true } in
    let r = ended_read rest next v e in
    let none = kept.no_piece (omega (arith, low)) in
    let bare = shape_bare u.stage u.last u.kind u (omega (arith, low)) none kept.shape in
    let no_entry = kept.no_entry (omega (arith, low)) in
    let no_whole = kept.no_whole (omega (arith, low)) in
    let no_writes = kept.no_writes (omega (arith, low)) in
    let x : List (List ℕ) = codes "entry" ∷ [] in
    let behind = word_lines (codes "whole") u.whole ++ map (writes_items names) u.writes in
    let nothing : behind ≡ [] =
    ap (λ (b : Bool). word_lines (codes "whole") b ++ map (writes_items names) u.writes) no_whole ∙ ap (λ (l : List NameId). map (writes_items names) l) no_writes in
    let head : head_lines names true u.whole u.writes ≡ head_lines names u.entry u.whole u.writes ++ x ∷ [] =
    new_front (word_lines (codes "entry") u.entry) (word_lines (codes "entry") true) behind x (ap (word_lines (codes "entry")) no_entry) refl nothing in
    let good =
    kept_of style next (λ h. absurd (omega (arith, h))) (λ h. no_whole) (λ h. no_writes) (λ h. none) (λ h. kept.no_hints (omega (arith, low)))
    (subst (λ (l : List NameId). AreWrites true names l) (sym no_writes) (tt, refl))
    (subst (λ (l : Option Mark). Shape stage.Whole l u.kind next) (sym none) bare) (bare_good style u.kind true next bare)
    (open_none style u.last next none) kept.count kept.few kept.hints
    (with_head u.kind u.stage stage.Whole u.entry u.whole true u.whole u.writes u.writes (omega (arith, low)) kept.headless) in
    unit_step style u line v next x r.0
    (head_step (first_items style u.kind) (head_lines names u.entry u.whole u.writes) (head_lines names true u.whole u.writes) (tail_lines style u)
    (tail_lines style next) x head (tail_none style u (omega (arith, low)) none bare) (tail_none style next (lit≤ tt) none bare))
    (item_before line word rest (codes "entry") [] is said r.1) good refl

-- `whole`
whole_step : (style : Style) (u : UnitSoFar) (word : Item) (rest line : Line) (v : UnitSoFar) → line ≡ with_item word rest → UnitKept style u
    → rank u.stage < 2 → word.text ≡ codes "whole" → pieces.at_end rest (record u { stage = stage.Writes; whole = true }) ≡ Ok v
    → UnitStep style u line v
whole_step style u word rest line v is kept low said e =
    let names = style.names in
    let next : UnitSoFar = record u { stage = stage.Writes; whole = true } in
    let r = ended_read rest next v e in
    let none = kept.no_piece (omega (arith, low)) in
    let bare = shape_bare u.stage u.last u.kind u (omega (arith, low)) none kept.shape in
    let no_whole = kept.no_whole low in
    let no_writes = kept.no_writes low in
    let x : List (List ℕ) = codes "whole" ∷ [] in
    let writes = map (writes_items names) u.writes in
    let head : head_lines names u.entry true u.writes ≡ head_lines names u.entry u.whole u.writes ++ x ∷ [] =
    in_back (word_lines (codes "entry") u.entry) (word_lines (codes "whole") u.whole ++ writes) (word_lines (codes "whole") true ++ writes) x
    (new_front (word_lines (codes "whole") u.whole) (word_lines (codes "whole") true) writes x (ap (word_lines (codes "whole")) no_whole) refl
    (ap (λ (l : List NameId). map (writes_items names) l) no_writes)) in
    let good =
    kept_of style next (λ h. absurd (omega (arith, h))) (λ h. absurd (omega (arith, h))) (λ h. absurd (omega (arith, h))) (λ h. none)
    (λ h. kept.no_hints (omega (arith, low))) kept.writes (subst (λ (l : Option Mark). Shape stage.Writes l u.kind next) (sym none) bare) kept.good
    (open_none style u.last next none) kept.count kept.few kept.hints
    (with_head u.kind u.stage stage.Writes u.entry u.whole u.entry true u.writes u.writes (omega (arith, low)) kept.headless) in
    unit_step style u line v next x r.0
    (head_step (first_items style u.kind) (head_lines names u.entry u.whole u.writes) (head_lines names u.entry true u.writes) (tail_lines style u)
    (tail_lines style next) x head (tail_none style u (omega (arith, low)) none bare) (tail_none style next (lit≤ tt) none bare))
    (item_before line word rest (codes "whole") [] is said r.1) good refl

-- `writes` V
writes_step : (style : Style) (u : UnitSoFar) (word : Item) (rest line : Line) (v : UnitSoFar) → line ≡ with_item word rest → UnitKept style u
    → rank u.stage < 3 → word.text ≡ codes "writes" → units.writes_line style.names rest u ≡ Ok v → UnitStep style u line v
writes_step style u word rest line v is kept low said e =
    let names = style.names in
    let make : NameId → UnitSoFar = λ id. record u { stage = stage.Writes; writes = u.writes ++ id ∷ [] } in
    let l = last_read (variable_above u.entry (last_of u.writes) names) make rest v e in
    let w = variable_read u.entry (last_of u.writes) names l.item l.value l.got in
    let id : NameId = l.value in
    let next : UnitSoFar = make id in
    let none = kept.no_piece (omega (arith, low)) in
    let bare = shape_bare u.stage u.last u.kind u (omega (arith, low)) none kept.shape in
    let x : List (List ℕ) = writes_items names id in
    let whole = word_lines (codes "whole") u.whole in
    let head : head_lines names u.entry u.whole next.writes ≡ head_lines names u.entry u.whole u.writes ++ x ∷ [] =
    in_back (word_lines (codes "entry") u.entry) (whole ++ map (writes_items names) u.writes) (whole ++ map (writes_items names) next.writes) x
    (in_back whole (map (writes_items names) u.writes) (map (writes_items names) next.writes) x (map_snoc (writes_items names) u.writes id)) in
    let good =
    kept_of style next (λ h. absurd (omega (arith, h))) (λ h. absurd (omega (arith, h))) (λ h. absurd (omega (arith, h))) (λ h. none)
    (λ h. kept.no_hints (omega (arith, low)))
    (each_snoc (IsVariable u.entry names) u.writes id kept.writes.0 w.is, chain_snoc is_below is_above (λ a b f. f) u.writes id kept.writes.1 w.above)
    (subst (λ (m : Option Mark). Shape stage.Writes m u.kind next) (sym none) bare) kept.good (open_none style u.last next none) kept.count kept.few
    kept.hints (with_head u.kind u.stage stage.Writes u.entry u.whole u.entry u.whole u.writes next.writes low kept.headless) in
    unit_step style u line v next x l.is
    (head_step (first_items style u.kind) (head_lines names u.entry u.whole u.writes) (head_lines names u.entry u.whole next.writes) (tail_lines style u)
    (tail_lines style next) x head (tail_none style u (omega (arith, low)) none bare) (tail_none style next (lit≤ tt) none bare))
    (item_before line word rest (codes "writes") (name_text names id ∷ []) is said (l.has (name_text names id) w.said)) good refl

-- one more line behind the head
tail_step : (first : List (List ℕ)) (head tail after : Lines) (x : List (List ℕ)) → after ≡ tail ++ x ∷ []
    → first ∷ (head ++ after) ≡ (first ∷ (head ++ tail)) ++ x ∷ []
tail_step first head tail after x e = ap (λ (l : Lines). first ∷ l) (in_back head tail after x e)

-- a unit with another open piece
abbrev with_piece : PieceSoFar → UnitSoFar → UnitSoFar
with_piece q u = record u { piece = q }

-- a line of the open piece
line_step : (style : Style) (u : UnitSoFar) (mark : Mark) (kind : PieceWord) (word : Item) (rest line : Line) (v : UnitSoFar) → line ≡ with_item word rest
    → UnitKept style u → u.last ≡ Some mark → u.stage ≡ stage.Pieces → pieces.piece_word u.piece.stage word.text ≡ Some kind
    → then_do (pieces.piece_line style kind word rest u.piece) (λ piece. ok {E = Stop} (with_piece piece u)) ≡ Ok v → UnitStep style u line v
line_step style u mark kind word rest line v is kept some at due e =
    let names = style.names in
    let a = then_ok (pieces.piece_line style kind word rest u.piece) _ _ e in
    let q : PieceSoFar = a.0 in
    let next : UnitSoFar = with_piece q u in
    let low = low_rank u.stage stage.Pieces at in
    let o : Open style mark u = subst (λ (l : Option Mark). OpenAt style l u) some kept.open_piece in
    let start = units.first_symbol mark u.symbols in
    let s = piece_read style start kind u.piece word rest line q is o.kept o.fits due a.1 in
    let ready : Ready u.kind mark u =
    subst (λ (l : Option Mark). Shape stage.Pieces l u.kind u) some (subst (λ (t : UnitStage). Shape t u.last u.kind u) at kept.shape) in
    let x = texts line in
    let body : body_lines names u.kind (units.placed_as (Some mark) q next) ≡ body_lines names u.kind (units.placed_as (Some mark) u.piece u) ++ x ∷ [] =
    piece_body names u.kind mark u q x ready s.goes in
    let placed : body_lines names u.kind (closed next) ≡ body_lines names u.kind (closed u) ++ x ∷ [] =
    ap (λ (l : Option Mark). body_lines names u.kind (units.placed_as l q next)) some ∙ body
    ∙ ap (λ (l : Option Mark). body_lines names u.kind (units.placed_as l u.piece u) ++ x ∷ []) (sym some) in
    let opened : Open style mark next = record { kept = s.kept; fits = s.fits; entry = s.entry ∙ o.entry; pos = s.pos ∙ o.pos } in
    let good =
    kept_of style next (λ h. absurd (omega (arith, h, low))) (λ h. absurd (omega (arith, h, low))) (λ h. absurd (omega (arith, h, low)))
    (λ h. absurd (omega (arith, h, low))) (λ h. kept.no_hints h) kept.writes kept.shape kept.good
    (subst (λ (l : Option Mark). OpenAt style l next) (sym some) opened) kept.count kept.few kept.hints kept.headless in
    unit_step style u line v next x (ok_is next v a.2)
    (tail_step (first_items style u.kind) (head_lines names u.entry u.whole u.writes) (tail_lines style u) (tail_lines style next) x
    (front_behind (body_lines names u.kind (closed u)) (body_lines names u.kind (closed next)) (hints_at u.stage u.hints) x placed
    (no_hint_lines u.stage u.hints (omega (arith, low)))))
    (record { items = refl; ends = s.ends }) good refl

-- what a unit is with its pieces closed
record AllClosed (style : Style) (u : UnitSoFar) (last : Option Mark) (v : UnitSoFar) : Type 0 where
  pub good : Good style u.kind u.entry v
  pub count : Counted u.kind u.count v

-- a piece is open before the hints
ready_of : (kind : UnitKind) (u : UnitSoFar) (s : UnitStage) (mark : Mark) → rank s < 4 → Shape s (Some mark) kind u → Ready kind mark u
ready_of kind u s mark low shape =
    before_hints (λ t. Shape t (Some mark) kind u → Ready kind mark u) (λ h. h) (λ h. h) (λ h. h) (λ h. h) s low shape

-- the pieces that have been read are closed
closed_kept : (style : Style) (u : UnitSoFar) (next : PieceSoFar) (last : Option Mark) → rank u.stage < 4 → UnitKept style u → u.last ≡ last
    → AllClosed style u last (units.placed_as last next u)
closed_kept style u next None low kept some =
    record { good = kept.good; count = subst (λ (l : Option Mark). CountAt l u.kind u.count u) some kept.count }
closed_kept style u next (Some mark) low kept some =
    let o : Open style mark u = subst (λ (l : Option Mark). OpenAt style l u) some kept.open_piece in
    let start = units.first_symbol mark u.symbols in
    let ready : Ready u.kind mark u = ready_of u.kind u u.stage mark low (subst (λ (l : Option Mark). Shape u.stage l u.kind u) some kept.shape) in
    let count : CountAt (Some mark) u.kind u.count u = subst (λ (l : Option Mark). CountAt l u.kind u.count u) some kept.count in
    let here : IsPiece style (units.is_at_entry u.kind u.entry) u.piece.has_pos start u.piece.piece =
    subst (λ (b : Bool). IsPiece style b u.piece.has_pos start u.piece.piece) o.entry o.kept.is in
    let is : IsPiece style (units.is_at_entry u.kind u.entry) (units.may_have_pos u.kind u.entry mark) start u.piece.piece =
    subst (λ (b : Bool). IsPiece style (units.is_at_entry u.kind u.entry) b start u.piece.piece) o.pos here in
    record {
      good = close_good style u.kind mark u next ready kept.good is o.kept.next;
      count = subst (λ (n : ℕ). Counted u.kind n (units.placed_as (Some mark) next u)) (sym count.1) (count_more u.kind mark u next count.0 ready count.2);
    }

-- a piece may be opened behind what has been read
next_ready : (style : Style) (u : UnitSoFar) (next : PieceSoFar) (last : Option Mark) (mark : Mark) → rank u.stage < 4 → UnitKept style u → u.last ≡ last
    → units.may_follow u.kind last mark ≡ true → Ready u.kind mark (units.placed_as last next u)
next_ready style u next None mark low kept some follows =
    bare_ready u.kind mark (record u { piece = next }) (shape_bare u.stage u.last u.kind u low some kept.shape) follows
next_ready style u next (Some last) mark low kept some follows =
    ready_next u.kind last mark u next (ready_of u.kind u u.stage last low (subst (λ (l : Option Mark). Shape u.stage l u.kind u) some kept.shape)) follows

-- what a piece is before its first line
empty_kept : (style : Style) (at_entry has_pos : Bool) (start : ℕ) → start ≤ MOST_NUMBER → Kept style start (pieces.no_piece at_entry has_pos start)
empty_kept style at_entry has_pos start small =
    record {
      is = piece_of style at_entry has_pos start (pieces.no_piece at_entry has_pos start).piece refl (lit≤ tt) tt refl tt refl tt (lit≤ tt) tt (lit≤ tt);
      next = refl;
      small = small;
    }

empty_fits : (n : ℕ) (at_entry has_pos : Bool) (start : ℕ) → Fits n (pieces.no_piece at_entry has_pos start).piece
empty_fits n at_entry has_pos start =
    record { stack = λ h. refl; vars = λ h. refl; fields = λ h. refl; facts = λ h. refl; rows = λ h. refl }

-- a unit with the closed pieces of another one, and another open piece
abbrev put_in : UnitSoFar → PieceSoFar → UnitSoFar → UnitSoFar
put_in w next u = with_closed (closed_of w) (record u { piece = next })

-- what holds of no mark and of each mark
by_last : (P : Option Mark → Type 0) → P None → P (Some Pre) → P (Some Post) → P (Some Case) → P (Some Exit) → P (Some After) → P (Some Visit)
    → P (Some Keeps) → (last : Option Mark) → P last
by_last P none pre post case exit after visit keeps None = none
by_last P none pre post case exit after visit keeps (Some mark) =
    elim mark as (λ m. P (Some m)) [ Pre ↦ pre | Post ↦ post | Case ↦ case | Exit ↦ exit | After ↦ after | Visit ↦ visit | Keeps ↦ keeps ]

-- closing a piece changes nothing else
same_but : (last : Option Mark) (next : PieceSoFar) (u : UnitSoFar) → units.placed_as last next u ≡ put_in (units.placed_as last next u) next u
same_but last next u = by_last (λ l. units.placed_as l next u ≡ put_in (units.placed_as l next u) next u) refl refl refl refl refl refl refl refl last

symbols_placed : (last : Option Mark) (next : PieceSoFar) (u : UnitSoFar) → (units.placed_as last next u).symbols ≡ units.symbols_of last u
symbols_placed last next u = by_last (λ l. (units.placed_as l next u).symbols ≡ units.symbols_of l u) refl refl refl refl refl refl refl refl last

same_body : (names : List (List ℕ × Kind)) (kind : UnitKind) (last : Option Mark) (next : PieceSoFar) (u : UnitSoFar)
    → body_lines names kind (units.placed_as last u.piece u) ≡ body_lines names kind (units.placed_as last next u)
same_body names kind last next u =
    by_last (λ l. body_lines names kind (units.placed_as l u.piece u) ≡ body_lines names kind (units.placed_as l next u)) refl refl refl refl refl refl refl refl last

nil_end : (l : Lines) → l ++ [] ≡ l
nil_end [] = refl
nil_end (y ∷ l) = ap (λ (r : Lines). y ∷ r) (nil_end l)

-- a unit whose pieces are closed
record Settled (style : Style) (u w : UnitSoFar) : Type 0 where
  pub writes : AreWrites w.entry style.names w.writes
  pub hints : w.hints ≡ []
  pub good : Good style w.kind w.entry w
  pub count : Counted w.kind w.count w
  pub few : w.count ≡ u.count
  pub headless : Headless w.kind u.stage w.entry w.whole w.writes
  pub spelled : unit_spelled style u ≡ first_items style w.kind ∷ (head_lines style.names w.entry w.whole w.writes ++ body_lines style.names w.kind w)

spelled_at : (style : Style) (u : UnitSoFar) (next : PieceSoFar) (last : Option Mark) → rank u.stage < 4 → u.last ≡ last
    → unit_spelled style u ≡ first_items style u.kind ∷ (head_lines style.names u.entry u.whole u.writes ++ body_lines style.names u.kind (units.placed_as last next u))
spelled_at style u next last low some =
    let names = style.names in
    let front : Lines → Lines = λ l. first_items style u.kind ∷ (head_lines names u.entry u.whole u.writes ++ l) in
    ap front
    (ap (λ (h : Lines). body_lines names u.kind (closed u) ++ h) (no_hint_lines u.stage u.hints low)
    ∙ nil_end (body_lines names u.kind (closed u))
    ∙ ap (λ (l : Option Mark). body_lines names u.kind (units.placed_as l u.piece u)) some
    ∙ same_body names u.kind last next u)

settled : (style : Style) (u : UnitSoFar) (next : PieceSoFar) (last : Option Mark) → rank u.stage < 4 → UnitKept style u → u.last ≡ last
    → Settled style u (units.placed_as last next u)
settled style u next last low kept some =
    let c = closed_kept style u next last low kept some in
    let v = put_in (units.placed_as last next u) next u in
    let closed_all : Settled style u v =
    record {
      writes = kept.writes;
      hints = kept.no_hints low;
      good = c.good;
      count = c.count;
      few = refl;
      headless = kept.headless;
      spelled = spelled_at style u next last low some;
    } in
    subst (λ (w : UnitSoFar). Settled style u w) (sym (same_but last next u)) closed_all

under : (most n : ℕ) → nat_le most n ≡ false → n < most
under most n e = grind (arith, nat_tests)

-- a word before a piece
mark_step : (style : Style) (u : UnitSoFar) (mark : Mark) (word : Item) (rest line : Line) (v : UnitSoFar) → line ≡ with_item word rest
    → UnitKept style u → rank u.stage < 4 → word.text ≡ mark_text mark → units.may_follow u.kind u.last mark ≡ true
    → units.mark_line mark word rest u ≡ Ok v → UnitStep style u line v
mark_step style u mark word rest line v is kept low said follows e =
    let names = style.names in
    let entry = units.is_at_entry u.kind u.entry in
    let pos = units.may_have_pos u.kind u.entry mark in
    let start = units.first_symbol mark (units.symbols_of u.last u) in
    let fresh : PieceSoFar = pieces.no_piece entry pos start in
    let w : UnitSoFar = units.placed_as u.last fresh u in
    let next : UnitSoFar = record w { stage = stage.Pieces; last = Some mark; count = u.count + 1 } in
    let room = unless_ok (nat_le 64 u.count) _ _ _ e in
    let r = ended_read rest next v room.1 in
    let s = settled style u fresh u.last low kept refl in
    let kind = ap (λ (x : UnitSoFar). x.kind) (same_but u.last fresh u) in
    let ready : Ready w.kind mark w = subst (λ (k : UnitKind). Ready k mark w) (sym kind) (next_ready style u fresh u.last mark low kept refl follows) in
    let piece : w.piece ≡ fresh = ap (λ (x : UnitSoFar). x.piece) (same_but u.last fresh u) in
    let symbols : units.first_symbol mark w.symbols ≡ start = ap (units.first_symbol mark) (symbols_placed u.last fresh u) in
    let small : start ≤ MOST_NUMBER = subst (λ (n : ℕ). n ≤ MOST_NUMBER) symbols (start_small style w.kind mark w ready s.good) in
    let first : Kept style (units.first_symbol mark w.symbols) w.piece =
    subst (λ (n : ℕ). Kept style n w.piece) (sym symbols) (subst (λ (p : PieceSoFar). Kept style start p) (sym piece) (empty_kept style entry pos start small)) in
    let same_flag = ap (λ (x : UnitSoFar). x.entry) (same_but u.last fresh u) in
    let opened : Open style mark next =
    record {
      kept = first;
      fits = subst (λ (p : PieceSoFar). Fits (pieces.stage_rank p.stage) p.piece) (sym piece) (empty_fits (pieces.stage_rank fresh.stage) entry pos start);
      entry = ap (λ (p : PieceSoFar). p.at_entry) piece ∙ ap (λ (k : UnitKind). units.is_at_entry k u.entry) (sym kind) ∙ ap (units.is_at_entry w.kind) (sym same_flag);
      pos = ap (λ (p : PieceSoFar). p.has_pos) piece ∙ ap (λ (k : UnitKind). units.may_have_pos k u.entry mark) (sym kind)
          ∙ ap (λ (b : Bool). units.may_have_pos w.kind b mark) (sym same_flag);
    } in
    let lines_none : piece_lines names w.piece.piece ≡ [] = ap (λ (p : PieceSoFar). piece_lines names p.piece) piece in
    let x : List (List ℕ) = mark_text mark ∷ [] in
    let body : body_lines names w.kind (closed next) ≡ body_lines names w.kind w ++ x ∷ [] = mark_body names w.kind mark next ready lines_none in
    let good =
    kept_of style next (λ h. absurd (omega (arith, h))) (λ h. absurd (omega (arith, h))) (λ h. absurd (omega (arith, h)))
    (λ h. absurd (omega (arith, h))) (λ h. s.hints) s.writes ready s.good opened (u.count, refl, subst (λ (n : ℕ). Counted w.kind n w) s.few s.count)
    (omega (arith, under 64 u.count room.0)) (subst (λ (l : List Hint). Each IsHint l) (sym s.hints) tt)
    (still_headless w.kind u.stage stage.Pieces w.entry w.whole w.writes (lit≤ tt) s.headless) in
    unit_step style u line v next x r.0
    (ap (λ (l : Lines). first_items style w.kind ∷ (head_lines names w.entry w.whole w.writes ++ l)) (nil_end (body_lines names w.kind (closed next)) ∙ body)
    ∙ tail_step (first_items style w.kind) (head_lines names w.entry w.whole w.writes) (body_lines names w.kind w) (body_lines names w.kind w ++ x ∷ []) x refl
    ∙ ap (λ (l : Lines). l ++ x ∷ []) (sym s.spelled))
    (item_before line word rest (mark_text mark) [] is said r.1) good kind

-- `hints`
hints_step : (style : Style) (u : UnitSoFar) (word : Item) (rest line : Line) (v : UnitSoFar) → line ≡ with_item word rest → UnitKept style u
    → rank u.stage < 4 → units.hints_line word rest u ≡ Ok v → UnitStep style u line v
hints_step style u word rest line v is kept low e =
    let names = style.names in
    let fresh : PieceSoFar = pieces.no_piece false false 0 in
    let w : UnitSoFar = units.placed_as u.last fresh u in
    let next : UnitSoFar = record w { stage = stage.Hints; last = None } in
    let a = where_ok (is_word (codes "hints") word && units.may_have_hints u.kind u.last) _ _ _ e in
    let both = and_parts (is_word (codes "hints") word) (units.may_have_hints u.kind u.last) a.0 in
    let r = ended_read rest next v a.1 in
    let s = settled style u fresh u.last low kept refl in
    let kind = ap (λ (x : UnitSoFar). x.kind) (same_but u.last fresh u) in
    let whole : Full w.kind w = subst (λ (k : UnitKind). Full k w) (sym kind) (full_at u.last refl both.1) in
    let x : List (List ℕ) = codes "hints" ∷ [] in
    let none : hints_at stage.Hints w.hints ≡ x ∷ [] = ap (λ (l : List Hint). x ∷ map hint_items l) s.hints in
    let good =
    kept_of style next (λ h. absurd (omega (arith, h))) (λ h. absurd (omega (arith, h))) (λ h. absurd (omega (arith, h))) (λ h. refl)
    (λ h. absurd (omega (arith, h))) s.writes (whole, refl) s.good tt s.count (subst (λ (n : ℕ). n ≤ 64) (sym s.few) kept.few)
    (subst (λ (l : List Hint). Each IsHint l) (sym s.hints) tt)
    (still_headless w.kind u.stage stage.Hints w.entry w.whole w.writes (lit≤ tt) s.headless) in
    unit_step style u line v next x r.0
    (ap (λ (l : Lines). first_items style w.kind ∷ (head_lines names w.entry w.whole w.writes ++ (body_lines names w.kind w ++ l))) none
    ∙ tail_step (first_items style w.kind) (head_lines names w.entry w.whole w.writes) (body_lines names w.kind w) (body_lines names w.kind w ++ x ∷ []) x refl
    ∙ ap (λ (l : Lines). l ++ x ∷ []) (sym s.spelled))
    (item_before line word rest (codes "hints") [] is (same_bytes word.text (codes "hints") both.0) r.1) good kind
  where
    full_none : (k : UnitKind) → units.may_have_hints k None ≡ true → Full k (units.placed_as None (pieces.no_piece false false 0) u)
    full_none (unit.Summary entered) f = absurd (cc)
    full_none (unit.Loop test repeated) f = absurd (cc)
    full_none (unit.Command index) f = tt

    full_at : (last : Option Mark) → u.last ≡ last → units.may_have_hints u.kind last ≡ true
        → Full u.kind (units.placed_as last (pieces.no_piece false false 0) u)
    full_at None some f = full_none u.kind f
    full_at (Some mark) some f =
        full_last u.kind mark u (pieces.no_piece false false 0)
        (ready_of u.kind u u.stage mark low (subst (λ (l : Option Mark). Shape u.stage l u.kind u) some kept.shape))

-- a hint
hint_step : (style : Style) (u : UnitSoFar) (word : Item) (rest line : Line) (v : UnitSoFar) → line ≡ with_item word rest → UnitKept style u
    → u.stage ≡ stage.Hints → then_do (hint_line word rest) (λ hint. ok {E = Stop} (record u { hints = u.hints ++ hint ∷ [] })) ≡ Ok v
    → UnitStep style u line v
hint_step style u word rest line v is kept at e =
    let names = style.names in
    let low = low_rank u.stage stage.Hints at in
    let a = then_ok (hint_line word rest) _ _ e in
    let h = hint_read word rest line a.0 is a.1 in
    let next : UnitSoFar = record u { hints = u.hints ++ a.0 ∷ [] } in
    let x = hint_items a.0 in
    let shape : Full u.kind u × (u.last ≡ None) = subst (λ (t : UnitStage). Shape t u.last u.kind u) at kept.shape in
    let body : (n : UnitSoFar) → n.last ≡ None → body_lines names n.kind (closed n) ≡ body_lines names n.kind n =
    λ n none. ap (λ (l : Option Mark). body_lines names n.kind (units.placed_as l n.piece n)) none in
    let hints : hints_at u.stage next.hints ≡ hints_at u.stage u.hints ++ x ∷ [] =
    ap (λ (t : UnitStage). hints_at t next.hints) at
    ∙ ap (λ (l : Lines). (codes "hints" ∷ []) ∷ l) (map_snoc hint_items u.hints a.0)
    ∙ ap (λ (t : UnitStage). hints_at t u.hints ++ x ∷ []) (sym at) in
    let good =
    kept_of style next (λ g. absurd (omega (arith, g, low))) (λ g. absurd (omega (arith, g, low))) (λ g. absurd (omega (arith, g, low)))
    (λ g. absurd (omega (arith, g, low))) (λ g. absurd (omega (arith, g, low))) kept.writes kept.shape kept.good (open_none style u.last next shape.1)
    kept.count kept.few (each_snoc IsHint u.hints a.0 kept.hints h.1) kept.headless in
    let tail : tail_lines style next ≡ tail_lines style u ++ x ∷ [] =
    ap (λ (b : Lines). b ++ hints_at u.stage next.hints) (body next shape.1 ∙ sym (body u shape.1))
    ∙ in_back (body_lines names u.kind (closed u)) (hints_at u.stage u.hints) (hints_at u.stage next.hints) x hints in
    unit_step style u line v next x (ok_is next v a.2)
    (tail_step (first_items style u.kind) (head_lines names u.entry u.whole u.writes) (tail_lines style u) (tail_lines style next) x tail) h.0 good refl

-- `end`
end_step : (style : Style) (u : UnitSoFar) (word : Item) (rest line : Line) (v : UnitSoFar) → line ≡ with_item word rest → UnitKept style u
    → u.stage ≡ stage.Hints → word.text ≡ codes "end" → pieces.at_end rest (record u { stage = stage.Done }) ≡ Ok v → UnitStep style u line v
end_step style u word rest line v is kept at said e =
    let names = style.names in
    let low = low_rank u.stage stage.Hints at in
    let next : UnitSoFar = record u { stage = stage.Done } in
    let r = ended_read rest next v e in
    let x : List (List ℕ) = codes "end" ∷ [] in
    let shape : Full u.kind u × (u.last ≡ None) = subst (λ (t : UnitStage). Shape t u.last u.kind u) at kept.shape in
    let body : (n : UnitSoFar) → n.last ≡ None → body_lines names n.kind (closed n) ≡ body_lines names n.kind n =
    λ n none. ap (λ (l : Option Mark). body_lines names n.kind (units.placed_as l n.piece n)) none in
    let good =
    kept_of style next (λ g. absurd (omega (arith, g))) (λ g. absurd (omega (arith, g))) (λ g. absurd (omega (arith, g)))
    (λ g. absurd (omega (arith, g))) (λ g. absurd (omega (arith, g))) kept.writes shape kept.good (open_none style u.last next shape.1) kept.count
    kept.few kept.hints (still_headless u.kind u.stage stage.Done u.entry u.whole u.writes (lit≤ tt) kept.headless) in
    let tail : tail_lines style next ≡ tail_lines style u ++ x ∷ [] =
    ap (λ (b : Lines). b ++ hints_at stage.Done u.hints) (body next shape.1 ∙ sym (body u shape.1))
    ∙ in_back (body_lines names u.kind (closed u)) (hints_at stage.Hints u.hints) (hints_at stage.Done u.hints) x refl
    ∙ ap (λ (t : UnitStage). (body_lines names u.kind (closed u) ++ hints_at t u.hints) ++ x ∷ []) (sym at) in
    unit_step style u line v next x r.0
    (tail_step (first_items style u.kind) (head_lines names u.entry u.whole u.writes) (tail_lines style u) (tail_lines style next) x tail)
    (item_before line word rest (codes "end") [] is said r.1) good refl

-- the words before pieces
mark_said : (text : List ℕ) (k : Mark) → among text units.mark_words ≡ Some k → text ≡ mark_text k
mark_said text k = among_said mark_text text units.mark_words k refl

-- a word before a piece, or `hints`
marked_step : (style : Style) (u : UnitSoFar) (word : Item) (rest line : Line) (v : UnitSoFar) (o : Option Mark) → line ≡ with_item word rest
    → UnitKept style u → rank u.stage < 4 → among word.text units.mark_words ≡ o → units.marked_line o word rest u ≡ Ok v → UnitStep style u line v
marked_step style u word rest line v None is kept low said e = hints_step style u word rest line v is kept low e
marked_step style u word rest line v (Some mark) is kept low said e =
    let a = where_ok (units.may_follow u.kind u.last mark) _ _ _ e in
    mark_step style u mark word rest line v is kept low (mark_said word.text mark said) a.0 a.1

-- a line of the open piece, or one that ends it
piece_step_at : (style : Style) (u : UnitSoFar) (word : Item) (rest line : Line) (v : UnitSoFar) (last : Option Mark) (o : Option PieceWord)
    → line ≡ with_item word rest → UnitKept style u → rank u.stage < 4 → u.last ≡ last → units.open_word last u.piece word ≡ o
    → units.piece_or_mark style o word rest u ≡ Ok v → UnitStep style u line v
piece_step_at style u word rest line v last None is kept low some open_at e =
    marked_step style u word rest line v (among word.text units.mark_words) is kept low refl e
piece_step_at style u word rest line v None (Some kind) is kept low some open_at e = absurd (cc)
piece_step_at style u word rest line v (Some mark) (Some kind) is kept low some open_at e =
    line_step style u mark kind word rest line v is kept some
    (before_hints (λ t. u.stage ≡ t → t ≡ stage.Pieces) (early stage.Entry (lit≤ tt)) (early stage.Whole (lit≤ tt)) (early stage.Writes (lit≤ tt)) (λ at. refl)
    u.stage low refl) open_at e
  where
    none_some : None ≡ Some mark → ⊥
    none_some e = absurd (cc)

    early : (t : UnitStage) → rank t < 3 → u.stage ≡ t → t ≡ stage.Pieces
    early t less at = absurd (none_some (sym (kept.no_piece (subst (λ (s : UnitStage). rank s < 3) (sym at) less)) ∙ some))

within : (a b : ℕ) → nat_lt a b ≡ true → a < b
within a b e = grind (arith, nat_tests)

whole_due : (s : UnitStage) → units.may_have_whole s ≡ nat_lt (rank s) 2
whole_due stage.Entry = refl
whole_due _ = refl

writes_due : (s : UnitStage) → units.may_have_writes s ≡ nat_lt (rank s) 3
writes_due stage.Entry = refl
writes_due _ = refl

-- a line before the hints
body_step : (style : Style) (u : UnitSoFar) (word : Item) (rest line : Line) (v : UnitSoFar) (a b c : Bool) → line ≡ with_item word rest
    → UnitKept style u → rank u.stage < 4 → units.may_have_entry u.stage && is_word (codes "entry") word ≡ a
    → units.may_have_whole u.stage && is_word (codes "whole") word ≡ b → units.may_have_writes u.stage && is_word (codes "writes") word ≡ c
    → cond a (pieces.at_end rest (record u { stage = stage.Whole; entry = true }))
    (cond b (pieces.at_end rest (record u { stage = stage.Writes; whole = true }))
    (cond c (units.writes_line style.names rest u) (units.piece_or_mark style (units.open_word u.last u.piece word) word rest u))) ≡ Ok v
    → UnitStep style u line v
body_step style u word rest line v true b c is kept low first second third e =
    let both = and_parts (units.may_have_entry u.stage) (is_word (codes "entry") word) first in
    entry_step style u word rest line v is kept (at_entry u.stage both.0) (same_bytes word.text (codes "entry") both.1) e
  where
    at_entry : (s : UnitStage) → units.may_have_entry s ≡ true → s ≡ stage.Entry
    at_entry stage.Entry f = refl
    at_entry _ f = absurd (cc)
body_step style u word rest line v false true c is kept low first second third e =
    let both = and_parts (units.may_have_whole u.stage) (is_word (codes "whole") word) second in
    whole_step style u word rest line v is kept (within (rank u.stage) 2 (sym (whole_due u.stage) ∙ both.0)) (same_bytes word.text (codes "whole") both.1) e
body_step style u word rest line v false false true is kept low first second third e =
    let both = and_parts (units.may_have_writes u.stage) (is_word (codes "writes") word) third in
    writes_step style u word rest line v is kept (within (rank u.stage) 3 (sym (writes_due u.stage) ∙ both.0)) (same_bytes word.text (codes "writes") both.1) e
body_step style u word rest line v false false false is kept low first second third e =
    piece_step_at style u word rest line v u.last (units.open_word u.last u.piece word) is kept low refl refl e

-- a line of a unit that is read
pub unit_read : (style : Style) (u : UnitSoFar) (word : Item) (rest line : Line) (v : UnitSoFar) → line ≡ with_item word rest → UnitKept style u
    → units.unit_line style word rest u ≡ Ok v → UnitStep style u line v
unit_read style u word rest line v is kept e = by_stage u.stage refl e
  where
    before_hints : rank u.stage < 4 → units.body_line style word rest u ≡ Ok v → UnitStep style u line v
    before_hints low f = body_step style u word rest line v _ _ _ is kept low refl refl refl f

    at_hints : u.stage ≡ stage.Hints → units.hint_or_end word rest u ≡ Ok v → UnitStep style u line v
    at_hints at f = by_end (is_word (codes "end") word) refl f
      where
        by_end : (t : Bool) → is_word (codes "end") word ≡ t
            → cond t (pieces.at_end rest (record u { stage = stage.Done })) (then_do (hint_line word rest) (λ hint. ok {E = Stop} (record u { hints = u.hints ++ hint ∷ [] }))) ≡ Ok v
            → UnitStep style u line v
        by_end true said g = end_step style u word rest line v is kept at (same_bytes word.text (codes "end") said) g
        by_end false said g = hint_step style u word rest line v is kept at g

    low_at : (s : UnitStage) → u.stage ≡ s → rank s < 4 → rank u.stage < 4
    low_at s at low = subst (λ (t : UnitStage). rank t < 4) (sym at) low

    by_stage : (s : UnitStage) → u.stage ≡ s → units.staged_line style s word rest u ≡ Ok v → UnitStep style u line v
    by_stage stage.Entry at f = before_hints (low_at stage.Entry at (lit≤ tt)) f
    by_stage stage.Whole at f = before_hints (low_at stage.Whole at (lit≤ tt)) f
    by_stage stage.Writes at f = before_hints (low_at stage.Writes at (lit≤ tt)) f
    by_stage stage.Pieces at f = before_hints (low_at stage.Pieces at (lit≤ tt)) f
    by_stage stage.Hints at f = at_hints at f
    by_stage stage.Done at f = absurd (cc)
