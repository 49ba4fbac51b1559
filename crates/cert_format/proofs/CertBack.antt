-- The text of a certificate is read as that certificate.
use Rattle.std.proofs.Common.{◌≡◌, ℕ, suc, ◌+◌, ◌<◌, ◌≤◌, Bool, true, false, ◌&&◌, cond, nat_lt, nat_le, List, [], ◌∷◌, ◌++◌, length, length-append, map, Option, Some, None, IfSome, Ok, codes, lit≤, refl, sym, ap, subst, ◌∙◌, append_assoc, arith}
use Rattle.std.specs.Fmt.{decimal}
use Rattle.std.proofs.lemmas.Bool.Decides.{nat_tests}
use Rattle.std.proofs.lemmas.List.{append-nil}
use Rattle.bst_meaning.specs.declared.condition.Cond.{Cond}
use Rattle.bst_meaning.specs.declared.value.Target.{Target}
use Rattle.bv_base.specs.Answers.{then_do}
use Rattle.bv_base.proofs.ThenLemmas.{ok, ok_is, then_ok}
use Rattle.name_table.specs.Sound.{AreNumbered, Each, IsSound}
use Rattle.name_table.specs.declared.names.NameId.{NameId}
use Rattle.name_table.specs.declared.style.Style.{Style}
use Rattle.sym_state.specs.declared.hint.Hint.{Hint}
use Rattle.sym_state.specs.declared.piece.Piece.{Piece}
use Rattle.cert_format.specs.declared.items.TheConstants.{MOST_NUMBER}
use Rattle.cert_format.specs.declared.limits.TheConstants.{MOST_LIST}
use Rattle.cert_format.specs.CertText.{IsCert, IsCommandPart, IsHint, IsLoop, IsPiece, IsSummary, next_behind, places_of}
use Rattle.cert_format.specs.Certs as certs
use Rattle.cert_format.specs.CondText.{ArePlain}
use Rattle.cert_format.specs.Conditions as conditions
use Rattle.cert_format.specs.HintSpelling.{hints_lines}
use Rattle.cert_format.specs.Items.{expected, last_of, positive}
use Rattle.cert_format.specs.Lines.{Item, Line, lines_of, next_item}
use Rattle.cert_format.specs.Pieces as pieces
use Rattle.cert_format.specs.Spelling.{cond_items, text_of}
use Rattle.cert_format.specs.Texts.{cert_of, told}
use Rattle.cert_format.specs.UnitSpelling.{all_marked, body_text, cert_lines, command_lines, each_lines, head_lines, loop_lines, marked_lines, maybe_marked, summary_lines}
use Rattle.cert_format.specs.Units as units
use Rattle.cert_format.specs.declared.cert.Cert.{Cert}
use Rattle.cert_format.specs.declared.cert.CommandPart.{CommandPart}
use Rattle.cert_format.specs.declared.cert.Loop.{Loop}
use Rattle.cert_format.specs.declared.cert.Summary.{Summary}
use Rattle.cert_format.specs.declared.cert_lines.CertSoFar.{CertSoFar}
use Rattle.cert_format.specs.declared.cond_lines.CondSoFar.{CondSoFar}
use Rattle.cert_format.specs.declared.piece_lines.PieceSoFar.{PieceSoFar}
use Rattle.cert_format.specs.declared.stages.CertStage.TheVariants as stage
use Rattle.cert_format.specs.declared.stages.CondStage.{CondStage}
use Rattle.cert_format.specs.declared.stages.CondStage.TheVariants as part
use Rattle.cert_format.specs.declared.stages.Mark.{Mark}
use Rattle.cert_format.specs.declared.stages.Mark.TheVariants.{Pre, Post, Case, Exit, After, Visit, Keeps}
use Rattle.cert_format.specs.declared.stages.PieceStage.{PieceStage}
use Rattle.cert_format.specs.declared.stages.UnitKind.{UnitKind}
use Rattle.cert_format.specs.declared.stages.UnitKind.TheVariants as unit
use Rattle.cert_format.specs.declared.stages.UnitStage.{UnitStage}
use Rattle.cert_format.specs.declared.stages.UnitStage.TheVariants as ustage
use Rattle.cert_format.specs.declared.stop.Stop.{Stop}
use Rattle.cert_format.specs.declared.unit_lines.UnitSoFar.{UnitSoFar}
use Rattle.cert_format.proofs.CertItems.{positive_taken}
use Rattle.cert_format.proofs.CertKept.{ended_taken, last_taken}
use Rattle.cert_format.proofs.CertRead.{fits_command}
use Rattle.cert_format.proofs.CertSolid.{cert_solid}
use Rattle.cert_format.proofs.CertTaken.{behind_small, read_at}
use Rattle.cert_format.proofs.CertTargets.{NoSigns, command_taken, plain_signs, target_taken}
use Rattle.cert_format.proofs.CertUnitTaken.{Goes, goes_line, head_go, hinted, hints_go, inside, list_go, marked_go, state}
use Rattle.cert_format.proofs.CertUnits.{Closed, Lines, mark_text, rank}
use Rattle.cert_format.proofs.CondBack.{all_lines}
use Rattle.cert_format.proofs.CondRead.{Has}
use Rattle.cert_format.proofs.CondTaken.{expect_taken, other_word, take_first, then_go, word_taken}
use Rattle.cert_format.proofs.CondWhole.{Up, last_snoc, up_of}
use Rattle.cert_format.proofs.Plain.{plain_names}
use Rattle.cert_format.proofs.Spelt.{AllHave, spelt}

-- what is wanted of a style
record Fit (style : Style) : Type 0 where
  pub plain : ArePlain style.names
  pub signs : NoSigns style.names
  pub numbered : AreNumbered 0 (map (λ body. body.block) style.bodies)

-- what has been read where no unit is open
abbrev reading : ℕ → Cond → List Summary → List Loop → List CommandPart → CertSoFar
reading list c ss ls ks =
    record {
      stage = stage.Units;
      list = list;
      cond = record { stage = part.Done; cond = c };
      unit = units.no_unit (unit.Command 0);
      summaries = ss;
      loops = ls;
      commands = ks;
    }

and_false : (b : Bool) → b && false ≡ false
and_false true = refl
and_false false = refl

full : (n most : ℕ) → n < most → nat_le most n ≡ false
full n most small = grind (arith, nat_tests)

-- closed pieces
abbrev none_closed : Closed
none_closed = record { pre = None; cases = []; later = []; after = None; visit = None; keeps = None; symbols = 0 }

abbrev with_posts : Piece → ℕ → List Piece → Closed
with_posts pre n l = record { pre = Some pre; cases = []; later = l; after = None; visit = None; keeps = None; symbols = n }

abbrev with_cases : List Piece → List Piece → Closed
with_cases cs l = record { pre = None; cases = cs; later = l; after = None; visit = None; keeps = None; symbols = 0 }

abbrev for_command : Option Piece → Option Piece → Option Piece → Closed
for_command a v k = record { pre = None; cases = []; later = []; after = a; visit = v; keeps = k; symbols = 0 }

-- the first line of a unit and its parts in four
parts_go : (style : Style) (p next q : CertSoFar) (text : List ℕ) (rest : List (List ℕ)) (a b c d more : Lines)
    → ((word : Item) (line : Line) → word.text ≡ text → Has line rest → certs.cert_staged style p.stage word line p ≡ Ok next)
    → Goes style (a ++ (b ++ (c ++ (d ++ more)))) next q → Goes style (((text ∷ rest) ∷ (a ++ (b ++ (c ++ d)))) ++ more) p q
parts_go style p next q text rest a b c d more one after =
    let lines : (a ++ (b ++ (c ++ d))) ++ more ≡ a ++ (b ++ (c ++ (d ++ more))) =
    append_assoc a (b ++ (c ++ d)) more
    ∙ ap (λ (l : Lines). a ++ l) (append_assoc b (c ++ d) more ∙ ap (λ (l : Lines). b ++ l) (append_assoc c d more)) in
    goes_line style p next q text rest ((a ++ (b ++ (c ++ d))) ++ more) one (subst (λ (l : Lines). Goes style l next q) (sym lines) after)

-- a unit that follows its first line, of pieces of one mark
marks_go : (style : Style) (c : CertSoFar) (kind : UnitKind) (entry whole : Bool) (writes : List NameId) (u : UnitSoFar) (mark : Mark) (put : List Piece → Closed)
    (start n : ℕ) (x : Piece) (list : List Piece) (more : Lines) (q : CertSoFar) → ArePlain style.names → rank u.stage < 4
    → units.may_follow u.kind u.last mark ≡ true → nat_le 64 u.count ≡ false
    → units.opened mark u ≡ state kind entry whole writes (Some mark) n (put []) (pieces.no_piece entry entry start)
    → units.may_follow kind (Some mark) mark ≡ true → start ≤ MOST_NUMBER
    → ((l : List Piece) (r : PieceSoFar) (m : ℕ)
    → units.opened mark (state kind entry whole writes (Some mark) m (put l) r)
    ≡ state kind entry whole writes (Some mark) (m + 1) (put (l ++ r.piece ∷ [])) (pieces.no_piece entry entry start))
    → n + length list ≤ 64 → Each (IsPiece style entry entry start) (x ∷ list)
    → ((l : List Piece) (r : PieceSoFar) → l ++ r.piece ∷ [] ≡ x ∷ list
    → Goes style more (inside c (state kind entry whole writes (Some mark) (n + length list) (put l) r)) q)
    → Goes style (all_marked (mark_text mark) style.names (x ∷ list) ++ more) (inside c u) q
marks_go style c kind entry whole writes u mark put start n x list more q plain low follows room opens again small each_opens few each after =
    let rest = all_marked (mark_text mark) style.names list in
    subst (λ (l : Lines). Goes style l (inside c u) q) (sym (append_assoc (marked_lines (mark_text mark) style.names x) rest more))
    (marked_go style c kind entry whole writes u mark n (put []) entry entry start x (rest ++ more) q plain low follows room opens small each.0 (λ s.
    list_go style c kind entry whole writes mark put entry entry start list [] (read_at entry entry s (next_behind start (places_of x)) x) n more q plain again small
    each_opens few each.1 after))

-- posts, and then hints
posts_go : (style : Style) (c : CertSoFar) (body : Target) (entry whole : Bool) (writes : List NameId) (pre : Piece) (posts : List Piece) (hints : List Hint)
    (t : PieceStage) (more : Lines) (q : CertSoFar) → ArePlain style.names → suc (length posts) ≤ 64
    → Each (IsPiece style entry entry (next_behind 0 (places_of pre))) posts → Each IsHint hints
    → ((n : ℕ) (l : List Piece) → l ≡ posts
    → Goes style more (certs.unit_finished (inside c (record (hinted (unit.Summary body) entry whole writes n (with_posts pre (next_behind 0 (places_of pre)) l) hints) { stage = ustage.Done }))) q)
    → Goes style (all_marked (codes "post") style.names posts ++ (hints_lines hints ++ more))
    (inside c (state (unit.Summary body) entry whole writes (Some Pre) 1 none_closed (read_at entry entry t (next_behind 0 (places_of pre)) pre))) q
posts_go style c body entry whole writes pre [] hints t more q plain few each all after =
    let n = next_behind 0 (places_of pre) in
    hints_go style c (unit.Summary body) entry whole writes
    (state (unit.Summary body) entry whole writes (Some Pre) 1 none_closed (read_at entry entry t n pre)) 1 (with_posts pre n []) hints more q (lit≤ tt) refl refl all
    (after 1 [] refl)
posts_go style c body entry whole writes pre (x ∷ posts) hints t more q plain few each all after =
    let n = next_behind 0 (places_of pre) in
    let small : n ≤ MOST_NUMBER = behind_small 0 (places_of pre) (lit≤ tt) in
    let kind = unit.Summary body in
    let put : List Piece → Closed = with_posts pre n in
    let room : 2 + length posts ≤ 64 = omega (arith, few) in
    marks_go style c kind entry whole writes (state kind entry whole writes (Some Pre) 1 none_closed (read_at entry entry t n pre)) Post put n 2 x posts
    (hints_lines hints ++ more) q plain (lit≤ tt) refl refl refl refl small (λ l r m. refl) room each (λ l r e.
    hints_go style c kind entry whole writes (state kind entry whole writes (Some Post) (2 + length posts) (put l) r) (2 + length posts) (put (l ++ r.piece ∷ [])) hints more q
    (lit≤ tt) refl refl all (after (2 + length posts) (l ++ r.piece ∷ []) e))

-- a summary
summary_go : (style : Style) (list : ℕ) (cond : Cond) (ss : List Summary) (s : Summary) (more : Lines) (q : CertSoFar) → Fit style → length ss < 65536
    → IsSummary style s → Goes style more (reading list cond (ss ++ s ∷ []) [] []) q → Goes style (summary_lines style s ++ more) (reading list cond ss [] []) q
summary_go style list cond ss s more q fit room is after =
    let c = reading list cond ss [] [] in
    let kind = unit.Summary s.body in
    let names = style.names in
    let pre = marked_lines (codes "pre") names s.pre in
    let posts = all_marked (codes "post") names s.posts in
    let hints = hints_lines s.hints in
    parts_go style c (inside c (units.no_unit kind)) q (codes "summary") (body_text style s.body ∷ []) (head_lines names s.entry s.whole s.writes) pre posts hints more
    (λ word line said has. rw (word_taken (codes "summary") word said) (rw (full (length ss) 65536 room)
    (last_taken (certs.body style) (λ (t : Target). certs.begun_unit (unit.Summary t) c) line s.body (body_text style s.body) has
    (λ item text. target_taken style item s.body fit.plain fit.signs fit.numbered is.body text))))
    (head_go style c kind s.entry s.whole s.writes (pre ++ (posts ++ (hints ++ more))) q fit.plain is.writes (λ t low.
    marked_go style c kind s.entry s.whole s.writes (record (units.no_unit kind) { stage = t; entry = s.entry; whole = s.whole; writes = s.writes }) Pre 1 none_closed
    s.entry s.entry 0 s.pre (posts ++ (hints ++ more)) q fit.plain low refl refl refl (lit≤ tt) is.pre (λ u.
    posts_go style c s.body s.entry s.whole s.writes s.pre s.posts s.hints u more q fit.plain is.few is.posts is.hints (λ n l e.
    subst (λ (k : List Piece). let x : Summary = record s { posts = k } in Goes style more (reading list cond (ss ++ x ∷ []) [] []) q) (sym e) after))))

-- exits, and then hints
exits_go : (style : Style) (c : CertSoFar) (test body : Target) (entry whole : Bool) (writes : List NameId) (cases before exits : List Piece) (hints : List Hint)
    (p : PieceSoFar) (n : ℕ) (more : Lines) (q : CertSoFar) → ArePlain style.names → before ++ p.piece ∷ [] ≡ cases → n + length exits ≤ 64
    → Each (IsPiece style entry entry 0) exits → Each IsHint hints
    → ((m : ℕ) (k l : List Piece) → k ≡ cases → l ≡ exits
    → Goes style more (certs.unit_finished (inside c (record (hinted (unit.Loop test body) entry whole writes m (with_cases k l) hints) { stage = ustage.Done }))) q)
    → Goes style (all_marked (codes "exit") style.names exits ++ (hints_lines hints ++ more))
    (inside c (state (unit.Loop test body) entry whole writes (Some Case) n (with_cases before []) p)) q
exits_go style c test body entry whole writes cases before [] hints p n more q plain is few each all after =
    let kind = unit.Loop test body in
    hints_go style c kind entry whole writes (state kind entry whole writes (Some Case) n (with_cases before []) p) n (with_cases (before ++ p.piece ∷ []) []) hints more q
    (lit≤ tt) refl refl all (after n (before ++ p.piece ∷ []) [] is refl)
exits_go style c test body entry whole writes cases before (x ∷ exits) hints p n more q plain is few each all after =
    let kind = unit.Loop test body in
    let done = before ++ p.piece ∷ [] in
    let put : List Piece → Closed = with_cases done in
    let room : n < 64 = omega (arith, few) in
    marks_go style c kind entry whole writes (state kind entry whole writes (Some Case) n (with_cases before []) p) Exit put 0 (n + 1) x exits
    (hints_lines hints ++ more) q plain (lit≤ tt) refl (full n 64 room) refl refl (lit≤ tt) (λ l r m. refl) (omega (arith, few)) each (λ l r e.
    hints_go style c kind entry whole writes (state kind entry whole writes (Some Exit) (n + 1 + length exits) (put l) r) (n + 1 + length exits) (put (l ++ r.piece ∷ [])) hints more q
    (lit≤ tt) refl refl all (after (n + 1 + length exits) done (l ++ r.piece ∷ []) is e))

-- cases, exits, and then hints
cases_go : (style : Style) (c : CertSoFar) (test body : Target) (entry whole : Bool) (writes : List NameId) (cases exits : List Piece) (hints : List Hint)
    (t : UnitStage) (more : Lines) (q : CertSoFar) → ArePlain style.names → rank t < 4 → 1 ≤ length cases → length cases + length exits ≤ 64
    → Each (IsPiece style entry entry 0) cases → Each (IsPiece style entry entry 0) exits → Each IsHint hints
    → ((m : ℕ) (k l : List Piece) → k ≡ cases → l ≡ exits
    → Goes style more (certs.unit_finished (inside c (record (hinted (unit.Loop test body) entry whole writes m (with_cases k l) hints) { stage = ustage.Done }))) q)
    → Goes style (all_marked (codes "case") style.names cases ++ (all_marked (codes "exit") style.names exits ++ (hints_lines hints ++ more)))
    (inside c (record (units.no_unit (unit.Loop test body)) { stage = t; entry = entry; whole = whole; writes = writes })) q
cases_go style c test body entry whole writes [] exits hints t more q plain low some few each also all after = absurd (omega (arith, some))
cases_go style c test body entry whole writes (x ∷ cases) exits hints t more q plain low some few each also all after =
    let kind = unit.Loop test body in
    marks_go style c kind entry whole writes (record (units.no_unit kind) { stage = t; entry = entry; whole = whole; writes = writes }) Case (λ l. with_cases l []) 0 1
    x cases (all_marked (codes "exit") style.names exits ++ (hints_lines hints ++ more)) q plain low refl refl refl refl (lit≤ tt) (λ l r m. refl) (omega (arith, few)) each
    (λ l r e. exits_go style c test body entry whole writes (x ∷ cases) l exits hints r (1 + length cases) more q plain e (omega (arith, few)) also all after)

-- a loop
loop_go : (style : Style) (list : ℕ) (cond : Cond) (ss : List Summary) (ls : List Loop) (x : Loop) (more : Lines) (q : CertSoFar) → Fit style → length ls < 65536
    → IsLoop style x → Goes style more (reading list cond ss (ls ++ x ∷ []) []) q → Goes style (loop_lines style x ++ more) (reading list cond ss ls []) q
loop_go style list cond ss ls x more q fit room is after =
    let c = reading list cond ss ls [] in
    let kind = unit.Loop x.test x.body in
    let names = style.names in
    let cases = all_marked (codes "case") names x.cases in
    let exits = all_marked (codes "exit") names x.exits in
    let make : Target → CertSoFar = λ t. certs.begun_unit (unit.Loop x.test t) c in
    parts_go style c (inside c (units.no_unit kind)) q (codes "loop") (body_text style x.test ∷ (body_text style x.body ∷ []))
    (head_lines names x.entry x.whole x.writes) cases exits (hints_lines x.hints) more
    (λ word line said has.
    let t = take_first line (body_text style x.test) (body_text style x.body ∷ []) has in
    rw (other_word (codes "loop") (codes "summary") word said refl) (rw (word_taken (codes "loop") word said) (rw (full (length ls) 65536 room)
    (then_go (next_item line) (t.item, t.rest) _ _ t.gives
    (then_go (certs.body style t.item) x.test _ _ (target_taken style t.item x.test fit.plain fit.signs fit.numbered is.test t.said)
    (last_taken (certs.body style) make t.rest x.body (body_text style x.body) t.has
    (λ item text. target_taken style item x.body fit.plain fit.signs fit.numbered is.body text)))))))
    (head_go style c kind x.entry x.whole x.writes (cases ++ (exits ++ (hints_lines x.hints ++ more))) q fit.plain is.writes (λ t low.
    cases_go style c x.test x.body x.entry x.whole x.writes x.cases x.exits x.hints t more q fit.plain low is.some is.few is.cases is.exits is.hints (λ n k l e f.
    subst (λ (a : List Piece). let y : Loop = record x { cases = a; exits = l } in Goes style more (reading list cond ss (ls ++ y ∷ []) []) q) (sym e)
    (subst (λ (b : List Piece). let y : Loop = record x { exits = b } in Goes style more (reading list cond ss (ls ++ y ∷ []) []) q) (sym f) after))))

-- `keeps`, and then hints
keeps_go : (style : Style) (c : CertSoFar) (index : ℕ) (u : UnitSoFar) (n : ℕ) (a v k : Option Piece) (hints : List Hint) (more : Lines) (q : CertSoFar)
    → ArePlain style.names → rank u.stage < 4 → units.may_follow u.kind u.last Keeps ≡ true → nat_le 64 u.count ≡ false
    → units.opened Keeps u ≡ state (unit.Command index) false false [] (Some Keeps) (n + 1) (for_command a v None) (pieces.no_piece true false 0)
    → units.may_have_hints u.kind u.last ≡ true
    → record (units.placed_as u.last (pieces.no_piece false false 0) u) { stage = ustage.Hints; last = None } ≡ hinted (unit.Command index) false false [] n (for_command a v None) []
    → IfSome k (IsPiece style true false 0) → Each IsHint hints
    → ((m : ℕ) → Goes style more (certs.unit_finished (inside c (record (hinted (unit.Command index) false false [] m (for_command a v k) hints) { stage = ustage.Done }))) q)
    → Goes style (maybe_marked (codes "keeps") style.names k ++ (hints_lines hints ++ more)) (inside c u) q
keeps_go style c index u n a v None hints more q plain low follows room opens may ends is all after =
    hints_go style c (unit.Command index) false false [] u n (for_command a v None) hints more q low may ends all (after n)
keeps_go style c index u n a v (Some k) hints more q plain low follows room opens may ends is all after =
    let kind = unit.Command index in
    marked_go style c kind false false [] u Keeps (n + 1) (for_command a v None) true false 0 k (hints_lines hints ++ more) q plain low follows room opens (lit≤ tt) is (λ t.
    hints_go style c kind false false [] (state kind false false [] (Some Keeps) (n + 1) (for_command a v None) (read_at true false t (next_behind 0 (places_of k)) k)) (n + 1)
    (for_command a v (Some k)) hints more q (lit≤ tt) refl refl all (after (n + 1)))

-- `visit`, `keeps`, and then hints
visit_go : (style : Style) (c : CertSoFar) (index : ℕ) (u : UnitSoFar) (n : ℕ) (a v k : Option Piece) (hints : List Hint) (more : Lines) (q : CertSoFar)
    → ArePlain style.names → rank u.stage < 4 → units.may_follow u.kind u.last Visit ≡ true → units.may_follow u.kind u.last Keeps ≡ true
    → nat_le 64 u.count ≡ false → nat_le 64 (n + 1) ≡ false
    → units.opened Visit u ≡ state (unit.Command index) false false [] (Some Visit) (n + 1) (for_command a None None) (pieces.no_piece true true 0)
    → units.opened Keeps u ≡ state (unit.Command index) false false [] (Some Keeps) (n + 1) (for_command a None None) (pieces.no_piece true false 0)
    → units.may_have_hints u.kind u.last ≡ true
    → record (units.placed_as u.last (pieces.no_piece false false 0) u) { stage = ustage.Hints; last = None } ≡ hinted (unit.Command index) false false [] n (for_command a None None) []
    → IfSome v (IsPiece style true true 0) → IfSome k (IsPiece style true false 0) → Each IsHint hints
    → ((m : ℕ) → Goes style more (certs.unit_finished (inside c (record (hinted (unit.Command index) false false [] m (for_command a v k) hints) { stage = ustage.Done }))) q)
    → Goes style (maybe_marked (codes "visit") style.names v ++ (maybe_marked (codes "keeps") style.names k ++ (hints_lines hints ++ more))) (inside c u) q
visit_go style c index u n a None k hints more q plain low follows also room further opens_visit opens_keeps may ends is kept all after =
    keeps_go style c index u n a None k hints more q plain low also room opens_keeps may ends kept all after
visit_go style c index u n a (Some v) k hints more q plain low follows also room further opens_visit opens_keeps may ends is kept all after =
    let kind = unit.Command index in
    let behind = maybe_marked (codes "keeps") style.names k ++ (hints_lines hints ++ more) in
    marked_go style c kind false false [] u Visit (n + 1) (for_command a None None) true true 0 v behind q plain low follows room opens_visit (lit≤ tt) is (λ t.
    keeps_go style c index (state kind false false [] (Some Visit) (n + 1) (for_command a None None) (read_at true true t (next_behind 0 (places_of v)) v)) (n + 1)
    a (Some v) k hints more q plain (lit≤ tt) refl further refl refl refl kept all after)

-- `after`, `visit`, `keeps`, and then hints
after_go : (style : Style) (c : CertSoFar) (index : ℕ) (a v k : Option Piece) (hints : List Hint) (more : Lines) (q : CertSoFar) → ArePlain style.names
    → IfSome a (IsPiece style true false 0) → IfSome v (IsPiece style true true 0) → IfSome k (IsPiece style true false 0) → Each IsHint hints
    → ((m : ℕ) → Goes style more (certs.unit_finished (inside c (record (hinted (unit.Command index) false false [] m (for_command a v k) hints) { stage = ustage.Done }))) q)
    → Goes style (maybe_marked (codes "after") style.names a ++ (maybe_marked (codes "visit") style.names v ++ (maybe_marked (codes "keeps") style.names k ++ (hints_lines hints ++ more))))
    (inside c (units.no_unit (unit.Command index))) q
after_go style c index None v k hints more q plain is visit kept all after =
    visit_go style c index (units.no_unit (unit.Command index)) 0 None v k hints more q plain (lit≤ tt) refl refl refl refl refl refl refl refl visit kept all after
after_go style c index (Some a) v k hints more q plain is visit kept all after =
    let kind = unit.Command index in
    let behind = maybe_marked (codes "visit") style.names v ++ (maybe_marked (codes "keeps") style.names k ++ (hints_lines hints ++ more)) in
    marked_go style c kind false false [] (units.no_unit kind) After 1 (for_command None None None) true false 0 a behind q plain (lit≤ tt) refl refl refl (lit≤ tt) is (λ t.
    visit_go style c index (state kind false false [] (Some After) 1 (for_command None None None) (read_at true false t (next_behind 0 (places_of a)) a)) 1
    (Some a) v k hints more q plain (lit≤ tt) refl refl refl refl refl refl refl refl visit kept all after)

-- what belongs to a command
command_go : (style : Style) (list : ℕ) (cond : Cond) (ss : List Summary) (ls : List Loop) (ks : List CommandPart) (x : CommandPart) (more : Lines) (q : CertSoFar)
    → Fit style → fits_command (last_of ks) x ≡ true → IsCommandPart style x → Goes style more (reading list cond ss ls (ks ++ x ∷ [])) q
    → Goes style (command_lines style x ++ more) (reading list cond ss ls ks) q
command_go style list cond ss ls ks x more q fit fits is after =
    let c = reading list cond ss ls ks in
    let kind = unit.Command x.index in
    let names = style.names in
    let make : ℕ → CertSoFar = λ n. certs.begun_unit (unit.Command n) c in
    let last = certs.last_command ks in
    parts_go style c (inside c (units.no_unit kind)) q (codes "command") (decimal x.index ∷ []) (maybe_marked (codes "after") names x.after)
    (maybe_marked (codes "visit") names x.visit) (maybe_marked (codes "keeps") names x.keeps) (hints_lines x.hints) more
    (λ word line said has. rw (other_word (codes "command") (codes "summary") word said refl) (rw (other_word (codes "command") (codes "loop") word said refl)
    (rw (word_taken (codes "command") word said)
    (last_taken (certs.command_number (length style.commands) last) make line x.index (decimal x.index) has
    (λ item text. command_taken (length style.commands) last item x.index is.there is.small fits text)))))
    (after_go style c x.index x.after x.visit x.keeps x.hints more q fit.plain is.after is.visit is.keeps is.hints (λ m. after))

room : {A : Type 0} (before more : List A) (x : A) → length before + length (x ∷ more) ≤ 65536 → length before < 65536
room before more x few = omega (arith, few)

room_more : {A : Type 0} (before more : List A) (x : A) → length before + length (x ∷ more) ≤ 65536 → length (before ++ x ∷ []) + length more ≤ 65536
room_more before more x few =
    let long : length (before ++ x ∷ []) ≡ length before + length (x ∷ []) = length-append before (x ∷ []) in omega (arith, long, few)

summaries_go : (style : Style) (list : ℕ) (cond : Cond) (ss before : List Summary) (more : Lines) (q : CertSoFar) → Fit style → length before + length ss ≤ 65536
    → Each (IsSummary style) ss → Goes style more (reading list cond (before ++ ss) [] []) q
    → Goes style (each_lines (summary_lines style) ss ++ more) (reading list cond before [] []) q
summaries_go style list cond [] before more q fit few each after =
    subst (λ (l : List Summary). Goes style more (reading list cond l [] []) q) (append-nil before) after
summaries_go style list cond (s ∷ ss) before more q fit few each after =
    subst (λ (l : Lines). Goes style l (reading list cond before [] []) q) (sym (append_assoc (summary_lines style s) (each_lines (summary_lines style) ss) more))
    (summary_go style list cond before s (each_lines (summary_lines style) ss ++ more) q fit (room before ss s few) each.0
    (summaries_go style list cond ss (before ++ s ∷ []) more q fit (room_more before ss s few) each.1
    (subst (λ (l : List Summary). Goes style more (reading list cond l [] []) q) (sym (append_assoc before (s ∷ []) ss)) after)))

loops_go : (style : Style) (list : ℕ) (cond : Cond) (ss : List Summary) (ls before : List Loop) (more : Lines) (q : CertSoFar) → Fit style
    → length before + length ls ≤ 65536 → Each (IsLoop style) ls → Goes style more (reading list cond ss (before ++ ls) []) q
    → Goes style (each_lines (loop_lines style) ls ++ more) (reading list cond ss before []) q
loops_go style list cond ss [] before more q fit few each after =
    subst (λ (l : List Loop). Goes style more (reading list cond ss l []) q) (append-nil before) after
loops_go style list cond ss (x ∷ ls) before more q fit few each after =
    subst (λ (l : Lines). Goes style l (reading list cond ss before []) q) (sym (append_assoc (loop_lines style x) (each_lines (loop_lines style) ls) more))
    (loop_go style list cond ss before x (each_lines (loop_lines style) ls ++ more) q fit (room before ls x few) each.0
    (loops_go style list cond ss ls (before ++ x ∷ []) more q fit (room_more before ls x few) each.1
    (subst (λ (l : List Loop). Goes style more (reading list cond ss l []) q) (sym (append_assoc before (x ∷ []) ls)) after)))

commands_go : (style : Style) (list : ℕ) (cond : Cond) (ss : List Summary) (ls : List Loop) (ks before : List CommandPart) (more : Lines) (q : CertSoFar) → Fit style
    → Up fits_command (last_of before) ks → Each (IsCommandPart style) ks → Goes style more (reading list cond ss ls (before ++ ks)) q
    → Goes style (each_lines (command_lines style) ks ++ more) (reading list cond ss ls before) q
commands_go style list cond ss ls [] before more q fit up each after =
    subst (λ (l : List CommandPart). Goes style more (reading list cond ss ls l) q) (append-nil before) after
commands_go style list cond ss ls (x ∷ ks) before more q fit up each after =
    let later = subst (λ last. Up fits_command last ks) (sym (last_snoc before x)) up.1 in
    subst (λ (l : Lines). Goes style l (reading list cond ss ls before) q) (sym (append_assoc (command_lines style x) (each_lines (command_lines style) ks) more))
    (command_go style list cond ss ls before x (each_lines (command_lines style) ks ++ more) q fit up.0 each.0
    (commands_go style list cond ss ls ks (before ++ x ∷ []) more q fit later each.1
    (subst (λ (l : List CommandPart). Goes style more (reading list cond ss ls l) q) (sym (append_assoc before (x ∷ []) ks)) after)))

-- a certificate of which the condition is read
abbrev conditioned : ℕ → CondSoFar → CertSoFar
conditioned list a = record certs.no_cert { stage = certs.after_cond a.stage; list = list; cond = a }

cond_one : (style : Style) (list : ℕ) (line : Line) (s : CondStage) (c : Cond) (b : CondSoFar) → conditions.cond_line style.names line (record { stage = s; cond = c }) ≡ Ok b
    → certs.cert_line style line (conditioned list (record { stage = s; cond = c })) ≡ Ok (conditioned list b)
cond_one style list line s c b e =
    let a : CondSoFar = record { stage = s; cond = c } in
    let i = then_ok (next_item line) _ _ e in
    then_go (next_item line) i.0 _ _ i.1 (by_stage s i.0.0 i.0.1 i.2)
  where
    taken : (t : CondStage) (word : Item) (rest : Line) → conditions.worded_line style.names t word rest (record { stage = t; cond = c }) ≡ Ok b
        → then_do (conditions.worded_line style.names t word rest (record { stage = t; cond = c })) (λ (d : CondSoFar). ok {E = Stop} (conditioned list d)) ≡ Ok (conditioned list b)
    taken t word rest f = then_go (conditions.worded_line style.names t word rest (record { stage = t; cond = c })) b _ _ f refl

    by_stage : (t : CondStage) (word : Item) (rest : Line) → conditions.worded_line style.names t word rest (record { stage = t; cond = c }) ≡ Ok b
        → certs.cert_staged style (certs.after_cond t) word rest (conditioned list (record { stage = t; cond = c })) ≡ Ok (conditioned list b)
    by_stage part.Entries word rest f = taken part.Entries word rest f
    by_stage part.Key word rest f = taken part.Key word rest f
    by_stage part.Preamble word rest f = taken part.Preamble word rest f
    by_stage part.Length word rest f = taken part.Length word rest f
    by_stage part.Names word rest f = taken part.Names word rest f
    by_stage part.Nonblank word rest f = taken part.Nonblank word rest f
    by_stage part.Types word rest f = taken part.Types word rest f
    by_stage part.End word rest f = taken part.End word rest f
    by_stage part.Done word rest f = absurd (cc)

cond_all : (style : Style) (list : ℕ) (lines rest : List Line) (a b : CondSoFar) (q : CertSoFar) → conditions.cond_lines style.names lines a ≡ Ok b
    → certs.cert_lines style rest (conditioned list b) ≡ Ok q → certs.cert_lines style (lines ++ rest) (conditioned list a) ≡ Ok q
cond_all style list [] rest a b q e after = subst (λ (x : CondSoFar). certs.cert_lines style rest (conditioned list x) ≡ Ok q) (ok_is a b e) after
cond_all style list (line ∷ lines) rest a b q e after =
    let one = then_ok (conditions.cond_line style.names line a) _ _ e in
    then_go (certs.cert_line style line (conditioned list a)) (conditioned list one.0) (certs.cert_lines style (lines ++ rest)) (Ok q)
    (cond_one style list line a.stage a.cond one.0 one.1) (cond_all style list lines rest one.0 b q one.2 after)

-- lines in two parts
record Parts (lines : List Line) (a b : Lines) : Type 0 where
  pub front : List Line
  pub back : List Line
  pub are : lines ≡ front ++ back
  pub first : AllHave front a
  pub second : AllHave back b

parted : (lines : List Line) (a b : Lines) → AllHave lines (a ++ b) → Parts lines a b
parted lines [] b have = record { front = []; back = lines; are = refl; first = tt; second = have }
parted [] (x ∷ a) b have = absurd (have)
parted (line ∷ lines) (x ∷ a) b have =
    let r = parted lines a b have.1 in
    record { front = line ∷ r.front; back = r.back; are = ap (λ (l : List Line). line ∷ l) r.are; first = (have.0, r.first); second = r.second }

-- the condition of a certificate
cond_go : (style : Style) (cert : Cert) (more : Lines) (q : CertSoFar) → ArePlain style.names → IsCert style cert
    → Goes style more (reading cert.list cert.cond [] [] []) q
    → Goes style (cond_items style.names cert.cond ++ more) (conditioned cert.list conditions.no_lines) q
cond_go style cert more q plain is after lines have =
    let names = style.names in
    let done : CondSoFar = record { stage = part.Done; cond = cert.cond } in
    let r = parted lines (cond_items names cert.cond) more have in
    ap (λ (l : List Line). certs.cert_lines style l (conditioned cert.list conditions.no_lines)) r.are
    ∙ cond_all style cert.list r.front r.back conditions.no_lines done q (all_lines names cert.cond plain is.cond r.front r.first) (after r.back r.second)

-- all lines of a certificate
lines_go : (style : Style) (cert : Cert) → Fit style → IsCert style cert
    → Goes style (cert_lines style cert) certs.no_cert (record (reading cert.list cert.cond cert.summaries cert.loops cert.commands) { stage = stage.Done })
lines_go style cert fit is =
    let q : CertSoFar = record (reading cert.list cert.cond cert.summaries cert.loops cert.commands) { stage = stage.Done } in
    let s = each_lines (summary_lines style) cert.summaries in
    let l = each_lines (loop_lines style) cert.loops in
    let k = each_lines (command_lines style) cert.commands in
    let end : Lines = (codes "done" ∷ []) ∷ [] in
    let all = reading cert.list cert.cond cert.summaries cert.loops cert.commands in
    let last : Goes style end all q =
    goes_line style all q q (codes "done") [] []
    (λ word line said has. rw (other_word (codes "done") (codes "summary") word said refl) (rw (other_word (codes "done") (codes "loop") word said refl)
    (rw (other_word (codes "done") (codes "command") word said refl)
    (then_go (expected (codes "done") word) tt _ _ (expect_taken (codes "done") word said) (ended_taken line q has)))))
    none_left in
    let make : ℕ → CertSoFar = λ n. record certs.no_cert { stage = stage.Cond; list = n } in
    goes_line style certs.no_cert (conditioned cert.list conditions.no_lines) q (codes "bstcert") (decimal cert.list ∷ [])
    (cond_items style.names cert.cond ++ (s ++ (l ++ (k ++ end))))
    (λ word line said has. then_go (expected (codes "bstcert") word) tt _ _ (expect_taken (codes "bstcert") word said)
    (last_taken (positive MOST_LIST) make line cert.list (decimal cert.list) has (λ item text. positive_taken MOST_LIST item cert.list (omega arith) is.list.0 is.list.1 text)))
    (cond_go style cert (s ++ (l ++ (k ++ end))) q fit.plain is
    (summaries_go style cert.list cert.cond cert.summaries [] (l ++ (k ++ end)) q fit (alone (length cert.summaries) is.few_summaries) is.summaries
    (loops_go style cert.list cert.cond cert.summaries cert.loops [] (k ++ end) q fit (alone (length cert.loops) is.few_loops) is.loops
    (commands_go style cert.list cert.cond cert.summaries cert.loops cert.commands [] end q fit
    (up_of (λ a b. nat_lt a.index b.index) fits_command (λ a b e. e) (λ b. refl) cert.commands is.rise) is.commands last))))
  where
    alone : (n : ℕ) → n ≤ 65536 → 0 + n ≤ 65536
    alone n few = omega (arith, few)

    none_left : Goes style [] (record (reading cert.list cert.cond cert.summaries cert.loops cert.commands) { stage = stage.Done })
        (record (reading cert.list cert.cond cert.summaries cert.loops cert.commands) { stage = stage.Done })
    none_left [] have = refl
    none_left (line ∷ lines) have = absurd (have)

-- the text of a certificate is read as that certificate
pub cert_back : (style : Style) (cert : Cert) → IsSound style → IsCert style cert → cert_of style (text_of (cert_lines style cert)) ≡ Ok cert
cert_back style cert sound is =
    let plain = plain_names style sound in
    let fit : Fit style = record { plain = plain; signs = plain_signs style sound; numbered = sound.numbered } in
    let text = text_of (cert_lines style cert) in
    let q : CertSoFar = record (reading cert.list cert.cond cert.summaries cert.loops cert.commands) { stage = stage.Done } in
    let s = spelt (cert_lines style cert) (cert_solid style plain cert is) in
    ap (told text)
    (then_go (certs.cert_lines style (lines_of text) certs.no_cert) q (λ p. certs.cert_finished p p.stage) (Ok cert)
    (ap (λ l. certs.cert_lines style l certs.no_cert) s.are ∙ lines_go style cert fit is s.lines s.have) refl)
