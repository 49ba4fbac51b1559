-- The pieces of a unit: how one more line or one more piece is spelled, and what is kept.
use Rattle.std.proofs.Common.{◌≡◌, ℕ, ◌+◌, ◌≤◌, Bool, true, false, List, [], ◌∷◌, ◌++◌, length, length-append, Option, Some, None, IfSome, codes, lit≤, refl, sym, ap, subst, ◌∙◌, append_assoc, arith}
use Rattle.std.proofs.lemmas.List.{append-nil}
use Rattle.name_table.specs.declared.names.Kind.{Kind}
use Rattle.name_table.specs.declared.style.Style.{Style}
use Rattle.sym_state.specs.declared.piece.Piece.{Piece}
use Rattle.cert_format.specs.CertText.{IsPiece, next_behind, places_of}
use Rattle.cert_format.specs.PieceSpelling.{piece_lines}
use Rattle.cert_format.specs.UnitSpelling.{all_marked, each_lines, marked_lines, maybe_marked}
use Rattle.cert_format.specs.Units as units
use Rattle.cert_format.specs.declared.items.TheConstants.{MOST_NUMBER}
use Rattle.cert_format.specs.declared.piece_lines.PieceSoFar.{PieceSoFar}
use Rattle.cert_format.specs.declared.stages.Mark.{Mark}
use Rattle.cert_format.specs.declared.stages.Mark.TheVariants.{Pre, Post, Case, Exit, After, Visit, Keeps}
use Rattle.cert_format.specs.declared.stages.UnitKind.{UnitKind}
use Rattle.cert_format.specs.declared.stages.UnitKind.TheVariants as unit
use Rattle.cert_format.specs.declared.unit_lines.UnitSoFar.{UnitSoFar}
use Rattle.cert_format.proofs.CertKept.{each_none}
use Rattle.cert_format.proofs.CertSteps.{in_back}
use Rattle.cert_format.proofs.CertTaken.{behind_small}
use Rattle.cert_format.proofs.CertUnits.{Bare, Counted, Full, Good, Lines, Ready, body_lines, first_post, mark_text, one_if}
use Rattle.cert_format.proofs.CondKept.{each_snoc}
use Rattle.cert_format.proofs.CondSteps.{snoc_left}

pub front_behind : (a b m : Lines) (x : List (List ℕ)) → b ≡ a ++ x ∷ [] → m ≡ [] → b ++ m ≡ (a ++ m) ++ x ∷ []
front_behind a b m x e none = ap (λ (l : Lines). l ++ m) e ∙ snoc_left a x m none

pub new_front : (a b m : Lines) (x : List (List ℕ)) → a ≡ [] → b ≡ x ∷ [] → m ≡ [] → b ++ m ≡ (a ++ m) ++ x ∷ []
new_front a b m x none e also =
    ap (λ (l : Lines). l ++ m) e ∙ ap (λ (l : Lines). x ∷ l) also
    ∙ sym (ap (λ (l : Lines). (l ++ m) ++ x ∷ []) none ∙ ap (λ (l : Lines). l ++ x ∷ []) also)

pub each_more : {A : Type 0} (f : A → Lines) (xs : List A) (x : A) → each_lines f (xs ++ x ∷ []) ≡ each_lines f xs ++ f x
each_more f [] x = append-nil (f x)
each_more f (y ∷ xs) x = ap (λ (l : Lines). f y ++ l) (each_more f xs x) ∙ sym (append_assoc (f y) (each_lines f xs) (f x))

pub each_longer : {A : Type 0} (f : A → Lines) (xs : List A) (p q : A) (x : List (List ℕ)) → f q ≡ f p ++ x ∷ []
    → each_lines f (xs ++ q ∷ []) ≡ each_lines f (xs ++ p ∷ []) ++ x ∷ []
each_longer f xs p q x e =
    each_more f xs q ∙ ap (λ (l : Lines). each_lines f xs ++ l) e ∙ sym (append_assoc (each_lines f xs) (f p) (x ∷ []))
    ∙ ap (λ (l : Lines). l ++ x ∷ []) (sym (each_more f xs p))

each_new : {A : Type 0} (f : A → Lines) (xs : List A) (q : A) (x : List (List ℕ)) → f q ≡ x ∷ [] → each_lines f (xs ++ q ∷ []) ≡ each_lines f xs ++ x ∷ []
each_new f xs q x e = each_more f xs q ∙ ap (λ (l : Lines). each_lines f xs ++ l) e

-- one more line of the open piece
pub piece_body : (names : List (List ℕ × Kind)) (kind : UnitKind) (mark : Mark) (u : UnitSoFar) (q : PieceSoFar) (x : List (List ℕ)) → Ready kind mark u
    → piece_lines names q.piece ≡ piece_lines names u.piece.piece ++ x ∷ []
    → body_lines names kind (units.placed_as (Some mark) q (record u { piece = q }))
    ≡ body_lines names kind (units.placed_as (Some mark) u.piece u) ++ x ∷ []
piece_body names (unit.Summary entered) Pre u q x ready e =
    let m = marked_lines (codes "pre") names in
    front_behind (m u.piece.piece) (m q.piece) (all_marked (codes "post") names u.later) x (ap (λ (l : Lines). (codes "pre" ∷ []) ∷ l) e)
    (ap (all_marked (codes "post") names) ready.1)
piece_body names (unit.Summary entered) Post u q x ready e =
    let m = marked_lines (codes "post") names in
    in_back (maybe_marked (codes "pre") names u.pre) (each_lines m (u.later ++ u.piece.piece ∷ [])) (each_lines m (u.later ++ q.piece ∷ [])) x
    (each_longer m u.later u.piece.piece q.piece x (ap (λ (l : Lines). (codes "post" ∷ []) ∷ l) e))
piece_body names (unit.Loop test repeated) Case u q x ready e =
    let m = marked_lines (codes "case") names in
    front_behind (each_lines m (u.cases ++ u.piece.piece ∷ [])) (each_lines m (u.cases ++ q.piece ∷ [])) (all_marked (codes "exit") names u.later) x
    (each_longer m u.cases u.piece.piece q.piece x (ap (λ (l : Lines). (codes "case" ∷ []) ∷ l) e)) (ap (all_marked (codes "exit") names) ready)
piece_body names (unit.Loop test repeated) Exit u q x ready e =
    let m = marked_lines (codes "exit") names in
    in_back (all_marked (codes "case") names u.cases) (each_lines m (u.later ++ u.piece.piece ∷ [])) (each_lines m (u.later ++ q.piece ∷ [])) x
    (each_longer m u.later u.piece.piece q.piece x (ap (λ (l : Lines). (codes "exit" ∷ []) ∷ l) e))
piece_body names (unit.Command index) After u q x ready e =
    let m = marked_lines (codes "after") names in
    let visit = maybe_marked (codes "visit") names u.visit in
    let keeps = maybe_marked (codes "keeps") names u.keeps in
    front_behind (m u.piece.piece) (m q.piece) (visit ++ keeps) x (ap (λ (l : Lines). (codes "after" ∷ []) ∷ l) e)
    (ap (λ o. maybe_marked (codes "visit") names o ++ keeps) ready.1 ∙ ap (maybe_marked (codes "keeps") names) ready.2)
piece_body names (unit.Command index) Visit u q x ready e =
    let m = marked_lines (codes "visit") names in
    let after = maybe_marked (codes "after") names u.after in
    let keeps = maybe_marked (codes "keeps") names u.keeps in
    in_back after (m u.piece.piece ++ keeps) (m q.piece ++ keeps) x
    (front_behind (m u.piece.piece) (m q.piece) keeps x (ap (λ (l : Lines). (codes "visit" ∷ []) ∷ l) e) (ap (maybe_marked (codes "keeps") names) ready.1))
piece_body names (unit.Command index) Keeps u q x ready e =
    let m = marked_lines (codes "keeps") names in
    let after = maybe_marked (codes "after") names u.after in
    let visit = maybe_marked (codes "visit") names u.visit in
    in_back after (visit ++ m u.piece.piece) (visit ++ m q.piece) x (in_back visit (m u.piece.piece) (m q.piece) x (ap (λ (l : Lines). (codes "keeps" ∷ []) ∷ l) e))
piece_body names (unit.Summary entered) Case u q x ready e = absurd (ready)
piece_body names (unit.Summary entered) Exit u q x ready e = absurd (ready)
piece_body names (unit.Summary entered) After u q x ready e = absurd (ready)
piece_body names (unit.Summary entered) Visit u q x ready e = absurd (ready)
piece_body names (unit.Summary entered) Keeps u q x ready e = absurd (ready)
piece_body names (unit.Loop test repeated) Pre u q x ready e = absurd (ready)
piece_body names (unit.Loop test repeated) Post u q x ready e = absurd (ready)
piece_body names (unit.Loop test repeated) After u q x ready e = absurd (ready)
piece_body names (unit.Loop test repeated) Visit u q x ready e = absurd (ready)
piece_body names (unit.Loop test repeated) Keeps u q x ready e = absurd (ready)
piece_body names (unit.Command index) Pre u q x ready e = absurd (ready)
piece_body names (unit.Command index) Post u q x ready e = absurd (ready)
piece_body names (unit.Command index) Case u q x ready e = absurd (ready)
piece_body names (unit.Command index) Exit u q x ready e = absurd (ready)

-- one more piece, without lines yet
pub mark_body : (names : List (List ℕ × Kind)) (kind : UnitKind) (mark : Mark) (u : UnitSoFar) → Ready kind mark u → piece_lines names u.piece.piece ≡ []
    → body_lines names kind (units.placed_as (Some mark) u.piece u) ≡ body_lines names kind u ++ (mark_text mark ∷ []) ∷ []
mark_body names (unit.Summary entered) Pre u ready e =
    new_front (maybe_marked (codes "pre") names u.pre) (marked_lines (codes "pre") names u.piece.piece) (all_marked (codes "post") names u.later) (codes "pre" ∷ [])
    (ap (maybe_marked (codes "pre") names) ready.0) (ap (λ (l : Lines). (codes "pre" ∷ []) ∷ l) e) (ap (all_marked (codes "post") names) ready.1)
mark_body names (unit.Summary entered) Post u ready e =
    let m = marked_lines (codes "post") names in
    in_back (maybe_marked (codes "pre") names u.pre) (each_lines m u.later) (each_lines m (u.later ++ u.piece.piece ∷ [])) (codes "post" ∷ [])
    (each_new m u.later u.piece.piece (codes "post" ∷ []) (ap (λ (l : Lines). (codes "post" ∷ []) ∷ l) e))
mark_body names (unit.Loop test repeated) Case u ready e =
    let m = marked_lines (codes "case") names in
    front_behind (each_lines m u.cases) (each_lines m (u.cases ++ u.piece.piece ∷ [])) (all_marked (codes "exit") names u.later) (codes "case" ∷ [])
    (each_new m u.cases u.piece.piece (codes "case" ∷ []) (ap (λ (l : Lines). (codes "case" ∷ []) ∷ l) e)) (ap (all_marked (codes "exit") names) ready)
mark_body names (unit.Loop test repeated) Exit u ready e =
    let m = marked_lines (codes "exit") names in
    in_back (all_marked (codes "case") names u.cases) (each_lines m u.later) (each_lines m (u.later ++ u.piece.piece ∷ [])) (codes "exit" ∷ [])
    (each_new m u.later u.piece.piece (codes "exit" ∷ []) (ap (λ (l : Lines). (codes "exit" ∷ []) ∷ l) e))
mark_body names (unit.Command index) After u ready e =
    let visit = maybe_marked (codes "visit") names u.visit in
    let keeps = maybe_marked (codes "keeps") names u.keeps in
    new_front (maybe_marked (codes "after") names u.after) (marked_lines (codes "after") names u.piece.piece) (visit ++ keeps) (codes "after" ∷ [])
    (ap (maybe_marked (codes "after") names) ready.0) (ap (λ (l : Lines). (codes "after" ∷ []) ∷ l) e)
    (ap (λ o. maybe_marked (codes "visit") names o ++ keeps) ready.1 ∙ ap (maybe_marked (codes "keeps") names) ready.2)
mark_body names (unit.Command index) Visit u ready e =
    let after = maybe_marked (codes "after") names u.after in
    let visit = maybe_marked (codes "visit") names u.visit in
    let keeps = maybe_marked (codes "keeps") names u.keeps in
    let m = marked_lines (codes "visit") names u.piece.piece in
    in_back after (visit ++ keeps) (m ++ keeps) (codes "visit" ∷ [])
    (new_front visit m keeps (codes "visit" ∷ []) (ap (maybe_marked (codes "visit") names) ready.0) (ap (λ (l : Lines). (codes "visit" ∷ []) ∷ l) e)
    (ap (maybe_marked (codes "keeps") names) ready.1))
mark_body names (unit.Command index) Keeps u ready e =
    let visit = maybe_marked (codes "visit") names u.visit in
    let keeps = maybe_marked (codes "keeps") names u.keeps in
    in_back (maybe_marked (codes "after") names u.after) (visit ++ keeps) (visit ++ marked_lines (codes "keeps") names u.piece.piece) (codes "keeps" ∷ [])
    (in_back visit keeps (marked_lines (codes "keeps") names u.piece.piece) (codes "keeps" ∷ [])
    (ap (λ (l : Lines). (codes "keeps" ∷ []) ∷ l) e ∙ sym (ap (λ o. maybe_marked (codes "keeps") names o ++ (codes "keeps" ∷ []) ∷ []) ready)))
mark_body names (unit.Summary entered) Case u ready e = absurd (ready)
mark_body names (unit.Summary entered) Exit u ready e = absurd (ready)
mark_body names (unit.Summary entered) After u ready e = absurd (ready)
mark_body names (unit.Summary entered) Visit u ready e = absurd (ready)
mark_body names (unit.Summary entered) Keeps u ready e = absurd (ready)
mark_body names (unit.Loop test repeated) Pre u ready e = absurd (ready)
mark_body names (unit.Loop test repeated) Post u ready e = absurd (ready)
mark_body names (unit.Loop test repeated) After u ready e = absurd (ready)
mark_body names (unit.Loop test repeated) Visit u ready e = absurd (ready)
mark_body names (unit.Loop test repeated) Keeps u ready e = absurd (ready)
mark_body names (unit.Command index) Pre u ready e = absurd (ready)
mark_body names (unit.Command index) Post u ready e = absurd (ready)
mark_body names (unit.Command index) Case u ready e = absurd (ready)
mark_body names (unit.Command index) Exit u ready e = absurd (ready)

-- nothing is spelled where no piece has come
pub bare_body : (names : List (List ℕ × Kind)) (kind : UnitKind) (u : UnitSoFar) → Bare kind u → body_lines names kind u ≡ []
bare_body names (unit.Summary entered) u bare =
    ap (λ o. maybe_marked (codes "pre") names o ++ all_marked (codes "post") names u.later) bare.0 ∙ ap (all_marked (codes "post") names) bare.1
bare_body names (unit.Loop test repeated) u bare =
    ap (λ l. all_marked (codes "case") names l ++ all_marked (codes "exit") names u.later) bare.0 ∙ ap (all_marked (codes "exit") names) bare.1
bare_body names (unit.Command index) u bare =
    ap (λ o. maybe_marked (codes "after") names o ++ (maybe_marked (codes "visit") names u.visit ++ maybe_marked (codes "keeps") names u.keeps)) bare.0
    ∙ ap (λ o. maybe_marked (codes "visit") names o ++ maybe_marked (codes "keeps") names u.keeps) bare.1
    ∙ ap (maybe_marked (codes "keeps") names) bare.2

if_none : (o : Option Piece) (P : Piece → Type 0) → o ≡ None → IfSome o P
if_none o P none = subst (λ x. IfSome x P) (sym none) tt

-- nothing is beyond a limit where no piece has come
pub bare_good : (style : Style) (kind : UnitKind) (entry : Bool) (u : UnitSoFar) → Bare kind u → Good style kind entry u
bare_good style (unit.Summary entered) entry u bare = (
  if_none u.pre (IsPiece style entry entry 0) bare.0,
  each_none (IsPiece style entry entry (first_post u.pre)) u.later bare.1,
  bare.2 ∙ sym (ap first_post bare.0),
)
bare_good style (unit.Loop test repeated) entry u bare =
    (each_none (IsPiece style entry entry 0) u.cases bare.0, each_none (IsPiece style entry entry 0) u.later bare.1)
bare_good style (unit.Command index) entry u bare = (
  if_none u.after (IsPiece style true false 0) bare.0,
  if_none u.visit (IsPiece style true true 0) bare.1,
  if_none u.keeps (IsPiece style true false 0) bare.2,
)

-- the first piece of a unit
pub bare_ready : (kind : UnitKind) (mark : Mark) (u : UnitSoFar) → Bare kind u → units.may_follow kind None mark ≡ true → Ready kind mark u
bare_ready (unit.Summary entered) mark u bare e = by_mark mark e
  where
    by_mark : (m : Mark) → units.in_summary None m ≡ true → Ready (unit.Summary entered) m u
    by_mark Pre f = (bare.0, bare.1)
    by_mark _ f = absurd (cc)
bare_ready (unit.Loop test repeated) mark u bare e = by_mark mark e
  where
    by_mark : (m : Mark) → units.in_loop None m ≡ true → Ready (unit.Loop test repeated) m u
    by_mark Case f = bare.1
    by_mark _ f = absurd (cc)
bare_ready (unit.Command index) mark u bare e = by_mark mark e
  where
    by_mark : (m : Mark) → units.in_command None m ≡ true → Ready (unit.Command index) m u
    by_mark After f = bare
    by_mark Visit f = (bare.1, bare.2)
    by_mark Keeps f = bare.2
    by_mark _ f = absurd (cc)

some_more : {A : Type 0} (xs : List A) (x : A) → 1 ≤ length (xs ++ x ∷ [])
some_more xs x = let long : length (xs ++ x ∷ []) ≡ length xs + length (x ∷ []) = length-append xs (x ∷ []) in omega (arith, long)

-- a further piece of a unit
pub ready_next : (kind : UnitKind) (last mark : Mark) (u : UnitSoFar) (next : PieceSoFar) → Ready kind last u → units.may_follow kind (Some last) mark ≡ true
    → Ready kind mark (units.placed_as (Some last) next u)
ready_next (unit.Summary entered) last mark u next ready e = by_last last ready e
  where
    behind_pre : (m : Mark) → units.in_summary (Some Pre) m ≡ true → Ready (unit.Summary entered) m (units.placed_as (Some Pre) next u)
    behind_pre Post f = (u.piece.piece, refl)
    behind_pre _ f = absurd (cc)

    behind_post : (m : Mark) → Ready (unit.Summary entered) Post u → units.in_summary (Some Post) m ≡ true
        → Ready (unit.Summary entered) m (units.placed_as (Some Post) next u)
    behind_post Post r f = r
    behind_post _ r f = absurd (cc)

    by_last : (l : Mark) → Ready (unit.Summary entered) l u → units.in_summary (Some l) mark ≡ true
        → Ready (unit.Summary entered) mark (units.placed_as (Some l) next u)
    by_last Pre r f = behind_pre mark f
    by_last Post r f = behind_post mark r f
    by_last _ r f = absurd (r)
ready_next (unit.Loop test repeated) last mark u next ready e = by_last last ready e
  where
    behind_case : (m : Mark) → Ready (unit.Loop test repeated) Case u → units.in_loop (Some Case) m ≡ true
        → Ready (unit.Loop test repeated) m (units.placed_as (Some Case) next u)
    behind_case Case r f = r
    behind_case Exit r f = some_more u.cases u.piece.piece
    behind_case _ r f = absurd (cc)

    behind_exit : (m : Mark) → Ready (unit.Loop test repeated) Exit u → units.in_loop (Some Exit) m ≡ true
        → Ready (unit.Loop test repeated) m (units.placed_as (Some Exit) next u)
    behind_exit Exit r f = r
    behind_exit _ r f = absurd (cc)

    by_last : (l : Mark) → Ready (unit.Loop test repeated) l u → units.in_loop (Some l) mark ≡ true
        → Ready (unit.Loop test repeated) mark (units.placed_as (Some l) next u)
    by_last Case r f = behind_case mark r f
    by_last Exit r f = behind_exit mark r f
    by_last _ r f = absurd (r)
ready_next (unit.Command index) last mark u next ready e = by_last last ready e
  where
    behind_after : (m : Mark) → Ready (unit.Command index) After u → units.in_command (Some After) m ≡ true
        → Ready (unit.Command index) m (units.placed_as (Some After) next u)
    behind_after Visit r f = (r.1, r.2)
    behind_after Keeps r f = r.2
    behind_after _ r f = absurd (cc)

    behind_visit : (m : Mark) → Ready (unit.Command index) Visit u → units.in_command (Some Visit) m ≡ true
        → Ready (unit.Command index) m (units.placed_as (Some Visit) next u)
    behind_visit Keeps r f = r.1
    behind_visit _ r f = absurd (cc)

    behind_keeps : (m : Mark) → units.in_command (Some Keeps) m ≡ true → Ready (unit.Command index) m (units.placed_as (Some Keeps) next u)
    behind_keeps Pre f = absurd (cc)
    behind_keeps Post f = absurd (cc)
    behind_keeps Case f = absurd (cc)
    behind_keeps Exit f = absurd (cc)
    behind_keeps After f = absurd (cc)
    behind_keeps Visit f = absurd (cc)
    behind_keeps Keeps f = absurd (cc)

    by_last : (l : Mark) → Ready (unit.Command index) l u → units.in_command (Some l) mark ≡ true
        → Ready (unit.Command index) mark (units.placed_as (Some l) next u)
    by_last After r f = behind_after mark r f
    by_last Visit r f = behind_visit mark r f
    by_last Keeps r f = behind_keeps mark f
    by_last _ r f = absurd (r)

-- a piece that is closed keeps its limits among the others
pub close_good : (style : Style) (kind : UnitKind) (mark : Mark) (u : UnitSoFar) (next : PieceSoFar) → Ready kind mark u → Good style kind u.entry u
    → IsPiece style (units.is_at_entry kind u.entry) (units.may_have_pos kind u.entry mark) (units.first_symbol mark u.symbols) u.piece.piece
    → u.piece.next ≡ next_behind (units.first_symbol mark u.symbols) (places_of u.piece.piece)
    → Good style kind u.entry (units.placed_as (Some mark) next u)
close_good style (unit.Summary entered) Pre u next ready good is place =
    (is, each_none (IsPiece style u.entry u.entry (first_post (Some u.piece.piece))) u.later ready.1, place)
close_good style (unit.Summary entered) Post u next ready good is place = (
  good.0,
  each_snoc (IsPiece style u.entry u.entry (first_post u.pre)) u.later u.piece.piece good.1
      (subst (λ (n : ℕ). IsPiece style u.entry u.entry n u.piece.piece) good.2 is),
  good.2,
)
close_good style (unit.Loop test repeated) Case u next ready good is place =
    (each_snoc (IsPiece style u.entry u.entry 0) u.cases u.piece.piece good.0 is, good.1)
close_good style (unit.Loop test repeated) Exit u next ready good is place =
    (good.0, each_snoc (IsPiece style u.entry u.entry 0) u.later u.piece.piece good.1 is)
close_good style (unit.Command index) After u next ready good is place = (is, good.1, good.2)
close_good style (unit.Command index) Visit u next ready good is place = (good.0, is, good.2)
close_good style (unit.Command index) Keeps u next ready good is place = (good.0, good.1, is)
close_good style (unit.Summary entered) Case u next ready good is place = absurd (ready)
close_good style (unit.Summary entered) Exit u next ready good is place = absurd (ready)
close_good style (unit.Summary entered) After u next ready good is place = absurd (ready)
close_good style (unit.Summary entered) Visit u next ready good is place = absurd (ready)
close_good style (unit.Summary entered) Keeps u next ready good is place = absurd (ready)
close_good style (unit.Loop test repeated) Pre u next ready good is place = absurd (ready)
close_good style (unit.Loop test repeated) Post u next ready good is place = absurd (ready)
close_good style (unit.Loop test repeated) After u next ready good is place = absurd (ready)
close_good style (unit.Loop test repeated) Visit u next ready good is place = absurd (ready)
close_good style (unit.Loop test repeated) Keeps u next ready good is place = absurd (ready)
close_good style (unit.Command index) Pre u next ready good is place = absurd (ready)
close_good style (unit.Command index) Post u next ready good is place = absurd (ready)
close_good style (unit.Command index) Case u next ready good is place = absurd (ready)
close_good style (unit.Command index) Exit u next ready good is place = absurd (ready)

longer : {A : Type 0} (xs : List A) (x : A) → length (xs ++ x ∷ []) ≡ length xs + 1
longer xs x = let long : length (xs ++ x ∷ []) ≡ length xs + length (x ∷ []) = length-append xs (x ∷ []) in omega (arith, long)

-- a piece that is closed is one more
pub count_more : (kind : UnitKind) (mark : Mark) (u : UnitSoFar) (next : PieceSoFar) (n : ℕ) → Ready kind mark u → Counted kind n u
    → Counted kind (n + 1) (units.placed_as (Some mark) next u)
count_more (unit.Summary entered) mark u next n ready e = by_mark mark ready
  where
    by_mark : (m : Mark) → Ready (unit.Summary entered) m u → Counted (unit.Summary entered) (n + 1) (units.placed_as (Some m) next u)
    by_mark Pre r = let none : one_if u.pre ≡ 0 = ap one_if r.0 in omega (arith, e, none)
    by_mark Post r = let long = longer u.later u.piece.piece in omega (arith, e, long)
    by_mark _ r = absurd (r)
count_more (unit.Loop test repeated) mark u next n ready e = by_mark mark ready
  where
    by_mark : (m : Mark) → Ready (unit.Loop test repeated) m u → Counted (unit.Loop test repeated) (n + 1) (units.placed_as (Some m) next u)
    by_mark Case r = let long = longer u.cases u.piece.piece in omega (arith, e, long)
    by_mark Exit r = let long = longer u.later u.piece.piece in omega (arith, e, long)
    by_mark _ r = absurd (r)
count_more (unit.Command index) mark u next n ready e = tt

-- the number of the first new symbol of a piece has 32 bits
pub start_small : (style : Style) (kind : UnitKind) (mark : Mark) (u : UnitSoFar) → Ready kind mark u → Good style kind u.entry u
    → units.first_symbol mark u.symbols ≤ MOST_NUMBER
start_small style kind Post u ready good = by_kind kind ready good
  where
    post_small : (o : Option Piece) → first_post o ≤ MOST_NUMBER
    post_small None = lit≤ tt
    post_small (Some piece) = behind_small 0 (places_of piece) (lit≤ tt)

    by_kind : (k : UnitKind) → Ready k Post u → Good style k u.entry u → u.symbols ≤ MOST_NUMBER
    by_kind (unit.Summary entered) r g = subst (λ (n : ℕ). n ≤ MOST_NUMBER) (sym g.2) (post_small u.pre)
    by_kind (unit.Loop test repeated) r g = absurd (r)
    by_kind (unit.Command index) r g = absurd (r)
start_small style kind _ u ready good = lit≤ tt

-- the pieces that a unit must have are there where its hints come
pub full_last : (kind : UnitKind) (last : Mark) (u : UnitSoFar) (next : PieceSoFar) → Ready kind last u → Full kind (units.placed_as (Some last) next u)
full_last (unit.Summary entered) last u next ready = by_last last ready
  where
    by_last : (l : Mark) → Ready (unit.Summary entered) l u → Full (unit.Summary entered) (units.placed_as (Some l) next u)
    by_last Pre r = (u.piece.piece, refl)
    by_last Post r = r
    by_last _ r = absurd (r)
full_last (unit.Loop test repeated) last u next ready = by_last last ready
  where
    by_last : (l : Mark) → Ready (unit.Loop test repeated) l u → Full (unit.Loop test repeated) (units.placed_as (Some l) next u)
    by_last Case r = some_more u.cases u.piece.piece
    by_last Exit r = r
    by_last _ r = absurd (r)
full_last (unit.Command index) last u next ready = tt
