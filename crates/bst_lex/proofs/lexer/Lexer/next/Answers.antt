-- Behind a gap the cursor stands at the end, at a lexeme or at a fault.
use Rattle.std.proofs.Common.{◌≡◌, ◌<◌, ◌≤◌, ◌∷◌, length, List, Bool, true, false, nat_eq, Ok, IfOk, ℕ, ap, sym, ◌∙◌, subst, arith, eqb-true, refl}
use Rattle.std.proofs.lemmas.Bool.{eqb-false}
use Rattle.bv_base.specs.declared.place.Place.{Place}
use Rattle.bv_base.specs.Places.{place_at}
use Rattle.bst_lex.specs.declared.lexeme.Piece.{Piece}
use Rattle.bst_lex.specs.Lexemes.{Reading, reading_at}
use Rattle.bst_lex.specs.Pieces.{gap_at, piece_at}
use Rattle.bst_lex.proofs.Moving.{stands_moved}
use Rattle.bst_lex.proofs.Reaching.{Reaches, piece_reaches}
use Rattle.bst_lex.proofs.Remaining.{at_end, after_piece, at_fault, source_kept}
use Rattle.bst_lex.proofs.lexer.Lexer.next.Goals as goal

none_left : (count : ℕ) (empty : Bool) → empty ≡ nat_eq count 0 → empty ≡ true → count ≡ 0
none_left count empty e f = eqb-true count 0 (sym e ∙ f)

some_left : (count : ℕ) (empty : Bool) → empty ≡ nat_eq count 0 → empty ≡ false → 0 < count
some_left count empty e f =
    let other : count ≡ 0 → ⊥ = eqb-false count 0 (sym e ∙ f) in omega arith

-- the lexeme that is found ends within the source
within : (place : Place) (rest : List ℕ) (piece : Piece) → gap_at rest ≡ 0 → 0 < length rest → piece_at place rest ≡ Ok piece
    → piece.length ≤ length rest
within place rest piece gone some ok = (subst (λ r. IfOk r (Reaches (length rest))) ok (piece_reaches place rest gone some)).1

pub invariant_of-self : goal.invariant_of-self
invariant_of-self c = c.after_gap-at.ensures.stands _ c.self.invariant

pub returns-then-is_empty-clause-fault : goal.returns-then-is_empty-clause-fault
returns-then-is_empty-clause-fault c = ap (λ (r : Reading). r.fault) (c.after_gap-at.ensures.reading _ _ ∙ c.self.view_is)

pub returns-then-is_empty-clause-lexeme : goal.returns-then-is_empty-clause-lexeme
returns-then-is_empty-clause-lexeme c =
    let gap = c.after_gap-at.ensures.reading c.self.inside.source.now c.self.inside.failed ∙ c.self.view_is in
    let end = at_end _ _ _ _ _ _ gap c.in_default.is (none_left _ _ c.is_empty.ensures c.if-is_empty.true) in (
      sym (ap (λ (r : Reading). r.left) end),
      sym (ap (λ (r : Reading). r.fault) end),
      ap (λ (r : Reading). r.left) gap ∙ sym (ap (λ (r : Reading). r.left) end),
    )

pub split_at-requires : goal.split_at-requires
split_at-requires c =
    within _ _ _ c.after_gap-at.ensures.gone (some_left _ _ c.is_empty.ensures c.if-is_empty.false)
    (sym c.piece_at.ensures ∙ c.in-Ok.is)

pub invariant_of-self-in-Ok : goal.invariant_of-self-in-Ok
invariant_of-self-in-Ok c =
    stands_moved _ _ _ _ c.in-Ok.piece.length _ _ _ (c.after_gap-at.ensures.stands _ c.self.invariant)
    (within _ _ _ c.after_gap-at.ensures.gone (some_left _ _ c.is_empty.ensures c.if-is_empty.false) (sym c.piece_at.ensures ∙ c.in-Ok.is))
    c.passed-self-inside.ensures.start c.passed-self-inside.ensures.place c.passed-self-inside.ensures.rest c.passed-self-inside.ensures.line c.passed-self-inside.ensures.column

pub invariant_of-self-in-Err : goal.invariant_of-self-in-Err
invariant_of-self-in-Err c = c.after_gap-at.ensures.stands _ c.self.invariant

pub returns-in-Ok-clause-fault : goal.returns-in-Ok-clause-fault
returns-in-Ok-clause-fault c =
    let gap = c.after_gap-at.ensures.reading c.self.inside.source.now c.self.inside.failed ∙ c.self.view_is in
    sym (ap (λ (r : Reading). r.fault)
    (after_piece _ _ _ _ _ c.in-Ok.piece _ _ _ _ gap c.in_default.is c.after_gap-at.ensures.gone
    (sym c.piece_at.ensures ∙ c.in-Ok.is) (some_left _ _ c.is_empty.ensures c.if-is_empty.false)
    c.passed-self-inside.ensures.start c.passed-self-inside.ensures.place c.passed-self-inside.ensures.rest))

pub returns-in-Ok-clause-lexeme : goal.returns-in-Ok-clause-lexeme
returns-in-Ok-clause-lexeme c =
    let gap = c.after_gap-at.ensures.reading c.self.inside.source.now c.self.inside.failed ∙ c.self.view_is in
    let taken = after_piece _ _ _ _ _ c.in-Ok.piece _ _ _ _ gap c.in_default.is c.after_gap-at.ensures.gone
    (sym c.piece_at.ensures ∙ c.in-Ok.is) (some_left _ _ c.is_empty.ensures c.if-is_empty.false)
    c.passed-self-inside.ensures.start c.passed-self-inside.ensures.place c.passed-self-inside.ensures.rest in
    ap (λ (r : Reading). r.left) taken
    ∙ ap (λ text. record { text = text; start = c.after_gap-at.result.start; place = c.after_gap-at.result.place; shape = c.in-Ok.piece.shape }
    ∷ (reading_at c.self.inside.source.now c.self.inside.failed c.passed-self-inside.result.start c.passed-self-inside.result.place c.passed-self-inside.result.rest.now).left)
    (sym c.split_at.ensures.front)

pub returns-in-Ok-clause-place : goal.returns-in-Ok-clause-place
returns-in-Ok-clause-place c =
    (c.after_gap-at.ensures.stands _ c.self.invariant).place_is
    ∙ ap (λ source. place_at source c.after_gap-at.result.start)
    (source_kept c.self.inside.source.now c.self.inside.failed _ _ _ _ c.self.view_is)

pub returns-in-Err-clause-fault : goal.returns-in-Err-clause-fault
returns-in-Err-clause-fault c =
    let gap = c.after_gap-at.ensures.reading c.self.inside.source.now c.self.inside.failed ∙ c.self.view_is in
    ap (λ (r : Reading). r.fault)
    (at_fault _ _ _ _ _ c.in-Err.fault _ gap c.in_default.is c.after_gap-at.ensures.gone
    (sym c.piece_at.ensures ∙ c.in-Err.is) (some_left _ _ c.is_empty.ensures c.if-is_empty.false))

pub returns-in-Err-clause-lexeme : goal.returns-in-Err-clause-lexeme
returns-in-Err-clause-lexeme c =
    let gap = c.after_gap-at.ensures.reading c.self.inside.source.now c.self.inside.failed ∙ c.self.view_is in
    let found = at_fault _ _ _ _ _ c.in-Err.fault _ gap c.in_default.is c.after_gap-at.ensures.gone
    (sym c.piece_at.ensures ∙ c.in-Err.is) (some_left _ _ c.is_empty.ensures c.if-is_empty.false) in
    (sym (ap (λ (r : Reading). r.left) found), sym (ap (λ (r : Reading). r.fault) found), refl)
