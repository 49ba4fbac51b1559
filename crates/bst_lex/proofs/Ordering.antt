-- What the grammar spells stands in order.
use Rattle.std.proofs.Common.{◌≡◌, ℕ, ◌+◌, ◌-◌, ◌<◌, List, [], ◌∷◌, ◌++◌, length, take, drop, Option, sym, ap, ◌∙◌, arith}
use Rattle.std.proofs.lemmas.List.{length-drop, length-append, drop-drop}
use Rattle.std.proofs.Math.Seq.{take-append_seam, drop-append_seam}
use Rattle.bv_base.specs.declared.place.Place.{Place}
use Rattle.bst_lex.specs.declared.lexeme.LexFault.{LexFault}
use Rattle.bst_lex.specs.Grammar.{spaces, Spells}
use Rattle.bst_lex.specs.Lexemes.{Seen}
use Rattle.bst_lex.specs.Order.{InOrder}
use Rattle.bv_base.specs.Places.{after_bytes, first_place, place_at}
use Rattle.bst_lex.proofs.Moving.{place_more}
use Rattle.bst_lex.proofs.Reading.{lexeme_some}

-- what is left after a front of what is left
pub left_after : (source : List ℕ) (from : ℕ) (front rest : List ℕ) → drop from source ≡ front ++ rest
    → drop (from + length front) source ≡ rest
left_after source from front rest e =
    sym (drop-drop (length front) from source) ∙ ap (drop (length front)) e ∙ drop-append_seam front rest

-- the place after a front of what is left
pub place_after : (source : List ℕ) (from : ℕ) (front rest : List ℕ) → drop from source ≡ front ++ rest
    → after_bytes front (place_at source from) ≡ place_at source (from + length front)
place_after source from front rest e =
    ap (λ xs. after_bytes xs (place_at source from)) (sym (ap (take (length front)) e ∙ take-append_seam front rest))
    ∙ place_more from (length front) source first_place

pub in_order : (source : List ℕ) (from : ℕ) (place : Place) (bytes : List ℕ) (lexemes : List Seen) (fault : Option LexFault)
    → drop from source ≡ bytes → place ≡ place_at source from → Spells from place bytes lexemes fault
    → InOrder source from lexemes
in_order source from place bytes [] fault e p spells = tt
in_order source from place bytes (lexeme ∷ lexemes) fault e p (gap, rest, is, rule, start_is, place_is, lexeme_is, more) =
    let text : List ℕ = lexeme.text in
    let all : List ℕ = text ++ rest in
    let here : drop from source ≡ spaces gap ++ all = e ∙ is in
    let there : drop lexeme.start source ≡ all =
    ap (λ n. drop n source) start_is ∙ left_after source from (spaces gap) all here in
    let some : 0 < length text = lexeme_some lexeme.shape text rest lexeme_is in
    let count : lexeme.start - from ≡ length (spaces gap) = omega arith in
    let place_here : lexeme.place ≡ place_at source lexeme.start =
    place_is ∙ ap (after_bytes (spaces gap)) p ∙ place_after source from (spaces gap) all here
    ∙ ap (place_at source) (sym start_is) in (
      record {
        after = omega arith;
        gap = gap;
        between = ap (λ n. take n (drop from source)) count ∙ ap (take (length (spaces gap))) here ∙ take-append_seam (spaces gap) all;
        some = some;
        within =
            (let left : length (drop lexeme.start source) ≡ length source - lexeme.start = length-drop lexeme.start source in
            let whole : length all ≡ length text + length rest = length-append text rest in
            let same : length (drop lexeme.start source) ≡ length all = ap length there in
            omega arith);
        slice = sym (ap (take (length text)) there ∙ take-append_seam text rest);
        place_is = place_here;
      },
      in_order source (lexeme.start + length text) (after_bytes text lexeme.place) rest lexemes fault
          (left_after source lexeme.start text rest there)
          (ap (after_bytes text) place_here ∙ place_after source lexeme.start text rest there)
          more,
    )
