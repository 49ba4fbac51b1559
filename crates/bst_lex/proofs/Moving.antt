-- The cursor stays within its source, at the place of the next byte.
use Rattle.std.proofs.Common.{◌≡◌, ℕ, zero, suc, ◌+◌, ◌-◌, ◌≤◌, List, [], ◌∷◌, length, take, drop, sym, ap, ◌∙◌, arith, length-drop}
use Rattle.std.proofs.lemmas.List.{drop-drop}
use Rattle.std.proofs.Math.Seq.{take-nil}
use Rattle.bv_base.specs.declared.place.Place.{Place}
use Rattle.bst_lex.specs.Lexer.{Stands}
use Rattle.bv_base.specs.Places.{after_byte, after_bytes, first_place, place_at}

pub place_more : (start count : ℕ) (source : List ℕ) (place : Place)
    → after_bytes (take count (drop start source)) (after_bytes (take start source) place)
    ≡ after_bytes (take (start + count) source) place
place_more zero count source place =
    ap (λ n. after_bytes (take n source) place) {x = count} {y = 0 + count} (omega arith)
place_more (suc start) count [] place =
    ap (λ bytes. after_bytes bytes place) (take-nil count ∙ sym (take-nil (suc start + count)))
place_more (suc start) count (b ∷ source) place =
    place_more start count source (after_byte b place)
    ∙ ap (λ n. after_bytes (take n (b ∷ source)) place) {x = suc (start + count)} {y = suc start + count} (omega arith)

pub stands_moved : (source : List ℕ) (start : ℕ) (place : Place) (rest : List ℕ) (count to : ℕ) (at : Place) (left : List ℕ)
    → Stands source start place rest → count ≤ length rest
    → to ≡ start + count → at ≡ after_bytes (take count rest) place → left ≡ drop count rest
    → at.line ≤ to + 1 → at.column ≤ to + 1 → Stands source to at left
stands_moved source start place rest count to at left h most e f g line column = record {
  small = h.small;
  within =
      let all : length rest ≡ length source - start = ap length h.rest_is ∙ length-drop start source in
      let before : start ≤ length source = h.within in omega arith;
  rest_is = g ∙ ap (drop count) h.rest_is ∙ drop-drop count start source ∙ ap (λ n. drop n source) (sym e);
  place_is =
      f ∙ ap (λ bytes. after_bytes (take count bytes) place) h.rest_is
      ∙ ap (after_bytes (take count (drop start source))) h.place_is
      ∙ place_more start count source first_place
      ∙ ap (place_at source) (sym e);
  line = line;
  column = column;
}

-- the place after all that is left is that of the source's end
pub end_place : (source : List ℕ) (start : ℕ) (place : Place) (rest : List ℕ) (at : Place)
    → Stands source start place rest → at ≡ after_bytes (take (length rest) rest) place
    → at ≡ place_at source (length source)
end_place source start place rest at h is =
    let all : length rest ≡ length source - start = ap length h.rest_is ∙ length-drop start source in
    let before : start ≤ length source = h.within in
    let whole : start + length rest ≡ length source = omega arith in
    is
    ∙ ap (λ bytes. after_bytes (take (length rest) bytes) place) h.rest_is
    ∙ ap (after_bytes (take (length rest) (drop start source))) h.place_is
    ∙ place_more start (length rest) source first_place
    ∙ ap (place_at source) whole
