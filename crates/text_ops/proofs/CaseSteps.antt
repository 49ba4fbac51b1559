-- What the first piece of a text adds to the text in another case.
use Rattle.std.proofs.Common.{◌≡◌, ℕ, ◌<◌, ◌⊎◌, inl, inr, List, [], ◌∷◌, ◌++◌, length, get_or, reverse, refl, ap, arith, Bool, true, false}
use Rattle.std.specs.Prelude.{if◌then◌else◌}
use Rattle.std.proofs.lemmas.List.{reverse-append}
use Rattle.std.proofs.lemmas.Bool.Decides.{nat_tests}
use Rattle.bv_base.specs.Levels.{next_level, is_closing, inside, closing, beyond, begins_special, Piece, Plain, pieces_after}
use Rattle.text_ops.specs.ChangeCase.{changed_plain, changed_piece, whole_special, changed_special, begins_title, behind_colon, leaves, changed_pieces}
use Rattle.text_ops.specs.declared.change_case.Case.{Case}
use Rattle.text_ops.proofs.PieceSteps.{tail, special_piece, plain_piece}

pub first_plain : (mode : Case) (before : List ℕ) (level b : ℕ) (ps : List Piece)
    → changed_pieces mode before (Plain level b ∷ ps) ≡ (if leaves mode (begins_title before) then b else changed_plain mode level b) ∷ changed_pieces mode (b ∷ before) ps
first_plain mode before level b ps =
    let M : Bool → Type 0 = λ v. (if v then b ∷ [] else changed_piece mode (Plain level b)) ++ changed_pieces mode (b ∷ before) ps ≡ (if v then b else changed_plain mode level b) ∷ changed_pieces mode (b ∷ before) ps in
    elim (leaves mode (begins_title before)) as M [ true ↦ refl | false ↦ refl ]

pub plain_case : (mode : Case) (before : List ℕ) (level : ℕ) (text : List ℕ) → 0 < length text → begins_special level text ≡ false
    → changed_pieces mode before (pieces_after 0 level text) ≡ (if leaves mode (begins_title before) then get_or text 0 0 else changed_plain mode level (get_or text 0 0)) ∷ changed_pieces mode (get_or text 0 0 ∷ before) (pieces_after 0 (next_level level (get_or text 0 0)) (tail text))
plain_case mode before level text h k = rw (plain_piece level text k h) (first_plain mode before level (get_or text 0 0) _)

pub closed_or_last : (level : ℕ) (bs : List ℕ) → (closing level bs ≡ 125 ∷ []) ⊎ ((closing level bs ≡ []) × (beyond level bs ≡ []))
closed_or_last level [] = inr (refl, refl)
closed_or_last level (b ∷ bs) =
    let M : Bool → Type 0 = λ v. is_closing level b ≡ v → (closing level (b ∷ bs) ≡ 125 ∷ []) ⊎ ((closing level (b ∷ bs) ≡ []) × (beyond level (b ∷ bs) ≡ [])) in
    (elim (is_closing level b) as M [
      | true ↦ λ e. let brace : b ≡ 125 = grind (arith, nat_tests) in inl (rw (e, brace) refl)
      | false ↦ λ e. rw e (closed_or_last (next_level level b) bs)
    ]) refl

-- nothing that stands before a special character counts behind it
pub record Behind (mode : Case) (before : List ℕ) (level : ℕ) (bs : List ℕ) : Type 0 where
  pub before' : List ℕ
  pub title : begins_title before' ≡ false
  pub colon : behind_colon before' ≡ false
  pub same : changed_pieces mode (reverse (whole_special bs) ++ before) (pieces_after 0 level (beyond 1 bs)) ≡ changed_pieces mode before' (pieces_after 0 level (beyond 1 bs))

pub behind_special : (mode : Case) (before : List ℕ) (level : ℕ) (bs : List ℕ) → Behind mode before level bs
behind_special mode before level bs =
    elim (closed_or_last 1 bs) [
      | inl e ↦ let last : reverse (whole_special bs) ≡ 125 ∷ reverse (123 ∷ inside 1 bs) = rw e (reverse-append (123 ∷ inside 1 bs) (125 ∷ [])) in
          record { before' = 125 ∷ (reverse (123 ∷ inside 1 bs) ++ before); title = refl; colon = refl; same = ap (λ xs. changed_pieces mode (xs ++ before) (pieces_after 0 level (beyond 1 bs))) last }
      | inr e ↦ record { before' = 125 ∷ []; title = refl; colon = refl; same = rw e.1 refl }
    ]

pub special_case : (mode : Case) (before : List ℕ) (level : ℕ) (text : List ℕ) (v : Bool) → begins_special level text ≡ true → leaves mode (begins_title before) ≡ v
    → changed_pieces mode before (pieces_after 0 level text) ≡ (if v then whole_special (tail text) else changed_special mode (tail text)) ++ changed_pieces mode (reverse (whole_special (tail text)) ++ before) (pieces_after 0 level (beyond 1 (tail text)))
special_case mode before level text v h e = rw (special_piece level text h, e) refl
