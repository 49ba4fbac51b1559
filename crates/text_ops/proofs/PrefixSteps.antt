-- What the first piece of a text adds to its prefix of so many text characters.
use Rattle.std.proofs.Common.{◌≡◌, ℕ, suc, ◌-◌, ◌<◌, List, ◌∷◌, ◌++◌, length, get_or, refl, arith, Bool, true, false}
use Rattle.std.specs.List.{flat_map}
use Rattle.std.specs.Prelude.{if◌then◌else◌}
use Rattle.text_ops.proofs.PieceSteps.{tail, unclosed_special, plain_piece}
use Rattle.text_ops.specs.TextPrefix.{first_characters}
use Rattle.bv_base.specs.Levels.{next_level, level_after, inside, closing, beyond, begins_special, is_brace, Piece, Plain, Special, pieces_after, spelling}

first_special : (n m : ℕ) (inner close : List ℕ) (ps : List Piece) → n ≡ suc m → flat_map spelling (first_characters n (Special inner close ∷ ps)) ≡ 123 ∷ ((inner ++ close) ++ flat_map spelling (first_characters m ps))
first_special n m inner close ps e = rw e refl

first_plain : (n m level b : ℕ) (ps : List Piece) → n ≡ suc m → flat_map spelling (first_characters n (Plain level b ∷ ps)) ≡ b ∷ flat_map spelling (first_characters (if is_brace b then n else m) ps)
first_plain n m level b ps e =
    let M : Bool → Type 0 = λ v. is_brace b ≡ v → flat_map spelling (first_characters n (Plain level b ∷ ps)) ≡ b ∷ flat_map spelling (first_characters (if is_brace b then n else m) ps) in
    (elim (is_brace b) as M [ true ↦ λ k. rw (e, k) refl | false ↦ λ k. rw (e, k) refl ]) refl

pub prefix_special : (n level : ℕ) (text : List ℕ) → 0 < n → begins_special level text ≡ true
    → flat_map spelling (first_characters n (pieces_after 0 level text)) ≡ 123 ∷ ((inside 1 (tail text) ++ closing 1 (tail text)) ++ flat_map spelling (first_characters (n - 1) (pieces_after 0 (level_after 1 (inside 1 (tail text) ++ closing 1 (tail text))) (beyond 1 (tail text)))))
prefix_special n level text h k = rw (unclosed_special level text k) (first_special n (n - 1) _ _ _ (omega arith))

pub prefix_plain : (n level : ℕ) (text : List ℕ) → 0 < n → begins_special level text ≡ false → 0 < length text
    → flat_map spelling (first_characters n (pieces_after 0 level text)) ≡ get_or text 0 0 ∷ flat_map spelling (first_characters (if is_brace (get_or text 0 0) then n else n - 1) (pieces_after 0 (next_level level (get_or text 0 0)) (tail text)))
prefix_plain n level text h k j = rw (plain_piece level text k j) (first_plain n (n - 1) level _ _ (omega arith))
