-- What holds of each text and of each special character because it holds of what is left behind their first piece.
use Rattle.std.proofs.Common.{◌≡◌, ℕ, zero, suc, ◌+◌, ◌≤◌, List, [], ◌∷◌, ◌++◌, length, drop, refl, ap, arith, Bool, true, false, nat_eq}
use Rattle.std.proofs.lemmas.List.{length-append, length-drop}
use Rattle.bv_base.specs.Levels.{next_level, is_closing, inside, closing, beyond, begins_special}
use Rattle.text_ops.proofs.PieceSteps.{beyond_bound}

module _ (P : ℕ → List ℕ → Type 0) (none : (level : ℕ) → P level [])
    (plain : (level b : ℕ) (bs : List ℕ) → begins_special level (b ∷ bs) ≡ false → P (next_level level b) bs → P level (b ∷ bs))
    (special : (level b : ℕ) (bs : List ℕ) → begins_special level (b ∷ bs) ≡ true → P level (beyond 1 bs) → P level (b ∷ bs)) where
  within : (most level : ℕ) (text : List ℕ) → length text ≤ most → P level text
  within most level [] h = none level
  within zero level (b ∷ bs) h = absurd (omega arith)
  within (suc most) level (b ∷ bs) h =
      let M : Bool → Type 0 = λ v. begins_special level (b ∷ bs) ≡ v → P level (b ∷ bs) in
      (elim (begins_special level (b ∷ bs)) as M [
        | true ↦ λ e. special level b bs e (within most level (beyond 1 bs) (omega (arith, beyond_bound 1 bs)))
        | false ↦ λ e. plain level b bs e (within most (next_level level b) bs (omega arith))
      ]) refl

  pub by_pieces : (level : ℕ) (text : List ℕ) → P level text
  by_pieces level text = within (length text) level text (omega arith)

-- a control word takes so many of the bytes after its `\`
module _ (taken : List ℕ → ℕ) (P : List ℕ → Type 0) (none : P [])
    (other : (b : ℕ) (bs : List ℕ) → nat_eq b 92 ≡ false → P bs → P (b ∷ bs))
    (word : (b : ℕ) (bs : List ℕ) → nat_eq b 92 ≡ true → P (drop (taken bs) bs) → P (b ∷ bs)) where
  inner_within : (most : ℕ) (inner : List ℕ) → length inner ≤ most → P inner
  inner_within most [] h = none
  inner_within zero (b ∷ bs) h = absurd (omega arith)
  inner_within (suc most) (b ∷ bs) h =
      let M : Bool → Type 0 = λ v. nat_eq b 92 ≡ v → P (b ∷ bs) in
      (elim (nat_eq b 92) as M [
        | true ↦ λ e. word b bs e (inner_within most (drop (taken bs) bs) (simp length-drop (omega arith)))
        | false ↦ λ e. other b bs e (inner_within most bs (omega arith))
      ]) refl

  pub by_parts : (inner : List ℕ) → P inner
  by_parts inner = inner_within (length inner) inner (omega arith)

-- a special character and what follows it make up the text
pub special_whole : (level : ℕ) (bs : List ℕ) → (inside level bs ++ closing level bs) ++ beyond level bs ≡ bs
special_whole level [] = refl
special_whole level (b ∷ bs) =
    let M : Bool → Type 0 = λ v. is_closing level b ≡ v → (inside level (b ∷ bs) ++ closing level (b ∷ bs)) ++ beyond level (b ∷ bs) ≡ b ∷ bs in
    (elim (is_closing level b) as M [ true ↦ λ e. rw e refl | false ↦ λ e. rw e (ap (λ xs. b ∷ xs) (special_whole (next_level level b) bs)) ]) refl

pub special_lengths : (bs : List ℕ) → length (inside 1 bs) + length (beyond 1 bs) ≤ length bs
special_lengths bs = omega (arith, ap length (special_whole 1 bs), length-append (inside 1 bs ++ closing 1 bs) (beyond 1 bs), length-append (inside 1 bs) (closing 1 bs))
