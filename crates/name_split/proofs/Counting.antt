-- The commas that are seen from the left.
use Rattle.std.proofs.Common.{◌≡◌, ℕ, ◌&&◌, Bool, true, false, cond, nat_eq, List, [], ◌∷◌, refl, sym, ap, ◌∙◌, subst, arith}
use Rattle.std.proofs.lemmas.Bool.{and_parts}
use Rattle.std.proofs.lemmas.Bool.Decides.{nat_tests}
use Rattle.std.specs.List.{list_all}
use Rattle.bv_base.specs.Levels.{next_level}
use Rattle.name_split.specs.declared.commas.Commas.{Commas}
use Rattle.name_split.specs.declared.commas.Commas.TheVariants.{Zero, Many}
use Rattle.name_split.specs.Commas.{CommasAre, one_more}
use Rattle.name_split.specs.Parts.{ends_in_comma}
use Rattle.name_split.specs.Tokens.{is_joint}

-- more commas
abbrev pub more_commas : Commas → List ℕ → Commas
more_commas seen [] = seen
more_commas seen (comma ∷ found) = more_commas (one_more seen comma) found

many_stay : (found : List ℕ) → more_commas Many found ≡ Many
many_stay [] = refl
many_stay (comma ∷ found) = many_stay found

pub commas_are : (found : List ℕ) → CommasAre (more_commas Zero found) found
commas_are [] = refl
commas_are (a ∷ []) = refl
commas_are (a ∷ b ∷ []) = refl
commas_are (a ∷ b ∷ c ∷ found) =
    subst (λ seen. CommasAre seen (a ∷ b ∷ c ∷ found)) (sym (many_stay found)) (omega arith)

no_comma : (level b : ℕ) → is_joint b ≡ true → (nat_eq level 0 && nat_eq b 44) ≡ false
no_comma level b e = grind (arith, nat_tests)

all_joints : (level : ℕ) (bytes : List ℕ) → list_all is_joint bytes ≡ true → ends_in_comma level bytes ≡ false
all_joints level [] e = refl
all_joints level (b ∷ bytes) e =
    let p = and_parts (is_joint b) (list_all is_joint bytes) e in
    ap (λ v. cond v (nat_eq level 0 && nat_eq b 44) (ends_in_comma (next_level level b) bytes)) p.1
    ∙ no_comma level b p.0

pub end_begun : (all : Bool) (bytes : List ℕ) → list_all is_joint bytes ≡ all
    → cond all false (ends_in_comma 0 bytes) ≡ ends_in_comma 0 bytes
end_begun true bytes e = sym (all_joints 0 bytes e)
end_begun false bytes e = refl
