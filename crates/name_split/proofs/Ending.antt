-- Where a name has no comma none is its last byte, and where its last byte is kept all are.
use Rattle.std.proofs.Common.{◌≡◌, ℕ, zero, suc, ◌+◌, List, [], ◌∷◌, Bool, true, false, nat_eq, length, get_or, refl, arith}
use Rattle.std.specs.Prelude.{◌&&◌}
use Rattle.std.specs.List.{list_all}
use Rattle.std.proofs.lemmas.Bool.Decides.{nat_tests}
use Rattle.bv_base.specs.Levels.{next_level}
use Rattle.name_split.specs.Parts.{commas, ends_in_comma}
use Rattle.name_split.specs.Spans.{kept}
use Rattle.name_split.specs.Tokens.{is_joint}

pub none_last : (at level : ℕ) (bytes : List ℕ) → commas at level bytes ≡ [] → ends_in_comma level bytes ≡ false
none_last at level [] none = refl
none_last at level (b ∷ bytes) none =
    let M : Bool → Type 0 = λ v. (nat_eq level 0 && nat_eq b 44) ≡ v → ends_in_comma level (b ∷ bytes) ≡ false in
    (elim (nat_eq level 0 && nat_eq b 44) as M [
      | true ↦ λ e. absurd (cc (rw e at none))
      | false ↦ λ e.
          let N : Bool → Type 0 = λ v. list_all is_joint bytes ≡ v → ends_in_comma level (b ∷ bytes) ≡ false in
          (elim (list_all is_joint bytes) as N [
            | true ↦ λ f. rw (f, e) refl
            | false ↦ λ f. rw f (none_last (at + 1) (next_level level b) bytes (rw e at none))
          ]) refl
    ]) refl

pub all_kept : (test : ℕ → Bool) (bytes : List ℕ) (n : ℕ) → length bytes ≡ suc n → test (get_or bytes n 0) ≡ false
    → kept test bytes ≡ length bytes
all_kept test [] n some last = absurd (omega arith)
all_kept test (b ∷ []) zero some last = rw last refl
all_kept test (b ∷ []) (suc n) some last = absurd (omega arith)
all_kept test (b ∷ c ∷ bytes) zero some last = absurd (omega arith)
all_kept test (b ∷ c ∷ bytes) (suc n) some last =
    let there : nat_eq (length (c ∷ bytes)) 0 ≡ false = grind (arith, nat_tests) in
    rw (all_kept test (c ∷ bytes) n (omega arith) last, there) refl
