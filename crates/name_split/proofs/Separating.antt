-- Where a separator stands, and what follows it.
use Rattle.std.proofs.Common.{◌≡◌, ℕ, ◌+◌, ◌≤◌, ◌&&◌, Bool, true, false, cond, nat_eq, List, [], ◌∷◌, length, drop, ap, ◌∙◌, arith, eqb-true}
use Rattle.std.proofs.lemmas.Bool.{and_parts}
use Rattle.std.proofs.lemmas.Bool.Decides.{nat_tests}
use Rattle.bv_base.specs.Bytes.{is_white, lower}
use Rattle.bv_base.specs.Levels.{next_level}
use Rattle.name_split.specs.Names.{begins_and, begins_separator, separators}

letter_level : (b c : ℕ) → nat_eq (lower b) c ≡ true → 97 ≤ c → c ≤ 110 → next_level 0 b ≡ 0
letter_level b c e f g = grind (arith, nat_tests)

letter_plain : (b c : ℕ) → nat_eq (lower b) c ≡ true → 97 ≤ c → c ≤ 110 → is_white b ≡ false
letter_plain b c e f g = grind (arith, nat_tests)

-- a letter is passed over
pass : (at : ℕ) (b c : ℕ) (bytes : List ℕ) → nat_eq (lower b) c ≡ true → 97 ≤ c → c ≤ 110
    → separators at 0 false (b ∷ bytes) ≡ separators (at + 1) 0 false bytes
pass at b c bytes e f g =
    ap (λ level. separators (at + 1) level (is_white b) bytes) (letter_level b c e f g)
    ∙ ap (λ white. separators (at + 1) 0 white bytes) (letter_plain b c e f g)

pub separator_found : (at : ℕ) (text : List ℕ) → begins_and text ≡ true
    → (3 ≤ length text) × (separators at 0 true text ≡ at ∷ separators (at + 3) 0 false (drop 3 text))
separator_found at [] e = cc
separator_found at (a ∷ []) e = cc
separator_found at (a ∷ n ∷ []) e = cc
separator_found at (a ∷ n ∷ d ∷ []) e = cc
separator_found at (a ∷ n ∷ d ∷ w ∷ bytes) e =
    let p = and_parts (nat_eq (lower a) 97 && nat_eq (lower n) 110 && nat_eq (lower d) 100) (is_white w) e in
    let q = and_parts (nat_eq (lower a) 97 && nat_eq (lower n) 110) (nat_eq (lower d) 100) p.0 in
    let r = and_parts (nat_eq (lower a) 97) (nat_eq (lower n) 110) q.0 in
    let more : List ℕ = separators (at + 1) (next_level 0 a) (is_white a) (n ∷ d ∷ w ∷ bytes) in (
      omega arith,
      ap (λ v. cond v (at ∷ more) more) e
          ∙ ap (λ xs. at ∷ xs)
          (ap (λ level. separators (at + 1) level (is_white a) (n ∷ d ∷ w ∷ bytes)) (letter_level a 97 r.0 (omega arith) (omega arith))
          ∙ ap (λ white. separators (at + 1) 0 white (n ∷ d ∷ w ∷ bytes)) (letter_plain a 97 r.0 (omega arith) (omega arith))
          ∙ pass (at + 1) n 110 (d ∷ w ∷ bytes) r.1 (omega arith) (omega arith)
          ∙ pass (at + 1 + 1) d 100 (w ∷ bytes) q.1 (omega arith) (omega arith)
          ∙ ap (λ k. separators k 0 false (w ∷ bytes)) (omega arith)),
    )

pub separator_here : (at level : ℕ) (after_white : Bool) (text : List ℕ) → begins_separator level after_white text ≡ true
    → (3 ≤ length text) × (separators at level after_white text ≡ at ∷ separators (at + 3) 0 false (drop 3 text))
separator_here at level after_white text e =
    let p = and_parts (nat_eq level 0 && after_white) (begins_and text) e in
    let q = and_parts (nat_eq level 0) after_white p.0 in
    let found = separator_found at text p.1 in (
      found.0,
      ap (λ n. separators at n after_white text) (eqb-true level 0 q.0)
          ∙ ap (λ w. separators at 0 w text) q.1
          ∙ found.1,
    )

pub separator_not_here : (at level : ℕ) (after_white : Bool) (b : ℕ) (bytes : List ℕ)
    → begins_separator level after_white (b ∷ bytes) ≡ false
    → separators at level after_white (b ∷ bytes) ≡ separators (at + 1) (next_level level b) (is_white b) bytes
separator_not_here at level after_white b bytes e =
    let more : List ℕ = separators (at + 1) (next_level level b) (is_white b) bytes in
    ap (λ v. cond v (at ∷ more) more) e
