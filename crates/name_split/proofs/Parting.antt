-- Where von stands between first and last.
use Rattle.std.proofs.Common.{◌≡◌, ℕ, zero, suc, ◌-◌, ◌<◌, ◌≤◌, Bool, true, false, cond, nat_eq, List, [], ◌∷◌, length, take, drop, Some, None, refl, sym, ap, ◌∙◌, subst, arith}
use Rattle.std.proofs.Math.Dec.{eqb-suc-zero}
use Rattle.name_split.specs.declared.survey.Split.{Split}
use Rattle.name_split.specs.declared.tokens.Token.{Token}
use Rattle.name_split.specs.Parts.{but_last, empty, is_high, plain_parts, von_end, von_start, whole, with_von, without_von}
use Rattle.name_split.specs.Spans.{front, kept}
use Rattle.name_split.specs.Survey.{split_at, survey_of}
use Rattle.name_split.proofs.Cutting.{kept_within}
use Rattle.name_split.proofs.Surveying.{but_last_length}

unless_some : (test : Bool) (split found : Split) → cond test None (Some split) ≡ Some found → (test ≡ false) × (split ≡ found)
unless_some true split found e = cc
unless_some false split found e = (refl, cc)

-- the members that pass at the front stand before the last that doesn't
below_case : (passes : Bool) (first last : ℕ) → (nat_eq last 0 ≡ false → first < last)
    → nat_eq (cond (nat_eq last 0) (cond passes 0 1) (suc last)) 0 ≡ false
    → cond passes (suc first) 0 < cond (nat_eq last 0) (cond passes 0 1) (suc last)
below_case true first zero h e = cc
below_case false first zero h e = omega arith
below_case passes first (suc n) h e =
    let some : nat_eq (suc n) 0 ≡ false = eqb-suc-zero n in
    let below : first < suc n = h some in
    subst (λ k. cond passes (suc first) 0 < k) (sym (ap (λ v. cond v (cond passes 0 1) (suc (suc n))) some))
    (elim passes as (λ v. cond v (suc first) 0 < suc (suc n)) [ true ↦ omega arith | false ↦ omega arith ])

front_below_kept : {X : Type 0} (test : X → Bool) (xs : List X) → nat_eq (kept test xs) 0 ≡ false → front test xs < kept test xs
front_below_kept test [] e = cc
front_below_kept test (x ∷ xs) e = below_case (test x) (front test xs) (kept test xs) (front_below_kept test xs) e

-- from the start of what follows some tokens to the end of more of them
middle : (first last : ℕ) (tokens : List Token) → first < last → last ≤ length tokens
    → record { start = (whole (drop first tokens)).start; end = (whole (take last tokens)).end }
    ≡ whole (take (last - first) (drop first tokens))
middle first zero tokens h k = absurd (omega arith)
middle first (suc last) [] h k = absurd (omega arith)
middle zero (suc last) (token ∷ tokens) h k =
    ap (λ n. whole (take n (token ∷ tokens))) {x = suc last} {y = suc last - 0} (omega arith)
middle (suc first) (suc zero) (token ∷ tokens) h k = absurd (omega arith)
middle (suc first) (suc (suc last)) (token ∷ []) h k = absurd (omega arith)
middle (suc first) (suc (suc last)) (token ∷ next ∷ tokens) h k =
    middle first (suc last) (next ∷ tokens) (omega arith) (omega arith)
    ∙ ap (λ n. whole (take n (drop first (next ∷ tokens)))) {x = suc last - first} {y = suc (suc last) - suc first} (omega arith)

von_within : (tokens : List Token) → von_end tokens ≤ length tokens
von_within [] = omega arith
von_within (token ∷ tokens) =
    let within : von_end (token ∷ tokens) ≤ length (but_last (token ∷ tokens)) = kept_within is_high (but_last (token ∷ tokens)) in
    let same : length (but_last (token ∷ tokens)) ≡ length tokens = but_last_length token tokens in
    omega arith

pub plain_von : (tokens : List Token) (low von : Split) → (survey_of tokens).low ≡ Some low → (survey_of tokens).von ≡ Some von
    → record {
      first = low.front;
      von = record { start = low.back.start; end = von.front.end };
      last = von.back;
      jr = empty;
    } ≡ plain_parts tokens
plain_von tokens low von l v =
    let first : ℕ = von_start tokens in
    let last : ℕ = von_end tokens in
    let low_is = unless_some (nat_eq last 0) (split_at first tokens) low l in
    let von_is = unless_some (nat_eq last 0) (split_at last tokens) von v in
    let below : first < last = front_below_kept is_high (but_last tokens) low_is.0 in
    ap (λ (s : Split). record {
      first = s.front;
      von = record { start = s.back.start; end = von.front.end };
      last = von.back;
      jr = empty;
    }) (sym low_is.1)
    ∙ ap (λ (s : Split). record {
      first = whole (take first tokens);
      von = record { start = (whole (drop first tokens)).start; end = s.front.end };
      last = s.back;
      jr = empty;
    }) (sym von_is.1)
    ∙ ap (λ s. record { first = whole (take first tokens); von = s; last = whole (drop last tokens); jr = empty })
    (middle first last tokens below (von_within tokens))
    ∙ sym (ap (λ t. cond t (without_von tokens) (with_von tokens)) low_is.0)
