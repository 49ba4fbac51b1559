-- The tokens that are left when one is taken.
use Rattle.std.proofs.Common.{◌≡◌, ℕ, zero, suc, ◌+◌, ◌≤◌, Bool, true, false, cond, List, [], ◌∷◌, length, drop, refl, sym, ap, ◌∙◌, subst, arith}
use Rattle.bv_base.specs.Levels.{next_level}
use Rattle.name_split.specs.declared.tokens.Token.{Token}
use Rattle.name_split.specs.Spans.{front, leveled_before}
use Rattle.name_split.specs.Tokens.{added, ends_token, token_at, token_length, tokens_after, tokens_of}
use Rattle.std.proofs.lemmas.Bool.{cond-false}

pub leveled_within : (test : ℕ → ℕ → Bool) (level : ℕ) (bytes : List ℕ) → leveled_before test level bytes ≤ length bytes
leveled_within test level [] = omega arith
leveled_within test level (b ∷ bytes) =
    let h : leveled_before test (next_level level b) bytes ≤ length bytes = leveled_within test (next_level level b) bytes in
    elim (test level b) as (λ v. cond v 0 (suc (leveled_before test (next_level level b) bytes)) ≤ suc (length bytes))
    [ true ↦ omega arith | false ↦ omega arith ]

-- the bytes that are passed over are gone
tokens_passed : (pass at : ℕ) (bytes : List ℕ) → pass ≤ length bytes
    → tokens_after pass at bytes ≡ tokens_after 0 (at + pass) (drop pass bytes)
tokens_passed zero at bytes h = ap (λ n. tokens_after 0 n bytes) (omega arith)
tokens_passed (suc pass) at [] h = absurd (omega arith)
tokens_passed (suc pass) at (b ∷ bytes) h =
    tokens_passed pass (at + 1) bytes (omega arith)
    ∙ ap (λ n. tokens_after 0 n (drop pass bytes)) (omega arith)

-- what stands first, when it is known whether a token does
abbrev First : Bool → ℕ → ℕ → List ℕ → List Token
First ends at b bytes =
    added (cond ends false true) (token_at at (token_length 0 (b ∷ bytes)) (b ∷ bytes))
    (tokens_after (cond (cond ends false true) (token_length (next_level 0 b) bytes) 0) (at + 1) bytes)

gap_case : (ends : Bool) (at b : ℕ) (bytes : List ℕ) (gap : ℕ) → ends_token 0 b ≡ ends
    → tokens_after 0 (at + 1) bytes ≡ tokens_after 0 (at + 1 + gap) (drop gap bytes)
    → tokens_after 0 at (b ∷ bytes) ≡ tokens_after 0 (at + cond ends (suc gap) 0) (drop (cond ends (suc gap) 0) (b ∷ bytes))
gap_case true at b bytes gap e h =
    ap (λ v. First v at b bytes) e ∙ h ∙ ap (λ n. tokens_after 0 n (drop gap bytes)) (omega arith)
gap_case false at b bytes gap e h = ap (λ n. tokens_after 0 n (b ∷ bytes)) (omega arith)

gap_passed : (at : ℕ) (bytes : List ℕ)
    → tokens_after 0 at bytes ≡ tokens_after 0 (at + front (ends_token 0) bytes) (drop (front (ends_token 0) bytes) bytes)
gap_passed at [] = refl
gap_passed at (b ∷ bytes) = gap_case (ends_token 0 b) at b bytes (front (ends_token 0) bytes) refl (gap_passed (at + 1) bytes)

stops_case : (ends : Bool) (b : ℕ) (bytes : List ℕ) (gap first : ℕ) (rest : List ℕ) → ends_token 0 b ≡ ends
    → (drop gap bytes ≡ first ∷ rest → ends_token 0 first ≡ false)
    → drop (cond ends (suc gap) 0) (b ∷ bytes) ≡ first ∷ rest → ends_token 0 first ≡ false
stops_case true b bytes gap first rest e h is = h is
stops_case false b bytes gap first rest e h is = let same : b ≡ first = cc in subst (λ x. ends_token 0 x ≡ false) same e

gap_stops : (bytes : List ℕ) (first : ℕ) (rest : List ℕ) → drop (front (ends_token 0) bytes) bytes ≡ first ∷ rest
    → ends_token 0 first ≡ false
gap_stops [] first rest is = cc
gap_stops (b ∷ bytes) first rest is =
    stops_case (ends_token 0 b) b bytes (front (ends_token 0) bytes) first rest refl (gap_stops bytes first rest) is

token_first : (at b : ℕ) (bytes : List ℕ) (count : ℕ) → ends_token 0 b ≡ false → count ≡ token_length 0 (b ∷ bytes)
    → tokens_after 0 at (b ∷ bytes) ≡ token_at at count (b ∷ bytes) ∷ tokens_after 0 (at + count) (drop count (b ∷ bytes))
token_first at b bytes count e is =
    let more : ℕ = token_length (next_level 0 b) bytes in
    let long : token_length 0 (b ∷ bytes) ≡ suc more = cond-false (ends_token 0 b) 0 (suc more) e in
    ap (λ v. First v at b bytes) e
    ∙ ap (λ ts. token_at at (token_length 0 (b ∷ bytes)) (b ∷ bytes) ∷ ts)
    (tokens_passed more (at + 1) bytes (leveled_within ends_token (next_level 0 b) bytes)
    ∙ ap (λ n. tokens_after 0 n (drop more bytes)) {x = at + 1 + more} {y = at + suc more} (omega arith)
    ∙ ap (λ n. tokens_after 0 (at + n) (drop n (b ∷ bytes))) (sym (is ∙ long)))
    ∙ ap (λ n. token_at at n (b ∷ bytes) ∷ tokens_after 0 (at + count) (drop count (b ∷ bytes))) (sym is)

-- what is left after a gap
rest_first : (bytes rest : List ℕ) (gap : ℕ) → gap ≡ front (ends_token 0) bytes → rest ≡ drop gap bytes
    → (first : ℕ) (more : List ℕ) → rest ≡ first ∷ more → ends_token 0 first ≡ false
rest_first bytes rest gap g r first more is =
    gap_stops bytes first more (ap (λ n. drop n bytes) (sym g) ∙ sym r ∙ is)

after_gap : (bytes rest : List ℕ) (at gap : ℕ) → gap ≡ front (ends_token 0) bytes → rest ≡ drop gap bytes
    → tokens_of at bytes ≡ tokens_of (at + gap) rest
after_gap bytes rest at gap g r =
    gap_passed at bytes
    ∙ ap (λ n. tokens_after 0 (at + n) (drop n bytes)) (sym g)
    ∙ ap (λ xs. tokens_after 0 (at + gap) xs) (sym r)

token_left : (at : ℕ) (rest : List ℕ) (count : ℕ)
    → ((first : ℕ) (more : List ℕ) → rest ≡ first ∷ more → ends_token 0 first ≡ false)
    → count ≡ token_length 0 rest → (count ≡ 0 → ⊥)
    → tokens_of at rest ≡ token_at at count rest ∷ tokens_of (at + count) (drop count rest)
token_left at [] count begins c some = absurd (some c)
token_left at (b ∷ rest) count begins c some = token_first at b rest count (begins b rest refl) c

pub taken : (bytes rest after : List ℕ) (at gap count : ℕ)
    → gap ≡ front (ends_token 0) bytes → rest ≡ drop gap bytes → count ≡ token_length 0 rest → after ≡ drop count rest
    → (count ≡ 0 → ⊥)
    → tokens_of at bytes ≡ token_at (at + gap) count rest ∷ tokens_of (at + gap + count) after
taken bytes rest after at gap count g r c a some =
    after_gap bytes rest at gap g r
    ∙ token_left (at + gap) rest count (rest_first bytes rest gap g r) c some
    ∙ ap (λ xs. token_at (at + gap) count rest ∷ tokens_of (at + gap + count) xs) (sym a)

nothing_left : (rest : List ℕ) → ((first : ℕ) (more : List ℕ) → rest ≡ first ∷ more → ends_token 0 first ≡ false)
    → token_length 0 rest ≡ 0 → rest ≡ []
nothing_left [] begins c = refl
nothing_left (b ∷ rest) begins c =
    let long : token_length 0 (b ∷ rest) ≡ suc (token_length (next_level 0 b) rest) =
    cond-false (ends_token 0 b) 0 _ (begins b rest refl) in
    absurd (omega arith)

pub ended : (bytes rest after : List ℕ) (at gap count to : ℕ)
    → gap ≡ front (ends_token 0) bytes → rest ≡ drop gap bytes → count ≡ token_length 0 rest → after ≡ drop count rest
    → count ≡ 0
    → (tokens_of at bytes ≡ []) × (tokens_of to after ≡ [])
ended bytes rest after at gap count to g r c a none =
    let nothing : rest ≡ [] = nothing_left rest (rest_first bytes rest gap g r) (sym c ∙ none) in (
      after_gap bytes rest at gap g r ∙ ap (tokens_of (at + gap)) nothing,
      ap (tokens_of to) (a ∙ ap (λ n. drop n rest) none ∙ nothing),
    )
