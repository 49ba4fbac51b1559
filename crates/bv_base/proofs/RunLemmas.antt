-- The run of bytes before the first that passes a test.
use Rattle.std.proofs.Common.{◌≡◌, ℕ, suc, Bool, true, false, cond, List, [], ◌∷◌, ◌++◌, length, take, drop, refl, ap, ◌∙◌}
use Rattle.bv_base.specs.Runs.{EndsBy, NoneOf, length_before}

none_case : (test : ℕ → Bool) (b : ℕ) (bytes : List ℕ) (v : Bool) (count : ℕ) → test b ≡ v → NoneOf test (take count bytes)
    → NoneOf test (take (cond v 0 (suc count)) (b ∷ bytes))
none_case test b bytes true count e h = tt
none_case test b bytes false count e h = (e, h)

pub none_before : (test : ℕ → Bool) (bytes : List ℕ) → NoneOf test (take (length_before test bytes) bytes)
none_before test [] = tt
none_before test (b ∷ bytes) = none_case test b bytes (test b) (length_before test bytes) refl (none_before test bytes)

ends_case : (test : ℕ → Bool) (b : ℕ) (bytes : List ℕ) (v : Bool) (count : ℕ) → test b ≡ v → EndsBy test (drop count bytes)
    → EndsBy test (drop (cond v 0 (suc count)) (b ∷ bytes))
ends_case test b bytes true count e h = e
ends_case test b bytes false count e h = h

pub ends_before : (test : ℕ → Bool) (bytes : List ℕ) → EndsBy test (drop (length_before test bytes) bytes)
ends_before test [] = tt
ends_before test (b ∷ bytes) = ends_case test b bytes (test b) (length_before test bytes) refl (ends_before test bytes)

-- a run that is known is the one before the first byte that passes
pub length_before_is : (test : ℕ → Bool) (run rest : List ℕ) → NoneOf test run → EndsBy test rest
    → length_before test (run ++ rest) ≡ length run
length_before_is test [] [] none ends = refl
length_before_is test [] (b ∷ rest) none ends = ap (λ (t : Bool). cond t 0 (suc (length_before test rest))) ends
length_before_is test (b ∷ run) rest none ends =
    ap (λ (t : Bool). cond t 0 (suc (length_before test (run ++ rest)))) none.0
    ∙ ap suc (length_before_is test run rest none.1 ends)

pub none_joined : (test : ℕ → Bool) (a b : List ℕ) → NoneOf test a → NoneOf test b → NoneOf test (a ++ b)
none_joined test [] b none more = more
none_joined test (x ∷ a) b none more = (none.0, none_joined test a b none.1 more)
