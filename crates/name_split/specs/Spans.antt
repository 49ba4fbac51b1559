-- Stretches of a text (docs/NAMES.md, "Slices").
use Rattle.std.specs.Prelude.{ℕ, suc, ◌+◌, ◌-◌, Bool, nat_eq, if◌then◌else◌, List, [], ◌∷◌, take, drop}
use Rattle.bv_base.specs.Levels.{next_level}
use Rattle.name_split.specs.declared.spans.Span.{Span}

-- the bytes of a stretch
abbrev pub slice : List ℕ → Span → List ℕ
slice text span = take (span.end - span.start) (drop span.start text)

-- how many members of a list from its front on pass a test
abbrev pub front : {X : Type 0} → (X → Bool) → List X → ℕ
front test [] = 0
front test (x ∷ xs) = if test x then suc (front test xs) else 0

-- how many bytes stand before the first that passes a test with its level, where the first has this one
abbrev pub leveled_before : (ℕ → ℕ → Bool) → ℕ → List ℕ → ℕ
leveled_before test level [] = 0
leveled_before test level (b ∷ bytes) = if test level b then 0 else suc (leveled_before test (next_level level b) bytes)

-- how many members there are up to the last that doesn't pass a test, with that one; 0 where each passes it
abbrev pub kept : {X : Type 0} → (X → Bool) → List X → ℕ
kept test [] = 0
kept test (x ∷ xs) = if nat_eq (kept test xs) 0 then (if test x then 0 else 1) else suc (kept test xs)

-- a stretch without the bytes that pass a test at its front and at its end
abbrev pub trimmed : (ℕ → Bool) → List ℕ → Span → Span
trimmed test text span =
    let first = span.start + front test (slice text span) in
    record { start = first; end = first + kept test (drop (front test (slice text span)) (slice text span)) }
