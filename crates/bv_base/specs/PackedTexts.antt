-- Texts, some of which may be missing, one after the other in one piece of memory.
use Rattle.std.specs.Prelude.{◌≡◌, ℕ, zero, suc, ◌+◌, ◌-◌, ◌≤◌, nat_le, Bool, true, false, if◌then◌else◌, List, [], ◌∷◌, Option, None, Some, drop, take}
use Rattle.bv_base.specs.declared.limits.TheConstants.{PACKED_BYTES}

-- the text to which a mark belongs is there
abbrev pub is_there : ℕ → Bool
is_there mark = nat_le mark PACKED_BYTES

-- where the bytes of a text end: where its mark says so, and for a missing one where those of the text before it end
abbrev pub end_of : ℕ → ℕ
end_of mark = if is_there mark then mark else mark - (PACKED_BYTES + 1)

-- the bytes of a text that is there
abbrev pub if_there : Bool → List ℕ → Option (List ℕ)
if_there true bytes = Some bytes
if_there false bytes = None

-- the text with this mark, whose bytes begin here
abbrev pub text_at : List ℕ → ℕ → ℕ → Option (List ℕ)
text_at bytes from mark = if_there (is_there mark) (take (end_of mark - from) (drop from bytes))

-- the texts with these marks, the first of which begins here
abbrev pub texts_in : List ℕ → ℕ → List ℕ → List (Option (List ℕ))
texts_in bytes from [] = []
texts_in bytes from (mark ∷ marks) = text_at bytes from mark ∷ texts_in bytes (end_of mark) marks

-- where the bytes of the text at a place begin, where those of the first begin here
abbrev pub begin_of : ℕ → ℕ → List ℕ → ℕ
begin_of from zero marks = from
begin_of from (suc at) [] = from
begin_of from (suc at) (mark ∷ marks) = begin_of (end_of mark) at marks

-- the texts with these marks stand in order from one place up to another
abbrev pub StandWithin : ℕ → ℕ → List ℕ → Type 0
StandWithin from to [] = from ≡ to
StandWithin from to (mark ∷ marks) = (from ≤ end_of mark) × StandWithin (end_of mark) to marks
