-- The lines that a run has written (docs/MACHINE.md, "Lines"): texts are gathered in a buffer, which is broken where it has
-- more than 79 bytes, and a line end finishes it.
use Rattle.std.specs.Prelude.{ℕ, zero, suc, ◌+◌, Bool, false, nat_lt, nat_le, if◌then◌else◌, List, [], ◌∷◌, ◌++◌, length, take, drop, reverse, Option, None, Some}
use Rattle.std.specs.List.{list_all, flat_map}
use Rattle.bv_base.specs.Bytes.{is_white}
use Rattle.bst_meaning.specs.Config.{Event, Wrote, EndedLine, Config}

-- without white space at the front, and at the end
abbrev pub after_white : List ℕ → List ℕ
after_white [] = []
after_white (b ∷ bytes) = if is_white b then after_white bytes else b ∷ bytes

-- bytes without the white space at their end
abbrev pub trimmed_end : List ℕ → List ℕ
trimmed_end bytes = reverse (after_white (reverse bytes))

-- the places of white space, counted from here
abbrev pub white_places : ℕ → List ℕ → List ℕ
white_places at [] = []
white_places at (b ∷ bytes) = if is_white b then at ∷ white_places (at + 1) bytes else white_places (at + 1) bytes

-- the greatest of these places from 3 to 79, and else the least from 80 on
abbrev pub break_among : Option ℕ → List ℕ → Option ℕ
break_among best [] = best
break_among None (at ∷ places) = if nat_lt at 3 then break_among None places else (if nat_le at 79 then break_among (Some at) places else Some at)
break_among (Some best) (at ∷ places) = if nat_le at 79 then break_among (Some at) places else Some best

-- a line that is finished, and the buffer after it
pub record Cut : Type 0 where
  pub line : List ℕ
  pub rest : List ℕ

-- what follows a break goes on the next line behind two spaces
abbrev pub cut_with : List ℕ → List ℕ → Option Cut
cut_with before [] = None
cut_with before (b ∷ after) = Some (record { line = trimmed_end before; rest = 32 ∷ 32 ∷ b ∷ after })

-- a buffer that is cut before a place; what follows has no white space at its start
abbrev pub cut_at : List ℕ → Option ℕ → Option Cut
cut_at buffer None = None
cut_at buffer (Some at) = cut_with (take at buffer) (after_white (drop at buffer))

-- the cut of a buffer with more than 79 bytes, where it has one
abbrev pub cut_of : List ℕ → Option Cut
cut_of buffer = if nat_lt 79 (length buffer) then cut_at buffer (break_among None (white_places 0 buffer)) else None

-- the finished lines and the buffer that is left
pub record Page : Type 0 where
  pub lines : List (List ℕ)
  pub buffer : List ℕ

-- a buffer is broken as often as it can be: each break makes it shorter, so its length bounds their number
abbrev pub page_of : (List (List ℕ) → List ℕ → Page) → List (List ℕ) → List ℕ → Option Cut → Page
page_of again lines buffer None = record { lines = lines; buffer = buffer }
page_of again lines buffer (Some cut) = again (lines ++ cut.line ∷ []) cut.rest

-- a page whose buffer is broken at most so often
abbrev pub broken : ℕ → List (List ℕ) → List ℕ → Page
broken zero lines buffer = record { lines = lines; buffer = buffer }
broken (suc most) lines buffer = page_of (broken most) lines buffer (cut_of buffer)

-- a buffer that has only white space, and has some, gives no line
abbrev pub is_only_white : List ℕ → Bool
is_only_white [] = false
is_only_white (b ∷ bytes) = list_all is_white (b ∷ bytes)

-- a page after bytes are written or a line is ended
abbrev pub after_event : Page → Event → Page
after_event page (Wrote bytes) = let buffer = page.buffer ++ bytes in broken (length buffer) page.lines buffer
after_event page EndedLine = record {
  lines = if is_only_white page.buffer then page.lines else page.lines ++ trimmed_end page.buffer ∷ [];
  buffer = [];
}

-- a page after events in order
abbrev pub after_events : Page → List Event → Page
after_events page [] = page
after_events page (event ∷ events) = after_events (after_event page event) events

-- the lines that events finish, each with its line end; what is still in the buffer belongs to no line
abbrev pub lines_after : List Event → List ℕ
lines_after events = flat_map (λ line. line ++ 10 ∷ []) (after_events (record { lines = []; buffer = [] }) events).lines

-- the finished lines of a configuration
abbrev pub lines_of : Config → List ℕ
lines_of c = lines_after c.events
