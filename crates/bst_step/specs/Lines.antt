-- Lines and the buffer, as the machine's definition has them.
use Rattle.std.specs.Prelude.{ℕ, ◌+◌, List, [], ◌∷◌, ◌++◌, drop, length}
use Rattle.std.specs.List.{flat_map}
use Rattle.bst_meaning.specs.Config.{Event}
use Rattle.bst_meaning.specs.Lines as rule
use Rattle.bst_step.specs.declared.page.Page.{Page}
use Rattle.bst_step.specs.declared.lines.Cut.{Cut}

-- a cut of a buffer
abbrev pub cut_in : List ℕ → Cut → rule.Cut
cut_in buffer c = record { line = c.line.now; rest = 32 ∷ 32 ∷ drop (c.next + 2) buffer }

-- the text of finished lines, each with its line end, and the buffer
pub record Spelt : Type 0 where
  pub text : List ℕ
  pub buffer : List ℕ

-- a page whose lines are spelt behind a text
abbrev pub spelt : List ℕ → rule.Page → Spelt
spelt text page = record { text = text ++ flat_map (λ line. line ++ 10 ∷ []) page.lines; buffer = page.buffer }

-- no text and an empty buffer: nothing was written
abbrev pub first : Spelt
first = record { text = []; buffer = [] }

-- the text and the buffer after these events
abbrev pub added : Spelt → List Event → Spelt
added page [] = page
added page (event ∷ events) = added (spelt page.text (rule.after_event (record { lines = []; buffer = page.buffer }) event)) events

-- the text, and the buffer from a place on
abbrev pub page_from : ℕ → Page → Spelt
page_from start p = record { text = p.text.items; buffer = drop start p.buffer.items }

-- the lines that the buffer finishes once it is broken, and what is left of it
abbrev pub broken_in : Page → rule.Page
broken_in p = rule.broken (length p.buffer.items) [] p.buffer.items

-- the text of the lines that are finished so far
abbrev pub finished_in : Page → List ℕ
finished_in p = p.text.items

-- the text and the buffer, once it is broken
abbrev pub page_in : Page → Spelt
page_in p = spelt p.text.items (broken_in p)
