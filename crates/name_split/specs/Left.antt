-- How the fields of a list of names stand for the names that are left.
use Rattle.std.specs.Prelude.{ℕ, Bool, true, false, List, [], length, drop}
use Rattle.name_split.specs.declared.names.NameList.TheInside.{Inside}
use Rattle.name_split.specs.Names.{Names, between, separators, trimmed_all}
use Rattle.name_split.specs.declared.spans.Span.{Span}

-- the names from a byte of the text on, where they haven't ended
abbrev pub names_from : Bool → ℕ → List ℕ → List Span
names_from true start text = []
names_from false start text =
    trimmed_all text (between start (separators start 0 false (drop start text)) (length text))

-- the names that are left of a text from its next byte on
abbrev pub names_left : Inside → Names
names_left l = record { text = l.text.now; left = names_from l.ended l.start l.text.now }
