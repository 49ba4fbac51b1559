-- How the fields of a cursor stand for the items of a line that are left.
use Rattle.std.specs.Prelude.{◌+◌, ◌≤◌, [], length}
use Rattle.std.specs.Option.{option_map_or}
use Rattle.bv_base.specs.declared.limits.TheConstants.{STYLE_BYTES}
use Rattle.cert_format.specs.declared.lines.Line.TheInside.{Inside}
use Rattle.cert_format.specs.Lines.{Line, items_of}

-- the items that are left, and the line's end
abbrev pub line_left : Inside → Line
line_left l = record { items = option_map_or (λ bytes. items_of l.end bytes.now) l.rest []; end = l.end }

-- the bytes that are left are those of a text within its limit
abbrev pub IsShort : Inside → Type 0
IsShort l = option_map_or (λ bytes. length bytes.now) l.rest 0 + l.end ≤ STYLE_BYTES
