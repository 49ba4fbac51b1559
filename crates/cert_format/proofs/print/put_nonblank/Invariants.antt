use Rattle.std.proofs.Common.{◌≡◌, ◌++◌, map, drop}
use Rattle.cert_format.specs.Spelling.{nonblank_items, text_of}
use Rattle.cert_format.proofs.print.put_nonblank.Given as goal

abbrev pub invariant-loop-field : goal.invariant-loop-field
invariant-loop-field l =
    l.printer ++ text_of (map (nonblank_items l.names) (drop l.field-index l.fields))
    ≡ l.fn.printer ++ text_of (map (nonblank_items l.names) l.fields)
