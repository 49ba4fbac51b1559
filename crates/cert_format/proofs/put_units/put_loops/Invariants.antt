use Rattle.std.proofs.Common.{◌≡◌, ◌++◌, drop}
use Rattle.cert_format.specs.UnitSpelling.{each_lines, loop_lines}
use Rattle.cert_format.specs.Spelling.{text_of}
use Rattle.cert_format.proofs.put_units.put_loops.Given as goal

abbrev pub invariant-loop-one : goal.invariant-loop-one
invariant-loop-one l =
    l.printer ++ text_of (each_lines (loop_lines l.style) (drop l.one-index l.loops))
    ≡ l.fn.printer ++ text_of (each_lines (loop_lines l.style) l.loops)
