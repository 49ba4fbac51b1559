use Rattle.std.proofs.Common.{◌≡◌, ◌++◌, drop}
use Rattle.cert_format.specs.UnitSpelling.{each_lines, summary_lines}
use Rattle.cert_format.specs.Spelling.{text_of}
use Rattle.cert_format.proofs.put_units.put_summaries.Given as goal

abbrev pub invariant-loop-summary : goal.invariant-loop-summary
invariant-loop-summary l =
    l.printer ++ text_of (each_lines (summary_lines l.style) (drop l.summary-index l.summaries))
    ≡ l.fn.printer ++ text_of (each_lines (summary_lines l.style) l.summaries)
