use Rattle.std.proofs.Common.{◌≡◌, ◌++◌, drop}
use Rattle.bst_run.specs.Ran.{ended_lines}
use Rattle.bst_run.proofs.running.add_lines.Given as goal

-- what is added so far, and what is left to add
abbrev pub invariant-loop-line : goal.invariant-loop-line
invariant-loop-line l =
    l.text.items ++ ended_lines (drop l.line-index l.lines) ≡ l.initial.text.items ++ ended_lines l.lines
