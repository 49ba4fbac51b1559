use Rattle.std.proofs.Common.{◌≡◌, drop}
use Rattle.sym_state.specs.Starting.{most_names}
use Rattle.sym_state.proofs.start.most_names.Given as goal

-- the lines that are left say what all of them do
abbrev pub invariant-loop-line : goal.invariant-loop-line
invariant-loop-line l = most_names l.name (drop l.line-index l.lines) ≡ most_names l.name l.lines
