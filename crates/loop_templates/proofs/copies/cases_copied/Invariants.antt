-- The copies so far, and those that are left.
use Rattle.std.proofs.Common.{◌≡◌, ◌++◌, drop}
use Rattle.loop_templates.proofs.copies.cases_copied.Given as goal

abbrev pub invariant-loop-case : goal.invariant-loop-case
invariant-loop-case l = l.copies.items ++ drop l.case-index l.cases ≡ l.cases
