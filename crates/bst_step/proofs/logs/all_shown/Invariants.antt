use Rattle.std.proofs.Common.{◌≡◌, map, take}
use Rattle.bst_meaning.specs.Builtins as rule
use Rattle.bst_step.proofs.logs.all_shown.Given as goal

-- the lines of the values so far
abbrev pub invariant-loop-depth : goal.invariant-loop-depth
invariant-loop-depth l = l.lines.items ≡ map (rule.shown l.style) (take l.depth l.values.stack)
