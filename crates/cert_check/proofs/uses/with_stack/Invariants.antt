use Rattle.std.proofs.Common.{◌≡◌, ◌++◌, map, take}
use Rattle.sym_state.specs.Matches.{matched_by}
use Rattle.sym_state.specs.Renaming.{sym_renamed}
use Rattle.cert_check.proofs.uses.with_stack.Given as goal

-- the symbols so far are on the stack
abbrev pub invariant-loop-sym : goal.invariant-loop-sym
invariant-loop-sym l = l.after ≡ record l.fn.below { stack = l.fn.below.stack ++ map (sym_renamed (matched_by l.matching)) (take l.sym-index l.stack) }
