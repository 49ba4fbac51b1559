use Rattle.std.proofs.Common.{◌≡◌, map, take}
use Rattle.infer.specs.DefaultCond as rule
use Rattle.infer.proofs.condition.defined_types.Given as goal

-- so far those that the style defines are there
abbrev pub invariant-loop-name : goal.invariant-loop-name
invariant-loop-name l = l.types.items ≡ rule.defined_types l.style (map (λ name. name.now) (take l.name-index l.names))
