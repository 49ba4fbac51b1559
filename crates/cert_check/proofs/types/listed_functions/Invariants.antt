use Rattle.std.proofs.Common.{◌≡◌, ◌++◌, drop}
use Rattle.cert_check.specs.Walks as rule
use Rattle.cert_check.proofs.types.listed_functions.Given as goal

-- the functions so far are those of the types so far
abbrev pub invariant-loop-name : goal.invariant-loop-name
invariant-loop-name l = l.names.items ++ rule.listed_functions l.style (drop l.name-index l.types) ≡ rule.listed_functions l.style l.types
