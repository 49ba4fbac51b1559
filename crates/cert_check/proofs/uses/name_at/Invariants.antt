use Rattle.std.proofs.Common.{◌≡◌, drop}
use Rattle.cert_check.specs.Uses.{name_at}
use Rattle.cert_check.proofs.uses.name_at.Given as goal

-- the bindings that are left say what all of them do
abbrev pub invariant-loop-bind : goal.invariant-loop-bind
invariant-loop-bind l = name_at l.sym.0 (drop l.bind-index l.binds) ≡ name_at l.sym.0 l.binds
