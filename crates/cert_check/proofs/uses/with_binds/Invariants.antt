use Rattle.std.proofs.Common.{◌≡◌, drop}
use Rattle.cert_check.specs.Uses.{with_binds}
use Rattle.cert_check.proofs.uses.with_binds.Given as goal

-- with the bindings that are left it is what it is with all
abbrev pub invariant-loop-bind : goal.invariant-loop-bind
invariant-loop-bind l = with_binds (drop l.bind-index l.binds) l.after ≡ with_binds l.binds l.fn.state
