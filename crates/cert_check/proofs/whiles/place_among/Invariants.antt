-- The loop is looked for among those that are left.
use Rattle.std.proofs.Common.{◌≡◌, ℕ, ◌+◌, drop}
use Rattle.cert_check.specs.Walks.{numbered}
use Rattle.cert_check.proofs.whiles.place_among.Given as goal

abbrev pub invariant-loop-k : goal.invariant-loop-k
invariant-loop-k l = (first : ℕ) → numbered l.one (first + l.k) (drop l.k l.made) ≡ numbered l.one first l.made
