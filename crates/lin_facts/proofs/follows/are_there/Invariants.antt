-- The uses so far are below the count.
use Rattle.std.proofs.Common.{◌≡◌, ◌<◌, nat_lt, take, drop}
use Rattle.std.specs.List.{All, list_all}
use Rattle.lin_facts.proofs.follows.are_there.Given as goal

abbrev pub invariant-loop-u : goal.invariant-loop-u
invariant-loop-u l = record {
  value : list_all (λ u. nat_lt u.row l.count) l.uses ≡ list_all (λ u. nat_lt u.row l.count) (drop l.u-index l.uses);
  there : All (λ u. u.row < l.count) (take l.u-index l.uses);
}
