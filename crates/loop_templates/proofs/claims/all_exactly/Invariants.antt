-- The states so far have that sum, so those that are left decide.
use Rattle.std.proofs.Common.{◌≡◌, drop}
use Rattle.std.specs.List.{list_all}
use Rattle.loop_templates.specs.Rows.{is_exactly}
use Rattle.loop_templates.proofs.Sought.{sought}
use Rattle.loop_templates.proofs.claims.all_exactly.Given as goal

abbrev pub invariant-loop-k : goal.invariant-loop-k
invariant-loop-k l = record {
  stays : l.searches ≡ l.fn.searches;
  left : list_all (is_exactly l.cond l.sum l.c) (sought (drop l.k l.fn.searches)) ≡ list_all (is_exactly l.cond l.sum l.c) (sought l.fn.searches);
}
