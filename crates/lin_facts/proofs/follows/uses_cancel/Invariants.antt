-- The terms of the uses so far are left over nowhere.
use Rattle.std.proofs.Common.{◌≡◌, drop}
use Rattle.std.specs.List.{list_all}
use Rattle.lin_facts.specs.Follows.{row_at, cancel}
use Rattle.lin_facts.proofs.follows.uses_cancel.Given as goal

abbrev pub invariant-loop-u : goal.invariant-loop-u
invariant-loop-u l =
    list_all (λ u. cancel l.rows l.step l.goal (row_at l.rows u.row).parts) l.step.uses
    ≡ list_all (λ u. cancel l.rows l.step l.goal (row_at l.rows u.row).parts) (drop l.u-index l.step.uses)
