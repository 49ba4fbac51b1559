-- The marks of the rows so far are new, and those of the rows that are left are old.
use Rattle.std.proofs.Common.{◌≡◌, Bool, ◌&&◌, ◌++◌, drop, length, map, take}
use Rattle.lin_facts.specs.declared.row.Row.{Row}
use Rattle.loop_templates.specs.Candidates.{is_proved}
use Rattle.loop_templates.proofs.lowering.mark_proved.Given as goal

abbrev pub invariant-loop-k : goal.invariant-loop-k
invariant-loop-k l = record {
  each : length l.marks ≡ length l.rows;
  stays : l.search ≡ l.initial.search;
  marked : (before : Row → Bool) → l.fn.marks ≡ map before l.rows
      → l.marks ≡ map (λ row. before row && is_proved l.cond l.case row l.state) (take l.k l.rows) ++ map before (drop l.k l.rows);
}
