-- The names so far, and those among the names that are left.
use Rattle.std.proofs.Common.{◌≡◌, ◌++◌, drop, Bool}
use Rattle.name_table.specs.declared.names.Kind.{Kind}
use Rattle.sym_state.specs.WellMade.{ids_from}
use Rattle.loop_templates.proofs.names.names_where.Given as goal

abbrev pub invariant-loop-id : goal.invariant-loop-id
invariant-loop-id g l =
    (passes : Kind → Bool) → ((kind : Kind) (r : Bool) → goal.F-post g l.test kind r → r ≡ passes kind)
    → l.names.items ++ ids_from passes l.id (drop l.id l.style.names) ≡ ids_from passes 0 l.style.names
