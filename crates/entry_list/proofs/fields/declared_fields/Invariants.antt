use Rattle.std.proofs.Common.{◌≡◌, ◌++◌, drop}
use Rattle.entry_list.specs.Fields.{declared_fields, declared_from}
use Rattle.entry_list.proofs.fields.declared_fields.Given as goal

abbrev pub invariant-loop-i : goal.invariant-loop-i
invariant-loop-i l =
    l.found.items ++ declared_from l.i (drop l.i l.style.names) ≡ declared_fields l.style
