-- The terms of the variables so far and of those that are left are all.
use Rattle.std.proofs.Common.{◌≡◌, ◌++◌, drop, map}
use Rattle.lin_facts.specs.declared.row.Term.TheVariants.{Value}
use Rattle.loop_templates.proofs.terms.push_values.Given as goal

abbrev pub invariant-loop-name : goal.invariant-loop-name
invariant-loop-name l =
    l.terms.items ++ map (λ name. Value name.0) (drop l.name-index l.names) ≡ l.initial.terms.items ++ map (λ name. Value name.0) l.names
