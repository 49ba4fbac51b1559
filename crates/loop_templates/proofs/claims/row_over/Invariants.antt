-- The parts so far are there.
use Rattle.std.proofs.Common.{◌≡◌, map, take}
use Rattle.lin_facts.specs.declared.row.Part.{Part}
use Rattle.sym_state.specs.Renaming.{term_renamed}
use Rattle.loop_templates.specs.Rows.{symbol_in}
use Rattle.loop_templates.proofs.claims.row_over.Given as goal

abbrev pub invariant-loop-part : goal.invariant-loop-part
invariant-loop-part l =
    l.parts.items ≡ map (λ (part : Part). record { coefficient = part.coefficient; term = term_renamed (symbol_in l.state) part.term }) (take l.part-index l.sum)
