use Rattle.std.proofs.Common.{◌≡◌, map, take}
use Rattle.sym_state.specs.Renaming.{term_renamed}
use Rattle.sym_state.specs.Starting.{raised}
use Rattle.sym_state.proofs.raising.raised_row.Given as goal

-- the parts so far are those of the row
abbrev pub invariant-loop-part : goal.invariant-loop-part
invariant-loop-part l =
    l.parts.items ≡ map (λ part. record { coefficient = part.coefficient; term = term_renamed (raised l.from) part.term }) (take l.part-index l.row.parts)
