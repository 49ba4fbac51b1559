use Rattle.std.proofs.Common.{◌≡◌, map, take}
use Rattle.sym_state.specs.Matches.{matched_by}
use Rattle.sym_state.specs.Renaming.{term_renamed}
use Rattle.sym_state.proofs.matching.Matching.row.Given as goal

-- the parts so far are those of the row with their symbols matched
abbrev pub invariant-loop-part : goal.invariant-loop-part
invariant-loop-part l =
    l.parts.items ≡ map (λ part. record { coefficient = part.coefficient; term = term_renamed (matched_by l.self) part.term }) (take l.part-index l.row.parts)
