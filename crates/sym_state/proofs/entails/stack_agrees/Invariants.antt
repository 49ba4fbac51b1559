use Rattle.std.proofs.Common.{◌≡◌, ◌+◌, drop}
use Rattle.std.specs.List.{list_all, zip}
use Rattle.sym_state.specs.Entailing.{agrees, stack_places}
use Rattle.sym_state.specs.Matches.{matched_by}
use Rattle.sym_state.proofs.entails.stack_agrees.Given as goal

-- the places that are left agree where all places do
abbrev pub invariant-loop-k : goal.invariant-loop-k
invariant-loop-k l =
    list_all (agrees (matched_by l.matching)) (zip (drop l.k l.stack) (drop (l.under + l.k) l.known))
    ≡ list_all (agrees (matched_by l.matching)) (stack_places l.known l.stack)
