use Rattle.std.proofs.Common.{◌≡◌, ◌+◌, drop}
use Rattle.sym_state.specs.Entailing.{first_failing, bind_agrees}
use Rattle.sym_state.specs.Matches.{matched_by}
use Rattle.sym_state.proofs.entails.first_unbound.Given as goal

-- of the lines that are left the first fails that fails of all
abbrev pub invariant-loop-bind : goal.invariant-loop-bind
invariant-loop-bind l = record {
  line : l.line ≡ l.first + l.bind-index;
  left : first_failing (bind_agrees (matched_by l.matching) l.known) l.line (drop l.bind-index l.binds)
      ≡ first_failing (bind_agrees (matched_by l.matching) l.known) l.first l.binds;
}
