use Rattle.std.proofs.Common.{◌≡◌, ◌+◌, drop}
use Rattle.sym_state.specs.Entailing.{first_unshown}
use Rattle.sym_state.specs.Matches.{matched_by}
use Rattle.sym_state.proofs.entails.first_unshown.Given as goal

-- of the rows that are left the first isn't shown that isn't of all
abbrev pub invariant-loop-k : goal.invariant-loop-k
invariant-loop-k l = record {
  line : l.line ≡ l.first + l.k;
  left : first_unshown (matched_by l.matching) l.cond l.state l.line (drop l.k l.rows) (drop l.k l.proofs)
      ≡ first_unshown (matched_by l.matching) l.cond l.state l.first l.rows l.proofs;
}
