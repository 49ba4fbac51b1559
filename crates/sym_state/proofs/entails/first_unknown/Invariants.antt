use Rattle.std.proofs.Common.{◌≡◌, ◌+◌, drop}
use Rattle.sym_state.specs.Entailing.{first_failing, fact_follows}
use Rattle.sym_state.specs.Matches.{matched_by}
use Rattle.sym_state.proofs.entails.first_unknown.Given as goal

-- of the lines that are left the first fails that fails of all
abbrev pub invariant-loop-fact : goal.invariant-loop-fact
invariant-loop-fact l = record {
  line : l.line ≡ l.first + l.fact-index;
  left : first_failing (fact_follows (matched_by l.matching) l.state.facts) l.line (drop l.fact-index l.facts)
      ≡ first_failing (fact_follows (matched_by l.matching) l.state.facts) l.first l.facts;
}
