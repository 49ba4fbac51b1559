-- The match that the code has computed (docs/STATES.md, "Entailment").
use Rattle.std.specs.Prelude.{ℕ}
use Rattle.sym_state.specs.declared.matching.Matching.{Matching}
use Rattle.sym_state.specs.Entailing.{matched}

-- the state's symbol that one of the piece's is matched to
abbrev pub matched_by : Matching → ℕ → ℕ
matched_by matching = matched matching.kept matching.places.items
