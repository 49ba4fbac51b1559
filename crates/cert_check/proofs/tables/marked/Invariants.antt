use Rattle.std.proofs.Common.{drop}
use Rattle.cert_check.specs.Tables.{AreMarks, block_of_id, name_of_id}
use Rattle.cert_check.proofs.tables.marked.Given as goal

-- the marks are those of the summaries that were looked at, from the last one on
abbrev pub invariant-loop-k : goal.invariant-loop-k
invariant-loop-k l = record {
  named : AreMarks name_of_id l.named.items (drop l.k l.summaries);
  blocks : AreMarks block_of_id l.blocks.items (drop l.k l.summaries);
}
