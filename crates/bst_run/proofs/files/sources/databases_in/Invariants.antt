use Rattle.std.proofs.Common.{◌≡◌, ◌≤◌, drop}
use Rattle.std.specs.Prelude.{IfSome}
use Rattle.aux_read.specs.FileNames.{AreFileNames}
use Rattle.bib_read.specs.Additions.{AreKeyed}
use Rattle.bst_run.specs.FilesBegun.{databases_begun}
use Rattle.bst_run.specs.Sources as rule
use Rattle.bst_run.proofs.BegunLemmas.{AreSoFar}
use Rattle.bst_run.proofs.files.sources.databases_in.Given as goal

-- the databases that are left, after what was read so far, give what all of them give
abbrev pub invariant-loop-name : goal.invariant-loop-name
invariant-loop-name g l = record {
  told : g.F.Files.told l.files ≡ g.F.Files.told l.initial.files;
  count : g.F.Files.faults l.initial.files ≤ g.F.Files.faults l.files;
  rest : IfSome (g.F.Files.told l.initial.files) (λ told.
      rule.databases_in told (drop l.name-index l.names) l.database ≡ rule.databases_in told l.names l.fn.before);
  begun : AreSoFar (g.F.Files.told l.initial.files)
      (λ t. databases_begun t l.names l.fn.before) (λ t. databases_begun t (drop l.name-index l.names) l.database)
      (g.F.Files.begun l.initial.files) (g.F.Files.begun l.files);
  keyed : AreKeyed l.database.entries;
  named : AreFileNames (drop l.name-index l.names);
}
