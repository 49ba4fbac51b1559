-- The names of files that .aux files give together (docs/COMMANDS.md, "The files of a run").
use Rattle.std.specs.Prelude.{IfSome}
use Rattle.aux_read.specs.FileNames.{AreFileNames, IsFileName}
use Rattle.bst_run.specs.declared.files.requests.Needs.{Needs}
use Rattle.bst_run.specs.declared.files.requests.Requests.{Requests}

-- each name of a style or a database that is given so far is UTF-8
pub record NamesFiles (requests : Requests) : Type 0 where
  pub style : IfSome requests.style IsFileName
  pub databases : AreFileNames requests.databases

-- each name of a style or a database that a run needs is UTF-8
pub record NeedsFiles (needs : Needs) : Type 0 where
  pub style : IsFileName needs.style
  pub databases : AreFileNames needs.databases
