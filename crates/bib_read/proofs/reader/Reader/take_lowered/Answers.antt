use Rattle.std.proofs.Common.{◌≡◌, ◌∙◌, subst, List, ℕ}
use Rattle.bv_base.specs.Answers.{Leaves}
use Rattle.name_table.specs.Names.{lowered}
use Rattle.bib_read.specs.Entering.{take_named}
use Rattle.bib_read.specs.Progressing.{progress_of}
use Rattle.bib_read.specs.declared.stop.Stop.TheVariants.{NoMemory as WantOfMemory}
use Rattle.bib_read.proofs.reader.Reader.take_lowered.Goals as goal

pub returns : goal.returns
returns c =
    let same : c.as_slice.result.now ≡ lowered c.args.found.now = c.as_slice.ensures.value ∙ c.in_ok-lower_into.ensures in
    subst (λ (name : List ℕ). Leaves WantOfMemory (take_named c.args.key.now name (progress_of c.args.self.now))
    (progress_of c.take_named-taken.new.self) c.take_named-taken.result)
    same c.take_named-taken.ensures
