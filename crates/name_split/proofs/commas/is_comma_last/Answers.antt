use Rattle.std.proofs.Common.{◌≡◌, [], sym}
use Rattle.name_split.specs.Parts.{commas}
use Rattle.name_split.proofs.Ending.{none_last}
use Rattle.name_split.proofs.commas.is_comma_last.Goals as goal

pub returns-in-Zero : goal.returns-in-Zero
returns-in-Zero c =
    let none : commas 0 0 c.args.name.now ≡ [] = rw c.in-Zero.is at c.requires in
    sym (none_last 0 0 c.args.name.now none)
