use Rattle.std.proofs.Common.{◌≡◌, ◌≤◌, drop}
use Rattle.name_split.specs.declared.commas.Commas.TheVariants.{Zero}
use Rattle.name_split.specs.Commas.{AreBelow}
use Rattle.name_split.specs.Parts.{commas}
use Rattle.name_split.proofs.Counting.{more_commas}
use Rattle.name_split.proofs.commas.commas_of.Given as goal

abbrev pub invariant-loop-at : goal.invariant-loop-at
invariant-loop-at l = record {
  low : l.level ≤ l.at;
  below : AreBelow l.seen l.at;
  same : more_commas l.seen (commas l.at l.level (drop l.at l.name)) ≡ more_commas Zero (commas 0 0 l.name);
}
