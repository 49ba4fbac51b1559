-- At the end all commas are seen.
use Rattle.std.proofs.Common.{◌≡◌, ℕ, List, [], drop, sym, ap, ◌∙◌, subst, arith}
use Rattle.std.proofs.Math.ListN.{drop_of_length-le}
use Rattle.name_split.specs.Commas.{CommasAre}
use Rattle.name_split.specs.Parts.{commas}
use Rattle.name_split.proofs.Counting.{commas_are, more_commas}
use Rattle.name_split.proofs.commas.commas_of.Goals as goal

pub returns-clause-commas : goal.returns-clause-commas
returns-clause-commas c =
    let name : List ℕ = c.args.name.now in
    let end : drop c.loop-at.at name ≡ [] = drop_of_length-le name (omega arith) in
    subst (λ seen. CommasAre seen (commas 0 0 name))
    (sym (sym (ap (λ xs. more_commas c.loop-at.seen (commas c.loop-at.at c.loop-at.level xs)) end) ∙ c.loop-at.invariant.same))
    (commas_are (commas 0 0 name))
