-- A sum with each sign turned is small too.
use Rattle.std.proofs.Common.{◌≡◌, List, map, ap, subst, sym, ◌∙◌, arith}
use Rattle.lin_facts.specs.declared.row.Part.{Part}
use Rattle.straight_proofs.specs.Remainders.{turned}
use Rattle.loop_templates.specs.Sums.{IsSmallSum}
use Rattle.loop_templates.proofs.SmallSums.{negated_small}
use Rattle.loop_templates.proofs.Taken.{take_room}
use Rattle.loop_templates.proofs.claims.negated.Goals as goal

pub returns-clause-small : goal.returns-clause-small
returns-clause-small c =
    let all : c.loop-part.all.items ≡ map turned c.args.sum.now =
    c.loop-part.invariant ∙ ap (λ (parts : List Part). map turned parts) (take_room c.loop-part.part-index c.args.sum.now (omega arith)) in
    subst IsSmallSum (sym all) (negated_small c.args.sum.now c.requires)
