-- A sum with parts left out is small too.
use Rattle.std.proofs.Common.{◌≡◌, not, refl, subst, sym, arith}
use Rattle.loop_templates.specs.Rows.{is_pos, without_pos}
use Rattle.loop_templates.specs.Sums.{IsSmallSum}
use Rattle.loop_templates.proofs.OneByOne.{all_added}
use Rattle.loop_templates.proofs.SmallSums.{kept_small}
use Rattle.loop_templates.proofs.claims.without_pos.Goals as goal

pub returns-clause-small : goal.returns-clause-small
returns-clause-small c =
    let all : c.loop-part.left.items ≡ without_pos c.args.sum.now =
    all_added without_pos c.loop-part.left.items _ c.loop-part.part-index c.args.sum.now refl (omega arith) c.loop-part.invariant in
    subst IsSmallSum (sym all) (kept_small (λ part. not (is_pos part.term)) c.args.sum.now c.requires)
