-- Each use adds its row, taken so many times.
use Rattle.std.proofs.Common.{◌≡◌, ap, ◌∙◌, get_or, arith, to_z, of_z, w64}
use Rattle.std.specs.Prelude.{pos, ◌+ℤ◌, ◌*ℤ◌}
use Rattle.std.proofs.lemmas.Int.{ints, to_z-of_z}
use mir.Syntax.{w128}
use Rattle.std.proofs.lemmas.List.{get_or_default}
use Rattle.lin_facts.specs.Follows.{row_at, entry}
use Rattle.lin_facts.proofs.Steps.{no_use, summed_kept, summed_size}
use Rattle.lin_facts.proofs.follows.summed.Goals as goal

pub loop-u-preserved : goal.loop-u-preserved
loop-u-preserved c =
    let taken = get_or c.args.uses.now c.loop-u.u-index no_use in
    let row : c.index-rows-u.result ≡ row_at c.args.rows.now taken.row =
    c.index-rows-u.is ∙ get_or_default c.args.rows.now taken.row _ _ (c.requires.there c.loop-u.u-index no_use c.loop-u-test.true) in
    let number : to_z w64 (of_z w64 c.entry.result) ≡ entry c.args.column (row_at c.args.rows.now taken.row) =
    to_z-of_z w64 c.entry.result (omega (arith, ints, c.entry.ensures.size)) ∙ c.entry.ensures.value ∙ ap (entry c.args.column) row in
    let more : c.scaled-sum.result ≡ (pos taken.times *ℤ entry c.args.column (row_at c.args.rows.now taken.row)) =
    c.scaled-sum.ensures.value ∙ ap (λ x. pos taken.times *ℤ x) number in
    let is : to_z w128 (of_z w128 (to_z w128 c.loop-u.sum-bits +ℤ to_z w128 (of_z w128 c.scaled-sum.result))) ≡ (to_z w128 c.loop-u.sum-bits +ℤ c.scaled-sum.result) =
    omega (arith, ints, c.loop-u.invariant.size, c.scaled-sum.ensures.size, c.requires.few) in
    record {
      left = summed_kept c.args.rows.now c.args.column c.args.uses.now c.loop-u.u-index _ _ c.loop-u-test.true
          (is ∙ ap (λ x. to_z w128 c.loop-u.sum-bits +ℤ x) more) c.loop-u.invariant.left;
      size = summed_size c.loop-u.u-index _ _ _ is c.scaled-sum.ensures.size c.loop-u.invariant.size;
    }
