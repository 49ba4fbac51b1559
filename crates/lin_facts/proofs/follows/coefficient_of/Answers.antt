-- A part of the term adds its coefficient, and every other part adds 0.
use Rattle.std.proofs.Common.{◌≡◌, ◌*◌, cond, ap, sym, ◌∙◌, get_or, arith, to_z, w64}
use Rattle.std.specs.Prelude.{pos, ◌+ℤ◌}
use Rattle.std.proofs.lemmas.Int.{ints}
use Rattle.lin_facts.proofs.Steps.{no_part, added, coefficient_kept, coefficient_size}
use Rattle.lin_facts.proofs.follows.coefficient_of.Goals as goal
use Rattle.lin_facts.proofs.follows.coefficient_of.Goals.{then-same_term, else-same_term}

pub loop-part-preserved : goal.loop-part-preserved
loop-part-preserved c =
    let parts = c.args.parts.now in
    let i = c.loop-part.part-index in
    let part = get_or parts i no_part in
    let small = c.requires.small i no_part c.loop-part-test.true in
    let is : to_z w64 c.if-same_term.sum-bits ≡ (to_z w64 c.loop-part.sum-bits +ℤ added part c.args.term) =
    elim c.if-same_term.branch [
      | then-same_term w ↦
          let e = ap (λ b. cond b part.coefficient (pos 0)) (sym c.same_term.ensures ∙ w.if-same_term.true) in
          omega (arith, ints, e, w.sum-is, small.low, small.high, c.loop-part.invariant.size.low, c.loop-part.invariant.size.high, c.requires.few)
      | else-same_term w ↦
          let e = ap (λ b. cond b part.coefficient (pos 0)) (sym c.same_term.ensures ∙ w.if-same_term.false) in
          omega (arith, ints, e, w.sum-is)
    ] in
    record {
      left = coefficient_kept parts c.args.term i _ _ c.loop-part-test.true is c.loop-part.invariant.left;
      size =
          coefficient_size 10133099161583616 (i * 10133099161583616) _ parts c.args.term i _ _ c.loop-part-test.true (omega arith) is
          c.requires.small c.loop-part.invariant.size;
      small = λ each.
          coefficient_size 35184372088832 (i * 35184372088832) _ parts c.args.term i _ _ c.loop-part-test.true (omega arith) is each
          (c.loop-part.invariant.small each);
    }
