-- A row more is looked at.
use Rattle.std.proofs.Common.{◌≡◌, ◌+◌, ◌<◌, false, [], ◌∷◌, ◌++◌, length, drop, get_or, ap, sym, subst, ◌∙◌, arith}
use Rattle.std.specs.List.{filter}
use Rattle.std.proofs.lemmas.List.{get_or_default}
use Rattle.lin_facts.specs.declared.row.Row.{Row}
use Rattle.loop_templates.proofs.OneByOne.{image_at, kept_here, left_out}
use Rattle.loop_templates.proofs.lowering.marked_rows.Goals as goal
use Rattle.loop_templates.proofs.lowering.marked_rows.Goals.{then-marks-k+in_ok-copied+in_ok-push, else-marks-k}

pub loop-k-preserved : goal.loop-k-preserved
loop-k-preserved c = λ test is.
    let rows = c.args.rows.now in
    let marks = c.args.marks.now in
    let k = c.loop-k.k in
    let row = c.index-rows-k.result in
    let here = c.index-rows-k.is in
    let more : k < length rows = c.loop-k-test.true in
    let many = c.requires in
    let mark = get_or marks k false in
    let marked = image_at test rows marks k row mark more is here (get_or_default marks k false mark (omega (arith, more, many))) in
    elim c.if-marks-k.branch [
      | then-marks-k+in_ok-copied+in_ok-push w ↦ kept_here test rows c.loop-k.left.items c.if-marks-k.left.items _ k row more here (sym marked ∙ w.if-marks-k.true)
          (ap (λ them. them.items) w.left-is ∙ w.in_ok-push.ensures.items ∙ ap (λ (it : Row). c.loop-k.left.items ++ it ∷ []) w.in_ok-copied.ensures)
          (c.loop-k.invariant test is)
      | else-marks-k w ↦ subst (λ them. them.items ++ filter test (drop (k + 1) rows) ≡ filter test rows) (sym w.left-is)
          (left_out test rows c.loop-k.left.items _ k row more here (sym marked ∙ w.if-marks-k.false) (c.loop-k.invariant test is))
    ]
