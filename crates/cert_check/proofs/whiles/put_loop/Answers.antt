-- The loop is one of the style.
use Rattle.std.proofs.Common.{◌∙◌, Result, IfOk, ℕ, arith, subst, sym}
use Rattle.cert_check.specs.Certified.{AreMade}
use Rattle.cert_check.specs.declared.refusal.Refusal.{Refusal}
use Rattle.cert_check.proofs.WhileSteps.{put_made}
use Rattle.cert_check.proofs.whiles.put_loop.Goals as goal
use Rattle.cert_check.proofs.whiles.put_loop.Goals.{in-Err, in-Ok}

pub returns-clause-made : goal.returns-clause-made
returns-clause-made c = λ style made sound.
    let less = c.if-k-loop_count.false in
    let many = c.loop_count.ensures.made in
    let last = c.len-k.ensures in
    let holds : Result ℕ Refusal → Type 0 = λ r. IfOk r (λ k. AreMade style (record { made = c.push.new.self.items; course = c.args.course.now })) in
    elim c.match-push.branch [
      | in-Ok w ↦ subst holds (sym w.result-is)
          (put_made style c.args.found c.args.made.now.items c.push.new.self.items c.args.course.now w.in-Ok.ensures.items (omega (arith, less, many, last)) made sound)
      | in-Err w ↦ subst holds (sym (w.result-is ∙ w.refuse-in-Err.ensures)) tt
    ]
