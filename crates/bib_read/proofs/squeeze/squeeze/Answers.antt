use Rattle.std.proofs.Common.{◌∙◌, ◌++◌, ap, sym, drop, List, ℕ}
use Rattle.bib_read.specs.Squeeze.{squeezed}
use Rattle.bib_read.proofs.Squeezing.{front_kept, squeezed_on}
use Rattle.bib_read.proofs.squeeze.squeeze.Goals as goal

pub loop-b-init : goal.loop-b-init
loop-b-init c =
    front_kept c.args.found.now.items c.extend_from_slice.new.self.items c.split_at.result.0.now (squeezed c.same_front-count.result.1 c.split_at.result.1.now)
    (squeezed c.args.begun c.args.text.now) c.in_ok-extend_from_slice.ensures.items
    (c.same_front-count.ensures.same
    ∙ ap (λ (l : List ℕ). l ++ squeezed c.same_front-count.result.1 (drop c.same_front-count.result.0 c.args.text.now)) (sym c.split_at.ensures.front)
    ∙ ap (λ (l : List ℕ). c.split_at.result.0.now ++ squeezed c.same_front-count.result.1 l) (sym c.split_at.ensures.back))

pub loop-b-preserved : goal.loop-b-preserved
loop-b-preserved c =
    squeezed_on c.loop-b.found.items _ c.split_at.result.1.now _ c.loop-b.b-index c.loop-b.begun c.is_white_quickly-white.result
    c.loop-b-test.true c.is_white_quickly-white.ensures c.in_ok-push_squeezed.ensures c.loop-b.invariant
