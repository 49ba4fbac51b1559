use Rattle.std.proofs.Common.{◌≡◌, ◌+◌, ◌*◌, ◌-◌, min, ap, sym, ◌∙◌, arith, add-one, drop, get_or, drop-cons, List, ◌∷◌, ℕ}
use Rattle.bv_base.specs.Runs.{number_from}
use Rattle.bv_base.specs.declared.limits.TheConstants.{WIDEST_NUMBER}
use Rattle.bv_base.proofs.Running.{number_same}
use Rattle.bv_base.proofs.runs.number.Goals as goal

pub loop-digit-preserved : goal.loop-digit-preserved
loop-digit-preserved c =
    let rest : List ℕ = drop (c.loop-digit.digit-index + 1) c.args.digits.now in
    let digit : ℕ = get_or c.args.digits.now c.loop-digit.digit-index 0 in
    let first : drop c.loop-digit.digit-index c.args.digits.now ≡ digit ∷ rest =
    drop-cons c.args.digits.now c.loop-digit.digit-index 0 c.loop-digit-test.true
    ∙ ap (λ n. digit ∷ drop n c.args.digits.now) (sym (add-one c.loop-digit.digit-index)) in
    record {
      capped = omega arith;
      number = number_same c.min-value.result (10 * c.loop-digit.value + (digit - 48)) rest (omega arith)
          ∙ ap (λ ds. min WIDEST_NUMBER (number_from c.loop-digit.value ds)) (sym first)
          ∙ c.loop-digit.invariant.number;
    }
