-- One command more is taken with its record, or its rule fails.
use Rattle.std.proofs.Common.{◌∙◌, arith}
use Rattle.std.proofs.lemmas.Result.{err_from_is_err_and}
use Rattle.command_flow.proofs.Deciding.{command_refused, fit_behind, fit_first, next_command, one_command}
use Rattle.command_flow.proofs.decision.check_commands.Goals as goal

pub command_taken-requires-clause-part : goal.command_taken-requires-clause-part
command_taken-requires-clause-part c =
    fit_first c.args.style.now c.first_record.result.0 c.loop-index.records.now c.first_record.result.1.now c.first_record.ensures.behind c.loop-index.invariant.fit

pub returns-in_err-between-2 : goal.returns-in_err-between-2
returns-in_err-between-2 c =
    let p = err_from_is_err_and c.from_residual-in_err-between-2.result c.from_residual-in_err-between-2.ensures.1 in
    rw (p.1, p.2)
    (command_refused c.args.style.now c.args.cert.now c.loop-index.index c.loop-index.between _ _ c.in_err-between-2.field-0.0
    (one_command c.args.style.now c.args.checker.now.style c.args.cert.now c.args.checker.now.cert c.loop-index.index c.loop-index.between c.loop-index.records.now
    c.as_slice-command-items.result.now _ c.first_record.result.0 c.requires.style c.requires.cert c.as_slice-command-items.ensures (let within = c.loop-index-test.true in omega (arith, within))
    c.first_record.ensures.record c.loop-index.invariant.later)
    c.loop-index.invariant.left c.in_err-between-2.ensures.decides)

pub loop-index-preserved : goal.loop-index-preserved
loop-index-preserved c = record {
  left = next_command c.args.style.now c.args.cert.now c.loop-index.index c.loop-index.between c.in_ok-between-2.between _ _
      (one_command c.args.style.now c.args.checker.now.style c.args.cert.now c.args.checker.now.cert c.loop-index.index c.loop-index.between c.loop-index.records.now
      c.as_slice-command-items.result.now _ c.first_record.result.0 c.requires.style c.requires.cert c.as_slice-command-items.ensures (let within = c.loop-index-test.true in omega (arith, within))
      c.first_record.ensures.record c.loop-index.invariant.later)
      c.loop-index.invariant.left c.in_ok-between-2.ensures.decides;
  from = c.first_record.ensures.from;
  later = λ k above. c.loop-index.invariant.later k (omega (arith, above)) ∙ c.first_record.ensures.later k above;
  fit = fit_behind c.args.style.now c.first_record.result.0 c.loop-index.records.now c.first_record.result.1.now c.first_record.ensures.behind c.loop-index.invariant.fit;
  ready = c.in_ok-between-2.ensures.ready;
}
