-- One command more is walked, or its rule fails.
use Rattle.std.proofs.Common.{◌≡◌, ◌<◌, ◌++◌, List, length, subst, arith}
use Rattle.std.proofs.lemmas.Result.{err_from_is_err_and}
use Rattle.name_table.specs.declared.style.CommandAt.{CommandAt}
use Rattle.command_flow.specs.Finding.{record_of}
use Rattle.command_flow.proofs.CommandsFound.{before_next, found_next, found_refused, one_found, put_on}
use Rattle.command_flow.proofs.finding.commands_found.Goals as goal

pub returns-in_err-found-clause-finds : goal.returns-in_err-found-clause-finds
returns-in_err-found-clause-finds c =
    let p = err_from_is_err_and c.from_residual-in_err-found.result c.from_residual-in_err-found.ensures.1 in
    rw (p.1, p.2)
    (found_refused c.args.finding c.args.checker.now.style c.args.checker.now.cert c.loop-index.index c.loop-index.between c.loop-index.parts.items _ _ c.in_err-found.field-0.0
    (one_found c.args.finding c.args.checker.now.style c.args.style.now c.args.checker.now.cert c.loop-index.index c.loop-index.between c.loop-index.parts.items
    c.as_slice-command-items.result.now _ c.requires.style c.as_slice-command-items.ensures (let within = c.loop-index-test.true in omega (arith, within)))
    c.loop-index.invariant.left c.in_err-found.ensures.decides)

pub loop-index-preserved : goal.loop-index-preserved
loop-index-preserved c =
    let put = put_on (c.push_record.new.parts.items ≡ c.loop-index.parts.items ++ record_of c.loop-index.index c.in_ok-found.found.hints)
    c.push_record.result c.in_ok-held.field-0 c.in_ok-held.ensures c.push_record.ensures in
    let there : c.loop-index.index < length c.as_slice-command-items.result.now = (let within = c.loop-index-test.true in omega (arith, within)) in
    record {
      left = found_next c.args.finding c.args.checker.now.style c.args.checker.now.cert c.loop-index.index c.loop-index.between c.loop-index.parts.items
          c.push_record.new.parts.items c.in_ok-found.found _ _
          (one_found c.args.finding c.args.checker.now.style c.args.style.now c.args.checker.now.cert c.loop-index.index c.loop-index.between c.loop-index.parts.items
          c.as_slice-command-items.result.now _ c.requires.style c.as_slice-command-items.ensures there)
          c.loop-index.invariant.left c.in_ok-found.ensures.decides put;
      records = before_next c.args.style.now c.loop-index.index c.loop-index.parts.items c.push_record.new.parts.items c.in_ok-found.found.hints
          (subst (λ (l : List CommandAt). c.loop-index.index < length l) c.as_slice-command-items.ensures there) c.loop-index.invariant.records
          c.in_ok-found.ensures.found.written put;
      ready = c.in_ok-found.ensures.found.ready;
    }
