-- One command more is walked, or its rule fails.
use Rattle.std.proofs.Common.{◌≡◌, ◌<◌, ◌++◌, List, length, sym, subst, arith}
use Rattle.std.proofs.lemmas.Result.{err_from_is_err_and}
use Rattle.cert_format.specs.declared.cert.CommandPart.{CommandPart}
use Rattle.command_flow.specs.Templates.{AreMadeBefore, seeking_by}
use Rattle.command_flow.proofs.CommandsFound.{put_on}
use Rattle.command_flow.proofs.CommandsMade.{made_before_next, made_in_all, made_next, made_refused, one_made}
use Rattle.command_flow.proofs.templates.commands_made.Goals as goal

pub returns-in_err-made-clause-makes : goal.returns-in_err-made-clause-makes
returns-in_err-made-clause-makes g c =
    let p = err_from_is_err_and c.from_residual-in_err-made.result c.from_residual-in_err-made.ensures.1 in
    let seeking = seeking_by c.args.checker.now (g.M.Loops.made c.args.maker.now) in
    rw (p.1, p.2)
    (made_refused seeking c.loop-index.index c.loop-index.lasting c.loop-index.parts.items _ _ c.in_err-made.field-0.0
    (one_made seeking c.args.style.now c.loop-index.index c.loop-index.lasting c.loop-index.parts.items c.as_slice-command-items.result.now _ c.requires.style
    c.as_slice-command-items.ensures (let within = c.loop-index-test.true in omega (arith, within)))
    c.loop-index.invariant.left c.in_err-made.ensures.makes)

pub loop-index-preserved : goal.loop-index-preserved
loop-index-preserved g c =
    let seeking = seeking_by c.args.checker.now (g.M.Loops.made c.args.maker.now) in
    let put = put_on (c.append.new.parts.items ≡ c.loop-index.parts.items ++ c.in_ok-made.made.parts) c.append.result c.in_ok-held-2.field-0 c.in_ok-held-2.ensures
    c.append.ensures in
    let there : c.loop-index.index < length c.as_slice-command-items.result.now = (let within = c.loop-index-test.true in omega (arith, within)) in
    record {
      left = made_next seeking c.loop-index.index c.loop-index.lasting c.loop-index.parts.items c.append.new.parts.items c.in_ok-made.made _ _
          (one_made seeking c.args.style.now c.loop-index.index c.loop-index.lasting c.loop-index.parts.items c.as_slice-command-items.result.now _
          c.requires.style c.as_slice-command-items.ensures there)
          c.loop-index.invariant.left c.in_ok-made.ensures.makes put;
      records = made_before_next c.args.style.now c.loop-index.index c.loop-index.parts.items c.in_ok-made.made.parts c.append.new.parts.items
          c.loop-index.invariant.records c.in_ok-made.ensures.made.parts put;
      lasts = c.in_ok-made.ensures.made.lasting;
    }

pub returns-in_err-held-2-clause-makes : goal.returns-in_err-held-2-clause-makes
returns-in_err-held-2-clause-makes g c =
    let p = err_from_is_err_and c.from_residual-in_err-held-2.result c.from_residual-in_err-held-2.ensures.1 in
    rw (p.1, p.2) (λ memory. absurd (memory c.in_err-held-2.ensures))

pub returns-clause-records : goal.returns-clause-records
returns-clause-records g c =
    subst (λ (parts : List CommandPart). AreMadeBefore c.args.style.now (length c.args.style.now.commands) parts) (sym c.from_vec.ensures)
    (made_in_all c.args.style.now c.loop-index.index c.loop-index.parts.items c.loop-index.invariant.records)
