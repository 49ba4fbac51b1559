use Rattle.std.proofs.Common.{◌++◌}
use Rattle.cert_format.specs.Spelling.{cond_end, cond_lists, cond_numbers}
use Rattle.cert_format.proofs.Texts.{puts}
use Rattle.cert_format.proofs.print.put_cond.Goals as goal

pub returns : goal.returns
returns c =
    let numbers = cond_numbers c.args.cond.now in
    let lists = cond_lists c.args.names.now c.args.cond.now in
    let end = cond_end c.args.cond.now.other in
    puts c.put_cond_end.result numbers (lists ++ end) _ _ _ c.in_ok-put_numbers.ensures
    (puts c.put_cond_end.result lists end _ _ _ c.in_ok-put_lists.ensures c.put_cond_end.ensures)
