use Rattle.bst_run.proofs.GenerateLemmas.{is_shown}
use Rattle.bst_run.proofs.generating.show.Goals as goal

pub returns-clause-shown : goal.returns-clause-shown
returns-clause-shown c =
    is_shown c.args.style.now c.in_ok-cond.cond c.in_ok-cert.cert c.unrejected.result c.in_ok-cond.ensures.exact c.in_ok-cert.ensures.found
    c.in_ok-cert.ensures.under c.unrejected.ensures.held
