use Rattle.cert_format.specs.Texts.{cert_of}
use Rattle.cert_format.specs.declared.cert.Cert.{Cert}
use Rattle.bst_run.specs.declared.outcome.Outcome.{Outcome}
use Rattle.bst_run.specs.Sources.{read_cert}
use Rattle.bst_run.specs.Top.{judged}
use Rattle.bst_run.proofs.CheckLemmas.{text_judged_well}
use Rattle.bst_run.proofs.ReadsLemmas.{then_decided}
use Rattle.bst_run.proofs.check.judge_text.Goals as goal

-- what was read is a certificate of the style
pub judge-requires-clause-certified : goal.judge-requires-clause-certified
judge-requires-clause-certified c =
    c.certificates_are_certified.ensures c.args.style.now c.args.text.now c.in_ok-cert.cert c.requires.sound c.requires.short c.in_ok-cert.ensures.exact

-- the certificate is judged
pub returns-clause-accepted : goal.returns-clause-accepted
returns-clause-accepted c =
    text_judged_well c.args.style.now c.args.text.now c.in_ok-cert.cert c.judge.result c.in_ok-cert.ensures.exact c.judge.ensures.accepted

pub returns-clause-decides : goal.returns-clause-decides
returns-clause-decides c =
    then_decided {A = Cert} {B = Outcome} (read_cert (cert_of c.args.style.now c.args.text.now)) c.in_ok-cert.cert (judged c.args.style.now) c.judge.result
    c.in_ok-cert.ensures.decides c.judge.ensures.decides
