use Rattle.std.proofs.Common.{sym, subst}
use Rattle.bst_run.specs.declared.outcome.Outcome.{Outcome}
use Rattle.bst_run.specs.Stops.{IsDecided}
use Rattle.bst_run.proofs.UnderLemmas.{few_lines, under_decided}
use Rattle.bst_run.proofs.under.text_under.Goals as goal

-- what was read is a certificate of the style
pub holds-requires-clause-certified : goal.holds-requires-clause-certified
holds-requires-clause-certified c =
    c.certificates_are_certified.ensures c.args.sources.style c.args.text.now c.in_ok-cert.cert c.requires.sound c.requires.short c.in_ok-cert.ensures.exact

-- its condition has few lines, since its text is short
pub under-requires-clause-lines : goal.under-requires-clause-lines
under-requires-clause-lines c =
    few_lines c.args.sources.style c.args.text.now c.in_ok-cert.cert c.requires.short
    ((c.read_as_the_certificate.ensures c.args.sources.style c.args.text.now c.in_ok-cert.cert c.requires.sound).0 c.in_ok-cert.ensures.exact)

-- a run's answer is decided by the files
pub returns-clause-decided : goal.returns-clause-decided
returns-clause-decided c =
    subst (λ (o : Outcome). IsDecided o.status) (sym c.in_ok-under.ensures.exact) (under_decided c.args.steps c.in_ok-cert.cert.cond c.args.sources)
