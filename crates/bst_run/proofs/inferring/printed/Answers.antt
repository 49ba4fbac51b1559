use Rattle.std.proofs.Common.{◌∙◌}
use Rattle.bst_run.proofs.InferLemmas.{printed_text}
use Rattle.bst_run.proofs.inferring.printed.Goals as goal

-- its short text is that of a certificate of the style
pub unrejected-requires-clause-certified : goal.unrejected-requires-clause-certified
unrejected-requires-clause-certified c =
    c.certificates_are_certified.ensures c.args.style.now c.in_ok-text.text c.args.cert.now c.requires.sound c.in_ok-text.ensures.short
    (printed_text c.args.style.now c.in_ok-text.text c.args.cert.now
    (c.read_as_the_certificate.ensures c.args.style.now c.in_ok-text.text c.args.cert.now c.requires.sound) c.requires.kept
    (c.in_ok-text.ensures.same ∙ c.from_vec.ensures ∙ c.in_ok-spelled.ensures))
