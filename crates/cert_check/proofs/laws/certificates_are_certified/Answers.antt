-- The law of certificates that were read, by the law of the grammar.
use Rattle.cert_check.proofs.Certifying.{cert_certified}
use Rattle.cert_check.proofs.laws.certificates_are_certified.Goals as goal

pub returns : goal.returns
returns c = λ style source cert sound few e. cert_certified style source cert sound few ((c.read_as_the_certificate.ensures style source cert sound).0 e)
