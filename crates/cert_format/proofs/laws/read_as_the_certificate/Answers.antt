use Rattle.std.proofs.Common.{◌∙◌, ap}
use Rattle.cert_format.specs.Texts.{cert_of}
use Rattle.cert_format.proofs.CertBack.{cert_back}
use Rattle.cert_format.proofs.CertRead.{cert_is}
use Rattle.cert_format.proofs.laws.read_as_the_certificate.Goals as goal

pub returns : goal.returns
returns c = λ style source certificate sound. (
  λ read. let both = cert_is style source certificate read in record { kept = both.1; spelled = both.0 },
  λ text. ap (cert_of style) text.spelled ∙ cert_back style certificate sound text.kept,
)
