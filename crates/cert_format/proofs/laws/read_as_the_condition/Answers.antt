use Rattle.std.proofs.Common.{◌∙◌, ap}
use Rattle.cert_format.specs.Texts.{cond_of}
use Rattle.cert_format.proofs.CondBack.{cond_back}
use Rattle.cert_format.proofs.CondKept.{cond_kept}
use Rattle.cert_format.proofs.CondSteps.{cond_spelled}
use Rattle.cert_format.proofs.Plain.{plain_names}
use Rattle.cert_format.proofs.laws.read_as_the_condition.Goals as goal

pub returns : goal.returns
returns c = λ style source condition sound. (
  λ read. record { kept = cond_kept style source condition read; spelled = cond_spelled style source condition read },
  λ text. ap (cond_of style) text.spelled ∙ cond_back style condition (plain_names style sound) text.kept,
)
