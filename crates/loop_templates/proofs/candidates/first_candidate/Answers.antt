-- The cases of the first candidate stand in certificates.
use Rattle.std.proofs.Common.{◌≡◌, IfSome}
use Rattle.std.proofs.lemmas.Result.{IfOk-weaker}
use Rattle.loop_templates.specs.Candidates.{HasCases, first_candidate}
use Rattle.loop_templates.proofs.Standing.{first_has_cases}
use Rattle.loop_templates.proofs.candidates.first_candidate.Goals as goal

pub returns-clause-stand : goal.returns-clause-stand
returns-clause-stand c =
    IfOk-weaker c.first_of.result (λ found. found ≡ first_candidate c.args.frame.now) (λ found. IfSome found (HasCases c.args.frame.now))
    (λ found is. first_has_cases c.args.frame.now found is c.requires.frame) c.first_of.ensures
