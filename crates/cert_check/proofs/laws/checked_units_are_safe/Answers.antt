-- The law of checked certificates, by the laws of the machine's steps and of its built-in functions.
use Rattle.cert_check.proofs.Calling.{call_safe, loop_use_safe, use_safe}
use Rattle.cert_check.proofs.Safety.{Laws}
use Rattle.cert_check.proofs.laws.checked_units_are_safe.Goals as goal

pub returns : goal.returns
returns c =
    let laws : Laws = record {
      formed = λ style list config sound fits formed. c.runs_are_well_formed.ensures.step style list config sound fits formed;
      kept = λ style o place config. c.effects_are_confined.ensures.kept style o place config;
      confined = λ o context stack effect gives. c.effects_are_confined.ensures.confined o context stack effect gives;
      one_body = λ style a b number sound first second. c.one_body_a_number.ensures style a b number sound first second;
    } in
    record { uses = use_safe laws; loops = loop_use_safe laws; calls = call_safe laws }
