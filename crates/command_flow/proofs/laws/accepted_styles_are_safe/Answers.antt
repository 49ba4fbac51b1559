-- The law of accepted certificates, by those of the machine's steps and of checked units.
use Rattle.command_flow.proofs.Commands.{Laws, checked_is_safe}
use Rattle.command_flow.proofs.laws.accepted_styles_are_safe.Goals as goal

pub returns : goal.returns
returns c =
    let laws : Laws = record {
      opening = λ style list sound fits. c.runs_are_well_formed.ensures.opening style list sound fits;
      formed = λ style list config sound fits formed. c.runs_are_well_formed.ensures.step style list config sound fits formed;
      calls = λ style cert list states target place at hints after n sound fits certified checked made e.
          c.checked_units_are_safe.ensures.calls style cert list states target place at hints after n sound fits certified checked made e;
    } in
    checked_is_safe laws
