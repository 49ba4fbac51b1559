-- The cases of a candidate may be walked.
use Rattle.std.proofs.Common.{ap, sym, ◌∙◌}
use Rattle.name_table.specs.declared.style.Style.{Style}
use Rattle.infer_loops.specs.Invariants.{toured}
use Rattle.infer_loops.proofs.CasePieces.{added_pieces, first_pieces}
use Rattle.infer_loops.proofs.Sequences.{walked_there}
use Rattle.infer_loops.proofs.sequence.stepped.Goals as goal

pub toured-requires-clause-first : goal.toured-requires-clause-first
toured-requires-clause-first c =
    first_pieces c.args.frame.now c.args.checker.now.style c.args.one.entry c.args.candidate c.requires.frame.sound c.requires.candidate c.requires.style
    c.requires.entry

pub toured-requires-clause-added : goal.toured-requires-clause-added
toured-requires-clause-added c =
    added_pieces c.args.frame.now c.args.checker.now.style c.args.one.entry c.args.candidate c.requires.frame.sound c.requires.candidate c.requires.style
    c.requires.entry

pub returns-in-Some-clause-comes : goal.returns-in-Some-clause-comes
returns-in-Some-clause-comes c later =
    walked_there c.args.frame.now c.args.one c.args.candidate later (toured c.args.frame.now.style c.args.checker.now.cert c.args.one c.args.candidate)
    c.in-Some.tour c.settled.result
    (ap (λ (style : Style). toured style c.args.checker.now.cert c.args.one c.args.candidate) c.requires.style ∙ sym c.in_ok-tour.ensures.tour ∙ c.in-Some.is)
    (c.settled.ensures.comes later)
