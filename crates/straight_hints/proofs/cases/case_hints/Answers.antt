-- Where no hint is left, each case has bounds.
use Rattle.std.proofs.Common.{◌∙◌, eqb-true, length, sym}
use Rattle.std.proofs.lemmas.List.{nil_from_length}
use Rattle.straight_hints.proofs.cases.case_hints.Goals as goal

pub each_case-requires : goal.each_case-requires
each_case-requires c =
    c.requires (nil_from_length c.args.left.now (eqb-true (length c.args.left.now) 0 (sym c.is_empty.ensures ∙ c.if-is_empty.true)))
