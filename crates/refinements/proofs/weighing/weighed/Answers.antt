-- The hints that are left were there before.
use Rattle.std.proofs.Common.{subst, sym}
use Rattle.std.proofs.lemmas.List.Elements.{All-head, All-rest, All-same}
use Rattle.sym_state.specs.Cases.{HasFewUses}
use Rattle.refinements.proofs.weighing.weighed.Goals as goal

pub returns-in-Some-Keep-clause-proofs : goal.returns-in-Some-Keep-clause-proofs
returns-in-Some-Keep-clause-proofs c =
    All-rest HasFewUses c.in-Some-Keep.field-0.now c.next.new.self c.args.hints.now c.in-Some-Keep.ensures c.requires.proofs

pub returns-then-branch-clause-proofs : goal.returns-then-branch-clause-proofs
returns-then-branch-clause-proofs c =
    All-rest HasFewUses c.in-Some-Drop.field-0.now c.next.new.self c.args.hints.now c.in-Some-Drop.ensures c.requires.proofs

pub refutes-requires-clause-proof : goal.refutes-requires-clause-proof
refutes-requires-clause-proof c =
    subst HasFewUses c.in-Some-Drop.field-0-is
    (All-head HasFewUses c.in-Some-Drop.field-0.now c.next.new.self (All-same HasFewUses _ _ (sym c.in-Some-Drop.ensures) c.requires.proofs))
