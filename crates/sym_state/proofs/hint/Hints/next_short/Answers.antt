-- The proofs of the hint that is taken and of those that are left are short.
use Rattle.std.proofs.Common.{sym}
use Rattle.std.proofs.lemmas.List.Elements.{All-head, All-rest, All-same}
use Rattle.sym_state.specs.Demands.{HasFewUses}
use Rattle.sym_state.proofs.hint.Hints.next_short.Goals as goal

pub returns-in-Some-clause-few : goal.returns-in-Some-clause-few
returns-in-Some-clause-few c = All-rest HasFewUses c.in-Some.hint.now c.next.new.self c.args.self.now c.in-Some.ensures c.requires

pub returns-in-Some-clause-uses : goal.returns-in-Some-clause-uses
returns-in-Some-clause-uses c =
    All-head HasFewUses c.in-Some.hint.now c.next.new.self (All-same HasFewUses _ _ (sym c.in-Some.ensures) c.requires)
