use Rattle.std.proofs.Common.{◌≡◌, ◌++◌, take}
use Rattle.text_ops.specs.ChangeCase.{changed_letters}
use Rattle.text_ops.proofs.change_case.push_changed.Given as goal

abbrev pub invariant-loop-b : goal.invariant-loop-b
invariant-loop-b l = l.out.items ≡ l.fn.out.items ++ changed_letters l.mode (take l.b-index l.letters)
