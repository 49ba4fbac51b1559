use Rattle.std.proofs.Common.{◌≡◌, drop}
use Rattle.bst_run.specs.Requests.{first_input}
use Rattle.bst_run.proofs.files.requests.first_input.Given as goal

-- no input stands before this item
abbrev pub invariant-loop-item : goal.invariant-loop-item
invariant-loop-item l = first_input (drop l.item-index l.items) ≡ first_input l.fn.items
