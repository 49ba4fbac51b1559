use Rattle.std.proofs.Common.{◌≡◌, ◌≤◌, ◌-◌}
use Rattle.bst_step.specs.Lines.{page_in}
use Rattle.bst_step.specs.Machine.{configuration, style_of}
use Rattle.bst_run.specs.Delivery.{sunk}
use Rattle.bst_run.specs.Putting.{AreSoFar}
use Rattle.bst_run.proofs.running.put_lines.Given as goal

-- so many steps are left, what those before wrote was put, but for what is on the page, and a part has a step
abbrev pub invariant-loop-part : goal.invariant-loop-part
invariant-loop-part g l =
    (l.left ≤ l.fn.count) × (style_of l.machine ≡ style_of l.fn.machine)
    × AreSoFar (style_of l.fn.machine) (l.fn.count - l.left) (configuration l.fn.machine) (configuration l.machine) (page_in l.page)
    (sunk g.O.Sink l.fn.out l.out)
    × (1 ≤ l.part)

abbrev pub decreases-loop-part : goal.decreases-loop-part
decreases-loop-part g l = l.left
