use Rattle.std.proofs.Common.{◌≡◌, map, drop}
use Rattle.bst_step.specs.State.{event_of}
use Rattle.bst_step.specs.Lines.{added, page_in}
use Rattle.bst_step.proofs.page.Page.add_all.Given as goal

-- the page with what is left comes to the page of all
abbrev pub invariant-loop-at : goal.invariant-loop-at
invariant-loop-at l = added (page_in l.self) (map event_of (drop l.at l.events)) ≡ added (page_in l.fn.self) (map event_of l.events)
