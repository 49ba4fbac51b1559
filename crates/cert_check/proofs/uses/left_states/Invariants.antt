use Rattle.std.proofs.Common.{◌≡◌, map, take}
use Rattle.cert_check.specs.Uses.{left_state}
use Rattle.cert_check.proofs.uses.left_states.Given as goal

-- a state for each post so far
abbrev pub invariant-loop-post : goal.invariant-loop-post
invariant-loop-post l =
    l.states.items ≡ map (left_state l.came.style.now l.came.cond.now l.came.unit.now l.came.pre.now l.came.kept l.came.state.now) (take l.post-index l.posts)
