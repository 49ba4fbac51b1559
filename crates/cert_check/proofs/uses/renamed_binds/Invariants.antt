use Rattle.std.proofs.Common.{◌≡◌, map, take}
use Rattle.sym_state.specs.Matches.{matched_by}
use Rattle.sym_state.specs.Renaming.{bind_renamed}
use Rattle.cert_check.proofs.uses.renamed_binds.Given as goal

-- the bindings so far are renamed
abbrev pub invariant-loop-bind : goal.invariant-loop-bind
invariant-loop-bind l = l.all.items ≡ map (bind_renamed (matched_by l.matching)) (take l.bind-index l.binds)
