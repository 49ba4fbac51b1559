use Rattle.std.proofs.Common.{◌≡◌, ◌++◌, ◌∷◌, [], drop}
use Rattle.std.specs.List.{flat_map}
use Rattle.bst_step.proofs.lines.push_lines.Given as goal

-- the text with what is left comes to the text of all
abbrev pub invariant-loop-line : goal.invariant-loop-line
invariant-loop-line l =
    l.text.items ++ flat_map (λ line. line ++ 10 ∷ []) (drop l.line-index l.lines)
    ≡ l.initial.text.items ++ flat_map (λ line. line ++ 10 ∷ []) l.lines
