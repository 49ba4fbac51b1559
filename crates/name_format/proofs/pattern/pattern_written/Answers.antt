-- A group, and what follows it.
use Rattle.std.proofs.Common.{◌≡◌, ℕ, ◌<◌, List, ◌++◌, length, ap, ◌∙◌, arith}
use Rattle.name_split.specs.declared.spans.Parts.{Parts}
use Rattle.name_split.specs.Formatted.{group_written, pattern_written}
use Rattle.name_split.specs.Patterns.{letter_runs}
use Rattle.name_format.proofs.Passing.{group_put, group_text, tail}
use Rattle.name_format.proofs.pattern.pattern_written.Goals as goal

pub loop-rest-preserved-then-first-eq123 : goal.loop-rest-preserved-then-first-eq123
loop-rest-preserved-then-first-eq123 c =
    let name : List ℕ = c.args.name.now in
    let parts : Parts = c.args.parts in
    let rest : List ℕ = c.loop-rest.rest.now in
    let some : 0 < length rest = omega arith in
    let put : c.write_group.new.out.items ≡ c.loop-rest.out.items ++ group_text name parts (tail rest) =
    c.in_ok-write_group.ensures
    ∙ ap (λ xs. c.loop-rest.out.items ++ group_written name parts xs (letter_runs 1 xs)) c.inside.ensures in
    ap (λ xs. c.write_group.new.out.items ++ pattern_written name parts 0 xs) c.behind_brace-rest.ensures
    ∙ group_put name parts rest _ _ _ some c.if-first-eq123.true put c.loop-rest.invariant
