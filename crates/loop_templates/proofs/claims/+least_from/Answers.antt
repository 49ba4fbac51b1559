-- The lesser of a state's floor and of what the states behind it come to.
use Rattle.std.proofs.Common.{rules, ◌≡◌, ◌+◌, ◌<◌, ◌^◌, ℤ, to_z, of_z, w64, List, length, drop, Some, ap, sym, ◌∙◌, arith}
use Rattle.std.specs.Option.{option_map}
use Rattle.std.proofs.lemmas.Int.{ints, to_z-of_z}
use Rattle.lin_facts.specs.Rows.{IsWithin}
use Rattle.straight_proofs.specs.Asked.{Asked}
use Rattle.loop_templates.specs.Rows.{floor_in, least_floor, lesser}
use Rattle.loop_templates.proofs.Marked.{put_back}
use Rattle.loop_templates.proofs.Sought.{least_on, sought}
use Rattle.loop_templates.proofs.claims.+least_from.Goals as goal

pub returns-clause-least : goal.returns-clause-least
returns-clause-least t c =
    let all = c.args.searches.now in
    let one = c.index-searches-k.result in
    let under : one.cond ≡ c.args.cond.now = search rules in
    let small : IsWithin (2 ^ 49) c.in-Some.c = search rules in
    let number : ℤ = to_z w64 (of_z w64 c.in-Some.c) in
    let same : number ≡ c.in-Some.c = to_z-of_z w64 c.in-Some.c (omega (arith, ints, small.low, small.high)) in
    let first : floor_in one.cond one.state c.args.sum.now ≡ Some c.in-Some.c = search rules in
    let found = first ∙ ap (λ (n : ℤ). Some n) (sym same) in
    let more : c.args.k + 1 < length all = search rules in
    let back = put_back all c.args.k one c.floor_in.new.search c.floor_in.ensures.stays in
    let rest = c.in_ok-least_from.ensures.least
    ∙ ap (λ (them : List Asked). least_floor c.args.cond.now c.args.sum.now (sought (drop (c.args.k + 1) them))) back in
    c.lesser.ensures.least
    ∙ ap (option_map (lesser number)) rest
    ∙ sym (least_on c.args.cond.now c.args.sum.now all c.args.k one number more c.index-searches-k.is under found)
