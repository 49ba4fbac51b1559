-- The coefficient goes to that of the term, or the part to the place of its term.
use Rattle.std.proofs.Common.{◌≡◌, ◌∙◌, ℕ, List, Option, ap, arith, to_z, of_z, w64}
use Rattle.std.specs.Prelude.{ℤ}
use Rattle.std.proofs.lemmas.Int.{ints}
use Rattle.lin_facts.specs.declared.row.Part.{Part}
use Rattle.lin_facts.specs.declared.row.Term.{Term}
use Rattle.straight_proofs.specs.Remainders.{added, coefficient_at, place_of, widened}
use Rattle.straight_proofs.proofs.Canonical.{placed_new, placed_there, where_ok}
use Rattle.straight_proofs.proofs.remainders.add_part.Goals as goal

-- a place that is looked up in a slice of the parts is that in the parts, and so is what stands there
place_in : (slice parts : List Part) (term : Term) (at : ℕ) → at ≡ place_of slice term → slice ≡ parts → at ≡ place_of parts term
place_in slice parts term at said is = said ∙ ap (λ ps. place_of ps term) is

there_in : (slice parts : List Part) (term : Term) (at : ℕ) (found : Option ℤ) → found ≡ coefficient_at slice at term → slice ≡ parts
    → found ≡ coefficient_at parts at term
there_in slice parts term at found said is = said ∙ ap (λ ps. coefficient_at ps at term) is

pub returns-in-Some : goal.returns-in-Some
returns-in-Some c =
    let small = c.in-Some.ensures.small in
    placed_there c.args.part c.args.parts.now.items c.change.new.parts.items c.place_of-at.result c.in-Some.n (to_z w64 (of_z w64 c.sum.result)) c.change.ensures
    (place_in _ _ c.args.part.term c.place_of-at.result c.place_of-at.ensures.said c.as_slice.ensures.value)
    (there_in _ _ c.args.part.term c.place_of-at.result _ c.in-Some.ensures.said c.as_slice-2.ensures.value)
    (omega (arith, ints, c.sum.ensures, small.low, small.high, c.requires.part.low, c.requires.part.high))

pub returns-in-None : goal.returns-in-None
returns-in-None c =
    let part = c.args.part in
    let parts = c.args.parts.now.items in
    let at = c.place_of-at.result in
    let new = c.widen.new.parts.items in
    where_ok (new ≡ widened parts at part) (new ≡ added part parts) c.widen.result
    (λ e. placed_new part parts new at e (place_in _ _ part.term at c.place_of-at.ensures.said c.as_slice.ensures.value)
    (there_in _ _ part.term at _ c.in-None.ensures.said c.as_slice-2.ensures.value)) c.widen.ensures
