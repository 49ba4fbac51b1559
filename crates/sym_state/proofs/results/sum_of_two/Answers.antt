-- A sum of two terms is within the bounds of rows.
use Rattle.std.proofs.Common.{◌≤◌, ◌^◌, length, sym, ◌∙◌, ap, subst, List}
use Rattle.std.specs.List.{All, sum_by}
use Rattle.lin_facts.specs.Rows.{IsWithin}
use Rattle.lin_facts.specs.declared.row.Part.{Part}
use Rattle.sym_state.specs.Results.{and_part}
use Rattle.sym_state.specs.WellMade.{size}
use Rattle.sym_state.proofs.Sums.{one_within, two_bounded}
use Rattle.sym_state.proofs.results.sum_of_two.Goals as goal

pub and_part-requires-2-clause-parts : goal.and_part-requires-2-clause-parts
and_part-requires-2-clause-parts c =
    subst (λ (ps : List Part). All (λ (p : Part). IsWithin (2 ^ 45) p.coefficient) ps) (sym (c.as_slice.ensures.value ∙ c.in_ok-parts.ensures))
    (one_within c.args.first.coefficient c.args.first.term c.requires.first)

pub row-requires-clause-parts : goal.row-requires-clause-parts
row-requires-clause-parts c =
    let parts =
    c.in_ok-parts-2.ensures
    ∙ ap (λ (ps : List Part). and_part c.args.second.coefficient c.args.second.term ps) (c.as_slice.ensures.value ∙ c.in_ok-parts.ensures) in
    let bounded = two_bounded c.args.constant c.args.first.coefficient c.args.first.term c.args.second.coefficient c.args.second.term
    c.requires.constant c.requires.first c.requires.second in
    subst (λ (ps : List Part). (length ps ≤ 32) × (sum_by (λ (p : Part). size p.coefficient) ps ≤ 2 ^ 45)) (sym parts) (bounded.parts, bounded.coefficients)
