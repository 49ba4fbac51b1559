-- However its terms are renamed, the row of a small sum is within its bounds.
use Rattle.std.proofs.Common.{◌≡◌, List, map, pos, ap, subst, sym, ◌∙◌, arith}
use Rattle.lin_facts.specs.declared.row.Part.{Part}
use Rattle.sym_state.specs.WellMade.{IsBounded}
use Rattle.loop_templates.specs.Rows.{symbol_in}
use Rattle.loop_templates.proofs.SmallSums.{renamed, sum_bounded}
use Rattle.loop_templates.proofs.Taken.{take_room}
use Rattle.loop_templates.proofs.claims.row_over.Goals as goal

pub returns-clause-bounded : goal.returns-clause-bounded
returns-clause-bounded c =
    let name = symbol_in c.args.state.now in
    let all : c.loop-part.parts.items ≡ map (renamed name) c.args.sum.now =
    c.loop-part.invariant ∙ ap (λ (parts : List Part). map (renamed name) parts) (take_room c.loop-part.part-index c.args.sum.now (omega arith)) in
    subst (λ (parts : List Part). IsBounded (record { constant = pos 0; parts = parts })) (sym (c.from_vec.ensures ∙ all))
    (sum_bounded name c.args.sum.now c.requires)
