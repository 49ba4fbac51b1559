-- Each of the sums is small.
use Rattle.std.proofs.Common.{rules, ◌≡◌, List, [], ◌++◌, flat_map, ap, sym, subst, ◌∙◌}
use Rattle.std.specs.List.{All}
use Rattle.lin_facts.specs.declared.row.Part.{Part}
use Rattle.loop_templates.specs.Sums.{IsSmallSum, choices, first_added}
use Rattle.loop_templates.proofs.FewTerms.{all_gathered, sums_small}
use Rattle.loop_templates.proofs.signed_sums.sums.Goals as goal

pub returns-clause-small : goal.returns-clause-small
returns-clause-small c =
    let terms = c.args.terms.now in
    let none : c.new-all.result.items ≡ [] = search rules in
    let said = all_gathered terms c.push_ones.new.all.items c.push_twos.new.all.items c.push_threes.new.all.items
    (c.in_ok-push_ones.ensures ∙ ap (λ (l : List (List Part)). l ++ flat_map first_added (choices 1 terms)) none)
    c.in_ok-push_twos.ensures c.in_ok-push_threes.ensures in
    subst (λ all. All IsSmallSum all) (sym said) (sums_small terms)
