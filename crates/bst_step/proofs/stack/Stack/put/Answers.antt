-- All but one of those that are taken go, and then the top is replaced.
use Rattle.std.proofs.Common.{ap, ◌∙◌, ◌∷◌, ◌+◌, ◌-◌, ◌≡◌, List, ℕ, drop, arith}
use Rattle.std.proofs.lemmas.List.{drop-drop}
use Rattle.bst_step.proofs.stack.Stack.put.Goals as goal

pub returns-clause-moved : goal.returns-clause-moved
returns-clause-moved g c =
    let all : (c.args.taken - 1) + 1 ≡ c.args.taken = omega (arith, c.requires.some) in
    c.replace_top.ensures.moved
    ∙ ap (λ (l : List g.row.T.Denot). c.args.item ∷ drop 1 l) c.drop_top.ensures.moved
    ∙ ap (λ (l : List g.row.T.Denot). c.args.item ∷ l) (drop-drop 1 (c.args.taken - 1) c.args.self.now.items)
    ∙ ap (λ (n : ℕ). c.args.item ∷ drop n c.args.self.now.items) all
