use Rattle.std.proofs.Common.{◌≡◌, List, ◌++◌, ◌∷◌, [], ap, sym, ◌∙◌, arith}
use Rattle.std.proofs.Math.ListN.{set}
use Rattle.name_table.specs.declared.style.Body.{Body}
use Rattle.name_table.specs.declared.style.TokenAt.{TokenAt}
use Rattle.bst_parse.specs.Bodies.{token_added, block_count}
use Rattle.bst_parse.proofs.Counted.{changed_at-set, changed_at-past, block_count-token_added}
use Rattle.bst_parse.proofs.bodies.push_token.Goals as goal

added : (c : goal.In_ok-push)
    → set c.args.list.now.items c.args.inside.0 (record { tokens = c.push.new.self; block = c.index_mut-body.result.now.block; place = c.index_mut-body.result.now.place })
    ≡ token_added c.args.inside c.args.token c.args.list.now.items
added c =
    let body : Body = c.index_mut-body.result.now in
    let there = changed_at-set c.args.inside.0 (λ (b : Body). record b { tokens = b.tokens ++ c.args.token ∷ [] }) c.args.list.now.items body (omega arith) in
    let xs : List Body = c.args.list.now.items in
    let k = c.args.inside.0 in
    ap (λ (t : List TokenAt). set xs k (record { tokens = t; block = body.block; place = body.place })) c.in_ok-push.ensures.ok
    ∙ ap (λ (b : Body). set xs k (record b { tokens = b.tokens ++ c.args.token ∷ [] })) c.index_mut-body.ensures.value
    ∙ sym there

pub returns-in_ok-push-clause-added : goal.returns-in_ok-push-clause-added
returns-in_ok-push-clause-added c = added c

pub returns-in_ok-push-clause-blocks : goal.returns-in_ok-push-clause-blocks
returns-in_ok-push-clause-blocks c =
    ap block_count (added c) ∙ block_count-token_added c.args.inside.0 c.args.token c.args.list.now.items

pub returns-else-at-len-clause-added : goal.returns-else-at-len-clause-added
returns-else-at-len-clause-added c = sym (changed_at-past _ _ _ (omega arith))
