use Rattle.std.proofs.Common.{◌<◌, ap, sym, ◌∙◌, length, arith}
use Rattle.name_table.specs.declared.style.TheConstants.{MOST_BODIES}
use Rattle.bst_parse.proofs.Counted.{one_more, block_count-le}
use Rattle.bst_parse.proofs.bodies.Bodies.begin_block.Goals as goal

pub overflow_add-self : goal.overflow_add-self
overflow_add-self c = omega (arith, c.self.invariant.0, c.self.invariant.1, block_count-le c.self.inside.list.items)

pub invariant_of-self-2 : goal.invariant_of-self-2
invariant_of-self-2 c =
    let short : length c.push_token.new.list.items < MOST_BODIES = omega (arith, ap (λ l. length l) c.self.view_is, c.push_token.ensures.length) in
    one_more c.self.inside.blocks c.push_token.new.list.items c.push.new.self.items _ (c.self.invariant.0 ∙ sym c.push_token.ensures.blocks) short c.in_ok-push.ensures.items
