use Rattle.std.proofs.Common.{◌<◌, ap, length, arith}
use Rattle.name_table.specs.declared.style.TheConstants.{MOST_BODIES}
use Rattle.bst_parse.proofs.Counted.{one_more}
use Rattle.bst_parse.proofs.bodies.Bodies.begin_function.Goals as goal

pub invariant_of-self-2 : goal.invariant_of-self-2
invariant_of-self-2 c =
    let short : length c.self.inside.list.items < MOST_BODIES = omega (arith, ap (λ l. length l) c.self.view_is) in
    let more = one_more c.self.inside.blocks c.self.inside.list.items c.push.new.self.items _ c.self.invariant.0 short c.in_ok-push.ensures.items in
    (omega (arith, more.0), more.1)
