-- One more symbol has its place.
use Rattle.std.proofs.Common.{◌+◌, ◌<◌, arith}
use Rattle.cert_check.specs.Uses.{new_symbols, own_count, own_places}
use Rattle.cert_check.proofs.LeftSteps.{new_counted, own_pushed}
use Rattle.cert_check.proofs.uses.own_places.Goals as goal

pub loop-s-preserved : goal.loop-s-preserved
loop-s-preserved c =
    let unit = c.args.unit.now in
    let state = c.args.state.now in
    let post = c.args.post.now in
    let less : c.loop-s.s < c.symbols_of-count.result = omega arith in
    record {
      places = own_pushed unit state post c.loop-s.s c.symbols_of-count.result c.loop-s.next c.new_one-next.result c.unchanged-found.result c.unwrap_or.result
          c.loop-s.places.items c.push.new.self.items (own_places unit state post c.args.kept (own_count post c.args.kept) state.next)
          less c.unchanged-found.ensures c.unwrap_or.ensures c.new_one-next.ensures.new c.in_ok-push.ensures.items c.loop-s.invariant.places;
      next = new_counted unit state post c.loop-s.s c.symbols_of-count.result c.loop-s.next c.new_one-next.result
          (state.next + new_symbols unit state post c.args.kept (own_count post c.args.kept)) c.unchanged-found.result
          less c.unchanged-found.ensures c.new_one-next.ensures.new c.loop-s.invariant.next;
      room = omega (arith, less, c.new_one-next.ensures.few, c.loop-s.invariant.room);
    }
