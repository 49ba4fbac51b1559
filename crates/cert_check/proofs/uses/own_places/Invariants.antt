use Rattle.std.proofs.Common.{◌≡◌, ◌+◌, ◌-◌, ◌≤◌, ◌++◌}
use Rattle.cert_check.specs.Uses.{own_count, own_places, new_symbols}
use Rattle.cert_check.proofs.uses.own_places.Given as goal

-- the symbols so far and those that are left are all symbols
abbrev pub invariant-loop-s : goal.invariant-loop-s
invariant-loop-s l = record {
  places : l.places.items ++ own_places l.unit l.state l.post l.s (l.count - l.s) l.next
      ≡ own_places l.unit l.state l.post l.kept (own_count l.post l.kept) l.state.next;
  next : l.next + new_symbols l.unit l.state l.post l.s (l.count - l.s)
      ≡ l.state.next + new_symbols l.unit l.state l.post l.kept (own_count l.post l.kept);
  room : l.next + (l.count - l.s) ≤ l.state.next + l.count;
}
