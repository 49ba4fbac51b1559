use Rattle.std.proofs.Common.{◌∙◌, sym, ap, subst, [], ◌+◌, ◌≤◌, length, arith}
use Rattle.std.specs.Option.{option_map_or}
use Rattle.cert_format.specs.Lines.{Line, items_of}
use Rattle.cert_format.proofs.Lined.{item_taken}
use Rattle.cert_format.proofs.lines.Line.next.Goals as goal

pub returns : goal.returns
returns c =
    let end = c.self.inside.end in
    let seen = ap (λ r. let line : Line = record { items = option_map_or (λ bytes. items_of end bytes.now) r []; end = end } in line) c.in-Some.is in
    item_taken c.args.self.now end c.item_length.result c.in-Some.rest.now c.split_at.result.0.now c.split_at.result.1.now _
    (sym seen ∙ c.self.view_is) c.item_length.ensures.length c.split_at.ensures.front c.split_at.ensures.back (c.after_space-self-inside.ensures.items end)

pub invariant_of-self : goal.invariant_of-self
invariant_of-self c =
    let before = subst (λ r. option_map_or (λ bytes. length bytes.now) r 0 + c.self.inside.end ≤ 4194304) c.in-Some.is c.self.invariant in
    omega (arith, c.after_space-self-inside.ensures.shorter, c.split_at.ensures.back_len, before)
