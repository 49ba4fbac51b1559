use Rattle.std.proofs.Common.{◌∙◌, ◌++◌, List, ℕ, ap, sym, take, drop, length, ◌-◌}
use Rattle.std.specs.Option.{option_map}
use Rattle.cert_format.specs.PieceItems.{hex_bytes as bytes_of}
use Rattle.cert_format.proofs.Hexed.{hex_step}
use Rattle.cert_format.proofs.hex.hex_bytes.Goals as goal

pub loop-rest-preserved : goal.loop-rest-preserved
loop-rest-preserved c =
    let rest = c.loop-rest.rest.now in
    let bytes = c.loop-rest.bytes.items in
    ap (λ (b : List ℕ). option_map (λ more. b ++ more) (bytes_of (take (length rest - 2) (drop 2 rest)))) c.in_ok-push.ensures.items
    ∙ hex_step rest bytes c.in-Some.byte c.in-len2-up.len_at_least (sym c.byte_of.ensures ∙ c.in-Some.is)
    ∙ c.loop-rest.invariant
