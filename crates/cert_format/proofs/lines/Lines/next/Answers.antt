use Rattle.std.proofs.Common.{◌∷◌, ◌∙◌, sym, ap, length, ◌<◌, List, ℕ, arith}
use Rattle.std.proofs.lemmas.Bool.Decides.{nat_tests}
use Rattle.cert_format.specs.Lines.{items_of, lines_of}
use Rattle.cert_format.proofs.Lined.{line_taken}
use Rattle.cert_format.proofs.lines.Lines.next.Goals as goal

pub returns : goal.returns
returns c =
    let bytes = c.self.inside.rest.now in
    let h2 = c.if-is_empty.false in
    let h3 = c.is_empty.ensures in
    let some : 0 < length bytes = grind (arith, nat_tests) in
    let back = c.split_at.result.1.now in
    let front = c.split_at.result.0.now in
    sym c.self.view_is
    ∙ line_taken c.line_length.result bytes front back some c.line_length.ensures.length c.split_at.ensures.front c.split_at.ensures.back
    ∙ ap (λ (rest : List ℕ). record { items = items_of (length back) front; end = length back } ∷ lines_of rest) (sym c.after_first-self-inside.ensures)
