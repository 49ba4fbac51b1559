use Rattle.std.proofs.Common.{◌≡◌, ◌∙◌, ◌++◌, ◌∷◌, [], List, sym, ap, length, arith, rules}
use Rattle.lin_facts.specs.declared.row.Part.{Part}
use Rattle.bv_base.specs.Answers.{then_do}
use Rattle.cert_format.specs.Lines.{Line}
use Rattle.cert_format.specs.Pieces.{part, parts}
use Rattle.cert_format.proofs.Parted.{one_part, parted}
use Rattle.cert_format.proofs.piece_lines.PieceSoFar.parts.Goals as goal

pub loop-first-smaller : goal.loop-first-smaller
loop-first-smaller c =
    let before = c.as_slice.result.now in
    let p = parted c.args.self.now.has_pos c.args.self.now.next c.in-Some.first c.next.new.self.items c.next.new.self.end before c.in_ok-part.part c.part.new.line c.in_ok-part.ensures in
    omega (arith, p.shorter, ap (λ (l : Line). length l.items) c.in-Some.ensures)

pub loop-first-preserved : goal.loop-first-preserved
loop-first-preserved c =
    let has_pos = c.args.self.now.has_pos in
    let next = c.args.self.now.next in
    let before = c.as_slice.result.now in
    let first = c.in-Some.first in
    let rest = c.next.new.self in
    let found = c.in_ok-part.part in
    let line = c.part.new.line in
    let p = parted has_pos next first rest.items rest.end before found line c.in_ok-part.ensures in
    record {
      read = ap (λ (l : List Part). parts has_pos next line.end line.items l) c.in_ok-push.ensures.ok
          ∙ ap (λ (l : List Part). parts has_pos next line.end line.items (l ++ found ∷ [])) (sym c.as_slice.ensures)
          ∙ sym p.goes
          ∙ ap (λ (l : List Part). parts has_pos next rest.end (first ∷ rest.items) l) c.as_slice.ensures
          ∙ ap (λ (l : Line). parts has_pos next l.end l.items c.loop-first.parts) (sym c.in-Some.ensures)
          ∙ c.loop-first.invariant.read;
      end = p.ends ∙ ap (λ (l : Line). l.end) (sym c.in-Some.ensures) ∙ c.loop-first.invariant.end;
    }

pub returns-in_err-part-clause-read : goal.returns-in_err-part-clause-read
returns-in_err-part-clause-read c =
    let has_pos = c.args.self.now.has_pos in
    let next = c.args.self.now.next in
    let first = c.in-Some.first in
    let rest = c.next.new.self in
    let round : parts has_pos next c.args.line.now.end c.args.line.now.items []
    ≡ then_do (part has_pos next c.as_slice.result.now first rest) (λ found. parts has_pos next found.1.end found.1.items (c.as_slice.result.now ++ found.0 ∷ [])) =
    sym c.loop-first.invariant.read
    ∙ ap (λ (l : Line). parts has_pos next l.end l.items c.loop-first.parts) c.in-Some.ensures
    ∙ ap (λ (l : List Part). parts has_pos next rest.end (first ∷ rest.items) l) (sym c.as_slice.ensures)
    ∙ one_part has_pos next first rest c.as_slice.result.now in
    search rules
