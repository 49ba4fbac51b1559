-- One piece is numbered, fits and has few symbols as a list of it does.
use Rattle.std.proofs.Common.{◌≡◌, [], List, IfOk, ap, sym, subst, arith}
use Rattle.std.specs.List.{All}
use Rattle.std.proofs.lemmas.List.Elements.{All-nil, All-cons}
use Rattle.std.proofs.lemmas.List.Sums.{sum_by-cons}
use Rattle.sym_state.specs.Starting.{IsFit, IsNumbered, all_symbols, started, symbols_of}
use Rattle.sym_state.specs.declared.piece.Piece.{Piece}
use Rattle.loop_templates.proofs.Borrowed.{bounds_where}
use Rattle.loop_templates.proofs.rows.started.Goals as goal

pub start-requires-clause-numbered : goal.start-requires-clause-numbered
start-requires-clause-numbered c =
    subst (λ pieces. All IsNumbered pieces) (sym c.from_ref-pieces.ensures.value)
    (All-cons IsNumbered c.args.piece.now [] c.requires.numbered (All-nil IsNumbered))

pub start-requires-clause-few : goal.start-requires-clause-few
start-requires-clause-few c =
    let all = ap (λ (pieces : List Piece). all_symbols pieces) c.from_ref-pieces.ensures.value in
    let one = sum_by-cons symbols_of c.args.piece.now [] in
    let few = c.requires.few in
    omega (arith, all, one, few)

pub returns-clause-started : goal.returns-clause-started
returns-clause-started c =
    subst (λ (pieces : List Piece). IfOk c.start.result (λ state. state ≡ started c.args.style.now c.args.cond.now pieces c.args.whole c.args.at_entry))
    c.from_ref-pieces.ensures.value c.start.ensures.started

pub returns-clause-bounds : goal.returns-clause-bounds
returns-clause-bounds c =
    bounds_where c.args.style.now c.start.result
    (c.start.ensures.made (subst (λ pieces. All (IsFit c.args.style.now) pieces) (sym c.from_ref-pieces.ensures.value)
    (All-cons (IsFit c.args.style.now) c.args.piece.now [] c.requires.fit (All-nil (IsFit c.args.style.now)))))
