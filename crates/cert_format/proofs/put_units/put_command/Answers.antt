use Rattle.std.proofs.Common.{◌≡◌, ◌∙◌, ap, subst, List, [], ◌∷◌, ◌++◌, Option, codes, OnOk}
use Rattle.std.specs.Fmt.{decimal}
use Rattle.sym_state.specs.declared.hint.Hint.{Hint}
use Rattle.sym_state.specs.declared.piece.Piece.{Piece}
use Rattle.cert_format.specs.HintSpelling.{hints_lines}
use Rattle.cert_format.specs.Spelling.{text_of}
use Rattle.cert_format.specs.UnitSpelling.{maybe_marked}
use Rattle.cert_format.proofs.Texts.{puts, puts_line}
use Rattle.cert_format.proofs.put_units.put_command.Goals as goal

pub returns : goal.returns
returns c =
    let names = c.args.style.now.names in
    let command = c.args.command.now in
    let result = c.put_hints.result in
    let after = maybe_marked (codes "after") names command.after in
    let visit = maybe_marked (codes "visit") names command.visit in
    let keeps = maybe_marked (codes "keeps") names command.keeps in
    let hints = hints_lines command.hints in
    puts_line result (codes "command" ∷ (decimal command.index ∷ [])) (after ++ (visit ++ (keeps ++ hints))) c.args.printer.now c.put_number.new.printer _
    c.in_ok-put_number.ensures
    (puts result after (visit ++ (keeps ++ hints)) c.put_number.new.printer c.put_maybe.new.printer _
    (c.in_ok-put_maybe.ensures ∙ ap (λ (p : Option Piece). c.put_number.new.printer ++ text_of (maybe_marked (codes "after") names p)) c.as_ref.ensures.value)
    (puts result visit (keeps ++ hints) c.put_maybe.new.printer c.put_maybe-2.new.printer _
    (c.in_ok-put_maybe-2.ensures ∙ ap (λ (p : Option Piece). c.put_maybe.new.printer ++ text_of (maybe_marked (codes "visit") names p)) c.as_ref-2.ensures.value)
    (puts result keeps hints c.put_maybe-2.new.printer c.put_maybe-3.new.printer _
    (c.in_ok-put_maybe-3.ensures ∙ ap (λ (p : Option Piece). c.put_maybe-2.new.printer ++ text_of (maybe_marked (codes "keeps") names p)) c.as_ref-3.ensures.value)
    (subst (λ (l : List Hint). OnOk result (c.put_hints.new.printer ≡ c.put_maybe-3.new.printer ++ text_of (hints_lines l))) c.as_slice.ensures c.put_hints.ensures))))
