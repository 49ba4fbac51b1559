use Rattle.std.proofs.Common.{◌≡◌, ◌∙◌, ap, subst, List, [], ◌∷◌, ◌++◌, codes, OnOk}
use Rattle.name_table.specs.declared.names.NameId.{NameId}
use Rattle.sym_state.specs.declared.hint.Hint.{Hint}
use Rattle.sym_state.specs.declared.piece.Piece.{Piece}
use Rattle.cert_format.specs.HintSpelling.{hints_lines}
use Rattle.cert_format.specs.Spelling.{text_of}
use Rattle.cert_format.specs.UnitSpelling.{all_marked, body_text, head_lines}
use Rattle.cert_format.proofs.Texts.{puts, puts_line}
use Rattle.cert_format.proofs.put_units.put_loop.Goals as goal

pub returns : goal.returns
returns c =
    let style = c.args.style.now in
    let one = c.args.one.now in
    let result = c.put_hints.result in
    let cases = all_marked (codes "case") style.names one.cases in
    let exits = all_marked (codes "exit") style.names one.exits in
    let hints = hints_lines one.hints in
    puts_line result (codes "loop" ∷ (body_text style one.test ∷ (body_text style one.body ∷ []))) (head_lines style.names one.entry one.whole one.writes ++ (cases ++ (exits ++ hints))) c.args.printer.now c.put_loop_word.new.printer _
    c.in_ok-put_loop_word.ensures
    (puts result (head_lines style.names one.entry one.whole one.writes) (cases ++ (exits ++ hints)) c.put_loop_word.new.printer c.put_head.new.printer _
    (c.in_ok-put_head.ensures ∙ ap (λ (l : List NameId). c.put_loop_word.new.printer ++ text_of (head_lines style.names one.entry one.whole l)) c.as_slice.ensures)
    (puts result cases (exits ++ hints) c.put_head.new.printer c.put_pieces.new.printer _
    (c.in_ok-put_pieces.ensures ∙ ap (λ (l : List Piece). c.put_head.new.printer ++ text_of (all_marked (codes "case") style.names l)) c.as_slice-2.ensures)
    (puts result exits hints c.put_pieces.new.printer c.put_pieces-2.new.printer _
    (c.in_ok-put_pieces-2.ensures ∙ ap (λ (l : List Piece). c.put_pieces.new.printer ++ text_of (all_marked (codes "exit") style.names l)) c.as_slice-3.ensures)
    (subst (λ (l : List Hint). OnOk result (c.put_hints.new.printer ≡ c.put_pieces-2.new.printer ++ text_of (hints_lines l))) c.as_slice-4.ensures c.put_hints.ensures))))
