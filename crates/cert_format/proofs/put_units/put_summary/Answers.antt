use Rattle.std.proofs.Common.{◌≡◌, ◌∙◌, ap, subst, List, [], ◌∷◌, ◌++◌, codes, OnOk}
use Rattle.name_table.specs.declared.names.NameId.{NameId}
use Rattle.sym_state.specs.declared.hint.Hint.{Hint}
use Rattle.sym_state.specs.declared.piece.Piece.{Piece}
use Rattle.cert_format.specs.HintSpelling.{hints_lines}
use Rattle.cert_format.specs.Spelling.{text_of}
use Rattle.cert_format.specs.UnitSpelling.{all_marked, body_text, head_lines, marked_lines}
use Rattle.cert_format.proofs.Texts.{puts, puts_line}
use Rattle.cert_format.proofs.put_units.put_summary.Goals as goal

pub returns : goal.returns
returns c =
    let style = c.args.style.now in
    let names = style.names in
    let summary = c.args.summary.now in
    let result = c.put_hints.result in
    let head = head_lines names summary.entry summary.whole summary.writes in
    let pre = marked_lines (codes "pre") names summary.pre in
    let posts = all_marked (codes "post") names summary.posts in
    let hints = hints_lines summary.hints in
    puts_line result (codes "summary" ∷ (body_text style summary.body ∷ [])) (head ++ (pre ++ (posts ++ hints))) c.args.printer.now c.put_summary_word.new.printer _
    c.in_ok-put_summary_word.ensures
    (puts result head (pre ++ (posts ++ hints)) c.put_summary_word.new.printer c.put_head.new.printer _
    (c.in_ok-put_head.ensures ∙ ap (λ (l : List NameId). c.put_summary_word.new.printer ++ text_of (head_lines names summary.entry summary.whole l)) c.as_slice.ensures)
    (puts result pre (posts ++ hints) c.put_head.new.printer c.put_marked.new.printer _ c.in_ok-put_marked.ensures
    (puts result posts hints c.put_marked.new.printer c.put_pieces.new.printer _
    (c.in_ok-put_pieces.ensures ∙ ap (λ (l : List Piece). c.put_marked.new.printer ++ text_of (all_marked (codes "post") names l)) c.as_slice-2.ensures)
    (subst (λ (l : List Hint). OnOk result (c.put_hints.new.printer ≡ c.put_pieces.new.printer ++ text_of (hints_lines l))) c.as_slice-3.ensures c.put_hints.ensures))))
