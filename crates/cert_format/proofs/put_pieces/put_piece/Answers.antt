use Rattle.std.proofs.Common.{◌≡◌, ◌∙◌, ap, subst, List, map, ◌++◌, codes, OnOk}
use Rattle.lin_facts.specs.declared.row.Row.{Row}
use Rattle.sym_state.specs.declared.symbol.Bind.{Bind}
use Rattle.sym_state.specs.declared.symbol.Fact.{Fact}
use Rattle.sym_state.specs.declared.symbol.Sym.{Sym}
use Rattle.cert_format.specs.PieceSpelling.{bind_items, fact_items, row_items, stack_lines}
use Rattle.cert_format.specs.Spelling.{text_of}
use Rattle.cert_format.proofs.Texts.{puts}
use Rattle.cert_format.proofs.put_pieces.put_piece.Goals as goal

pub returns : goal.returns
returns c =
    let names = c.args.names.now in
    let piece = c.args.piece.now in
    let result = c.put_rows.result in
    let vars = map (bind_items (codes "var") names) piece.vars in
    let fields = map (bind_items (codes "field") names) piece.fields in
    let facts = map (fact_items names) piece.facts in
    let rows = map row_items piece.rows in
    puts result (stack_lines piece.stack) (vars ++ (fields ++ (facts ++ rows))) _ _ _
    (c.in_ok-put_stack.ensures ∙ ap (λ (l : List Sym). c.args.printer.now ++ text_of (stack_lines l)) c.as_slice.ensures)
    (puts result vars (fields ++ (facts ++ rows)) c.put_stack.new.printer c.put_binds.new.printer _
    (c.in_ok-put_binds.ensures ∙ ap (λ (l : List Bind). c.put_stack.new.printer ++ text_of (map (bind_items (codes "var") names) l)) c.as_slice-2.ensures)
    (puts result fields (facts ++ rows) c.put_binds.new.printer c.put_binds-2.new.printer _
    (c.in_ok-put_binds-2.ensures ∙ ap (λ (l : List Bind). c.put_binds.new.printer ++ text_of (map (bind_items (codes "field") names) l)) c.as_slice-3.ensures)
    (puts result facts rows c.put_binds-2.new.printer c.put_facts.new.printer _
    (c.in_ok-put_facts.ensures ∙ ap (λ (l : List Fact). c.put_binds-2.new.printer ++ text_of (map (fact_items names) l)) c.as_slice-4.ensures)
    (subst (λ (l : List Row). OnOk result (c.put_rows.new.printer ≡ c.put_facts.new.printer ++ text_of (map row_items l))) c.as_slice-5.ensures c.put_rows.ensures))))
