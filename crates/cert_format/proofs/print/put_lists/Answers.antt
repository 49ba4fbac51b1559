use Rattle.std.proofs.Common.{◌≡◌, ◌∙◌, ap, subst, List, ℕ, map, ◌++◌, OnOk}
use Rattle.bst_meaning.specs.declared.condition.NamesLine.{NamesLine}
use Rattle.name_table.specs.declared.names.NameId.{NameId}
use Rattle.cert_format.specs.Spelling.{names_items, nonblank_items, text_of, type_items}
use Rattle.cert_format.proofs.Texts.{puts}
use Rattle.cert_format.proofs.print.put_lists.Goals as goal

pub returns : goal.returns
returns c =
    let names = c.args.names.now in
    let cond = c.args.cond.now in
    let result = c.put_types.result in
    puts result (map (names_items names) cond.names) (map (nonblank_items names) cond.nonblank ++ map type_items cond.types) _ _ _
    (c.in_ok-put_names.ensures ∙ ap (λ (l : List NamesLine). c.args.printer.now ++ text_of (map (names_items names) l)) c.as_slice.ensures)
    (puts result (map (nonblank_items names) cond.nonblank) (map type_items cond.types) c.put_names.new.printer c.put_nonblank.new.printer _
    (c.in_ok-put_nonblank.ensures ∙ ap (λ (l : List NameId). c.put_names.new.printer ++ text_of (map (nonblank_items names) l)) c.as_slice-2.ensures)
    (subst (λ (l : List (List ℕ)). OnOk result (c.put_types.new.printer ≡ c.put_nonblank.new.printer ++ text_of (map type_items l))) c.as_slice-3.ensures c.put_types.ensures))
