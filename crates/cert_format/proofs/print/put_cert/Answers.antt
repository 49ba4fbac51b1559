use Rattle.std.proofs.Common.{◌∙◌, ap, List, [], ◌∷◌, ◌++◌, codes}
use Rattle.std.specs.Fmt.{decimal}
use Rattle.cert_format.specs.declared.cert.CommandPart.{CommandPart}
use Rattle.cert_format.specs.declared.cert.Loop.{Loop}
use Rattle.cert_format.specs.declared.cert.Summary.{Summary}
use Rattle.cert_format.specs.Spelling.{cond_items, text_of}
use Rattle.cert_format.specs.UnitSpelling.{command_lines, each_lines, loop_lines, summary_lines}
use Rattle.cert_format.proofs.Texts.{puts, puts_last, puts_line}
use Rattle.cert_format.proofs.print.put_cert.Goals as goal

pub returns : goal.returns
returns c =
    let style = c.args.style.now in
    let cert = c.args.cert.now in
    let result = c.put_word.result in
    let cond = cond_items style.names cert.cond in
    let summaries = each_lines (summary_lines style) cert.summaries in
    let loops = each_lines (loop_lines style) cert.loops in
    let commands = each_lines (command_lines style) cert.commands in
    let done = (codes "done" ∷ []) ∷ [] in
    puts_line result (codes "bstcert" ∷ (decimal cert.list ∷ [])) (cond ++ (summaries ++ (loops ++ (commands ++ done)))) c.args.printer.now c.put_number.new.printer _
    c.in_ok-put_number.ensures
    (puts result cond (summaries ++ (loops ++ (commands ++ done))) c.put_number.new.printer c.put_cond.new.printer _ c.in_ok-put_cond.ensures
    (puts result summaries (loops ++ (commands ++ done)) c.put_cond.new.printer c.put_summaries.new.printer _
    (c.in_ok-put_summaries.ensures ∙ ap (λ (l : List Summary). c.put_cond.new.printer ++ text_of (each_lines (summary_lines style) l)) c.as_slice.ensures)
    (puts result loops (commands ++ done) c.put_summaries.new.printer c.put_loops.new.printer _
    (c.in_ok-put_loops.ensures ∙ ap (λ (l : List Loop). c.put_summaries.new.printer ++ text_of (each_lines (loop_lines style) l)) c.as_slice-2.ensures)
    (puts result commands done c.put_loops.new.printer c.put_commands.new.printer _
    (c.in_ok-put_commands.ensures ∙ ap (λ (l : List CommandPart). c.put_loops.new.printer ++ text_of (each_lines (command_lines style) l)) c.as_slice-3.ensures)
    (puts_last result (codes "done" ∷ []) c.put_commands.new.printer _ c.put_word.ensures)))))
