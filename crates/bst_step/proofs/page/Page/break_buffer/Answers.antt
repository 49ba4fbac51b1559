use Rattle.std.proofs.Common.{◌≡◌, ◌∙◌, ap, sym, ℕ, drop, List, Option, None, option_map}
use Rattle.bst_meaning.specs.Lines.{cut_of}
use Rattle.bst_step.specs.declared.lines.Cut.{Cut}
use Rattle.bst_step.specs.Lines.{cut_in, page_in}
use Rattle.bst_step.proofs.CutSteps.{one_more, still_within}
use Rattle.bst_step.proofs.SpeltLines.{none_behind}
use Rattle.bst_step.proofs.page.Page.break_buffer.Goals as goal

pub loop-most-preserved : goal.loop-most-preserved
loop-most-preserved c =
    let left : c.split_at.result.1.now ≡ drop c.loop-most.start c.loop-most.self.buffer.items =
    c.split_at.ensures.back ∙ ap (λ (bytes : List ℕ). drop c.loop-most.start bytes) c.as_slice.ensures.value in
    record {
      broken = one_more c.loop-most.most c.loop-most.start c.in-Some.cut.next c.loop-most.self.text.items c.push_line.new.text.items
          c.in-Some.cut.line.now c.loop-most.self.buffer.items c.split_at.result.1.now c.indent.new.buffer.items (page_in c.args.self.now)
          left c.in-Some.ensures.cut c.in_ok-push_line.ensures c.indent.ensures.spaces c.loop-most.invariant.broken c.loop-most-test.true;
      within = still_within c.loop-most.start c.in-Some.cut.next c.loop-most.self.buffer.items c.split_at.result.1.now c.indent.new.buffer.items
          left c.loop-most.invariant.within c.in-Some.ensures.within c.indent.ensures.length;
    }

pub returns-in_default-clause-broken : goal.returns-in_default-clause-broken
returns-in_default-clause-broken c =
    let left : c.split_at.result.1.now ≡ drop c.loop-most.start c.loop-most.self.buffer.items =
    c.split_at.ensures.back ∙ ap (λ (bytes : List ℕ). drop c.loop-most.start bytes) c.as_slice.ensures.value in
    let none : cut_of c.split_at.result.1.now ≡ None =
    sym c.cut_of.ensures.cut ∙ ap (λ (o : Option Cut). option_map (cut_in c.split_at.result.1.now) o) c.in_default.is in
    none_behind c.loop-most.most c.loop-most.self.text.items (drop c.loop-most.start c.loop-most.self.buffer.items) (page_in c.args.self.now)
    (sym (ap cut_of left) ∙ none) c.loop-most.invariant.broken
