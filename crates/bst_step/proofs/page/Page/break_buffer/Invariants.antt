use Rattle.std.proofs.Common.{◌≡◌, ◌≤◌, [], drop, length}
use Rattle.bst_meaning.specs.Lines as rule
use Rattle.bst_step.specs.Lines.{page_in, spelt}
use Rattle.bst_step.proofs.page.Page.break_buffer.Given as goal

-- breaking what is left comes to breaking the whole
abbrev pub invariant-loop-most : goal.invariant-loop-most
invariant-loop-most l = record {
  broken : spelt l.self.text.items (rule.broken l.most [] (drop l.start l.self.buffer.items)) ≡ page_in l.fn.self;
  within : l.start ≤ length l.self.buffer.items;
}

abbrev pub decreases-loop-most : goal.decreases-loop-most
decreases-loop-most l = l.most
