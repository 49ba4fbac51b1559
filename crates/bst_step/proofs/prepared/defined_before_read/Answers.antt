-- One command more is passed over.
use Rattle.std.proofs.Common.{◌≡◌, ◌∙◌, ◌-◌, ◌∷◌, List, ap, arith, drop, subst, sym}
use Rattle.name_table.specs.declared.style.CommandAt.{CommandAt}
use Rattle.name_table.specs.TypeTarget.{has_read, is_read}
use Rattle.bst_step.specs.Prepared.{AreDefined}
use Rattle.bst_step.proofs.PreparedSteps.{nothing_noted, one_earlier, read_before, read_here}
use Rattle.bst_step.proofs.prepared.defined_before_read.Goals as goal

pub loop-at-preserved-then-read : goal.loop-at-preserved-then-read
loop-at-preserved-then-read c =
    let commands : List CommandAt = c.as_slice-commands.result.now in
    let first : CommandAt = c.command_at-first.result in
    let earlier : drop (c.loop-at.at - 1) commands ≡ first ∷ drop c.loop-at.at commands =
    one_earlier commands c.loop-at.at first c.loop-at-test.true c.loop-at.invariant.within (c.command_at-first.ensures first) in
    record {
      read =
          c.loop-at.invariant.read
          ∙ read_before (is_read first.command) (has_read (drop c.loop-at.at commands)) (sym c.loop-at.invariant.read ∙ c.if-read.true)
          ∙ ap (λ (l : List CommandAt). has_read l) (sym earlier);
      defined =
          subst (λ (l : List CommandAt). AreDefined c.note.new.table.items c.args.style.now.names l) (sym earlier)
          (c.note.ensures.noted (drop c.loop-at.at commands) first.place (sym c.loop-at.invariant.read ∙ c.if-read.true) c.loop-at.invariant.defined);
      all = c.note.ensures.length ∙ c.loop-at.invariant.all;
      within = omega (arith, c.loop-at.invariant.within);
      commands = c.loop-at.invariant.commands;
    }

pub loop-at-preserved : goal.loop-at-preserved
loop-at-preserved c =
    let commands : List CommandAt = c.as_slice-commands.result.now in
    let first : CommandAt = c.command_at-first.result in
    let earlier : drop (c.loop-at.at - 1) commands ≡ first ∷ drop c.loop-at.at commands =
    one_earlier commands c.loop-at.at first c.loop-at-test.true c.loop-at.invariant.within (c.command_at-first.ensures first) in
    record {
      read =
          c.is_read-read.ensures
          ∙ read_here (is_read first.command) (has_read (drop c.loop-at.at commands)) (sym c.loop-at.invariant.read ∙ c.if-read.false)
          ∙ ap (λ (l : List CommandAt). has_read l) (sym earlier);
      defined =
          subst (λ (l : List CommandAt). AreDefined c.loop-at.table.items c.args.style.now.names l) (sym earlier)
          (nothing_noted c.loop-at.table.items c.args.style.now.names first (drop c.loop-at.at commands) (sym c.loop-at.invariant.read ∙ c.if-read.false) c.loop-at.invariant.defined);
      all = c.loop-at.invariant.all;
      within = omega (arith, c.loop-at.invariant.within);
      commands = c.loop-at.invariant.commands;
    }
