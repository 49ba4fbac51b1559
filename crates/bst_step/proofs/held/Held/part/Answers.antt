-- A part of a made string.
use Rattle.std.proofs.Common.{◌+◌, ◌-◌, ◌∙◌, ℕ, ap, drop, min, sym, take}
use Rattle.bst_meaning.specs.declared.value.Value.TheVariants.{Str}
use Rattle.bst_step.specs.declared.held.Held.{Held}
use Rattle.bst_step.specs.Held.{part_from, value_in}
use Rattle.bst_step.proofs.CutValues.{part_made}
use Rattle.bst_step.proofs.held.Held.part.Goals as goal

pub returns-in-Made-clause-value : goal.returns-in-Made-clause-value
returns-in-Made-clause-value c =
    ap (λ (n : ℕ). Str (take n (drop (c.in-Made.start + c.min-skipped.result) c.args.pool.now))) c.min.ensures
    ∙ ap (λ (n : ℕ). Str (take (min c.args.count (c.in-Made.length - n)) (drop (c.in-Made.start + n) c.args.pool.now))) c.min-skipped.ensures
    ∙ ap Str (part_made c.args.pool.now c.in-Made.start c.in-Made.length c.args.from c.args.count)
    ∙ sym (ap (λ (h : Held). part_from c.args.from c.args.count (value_in c.args.pool.now h)) c.in-Made.is)
