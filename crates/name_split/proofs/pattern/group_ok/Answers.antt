-- A group has no run, or one run and no other.
use Rattle.std.proofs.Common.{◌&&◌, ◌∙◌, ℕ, nat_eq, List, drop, length, sym, ap, eqb-true}
use Rattle.std.proofs.lemmas.Bool.{eqb-false}
use Rattle.name_split.specs.Patterns.{before_run}
use Rattle.name_split.proofs.Grouping.{group_none, group_some}
use Rattle.name_split.proofs.pattern.group_ok.Goals as goal

pub returns-then-is_empty : goal.returns-then-is_empty
returns-then-is_empty c =
    c.if-is_empty.true
    ∙ sym (group_none c.args.group.now c.split_at.result.1.now c.split_letters.result.0.now
    (c.split_at.ensures.back ∙ ap (λ n. drop n c.args.group.now) c.before_run.ensures.before)
    c.split_letters.ensures.run
    (eqb-true (length c.split_letters.result.0.now) 0 (sym c.is_empty.ensures ∙ c.if-is_empty.true)))

pub returns-then-run_ok : goal.returns-then-run_ok
returns-then-run_ok c =
    let after : List ℕ = c.split_at-2.result.1.now in
    let run : List ℕ = c.split_letters.result.0.now in
    ap (λ n. nat_eq n (length after)) c.before_run-then-run_ok.ensures.before
    ∙ sym (ap (λ v. v && nat_eq (before_run 1 after) (length after)) (sym c.run_ok.ensures ∙ c.if-run_ok.true))
    ∙ sym (group_some c.args.group.now c.split_at.result.1.now run after
    (c.split_at.ensures.back ∙ ap (λ n. drop n c.args.group.now) c.before_run.ensures.before)
    c.split_letters.ensures.run c.split_at-2.ensures.back
    (eqb-false (length run) 0 (sym c.is_empty.ensures ∙ c.if-is_empty.false)))

pub returns-else-run_ok : goal.returns-else-run_ok
returns-else-run_ok c =
    let after : List ℕ = c.split_at-2.result.1.now in
    let run : List ℕ = c.split_letters.result.0.now in
    c.if-run_ok.false
    ∙ sym (ap (λ v. v && nat_eq (before_run 1 after) (length after)) (sym c.run_ok.ensures ∙ c.if-run_ok.false))
    ∙ sym (group_some c.args.group.now c.split_at.result.1.now run after
    (c.split_at.ensures.back ∙ ap (λ n. drop n c.args.group.now) c.before_run.ensures.before)
    c.split_letters.ensures.run c.split_at-2.ensures.back
    (eqb-false (length run) 0 (sym c.is_empty.ensures ∙ c.if-is_empty.false)))
