-- A group has no run, or its first letters are the first.
use Rattle.std.proofs.Common.{◌≡◌, ℕ, ◌∙◌, take, drop, length, sym, ap, arith, eqb-true}
use Rattle.std.proofs.lemmas.List.{drop-drop}
use Rattle.std.proofs.lemmas.Bool.{eqb-false}
use Rattle.name_split.specs.Patterns.{before_run}
use Rattle.name_split.proofs.Grouping.{runs_none, runs_some}
use Rattle.name_split.proofs.pattern.first_run.Goals as goal

pub returns-then-is_empty : goal.returns-then-is_empty
returns-then-is_empty c =
    runs_none c.args.group.now c.split_at.result.1.now c.split_letters.result.0.now
    (c.split_at.ensures.back ∙ ap (λ n. drop n c.args.group.now) c.before_run.ensures.before)
    c.split_letters.ensures.run
    (eqb-true (length c.split_letters.result.0.now) 0 (sym c.is_empty.ensures ∙ c.if-is_empty.true))

pub returns : goal.returns
returns c =
    let other : length c.split_letters.result.0.now ≡ 0 → ⊥ =
    eqb-false (length c.split_letters.result.0.now) 0 (sym c.is_empty.ensures ∙ c.if-is_empty.false) in
    let rest : c.split_at.result.1.now ≡ drop (before_run 1 c.args.group.now) c.args.group.now =
    c.split_at.ensures.back ∙ ap (λ n. drop n c.args.group.now) c.before_run.ensures.before in
    let count : ℕ = length c.split_letters.result.0.now in
    record {
      some = omega arith;
      before = c.split_at.ensures.front ∙ ap (λ n. take n c.args.group.now) c.before_run.ensures.before;
      runs = runs_some c.args.group.now c.split_at.result.1.now c.split_letters.result.0.now
          c.split_at-2.result.1.now rest c.split_letters.ensures.run c.split_at-2.ensures.back other;
      behind = c.split_at-2.ensures.back ∙ ap (drop count) rest ∙ drop-drop count (before_run 1 c.args.group.now) c.args.group.now;
    }
