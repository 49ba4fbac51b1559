-- The rows of the references are as many as the uses and small, and they hold by each assignment that satisfies the state.
use Rattle.std.proofs.Common.{◌≡◌, ◌≤◌, ℕ, List, Option, Some, ap, sym, ◌∙◌, subst, length, arith, Vec, Global, option_map}
use Rattle.std.specs.List.{All}
use Rattle.std.specs.Option.{IfSome}
use Rattle.lin_facts.specs.Rows.{IsSmall}
use Rattle.lin_facts.specs.declared.row.Row.{Row}
use Rattle.lin_facts.specs.declared.row.StepUse.{StepUse}
use Rattle.sym_state.specs.declared.proof.Use.{Use}
use Rattle.sym_state.specs.Symbols.{numbers}
use Rattle.sym_state.specs.References.{rows_said}
use Rattle.sym_state.proofs.Bounds.{small_row, row_uses-length}
use Rattle.sym_state.proofs.Saying.{rows_hold, used_hold}
use Rattle.sym_state.proofs.shows.shows.Goals as goal

pub follows-requires : goal.follows-requires
follows-requires c =
    let rows = c.as_slice-in-Some-2.ensures.value in
    let uses = c.from_vec.ensures ∙ c.in_ok-row_uses-in-Some.ensures in
    let many : length c.in-Some.rows.items ≡ length c.as_slice.result.now =
    subst (λ (o : Option (Vec Row Global)). IfSome o (λ all. length all.items ≡ length c.as_slice.result.now)) c.in-Some.is c.in_ok-rows.ensures.many in
    let small : All IsSmall c.in-Some.rows.items =
    subst (λ (o : Option (Vec Row Global)). IfSome o (λ all. All IsSmall all.items)) c.in-Some.is c.in_ok-rows.ensures.small in
    let few : length c.as_slice.result.now ≤ 64 = subst (λ (us : List Use). length us ≤ 64) (sym c.as_slice.ensures) c.requires.proof in
    let few' : length c.as_slice-in-Some.result.now ≤ 64 = subst (λ (us : List Use). length us ≤ 64) (sym c.as_slice-in-Some.ensures) c.requires.proof in
    record {
      few_rows = subst (λ (all : List Row). length all ≤ 64) (sym rows) (omega arith);
      few_uses = subst (λ (all : List StepUse). length all ≤ 64) (sym uses)
          (subst (λ (n : ℕ). n ≤ 64) (sym (row_uses-length 0 c.as_slice-in-Some.result.now)) few');
      small_rows = subst (λ (all : List Row). All IsSmall all) (sym rows) small;
      small_goal = small_row c.args.goal.now c.requires.goal;
    }

pub returns-in_ok-row_uses-in-Some-clause-sound : goal.returns-in_ok-row_uses-in-Some-clause-sound
returns-in_ok-row_uses-in-Some-clause-sound c = λ shown style v h.
    let items : Vec Row Global → List Row = λ all. all.items in
    c.follows.ensures.sound shown (numbers v) (used_hold (numbers v) c.as_slice-in-Some-2.result.now _
    (rows_hold style c.args.cond.now v c.args.state.now c.args.proof.now.uses c.as_slice-in-Some-2.result.now h
    (ap (λ (us : List Use). rows_said c.args.cond.now c.args.state.now us) (sym c.as_slice.ensures)
    ∙ sym c.in_ok-rows.ensures.said
    ∙ ap (λ (o : Option (Vec Row Global)). option_map items o) c.in-Some.is
    ∙ ap (λ (all : List Row). Some all) (sym c.as_slice-in-Some-2.ensures.value))))
