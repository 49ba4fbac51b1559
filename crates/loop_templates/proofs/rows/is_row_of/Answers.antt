-- One row more is looked at.
use Rattle.std.proofs.Common.{◌≡◌, ap, sym, ◌∙◌, arith, Option}
use Rattle.std.specs.Option.{option_map_or}
use Rattle.std.specs.Prelude.{slice_get, true, false}
use Rattle.lin_facts.specs.declared.row.Row.{Row}
use Rattle.loop_templates.specs.Rows.{same_row}
use Rattle.loop_templates.proofs.Among.{any_here, any_next, any_none}
use Rattle.loop_templates.proofs.rows.is_row_of.Goals as goal

pub returns-then-is_same : goal.returns-then-is_same
returns-then-is_same c =
    let passes : option_map_or (same_row c.args.row.now) (slice_get c.args.state.now.rows c.loop-k.k) false ≡ true =
    sym (c.is_same.ensures ∙ ap (λ (other : Option Row). option_map_or (same_row c.args.row.now) other false) c.row.ensures) ∙ c.if-is_same.true in
    any_here (same_row c.args.row.now) c.loop-k.k c.args.state.now.rows _ passes c.loop-k.invariant

pub loop-k-preserved : goal.loop-k-preserved
loop-k-preserved c =
    let fails : option_map_or (same_row c.args.row.now) (slice_get c.args.state.now.rows c.loop-k.k) false ≡ false =
    sym (c.is_same.ensures ∙ ap (λ (other : Option Row). option_map_or (same_row c.args.row.now) other false) c.row.ensures) ∙ c.if-is_same.false in
    any_next (same_row c.args.row.now) c.loop-k.k c.args.state.now.rows _ fails c.loop-k.invariant

pub returns : goal.returns
returns c =
    let all = c.rows-k-end.ensures in
    any_none (same_row c.args.row.now) c.loop-k.k c.args.state.now.rows _ (omega (arith, all)) c.loop-k.invariant
