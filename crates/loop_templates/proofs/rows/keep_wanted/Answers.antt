-- One row more is looked at.
use Rattle.std.proofs.Common.{◌<◌, [], ◌∷◌, ◌++◌, length, map, take, ap, sym, subst, ◌∙◌, arith, refl}
use Rattle.std.specs.List.{filter}
use Rattle.lin_facts.specs.declared.row.Row.{Row}
use Rattle.loop_templates.specs.Rows.{is_wanted, row_in_piece}
use Rattle.loop_templates.specs.Sums.{IsSmallSum}
use Rattle.loop_templates.proofs.Wanted.{kept_all, kept_next}
use Rattle.loop_templates.proofs.rows.keep_wanted.Goals as goal

pub row_in_piece-requires : goal.row_in_piece-requires
row_in_piece-requires c =
    subst (λ (row : Row). IsSmallSum row.parts) (sym c.row-item.is) (c.requires.small c.loop-row.row-index c.row-item.result (omega arith))

pub loop-row-preserved : goal.loop-row-preserved
loop-row-preserved c =
    let more : c.loop-row.row-index < length c.args.found.now = omega arith in
    record {
      kept = kept_next (is_wanted c.args.cond.now c.args.start.now) (row_in_piece c.args.piece.now) 64 c.loop-row.row-index c.args.found.now
          c.row-item.result c.loop-row.rows.items c.keep_one.new.rows.items _ more c.row-item.is
          (c.in_ok-keep_one.ensures.kept
          ∙ ap (λ (row : Row). take 64 (c.loop-row.rows.items ++ filter (is_wanted c.args.cond.now c.args.start.now) (row ∷ []))) c.in_ok-placed.ensures)
          c.loop-row.invariant.kept;
      few = c.in_ok-keep_one.ensures.few;
    }

pub returns-clause-kept : goal.returns-clause-kept
returns-clause-kept c =
    kept_all (is_wanted c.args.cond.now c.args.start.now) (λ rows. map (row_in_piece c.args.piece.now) rows) 64 c.loop-row.row-index c.args.found.now
    c.loop-row.rows.items _ (omega arith) c.loop-row.invariant.few refl c.loop-row.invariant.kept
