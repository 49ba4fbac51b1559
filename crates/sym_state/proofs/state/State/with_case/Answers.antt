use Rattle.std.proofs.Common.{subst, sym}
use Rattle.std.proofs.lemmas.List.Elements.{All-same}
use Rattle.sym_state.specs.WellMade.{HasBounds, HasShortText, IsBounded}
use Rattle.sym_state.proofs.Boxed.{lent, seen}
use Rattle.sym_state.proofs.Resulting.{case_bounds}
use Rattle.sym_state.proofs.state.State.with_case.Goals as goal

pub returns-clause-bounds : goal.returns-clause-bounds
returns-clause-bounds c bounds short bounded =
    let own = lent HasBounds c.deref_mut-known.ensures.value (subst HasBounds (sym c.after.view_is) bounds) in
    let all = case_bounds (seen c.deref_mut-known.result.now) c.args.facts.items c.args.rows.items own short bounded in
    record {
      facts = All-same HasShortText _ _ c.in_ok-append.ensures all.facts;
      rows = All-same IsBounded _ _ c.in_ok-append-2.ensures all.rows;
    }
