use Rattle.std.proofs.Common.{sym, ◌∙◌}
use Rattle.std.proofs.lemmas.Result.{err_from_is_err_and}
use Rattle.bst_run.proofs.GenerateLemmas.{gen_decided, gen_stopped, generates, made_short}
use Rattle.bst_run.proofs.generating.make_and_show.Goals as goal

pub style_from-requires : goal.style_from-requires
style_from-requires c =
    made_short c.args.seed c.args.count c.as_slice.result.now c.requires.few (c.as_slice.ensures.value ∙ c.in_ok-source.ensures)

-- the style isn't shown
pub returns-in_err-show-clause-decides : goal.returns-in_err-show-clause-decides
returns-in_err-show-clause-decides c =
    let p = err_from_is_err_and c.from_residual-in_err-show.result c.from_residual-in_err-show.ensures.1 in
    rw (p.1, p.2)
    (gen_stopped c.args.seed c.args.count c.as_slice.result.now c.in_ok-style.style (c.as_slice.ensures.value ∙ c.in_ok-source.ensures)
    c.in_ok-style.ensures.decides c.in_err-show.field-0.0 c.in_err-show.ensures.decides)

pub returns-in_err-show-clause-inside : goal.returns-in_err-show-clause-inside
returns-in_err-show-clause-inside c =
    let p = err_from_is_err_and c.from_residual-in_err-show.result c.from_residual-in_err-show.ensures.1 in
    rw (p.1, p.2) c.in_err-show.ensures.inside

-- memory is wanting to tell of it
pub returns-in_err-generated-clause-decides : goal.returns-in_err-generated-clause-decides
returns-in_err-generated-clause-decides c =
    let p = err_from_is_err_and c.from_residual-in_err-generated.result c.from_residual-in_err-generated.ensures.1 in
    rw (p.1, p.2) tt

pub returns-in_err-generated-clause-inside : goal.returns-in_err-generated-clause-inside
returns-in_err-generated-clause-inside c =
    let p = err_from_is_err_and c.from_residual-in_err-generated.result c.from_residual-in_err-generated.ensures.1 in
    rw (p.1, p.2) tt

-- it is shown
pub returns-clause-decides : goal.returns-clause-decides
returns-clause-decides c =
    gen_decided c.args.seed c.args.count c.as_slice.result.now c.in_ok-style.style (c.as_slice.ensures.value ∙ c.in_ok-source.ensures)
    c.in_ok-style.ensures.decides c.in_ok-show.field-0 c.in_ok-generated.field-0 c.len.result c.in_ok-show.ensures.decides
    (c.len.ensures ∙ sym c.as_slice.ensures.len) c.in_ok-generated.ensures

pub returns-clause-safe : goal.returns-clause-safe
returns-clause-safe c =
    generates c.args.seed c.args.count c.as_slice.result.now c.in_ok-style.style (c.as_slice.ensures.value ∙ c.in_ok-source.ensures)
    c.in_ok-style.ensures.decides c.in_ok-generated.field-0 c.len.result c.in_ok-show.ensures.shown
    (c.len.ensures ∙ sym c.as_slice.ensures.len) c.in_ok-generated.ensures
