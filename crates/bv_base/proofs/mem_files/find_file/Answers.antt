-- Each turn looks at the first file of the rest.
use Rattle.std.proofs.Common.{◌≡◌, ◌∙◌, ap, sym, true, false, Some, arith}
use Rattle.std.specs.Str.{bytes_eq}
use Rattle.bv_base.proofs.Listed.{listed_found, listed_other, listed_none}
use Rattle.bv_base.proofs.mem_files.find_file.Goals as goal

pub returns-then-eq : goal.returns-then-eq
returns-then-eq c =
    let same : bytes_eq c.args.name.now c.first-item.result.name ≡ true =
    ap (bytes_eq c.args.name.now) (sym c.as_slice.ensures) ∙ sym c.eq.ensures ∙ c.if-eq.true in
    ap Some c.as_slice-then-eq.ensures
    ∙ sym (c.loop-rest.invariant ∙ listed_found _ c.first-item.result _ (omega arith) c.first-item.is same)

pub loop-rest-preserved : goal.loop-rest-preserved
loop-rest-preserved c =
    let other : bytes_eq c.args.name.now c.first-item.result.name ≡ false =
    ap (bytes_eq c.args.name.now) (sym c.as_slice.ensures) ∙ sym c.eq.ensures ∙ c.if-eq.false in
    c.loop-rest.invariant ∙ listed_other _ c.first-item.result _ (omega arith) c.first-item.is other

pub returns : goal.returns
returns c = sym (c.loop-rest.invariant ∙ listed_none _ _ (omega arith))
