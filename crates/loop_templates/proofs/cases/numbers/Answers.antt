-- The next symbol is added.
use Rattle.std.proofs.Common.{ap, sym, ◌∙◌, List, [], ◌∷◌, ◌++◌, arith}
use Rattle.std.proofs.lemmas.List.FromFn.{map-range_with_len_more}
use Rattle.sym_state.specs.declared.symbol.Sym.{Sym}
use Rattle.loop_templates.specs.Cases.{numbered}
use Rattle.loop_templates.proofs.cases.numbers.Goals as goal

pub loop-k-preserved : goal.loop-k-preserved
loop-k-preserved c =
    c.in_ok-push.ensures.items ∙ ap (λ (front : List Sym). front ++ numbered c.loop-k.k ∷ []) c.loop-k.invariant
    ∙ sym (map-range_with_len_more numbered 0 c.loop-k.k c.loop-k.k (omega arith))
