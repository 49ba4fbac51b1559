-- The hints that were found and those that are shown may be written.
use Rattle.std.proofs.Common.{List, subst, sym}
use Rattle.name_table.specs.Sound.{Each}
use Rattle.cert_format.specs.CertText.{IsHint}
use Rattle.sym_state.specs.declared.hint.Hint.{Hint}
use Rattle.infer_loops.proofs.HintsWritten.{written_more}
use Rattle.infer_loops.proofs.loops.push_hints.Goals as goal

pub returns-clause-written : goal.returns-clause-written
returns-clause-written c =
    written_more _ _ _ c.in_ok-append-2.ensures.items
    (written_more _ _ _ c.in_ok-append.ensures.items c.requires.written
    (subst (λ (l : List Hint). Each IsHint l) (sym c.into_vec-found.ensures) c.requires.end.hints))
    c.in_ok-shown.ensures.written
