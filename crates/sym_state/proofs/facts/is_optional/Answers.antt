use Rattle.std.proofs.Common.{rules, nat_eq, ◌&&◌, ◌∙◌}
use Rattle.sym_state.specs.declared.symbol.Kinds.TheVariants.{Optional}
use Rattle.sym_state.specs.Decided.{includes, kind_said}
use Rattle.sym_state.specs.Facts.{subject}
use Rattle.sym_state.proofs.Finding.{found_any}
use Rattle.sym_state.proofs.facts.is_optional.Goals as goal

pub returns : goal.returns
returns c =
    c.is_some.ensures
    ∙ found_any (λ b. b.now) (λ fact. nat_eq (subject fact) c.args.sym.0 && includes Optional (kind_said fact)) c.args.facts.now c.find.result
    (c.find.ensures (λ fact. nat_eq (subject fact) c.args.sym.0 && includes Optional (kind_said fact)) (λ item r post. search rules))
