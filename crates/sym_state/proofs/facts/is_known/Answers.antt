use Rattle.std.proofs.Common.{rules, nat_eq, ◌&&◌, ◌||◌, ap, ◌∙◌}
use Rattle.std.specs.List.{list_any}
use Rattle.sym_state.specs.Decided.{gives}
use Rattle.sym_state.specs.Facts.{subject}
use Rattle.sym_state.proofs.Finding.{found_any}
use Rattle.sym_state.proofs.facts.is_known.Goals as goal

pub returns : goal.returns
returns c =
    c.is_some.ensures
    ∙ found_any (λ b. b.now) (λ fact. nat_eq (subject fact) c.args.sym.0 && gives fact c.args.wanted.now) c.args.facts.now c.find.result
    (c.find.ensures (λ fact. nat_eq (subject fact) c.args.sym.0 && gives fact c.args.wanted.now) (λ item r post. search rules))
    ∙ ap (λ t. t || list_any (λ fact. nat_eq (subject fact) c.args.sym.0 && gives fact c.args.wanted.now) c.args.facts.now) c.if-says_nothing.ensures
