use Rattle.std.proofs.Common.{rules, ap, sym, ◌∙◌}
use Rattle.std.specs.Option.{option_and_then}
use Rattle.sym_state.specs.Decided.{text_said}
use Rattle.sym_state.proofs.Exact.{text_short}
use Rattle.sym_state.proofs.Finding.{decides, found_said}
use Rattle.sym_state.proofs.facts.exact_text.Goals as goal

pub returns-in-Some-clause-said : goal.returns-in-Some-clause-said
returns-in-Some-clause-said c =
    c.text_said.ensures ∙ ap (option_and_then (λ b. text_said b.now)) (sym c.in-Some.is)
    ∙ found_said (λ b. b.now) text_said c.args.sym.0 c.args.facts.now c.find-found.result
    (c.find-found.ensures (decides text_said c.args.sym.0) (λ item r post. search rules))

pub returns-in-None-clause-said : goal.returns-in-None-clause-said
returns-in-None-clause-said c =
    ap (option_and_then (λ b. text_said b.now)) (sym c.in-None.is)
    ∙ found_said (λ b. b.now) text_said c.args.sym.0 c.args.facts.now c.find-found.result
    (c.find-found.ensures (decides text_said c.args.sym.0) (λ item r post. search rules))

pub returns-in-Some-clause-short : goal.returns-in-Some-clause-short
returns-in-Some-clause-short c short = text_short c.args.facts.now c.args.sym.0 c.text_said.result short (returns-in-Some-clause-said c)
