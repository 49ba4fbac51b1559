use Rattle.std.proofs.Common.{rules}
use Rattle.sym_state.specs.Decided.{integer_said}
use Rattle.sym_state.proofs.Finding.{decides, said_of}
use Rattle.sym_state.proofs.facts.exact_integer.Goals as goal

pub returns : goal.returns
returns c = said_of (λ b. b.now) integer_said c.args.sym.0 c.args.facts.now c.find.result _ _ (λ b post. search rules) c.and_then.ensures (c.find.ensures (decides integer_said c.args.sym.0) (λ item r post. search rules))
