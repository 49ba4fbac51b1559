use Rattle.std.proofs.Common.{rules}
use Rattle.sym_state.specs.Decided.{function_said, name_of}
use Rattle.sym_state.proofs.Finding.{decides, found_then}
use Rattle.sym_state.proofs.facts.exact_name.Goals as goal

pub returns : goal.returns
returns c = found_then (λ b. b.now) function_said name_of c.args.sym.0 c.args.facts.now c.find.result _ _ (λ b post. search rules) c.and_then.ensures (c.find.ensures (decides function_said c.args.sym.0) (λ item r post. search rules))
