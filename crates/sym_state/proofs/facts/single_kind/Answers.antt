use Rattle.std.proofs.Common.{rules}
use Rattle.sym_state.specs.Decided.{kind_said, single}
use Rattle.sym_state.proofs.Finding.{decides, said_of}
use Rattle.sym_state.proofs.facts.single_kind.Goals as goal

pub returns : goal.returns
returns c = said_of (λ b. b.now) (λ fact. single (kind_said fact)) c.args.sym.0 c.args.facts.now c.find.result _ _ (λ b post. search rules) c.and_then.ensures (c.find.ensures (decides (λ fact. single (kind_said fact)) c.args.sym.0) (λ item r post. search rules))
