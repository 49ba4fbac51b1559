-- The law of tokens that push, on what is well made and what stays.
use Rattle.sym_state.proofs.Pushes.{push_leaves, push_made}
use Rattle.sym_state.proofs.laws.pushes_keep.Goals as goal

pub returns : goal.returns
returns c = record {
  made = λ style state token after sound fits made is. push_made style state token after sound fits made is;
  leaves = λ style state token after is. push_leaves style state token after is;
}
