-- Where no line fails under the match, the piece holds of what the state stands for.
use Rattle.std.proofs.Common.{◌≤◌, ℕ, ap, sym, ◌∙◌, length, arith}
use Rattle.std.proofs.lemmas.Result.{IfOk-weaker}
use Rattle.sym_state.specs.Entailing.{first_line_failing, match_of}
use Rattle.sym_state.proofs.Entailed.{entailed}
use Rattle.sym_state.proofs.entails.entails.Goals as goal

pub returns-clause-sound : goal.returns-clause-sound
returns-clause-sound c =
    let few : length c.args.piece.now.stack ≤ length c.args.state.now.stack = omega (arith, ap length c.stack.ensures, ap length c.as_slice.ensures, c.if-stack-as_slice.false) in
    let match : ℕ → ℕ = match_of c.args.state.now c.args.piece.now c.args.kept in
    IfOk-weaker c.first_line_failing.result _ _
    (λ line is none style list v config below stands.
    entailed style c.args.cond.now list v c.args.state.now config below c.args.piece.now match c.args.proofs.now few
    (ap (λ (m : ℕ → ℕ). first_line_failing m c.args.cond.now c.args.state.now c.args.piece.now c.args.proofs.now) (sym c.in_ok-matching.ensures.matched) ∙ sym is ∙ none)
    stands)
    c.first_line_failing.ensures
