-- The stack of the case is longer, or there is none of that number.
use Rattle.std.proofs.Common.{◌≡◌, ◌∙◌, Option, None, Some, ap, arith, length, slice_get, sym}
use Rattle.sym_state.specs.declared.piece.Piece.{Piece}
use Rattle.cert_check.specs.Courses.{placed}
use Rattle.cert_check.specs.Walks.{comes_by_case}
use Rattle.cert_check.proofs.WhileSteps.{long_case, refuses_so}
use Rattle.cert_check.proofs.whiles.case_within.Goals as goal

pub returns-else-as_slice-stack_len-clause-comes : goal.returns-else-as_slice-stack_len-clause-comes
returns-else-as_slice-stack_len-clause-comes c = λ unit cond hints.
    let long = c.if-as_slice-stack_len.false in
    let known = c.stack_len.ensures in
    let all = ap length c.as_slice.ensures in
    let there : slice_get c.args.cases.now c.args.k ≡ Some c.in-Some.case.now = sym c.in-Some.ensures in
    refuses_so _ _ _ c.refuse.result c.refuse.ensures
    (ap (λ (o : Option Piece). placed c.args.place (comes_by_case unit cond o c.args.state.now hints)) there
    ∙ long_case c.args.place unit cond c.in-Some.case.now c.args.state.now hints (omega (arith, long, known, all)))

pub returns-in-None-clause-comes : goal.returns-in-None-clause-comes
returns-in-None-clause-comes c = λ unit cond hints.
    let none : slice_get c.args.cases.now c.args.k ≡ None = sym c.in-None.ensures in
    refuses_so _ _ _ c.refuse-in-None.result c.refuse-in-None.ensures
    (ap (λ (o : Option Piece). placed c.args.place (comes_by_case unit cond o c.args.state.now hints)) none)
