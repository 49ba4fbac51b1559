use Rattle.std.proofs.Common.{ℕ, sym, subst}
use Rattle.cert_check.specs.Room.{AreWithin}
use Rattle.cert_check.proofs.CasesWithin.{cases_within}
use Rattle.cert_check.proofs.course.Course.chooses.Goals as goal

pub returns-clause-cases : goal.returns-clause-cases
returns-clause-cases g c known few =
    subst (λ (count : ℕ). AreWithin c.args.at.now.scope.now.style known count c.in_ok-cases.cases.items)
    (sym c.in_ok-cases.ensures.counted)
    (cases_within c.args.at.now.scope.now.style c.args.at.now.scope.now.cert.cond c.args.at.now.place c.args.state.now c.in_ok-three.three c.in_ok-cases.cases.items known
    c.args.self.now.count c.requires.room few c.in_ok-three.ensures c.in_ok-cases.ensures.cases)
