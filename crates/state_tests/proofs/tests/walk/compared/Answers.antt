-- The cases of a test are well made.
use Rattle.state_tests.proofs.tests.walk.compared.Goals as goal

pub returns-in-Ok : goal.returns-in-Ok
returns-in-Ok c = c.in-Ok.ensures.kept c.args.style.now c.requires.made tt
