use Rattle.bst_run.proofs.inferring.cond_from.Goals as goal

-- what was read keeps what a condition has to
pub returns-in-Ok-clause-kept : goal.returns-in-Ok-clause-kept
returns-in-Ok-clause-kept c =
    ((c.read_as_the_condition.ensures c.args.style.now c.args.text.now c.in-Ok.cond c.requires.sound).0 c.in-Ok.ensures).kept
