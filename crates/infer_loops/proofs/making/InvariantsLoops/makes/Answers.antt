-- What is found is a loop of the style.
use Rattle.infer_loops.proofs.making.InvariantsLoops.makes.Goals as goal

pub returns-clause-sound : goal.returns-clause-sound
returns-clause-sound c =
    c.invariants_are_loops.ensures.loops c.args.self.now.checker.now.style c.args.self.now.checker.now.cert c.style-sound.ensures.sound
    c.cond-certified.ensures.certified
