-- A walk that reads its loops may be taken.
use Rattle.cert_check.proofs.making.Unmade.of.Goals as goal

pub returns : goal.returns
returns c = record { sound = c.requires.sound.sound; certified = c.requires.sound.certified; same = c.style.ensures; makes = tt }
