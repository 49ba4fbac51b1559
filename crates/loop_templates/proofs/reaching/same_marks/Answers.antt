-- What `==` says of marks.
use Rattle.std.specs.Cmp.{booleans_Decides}
use Rattle.std.proofs.lemmas.Slice.Eq.{slice_eq-Decides}
use Rattle.loop_templates.proofs.reaching.same_marks.Goals as goal

pub returns : goal.returns
returns c = (slice_eq-Decides booleans_Decides c.args.some.now c.args.others.now c.eq.result c.eq.ensures).0
