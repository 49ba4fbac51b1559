use Rattle.std.proofs.Common.{◌≡◌, map, drop}
use Rattle.bv_base.specs.Levels.{is_one_of}
use Rattle.bv_base.proofs.levels.is_one_of.Given as goal

abbrev pub invariant-loop-other : goal.invariant-loop-other
invariant-loop-other l = is_one_of (map (λ w. w.now) (drop l.other-index l.words)) l.word ≡ is_one_of (map (λ w. w.now) l.words) l.word
