-- A pattern that is known is well formed.
use Rattle.name_format.proofs.Knowing.{known_ok}
use Rattle.name_format.proofs.known_patterns.KnownPatterns.is_well_formed.Goals as goal

pub returns-then-is_among : goal.returns-then-is_among
returns-then-is_among c = known_ok c.args.pattern.now c.self.inside.patterns.items c.self.invariant.0 cc
