-- How the code holds the manner in which tokens are written.
use Rattle.std.specs.Prelude.{option_map}
use Rattle.name_format.specs.declared.tokens.Manner.{Manner as Held}
use Rattle.name_split.specs.Formatted.{Manner}

-- the manner that the fields say
abbrev pub manner_of : Held → Manner
manner_of held = record { is_whole = held.is_whole; between = option_map (λ text. text.now) held.between }
