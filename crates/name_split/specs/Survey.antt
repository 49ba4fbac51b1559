-- Where the tokens of a part of a name are parted (docs/NAMES.md, "Parts").
use Rattle.std.specs.Prelude.{ℕ, nat_eq, if◌then◌else◌, List, take, drop, Option, None, Some}
use Rattle.name_split.specs.declared.spans.Span.{Span}
use Rattle.name_split.specs.declared.survey.Cut.{Cut}
use Rattle.name_split.specs.declared.survey.Split.{Split}
use Rattle.name_split.specs.declared.survey.Survey.{Survey}
use Rattle.name_split.specs.declared.tokens.Token.{Token}
use Rattle.name_split.specs.Parts.{chain_start, von_end, von_start, whole}

-- so many tokens, and the others
abbrev pub split_at : ℕ → List Token → Split
split_at count tokens = record { front = whole (take count tokens); back = whole (drop count tokens) }

-- nothing where a count is 0
abbrev pub unless_zero : ℕ → Split → Option Split
unless_zero count split = if nat_eq count 0 then None else Some split

-- all tokens, and where the first low one that isn't the last begins, where the last such one ends, and where the
-- chain of `-` to the last token begins
abbrev pub survey_of : List Token → Survey
survey_of tokens = record {
  all = whole tokens;
  low = unless_zero (von_end tokens) (split_at (von_start tokens) tokens);
  von = unless_zero (von_end tokens) (split_at (von_end tokens) tokens);
  chain = unless_zero (chain_start tokens) (split_at (chain_start tokens) tokens);
}

-- where the first low token begins, when one more token isn't the last
abbrev pub low_step : Option Cut → Span → Token → Option Cut
low_step (Some cut) before token = Some cut
low_step None before token = if token.low then Some (record { front = before; start = token.start }) else None

-- what stands before a cut, and what stands after it up to an end
abbrev pub finished : ℕ → Option Cut → Option Split
finished end None = None
finished end (Some cut) = Some (record { front = cut.front; back = record { start = cut.start; end = end } })
