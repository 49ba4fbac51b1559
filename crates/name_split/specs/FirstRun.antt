-- A group around its first run of letters (docs/NAMES.md, "Patterns").
use Rattle.std.specs.Prelude.{◌≡◌, ℕ, ◌+◌, ◌<◌, List, ◌∷◌, length, take, drop}
use Rattle.name_split.specs.declared.pattern.FirstRun.{FirstRun}
use Rattle.name_split.specs.Patterns.{before_run, letter_runs}

-- what stands before the first run, the run, and what follows it with the runs there
pub record IsFirstRun (group : List ℕ) (found : FirstRun) : Type 0 where
  pub some : 0 < length found.letters.now
  pub before : found.before.now ≡ take (before_run 1 group) group
  pub runs : letter_runs 1 group ≡ found.letters.now ∷ letter_runs 1 found.behind.now
  pub behind : found.behind.now ≡ drop (before_run 1 group + length found.letters.now) group
