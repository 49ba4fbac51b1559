-- What it is for a style to be safe under a condition (docs/CHECKER.md, "What accepted means").
use Rattle.std.specs.Prelude.{◌≡◌, ℕ, true, [], None}
use Rattle.name_table.specs.declared.style.Style.{Style}
use Rattle.bst_meaning.specs.EntryLists.{EntryList}
use Rattle.bst_meaning.specs.declared.condition.Cond.{Cond}
use Rattle.bst_meaning.specs.Entries.{Fits}
use Rattle.bst_meaning.specs.Condition.{Meets}
use Rattle.bst_meaning.specs.Config.{Config}
use Rattle.bst_meaning.specs.Machine.{step, run}

-- the next step ends the call of a command: it runs, and no frame is left
pub record EndsCall (c : Config) : Type 0 where
  pub goes_on : c.stopped ≡ None
  pub runs : c.running ≡ true
  pub frameless : c.frames ≡ []

-- no execution error has come, and where the next step ends a call it leaves the literal stack empty
pub record IsFine (style : Style) (c : Config) : Type 0 where
  pub no_fault : c.stopped ≡ None
  pub empties : EndsCall c → (step style c).stack ≡ []

-- whatever entries fit the style and meet the condition, no number of steps comes to an execution error, and every call that
-- ends leaves the literal stack empty
abbrev pub Safe : Style → Cond → Type 0
Safe style cond = (list : EntryList) → Fits style list → Meets style cond list → (n : ℕ) → IsFine style (run style list n)
