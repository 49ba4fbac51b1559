-- How the lines of a run are put while it goes (docs/COMMANDS.md, "A run").
use Rattle.std.specs.Prelude.{◌≡◌, ℕ, List, [], ◌++◌}
use Rattle.bv_base.specs.Outside.{appended}
use Rattle.bv_base.specs.declared.status.Status.{Status}
use Rattle.bv_base.specs.declared.status.Status.TheVariants as status
use Rattle.name_table.specs.declared.style.Style.{Style}
use Rattle.bst_meaning.specs.Config.{Config}
use Rattle.bst_meaning.specs.Machine.{steps}
use Rattle.bst_step.specs.Lines.{Spelt, added, first}
use Rattle.bst_run.specs.declared.outcome.Outcome.{Outcome}
use Rattle.bst_run.specs.Delivery.{Sunk, IsPut, IsCut, IsHeld}

-- a configuration without what was written
abbrev pub unwritten : Config → Config
unwritten c = record c { events = [] }

-- after so many steps a machine stands at what they come to, without what was written; of the text that was finished a front was taken,
-- and what is behind it stands on a page
pub record AreSoFar (style : Style) (count : ℕ) (begun now : Config) (page : Spelt) (out : Sunk) : Type 0 where
  pub stands : now ≡ unwritten (steps style count begun)
  pub front : List ℕ
  pub spelled : added first (steps style count begun).events ≡ record { text = front ++ page.text; buffer = page.buffer }
  pub taken : out.after ≡ appended out.before front
  pub steady : out.faults' ≡ out.faults

-- what comes of the text for standard error, once that for standard output was put
pub data HasEnding (outcome : Outcome) (given : Status) (err : Sunk) : Type 0 where
  Put : given ≡ outcome.status → IsPut outcome.err err → HasEnding outcome given err
  Failed : given ≡ status.WriteFailed → IsCut outcome.err err → HasEnding outcome given err
  Wanting : given ≡ status.NoMemory → IsHeld outcome.err err → HasEnding outcome given err
