-- What holds of a configuration after each step, where going on keeps it.
use Rattle.std.proofs.Common.{ℕ, zero, suc, Option, None, Some}
use Rattle.name_table.specs.declared.style.Style.{Style}
use Rattle.bst_meaning.specs.Config.{Config, Stopped}
use Rattle.bst_meaning.specs.Machine.{going_step, step, steps, unless_stopped}

pub kept_step : (style : Style) (P : Config → Type 0) → ((c : Config) → P c → P (going_step style c.frames c)) → (c : Config) → P c
    → P (step style c)
kept_step style P goes c h = by c.stopped
  where
    by : (stopped : Option Stopped) → P (unless_stopped stopped c (going_step style c.frames c))
    by None = goes c h
    by (Some stopped) = h

pub kept_steps : (style : Style) (P : Config → Type 0) → ((c : Config) → P c → P (step style c)) → (n : ℕ) (c : Config) → P c
    → P (steps style n c)
kept_steps style P keeps zero c h = h
kept_steps style P keeps (suc n) c h = kept_steps style P keeps n (step style c) (keeps c h)
