-- What it is for a certificate to check (docs/CHECKER.md, "Commands"): the summaries in order, the loops, and the commands in the
-- style's order, up to the first rule that fails.
use Rattle.std.specs.Prelude.{◌≡◌, ℕ, suc, nat_eq, List, [], ◌∷◌, find, Ok}
use Rattle.bv_base.specs.Answers.{then_do}
use Rattle.name_table.specs.declared.style.CommandAt.{CommandAt}
use Rattle.name_table.specs.declared.style.Style.{Style}
use Rattle.cert_format.specs.declared.cert.Cert.{Cert}
use Rattle.cert_format.specs.declared.cert.Loop.{Loop}
use Rattle.cert_format.specs.declared.cert.Summary.{Summary}
use Rattle.cert_check.specs.Units.{loop_checked, summary_checked}
use Rattle.command_flow.specs.Between.{opened}
use Rattle.command_flow.specs.declared.between.Between.{Between}
use Rattle.command_flow.specs.Commands.{Left, command_taken}

-- units in order, each by its rule
abbrev pub each_checked : {X : Type 0} → (X → Left) → List X → Left
each_checked check [] = Ok []
each_checked check (unit ∷ units) = then_do (check unit) (λ hints. each_checked check units)

-- the summaries in order
abbrev pub summaries_checked : Style → Cert → List Summary → Left
summaries_checked style cert summaries = each_checked (summary_checked style cert) summaries

-- the loops in order
abbrev pub loops_checked : Style → Cert → List Loop → Left
loops_checked style cert loops = each_checked (loop_checked style cert) loops

-- commands in order, numbered from here
abbrev pub commands_checked : Style → Cert → ℕ → Between → List CommandAt → Left
commands_checked style cert index between [] = Ok []
commands_checked style cert index between (at ∷ commands) =
    then_do (command_taken style cert at (find (λ part. nat_eq part.index index) cert.commands) between) (λ after.
    commands_checked style cert (suc index) after commands)

-- no hint, or the first rule that fails
abbrev pub checked : Style → Cert → Left
checked style cert =
    then_do (summaries_checked style cert cert.summaries) (λ hints.
    then_do (loops_checked style cert cert.loops) (λ hints.
    commands_checked style cert 0 (opened style) style.commands))

-- every rule holds
abbrev pub Checks : Style → Cert → Type 0
Checks style cert = checked style cert ≡ Ok []
