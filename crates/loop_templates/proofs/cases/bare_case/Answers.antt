-- A case that is the definition's is numbered and fits.
use Rattle.std.proofs.Common.{◌≡◌, map, option_map}
use Rattle.std.proofs.lemmas.Result.{IfOk-weaker}
use Rattle.sym_state.specs.Starting.{IsFit, IsNumbered}
use Rattle.loop_templates.specs.Cases.{bare_case}
use Rattle.loop_templates.proofs.Cased.{is_fit, is_numbered}
use Rattle.loop_templates.proofs.cases.bare_case.Goals as goal

pub returns-then-bones-lt-MOST_SYMBOLS-clause-numbered :
    goal.returns-then-bones-lt-MOST_SYMBOLS-clause-numbered
returns-then-bones-lt-MOST_SYMBOLS-clause-numbered c =
    let common = map (λ state. state.now) c.args.common.now in
    let further = option_map (λ state. state.now) c.args.further in
    IfOk-weaker c.short_case.result (λ piece. piece ≡ bare_case c.args.frame.now c.args.bones.now common further) IsNumbered
    (λ piece is. is_numbered c.args.frame.now c.args.bones.now common further piece c.requires.can is) c.short_case.ensures

pub returns-then-bones-lt-MOST_SYMBOLS-clause-fit :
    goal.returns-then-bones-lt-MOST_SYMBOLS-clause-fit
returns-then-bones-lt-MOST_SYMBOLS-clause-fit c =
    let common = map (λ state. state.now) c.args.common.now in
    let further = option_map (λ state. state.now) c.args.further in
    IfOk-weaker c.short_case.result (λ piece. piece ≡ bare_case c.args.frame.now c.args.bones.now common further) (IsFit c.args.frame.now.style)
    (λ piece is. is_fit c.args.frame.now c.args.bones.now common further piece c.requires.can is) c.short_case.ensures
