-- The names are few behind a short stack.
use Rattle.std.proofs.Common.{◌≡◌, ◌≤◌, ◌∙◌, sym, subst, length}
use Rattle.name_table.specs.declared.names.TheConstants.{MOST_NAMES}
use Rattle.loop_templates.specs.Cases.{Frame, variables_of}
use Rattle.loop_templates.proofs.Cased.{names_few}
use Rattle.loop_templates.proofs.cases.places_for.Goals as goal

pub places_behind-requires : goal.places_behind-requires
places_behind-requires c =
    names_few c.frame.inside.bound c.frame.inside.style.now.names c.args.n c.args.variables.now c.as_slice.result.now c.requires.few
    (subst (λ (frame : Frame). length frame.style.names ≤ MOST_NAMES) (sym c.frame.view_is) c.requires.sound.few_names)
    (subst (λ (frame : Frame). c.args.variables.now ≡ variables_of frame) (sym c.frame.view_is) c.requires.names)
    (c.as_slice.ensures.value ∙ c.in_ok-names-in-len1-up.ensures)
