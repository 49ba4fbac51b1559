-- Where the machine rests, no number of steps changes anything.
use Rattle.std.proofs.Common.{◌≡◌, ℕ, zero, suc, refl, ap, ◌∙◌, Bool, true, false, List, [], ◌∷◌, Option, Some, None}
use Rattle.name_table.specs.declared.style.CommandAt.{CommandAt}
use Rattle.name_table.specs.declared.style.Style.{Style}
use Rattle.bst_meaning.specs.Config.{Config, Frame, Stopped}
use Rattle.bst_meaning.specs.Machine.{outer_step, going_step, unless_stopped, step, steps}
use Rattle.bst_step.specs.Machine.{rests, at_rest}
use Rattle.bst_step.specs.MarkRules as rules
use Rattle.bst_step.specs.Marks.{Marks}

no_command : (running : Bool) (commands : List CommandAt) (c : Config) → rests None [] commands ≡ true → outer_step running commands c ≡ c
no_command true [] c e = refl
no_command false [] c e = refl
no_command running (first ∷ commands) c e = absurd (cc)

no_frame : (style : Style) (frames : List Frame) (c : Config) → rests None frames c.commands ≡ true → going_step style frames c ≡ c
no_frame style [] c e = no_command c.running c.commands c e
no_frame style (frame ∷ frames) c e = absurd (cc)

stopped_or : (style : Style) (stopped : Option Stopped) (c : Config) → rests stopped c.frames c.commands ≡ true
    → unless_stopped stopped c (going_step style c.frames c) ≡ c
stopped_or style (Some stopped) c e = refl
stopped_or style None c e = no_frame style c.frames c e

step_rests : (style : Style) (c : Config) → at_rest c ≡ true → step style c ≡ c
step_rests style c e = stopped_or style c.stopped c e

pub steps_rest : (style : Style) (n : ℕ) (c : Config) → at_rest c ≡ true → steps style n c ≡ c
steps_rest style zero c e = refl
steps_rest style (suc n) c e = ap (λ (d : Config). steps style n d) (step_rests style c e) ∙ steps_rest style n c e

-- nor do marks change
no_command_marks : (running : Bool) (commands : List CommandAt) (c : Config) (m : Marks) → rests None [] commands ≡ true
    → rules.outer_marks running commands c m ≡ m
no_command_marks true [] c m e = refl
no_command_marks false [] c m e = refl
no_command_marks running (first ∷ commands) c m e = absurd (cc)

no_frame_marks : (style : Style) (frames : List Frame) (c : Config) (m : Marks) → rests None frames c.commands ≡ true
    → rules.going_marks style frames c m ≡ m
no_frame_marks style [] c m e = no_command_marks c.running c.commands c m e
no_frame_marks style (frame ∷ frames) c m e = absurd (cc)

stopped_marks : (style : Style) (stopped : Option Stopped) (c : Config) (m : Marks) → rests stopped c.frames c.commands ≡ true
    → rules.unless_stopped stopped m (rules.going_marks style c.frames c m) ≡ m
stopped_marks style (Some stopped) c m e = refl
stopped_marks style None c m e = no_frame_marks style c.frames c m e

pub marks_rest : (style : Style) (n : ℕ) (c : Config) (m : Marks) → at_rest c ≡ true → rules.marks_after_steps style n c m ≡ m
marks_rest style zero c m e = refl
marks_rest style (suc n) c m e =
    ap (λ (d : Config). rules.marks_after_steps style n d (rules.marks_after style c m)) (step_rests style c e)
    ∙ ap (λ (k : Marks). rules.marks_after_steps style n c k) (stopped_marks style c.stopped c m e)
    ∙ marks_rest style n c m e
