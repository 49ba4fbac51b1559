-- The machine's steps around a call of a command, and what is safe before and after them.
use Rattle.std.proofs.Common.{◌≡◌, ℕ, zero, suc, Bool, true, false, List, [], ◌∷◌, Option, None, Some, refl, sym, ap, subst, ◌∙◌}
use Rattle.bv_base.specs.declared.place.Place.{Place}
use Rattle.name_table.specs.declared.names.NameId.{NameId}
use Rattle.name_table.specs.declared.style.CommandAt.{CommandAt}
use Rattle.name_table.specs.declared.style.Style.{Style}
use Rattle.name_table.specs.declared.style.Token.TheVariants.{Call}
use Rattle.bst_meaning.specs.Config.{Config, Frame, Stopped, Visit, Whole}
use Rattle.bst_meaning.specs.Invariant.{IsWellFormed}
use Rattle.bst_meaning.specs.Machine.{call_end_step, call_ended, command_step, going_step, outer_step, step, unless_stopped, with_call}
use Rattle.bst_meaning.specs.Safe.{IsFine}
use Rattle.bst_meaning.specs.EntryLists.{EntryList}
use Rattle.bst_meaning.specs.declared.value.Target.TheVariants.{Named}
use Rattle.bst_meaning.specs.declared.value.Value.{Value}
use Rattle.cert_check.specs.Safely.{SafeFor, target_step}
use Rattle.cert_check.proofs.Safety.{less, one_before, step_is}

-- no call runs, and the literal stack is empty
pub record Quiet (c : Config) : Type 0 where
  pub goes : c.stopped ≡ None
  pub quiet : c.running ≡ false
  pub frameless : c.frames ≡ []
  pub empty : c.stack ≡ []

-- one step before what is safe
pub earlier : (style : Style) (n : ℕ) (c d : Config) → IsFine style c → step style c ≡ d → SafeFor style n d → SafeFor style n c
earlier style n c d fine is safe = less style n c (fine, subst (SafeFor style n) (sym is) safe)

pub quiet_fine : (style : Style) (c : Config) → c.stopped ≡ None → c.running ≡ false → IsFine style c
quiet_fine style c goes quiet = record { no_fault = goes; empties = λ ends. absurd (differ (sym quiet ∙ ends.runs)) }
  where
    differ : false ≡ true → ⊥
    differ e = cc

-- the step where no frame is left
frameless_step : (style : Style) (c : Config) → c.stopped ≡ None → c.frames ≡ [] → step style c ≡ outer_step c.running c.commands c
frameless_step style c goes frameless =
    ap (λ (s : Option Stopped). unless_stopped s c (going_step style c.frames c)) goes ∙ ap (λ (fs : List Frame). going_step style fs c) frameless

-- a command begins or goes on
pub command_begins : (style : Style) (c : Config) (first : CommandAt) (commands : List CommandAt) → Quiet c → c.commands ≡ first ∷ commands
    → step style c ≡ command_step first.command first.place commands c
command_begins style c first commands quiet is =
    frameless_step style c quiet.goes quiet.frameless
    ∙ ap (λ (running : Bool). outer_step running c.commands c) quiet.quiet
    ∙ ap (λ (left : List CommandAt). outer_step false left c) is

-- no command is left
pub nothing_left : (style : Style) (c : Config) → Quiet c → c.commands ≡ [] → step style c ≡ c
nothing_left style c quiet is =
    frameless_step style c quiet.goes quiet.frameless ∙ ap (λ (left : List CommandAt). outer_step c.running left c) is

pub rests : (style : Style) (n : ℕ) (c : Config) → IsFine style c → step style c ≡ c → SafeFor style n c
rests style zero c fine is = fine
rests style (suc n) c fine is = (fine, subst (SafeFor style n) (sym is) (rests style n c fine is))

-- the frame of a call, of which this is left
abbrev pub called_frame : Place → Frame
called_frame place = record { tokens = []; place = place; part = Whole }

-- the call's name has been taken off its frame
abbrev pub entered : Place → Config → Config
entered place c = record c { running = true; frames = called_frame place ∷ c.frames }

abbrev calling : NameId → Place → Frame
calling name place = record { tokens = record { token = Call name; place = place } ∷ []; place = place; part = Whole }

pub call_step_is : (style : Style) (name : NameId) (place : Place) (c : Config) → c.stopped ≡ None
    → step style (with_call name place c) ≡ target_step style (Named name) place (entered place c)
call_step_is style name place c goes =
    step_is style (calling name place) c.frames (with_call name place c) (record { goes = goes; framed = refl })

-- the call begins where it is safe that its name is entered
pub call_begins : (style : Style) (n : ℕ) (name : NameId) (place : Place) (c : Config) → c.stopped ≡ None
    → SafeFor style n (target_step style (Named name) place (entered place c)) → SafeFor style n (with_call name place c)
call_begins style n name place c goes safe =
    less style n (with_call name place c)
    (one_before style (calling name place) c.frames n (with_call name place c) (record { goes = goes; framed = refl }) safe)

-- its frame is gone
abbrev pub frameless : Config → Config
frameless d = record d { frames = [] }

-- a call of the first of these commands comes to its end
pub record Comes (place : Place) (first : CommandAt) (commands : List CommandAt) (d : Config) : Type 0 where
  pub goes : d.stopped ≡ None
  pub framed : d.frames ≡ called_frame place ∷ []
  pub runs : d.running ≡ true
  pub empty : d.stack ≡ []
  pub left : d.commands ≡ first ∷ commands

pub returns_is : (style : Style) (place : Place) (first : CommandAt) (commands : List CommandAt) (d : Config) → Comes place first commands d
    → step style d ≡ frameless d
returns_is style place first commands d comes =
    step_is style (called_frame place) [] d (record { goes = comes.goes; framed = comes.framed })

pub ends_is : (style : Style) (place : Place) (first : CommandAt) (commands : List CommandAt) (d : Config) → Comes place first commands d
    → step style (frameless d) ≡ call_ended d.visit commands (frameless d)
ends_is style place first commands d comes =
    frameless_step style (frameless d) comes.goes refl
    ∙ ap (λ (running : Bool). outer_step running d.commands (frameless d)) comes.runs
    ∙ ap (λ (left : List CommandAt). outer_step true left (frameless d)) comes.left
    ∙ ap (λ (stack : List Value). call_end_step stack first.place commands (frameless d)) comes.empty

ended_stack : (visit : Option Visit) (commands : List CommandAt) (c : Config) → (call_ended visit commands c).stack ≡ c.stack
ended_stack None commands c = refl
ended_stack (Some visit) commands c = refl

-- what comes to the end of its call is safe where the end is
pub call_ends_safe : (style : Style) (n : ℕ) (place : Place) (first : CommandAt) (commands : List CommandAt) (d : Config) → Comes place first commands d
    → SafeFor style n (call_ended d.visit commands (frameless d)) → SafeFor style n d
call_ends_safe style n place first commands d comes safe =
    let end : Config = call_ended d.visit commands (frameless d) in
    let is : step style (frameless d) ≡ end = ends_is style place first commands d comes in
    let last : SafeFor style n (frameless d) = earlier style n (frameless d) end (record {
      no_fault = comes.goes;
      empties = λ ends. ap (λ (c : Config). c.stack) is ∙ ended_stack d.visit commands (frameless d) ∙ comes.empty;
    }) is safe in
    less style n d (one_before style (called_frame place) [] n d (record { goes = comes.goes; framed = comes.framed }) last)

-- what is well formed stays so to the end of the call
pub ends_formed : (style : Style) (list : EntryList) (place : Place) (first : CommandAt) (commands : List CommandAt) (d : Config)
    → ((c : Config) → IsWellFormed style list c → IsWellFormed style list (step style c)) → Comes place first commands d → IsWellFormed style list d
    → IsWellFormed style list (call_ended d.visit commands (frameless d))
ends_formed style list place first commands d steps comes formed =
    subst (IsWellFormed style list) (ends_is style place first commands d comes)
    (steps (frameless d) (subst (IsWellFormed style list) (returns_is style place first commands d comes) (steps d formed)))
