-- The call of a command that is walked is safe where all units are checked.
use Rattle.std.proofs.Common.{◌≡◌, ℕ, suc, List, [], ◌∷◌, ◌++◌, slice_get, Option, None, Some, Ok, refl, sym, ap, subst, ◌∙◌, append_assoc, arith, inl, inr, IfSome}
use Rattle.std.specs.List.{All}
use Rattle.std.specs.Option.{option_map_or}
use Rattle.std.proofs.lemmas.List.{append-nil}
use Rattle.std.proofs.lemmas.List.Elements.{All-head, All-tail}
use Rattle.bv_base.specs.declared.place.Place.{Place}
use Rattle.bv_base.proofs.ThenLemmas.{ok_is, then_ok}
use Rattle.name_table.specs.Sound.{IsSound}
use Rattle.name_table.specs.declared.names.Kind.{Kind}
use Rattle.name_table.specs.declared.style.Style.{Style}
use Rattle.bst_meaning.specs.Config.{Config, Whole}
use Rattle.bst_meaning.specs.Entries.{Fits}
use Rattle.bst_meaning.specs.Invariant.{IsWellFormed}
use Rattle.bst_meaning.specs.Machine.{call_step}
use Rattle.bst_meaning.specs.EntryLists.{EntryList}
use Rattle.bst_meaning.specs.declared.value.Target.{Target}
use Rattle.bst_meaning.specs.declared.value.Target.TheVariants.{Named, Block}
use Rattle.bst_meaning.specs.declared.value.Value.{Value}
use Rattle.cert_format.specs.declared.cert.Cert.{Cert}
use Rattle.cert_format.specs.declared.cert.Loop.{Loop}
use Rattle.cert_format.specs.declared.cert.Summary.{Summary}
use Rattle.sym_state.specs.State.{State}
use Rattle.sym_state.specs.Symbols.{Valuation}
use Rattle.sym_state.specs.WellMade.{WellMade}
use Rattle.sym_state.specs.declared.hint.Hint.{Hint}
use Rattle.refinements.specs.Covered.{IsAmong}
use Rattle.cert_check.specs.Certified.{IsCertified, MakesLoops}
use Rattle.cert_check.specs.Courses.{Course}
use Rattle.cert_check.specs.Safely.{EntersSafely, IsAllChecked, IsAt, IsLeft, RepeatsSafely, SafeFor, loop_step, target_step}
use Rattle.cert_check.specs.Units.{beginning, call_walked, everywhere, loop_checked, summary_checked, target_entered, target_from}
use Rattle.cert_check.specs.Walks.{Make, Scope, body_walked, chosen_in, loop_used, summary_used}
use Rattle.cert_check.specs.declared.limits.TheConstants.{MOST_DEPTH}
use Rattle.cert_check.proofs.Bodies.{returned}
use Rattle.cert_check.proofs.Choosing.{name_safe}
use Rattle.cert_check.proofs.Entering.{OnwardSafe, entered_safe, entry_frames, entry_step}
use Rattle.cert_check.proofs.Followed.{moved_within}
use Rattle.cert_check.proofs.Keeping.{Told, told_by}
use Rattle.cert_check.proofs.Levels.{Levels, UnitsSafe}
use Rattle.cert_check.proofs.Safety.{Laws, Reaches, SafeAfter, Start, safe_fewer}
use Rattle.cert_check.proofs.Using.{AllChecked, units_safe}
use Rattle.cert_check.proofs.Walked.{Moves, body_entered, body_moved, chosen_moved, name_moved}
use Rattle.cert_check.proofs.Walking.{chosen_safe, levels_below}
use Rattle.cert_check.proofs.Makings.{target_self}

-- what is safe where the use of every unit is
all_levels : (scope : Scope) (list : EntryList) (n : ℕ) → Told scope → Fits scope.style list → ((m : ℕ) → UnitsSafe scope list m)
    → Levels scope list n (body_walked scope MOST_DEPTH)
all_levels scope list n told fits units = levels_below scope list n (suc n) told fits (omega arith) (λ m less. units m)

-- a target that is entered
target_safe : (scope : Scope) (list : EntryList) (n : ℕ) (target : Target) (place at : Place) (s : Start scope list) → Told scope → Fits scope.style list
    → ((m : ℕ) → UnitsSafe scope list m) → IsWellFormed scope.style list (target_step scope.style target at s.c)
    → OnwardSafe scope list n s.c.frames (target_entered scope place target) s (target_step scope.style target at s.c)
target_safe scope list n (Named name) place at s told fits units formed course after e safe =
    let levels = all_levels scope list n told fits units in
    let enter = body_walked scope MOST_DEPTH in
    name_safe scope list n enter (chosen_in scope enter place) name place at s told fits (levels.enters n (omega arith)) ((units n).uses (Named name)) formed
    (λ o known is. chosen_safe scope list n enter place at s o told fits (body_moved scope MOST_DEPTH told) levels is
    (subst (λ (k : Option Kind). IsWellFormed scope.style list (call_step scope.style k name at s.c)) known formed)) course after e safe
target_safe scope list n (Block body) place at s told fits units formed course after e safe =
    let levels = all_levels scope list n told fits units in
    entered_safe scope list n place at Whole (Block body) (body_walked scope MOST_DEPTH place body) s ((units n).uses (Block body)) formed
    (λ begun ended walk waits. levels.enters n (omega arith) place at Whole body s begun ended walk formed waits) course after e
    (returned scope list n at s.c.frames s after.given told fits safe)

pub target_moved : (scope : Scope) (target : Target) (place : Place) (state : State) → Told scope → WellMade scope.style state
    → Moves scope 64 (target_entered scope place target) state
target_moved scope (Named name) place state told made course after e =
    let enter = body_walked scope MOST_DEPTH in
    moved_within scope 0 64 state course after (omega arith)
    (name_moved scope enter (chosen_in scope enter place) place name state told (body_moved scope MOST_DEPTH told) made
    (chosen_moved scope enter place state told (body_moved scope MOST_DEPTH told) made) course after e)
target_moved scope (Block body) place state told made course after e =
    body_entered scope (body_walked scope MOST_DEPTH) place (Block body) body state told (body_moved scope MOST_DEPTH told) made course after e

-- what was given before stays before what later states give
record GivesMore (before after : Course) : Type 0 where
  more : List State
  given : after.given ≡ before.given ++ more

from_more : (scope : Scope) (target : Target) (place : Place) (states : List State) (course after : Course) → Told scope → All (WellMade scope.style) states
    → target_from scope place target states course ≡ Ok after → GivesMore course after
from_more scope target place [] course after told made e =
    record { more = []; given = ap (λ (c : Course). c.given) (ok_is course after e) ∙ sym (append-nil course.given) }
from_more scope target place (state ∷ states) course after told made e =
    let first = then_ok (target_entered scope place target state course) (target_from scope place target states) after e in
    let one = target_moved scope target place state told (All-head (WellMade scope.style) state states made) course first.0 first.1 in
    let rest = from_more scope target place states first.0 after told (All-tail (WellMade scope.style) state states made) first.2 in
    record {
      more = one.more ++ rest.more;
      given = rest.given ∙ ap (λ (l : List State). l ++ rest.more) one.given ∙ append_assoc course.given one.more rest.more;
    }

-- a target that is entered from one of these states
from_safe : (scope : Scope) (list : EntryList) (n : ℕ) (target : Target) (place at : Place) (s : Start scope list) (states : List State) (course after : Course)
    → Told scope → Fits scope.style list → ((m : ℕ) → UnitsSafe scope list m)
    → IsWellFormed scope.style list (target_step scope.style target at s.c) → All (WellMade scope.style) states → IsAmong s.state states
    → target_from scope place target states course ≡ Ok after → SafeAfter scope list n s.c.frames s after.given
    → SafeFor scope.style n (target_step scope.style target at s.c)
from_safe scope list n target place at s [] course after told fits units formed made among e safe = absurd among
from_safe scope list n target place at s (state ∷ states) course after told fits units formed made among e safe =
    let first = then_ok (target_entered scope place target state course) (target_from scope place target states) after e in
    let later = All-tail (WellMade scope.style) state states made in
    elim among [
      | inl is ↦
          let rest = from_more scope target place states first.0 after told later first.2 in
          target_safe scope list n target place at s told fits units formed course first.0
          (subst (λ (x : State). target_entered scope place target x course ≡ Ok first.0) (sym is) first.1)
          (safe_fewer scope list n s.c.frames s first.0.given rest.more after.given rest.given safe)
      | inr there ↦ from_safe scope list n target place at s states first.0 after told fits units formed later there first.2 safe
    ]

-- what holds of each holds of one among them
among_made : (style : Style) (state : State) (all : List State) → All (WellMade style) all → IsAmong state all → WellMade style state
among_made style state [] fine there = absurd there
among_made style state (first ∷ all) fine (inl same) = subst (WellMade style) (sym same) (All-head (WellMade style) first all fine)
among_made style state (first ∷ all) fine (inr later) = among_made style state all (All-tail (WellMade style) first all fine) later

-- a state that stands for a configuration is where a walk may start
abbrev start_at : (laws : Laws) (scope : Scope) (list : EntryList) (v : Valuation) (state : State) (enter : Config → Config) (c : Config) (below : List Value)
    → WellMade scope.style state → scope.make ≡ None → IsAt scope.style scope.cert.cond list v state enter c below → Start scope list
start_at laws scope list v state enter c below made unmade is = record {
  laws = laws;
  v = v;
  state = state;
  c = c;
  below = below;
  made = made;
  goes = is.goes;
  formed = is.formed;
  stands = is.stands;
  unmade = unmade;
}

-- a state that is reached from a start is one that its walk leaves
left_by : (scope : Scope) (list : EntryList) (s : Start scope list) (after : State) (w : Valuation) (d : Config) → Reaches scope list s.c.frames s after w d
    → IsLeft scope list s.v s.state s.c s.below after w d
left_by scope list s after w d reached =
    record { follows = reached.follows; agrees = reached.agrees; remains = reached.remains; formed = reached.formed; stands = reached.stands }

-- what is told where all is checked
all_told : (style : Style) (cert : Cert) (list : EntryList) → IsSound style → Fits style list → IsCertified style cert → IsAllChecked style cert
    → AllChecked style cert list
all_told style cert list sound fits certified checked = record {
  told = λ writes. told_by (record { style = style; cert = cert; writes = writes; make = None }) sound certified tt;
  fits = fits;
  summaries = λ k summary there. record {
    left = [];
    checked = sym (ap (λ (o : Option Summary). option_map_or (summary_checked style cert) o (Ok [])) there) ∙ checked.summaries k;
  };
  loops = λ k one there. record {
    left = [];
    checked = sym (ap (λ (o : Option Loop). option_map_or (loop_checked style cert) o (Ok [])) there) ∙ checked.loops k;
  };
}

-- the call of a command
pub call_safe : (laws : Laws) (style : Style) (cert : Cert) (list : EntryList) (states : List State) (target : Target) (place at : Place) (hints : List Hint)
    (after : Course) (n : ℕ) → IsSound style → Fits style list → IsCertified style cert → IsAllChecked style cert → All (WellMade style) states
    → call_walked style cert states target place hints ≡ Ok after → EntersSafely (everywhere style cert) list n target at states after.given
call_safe laws style cert list states target place at hints after n sound fits certified checked made e state v c below among is safe =
    let scope : Scope = everywhere style cert in
    let told : Told scope = told_by scope sound certified tt in
    let start = start_at laws scope list v state (target_step style target at) c below (among_made style state states made among) refl is in
    from_safe scope list n target place at start states (beginning hints) after
    told fits (λ m. units_safe style cert list (all_told style cert list sound fits certified checked) m None) is.enters made among e
    (λ end w d given reached. safe end w d given (left_by scope list start end w d reached))

-- a first state alone is the only one
same_one : (state first : State) → IsAmong state (first ∷ []) → state ≡ first
same_one state first (inl same) = same
same_one state first (inr none) = absurd none

-- where the machine enters a target
entry_is : (style : Style) (target : Target) (at : Place) (c : Config) → entry_step style target at Whole c ≡ target_step style target at c
entry_is style (Named name) at c = refl
entry_is style (Block body) at c = refl

waits_behind : (scope : Scope) (list : EntryList) (n : ℕ) (target : Target) (at : Place) (s : Start scope list) (states : List State) → Told scope → Fits scope.style list
    → SafeAfter scope list n s.c.frames s states → SafeAfter scope list n (entry_frames target at Whole s.c.frames) s states
waits_behind scope list n (Named name) at s states told fits safe = safe
waits_behind scope list n (Block body) at s states told fits safe = returned scope list n at s.c.frames s states told fits safe

-- a scope that makes no loops is one that makes none
unmade_units : (scope : Scope) (list : EntryList) (n : ℕ) → scope.make ≡ None
    → UnitsSafe (record { style = scope.style; cert = scope.cert; writes = scope.writes; make = None }) list n → UnitsSafe scope list n
unmade_units scope list n unmade units =
    subst (λ (m : Option Make). UnitsSafe (record { style = scope.style; cert = scope.cert; writes = scope.writes; make = m }) list n) (sym unmade) units

unmade_makes : (scope : Scope) → scope.make ≡ None → IfSome scope.make (MakesLoops scope.style)
unmade_makes scope unmade = subst (λ (m : Option Make). IfSome m (MakesLoops scope.style)) (sym unmade) tt

-- the use of a summary
pub use_safe : (laws : Laws) (scope : Scope) (list : EntryList) (k : ℕ) (summary : Summary) (first : State) (place at : Place) (course after : Course) (n : ℕ)
    → IsSound scope.style → Fits scope.style list → IsCertified scope.style scope.cert → IsAllChecked scope.style scope.cert
    → slice_get scope.cert.summaries k ≡ Some summary → WellMade scope.style first → scope.make ≡ None → summary_used scope place summary first course ≡ Ok after
    → EntersSafely scope list n summary.body at (first ∷ []) after.given
use_safe laws scope list k summary first place at course after n sound fits certified checked there made unmade e state v c below among is safe =
    let told : Told scope = told_by scope sound certified (unmade_makes scope unmade) in
    let only = same_one state first among in
    let start = start_at laws scope list v state (target_step scope.style summary.body at) c below (subst (WellMade scope.style) (sym only) made) unmade is in
    let units = unmade_units scope list n unmade
    (units_safe scope.style scope.cert list (all_told scope.style scope.cert list sound fits certified checked) n scope.writes) in
    let entry = entry_is scope.style summary.body at c in
    subst (SafeFor scope.style n) entry
    (units.uses summary.body k summary place at Whole start there (target_self summary.body) (subst (IsWellFormed scope.style list) (sym entry) is.enters) course after
    (subst (λ (x : State). summary_used scope place summary x course ≡ Ok after) (sym only) e)
    (waits_behind scope list n summary.body at start after.given told fits
    (λ end w d given reached. safe end w d given (left_by scope list start end w d reached))))

-- the use of a loop
pub loop_use_safe : (laws : Laws) (scope : Scope) (list : EntryList) (k : ℕ) (one : Loop) (first : State) (place at : Place) (course after : Course) (n : ℕ)
    → IsSound scope.style → Fits scope.style list → IsCertified scope.style scope.cert → IsAllChecked scope.style scope.cert
    → slice_get scope.cert.loops k ≡ Some one → WellMade scope.style first → scope.make ≡ None → loop_used scope place one first course ≡ Ok after
    → RepeatsSafely scope list n one at (first ∷ []) after.given
loop_use_safe laws scope list k one first place at course after n sound fits certified checked there made unmade e state v c below among is safe =
    let only = same_one state first among in
    let start = start_at laws scope list v state (loop_step scope.style one at) c below (subst (WellMade scope.style) (sym only) made) unmade is in
    let units = unmade_units scope list n unmade
    (units_safe scope.style scope.cert list (all_told scope.style scope.cert list sound fits certified checked) n scope.writes) in
    units.loops k one place at start there is.enters course after (subst (λ (x : State). loop_used scope place one x course ≡ Ok after) (sym only) e)
    (λ end w d given reached. safe end w d given (left_by scope list start end w d reached))
