-- The use of a summary whose own check is Ok is safe, and all units together are.
use Rattle.std.proofs.Common.{◌≡◌, ℕ, zero, suc, ◌<◌, true, List, length, map, slice_get, Option, Some, Ok, sym, subst, arith, None}
use Rattle.std.specs.List.{list_all}
use Rattle.bv_base.specs.Answers.{then_do}
use Rattle.bv_base.specs.declared.place.Place.{Place}
use Rattle.bv_base.proofs.ThenLemmas.{then_ok, where_ok}
use Rattle.name_table.specs.declared.names.NameId.{NameId}
use Rattle.name_table.specs.declared.style.BodyId.{BodyId}
use Rattle.name_table.specs.declared.style.Style.{Style}
use Rattle.bst_meaning.specs.Config.{Part}
use Rattle.bst_meaning.specs.Entries.{Fits}
use Rattle.bst_meaning.specs.Invariant.{IsWellFormed}
use Rattle.bst_meaning.specs.EntryLists.{EntryList}
use Rattle.bst_meaning.specs.declared.value.Target.{Target}
use Rattle.bst_meaning.specs.declared.value.Target.TheVariants.{Named, Block}
use Rattle.cert_format.specs.declared.cert.Cert.{Cert}
use Rattle.cert_format.specs.declared.cert.Loop.{Loop}
use Rattle.cert_format.specs.declared.cert.Summary.{Summary}
use Rattle.sym_state.specs.Entailing.{match_of}
use Rattle.sym_state.specs.Renaming.{through}
use Rattle.sym_state.specs.Starting.{symbols_of}
use Rattle.sym_state.specs.declared.hint.Hint.{Hint}
use Rattle.cert_check.specs.declared.limits.TheConstants.{MOST_DEPTH}
use Rattle.cert_check.specs.Certified.{IsPostOf, IsSummaryOf}
use Rattle.cert_check.specs.Courses.{Course, counts, gives_all, placed}
use Rattle.cert_check.specs.Units.{all_end, beginning, body_of, none_left, own_walked, place_of, summary_checked}
use Rattle.cert_check.specs.Uses.{comes_by, left_state, passage}
use Rattle.cert_check.specs.Walks.{Scope, leaves, may_write}
use Rattle.cert_check.proofs.Ending.{each_ends, left_safe}
use Rattle.cert_check.proofs.Entering.{OnwardSafe, UseSafe, entry_frames, entry_step}
use Rattle.cert_check.proofs.Exactly.{target_same}
use Rattle.cert_check.proofs.Inverted.{placed_ok}
use Rattle.cert_check.proofs.Keeping.{Told, element}
use Rattle.cert_check.proofs.Levels.{LoopSafe, UnitsSafe}
use Rattle.cert_check.proofs.OwnEnd.{EndOf, ended_inside}
use Rattle.cert_check.proofs.OwnStart.{Begun, Used, first_begun, own_scope, own_start, own_state}
use Rattle.cert_check.proofs.Passing.{summary_passed}
use Rattle.cert_check.proofs.Safety.{SafeAfter, SafeFor, Start}
use Rattle.cert_check.proofs.LoopTurns.{IsLoopChecked, loop_safe}
use Rattle.cert_check.proofs.Walking.{bodies_safe, own_safe}

-- the own check of a summary
pub record IsChecked (style : Style) (cert : Cert) (summary : Summary) : Type 0 where
  pub left : List Hint
  pub checked : summary_checked style cert summary ≡ Ok left

-- the walk of a unit's own check is safe, whatever it may write
abbrev pub OwnSafe : Scope → EntryList → ℕ → Target → Type 0
OwnSafe scope list n target = (writes : List NameId) (place at : Place) (part : Part) (s : Start (own_scope scope writes) list)
    → IsWellFormed scope.style list (entry_step scope.style target at part s.c)
    → OnwardSafe (own_scope scope writes) list n (entry_frames target at part s.c.frames)
    (own_walked (own_scope scope writes) place target (body_of scope.style target)) s (entry_step scope.style target at part s.c)

-- a summary is used at a start
abbrev summary_use : (scope : Scope) (list : EntryList) (summary : Summary) (s : Start scope list) (hints left : List Hint) → Told scope
    → IsSummaryOf scope.style summary → comes_by (passage summary) scope.cert.cond summary.pre s.state hints ≡ Ok left → Used scope list
summary_use scope list summary s hints left told is came = record {
  unit = passage summary;
  pre = summary.pre;
  posts = summary.posts;
  kept = symbols_of summary.pre;
  is = summary_passed scope.style summary is;
  small = told.fields;
  s = s;
  hints = hints;
  left = left;
  came = came;
}

-- a summary that is checked is used
used_safe : (scope : Scope) (list : EntryList) (n : ℕ) (place at : Place) (part : Part) (summary : Summary) (s : Start scope list) (hints left : List Hint)
    (course after : Course) (told : Told scope) (is : IsSummaryOf scope.style summary)
    (came : comes_by (passage summary) scope.cert.cond summary.pre s.state hints ≡ Ok left) → IsChecked scope.style scope.cert summary
    → OwnSafe scope list n summary.body → list_all (may_write scope.writes) summary.writes ≡ true
    → IsWellFormed scope.style list (entry_step scope.style summary.body at part s.c)
    → gives_all place (map (left_state scope.style scope.cert.cond (passage summary) summary.pre (symbols_of summary.pre) s.state) summary.posts) course ≡ Ok after
    → SafeAfter scope list n (entry_frames summary.body at part s.c.frames) s after.given → SafeFor scope.style n (entry_step scope.style summary.body at part s.c)
used_safe scope list n place at part summary s hints left course after told is came checked own may formed e safe =
    let u : Used scope list = summary_use scope list summary s hints left told is came in
    let begun : Begun scope list u = first_begun scope list u in
    let body = body_of scope.style summary.body in
    let here = place_of scope.style body in
    let frames = entry_frames summary.body at part s.c.frames in
    let walk = own_walked (own_scope scope summary.writes) here summary.body body (own_state scope (passage summary) summary.pre) (beginning summary.hints) in
    let walked = then_ok walk
    (λ (c : Course). then_do (placed here (all_end scope.cert.cond u.kept summary.posts c.given c.hints)) (none_left here)) checked.left checked.checked in
    let ended = then_ok (placed here (all_end scope.cert.cond u.kept summary.posts walked.0.given walked.0.hints)) (none_left here) checked.left walked.2 in
    let all = placed_ok here (all_end scope.cert.cond u.kept summary.posts walked.0.given walked.0.hints) ended.0 ended.1 in
    own summary.writes here at part (own_start scope list u begun) formed (beginning summary.hints) walked.0 walked.1
    (λ end w d among reached.
    let found = each_ends scope.cert.cond u.kept summary.posts walked.0.given end walked.0.hints ended.0 all among in
    let last : EndOf scope list u = record {
      post = found.post;
      v = through (match_of end found.post u.kept) w;
      d = d;
      inside = ended_inside scope list u begun frames summary.posts end w d reached found;
      is = element (IsPostOf scope.style (passage summary) u.kept) summary.posts found.k found.post u.is.each found.there;
    } in
    left_safe scope list n place frames u course after may e safe found.k last found.there reached.remains.waiting)

-- every use of a checked certificate's summary of a target is safe where the target's own walk is
use_by : (scope : Scope) (list : EntryList) (n : ℕ) (target : Target) → Told scope
    → ((k : ℕ) (summary : Summary) → slice_get scope.cert.summaries k ≡ Some summary → IsChecked scope.style scope.cert summary)
    → OwnSafe scope list n target → UseSafe scope list n target
use_by scope list n target told checked own k summary place at part s there is formed course after e safe =
    let same = target_same summary.body target is in
    let shown = comes_by (passage summary) scope.cert.cond summary.pre s.state course.hints in
    let mid = then_ok (placed place shown) (λ hints. leaves scope place (passage summary) summary.pre summary.posts (symbols_of summary.pre) s.state (record course { hints = hints })) after e in
    let left : Course = record course { hints = mid.0 } in
    let may = where_ok (list_all (may_write scope.writes) summary.writes) _ _ after mid.2 in
    let counted = then_ok (counts (length summary.writes) place left) _ after may.1 in
    subst (λ (t : Target). SafeFor scope.style n (entry_step scope.style t at part s.c)) same
    (used_safe scope list n place at part summary s course.hints mid.0 counted.0 after told
    (element (IsSummaryOf scope.style) scope.cert.summaries k summary told.summaries there) (placed_ok place shown mid.0 mid.1) (checked k summary there)
    (subst (λ (t : Target). OwnSafe scope list n t) (sym same) own) may.0
    (subst (λ (t : Target). IsWellFormed scope.style list (entry_step scope.style t at part s.c)) (sym same) formed) counted.2
    (subst (λ (t : Target). SafeAfter scope list n (entry_frames t at part s.c.frames) s after.given) (sym same) safe))

-- what is told of a certificate whose units are all checked
pub record AllChecked (style : Style) (cert : Cert) (list : EntryList) : Type 0 where
  pub told : (writes : Option (List NameId)) → Told (record { style = style; cert = cert; writes = writes; make = None })
  pub fits : Fits style list
  pub summaries : (k : ℕ) (summary : Summary) → slice_get cert.summaries k ≡ Some summary → IsChecked style cert summary
  pub loops : (k : ℕ) (one : Loop) → slice_get cert.loops k ≡ Some one → IsLoopChecked style cert one

-- all units are used safely for so many steps, whatever may be written
abbrev AllSafe : Style → Cert → EntryList → ℕ → Type 0
AllSafe style cert list n = (writes : Option (List NameId)) → UnitsSafe (record { style = style; cert = cert; writes = writes; make = None }) list n

module _ (style : Style) (cert : Cert) (list : EntryList) (all : AllChecked style cert list) where
  abbrev writing : Option (List NameId) → Scope
  writing writes = record { style = style; cert = cert; writes = writes; make = None }

  -- blocks first: their own check needs units for fewer steps alone
  block_uses : (n : ℕ) → ((m : ℕ) → m < n → AllSafe style cert list m) → (writes : Option (List NameId)) (body : BodyId) → UseSafe (writing writes) list n (Block body)
  block_uses n units writes body =
      use_by (writing writes) list n (Block body) (all.told writes) all.summaries (λ own place at part s formed course after e safe.
      bodies_safe (writing (Some own)) list MOST_DEPTH n (all.told (Some own)) all.fits (λ m less. units m less (Some own)) place at part body s course after e formed safe)

  -- then loops
  loop_uses : (n : ℕ) → ((m : ℕ) → m < n → AllSafe style cert list m) → (writes : Option (List NameId)) → LoopSafe (writing writes) list n
  loop_uses n units writes =
      loop_safe (writing writes) list n (all.told writes) (λ own. all.told (Some own)) all.fits all.loops (λ own m less. units m less (Some own))
      (λ own body. block_uses n units (Some own) body)

  -- and then names
  name_uses : (n : ℕ) → ((m : ℕ) → m < n → AllSafe style cert list m) → (writes : Option (List NameId)) (name : NameId) → UseSafe (writing writes) list n (Named name)
  name_uses n units writes name =
      use_by (writing writes) list n (Named name) (all.told writes) all.summaries (λ own place at part s formed.
      own_safe (writing (Some own)) list n (Named name) place at part s (all.told (Some own)) all.fits (record {
        enters = λ m few. bodies_safe (writing (Some own)) list MOST_DEPTH m (all.told (Some own)) all.fits (λ k less. units k (omega (arith, few, less)) (Some own));
        blocks = λ m few body. block_uses m (λ k less. units k (omega (arith, few, less))) (Some own) body;
        loops = λ m few. loop_uses m (λ k less. units k (omega (arith, few, less))) (Some own);
        uses = λ m less. (units m less (Some own)).uses;
      }) formed)

  units_next : (n : ℕ) → ((m : ℕ) → m < n → AllSafe style cert list m) → AllSafe style cert list n
  units_next n units writes = record { uses = λ target. by_target target; loops = loop_uses n units writes }
    where
      by_target : (target : Target) → UseSafe (writing writes) list n target
      by_target (Named name) = name_uses n units writes name
      by_target (Block body) = block_uses n units writes body

  units_below : (n m : ℕ) → m < n → AllSafe style cert list m
  units_below zero m less = absurd (omega (arith, less))
  units_below (suc n) m less = units_next m (λ k few. units_below n k (omega (arith, less, few)))

  -- every use of a unit is safe for ever
  pub units_safe : (n : ℕ) (writes : Option (List NameId)) → UnitsSafe (writing writes) list n
  units_safe n writes = units_next n (units_below n) writes
