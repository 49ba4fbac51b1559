-- A certificate that checks is one of a safe style.
use Rattle.std.proofs.Common.{◌≡◌, ℕ, zero, suc, Bool, true, false, cond, nat_eq, List, [], ◌∷◌, slice_get, Option, None, Some, Ok, refl, ap, subst, ◌∙◌}
use Rattle.std.specs.Prelude.{filter, find}
use Rattle.std.specs.List.{AllByRecursion}
use Rattle.std.specs.Ordering.{nat_cmp, is_le}
use Rattle.std.specs.Cmp.Lexicographic.{slice_cmp}
use Rattle.std.specs.Option.{ForSome, option_map_or}
use Rattle.bv_base.specs.Answers.{then_do}
use Rattle.bv_base.specs.declared.place.Place.{Place}
use Rattle.bv_base.proofs.ThenLemmas.{ok_is, then_ok, where_ok}
use Rattle.name_table.specs.Sound.{IsSound}
use Rattle.name_table.specs.declared.names.NameId.{NameId}
use Rattle.name_table.specs.declared.style.Command.{Command}
use Rattle.name_table.specs.declared.style.Command.TheVariants.{Execute, Iterate, Read, Reverse, Sort}
use Rattle.name_table.specs.declared.style.CommandAt.{CommandAt}
use Rattle.name_table.specs.declared.style.Style.{Style}
use Rattle.bst_meaning.specs.Config.{Config, EntryState, is_step, opening}
use Rattle.bst_meaning.specs.Entries.{Fits}
use Rattle.bst_meaning.specs.Invariant.{IsWellFormed}
use Rattle.bst_meaning.specs.Machine.{command_step, step, steps, visit_of, visit_step}
use Rattle.bst_meaning.specs.Safe.{IsFine, Safe}
use Rattle.bst_meaning.specs.Sorting.{inserted, sort_key, sorted}
use Rattle.bst_meaning.specs.EntryLists.{EntryList}
use Rattle.cert_format.specs.declared.cert.Cert.{Cert}
use Rattle.cert_format.specs.declared.cert.CommandPart.{CommandPart}
use Rattle.cert_format.specs.declared.cert.Loop.{Loop}
use Rattle.cert_format.specs.declared.cert.Summary.{Summary}
use Rattle.sym_state.specs.Positions.{AtStart, AtNext, AtEnd}
use Rattle.sym_state.specs.Starting.{started, symbols_of}
use Rattle.sym_state.specs.Showing.{piece_by}
use Rattle.sym_state.specs.declared.hint.Hint.{Hint}
use Rattle.cert_check.proofs.Inverted.{placed_ok}
use Rattle.cert_check.specs.Certified.{IsCertified, IsCommandOf}
use Rattle.cert_check.specs.Courses.{Course, placed}
use Rattle.cert_check.specs.Laws.{CallsAreSafe}
use Rattle.cert_check.specs.Safely.{IsAllChecked, SafeFor}
use Rattle.cert_check.specs.Units.{all_end, beginning, body_of, loop_checked, none_left, own_walked, place_of, summary_checked, turned_from}
use Rattle.cert_check.specs.Walks.{Scope}
use Rattle.command_flow.specs.Between.{opened, piece_moved}
use Rattle.command_flow.specs.declared.between.Between.{Between}
use Rattle.command_flow.specs.Checks.{checked, commands_checked, each_checked, loops_checked, summaries_checked}
use Rattle.command_flow.specs.Commands.{Left, Onward, called, command_checked, command_taken, executed, is_shaped, parts_of, started_between, started_visit, visited}
use Rattle.command_flow.specs.declared.between.Parts.{Parts}
use Rattle.command_flow.proofs.Calling.{Run}
use Rattle.command_flow.proofs.Executing.{IsBetween, execute_safe}
use Rattle.command_flow.proofs.Known.{Known}
use Rattle.command_flow.proofs.Openings.{entries_known, entrys_of_kind, globals_known}
use Rattle.command_flow.proofs.Shaped.{IsGood, execute_good, execute_shaped, found_has, opened_good, visit_good, visit_shaped, visited_good}
use Rattle.command_flow.proofs.Steps.{command_begins, earlier, nothing_left, quiet_fine, rests}
use Rattle.command_flow.proofs.Visiting.{visit_safe}

-- the commands that take steps
abbrev taken : List CommandAt → List CommandAt
taken commands = filter (λ (at : CommandAt). is_step at.command) commands

taken_first : (at : CommandAt) (commands : List CommandAt) → is_step at.command ≡ true → taken (at ∷ commands) ≡ at ∷ taken commands
taken_first at commands is = ap (λ (t : Bool). cond t (at ∷ taken commands) (taken commands)) is

taken_rest : (at : CommandAt) (commands : List CommandAt) → is_step at.command ≡ false → taken (at ∷ commands) ≡ taken commands
taken_rest at commands is = ap (λ (t : Bool). cond t (at ∷ taken commands) (taken commands)) is

-- a configuration between commands, where others say which commands are left
left_as : (r : Run) (between : Between) (left others : List CommandAt) (c : Config) → left ≡ others → IsBetween r between left c → IsBetween r between others c
left_as r between left others c same here = record {
  quiet = here.quiet;
  unvisited = here.unvisited;
  left_is = here.left_is ∙ same;
  formed = here.formed;
  globals = here.globals;
  entries = here.entries;
}

-- what stands between commands may start states, and is safe
abbrev GoesSafely : Run → ℕ → List CommandAt → Between → Type 0
GoesSafely r n left between = (d : Config) → IsGood r.style between → IsBetween r between left d → SafeFor r.style n d

-- EXECUTE
execute_taken : (r : Run) (n : ℕ) (at : CommandAt) (name : NameId) (left : List CommandAt) (part : Option CommandPart) (between after : Between) (c : Config)
    → at.command ≡ Execute name → ForSome part (IsCommandOf r.style) → option_map_or (is_shaped r.style (Execute name)) part true ≡ true
    → IsGood r.style between → IsBetween r between (at ∷ left) c → executed r.style r.cert name at.place (parts_of part) between ≡ Ok after
    → GoesSafely r n left after → SafeFor r.style n c
execute_taken r n at name left part between after c is has shape good here e safe =
    let parts : Parts = parts_of part in
    let next : Between = record { globals = parts.after; entry = between.entry } in
    let done = then_ok (called r.style r.cert name at.place (started_between r.style r.cert.cond between) (parts.after ∷ []) parts.hints) (λ hints. let o : Onward = Ok next in o) after e in
    let usable = execute_good r.style part has (execute_shaped r.style part shape) in
    execute_safe r n at name left parts between c done.0 is good usable here done.1 (λ d stands.
    subst (GoesSafely r n left) (ok_is next after done.2) safe d (record { globals = usable; entry = good.entry; still = good.still }) stands)

-- ITERATE and REVERSE
visit_taken : (r : Run) (n : ℕ) (at : CommandAt) (name : NameId) (backwards : Bool) (left : List CommandAt) (part : Option CommandPart) (between after : Between) (c : Config)
    → ((d : Config) → command_step at.command at.place left d ≡ visit_step name at.place left (visit_of backwards d.visit) d)
    → ForSome part (IsCommandOf r.style) → option_map_or (is_shaped r.style (Iterate name)) part true ≡ true
    → IsGood r.style between → IsBetween r between (at ∷ left) c → visited r.style r.cert name at.place (parts_of part) between ≡ Ok after
    → GoesSafely r n left after → SafeFor r.style n c
visit_taken r n at name backwards left part between after c is has shape good here e safe =
    let parts : Parts = parts_of part in
    let next : Between = record { globals = piece_moved AtEnd parts.visit; entry = parts.keeps } in
    let first = piece_by r.cert.cond (started_between r.style r.cert.cond between) (piece_moved AtStart parts.visit) 0 parts.hints in
    let visits : List Hint → Left = called r.style r.cert name at.place (started_visit r.style r.cert.cond parts.visit between.entry)
    (piece_moved AtNext parts.visit ∷ (parts.keeps ∷ [])) in
    let began = then_ok (placed at.place first) (λ (hints : List Hint). then_do (visits hints) (λ left. let o : Onward = Ok next in o)) after e in
    let done = then_ok (visits began.0) (λ hints. let o : Onward = Ok next in o) after began.2 in
    let fits = visit_good r.style part has (visit_shaped r.style part shape) in
    visit_safe r n at name backwards left parts between began.0 done.0 c is good fits here (placed_ok at.place first began.0 began.1) done.1 (λ d stands.
    subst (GoesSafely r n left) (ok_is next after done.2) safe d (visited_good r.style parts fits) stands)

-- a command that changes nothing but which commands are left and the order of the entries
passed : (r : Run) (n : ℕ) (at : CommandAt) (left : List CommandAt) (between : Between) (c : Config) (entries : List EntryState) → IsGood r.style between
    → IsBetween r between (at ∷ left) c → command_step at.command at.place left c ≡ record c { commands = left; entries = entries }
    → AllByRecursion (λ e. Known r.style r.list 0 between.entry [] (Some e)) entries
    → GoesSafely r n left between → SafeFor r.style n c
passed r n at left between c entries good here is known safe =
    let d : Config = record c { commands = left; entries = entries } in
    let step_is : step r.style c ≡ d = command_begins r.style c at left here.quiet here.left_is ∙ is in
    earlier r.style n c d (quiet_fine r.style c here.quiet.goes here.quiet.quiet) step_is (safe d good (record {
      quiet = record { goes = here.quiet.goes; quiet = here.quiet.quiet; frameless = here.quiet.frameless; empty = here.quiet.empty };
      unvisited = here.unvisited;
      left_is = refl;
      formed = subst (IsWellFormed r.style r.list) step_is (r.formed c here.formed);
      globals = here.globals;
      entries = known;
    }))

-- what each entry has, each has where they are sorted
inserted_have : (P : EntryState → Type 0) (e : EntryState) (entries : List EntryState) → P e → AllByRecursion P entries → AllByRecursion P (inserted e entries)
inserted_have P e [] h all = (h, tt)
inserted_have P e (first ∷ entries) h all =
    elim (is_le (slice_cmp nat_cmp (sort_key e) (sort_key first))) as (λ (t : Bool). AllByRecursion P (cond t (e ∷ (first ∷ entries)) (first ∷ inserted e entries))) [
      | true ↦ (h, all)
      | false ↦ (all.0, inserted_have P e entries h all.1)
    ]

sorted_have : (P : EntryState → Type 0) (entries : List EntryState) → AllByRecursion P entries → AllByRecursion P (sorted entries)
sorted_have P [] all = tt
sorted_have P (e ∷ entries) all = inserted_have P e (sorted entries) all.0 (sorted_have P entries all.1)

-- a command is safe where what stands after it is
one_safe : (r : Run) (n : ℕ) (at : CommandAt) (command : Command) (commands : List CommandAt) (part : Option CommandPart) (between after : Between) (c : Config)
    → at.command ≡ command → ForSome part (IsCommandOf r.style) → option_map_or (is_shaped r.style command) part true ≡ true
    → IsGood r.style between → IsBetween r between (taken (at ∷ commands)) c
    → command_checked r.style r.cert command at.place (parts_of part) between ≡ Ok after
    → GoesSafely r n (taken commands) after → SafeFor r.style n c
one_safe r n at (Execute name) commands part between after c is has shape good here e safe =
    execute_taken r n at name (taken commands) part between after c is has shape good
    (left_as r between (taken (at ∷ commands)) (at ∷ taken commands) c (taken_first at commands (ap is_step is)) here) e safe
one_safe r n at (Iterate name) commands part between after c is has shape good here e safe =
    visit_taken r n at name false (taken commands) part between after c (λ d. ap (λ (k : Command). command_step k at.place (taken commands) d) is) has shape good
    (left_as r between (taken (at ∷ commands)) (at ∷ taken commands) c (taken_first at commands (ap is_step is)) here) e safe
one_safe r n at (Reverse name) commands part between after c is has shape good here e safe =
    visit_taken r n at name true (taken commands) part between after c (λ d. ap (λ (k : Command). command_step k at.place (taken commands) d) is) has shape good
    (left_as r between (taken (at ∷ commands)) (at ∷ taken commands) c (taken_first at commands (ap is_step is)) here) e safe
one_safe r n at Read commands part between after c is has shape good here e safe =
    let first = left_as r between (taken (at ∷ commands)) (at ∷ taken commands) c (taken_first at commands (ap is_step is)) here in
    passed r n at (taken commands) between c c.entries good first (ap (λ (k : Command). command_step k at.place (taken commands) c) is) first.entries
    (subst (GoesSafely r n (taken commands)) (ok_is between after e) safe)
one_safe r n at Sort commands part between after c is has shape good here e safe =
    let first = left_as r between (taken (at ∷ commands)) (at ∷ taken commands) c (taken_first at commands (ap is_step is)) here in
    passed r n at (taken commands) between c (sorted c.entries) good first (ap (λ (k : Command). command_step k at.place (taken commands) c) is)
    (sorted_have (λ x. Known r.style r.list 0 between.entry [] (Some x)) c.entries first.entries)
    (subst (GoesSafely r n (taken commands)) (ok_is between after e) safe)
one_safe r n at _ commands part between after c is has shape good here e safe =
    subst (GoesSafely r n (taken commands)) (ok_is between after e) safe c good
    (left_as r between (taken (at ∷ commands)) (taken commands) c (taken_rest at commands (ap is_step is)) here)

-- the commands that are left are safe
commands_safe : (r : Run) (n : ℕ) (commands : List CommandAt) (index : ℕ) (between : Between) (c : Config) → IsGood r.style between
    → IsBetween r between (taken commands) c → commands_checked r.style r.cert index between commands ≡ Ok [] → SafeFor r.style n c
commands_safe r n [] index between c good here e =
    rests r.style n c (quiet_fine r.style c here.quiet.goes here.quiet.quiet) (nothing_left r.style c here.quiet here.left_is)
commands_safe r n (at ∷ commands) index between c good here e =
    let part : Option CommandPart = find (λ (p : CommandPart). nat_eq p.index index) r.cert.commands in
    let rule : Onward = command_checked r.style r.cert at.command at.place (parts_of part) between in
    let first = then_ok (command_taken r.style r.cert at part between) (λ (after : Between). commands_checked r.style r.cert (suc index) after commands) [] e in
    let fits = where_ok (option_map_or (is_shaped r.style at.command) part true) rule _ first.0 first.1 in
    one_safe r n at at.command commands part between first.0 c refl (found_has (IsCommandOf r.style) (λ (p : CommandPart). nat_eq p.index index) r.cert.commands r.certified.commands)
    fits.0 good here fits.1 (λ d next stands. commands_safe r n commands (suc index) first.0 d next stands first.2)

-- a summary that is checked leaves no hint
none_kept : (place : Place) (hints left : List Hint) → none_left place hints ≡ Ok left → left ≡ []
none_kept place [] left e = ok_is [] left e
none_kept place (hint ∷ hints) left e = absurd (cc)

checked_to_end : (style : Style) (cert : Cert) (summary : Summary) (left : List Hint) → summary_checked style cert summary ≡ Ok left → left ≡ []
checked_to_end style cert summary left e =
    let scope : Scope = record { style = style; cert = cert; writes = Some summary.writes; make = None } in
    let body = body_of style summary.body in
    let place = place_of style body in
    let ended : Course → Left = λ course. placed place (all_end cert.cond (symbols_of summary.pre) summary.posts course.given course.hints) in
    let walk = then_ok (own_walked scope place summary.body body (started style cert.cond (summary.pre ∷ []) summary.whole summary.entry) (beginning summary.hints))
    (λ (course : Course). then_do (ended course) (none_left place)) left e in
    let last = then_ok (ended walk.0) (none_left place) left walk.2 in
    none_kept place last.0 left last.2

turned_to_end : (style : Style) (cert : Cert) (one : Loop) (left : List Hint) → loop_checked style cert one ≡ Ok left → left ≡ []
turned_to_end style cert one left e =
    let scope : Scope = record { style = style; cert = cert; writes = Some one.writes; make = None } in
    let place = place_of style (body_of style one.body) in
    let walk = then_ok (turned_from scope place one one.cases (beginning one.hints)) (λ (course : Course). none_left place course.hints) left e in
    none_kept place walk.0.hints left walk.2

-- every unit is checked where they are in order, and none leaves a hint
all_checked : {X : Type 0} (check : X → Left) (units : List X) (k : ℕ) (left : List Hint)
    → ((unit : X) (after : List Hint) → check unit ≡ Ok after → after ≡ []) → each_checked check units ≡ Ok left
    → option_map_or check (slice_get units k) (let none : Left = Ok [] in none) ≡ Ok []
all_checked check [] k left ends e = refl
all_checked check (unit ∷ units) zero left ends e =
    let first = then_ok (check unit) (λ hints. each_checked check units) left e in
    first.1 ∙ ap (λ (hints : List Hint). let o : Left = Ok hints in o) (ends unit first.0 first.1)
all_checked check (unit ∷ units) (suc k) left ends e =
    all_checked check units k left ends (then_ok (check unit) (λ hints. each_checked check units) left e).2

fine_after : (style : Style) (n : ℕ) (c : Config) → SafeFor style n c → IsFine style (steps style n c)
fine_after style zero c safe = safe
fine_after style (suc n) c safe = fine_after style n (step style c) safe.1

-- what stands before the first command holds where a run opens
opens : (r : Run) → IsWellFormed r.style r.list (opening r.style r.list) → IsBetween r (opened r.style) (taken r.style.commands) (opening r.style r.list)
opens r formed = record {
  quiet = record { goes = refl; quiet = refl; frameless = refl; empty = refl };
  unvisited = refl;
  left_is = refl;
  formed = formed;
  globals = globals_known r.style r.list None formed.globals.values;
  entries = entries_known r.style r.list 0 r.list.entries (entrys_of_kind r.style);
}

-- the laws on which this stands: those of the machine's steps, and that on checked units
pub record Laws : Type 0 where
  pub opening : (style : Style) (list : EntryList) → IsSound style → Fits style list → IsWellFormed style list (opening style list)
  pub formed : (style : Style) (list : EntryList) (c : Config) → IsSound style → Fits style list → IsWellFormed style list c → IsWellFormed style list (step style c)
  pub calls : CallsAreSafe

-- a certificate that checks is one of a safe style
pub checked_is_safe : Laws → (style : Style) (cert : Cert) → IsSound style → IsCertified style cert → checked style cert ≡ Ok [] → Safe style cert.cond
checked_is_safe laws style cert is_sound certified e list fits meets n =
    let first = then_ok (summaries_checked style cert cert.summaries) (λ hints. then_do (loops_checked style cert cert.loops) (λ hints. commands_checked style cert 0 (opened style) style.commands))
    [] e in
    let second = then_ok (loops_checked style cert cert.loops) (λ hints. commands_checked style cert 0 (opened style) style.commands) [] first.2 in
    let all : IsAllChecked style cert = record {
      summaries = λ k. all_checked (summary_checked style cert) cert.summaries k first.0 (checked_to_end style cert) first.1;
      loops = λ k. all_checked (loop_checked style cert) cert.loops k second.0 (turned_to_end style cert) second.1;
    } in
    let formed = laws.opening style list is_sound fits in
    let r : Run = record {
      style = style;
      cert = cert;
      list = list;
      is_sound = is_sound;
      certified = certified;
      fits = fits;
      meets = meets;
      formed = λ c fine. laws.formed style list c is_sound fits fine;
      calls = λ states target place at hints after m made walked. laws.calls style cert list states target place at hints after m is_sound fits certified all made walked;
    } in
    fine_after style n (opening style list)
    (commands_safe r n style.commands 0 (opened style) (opening style list) (opened_good style formed.globals.values (entrys_of_kind style)) (opens r formed) second.2)
