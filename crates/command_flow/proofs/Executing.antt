-- EXECUTE is safe where what stands after it is.
use Rattle.std.proofs.Common.{◌≡◌, ℕ, false, List, [], ◌∷◌, Option, None, Some, Ok, refl, sym, ap, subst, ◌∙◌}
use Rattle.std.specs.List.{AllByRecursion}
use Rattle.name_table.specs.declared.names.NameId.{NameId}
use Rattle.name_table.specs.declared.style.Command.{Command}
use Rattle.name_table.specs.declared.style.Command.TheVariants.{Execute}
use Rattle.name_table.specs.declared.style.CommandAt.{CommandAt}
use Rattle.bst_meaning.specs.Config.{Config, EntryState, Visit}
use Rattle.bst_meaning.specs.Invariant.{IsWellFormed}
use Rattle.bst_meaning.specs.Machine.{call_ended, command_step, step, visited_entry, with_call}
use Rattle.sym_state.specs.State.{State}
use Rattle.sym_state.specs.WellMade.{is_variable}
use Rattle.sym_state.specs.declared.hint.Hint.{Hint}
use Rattle.cert_check.specs.Safely.{SafeFor}
use Rattle.command_flow.specs.declared.between.Between.{Between}
use Rattle.command_flow.specs.Commands.{called, started_between}
use Rattle.command_flow.specs.declared.between.Parts.{Parts}
use Rattle.command_flow.proofs.Calling.{MayCall, Run, call_safe, entered_formed, shown_known}
use Rattle.command_flow.proofs.Ending.{first_shown}
use Rattle.command_flow.proofs.Known.{Known, known_globals}
use Rattle.command_flow.proofs.Shaped.{IsGood}
use Rattle.command_flow.proofs.Starting.{Usable, between_made, between_stands}
use Rattle.command_flow.proofs.Steps.{Quiet, command_begins, earlier, entered, frameless, quiet_fine}

-- what stands between commands holds of a configuration with these commands left
pub record IsBetween (r : Run) (between : Between) (left : List CommandAt) (c : Config) : Type 0 where
  pub quiet : Quiet c
  pub unvisited : c.visit ≡ None
  pub left_is : c.commands ≡ left
  pub formed : IsWellFormed r.style r.list c
  pub globals : Known r.style r.list 0 between.globals c.globals None
  pub entries : AllByRecursion (λ e. Known r.style r.list 0 between.entry [] (Some e)) c.entries

pub execute_safe : (r : Run) (n : ℕ) (at : CommandAt) (name : NameId) (left : List CommandAt) (parts : Parts) (between : Between) (c : Config) (hints : List Hint)
    → at.command ≡ Execute name → IsGood r.style between → Usable r.style (is_variable false) parts.after → IsBetween r between (at ∷ left) c
    → called r.style r.cert name at.place (started_between r.style r.cert.cond between) (parts.after ∷ []) parts.hints ≡ Ok hints
    → ((d : Config) → IsBetween r (record { globals = parts.after; entry = between.entry }) left d → SafeFor r.style n d)
    → SafeFor r.style n c
execute_safe r n at name left parts between c hints is good after here e safe =
    let state : State = started_between r.style r.cert.cond between in
    let begins : step r.style c ≡ with_call name at.place c =
    command_begins r.style c at left here.quiet here.left_is ∙ ap (λ (k : Command). command_step k at.place left c) is in
    let begun : IsWellFormed r.style r.list (with_call name at.place c) = subst (IsWellFormed r.style r.list) begins (r.formed c here.formed) in
    let starts = between_stands r.style r.cert.cond r.list 0 between.globals (entered at.place c) good.globals r.fits r.meets
    (entered_formed r name at.place c begun) here.quiet.empty here.globals in
    let may : MayCall r name at.place at left starts.assignment state c = record {
      goes = here.quiet.goes;
      frameless = here.quiet.frameless;
      left = here.left_is;
      begun = begun;
      made = between_made r.style r.cert.cond between.globals r.certified.fields good.globals;
      stands = starts.stands;
    } in
    earlier r.style n c (with_call name at.place c) (quiet_fine r.style c here.quiet.goes here.quiet.quiet) begins
    (call_safe r n name at.place at left starts.assignment state c (parts.after ∷ []) parts.hints hints may e (λ end w d ended formed.
    let none : d.visit ≡ None = ended.remains.visit ∙ here.unvisited in
    let last : Config = record d { frames = []; running = false; commands = left } in
    let ends : call_ended d.visit left (frameless d) ≡ last = ap (λ (o : Option Visit). call_ended o left (frameless d)) none in
    let shown = first_shown r.cert.cond at.place end parts.after [] ended.ends.hints ended.ends.left ended.ends.shown in
    let position : w.position ≡ 0 = ended.agrees.position ∙ starts.position in
    subst (SafeFor r.style n) (sym ends) (safe last (record {
      quiet = record { goes = ended.remains.goes; quiet = refl; frameless = refl; empty = ended.empty };
      unvisited = none;
      left_is = refl;
      formed = subst (IsWellFormed r.style r.list) ends formed;
      globals = known_globals r.style r.list 0 parts.after d.globals (visited_entry d) None after.about
          (shown_known r 0 w end d parts.after ended.ends.hints shown.between ended.stands position shown.first);
      entries = subst (λ (es : List EntryState). AllByRecursion (λ x. Known r.style r.list 0 between.entry [] (Some x)) es) (sym (ended.remains.entries refl)) here.entries;
    }))))
