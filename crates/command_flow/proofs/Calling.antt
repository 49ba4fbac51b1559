-- A command's call that is checked is safe where what comes after it is.
use Rattle.std.proofs.Common.{◌≡◌, ℕ, List, [], ◌∷◌, ◌++◌, None, Ok, refl, ap, subst, ◌∙◌, inl}
use Rattle.std.specs.List.{All}
use Rattle.std.proofs.lemmas.List.Elements.{All-cons, All-nil}
use Rattle.bv_base.specs.declared.place.Place.{Place}
use Rattle.name_table.specs.Sound.{IsSound}
use Rattle.name_table.specs.declared.names.NameId.{NameId}
use Rattle.name_table.specs.declared.style.CommandAt.{CommandAt}
use Rattle.name_table.specs.declared.style.Style.{Style}
use Rattle.bst_meaning.specs.Condition.{Meets}
use Rattle.bst_meaning.specs.Config.{Config}
use Rattle.bst_meaning.specs.Entries.{Fits}
use Rattle.bst_meaning.specs.Invariant.{IsWellFormed}
use Rattle.bst_meaning.specs.Machine.{call_ended, step, visited_entry, with_call}
use Rattle.bst_meaning.specs.EntryLists.{EntryList}
use Rattle.bst_meaning.specs.declared.value.Target.{Target}
use Rattle.bst_meaning.specs.declared.value.Target.TheVariants.{Named}
use Rattle.cert_format.specs.declared.cert.Cert.{Cert}
use Rattle.sym_state.specs.State.{State}
use Rattle.sym_state.specs.Entailing.{match_of}
use Rattle.sym_state.specs.Renaming.{through}
use Rattle.sym_state.specs.Showing.{piece_by}
use Rattle.sym_state.specs.Stands.{Stands, values_of}
use Rattle.sym_state.specs.Symbols.{Agrees, Valuation}
use Rattle.sym_state.specs.WellMade.{WellMade}
use Rattle.sym_state.specs.declared.hint.Hint.{Hint}
use Rattle.sym_state.specs.declared.piece.Piece.{Piece}
use Rattle.sym_state.specs.declared.symbol.Sym.{Sym}
use Rattle.sym_state.proofs.ShownPieces.{shown_piece_holds}
use Rattle.cert_check.specs.Certified.{IsCertified}
use Rattle.cert_check.specs.Courses.{Course}
use Rattle.cert_check.specs.Safely.{EntersSafely, Remains, SafeFor}
use Rattle.cert_check.specs.Units.{call_walked, everywhere}
use Rattle.command_flow.specs.Commands.{called}
use Rattle.command_flow.proofs.Ending.{EndsIn, called_walked}
use Rattle.command_flow.proofs.Known.{Known}
use Rattle.command_flow.proofs.Steps.{Comes, call_begins, call_ends_safe, call_step_is, called_frame, ends_formed, entered, frameless}

-- a style, a certificate of which every summary is checked, and a list over which the style is run
pub record Run : Type 0 where
  pub style : Style
  pub cert : Cert
  pub list : EntryList
  pub is_sound : IsSound style
  pub certified : IsCertified style cert
  pub fits : Fits style list
  pub meets : Meets style cert.cond list
  pub formed : (c : Config) → IsWellFormed style list c → IsWellFormed style list (step style c)
  pub calls : (states : List State) (target : Target) (place at : Place) (hints : List Hint) (after : Course) (n : ℕ) → All (WellMade style) states
      → call_walked style cert states target place hints ≡ Ok after → EntersSafely (everywhere style cert) list n target at states after.given

-- where a call from a state ends: a state stands with an empty stack, and shows pieces
pub record Ended (r : Run) (place : Place) (pieces : List Piece) (v : Valuation) (state : State) (c : Config) (after : State) (w : Valuation) (d : Config) : Type 0 where
  pub stands : Stands r.style r.cert.cond r.list w after d []
  pub agrees : Agrees state.next v w
  pub remains : Remains state.at_entry (called_frame place ∷ []) (entered place c) d
  pub formed : IsWellFormed r.style r.list d
  pub empty : d.stack ≡ []
  pub ends : EndsIn r.cert.cond place pieces after

pub entered_formed : (r : Run) (name : NameId) (place : Place) (c : Config) → IsWellFormed r.style r.list (with_call name place c)
    → IsWellFormed r.style r.list (entered place c)
entered_formed r name place c formed = record {
  preamble = formed.preamble;
  commands = formed.commands;
  frames = (record { tokens = tt; part = tt }, formed.frames.1);
  stack = formed.stack;
  globals = formed.globals;
  entries = formed.entries;
  order = formed.order;
}

no_values : (w : Valuation) (stack : List Sym) → stack ≡ [] → values_of w stack ++ [] ≡ []
no_values w stack none = ap (λ (l : List Sym). values_of w l ++ []) none

-- where a call may begin: no frame is there, the first of these commands goes on, and a state stands where the name is entered
pub record MayCall (r : Run) (name : NameId) (place : Place) (first : CommandAt) (commands : List CommandAt) (v : Valuation) (state : State) (c : Config) : Type 0 where
  pub goes : c.stopped ≡ None
  pub frameless : c.frames ≡ []
  pub left : c.commands ≡ first ∷ commands
  pub begun : IsWellFormed r.style r.list (with_call name place c)
  pub made : WellMade r.style state
  pub stands : Stands r.style r.cert.cond r.list v state (entered place c) []

-- the call is safe where each of its ends is
pub call_safe : (r : Run) (n : ℕ) (name : NameId) (place : Place) (first : CommandAt) (commands : List CommandAt) (v : Valuation) (state : State) (c : Config) (pieces : List Piece)
    (hints left : List Hint) → MayCall r name place first commands v state c → called r.style r.cert name place state pieces hints ≡ Ok left
    → ((after : State) (w : Valuation) (d : Config) → Ended r place pieces v state c after w d
    → IsWellFormed r.style r.list (call_ended d.visit commands (frameless d)) → SafeFor r.style n (call_ended d.visit commands (frameless d)))
    → SafeFor r.style n (with_call name place c)
call_safe r n name place first commands v state c pieces hints left may e safe =
    let walked = called_walked r.style r.cert name place state pieces hints left e in
    call_begins r.style n name place c may.goes
    (r.calls (state ∷ []) (Named name) place place hints walked.course n (All-cons (WellMade r.style) state [] may.made (All-nil (WellMade r.style))) walked.walked
    state v (entered place c) [] (inl refl) (record {
      goes = may.goes;
      formed = entered_formed r name place c may.begun;
      stands = may.stands;
      enters = subst (IsWellFormed r.style r.list) (call_step_is r.style name place c may.goes) (r.formed (with_call name place c) may.begun);
    }) (λ after w d among reached.
    let ends = walked.ends after among in
    let empty : d.stack ≡ [] = reached.stands.stack ∙ no_values w after.stack ends.stack in
    let remains : Remains state.at_entry (called_frame place ∷ []) (entered place c) d =
    subst (λ frames. Remains state.at_entry (called_frame place ∷ frames) (entered place c) d) may.frameless reached.remains in
    let comes : Comes place first commands d = record {
      goes = remains.goes;
      framed = remains.waiting;
      runs = remains.running;
      empty = empty;
      left = remains.commands ∙ may.left;
    } in
    call_ends_safe r.style n place first commands d comes
    (safe after w d (record {
      stands = reached.stands;
      agrees = reached.agrees;
      remains = remains;
      formed = reached.formed;
      empty = empty;
      ends = ends;
    }) (ends_formed r.style r.list place first commands d r.formed comes reached.formed))))

-- a piece that a state shows is known where the state stands
pub shown_known : (r : Run) (at : ℕ) (v : Valuation) (state : State) (c : Config) (piece : Piece) (hints left : List Hint)
    → Stands r.style r.cert.cond r.list v state c [] → v.position ≡ at → piece_by r.cert.cond state piece 0 hints ≡ Ok left
    → Known r.style r.list at piece c.globals (visited_entry c)
shown_known r at v state c piece hints left stands position shown = record {
  v = through (match_of state piece 0) v;
  values = λ s. stands.satisfied.values (match_of state piece 0 s);
  position = position;
  count = stands.has_list.count;
  met = (shown_piece_holds r.style r.cert.cond r.list v state c [] piece 0 hints left shown stands).met;
}
