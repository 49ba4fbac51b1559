-- A configuration that is fine for so many steps, and what waits behind a walk as a continuation.
use Rattle.std.proofs.Common.{◌≡◌, ℕ, zero, suc, ◌≤◌, Bool, false, cond, List, [], ◌∷◌, ◌++◌, length, map, slice_get, option_map, Option, None, Some, Ok, sym, ap, subst, ◌∙◌, arith, inl, inr}
use Rattle.std.proofs.lemmas.List.{length-map}
use Rattle.name_table.specs.Sound.{IsSound, block_of}
use Rattle.name_table.specs.declared.style.BodyId.{BodyId}
use Rattle.name_table.specs.declared.style.Style.{Style}
use Rattle.bst_meaning.specs.EntryLists.{EntryList}
use Rattle.bst_meaning.specs.declared.value.Value.{Value}
use Rattle.bst_meaning.specs.Config.{Config, EntryState, Frame, Part, Stopped, Visit}
use Rattle.bst_meaning.specs.Entries.{Fits}
use Rattle.bst_meaning.specs.Invariant.{IsWellFormed}
use Rattle.bst_meaning.specs.Keeping.{IsConfined, IsKept, placed}
use Rattle.bst_meaning.specs.Machine.{context_of, frame_step, going_step, next_index, step, unless_stopped, visited_index, with_effect}
use Rattle.bst_meaning.specs.Builtins.{Context, built_in}
use Rattle.bst_meaning.specs.Effect.{Effect}
use Rattle.bv_base.specs.declared.place.Place.{Place}
use Rattle.name_table.specs.declared.builtin.Builtin.{Builtin}
use Rattle.bst_meaning.specs.Safe.{IsFine}
use Rattle.sym_state.specs.State.{State}
use Rattle.sym_state.specs.Stands.{Stands}
use Rattle.sym_state.specs.Symbols.{Agrees, Valuation}
use Rattle.sym_state.specs.WellMade.{WellMade}
use Rattle.sym_state.proofs.Spots.{Spot, spot_of}
use Rattle.refinements.specs.Covered.{IsAmong}
use Rattle.cert_check.specs.Walks.{Scope}
pub use Rattle.cert_check.specs.Safely.{Remains, SafeFor}
use Rattle.cert_check.proofs.Followed.{Follows, follows_twice}

pub less : (style : Style) (n : ℕ) (c : Config) → SafeFor style (suc n) c → SafeFor style n c
less style zero c safe = safe.0
less style (suc n) c safe = (safe.0, less style n (step style c) safe.1)

-- the frames where a frame of a part has no token left
abbrev pub emptied : Place → Part → List Frame → List Frame
emptied at part frames = record { tokens = []; place = at; part = part } ∷ frames

-- a configuration whose innermost frame is this one
pub record Framed (frame : Frame) (frames : List Frame) (c : Config) : Type 0 where
  pub goes : c.stopped ≡ None
  pub framed : c.frames ≡ frame ∷ frames

pub framed_fine : (style : Style) (frame : Frame) (frames : List Frame) (c : Config) → Framed frame frames c → IsFine style c
framed_fine style frame frames c f = record { no_fault = f.goes; empties = λ ends. absurd (no_frame (sym f.framed ∙ ends.frameless)) }
  where
    no_frame : (frame ∷ frames) ≡ [] → ⊥
    no_frame e = cc

pub step_is : (style : Style) (frame : Frame) (frames : List Frame) (c : Config) → Framed frame frames c
    → step style c ≡ frame_step style frame frames frame.tokens c
step_is style frame frames c f =
    ap (λ (s : Option Stopped). unless_stopped s c (going_step style c.frames c)) f.goes ∙ ap (λ (fs : List Frame). going_step style fs c) f.framed

-- one step before what is safe
pub one_before : (style : Style) (frame : Frame) (frames : List Frame) (n : ℕ) (c : Config) → Framed frame frames c
    → SafeFor style n (frame_step style frame frames frame.tokens c) → SafeFor style (suc n) c
one_before style frame frames n c f safe =
    (framed_fine style frame frames c f, subst (SafeFor style n) (sym (step_is style frame frames c f)) safe)

same_length : (xs ys : List EntryState) → map placed xs ≡ map placed ys → length xs ≡ length ys
same_length xs ys e = sym (length-map xs placed) ∙ ap length e ∙ length-map ys placed

pub same_index : (c d : Config) → d.running ≡ c.running → d.visit ≡ c.visit → map placed d.entries ≡ map placed c.entries
    → visited_index d ≡ visited_index c
same_index c d running visit order =
    ap (λ (r : Bool). cond r (option_map (λ v. next_index v (length d.entries)) d.visit) None) running
    ∙ ap (λ (o : Option Visit). cond c.running (option_map (λ v. next_index v (length d.entries)) o) None) visit
    ∙ ap (λ (n : ℕ). cond c.running (option_map (λ v. next_index v n) c.visit) None) (same_length d.entries c.entries order)

pub remains_twice : (at_entry : Bool) (first second : List Frame) (b c d : Config) → Remains at_entry first b c → Remains at_entry second c d
    → Remains at_entry second b d
remains_twice at_entry first second b c d one other = record {
  goes = other.goes;
  waiting = other.waiting;
  commands = other.commands ∙ one.commands;
  running = other.running ∙ one.running;
  visit = other.visit ∙ one.visit;
  order = other.order ∙ one.order;
  others = λ at elsewhere. other.others at (λ there. elsewhere (sym (same_index b c one.running one.visit one.order) ∙ there)) ∙ one.others at elsewhere;
  entries = λ outside. other.entries outside ∙ one.entries outside;
}

-- what stays, with an entry at more states
pub remains_where : (inner outer : Bool) (frames : List Frame) (c d : Config) → (outer ≡ false → inner ≡ false) → Remains inner frames c d → Remains outer frames c d
remains_where inner outer frames c d within r = record {
  goes = r.goes;
  waiting = r.waiting;
  commands = r.commands;
  running = r.running;
  visit = r.visit;
  order = r.order;
  others = r.others;
  entries = λ outside. r.entries (within outside);
}

-- the frames alone change
pub remains_framed : (at_entry : Bool) (frames : List Frame) (c d : Config) → d.stopped ≡ None → d.frames ≡ frames → d.commands ≡ c.commands
    → d.running ≡ c.running → d.visit ≡ c.visit → d.entries ≡ c.entries → Remains at_entry frames c d
remains_framed at_entry frames c d goes framed commands running visit entries = record {
  goes = goes;
  waiting = framed;
  commands = commands;
  running = running;
  visit = visit;
  order = ap (λ (es : List EntryState). map placed es) entries;
  others = λ at elsewhere. ap (λ (es : List EntryState). slice_get es at) entries;
  entries = λ outside. entries;
}

-- the laws on which safety stands: those of every step of the machine, of every built-in function, and of the numbers of blocks
pub record Laws : Type 0 where
  pub formed : (style : Style) (list : EntryList) (c : Config) → IsSound style → Fits style list → IsWellFormed style list c → IsWellFormed style list (step style c)
  pub kept : (style : Style) (o : Builtin) (place : Place) (c : Config) → IsKept o c (with_effect style (built_in o (context_of style c) c.stack) place c)
  pub confined : (o : Builtin) (context : Context) (stack : List Value) (effect : Effect) → built_in o context stack ≡ Ok effect → IsConfined o stack effect
  pub one_body : (style : Style) (a b : BodyId) (number : ℕ) → IsSound style → block_of a style.bodies ≡ Some (Some number)
      → block_of b style.bodies ≡ Some (Some number) → a.0 ≡ b.0

-- where a walk starts that makes no loops: a well-made state that stands for a configuration of a run, which goes on
pub record Start (scope : Scope) (list : EntryList) : Type 0 where
  pub laws : Laws
  pub v : Valuation
  pub state : State
  pub c : Config
  pub below : List Value
  pub made : WellMade scope.style state
  pub goes : c.stopped ≡ None
  pub formed : IsWellFormed scope.style list c
  pub stands : Stands scope.style scope.cert.cond list v state c below
  pub unmade : scope.make ≡ None

-- a start at a place, as rules on states have it
abbrev pub spot_at : (scope : Scope) (list : EntryList) → Start scope list → Place → Spot
spot_at scope list s at = spot_of scope.style scope.cert.cond list s.v s.state s.c s.below at s.made s.stands

-- a state that follows a start, by an assignment that agrees on the symbols that were there, above the same values
pub record Reaches (scope : Scope) (list : EntryList) (frames : List Frame) (s : Start scope list) (after : State) (w : Valuation) (d : Config) : Type 0 where
  pub follows : Follows scope s.state after
  pub agrees : Agrees s.state.next s.v w
  pub remains : Remains s.state.at_entry frames s.c d
  pub formed : IsWellFormed scope.style list d
  pub stands : Stands scope.style scope.cert.cond list w after d s.below

-- what comes after a walk that gives these states is safe for so many steps, where these frames wait
abbrev pub SafeAfter : (scope : Scope) (list : EntryList) → ℕ → List Frame → Start scope list → List State → Type 0
SafeAfter scope list n frames s states =
    (after : State) (w : Valuation) (d : Config) → IsAmong after states → Reaches scope list frames s after w d → SafeFor scope.style n d

pub agrees_on : (m n : ℕ) (u v w : Valuation) → m ≤ n → Agrees m u v → Agrees n v w → Agrees m u w
agrees_on m n u v w more a b = record {
  value = λ s below. b.value s (omega (arith, more, below)) ∙ a.value s below;
  position = b.position ∙ a.position;
  count = b.count ∙ a.count;
}

-- the start from a state that was reached
abbrev pub onward : (scope : Scope) (list : EntryList) (frames : List Frame) (s : Start scope list) (after : State) (w : Valuation) (d : Config)
    → Reaches scope list frames s after w d → Start scope list
onward scope list frames s after w d reached = record {
  laws = s.laws;
  v = w;
  state = after;
  c = d;
  below = s.below;
  made = reached.follows.made;
  goes = reached.remains.goes;
  formed = reached.formed;
  stands = reached.stands;
  unmade = s.unmade;
}

-- what is reached from there is reached from the first start
pub reaches_on : (scope : Scope) (list : EntryList) (first frames : List Frame) (s : Start scope list) (middle : State) (w : Valuation) (d : Config)
    (reached : Reaches scope list first s middle w d) (after : State) (x : Valuation) (e : Config)
    → Reaches scope list frames (onward scope list first s middle w d reached) after x e → Reaches scope list frames s after x e
reaches_on scope list first frames s middle w d reached after x e later = record {
  follows = follows_twice scope s.state middle after reached.follows later.follows;
  agrees = agrees_on s.state.next middle.next s.v w x reached.follows.grows.next reached.agrees later.agrees;
  remains = remains_twice s.state.at_entry first frames s.c d e reached.remains
      (subst (λ (t : Bool). Remains t frames d e) reached.follows.grows.at_entry later.remains);
  formed = later.formed;
  stands = later.stands;
}

-- what comes after the first start comes after that one
pub safe_on : (scope : Scope) (list : EntryList) (n : ℕ) (first frames : List Frame) (s : Start scope list) (middle : State) (w : Valuation) (d : Config) (states : List State)
    (reached : Reaches scope list first s middle w d) → SafeAfter scope list n frames s states
    → SafeAfter scope list n frames (onward scope list first s middle w d reached) states
safe_on scope list n first frames s middle w d states reached safe =
    λ after x e among later. safe after x e among (reaches_on scope list first frames s middle w d reached after x e later)

-- fewer steps
pub safe_less : (scope : Scope) (list : EntryList) (n : ℕ) (frames : List Frame) (s : Start scope list) (states : List State)
    → SafeAfter scope list (suc n) frames s states → SafeAfter scope list n frames s states
safe_less scope list n frames s states safe = λ after w d among reached. less scope.style n d (safe after w d among reached)

-- what is among these states is among them and more
pub among_sooner : {X : Type 0} (x : X) (before after : List X) → IsAmong x before → IsAmong x (before ++ after)
among_sooner x [] after h = absurd h
among_sooner x (first ∷ before) after (inl is) = inl is
among_sooner x (first ∷ before) after (inr later) = inr (among_sooner x before after later)

-- fewer states
pub safe_fewer : (scope : Scope) (list : EntryList) (n : ℕ) (frames : List Frame) (s : Start scope list) (before more states : List State) → states ≡ before ++ more
    → SafeAfter scope list n frames s states → SafeAfter scope list n frames s before
safe_fewer scope list n frames s before more states e safe = λ after w d among reached.
    safe after w d (subst (IsAmong after) (sym e) (among_sooner after before more among)) reached

-- a configuration of a run after its step is one
pub formed_step : Laws → (scope : Scope) (list : EntryList) (frame : Frame) (frames : List Frame) (c : Config) → IsSound scope.style → Fits scope.style list
    → Framed frame frames c → IsWellFormed scope.style list c → IsWellFormed scope.style list (frame_step scope.style frame frames frame.tokens c)
formed_step laws scope list frame frames c sound fits framed formed =
    subst (IsWellFormed scope.style list) (step_is scope.style frame frames c framed) (laws.formed scope.style list c sound fits formed)
