-- The tokens of a body that is walked are safe where the calls of names are, for one step more.
use Rattle.std.proofs.Common.{◌≡◌, ℕ, zero, suc, List, [], ◌∷◌, ◌++◌, Ok, refl, sym, subst, inl, inr, Option, None, ap, ◌∙◌}
use Rattle.std.specs.List.{All, AllByRecursion}
use Rattle.std.proofs.lemmas.List.Elements.{All-cons, All-nil, All-same, All-tail}
use Rattle.bv_base.specs.declared.place.Place.{Place}
use Rattle.bv_base.proofs.ThenLemmas.{ok_is, then_ok}
use Rattle.name_table.specs.Sound.{IsTokenSound}
use Rattle.name_table.specs.declared.names.NameId.{NameId}
use Rattle.name_table.specs.declared.style.BodyId.{BodyId}
use Rattle.name_table.specs.declared.style.Style.{Style}
use Rattle.name_table.specs.declared.style.Token.{Token}
use Rattle.name_table.specs.declared.style.TokenAt.{TokenAt}
use Rattle.bst_meaning.specs.StyleParts.{kind_of, tokens_of}
use Rattle.bst_meaning.specs.EntryLists.{EntryList}
use Rattle.bst_meaning.specs.Config.{Config, Frame, Part, Whole}
use Rattle.bst_meaning.specs.Entries.{Fits}
use Rattle.bst_meaning.specs.Invariant.{IsFrameSound, IsWellFormed}
use Rattle.bst_meaning.specs.Machine.{call_step, token_step, with_frame}
use Rattle.sym_state.specs.State.{State}
use Rattle.sym_state.specs.WellMade.{WellMade}
use Rattle.sym_state.proofs.Frames.{agrees_self}
use Rattle.sym_state.proofs.Pushing.{stands_framed}
use Rattle.refinements.specs.Covered.{IsAmong}
use Rattle.refinements.proofs.Covering.{among_later}
use Rattle.cert_check.specs.Courses.{Course, counts, gives_all}
use Rattle.cert_check.specs.Walks.{Enter, Make, Scope, body_walked, chosen_in, each_taken, named, taken, taken_by, taken_from, token_taken, walked}
use Rattle.cert_check.proofs.Followed.{follows_self}
use Rattle.cert_check.proofs.Inverted.{gives_all_ok}
use Rattle.cert_check.proofs.Keeping.{Told}
use Rattle.cert_check.proofs.Safety.{Framed, Reaches, SafeAfter, SafeFor, Start, among_sooner, emptied, formed_step, framed_fine, less, one_before, onward, remains_framed, safe_on}
use Rattle.cert_check.proofs.Tokens.{token_safe}
use Rattle.cert_check.proofs.Walked.{AreSound, Enters, body_moved, body_sound, come_made, each_taken_moved}
use Rattle.cert_check.proofs.Makings.{making_none}

-- the same state with other frames
pub framed_reached : (scope : Scope) (list : EntryList) (s : Start scope list) (frames : List Frame)
    → IsWellFormed scope.style list (record s.c { frames = frames }) → Reaches scope list frames s s.state s.v (record s.c { frames = frames })
framed_reached scope list s frames formed = record {
  follows = follows_self scope s.state s.made;
  agrees = agrees_self s.state.next s.v;
  remains = remains_framed s.state.at_entry frames s.c (record s.c { frames = frames }) s.goes refl refl refl refl refl;
  formed = formed;
  stands = stands_framed scope.style scope.cert.cond list s.v s.state s.c s.below frames s.stands;
}

abbrev pub framed_start : (scope : Scope) (list : EntryList) (s : Start scope list) (frames : List Frame)
    → IsWellFormed scope.style list (record s.c { frames = frames }) → Start scope list
framed_start scope list s frames formed = onward scope list frames s s.state s.v (record s.c { frames = frames }) (framed_reached scope list s frames formed)

pub safe_framed : (scope : Scope) (list : EntryList) (n : ℕ) (s : Start scope list) (frames waiting : List Frame) (states : List State)
    (formed : IsWellFormed scope.style list (record s.c { frames = frames })) → SafeAfter scope list n waiting s states
    → SafeAfter scope list n waiting (framed_start scope list s frames formed) states
safe_framed scope list n s frames waiting states formed =
    safe_on scope list n frames waiting s s.state s.v (record s.c { frames = frames }) states (framed_reached scope list s frames formed)

-- a configuration of a run with other frames that are sound
pub formed_framed : (style : Style) (list : EntryList) (c : Config) (frames : List Frame) → IsWellFormed style list c → AllByRecursion (IsFrameSound style) frames
    → IsWellFormed style list (record c { frames = frames })
formed_framed style list c frames h sound = record {
  preamble = h.preamble;
  commands = h.commands;
  frames = sound;
  stack = h.stack;
  globals = h.globals;
  entries = h.entries;
  order = h.order;
}

-- and without the innermost frame
pub unframed : (style : Style) (list : EntryList) (tokens : List TokenAt) (at : Place) (part : Part) (c : Config) → IsWellFormed style list (with_frame tokens at part c)
    → IsWellFormed style list c
unframed style list tokens at part c h = record {
  preamble = h.preamble;
  commands = h.commands;
  frames = h.frames.1;
  stack = h.stack;
  globals = h.globals;
  entries = h.entries;
  order = h.order;
}

-- fewer tokens of the innermost frame
fewer_tokens : (style : Style) (list : EntryList) (c : Config) (t : TokenAt) (tokens : List TokenAt) (at : Place) (part : Part) (frames : List Frame)
    → IsWellFormed style list c → c.frames ≡ record { tokens = t ∷ tokens; place = at; part = part } ∷ frames
    → IsWellFormed style list (record c { frames = record { tokens = tokens; place = at; part = part } ∷ frames })
fewer_tokens style list c t tokens at part frames h e =
    let all = subst (AllByRecursion (IsFrameSound style)) e h.frames in
    formed_framed style list c (record { tokens = tokens; place = at; part = part } ∷ frames) h (record { tokens = all.0.tokens.1; part = all.0.part }, all.1)

-- a frame with no token left is returned from
pub returned : (scope : Scope) (list : EntryList) (n : ℕ) (at : Place) (frames : List Frame) (s : Start scope list) (states : List State) → Told scope
    → Fits scope.style list → SafeAfter scope list n frames s states → SafeAfter scope list n (emptied at Whole frames) s states
returned scope list n at frames s states told fits safe = λ after w d among reached.
    let frame : Frame = record { tokens = []; place = at; part = Whole } in
    let here : Framed frame frames d = record { goes = reached.remains.goes; framed = reached.remains.waiting } in
    let left : Config = record d { frames = frames } in
    let last = onward scope list (frame ∷ frames) s after w d reached in
    less scope.style n d
    (one_before scope.style frame frames n d here
    (safe_on scope list n (frame ∷ frames) frames s after w d states reached safe after w left among
    (framed_reached scope list last frames (formed_step s.laws scope list frame frames d told.sound fits here reached.formed))))

-- the call of a name is safe where what comes after it is
abbrev pub NamesSafe : Scope → EntryList → ℕ → Enter → Type 0
NamesSafe scope list n enter = (name : NameId) (place at : Place) (s : Start scope list) (course after : Course)
    → named scope enter (chosen_in scope enter place) (kind_of scope.style name) name place s.state course ≡ Ok after
    → IsWellFormed scope.style list (call_step scope.style (kind_of scope.style name) name at s.c)
    → SafeAfter scope list n s.c.frames s after.given → SafeFor scope.style n (call_step scope.style (kind_of scope.style name) name at s.c)

-- so is a body that is entered, in a frame of any part: what comes after it begins where no token is left
abbrev pub EnterSafe : Scope → EntryList → ℕ → Enter → Type 0
EnterSafe scope list n enter = (place at : Place) (part : Part) (body : BodyId) (s : Start scope list) (course after : Course)
    → enter place body s.state course ≡ Ok after → IsWellFormed scope.style list (with_frame (tokens_of scope.style body) at part s.c)
    → SafeAfter scope list n (emptied at part s.c.frames) s after.given → SafeFor scope.style n (with_frame (tokens_of scope.style body) at part s.c)

-- the token is taken from a state that is among those that a token is taken from
record TakenOne (scope : Scope) (enter : Enter) (t : TokenAt) (state : State) (after : Course) : Type 0 where
  pub before : Course
  pub middle : Course
  pub taken : taken scope enter t state before ≡ Ok middle
  pub more : List State
  pub given : after.given ≡ middle.given ++ more

-- a token is taken from states, one after the other, where no loop is made
unmade_taken : (scope : Scope) (enter : Enter) (t : TokenAt) (states : List State) (course : Course) → scope.make ≡ None
    → taken_from scope enter t states course ≡ each_taken scope enter t states course
unmade_taken scope enter t states course unmade =
    ap (λ (m : Option Make). taken_by m scope enter t states course) (making_none scope t.token unmade)

taken_one : (scope : Scope) (enter : Enter) (t : TokenAt) (state : State) (states : List State) (course after : Course) → Told scope → Enters scope enter
    → IsTokenSound scope.style.names scope.style.bodies scope.style.texts t.token → All (WellMade scope.style) states → IsAmong state states
    → each_taken scope enter t states course ≡ Ok after → TakenOne scope enter t state after
taken_one scope enter t state [] course after told enters sound made among e = absurd among
taken_one scope enter t state (first ∷ states) course after told enters sound made (inl is) e =
    let one = then_ok (taken scope enter t first course) (each_taken scope enter t states) after e in
    let later = each_taken_moved scope enter t states one.0 after told enters sound (All-tail (WellMade scope.style) first states made) one.2 in
    record {
      before = course;
      middle = one.0;
      taken = subst (λ (x : State). taken scope enter t x course ≡ Ok one.0) (sym is) one.1;
      more = later.more;
      given = later.given;
    }
taken_one scope enter t state (first ∷ states) course after told enters sound made (inr later) e =
    let one = then_ok (taken scope enter t first course) (each_taken scope enter t states) after e in
    taken_one scope enter t state states one.0 after told enters sound (All-tail (WellMade scope.style) first states made) later one.2

pub tokens_safe : (scope : Scope) (list : EntryList) (n : ℕ) (enter : Enter) → Told scope → Fits scope.style list → Enters scope enter
    → NamesSafe scope list n enter → (tokens : List TokenAt) (at : Place) (part : Part) (frames : List Frame) (s : Start scope list) (course after : Course)
    → AreSound scope tokens → All (WellMade scope.style) course.given → IsAmong s.state course.given
    → s.c.frames ≡ record { tokens = tokens; place = at; part = part } ∷ frames → walked scope enter tokens course ≡ Ok after
    → SafeAfter scope list (suc n) (emptied at part frames) s after.given → SafeFor scope.style (suc n) s.c
tokens_safe scope list n enter told fits enters names [] at part frames s course after sound made among framed e safe =
    safe s.state s.v s.c (subst (λ (c : Course). IsAmong s.state c.given) (sym (ok_is course after e)) among) (record {
      follows = follows_self scope s.state s.made;
      agrees = agrees_self s.state.next s.v;
      remains = remains_framed s.state.at_entry (emptied at part frames) s.c s.c s.goes framed refl refl refl refl;
      formed = s.formed;
      stands = s.stands;
    })
tokens_safe scope list n enter told fits enters names (t ∷ tokens) at part frames s course after sound made among framed e safe =
    let frame : Frame = record { tokens = t ∷ tokens; place = at; part = part } in
    let rest : Frame = record { tokens = tokens; place = at; part = part } in
    let here : Framed frame frames s.c = record { goes = s.goes; framed = framed } in
    let fewer = fewer_tokens scope.style list s.c t tokens at part frames s.formed framed in
    let inner : Start scope list = framed_start scope list s (rest ∷ frames) fewer in
    let fresh : Course = record course { given = [] } in
    let first = then_ok (taken_from scope enter t course.given fresh) (walked scope enter tokens) after e in
    let each = sym (unmade_taken scope enter t course.given fresh s.unmade) ∙ first.1 in
    let moves = each_taken_moved scope enter t course.given fresh first.0 told enters sound.0 made each in
    let one = taken_one scope enter t s.state course.given fresh first.0 told enters sound.0 made among each in
    let counted = then_ok (counts 1 t.place one.before) (token_taken scope enter t.token t.place s.state) one.middle one.taken in
    let stepped : IsWellFormed scope.style list (token_step scope.style t.token t.place inner.c) = formed_step s.laws scope list frame frames s.c told.sound fits here s.formed in
    let waits = safe_framed scope list (suc n) s (rest ∷ frames) (emptied at part frames) after.given fewer safe in
    let later : SafeAfter scope list n (rest ∷ frames) inner one.middle.given = λ x w d there reached.
    less scope.style n d
    (tokens_safe scope list n enter told fits enters names tokens at part frames (onward scope list (rest ∷ frames) inner x w d reached) first.0 after sound.1
    (All-same (WellMade scope.style) first.0.given moves.more moves.given (come_made scope course.given course.count first.0.count moves.more moves.come))
    (subst (IsAmong x) (sym one.given) (among_sooner x one.middle.given one.more there)) reached.remains.waiting first.2
    (safe_on scope list (suc n) (rest ∷ frames) (emptied at part frames) inner x w d after.given reached waits)) in
    one_before scope.style frame frames n s.c here
    (token_safe scope list n enter inner t.token t.place t.place counted.0 one.middle told sound.0 stepped
    (λ id is. subst (λ (k : Token). SafeFor scope.style n (token_step scope.style k t.place inner.c)) (sym is)
    (names id t.place t.place inner counted.0 one.middle
    (subst (λ (k : Token). token_taken scope enter k t.place s.state counted.0 ≡ Ok one.middle) is counted.2)
    (subst (λ (k : Token). IsWellFormed scope.style list (token_step scope.style k t.place inner.c)) is stepped) later)) counted.2 later)

-- a body that is walked is safe for one step more than the calls in it
pub body_safe : (scope : Scope) (list : EntryList) (n depth : ℕ) → Told scope → Fits scope.style list → NamesSafe scope list n (body_walked scope depth)
    → EnterSafe scope list (suc n) (body_walked scope (suc depth))
body_safe scope list n depth told fits names place at part body s course after e formed safe =
    let tokens = tokens_of scope.style body in
    let begun : Course = record course { given = s.state ∷ [] } in
    let inner = then_ok (walked scope (body_walked scope depth) tokens begun) (λ inner. gives_all place inner.given (record inner { given = course.given })) after e in
    let given = gives_all_ok place inner.0.given (record inner.0 { given = course.given }) after inner.2 in
    let frame : Frame = record { tokens = tokens; place = at; part = part } in
    tokens_safe scope list n (body_walked scope depth) told fits (body_moved scope depth told) names tokens at part s.c.frames
    (framed_start scope list s (frame ∷ s.c.frames) formed) begun inner.0 (body_sound scope body told.sound)
    (All-cons (WellMade scope.style) s.state [] s.made (All-nil (WellMade scope.style))) (inl refl) refl inner.1
    (safe_framed scope list (suc n) s (frame ∷ s.c.frames) (emptied at part s.c.frames) inner.0.given formed
    (λ x w d among reached. safe x w d (subst (λ (c : Course). IsAmong x c.given) (sym given) (among_later x course.given inner.0.given among)) reached))

-- a body whose frame is the innermost is fine
pub body_fine : (scope : Scope) (list : EntryList) (enter : Enter) → EnterSafe scope list zero enter
body_fine scope list enter place at part body s course after e formed safe =
    framed_fine scope.style (record { tokens = tokens_of scope.style body; place = at; part = part }) s.c.frames (with_frame (tokens_of scope.style body) at part s.c)
    (record { goes = s.goes; framed = refl })

pub nothing_walked : (scope : Scope) (list : EntryList) (n : ℕ) → EnterSafe scope list n (body_walked scope zero)
nothing_walked scope list n place at part body s course after e formed safe = absurd (cc)
