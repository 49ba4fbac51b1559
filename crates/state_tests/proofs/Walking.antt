-- The machine takes the tokens of a walk, one after the other.
use Rattle.std.proofs.Common.{◌≡◌, ℕ, ◌<◌, ◌≤◌, true, List, [], ◌∷◌, ◌++◌, Option, None, Some, Result, Ok, inl, inr, refl, ap, ◌∙◌, sym, subst, arith}
use Rattle.std.specs.List.{All}
use Rattle.std.proofs.lemmas.List.Elements.{All-head, All-tail}
use Rattle.bv_base.specs.declared.place.Place.{Place}
use Rattle.name_table.specs.declared.builtin.Builtin.{Builtin}
use Rattle.name_table.specs.declared.builtin.Builtin.TheVariants as op
use Rattle.name_table.specs.declared.names.Kind.{Kind}
use Rattle.name_table.specs.declared.names.Kind.TheVariants.{IntEntry, StrEntry}
use Rattle.name_table.specs.declared.style.Style.{Style}
use Rattle.name_table.specs.declared.style.Token.{Token}
use Rattle.name_table.specs.declared.style.TokenAt.{TokenAt}
use Rattle.bst_meaning.specs.Builtins.{built_in}
use Rattle.bst_meaning.specs.Config.{Config, Frame, Variable, Stopped}
use Rattle.bst_meaning.specs.Effect.{Effect, Entered}
use Rattle.bst_meaning.specs.Keeping.{IsKept, is_plain}
use Rattle.bst_meaning.specs.Machine.{assigned_by, call_step, context_of, frame_step, going_step, step, token_step, unless_stopped, with_assigned, with_effect, with_entered, with_value}
use Rattle.bst_meaning.specs.StyleParts.{kind_of}
use Rattle.bst_meaning.specs.declared.condition.Cond.{Cond}
use Rattle.bst_meaning.specs.EntryLists.{EntryList}
use Rattle.bst_meaning.specs.declared.fault.Fault.{Fault}
use Rattle.bst_meaning.specs.declared.value.Value.{Value}
use Rattle.sym_state.specs.Cases.{IsTestOf}
use Rattle.sym_state.specs.Covers.{Covers, CoversPush}
use Rattle.sym_state.specs.Demands.{After}
use Rattle.sym_state.specs.Effects.{effect_of}
use Rattle.sym_state.specs.Frames.{EffectFrame}
use Rattle.sym_state.specs.Stands.{Stands}
use Rattle.sym_state.specs.State.{State}
use Rattle.sym_state.specs.Symbols.{Agrees, Valuation}
use Rattle.sym_state.specs.WellMade.{WellMade}
use Rattle.sym_state.specs.declared.hint.Hint.{Hint}
use Rattle.sym_state.specs.declared.test.Test.{Test}
use Rattle.sym_state.specs.declared.test.Test.TheVariants.{Empty, Missing, Equal, Less, Greater, Above}
use Rattle.refinements.specs.Covered.{IsAmong, function_of}
use Rattle.state_tests.specs.Walks.{Calls, IsToExecute}

-- a configuration whose innermost frame no longer has its first token
pub record Taken (style : Style) (t : TokenAt) (tokens : List TokenAt) (c : Config) : Type 0 where
  pub frames : List Frame
  pub is : step style c ≡ token_step style t.token t.place (record c { frames = frames })
  pub left : IsToExecute tokens (record c { frames = frames })

pub taken : (style : Style) (t : TokenAt) (tokens : List TokenAt) (c : Config) → IsToExecute (t ∷ tokens) c → Taken style t tokens c
taken style t tokens c h =
    let frame : Frame = record { tokens = tokens ++ h.later; place = h.frame.place; part = h.frame.part } in
    record {
      frames = frame ∷ h.frames;
      is = ap (λ (s : Option Stopped). unless_stopped s c (going_step style c.frames c)) h.goes_on
          ∙ ap (λ (f : List Frame). going_step style f c) h.innermost
          ∙ ap (λ (l : List TokenAt). frame_step style h.frame h.frames l c) h.next;
      left = record { goes_on = h.goes_on; frame = frame; frames = h.frames; innermost = refl; later = h.later; next = refl };
    }

-- a push changes the stack alone
pub after_push : (tokens : List TokenAt) (value : Value) (c : Config) → IsToExecute tokens c → IsToExecute tokens (with_value value c)
after_push tokens value c h =
    record { goes_on = h.goes_on; frame = h.frame; frames = h.frames; innermost = h.innermost; later = h.later; next = h.next }

-- an effect leaves the machine going
by_kind : (kind : Option Kind) (new : Variable) (c : Config) → (assigned_by kind new c).stopped ≡ c.stopped
by_kind (Some IntEntry) new c = refl
by_kind (Some StrEntry) new c = refl
by_kind _ new c = refl

assigned_goes : (style : Style) (new : Option Variable) (c : Config) → (with_assigned style new c).stopped ≡ c.stopped
assigned_goes style None c = refl
assigned_goes style (Some new) c = by_kind (kind_of style new.name) new c

entered_goes : (style : Style) (entered : Option Entered) (place : Place) (c : Config) → (with_entered style entered place c).stopped ≡ c.stopped
entered_goes style None place c = refl
entered_goes style (Some entered) place c = refl

pub effect_goes : (style : Style) (effect : Effect) (place : Place) (c : Config) → (with_effect style (Ok effect) place c).stopped ≡ c.stopped
effect_goes style effect place c =
    let lines = record c { stack = effect.stack; events = c.events ++ effect.wrote; log = c.log ++ effect.logged } in
    entered_goes style effect.entered place (with_assigned style effect.assigned lines) ∙ assigned_goes style effect.assigned lines

-- after a built-in function that enters nothing the same tokens come next
pub after_effect : (style : Style) (o : Builtin) (tokens : List TokenAt) (effect : Effect) (place : Place) (c : Config)
    → is_plain o ≡ true → built_in o (context_of style c) c.stack ≡ Ok effect
    → IsKept o c (with_effect style (built_in o (context_of style c) c.stack) place c) → IsToExecute tokens c
    → IsToExecute tokens (with_effect style (Ok effect) place c)
after_effect style o tokens effect place c plain gives kept h = record {
  goes_on = effect_goes style effect place c ∙ h.goes_on;
  frame = h.frame;
  frames = h.frames;
  innermost = subst (λ r. (with_effect style r place c).frames ≡ c.frames) gives (kept.frames plain) ∙ h.innermost;
  later = h.later;
  next = h.next;
}

-- the call of a built-in function
pub call_is : (style : Style) (token : Token) (o : Builtin) (place : Place) (c : Config) → Calls style token o
    → token_step style token place c ≡ with_effect style (built_in o (context_of style c) c.stack) place c
call_is style token o place c h =
    ap (λ (t : Token). token_step style t place c) h.is ∙ ap (λ (k : Option Kind). call_step style k h.name place c) h.kind

-- a function that has an effect enters nothing, and no test does
pub effect_plain : (style : Style) (admits : Cond) (state : State) (o : Builtin) (hints : List Hint) (after : After)
    → effect_of style admits state o hints ≡ Ok after → is_plain o ≡ true
effect_plain style admits state op.CallType hints after e = absurd (cc)
effect_plain style admits state op.IfElse hints after e = absurd (cc)
effect_plain style admits state op.WhileDo hints after e = absurd (cc)
effect_plain style admits state _ hints after e = refl

pub test_plain : (test : Test) (o : Builtin) → function_of test ≡ Some o → is_plain o ≡ true
test_plain Empty o e = let same : op.Empty ≡ o = cc in subst (λ b. is_plain b ≡ true) same refl
test_plain Missing o e = let same : op.Missing ≡ o = cc in subst (λ b. is_plain b ≡ true) same refl
test_plain Equal o e = let same : op.Equal ≡ o = cc in subst (λ b. is_plain b ≡ true) same refl
test_plain Less o e = let same : op.Less ≡ o = cc in subst (λ b. is_plain b ≡ true) same refl
test_plain Greater o e = let same : op.Greater ≡ o = cc in subst (λ b. is_plain b ≡ true) same refl
test_plain (Above s) o e = absurd (cc)

-- where a walk has come: a well-made state stands, by an assignment that agrees with the first on so many symbols, and these
-- tokens come next
pub record At (style : Style) (admits : Cond) (list : EntryList) (v : Valuation) (symbols : ℕ) (tokens : List TokenAt) (state : State)
    (c : Config) (below : List Value) : Type 0 where
  pub assignment : Valuation
  pub agrees : Agrees symbols v assignment
  pub few : symbols ≤ state.next
  pub made : WellMade style state
  pub stands : Stands style admits list assignment state c below
  pub next : IsToExecute tokens c

-- an assignment that agrees with one that agrees
pub agrees_on : (symbols next : ℕ) (u v w : Valuation) → symbols ≤ next → Agrees symbols u v → Agrees next v w → Agrees symbols u w
agrees_on symbols next u v w few a b = record {
  value = λ s less. b.value s (omega (arith, less, few)) ∙ a.value s less;
  position = b.position ∙ a.position;
  count = b.count ∙ a.count;
}

-- at a later state and configuration, under an assignment that agrees with the one before
at_later : (style : Style) (admits : Cond) (list : EntryList) (v : Valuation) (symbols : ℕ) (before tokens : List TokenAt) (state after : State)
    (c d : Config) (below : List Value) (at : At style admits list v symbols before state c below) (w : Valuation) → Agrees state.next at.assignment w
    → WellMade style after → state.next ≤ after.next → Stands style admits list w after d below → IsToExecute tokens d
    → At style admits list v symbols tokens after d below
at_later style admits list v symbols before tokens state after c d below at w agrees made more stands next =
    record {
      assignment = w;
      agrees = agrees_on symbols state.next v at.assignment w at.few at.agrees agrees;
      few = let low = at.few in omega (arith, low, more);
      made = made;
      stands = stands;
      next = next;
    }

-- after a token that pushes
pub pushed_on : (style : Style) (admits : Cond) (list : EntryList) (v : Valuation) (symbols : ℕ) (t : TokenAt) (tokens : List TokenAt)
    (state after : State) (c : Config) (below : List Value) (at : At style admits list v symbols (t ∷ tokens) state c below)
    → ((frames : List Frame) → CoversPush style admits list at.assignment state (record c { frames = frames }) below t.place t.token after)
    → WellMade style after → state.next ≤ after.next → At style admits list v symbols tokens after (step style c) below
pushed_on style admits list v symbols t tokens state after c below at covers made more =
    let one = taken style t tokens c at.next in
    let push = covers one.frames in
    let there : Config = record c { frames = one.frames } in
    let is : with_value push.value there ≡ step style c = sym (one.is ∙ push.pushes) in
    subst (λ (d : Config). At style admits list v symbols tokens after d below) is
    (at_later style admits list v symbols (t ∷ tokens) tokens state after c (with_value push.value there) below at push.assignment push.agrees made more push.stands
    (after_push tokens push.value there one.left))

-- after a built-in function, an effect or one of the cases of a test
pub covered_on : (style : Style) (admits : Cond) (list : EntryList) (v : Valuation) (symbols : ℕ) (t : TokenAt) (tokens : List TokenAt) (o : Builtin)
    (state after : State) (c : Config) (below : List Value) (at : At style admits list v symbols (t ∷ tokens) state c below)
    → Calls style t.token o → is_plain o ≡ true
    → ((d : Config) → IsKept o d (with_effect style (built_in o (context_of style d) d.stack) t.place d))
    → Covers style admits list at.assignment state (record c { frames = (taken style t tokens c at.next).frames }) below t.place o after
    → WellMade style after → state.next ≤ after.next → At style admits list v symbols tokens after (step style c) below
covered_on style admits list v symbols t tokens o state after c below at calls plain kept covers made more =
    let one = taken style t tokens c at.next in
    let there : Config = record c { frames = one.frames } in
    let is : with_effect style (Ok covers.effect) t.place there ≡ step style c =
    sym (one.is ∙ call_is style t.token o t.place there calls
    ∙ ap (λ (r : Result Effect Fault). with_effect style r t.place there) covers.gives) in
    subst (λ (d : Config). At style admits list v symbols tokens after d below) is
    (at_later style admits list v symbols (t ∷ tokens) tokens state after c (with_effect style (Ok covers.effect) t.place there) below at covers.assignment covers.agrees
    made more covers.stands (after_effect style o tokens covers.effect t.place there plain covers.gives (kept there) one.left))

-- no symbol is given back
pub framed_next : (style : Style) (o : Builtin) (old new : State) → EffectFrame style o old new → old.next ≤ new.next
framed_next style o old new (inl h) = h.extends.next
framed_next style o old new (inr h) = h.1.extends.next

-- what holds of all states holds of one that is among them
pub among_all : (P : State → Type 0) (one : State) (states : List State) → All P states → IsAmong one states → P one
among_all P one [] all among = absurd among
among_all P one (first ∷ states) all (inl same) = subst P (sym same) (All-head P first states all)
among_all P one (first ∷ states) all (inr among) = among_all P one states (All-tail P first states all) among

-- the test of a built-in function is about what lies on the stack
pub is_test : (test : Test) (state : State) (o : Builtin) → function_of test ≡ Some o → IsTestOf state test
is_test (Above s) state o e = absurd (cc)
is_test _ state o e = tt
