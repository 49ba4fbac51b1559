-- Each step keeps a configuration well formed.
use Rattle.std.proofs.Common.{◌≡◌, ℕ, zero, suc, ◌<◌, Bool, true, false, cond, nat_eq, nat_lt, List, [], ◌∷◌, map, length, Option, Some, None, Result, Ok, Err, refl, sym, ap, subst, ◌∙◌}
use Rattle.std.proofs.Math.ListN.{set}
use Rattle.std.specs.List.{AllByRecursion}
use Rattle.std.specs.Option.{ForSome, IfSome, option_and_then, option_map, option_map_or}
use Rattle.std.specs.Prelude.{IsPermutation, slice_get}
use Rattle.std.specs.Result.{IfOk}
use Rattle.std.proofs.lemmas.Bool.{eqb-true}
use Rattle.std.proofs.lemmas.List.Sorted.{IsPermutation-map, IsPermutation-trans}
use Rattle.bv_base.specs.declared.place.Place.{Place}
use Rattle.name_table.specs.declared.names.Kind.{Kind}
use Rattle.name_table.specs.declared.names.Kind.TheVariants.{Builtin as BuiltinKind, Wizard, Field, IntEntry, StrEntry, IntGlobal, StrGlobal}
use Rattle.name_table.specs.declared.names.NameId.{NameId}
use Rattle.name_table.specs.declared.style.Body.{Body}
use Rattle.name_table.specs.declared.style.BodyId.{BodyId}
use Rattle.name_table.specs.declared.style.Command.{Command}
use Rattle.name_table.specs.declared.style.Command.TheVariants.{Execute, Iterate, Read, Reverse, Sort}
use Rattle.name_table.specs.declared.style.CommandAt.{CommandAt}
use Rattle.name_table.specs.declared.style.Style.{Style}
use Rattle.name_table.specs.declared.style.TextId.{TextId}
use Rattle.name_table.specs.declared.style.Token.{Token}
use Rattle.name_table.specs.declared.style.Token.TheVariants.{Int as IntToken, Str as StrToken, Quote, Block as BlockToken, Call}
use Rattle.name_table.specs.declared.style.TokenAt.{TokenAt}
use Rattle.name_table.specs.Numbers.{IsByteList}
use Rattle.name_table.specs.Sound.{Each, IsCommandSound, IsSound, IsTokenSound}
use Rattle.name_table.proofs.Within.{callable_within, got}
use Rattle.bst_meaning.specs.EntryLists.{Entry, EntryList}
use Rattle.bst_meaning.specs.FieldValues.{FieldValue}
use Rattle.bst_meaning.specs.declared.fault.Fault.{Fault}
use Rattle.bst_meaning.specs.declared.fault.Fault.TheVariants.{NoEntry}
use Rattle.bst_meaning.specs.declared.value.Target.{Target}
use Rattle.bst_meaning.specs.declared.value.Target.TheVariants.{Named, Block}
use Rattle.bst_meaning.specs.declared.value.Value.{Value}
use Rattle.bst_meaning.specs.declared.value.Value.TheVariants.{Int, Str, Func}
use Rattle.bst_meaning.specs.Builtins.{built_in}
use Rattle.bst_meaning.specs.Config.{Config, EntryState, Frame, Part, Testing, Turning, Variable, Visit, Whole, Stopped, opening, opening_global, opening_variables}
use Rattle.bst_meaning.specs.Effect.{Effect, Entered}
use Rattle.bst_meaning.specs.Entries.{EntryFits, Fits}
use Rattle.bst_meaning.specs.Invariant.{AreVariables, IsEntrySound, IsFrameSound, IsPartSound, IsWellFormed, names_of}
use Rattle.bst_meaning.specs.Keeping.{placed}
use Rattle.bst_meaning.specs.Machine.{assigned_by, call_end_step, call_ended, call_step, command_step, context_of, field_in, field_value, frame_step, going_step, outer_step, return_step, run, step, steps, stopped_by, test_ended, token_step, unless_stopped, value_at, visit_of, visit_step, visited_entry, visited_index, with_assigned, with_call, with_effect, with_entered, with_entry_variable, with_found, with_frame, with_value, with_variable}
use Rattle.bst_meaning.specs.Operands.{is_positive}
use Rattle.bst_meaning.specs.Sorting.{sorted}
use Rattle.bst_meaning.specs.StyleParts.{entered_tokens, kind_of, text_of, tokens_of}
use Rattle.bst_meaning.specs.Values.{IsOfKind, IsTarget, IsValueOf}
use Rattle.bst_meaning.proofs.FineEffects.{IsEntered, IsFine, fine}
use Rattle.bst_meaning.proofs.Kept.{entries_seen}
use Rattle.bst_meaning.proofs.Opened.{opening_formed}
use Rattle.bst_meaning.proofs.Permuted.{sorted_all, sorted_permutes}
use Rattle.bst_meaning.proofs.Stepping.{kept_step, kept_steps}

-- an element that is found or replaced
all_got : {X : Type 0} (P : X → Type 0) (xs : List X) (k : ℕ) → AllByRecursion P xs → IfSome (slice_get xs k) P
all_got P [] k all = tt
all_got P (x ∷ xs) zero all = all.0
all_got P (x ∷ xs) (suc k) all = all_got P xs k all.1

all_set : {X : Type 0} (P : X → Type 0) (xs : List X) (k : ℕ) (y : X) → P y → AllByRecursion P xs → AllByRecursion P (set xs k y)
all_set P [] k y h all = all
all_set P (x ∷ xs) zero y h all = (h, all.1)
all_set P (x ∷ xs) (suc k) y h all = (all.0, all_set P xs k y h all.1)

-- what is found at an option
of_option : {X Y : Type 0} (P : X → Type 0) (Q : Y → Type 0) (f : X → Y) (o : Option X) → IfSome o P → ((x : X) → P x → Q (f x)) → IfSome (option_map f o) Q
of_option P Q f None h g = tt
of_option P Q f (Some x) h g = g x h

then_option : {X Y : Type 0} (P : X → Type 0) (Q : Y → Type 0) (f : X → Option Y) (o : Option X) → IfSome o P → ((x : X) → P x → IfSome (f x) Q)
    → IfSome (option_and_then f o) Q
then_option P Q f None h g = tt
then_option P Q f (Some x) h g = g x h

-- values of variables and fields are values of the run
kind_value : (style : Style) (kind : Option Kind) (value : Value) → IsOfKind kind value → IsValueOf style value
kind_value style (Some IntEntry) (Int n) h = (h, tt)
kind_value style (Some IntGlobal) (Int n) h = (h, tt)
kind_value style (Some StrEntry) (Str bytes) h = (h.0, tt)
kind_value style (Some StrGlobal) (Str bytes) h = (h.0, tt)
kind_value style _ _ h = absurd h

module _ (style : Style) where
  abbrev Has : Variable → Type 0
  Has v = IsOfKind (kind_of style v.name) v.value

  variable_value : (id : ℕ) (variables : List Variable) → AllByRecursion Has variables → IfSome (value_at id variables) (IsValueOf style)
  variable_value id [] all = tt
  variable_value id (v ∷ variables) all =
      by (nat_eq v.name.0 id) (kind_value style (kind_of style v.name) v.value all.0) (variable_value id variables all.1)
    where
      by : (t : Bool) → IsValueOf style v.value → IfSome (value_at id variables) (IsValueOf style)
          → IfSome (cond t (Some v.value) (value_at id variables)) (IsValueOf style)
      by true h more = h
      by false h more = more

  field_value_of : (name : NameId) (fields : List FieldValue) → kind_of style name ≡ Some Field
      → AllByRecursion (λ f. ForSome f.value IsByteList) fields → IsValueOf style (field_in name fields)
  field_value_of name [] is all = (tt, is)
  field_value_of name (f ∷ fields) is all =
      by (nat_eq f.name.0 name.0) f.value all.0 (field_value_of name fields is all.1)
    where
      by : (t : Bool) (value : Option (List ℕ)) → ForSome value IsByteList → IsValueOf style (field_in name fields)
          → IsValueOf style (cond t (field_value name value) (field_in name fields))
      by true None h more = (tt, is)
      by true (Some bytes) h more = (h bytes refl, tt)
      by false value h more = more

  -- variables of which one has a new value
  variable_named : (new : Variable) (variables : List Variable) → names_of (with_variable new variables) ≡ names_of variables
  variable_named new [] = refl
  variable_named new (v ∷ variables) =
      elim (nat_eq v.name.0 new.name.0) as (λ (t : Bool). nat_eq v.name.0 new.name.0 ≡ t
      → names_of (cond t (new ∷ variables) (v ∷ with_variable new variables)) ≡ names_of (v ∷ variables)) [
        | true ↦ λ is.
            let same : new.name ≡ v.name = ap (λ (n : ℕ). let id : NameId = record { 0 = n } in id) (sym (eqb-true v.name.0 new.name.0 is)) in
            ap (λ (name : NameId). name ∷ names_of variables) same
        | false ↦ λ is. ap (λ (l : List NameId). v.name ∷ l) (variable_named new variables)
      ] refl

  variable_all : (new : Variable) (variables : List Variable) → Has new → AllByRecursion Has variables
      → AllByRecursion Has (with_variable new variables)
  variable_all new [] h all = tt
  variable_all new (v ∷ variables) h all = by (nat_eq v.name.0 new.name.0) (variable_all new variables h all.1)
    where
      by : (t : Bool) → AllByRecursion Has (with_variable new variables)
          → AllByRecursion Has (cond t (new ∷ variables) (v ∷ with_variable new variables))
      by true more = (h, all.1)
      by false more = (all.0, more)

  variables_kept : (new : Variable) (names : List NameId) (variables : List Variable) → Has new → AreVariables style names variables
      → AreVariables style names (with_variable new variables)
  variables_kept new names variables h are = record {
    named = variable_named new variables ∙ are.named;
    values = variable_all new variables h are.values;
  }

  entries_kept : (new : Variable) (at : Option ℕ) (entries : List EntryState) → Has new → AllByRecursion (IsEntrySound style) entries
      → AllByRecursion (IsEntrySound style) (with_entry_variable new at entries)
  entries_kept new None entries h all = all
  entries_kept new (Some at) entries h all = by (slice_get entries at) (all_got (IsEntrySound style) entries at all)
    where
      by : (o : Option EntryState) → IfSome o (IsEntrySound style)
          → AllByRecursion (IsEntrySound style) (option_map_or (λ e. set entries at (record e { variables = with_variable new e.variables })) o entries)
      by None k = all
      by (Some e) k =
          all_set (IsEntrySound style) entries at (record e { variables = with_variable new e.variables })
          (record { fits = k.fits; variables = variables_kept new _ e.variables h k.variables }) all

  module _ (list : EntryList) (sound : IsSound style) (fits : Fits style list) where
    abbrev Formed : Config → Type 0
    Formed c = IsWellFormed style list c

    abbrev AreTokens : List TokenAt → Type 0
    AreTokens tokens = Each (λ at. IsTokenSound style.names style.bodies style.texts at.token) tokens

    body_tokens : (body : Option Body) → IfSome body (λ b. AreTokens b.tokens) → AreTokens (option_map_or (λ b. b.tokens) body [])
    body_tokens None h = tt
    body_tokens (Some body) h = h

    tokens_sound : (body : BodyId) → AreTokens (tokens_of style body)
    tokens_sound body = body_tokens (slice_get style.bodies body.0) (got (λ b. AreTokens b.tokens) style.bodies body.0 sound.tokens)

    text_bytes : (text : Option (List ℕ)) → IfSome text IsByteList → IsByteList (option_map_or (λ bytes. bytes) text [])
    text_bytes None h = tt
    text_bytes (Some bytes) h = h

    text_sound : (text : TextId) → IsByteList (text_of style text)
    text_sound text = text_bytes (slice_get style.texts text.0) (got IsByteList style.texts text.0 sound.byte_texts)

    entered_sound : (target : Target) (place : Place) → IsTarget style target → AreTokens (entered_tokens style target place)
    entered_sound (Named name) place h = (h, tt)
    entered_sound (Block body) place h = tokens_sound body

    -- a configuration whose parts are well formed
    of_parts : (c : Config) → c.preamble ≡ list.preamble → Each (λ at. IsCommandSound style.names at.command) c.commands
        → AllByRecursion (IsFrameSound style) c.frames → AllByRecursion (IsValueOf style) c.stack
        → AreVariables style (names_of (opening_variables opening_global 0 style.names)) c.globals → AllByRecursion (IsEntrySound style) c.entries
        → IsPermutation (map placed (opening style list).entries) (map placed c.entries) → Formed c
    of_parts c preamble commands frames stack globals entries order =
        record { preamble = preamble; commands = commands; frames = frames; stack = stack; globals = globals; entries = entries; order = order }

    -- the parts of a step
    stopped_formed : (fault : Fault) (place : Place) (c : Config) → Formed c → Formed (stopped_by fault place c)
    stopped_formed fault place c h = of_parts _ h.preamble h.commands h.frames h.stack h.globals h.entries h.order

    frame_formed : (tokens : List TokenAt) (place : Place) (part : Part) (c : Config) → AreTokens tokens → IsPartSound style part → Formed c
        → Formed (with_frame tokens place part c)
    frame_formed tokens place part c each k h = of_parts _ h.preamble h.commands (record { tokens = each; part = k }, h.frames) h.stack h.globals h.entries h.order

    stack_formed : (stack : List Value) (c : Config) → AllByRecursion (IsValueOf style) stack → Formed c → Formed (record c { stack = stack })
    stack_formed stack c all h = of_parts _ h.preamble h.commands h.frames all h.globals h.entries h.order

    value_formed : (value : Value) (c : Config) → IsValueOf style value → Formed c → Formed (with_value value c)
    value_formed value c k h = stack_formed (value ∷ c.stack) c (k, h.stack) h

    found_formed : (value : Option Value) (place : Place) (c : Config) → IfSome value (IsValueOf style) → Formed c → Formed (with_found value place c)
    found_formed None place c k h = stopped_formed NoEntry place c h
    found_formed (Some value) place c k h = value_formed value c k h

    global_assigned : (new : Variable) (c : Config) → Has new → Formed c → Formed (record c { globals = with_variable new c.globals })
    global_assigned new c k h = of_parts _ h.preamble h.commands h.frames h.stack (variables_kept new _ c.globals k h.globals) h.entries h.order

    entry_assigned : (new : Variable) (c : Config) → Has new → Formed c
        → Formed (record c { entries = with_entry_variable new (visited_index c) c.entries })
    entry_assigned new c k h = of_parts _ h.preamble h.commands h.frames h.stack h.globals (entries_kept new (visited_index c) c.entries k h.entries) (subst (λ (l : List (Entry × ℕ)). IsPermutation (map placed (opening style list).entries) l) (sym (entries_seen placed new (visited_index c) c.entries (λ e. refl))) h.order)

    kind_assigned : (kind : Option Kind) (new : Variable) (c : Config) → Has new → Formed c → Formed (assigned_by kind new c)
    kind_assigned (Some IntEntry) new c k h = entry_assigned new c k h
    kind_assigned (Some StrEntry) new c k h = entry_assigned new c k h
    kind_assigned _ new c k h = global_assigned new c k h

    assigned_formed : (new : Option Variable) (c : Config) → IfSome new Has → Formed c → Formed (with_assigned style new c)
    assigned_formed None c k h = h
    assigned_formed (Some new) c k h = kind_assigned (kind_of style new.name) new c k h

    entered_formed : (entered : Option Entered) (place : Place) (c : Config) → IfSome entered (IsEntered style) → Formed c
        → Formed (with_entered style entered place c)
    entered_formed None place c k h = h
    entered_formed (Some entered) place c k h =
        frame_formed (entered_tokens style entered.target place) place entered.part c (entered_sound entered.target place k.target) k.part h

    effect_formed : (r : Result Effect Fault) (place : Place) (c : Config) → IfOk r (IsFine style) → Formed c → Formed (with_effect style r place c)
    effect_formed (Err fault) place c k h = stopped_formed fault place c h
    effect_formed (Ok effect) place c k h =
        entered_formed effect.entered place _ k.entered (assigned_formed effect.assigned _ k.assigned (of_parts _ h.preamble h.commands h.frames k.stack h.globals h.entries h.order))

    -- the visited entry
    visited_sound : (c : Config) → Formed c → IfSome (visited_entry c) (IsEntrySound style)
    visited_sound c h = by (visited_index c)
      where
        by : (at : Option ℕ) → IfSome (option_and_then (slice_get c.entries) at) (IsEntrySound style)
        by None = tt
        by (Some at) = all_got (IsEntrySound style) c.entries at h.entries

    call_formed : (kind : Option Kind) (name : NameId) (place : Place) (c : Config) → kind_of style name ≡ kind → Formed c
        → Formed (call_step style kind name place c)
    call_formed (Some (BuiltinKind o)) name place c is h =
        effect_formed (built_in o (context_of style c) c.stack) place c
        (fine style c.preamble _ (of_option (IsEntrySound style) (EntryFits style) (λ e. e.entry) (visited_entry c) (visited_sound c h) (λ e k. k.fits))
        sound (subst IsByteList (sym h.preamble) fits.preamble_bytes) o c.stack h.stack) h
    call_formed (Some (Wizard body)) name place c is h = frame_formed (tokens_of style body) place Whole c (tokens_sound body) tt h
    call_formed (Some Field) name place c is h =
        found_formed _ place c
        (of_option (IsEntrySound style) (IsValueOf style) (λ e. field_in name e.entry.fields) (visited_entry c) (visited_sound c h)
        (λ e k. field_value_of name e.entry.fields is k.fits.field_bytes)) h
    call_formed (Some IntEntry) name place c is h =
        found_formed _ place c
        (then_option (IsEntrySound style) (IsValueOf style) (λ e. value_at name.0 e.variables) (visited_entry c) (visited_sound c h)
        (λ e k. variable_value name.0 e.variables k.variables.values)) h
    call_formed (Some StrEntry) name place c is h =
        found_formed _ place c
        (then_option (IsEntrySound style) (IsValueOf style) (λ e. value_at name.0 e.variables) (visited_entry c) (visited_sound c h)
        (λ e k. variable_value name.0 e.variables k.variables.values)) h
    call_formed (Some IntGlobal) name place c is h = found_formed _ place c (variable_value name.0 c.globals h.globals.values) h
    call_formed (Some StrGlobal) name place c is h = found_formed _ place c (variable_value name.0 c.globals h.globals.values) h
    call_formed None name place c is h = h

    token_formed : (token : Token) (place : Place) (c : Config) → IsTokenSound style.names style.bodies style.texts token → Formed c
        → Formed (token_step style token place c)
    token_formed (IntToken n) place c k h = value_formed (Int n) c (k, tt) h
    token_formed (StrToken text) place c k h = value_formed (Str (text_of style text)) c (text_sound text, tt) h
    token_formed (Quote name) place c k h = value_formed (Func (Named name)) c (tt, k) h
    token_formed (BlockToken body) place c k h = value_formed (Func (Block body)) c (tt, k) h
    token_formed (Call name) place c k h = call_formed (kind_of style name) name place c refl h

    test_formed : (test body : Target) (place : Place) (stack : List Value) (c : Config) → IsTarget style test → IsTarget style body
        → AllByRecursion (IsValueOf style) stack → Formed c → Formed (test_ended style test body place stack c)
    test_formed test body place [] c t b all h = stopped_formed _ place c h
    test_formed test body place (Int n ∷ stack) c t b all h = by (is_positive n)
      where
        popped : Formed (record c { stack = stack })
        popped = stack_formed stack c all.1 h

        by : (v : Bool) → Formed (cond v (with_frame (entered_tokens style body place) place (Turning test body) (record c { stack = stack })) (record c { stack = stack }))
        by true = frame_formed (entered_tokens style body place) place (Turning test body) _ (entered_sound body place b) (t, b) popped
        by false = popped
    test_formed test body place (_ ∷ stack) c t b all h = stopped_formed _ place c h

    return_formed : (part : Part) (place : Place) (c : Config) → IsPartSound style part → Formed c → Formed (return_step style part place c)
    return_formed Whole place c k h = h
    return_formed (Testing test body) place c k h = test_formed test body place c.stack c k.0 k.1 h.stack h
    return_formed (Turning test body) place c k h =
        frame_formed (entered_tokens style test place) place (Testing test body) c (entered_sound test place k.0) k h

    frames_formed : (frames : List Frame) (c : Config) → AllByRecursion (IsFrameSound style) frames → Formed c → Formed (record c { frames = frames })
    frames_formed frames c all h = of_parts _ h.preamble h.commands all h.stack h.globals h.entries h.order

    inner_formed : (frame : Frame) (frames : List Frame) (tokens : List TokenAt) (c : Config) → AreTokens tokens → IsPartSound style frame.part
        → AllByRecursion (IsFrameSound style) frames → Formed c → Formed (frame_step style frame frames tokens c)
    inner_formed frame frames [] c each k outer h = return_formed frame.part frame.place _ k (frames_formed frames c outer h)
    inner_formed frame frames (t ∷ tokens) c each k outer h =
        token_formed t.token t.place _ each.0 (frames_formed (record frame { tokens = tokens } ∷ frames) c (record { tokens = each.1; part = k }, outer) h)

    -- commands
    begun_formed : (name : NameId) (place : Place) (c : Config) → name.0 < length style.names → Formed c → Formed (with_call name place c)
    begun_formed name place c k h =
        frame_formed _ place Whole _ (k, tt) tt (of_parts _ h.preamble h.commands h.frames h.stack h.globals h.entries h.order)

    abbrev AreCommands : List CommandAt → Type 0
    AreCommands commands = Each (λ at. IsCommandSound style.names at.command) commands

    left_formed : (commands : List CommandAt) (running : Bool) (visit : Option Visit) (c : Config) → AreCommands commands → Formed c
        → Formed (record c { commands = commands; running = running; visit = visit })
    left_formed commands running visit c left h = of_parts _ h.preamble left h.frames h.stack h.globals h.entries h.order

    visit_formed : (name : NameId) (place : Place) (commands : List CommandAt) (visit : Visit) (c : Config) → name.0 < length style.names
        → AreCommands commands → Formed c → Formed (visit_step name place commands visit c)
    visit_formed name place commands visit c k left h = by (nat_lt visit.visited (length c.entries))
      where
        by : (t : Bool) → Formed (cond t (with_call name place (record c { visit = Some visit })) (record c { commands = commands; visit = None }))
        by true = begun_formed name place (record c { visit = Some visit }) k (left_formed c.commands c.running (Some visit) c h.commands h)
        by false = left_formed commands c.running None c left h

    sorted_formed : (commands : List CommandAt) (c : Config) → AreCommands commands → Formed c
        → Formed (record c { commands = commands; entries = sorted c.entries })
    sorted_formed commands c left h = of_parts _ h.preamble left h.frames h.stack h.globals (sorted_all (IsEntrySound style) c.entries h.entries) (IsPermutation-trans _ (map placed c.entries) (map placed (sorted c.entries)) h.order (IsPermutation-map placed c.entries (sorted c.entries) (sorted_permutes c.entries)))

    command_formed : (command : Command) (place : Place) (commands : List CommandAt) (c : Config) → IsCommandSound style.names command
        → AreCommands commands → Formed c → Formed (command_step command place commands c)
    command_formed (Execute name) place commands c k left h = begun_formed name place c (callable_within style.names name.0 k) h
    command_formed (Iterate name) place commands c k left h =
        visit_formed name place commands (visit_of false c.visit) c (callable_within style.names name.0 k) left h
    command_formed (Reverse name) place commands c k left h =
        visit_formed name place commands (visit_of true c.visit) c (callable_within style.names name.0 k) left h
    command_formed Read place commands c k left h = left_formed commands c.running c.visit c left h
    command_formed Sort place commands c k left h = sorted_formed commands c left h
    command_formed _ place commands c k left h = left_formed commands c.running c.visit c left h

    ended_formed : (visit : Option Visit) (commands : List CommandAt) (c : Config) → AreCommands commands → Formed c
        → Formed (call_ended visit commands c)
    ended_formed None commands c left h = left_formed commands false c.visit c left h
    ended_formed (Some visit) commands c left h = left_formed c.commands false _ c h.commands h

    end_formed : (stack : List Value) (place : Place) (commands : List CommandAt) (c : Config) → AreCommands commands → Formed c
        → Formed (call_end_step stack place commands c)
    end_formed [] place commands c left h = ended_formed c.visit commands c left h
    end_formed (value ∷ stack) place commands c left h = stopped_formed _ place c h

    outer_formed : (running : Bool) (commands : List CommandAt) (c : Config) → AreCommands commands → Formed c
        → Formed (outer_step running commands c)
    outer_formed running [] c each h = h
    outer_formed true (first ∷ commands) c each h = end_formed c.stack first.place commands c each.1 h
    outer_formed false (first ∷ commands) c each h = command_formed first.command first.place commands c each.0 each.1 h

    going_formed : (frames : List Frame) (c : Config) → AllByRecursion (IsFrameSound style) frames → Formed c → Formed (going_step style frames c)
    going_formed [] c all h = outer_formed c.running c.commands c h.commands h
    going_formed (frame ∷ frames) c all h = inner_formed frame frames frame.tokens c all.0.tokens all.0.part all.1 h

    pub step_formed : (c : Config) → Formed c → Formed (step style c)
    step_formed = kept_step style Formed (λ c h. going_formed c.frames c h.frames h)

    pub run_formed : (n : ℕ) → Formed (run style list n)
    run_formed n = kept_steps style Formed step_formed n (opening style list) (opening_formed style list sound fits)
