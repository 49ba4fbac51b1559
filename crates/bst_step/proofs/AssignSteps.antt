-- What the machine holds is moved, and the value that is second from the top is assigned.
use Rattle.std.proofs.Common.{◌≡◌, ℕ, Bool, true, false, List, [], ◌∷◌, Option, None, Some, drop, refl, sym, ap, ◌∙◌, Result, Ok, Err}
use Rattle.std.specs.Result.{OnErr, OnOk}
use Rattle.name_table.specs.declared.names.Kind.{Kind}
use Rattle.name_table.specs.declared.names.Kind.TheVariants.{Builtin, Wizard, Field, IntEntry, StrEntry, IntGlobal, StrGlobal}
use Rattle.name_table.specs.declared.names.NameId.{NameId}
use Rattle.name_table.specs.declared.style.Style.{Style}
use Rattle.bst_meaning.specs.declared.value.Value.{Value}
use Rattle.bst_meaning.specs.Config as config
use Rattle.bst_meaning.specs.Config.{Config}
use Rattle.bst_meaning.specs.Machine.{visited_index}
use Rattle.bst_meaning.specs.StyleParts.{kind_of}
use Rattle.bst_step.specs.declared.state.State.{State}
use Rattle.bst_step.specs.Moves.{is_of_entry, with_entry_assigned, with_second_assigned, with_second_cut, with_stack, with_top_assigned}
use Rattle.bst_step.specs.State.{config_of}
use Rattle.bst_step.specs.Values.{Holding, cut, given_globally, given_in_entry}

-- the stack alone is another
pub values_moved : (s : State) (v : Holding) (stack : List Value) → v.stack ≡ stack → v.globals ≡ s.values.globals → v.entries ≡ s.values.entries
    → config_of (record s { values = v }) ≡ with_stack stack (config_of s)
values_moved s v stack is globals entries =
    ap (λ (vs : List Value). let c : Config = record (config_of s) { stack = vs; globals = v.globals; entries = v.entries } in c) is
    ∙ ap (λ (gs : List config.Variable). let c : Config = record (config_of s) { stack = stack; globals = gs; entries = v.entries } in c) globals
    ∙ ap (λ (es : List config.EntryState). let c : Config = record (config_of s) { stack = stack; globals = s.values.globals; entries = es } in c) entries

pub moved_where_ok : {A E : Type 0} (s : State) (v : Holding) (stack : List Value) (r : Result A E) → OnOk r (v.stack ≡ stack)
    → v.globals ≡ s.values.globals → v.entries ≡ s.values.entries → OnOk r (config_of (record s { values = v }) ≡ with_stack stack (config_of s))
moved_where_ok s v stack (Ok a) is globals entries = values_moved s v stack is globals entries
moved_where_ok s v stack (Err e) is globals entries = tt

-- what comes to something comes to what that equals
pub comes_to : {A E X : Type 0} (r : Result A E) (new other same : X) → other ≡ same → OnOk r (new ≡ other) → OnOk r (new ≡ same)
comes_to (Ok a) new other same is comes = comes ∙ is
comes_to (Err e) new other same is comes = tt

-- what holds anyway holds where there is an error
pub anyway : {A E P : Type 0} (r : Result A E) → P → OnErr r P
anyway (Ok a) holds = tt
anyway (Err e) holds = holds

-- nothing that is seen of the values is another, and a call runs
pub call_begun : (s : State) (v : Holding) (running : Bool) → v.stack ≡ s.values.stack → v.globals ≡ s.values.globals → v.entries ≡ s.values.entries
    → config_of (record s { values = v; running = running }) ≡ record (config_of s) { running = running }
call_begun s v running stack globals entries =
    ap (λ (vs : List Value). let c : Config = record (config_of s) { running = running; stack = vs; globals = v.globals; entries = v.entries } in c) stack
    ∙ ap (λ (gs : List config.Variable). let c : Config = record (config_of s) { running = running; globals = gs; entries = v.entries } in c) globals
    ∙ ap (λ (es : List config.EntryState). let c : Config = record (config_of s) { running = running; entries = es } in c) entries

-- where no entry is visited, no variable of one has another value
pub nothing_given : (name : NameId) (stack : List Value) (entries : List config.EntryState) → given_in_entry name None stack entries ≡ entries
nothing_given name [] entries = refl
nothing_given name (value ∷ stack) entries = refl

-- the top is taken off, and given to a variable of the visited entry
entry_given : (name : NameId) (stack : List Value) (c : Config) → c.stack ≡ stack
    → record c { stack = drop 1 stack; entries = given_in_entry name (visited_index c) stack c.entries } ≡ with_entry_assigned name stack c
entry_given name [] c is = ap (λ (vs : List Value). let d : Config = record c { stack = vs } in d) (sym is)
entry_given name (value ∷ stack) c is = refl

pub entry_assigned : (s : State) (v : Holding) (name : NameId) (at : Option ℕ) → v.stack ≡ drop 1 s.values.stack → v.globals ≡ s.values.globals
    → v.entries ≡ given_in_entry name at s.values.stack s.values.entries → at ≡ visited_index (config_of s)
    → config_of (record s { values = v }) ≡ with_entry_assigned name s.values.stack (config_of s)
entry_assigned s v name at stack globals entries visited =
    ap (λ (vs : List Value). let c : Config = record (config_of s) { stack = vs; globals = v.globals; entries = v.entries } in c) stack
    ∙ ap (λ (gs : List config.Variable). let c : Config = record (config_of s) { stack = drop 1 s.values.stack; globals = gs; entries = v.entries } in c) globals
    ∙ ap (λ (es : List config.EntryState). let c : Config = record (config_of s) { stack = drop 1 s.values.stack; entries = es } in c)
    (entries ∙ ap (λ (o : Option ℕ). given_in_entry name o s.values.stack s.values.entries) visited)
    ∙ entry_given name s.values.stack (config_of s) refl

pub by_entry : (kind : Option Kind) (name : NameId) (stack : List Value) (c : Config) → is_of_entry kind ≡ true
    → with_entry_assigned name stack c ≡ with_top_assigned kind name stack c
by_entry kind name [] c is = refl
by_entry (Some IntEntry) name (value ∷ stack) c is = refl
by_entry (Some StrEntry) name (value ∷ stack) c is = refl
by_entry None name (value ∷ stack) c is = absurd (cc)
by_entry (Some (Builtin function)) name (value ∷ stack) c is = absurd (cc)
by_entry (Some (Wizard body)) name (value ∷ stack) c is = absurd (cc)
by_entry (Some Field) name (value ∷ stack) c is = absurd (cc)
by_entry (Some IntGlobal) name (value ∷ stack) c is = absurd (cc)
by_entry (Some StrGlobal) name (value ∷ stack) c is = absurd (cc)

-- the top is taken off, and given to a variable of the whole style
globally_given : (kind : Option Kind) (name : NameId) (stack : List Value) (c : Config) → is_of_entry kind ≡ false → c.stack ≡ stack
    → record c { stack = drop 1 stack; globals = given_globally name stack c.globals } ≡ with_top_assigned kind name stack c
globally_given kind name [] c other is = ap (λ (vs : List Value). let d : Config = record c { stack = vs } in d) (sym is)
globally_given (Some IntEntry) name (value ∷ stack) c other is = absurd (cc)
globally_given (Some StrEntry) name (value ∷ stack) c other is = absurd (cc)
globally_given None name (value ∷ stack) c other is = refl
globally_given (Some (Builtin function)) name (value ∷ stack) c other is = refl
globally_given (Some (Wizard body)) name (value ∷ stack) c other is = refl
globally_given (Some Field) name (value ∷ stack) c other is = refl
globally_given (Some IntGlobal) name (value ∷ stack) c other is = refl
globally_given (Some StrGlobal) name (value ∷ stack) c other is = refl

pub globally_assigned : (s : State) (v : Holding) (kind : Option Kind) (name : NameId) → is_of_entry kind ≡ false → v.stack ≡ drop 1 s.values.stack
    → v.globals ≡ given_globally name s.values.stack s.values.globals → v.entries ≡ s.values.entries
    → config_of (record s { values = v }) ≡ with_top_assigned kind name s.values.stack (config_of s)
globally_assigned s v kind name other stack globals entries =
    ap (λ (vs : List Value). let c : Config = record (config_of s) { stack = vs; globals = v.globals; entries = v.entries } in c) stack
    ∙ ap (λ (gs : List config.Variable). let c : Config = record (config_of s) { stack = drop 1 s.values.stack; globals = gs; entries = v.entries } in c) globals
    ∙ ap (λ (es : List config.EntryState). let c : Config = record (config_of s)
    { stack = drop 1 s.values.stack; globals = given_globally name s.values.stack s.values.globals; entries = es } in c) entries
    ∙ globally_given kind name s.values.stack (config_of s) other refl

-- once the name is taken off, the value is on top
second_assigned : (style : Style) (name : NameId) (stack : List Value) (c : Config)
    → with_top_assigned (kind_of style name) name (drop 1 stack) (with_stack (drop 1 stack) c) ≡ with_second_assigned style name stack c
second_assigned style name [] c = refl
second_assigned style name (b ∷ []) c = refl
second_assigned style name (b ∷ a ∷ stack) c = refl

-- the same of so many bytes of a string
second_cut : (style : Style) (name : NameId) (size : ℕ) (stack : List Value) (c : Config)
    → with_top_assigned (kind_of style name) name (cut 0 size (drop 1 stack)) (with_stack (cut 0 size (drop 1 stack)) c) ≡ with_second_cut style name size stack c
second_cut style name size [] c = refl
second_cut style name size (b ∷ []) c = refl
second_cut style name size (b ∷ a ∷ stack) c = refl

pub assigned_from_top : (style : Style) (name : NameId) (s : State) (v : Holding) (after : Config) → v.stack ≡ drop 1 s.values.stack
    → v.globals ≡ s.values.globals → v.entries ≡ s.values.entries
    → after ≡ with_top_assigned (kind_of style name) name v.stack (config_of (record s { values = v }))
    → after ≡ with_second_assigned style name s.values.stack (config_of s)
assigned_from_top style name s v after is globals entries assigned =
    assigned
    ∙ ap (λ (vs : List Value). with_top_assigned (kind_of style name) name vs (config_of (record s { values = v }))) is
    ∙ ap (λ (c : Config). with_top_assigned (kind_of style name) name (drop 1 s.values.stack) c) (values_moved s v (drop 1 s.values.stack) is globals entries)
    ∙ second_assigned style name s.values.stack (config_of s)

pub cut_from_top : (style : Style) (name : NameId) (size : ℕ) (s : State) (v : Holding) (before after : Config)
    → v.stack ≡ cut 0 size (drop 1 s.values.stack) → v.globals ≡ s.values.globals → v.entries ≡ s.values.entries → config_of s ≡ before
    → after ≡ with_top_assigned (kind_of style name) name v.stack (config_of (record s { values = v }))
    → after ≡ with_second_cut style name size before.stack before
cut_from_top style name size s v before after is globals entries first assigned =
    assigned
    ∙ ap (λ (vs : List Value). with_top_assigned (kind_of style name) name vs (config_of (record s { values = v }))) is
    ∙ ap (λ (c : Config). with_top_assigned (kind_of style name) name (cut 0 size (drop 1 s.values.stack)) c)
    (values_moved s v (cut 0 size (drop 1 s.values.stack)) is globals entries)
    ∙ second_cut style name size s.values.stack (config_of s)
    ∙ ap (λ (c : Config). with_second_cut style name size c.stack c) first
