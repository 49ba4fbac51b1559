-- Steps that are taken at once (docs/MACHINE.md, "How it is run"): what is pushed is taken off again by the function that is called behind it.
use Rattle.std.specs.Prelude.{◌≡◌, ℕ, ℤ, ◌+◌, ◌≤◌, Bool, true, false, length, nat_le, List, [], ◌∷◌, Option, None, Some, is_some, option_map}
use Rattle.bv_base.specs.declared.place.Place.{Place}
use Rattle.name_table.specs.declared.builtin.Builtin.{Builtin}
use Rattle.name_table.specs.declared.builtin.Builtin.TheVariants.{Assign, IfElse, Skip}
use Rattle.name_table.specs.declared.names.Kind.{Kind}
use Rattle.name_table.specs.declared.names.Kind.TheVariants.{Builtin as BuiltinKind, IntEntry, StrEntry, IntGlobal, StrGlobal}
use Rattle.name_table.specs.declared.names.NameId.{NameId}
use Rattle.name_table.specs.declared.style.Style.{Style}
use Rattle.name_table.specs.declared.style.Token.{Token}
use Rattle.name_table.specs.declared.style.Token.TheVariants.{Quote, Block as BlockToken, Call}
use Rattle.name_table.specs.declared.style.TokenAt.{TokenAt}
use Rattle.bst_meaning.specs.declared.value.TheConstants.{ENTRY_SIZE, GLOBAL_SIZE}
use Rattle.bst_meaning.specs.declared.value.Target.{Target}
use Rattle.bst_meaning.specs.declared.value.Target.TheVariants.{Named, Block}
use Rattle.bst_meaning.specs.declared.value.Value.{Value}
use Rattle.bst_meaning.specs.declared.value.Value.TheVariants.{Int, Str}
use Rattle.bst_meaning.specs.Builtins.{Context, built_in}
use Rattle.bst_meaning.specs.Config.{Config, Frame}
use Rattle.bst_meaning.specs.Effect.{pushed}
use Rattle.bst_meaning.specs.Machine.{steps, visited_entry}
use Rattle.bst_meaning.specs.StyleParts.{kind_of, tokens_of}
use Rattle.bst_step.specs.declared.state.State.{State}
use Rattle.bst_step.specs.MarkRules.{built_in_marks, marks_after_steps}
use Rattle.bst_step.specs.Marks.{Marks, NoString, resulting}
use Rattle.bst_step.specs.State.{config_of, LeavesRoom}

-- the function that a token pushes
abbrev pub function_of : Token → Option Target
function_of (Quote name) = Some (Named name)
function_of (BlockToken body) = Some (Block body)
function_of _ = None

-- the kind of the name that a token calls
abbrev pub kind_called : Style → Token → Option Kind
kind_called style (Call name) = kind_of style name
kind_called style _ = None

-- the first of these tokens pushes another function, the second calls `if$` at a place, and these are left then
abbrev pub Branches : Style → List TokenAt → Target → Place → List TokenAt → Type 0
Branches style (t ∷ u ∷ tokens) other place later =
    (function_of t.token ≡ Some other) × (kind_called style u.token ≡ Some (BuiltinKind IfElse)) × (u.place ≡ place) × (tokens ≡ later)
Branches style _ other place later = ⊥

-- the first of these tokens quotes a name, the second calls `:=`, and these are left then
abbrev pub Assigns : Style → List TokenAt → NameId → List TokenAt → Type 0
Assigns style (t ∷ u ∷ tokens) name later =
    (t.token ≡ Quote name) × (kind_called style u.token ≡ Some (BuiltinKind Assign)) × (tokens ≡ later)
Assigns style _ name later = ⊥

-- the first of these tokens calls a built-in function, and these are left then
abbrev pub Calls : Style → List TokenAt → Builtin → List TokenAt → Type 0
Calls style (t ∷ tokens) function later = (kind_called style t.token ≡ Some (BuiltinKind function)) × (tokens ≡ later)
Calls style _ function later = ⊥

-- a name of this kind is `skip$`
abbrev pub is_skip_kind : Option Kind → Bool
is_skip_kind (Some (BuiltinKind Skip)) = true
is_skip_kind _ = false

-- a target is `skip$`
abbrev pub is_skip : Style → Target → Bool
is_skip style (Named name) = is_skip_kind (kind_of style name)
is_skip style (Block body) = false

-- a target is a block with nothing in it
abbrev pub HasNothing : Style → Target → Type 0
HasNothing style (Named name) = ⊥
HasNothing style (Block body) = tokens_of style body ≡ []

-- a built-in function makes this one of two integers, the lower one first
abbrev pub Computes : Builtin → ℤ → ℤ → ℤ → Type 0
Computes function a b n =
    ((context : Context) (stack : List Value) → built_in function context (Int b ∷ Int a ∷ stack) ≡ pushed (Int n) stack) ×
    ((style : Style) (c : Config) (m : Marks) → built_in_marks function style c m ≡ resulting 2 NoString m)

-- the tokens that the innermost frame has left
abbrev pub front_tokens : List Frame → List TokenAt
front_tokens [] = []
front_tokens (frame ∷ frames) = frame.tokens

-- these are the tokens that the innermost frame has left, where there are some
abbrev pub AreAhead : List TokenAt → List Frame → Type 0
AreAhead [] frames = Unit {0}
AreAhead (t ∷ tokens) frames = front_tokens frames ≡ t ∷ tokens

-- the innermost frame has these tokens left
abbrev pub with_tokens : List TokenAt → List Frame → List Frame
with_tokens tokens [] = []
with_tokens tokens (frame ∷ frames) = record frame { tokens = tokens } ∷ frames

-- a variable whose name is of a kind takes the value on top of the stack as it is; that of an entry, where one is visited
abbrev pub takes_whole : Option Kind → Bool → List Value → Bool
takes_whole (Some IntGlobal) visits (Int n ∷ stack) = true
takes_whole (Some StrGlobal) visits (Str bytes ∷ stack) = nat_le (length bytes) GLOBAL_SIZE
takes_whole (Some IntEntry) true (Int n ∷ stack) = true
takes_whole (Some StrEntry) true (Str bytes ∷ stack) = nat_le (length bytes) ENTRY_SIZE
takes_whole _ _ _ = false

-- an entry is visited
abbrev pub visits : Config → Bool
visits c = is_some (option_map (λ e. e.entry) (visited_entry c))

-- so many steps of a configuration have been taken beside one of those that are left, or nothing has changed
abbrev pub Took : Style → ℕ → Option ℕ → Config → Marks → State → State → Type 0
Took style left (Some more) c m old new = (config_of new ≡ steps style more c) ×
    (new.values.marks ≡ marks_after_steps style more c m) × LeavesRoom (more + 1) old new × (more + 1 ≤ left)
Took style left None c m old new = new ≡ old

-- one step and so many more are no more than those that are left, where one is
abbrev pub IsWithin : ℕ → ℕ → Type 0
IsWithin more left = 1 ≤ left → more + 1 ≤ left
