-- What a built-in function leaves as it was (docs/MACHINE.md, "The built-in functions").
use Rattle.std.specs.Prelude.{◌≡◌, ◌≢◌, ℕ, Bool, true, false, nat_eq, List, ◌∷◌, map, Option, None, Some, IfSome, slice_get}
use Rattle.name_table.specs.declared.builtin.Builtin.{Builtin}
use Rattle.name_table.specs.declared.builtin.Builtin.TheVariants as op
use Rattle.name_table.specs.declared.names.NameId.{NameId}
use Rattle.bst_meaning.specs.EntryLists.{Entry}
use Rattle.bst_meaning.specs.declared.value.Target.TheVariants.{Named}
use Rattle.bst_meaning.specs.declared.value.Value.{Value}
use Rattle.bst_meaning.specs.declared.value.Value.TheVariants.{Func}
use Rattle.bst_meaning.specs.Config.{Config, EntryState}
use Rattle.bst_meaning.specs.Effect.{Effect}
use Rattle.bst_meaning.specs.Machine.{value_at, visited_index}

-- a built-in function that enters no function
abbrev pub is_plain : Builtin → Bool
is_plain op.CallType = false
is_plain op.IfElse = false
is_plain op.WhileDo = false
is_plain _ = true

-- the built-in function is `:=`
abbrev pub is_assign : Builtin → Bool
is_assign op.Assign = true
is_assign _ = false

-- the name on top of the stack
abbrev pub name_on_top : List Value → Option NameId
name_on_top (Func (Named name) ∷ stack) = Some name
name_on_top _ = None

-- what an effect does beside the stack and what it writes and logs: that of a plain function enters nothing, and `:=` alone
-- assigns, to the variable whose name is on top of the stack
pub record IsConfined (op : Builtin) (stack : List Value) (effect : Effect) : Type 0 where
  pub entered : is_plain op ≡ true → effect.entered ≡ None
  pub assigned : IfSome effect.assigned (λ new. (is_assign op ≡ true) × (name_on_top stack ≡ Some new.name))

-- an id other than that of the name on top of the stack
abbrev pub IsOther : ℕ → List Value → Type 0
IsOther id stack = (name : NameId) → name_on_top stack ≡ Some name → nat_eq id name.0 ≡ false

-- an entry and its position, without its variables
abbrev pub placed : EntryState → Entry × ℕ
placed e = (e.entry, e.position)

-- what a built-in function leaves as it was: all but the stack, the events, the log and the fault, a frame that is entered, and
-- the variable that `:=` assigns, which is a global one or the visited entry's
pub record IsKept (op : Builtin) (before after : Config) : Type 0 where
  pub preamble : after.preamble ≡ before.preamble
  pub commands : after.commands ≡ before.commands
  pub running : after.running ≡ before.running
  pub visit : after.visit ≡ before.visit
  pub frames : is_plain op ≡ true → after.frames ≡ before.frames
  pub globals : is_assign op ≡ false → after.globals ≡ before.globals
  pub other_globals : (id : ℕ) → IsOther id before.stack → value_at id after.globals ≡ value_at id before.globals
  pub entries : is_assign op ≡ false → after.entries ≡ before.entries
  pub order : map placed after.entries ≡ map placed before.entries
  pub other_entries : (at : ℕ) → visited_index before ≢ Some at → slice_get after.entries at ≡ slice_get before.entries at
  pub other_variables : (id : ℕ) → IsOther id before.stack
      → map (λ e. value_at id e.variables) after.entries ≡ map (λ e. value_at id e.variables) before.entries
