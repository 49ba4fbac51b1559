-- Skeletons of states (docs/ANALYSER.md, "Loops"): the length of the stack with each symbol's kind and exact function.
use Rattle.std.specs.Prelude.{◌≡◌, ℕ, ◌<◌, Bool, true, false, ◌&&◌, ◌||◌, nat_eq, if◌then◌else◌, List, [], ◌∷◌, ◌++◌, length, map, Option, None, Some, IfSome}
use Rattle.std.specs.List.{filter, fold, list_any}
use Rattle.std.specs.Option.{option_and_then}
use Rattle.std.specs.Cmp.Lexicographic.{pointwise}
use Rattle.name_table.specs.Sound.{block_of}
use Rattle.name_table.specs.declared.names.NameId.{NameId}
use Rattle.name_table.specs.declared.style.BodyId.{BodyId}
use Rattle.name_table.specs.declared.style.Style.{Style}
use Rattle.sym_state.specs.Decided.{exact_function, includes, known_kind, name_of, number_of}
use Rattle.sym_state.specs.State.{State}
use Rattle.sym_state.specs.declared.symbol.Kinds.{Kinds}
use Rattle.sym_state.specs.declared.symbol.Sym.{Sym}
use Rattle.loop_templates.specs.declared.skeletons.Bone.{Bone}

-- what there is of each symbol on a stack, from the bottom on
abbrev pub Skeleton : Type 0
Skeleton = List Bone

-- that of a symbol in a state: its kind, and the name or the number of the function that it exactly is
abbrev pub bone_of : State → Sym → Bone
bone_of state s = record {
  kind = known_kind state.facts s.0;
  name = option_and_then name_of (exact_function state.facts s.0);
  block = option_and_then number_of (exact_function state.facts s.0);
}

-- its name and its block are the style's
pub record IsBoneOf (style : Style) (bone : Bone) : Type 0 where
  pub name : IfSome bone.name (λ name. name.0 < length style.names)
  pub block : IfSome bone.block (λ number. (body : BodyId) × (block_of body style.bodies ≡ Some (Some number)))

-- the skeleton of a state
abbrev pub skeleton : State → Skeleton
skeleton state = map (bone_of state) state.stack

-- two kinds are one where each includes the other
abbrev pub same_kind : Kinds → Kinds → Bool
same_kind a b = includes a b && includes b a

-- two names that may be there are one, or neither is there
abbrev pub same_name : Option NameId → Option NameId → Bool
same_name None None = true
same_name (Some a) (Some b) = nat_eq a.0 b.0
same_name _ other = false

-- the same of two numbers of blocks
abbrev pub same_block : Option ℕ → Option ℕ → Bool
same_block None None = true
same_block (Some a) (Some b) = nat_eq a b
same_block _ other = false

-- two symbols are of one kind, and exactly one function or none
abbrev pub same_bone : Bone → Bone → Bool
same_bone a b = same_kind a.kind b.kind && (same_name a.name b.name && same_block a.block b.block)

-- two skeletons are one
abbrev pub same_skeleton : Skeleton → Skeleton → Bool
same_skeleton a b = pointwise same_bone a b

-- a skeleton is among these
abbrev pub is_among : List Skeleton → Skeleton → Bool
is_among skeletons one = list_any (same_skeleton one) skeletons

-- new skeletons with one more, where it is neither known nor among them
abbrev pub with_new : List Skeleton → List Skeleton → Skeleton → List Skeleton
with_new known new one = if is_among known one || is_among new one then new else new ++ one ∷ []

-- the skeletons of states that aren't known, each once, in the order in which they come
abbrev pub new_skeletons : List Skeleton → List State → List Skeleton
new_skeletons known states = fold (λ new state. with_new known new (skeleton state)) [] states

-- the states that have a skeleton
abbrev pub states_of : Skeleton → List State → List State
states_of one states = filter (λ state. same_skeleton one (skeleton state)) states
