-- Values as the machine has them.
use Rattle.std.proofs.Common.{◌≡◌, true, refl, List, ◌∷◌, Some}
use Rattle.std.specs.Prelude.{Err}
use Rattle.std.specs.Option.{option_map_or}
use Rattle.bst_meaning.specs.Builtins.{Context, built_in}
use Rattle.bst_meaning.specs.Config.{Config}
use Rattle.bst_meaning.specs.Effect.{pushed}
use Rattle.bst_meaning.specs.Machine.{call_step, visited_entry, with_found}
use Rattle.bst_meaning.specs.Operands.{truth}
use Rattle.bst_meaning.specs.declared.fault.Fault.TheVariants.{WrongKind}
use Rattle.bst_meaning.specs.declared.value.Value.{Value}
use Rattle.bst_meaning.specs.declared.value.Value.TheVariants.{Int, Str, Missing, Func}
use Rattle.bv_base.specs.declared.place.Place.{Place}
use Rattle.name_table.specs.declared.builtin.Builtin.TheVariants.{Empty}
use Rattle.name_table.specs.declared.names.Kind.{Kind}
use Rattle.name_table.specs.declared.names.Kind.TheVariants.{Field, IntEntry, StrEntry, IntGlobal, StrGlobal}
use Rattle.name_table.specs.declared.names.NameId.{NameId}
use Rattle.name_table.specs.declared.style.Style.{Style}
use Rattle.sym_state.specs.Facts.{emptiness}
use Rattle.sym_state.specs.Stands.{value_by}
use Rattle.sym_state.specs.WellMade.{takes_part}

pub emptiness_is : (context : Context) (value : Value) (stack : List Value)
    → built_in Empty context (value ∷ stack) ≡ option_map_or (λ empty. pushed (truth empty) stack) (emptiness value) (Err WrongKind)
emptiness_is context (Int n) stack = refl
emptiness_is context (Str bytes) stack = refl
emptiness_is context (Missing name) stack = refl
emptiness_is context (Func target) stack = refl

pub read_as : (style : Style) (kind : Kind) (name : NameId) (place : Place) (c : Config) → takes_part true kind ≡ true
    → call_step style (Some kind) name place c ≡ with_found (value_by (Some kind) name c.globals (visited_entry c)) place c
read_as style Field name place c e = refl
read_as style IntEntry name place c e = refl
read_as style StrEntry name place c e = refl
read_as style IntGlobal name place c e = refl
read_as style StrGlobal name place c e = refl
read_as style _ name place c e = absurd (cc)
