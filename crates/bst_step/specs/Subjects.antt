-- What the contracts of the built-in functions speak of: the effect that is wanted, what a call has done against it, and the
-- configuration and the context in which it was made (docs/MACHINE.md, "The built-in functions").
pub use Rattle.bv_base.specs.declared.place.Place.{Place}
pub use Rattle.name_table.specs.declared.style.Style.{Style}
pub use Rattle.bst_meaning.specs.Effect.{pushed}
pub use Rattle.bst_meaning.specs.Operands.{one_operand, ranged, truth, two_operands}
pub use Rattle.bst_meaning.specs.Builtins.{built_in, integers, string}
pub use Rattle.bst_meaning.specs.Machine.{context_of}
pub use Rattle.bst_step.specs.Held.{value_of}
pub use Rattle.bst_step.specs.Marks.{lent_mark}
pub use Rattle.bst_step.specs.Operands.{field, integer, strings}
pub use Rattle.bst_step.specs.Effects.{Leaves, Makes}
pub use Rattle.bst_step.specs.Room.{Fits, cuts_nothing}
pub use Rattle.bst_step.specs.State.{HasRoom, LeavesRoom, config_of}
