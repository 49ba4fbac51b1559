-- What laws on states speak of: a style, a condition, a list and a configuration, a state, what its symbols stand for, and that it is
-- well made and stands for the configuration (docs/STATES.md, "What a state stands for").
pub use Rattle.bv_base.specs.declared.place.Place.{Place}
pub use Rattle.name_table.specs.declared.builtin.Builtin.{Builtin}
pub use Rattle.name_table.specs.declared.style.Style.{Style}
pub use Rattle.bst_meaning.specs.declared.condition.Cond.{Cond}
pub use Rattle.bst_meaning.specs.EntryLists.{EntryList}
pub use Rattle.bst_meaning.specs.declared.value.Value.{Value}
pub use Rattle.bst_meaning.specs.Config.{Config}
pub use Rattle.sym_state.specs.State.{State}
pub use Rattle.sym_state.specs.Stands.{Stands}
pub use Rattle.sym_state.specs.Symbols.{Valuation}
pub use Rattle.sym_state.specs.WellMade.{WellMade}
pub use Rattle.sym_state.specs.declared.hint.Hint.{Hint}
