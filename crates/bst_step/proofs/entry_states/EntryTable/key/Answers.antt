-- The key is that of the entry at the place in the list.
use Rattle.std.proofs.Common.{◌∙◌, [], Option, ap}
use Rattle.std.specs.Option.{option_map_or}
use Rattle.bst_meaning.specs.EntryLists.{Entry}
use Rattle.bst_step.proofs.RowSteps.{key_there}
use Rattle.bst_step.proofs.entry_states.EntryTable.key.Goals as goal

pub returns-in-Some : goal.returns-in-Some
returns-in-Some c =
    λ pool. c.key.ensures
    ∙ ap (λ (o : Option Entry). option_map_or (λ (e : Entry). e.key) o []) c.in-Some.ensures
    ∙ key_there pool _ _ _ _ _ _ c.args.position c.self.invariant.0 c.self.view_is

pub returns-in-None : goal.returns-in-None
returns-in-None c =
    λ pool. ap (λ (o : Option Entry). option_map_or (λ (e : Entry). e.key) o []) c.in-None.ensures
    ∙ key_there pool _ _ _ _ _ _ c.args.position c.self.invariant.0 c.self.view_is
