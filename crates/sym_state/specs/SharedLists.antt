-- Lists that share their beginnings.
use Rattle.std.specs.Prelude.{List, [], ◌∷◌, ◌++◌}
use Rattle.sym_state.specs.declared.shared_list.Chain.{Chain}
use Rattle.sym_state.specs.declared.shared_list.Chain.TheVariants.{End, Link'}

-- the items of a chain, the oldest first
abbrev pub items : {T : Type 0} → Chain T → List T
items End = []
items (Link' item p before) = items before ++ item ∷ []
