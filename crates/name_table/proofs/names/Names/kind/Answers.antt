use Rattle.std.proofs.Common.{ap, sym, ◌∙◌}
use Rattle.std.specs.Map.Iter.{deref_pair}
use Rattle.std.specs.Option.{option_map}
use Rattle.std.proofs.lemmas.Option.{slice_get-map}
use Rattle.name_table.specs.Names.{kind_at}
use Rattle.name_table.proofs.Found.{seen}
use Rattle.name_table.proofs.names.Names.kind.Goals as goal

pub returns-in-Some : goal.returns-in-Some
returns-in-Some c =
    sym (ap (kind_at c.args.id) c.self.view_is)
    ∙ ap (option_map (λ e. e.1)) (slice_get-map seen c.self.inside.table.entries c.args.id.0)
    ∙ ap (λ o. option_map (λ e. e.1) (option_map seen o)) (sym c.get_index.ensures.entry)
    ∙ ap (λ o. option_map (λ e. e.1) (option_map seen (option_map deref_pair o))) c.in-Some.is
