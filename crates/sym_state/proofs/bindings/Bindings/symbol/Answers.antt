use Rattle.std.proofs.Common.{ap, sym, ◌∙◌, Some, nat_eq, option_map, reverse}
use Rattle.std.specs.List.{find}
use Rattle.std.specs.Option.{option_map_or}
use Rattle.sym_state.specs.Changes.{symbol_at}
use Rattle.sym_state.proofs.Rebound.{symbol_found}
use Rattle.sym_state.proofs.bindings.Bindings.symbol.Goals as goal

pub returns-in-Some : goal.returns-in-Some
returns-in-Some c =
    ap Some c.newest.ensures
    ∙ ap (option_map (λ s. option_map_or (λ b. b.sym) (find (λ b. nat_eq b.name.0 c.args.name.0) (reverse c.self.inside.changes)) s)) (sym c.in-Some.is)
    ∙ symbol_found c.args.name (reverse c.self.inside.changes) c.self.inside.first.value c.symbol_at.result
    (c.symbol_at.ensures ∙ ap (symbol_at c.args.name) (c.as_slice.ensures ∙ c.deref.ensures))
    ∙ ap (symbol_at c.args.name) c.self.view_is

pub returns-in-None : goal.returns-in-None
returns-in-None c =
    ap (option_map (λ s. option_map_or (λ b. b.sym) (find (λ b. nat_eq b.name.0 c.args.name.0) (reverse c.self.inside.changes)) s)) (sym c.in-None.is)
    ∙ symbol_found c.args.name (reverse c.self.inside.changes) c.self.inside.first.value c.symbol_at.result
    (c.symbol_at.ensures ∙ ap (symbol_at c.args.name) (c.as_slice.ensures ∙ c.deref.ensures))
    ∙ ap (symbol_at c.args.name) c.self.view_is
