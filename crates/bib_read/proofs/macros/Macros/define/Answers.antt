use Rattle.std.proofs.Common.{◌≡◌, ◌∙◌, ap, map, rules}
use Rattle.bib_read.specs.Names.{defined}
use Rattle.bib_read.specs.Tables.{macro_of}
use Rattle.bib_read.proofs.Tables.{defined_inserted}
use Rattle.bib_read.proofs.macros.Macros.define.Goals as goal

pub returns : goal.returns
returns c =
    let named : c.in_ok-name.name.items ≡ c.args.name.now = search rules in
    let valued : c.in_ok-value.value.items ≡ c.args.value.now = search rules in
    ap (map macro_of) c.in-Ok.ensures.entries
    ∙ defined_inserted c.in_ok-name.name c.in_ok-value.value c.self.inside.table.entries
    ∙ ap (λ n. defined n c.in_ok-value.value.items (map macro_of c.self.inside.table.entries)) named
    ∙ ap (λ v. defined c.args.name.now v (map macro_of c.self.inside.table.entries)) valued
    ∙ ap (defined c.args.name.now c.args.value.now) c.self.view_is
