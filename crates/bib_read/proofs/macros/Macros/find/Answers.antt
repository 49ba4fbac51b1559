use Rattle.std.proofs.Common.{◌∙◌, ap, ℕ, Some}
use Rattle.std.specs.Global.{Vec}
use Rattle.std.specs.Option.{option_map}
use Rattle.bib_read.specs.Names.{value_of}
use Rattle.bib_read.proofs.Tables.{value_of_lookup}
use Rattle.bib_read.proofs.macros.Macros.find.Goals as goal

pub returns-in-Some : goal.returns-in-Some
returns-in-Some c =
    ap Some c.as_slice.ensures.value
    ∙ ap (option_map (λ (v : Vec ℕ). v.items)) c.in-Some.ensures.value
    ∙ value_of_lookup c.args.name.now c.self.inside.table.entries
    ∙ ap (value_of c.args.name.now) c.self.view_is

pub returns-in-None : goal.returns-in-None
returns-in-None c =
    ap (option_map (λ (v : Vec ℕ). v.items)) c.in-None.ensures.value
    ∙ value_of_lookup c.args.name.now c.self.inside.table.entries
    ∙ ap (value_of c.args.name.now) c.self.view_is
