use Rattle.std.proofs.Common.{◌∙◌, ap, sym, position}
use Rattle.bv_base.specs.KeySets.{has_key}
use Rattle.name_table.specs.Names.{same_name}
use Rattle.bib_read.specs.Names.{entry_under, lowered_keys}
use Rattle.bib_read.proofs.Places.{found_under, has_keyed, none_under}
use Rattle.bib_read.proofs.entries.Entries.find.Goals as goal

-- the entry at the place of the key has it
pub returns-in-Some : goal.returns-in-Some
returns-in-Some c =
    let key = c.args.key.now in
    c.get.ensures
    ∙ found_under key c.args.self.now c.in-Some.at
    (ap (λ entries. position (same_name key) (lowered_keys entries)) (sym c.self.view_is)
    ∙ ap (position (same_name key)) (sym c.self.invariant)
    ∙ sym c.in-Some.ensures.place)

-- where the key has no place, no entry has it
pub returns-in-None : goal.returns-in-None
returns-in-None c =
    let key = c.args.key.now in
    sym
    (ap (entry_under key) (sym c.self.view_is)
    ∙ none_under key c.self.inside.list
    (sym (has_keyed key c.self.inside.list) ∙ ap (has_key key) (sym c.self.invariant) ∙ sym c.in-None.ensures.found))
