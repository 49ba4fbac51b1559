-- The name of the field is one more.
use Rattle.std.proofs.Common.{◌≡◌, ◌≤◌, ◌∙◌, ◌||◌, ap, drop, length, rules, subst, sym, List, ℕ}
use Rattle.bv_base.specs.KeySets.{has_key}
use Rattle.name_table.specs.Names.{same_name}
use Rattle.bib_read.specs.declared.fields.TheConstants.{FEW}
use Rattle.bib_read.specs.Names.{has_field}
use Rattle.bib_read.specs.RawFields.{RawField}
use Rattle.bib_read.proofs.FieldLists.{behind_added}
use Rattle.bib_read.proofs.fields.Fields.add_behind.Goals as goal

pub invariant_of-self-in-Ok-add : goal.invariant_of-self-in-Ok-add
invariant_of-self-in-Ok-add c = λ name.
    let field : RawField = record { name = c.args.name.now; value = c.args.value.now } in
    let late : FEW ≤ length c.self.inside.fields = subst (λ (l : List RawField). FEW ≤ length l) (sym c.self.view_is) c.requires in
    let copied : c.in_ok-key.key.items ≡ c.args.name.now = search rules in
    let added : has_key name c.add.new.self ≡ (same_name name c.args.name.now || has_key name c.self.inside.more) =
    c.in-Ok-add.ensures.members name ∙ ap (λ (key : List ℕ). same_name name key || has_key name c.self.inside.more) copied in
    behind_added FEW name c.self.inside.fields field c.self.inside.more c.add.new.self late (c.self.invariant name) added
    ∙ ap (λ (l : List RawField). has_field name (drop FEW l)) (sym c.in-Ok.ensures.ok)
