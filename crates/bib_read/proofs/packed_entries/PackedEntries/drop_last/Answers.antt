-- Without its row an entry is none of the list.
use Rattle.std.proofs.Common.{◌≡◌, ◌∙◌, ◌-◌, ap, arith, length, take, List, ℕ}
use Rattle.bib_read.specs.declared.row.Row.{Row}
use Rattle.bib_read.proofs.PackedEntries.{without_last}
use Rattle.bib_read.proofs.packed_entries.PackedEntries.drop_last.Goals as goal

pub returns : goal.returns
returns c = λ before last is.
    let rows : List Row = c.self.inside.rows.items in
    let count : c.saturating_sub.result ≡ length rows - 1 = omega (arith, c.saturating_sub.ensures, c.len.ensures) in
    without_last c.self.inside.fields rows c.truncate.new.self.items before last
    (c.truncate.ensures.items ∙ ap (λ (n : ℕ). take n rows) count) (c.self.view_is ∙ is)
