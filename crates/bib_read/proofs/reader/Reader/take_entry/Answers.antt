use Rattle.std.proofs.Common.{◌≡◌, ◌∙◌, List, ℕ, ap, length, sym}
use Rattle.bib_read.specs.Names.{has_entry}
use Rattle.bib_read.specs.Progress.{Progress}
use Rattle.bib_read.specs.Progressing.{progress_of}
use Rattle.bib_read.specs.RawEntries.{RawEntry}
use Rattle.bib_read.proofs.Kept.{entries_stay}
use Rattle.bib_read.proofs.reader.Reader.take_entry.Goals as goal

-- the fields that were read between leave the entries as they were, none of which has the key
pub add_entry-requires-clause-fresh : goal.add_entry-requires-clause-fresh
add_entry-requires-clause-fresh c =
    let key = c.in_ok-lowered_key.lowered_key.items in
    let entries : List RawEntry = c.args.self.now.entries in
    let left = c.split_at.result.1.now in
    let before : Progress = record (progress_of c.args.self.now) { left = left; fields = c.clear.new.self } in
    let same : c.take_fields.new.self.entries ≡ entries =
    entries_stay (length left) c.args.close c.split_at.result.0.now before (progress_of c.take_fields.new.self)
    c.in_ok-take_fields.ensures in
    ap (has_entry key) same
    ∙ ap (λ (k : List ℕ). has_entry k entries) (sym c.as_slice.ensures.value)
    ∙ sym c.has.ensures
    ∙ c.if-has.false
