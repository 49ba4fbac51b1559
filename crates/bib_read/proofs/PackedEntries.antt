-- Entries in one piece of memory.
use Rattle.std.proofs.Common.{arith, ◌≡◌, ℕ, zero, suc, ◌+◌, ◌-◌, ◌<◌, List, [], ◌∷◌, ◌++◌, Some, append_assoc, drop, get_or, length, slice_get, take, refl, sym, ap, subst, ◌∙◌}
use Rattle.std.proofs.Math.ListN.{get_or-append}
use Rattle.std.proofs.Math.Seq.{get_or-append_seam}
use Rattle.std.proofs.lemmas.List.{drop-append-le, length-append, length-drop, length-map, length-take, take-append-le, take_all}
use Rattle.bib_read.specs.RawEntries.{AreWithin, IsWithin, RawEntry, entries_in, entry_in}
use Rattle.bib_read.specs.RawFields.{RawField, no_field}
use Rattle.bib_read.specs.declared.row.Row.{Row}
use Rattle.bib_read.proofs.PackedFields.{with_more, without_more}

-- what is put behind an entry leaves it
entry_stays : (fields more : List RawField) (row : Row) → IsWithin fields row → entry_in (fields ++ more) row ≡ entry_in fields row
entry_stays fields more row within =
    let begin = row.begin in
    let count = row.count in
    let first : get_or (fields ++ more) begin no_field ≡ get_or fields begin no_field =
    get_or-append fields more no_field begin (omega (arith, within)) in
    let behind : take count (drop (suc begin) (fields ++ more)) ≡ take count (drop (suc begin) fields) =
    ap (λ (l : List RawField). take count l) (drop-append-le (suc begin) fields more (omega (arith, within)))
    ∙ take-append-le count (drop (suc begin) fields) more (omega (arith, within, length-drop (suc begin) fields)) in
    ap (λ (f : RawField). record { key = f.value; entry_type = f.name; fields = take count (drop (suc begin) (fields ++ more)) }) first
    ∙ ap (λ (l : List RawField). record { key = (get_or fields begin no_field).value; entry_type = (get_or fields begin no_field).name; fields = l }) behind

within_still : (fields more : List RawField) (row : Row) → IsWithin fields row → IsWithin (fields ++ more) row
within_still fields more row within = omega (arith, within, length-append fields more)

entries_stay : (fields more : List RawField) (rows : List Row) → AreWithin fields rows → entries_in (fields ++ more) rows ≡ entries_in fields rows
entries_stay fields more [] within = refl
entries_stay fields more (row ∷ rows) within =
    ap (λ (e : RawEntry). e ∷ entries_in (fields ++ more) rows) (entry_stays fields more row within.0)
    ∙ ap (λ (l : List RawEntry). entry_in fields row ∷ l) (entries_stay fields more rows within.1)

all_still : (fields more : List RawField) (rows : List Row) → AreWithin fields rows → AreWithin (fields ++ more) rows
all_still fields more [] within = tt
all_still fields more (row ∷ rows) within = (within_still fields more row within.0, all_still fields more rows within.1)

-- so it does where the fields have grown
pub entries_grown : (old new : List RawField) (rows : List Row) → take (length old) new ≡ old → AreWithin old rows
    → entries_in new rows ≡ entries_in old rows
entries_grown old new rows grown within =
    ap (λ (l : List RawField). entries_in l rows) (with_more old new grown) ∙ entries_stay old (drop (length old) new) rows within

pub within_grown : (old new : List RawField) (rows : List Row) → take (length old) new ≡ old → AreWithin old rows → AreWithin new rows
within_grown old new rows grown within =
    subst (λ (l : List RawField). AreWithin l rows) (sym (with_more old new grown)) (all_still old (drop (length old) new) rows within)

-- a row more
last_entry : (fields : List RawField) (rows : List Row) (row : Row)
    → entries_in fields (rows ++ row ∷ []) ≡ entries_in fields rows ++ entry_in fields row ∷ []
last_entry fields [] row = refl
last_entry fields (first ∷ rows) row = ap (λ (l : List RawEntry). entry_in fields first ∷ l) (last_entry fields rows row)

last_within : (fields : List RawField) (rows : List Row) (row : Row) → AreWithin fields rows → IsWithin fields row → AreWithin fields (rows ++ row ∷ [])
last_within fields [] row all one = (one, tt)
last_within fields (first ∷ rows) row all one = (all.0, last_within fields rows row all.1 one)

pub entry_added : (old new : List RawField) (rows later : List Row) (row : Row) (entry : RawEntry) → take (length old) new ≡ old
    → AreWithin old rows → later ≡ rows ++ row ∷ [] → entry_in new row ≡ entry → entries_in new later ≡ entries_in old rows ++ entry ∷ []
entry_added old new rows later row entry grown within rowed is =
    ap (λ (l : List Row). entries_in new l) rowed
    ∙ last_entry new rows row
    ∙ ap (λ (l : List RawEntry). l ++ entry_in new row ∷ []) (entries_grown old new rows grown within)
    ∙ ap (λ (e : RawEntry). entries_in old rows ++ e ∷ []) is

pub within_added : (old new : List RawField) (rows later : List Row) (row : Row) → take (length old) new ≡ old
    → AreWithin old rows → later ≡ rows ++ row ∷ [] → IsWithin new row → AreWithin new later
within_added old new rows later row grown within rowed is =
    subst (λ (l : List Row). AreWithin new l) (sym rowed) (last_within new rows row (within_grown old new rows grown within) is)

-- what grows twice has grown
pub grown_twice : {X : Type 0} (old between new : List X) → take (length old) between ≡ old → take (length between) new ≡ between
    → take (length old) new ≡ old
grown_twice old between new first second =
    without_more old new (drop (length old) between ++ drop (length between) new)
    (with_more between new second
    ∙ ap (λ l. l ++ drop (length between) new) (with_more old between first)
    ∙ append_assoc old (drop (length old) between) (drop (length between) new))

-- a list without its last item
pub without_last : (fields : List RawField) (rows left : List Row) (before : List RawEntry) (last : RawEntry)
    → left ≡ take (length rows - 1) rows → entries_in fields rows ≡ before ++ last ∷ [] → entries_in fields left ≡ before
without_last fields rows left before last cut is =
    let count : length rows ≡ length before + 1 =
    omega (arith, length-map rows (entry_in fields), ap (λ (l : List RawEntry). length l) is, length-append before (last ∷ [])) in
    ap (λ (l : List Row). entries_in fields l) cut
    ∙ first_entries rows (length rows - 1)
    ∙ ap (λ (l : List RawEntry). take (length rows - 1) l) is
    ∙ take-append-le (length rows - 1) before (last ∷ []) (omega (arith, count))
    ∙ take_all (length rows - 1) before (omega (arith, count))
  where
    first_entries : (rows : List Row) (n : ℕ) → entries_in fields (take n rows) ≡ take n (entries_in fields rows)
    first_entries rows zero = refl
    first_entries [] (suc n) = refl
    first_entries (row ∷ rows) (suc n) = ap (λ (l : List RawEntry). entry_in fields row ∷ l) (first_entries rows n)
