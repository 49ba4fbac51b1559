-- The fields of a style.
use Rattle.std.proofs.Common.{◌≡◌, ℕ, ◌+◌, List, [], ◌∷◌, ◌++◌, Option, Some, None, map, drop, refl, sym, ap, ◌∙◌, append_assoc}
use Rattle.std.specs.Prelude.{slice_get}
use Rattle.std.specs.Option.{option_map}
use Rattle.std.proofs.lemmas.Option.{get_or_from_slice_get, slice_get_within}
use Rattle.name_table.specs.declared.names.Kind.{Kind}
use Rattle.name_table.specs.declared.names.Kind.TheVariants.{Field}
use Rattle.bst_meaning.specs.Entries.{field_ids_at, field_ids_from}
use Rattle.entry_list.specs.Fields.{Declared, declared_at, declared_from}
use Rattle.entry_list.proofs.Lists.{drop_item}

both : (o : Option (List ℕ × Kind)) (name : List ℕ) (kind : Kind) → option_map (λ e. e.0) o ≡ Some name
    → option_map (λ e. e.1) o ≡ Some kind → o ≡ Some (name, kind)
both None name kind named is = absurd cc
both (Some e) name kind named is =
    let a : e.0 ≡ name = cc in
    let b : e.1 ≡ kind = cc in
    ap (λ n. Some (n, e.1)) a ∙ ap (λ k. Some (name, k)) b

-- the name with an id stands next
pub name_next : (names : List (List ℕ × Kind)) (i : ℕ) (name : List ℕ) (kind : Kind)
    → option_map (λ e. e.0) (slice_get names i) ≡ Some name → option_map (λ e. e.1) (slice_get names i) ≡ Some kind
    → drop i names ≡ (name, kind) ∷ drop (i + 1) names
name_next names i name kind named is =
    let got = both (slice_get names i) name kind named is in
    drop_item names i (name, kind) (slice_get_within names i (name, kind) got)
    (sym (get_or_from_slice_get names i (name, kind) (name, kind) got))

parted : (id : ℕ) (name : List ℕ) (kind : Kind) (later : List Declared)
    → declared_at id name kind [] ++ later ≡ declared_at id name kind later
parted id name Field later = refl
parted id name _ later = refl

pub declared_step : (names : List (List ℕ × Kind)) (i : ℕ) (name : List ℕ) (kind : Kind) (before after : List Declared)
    → drop i names ≡ (name, kind) ∷ drop (i + 1) names → after ≡ before ++ declared_at i name kind []
    → after ++ declared_from (i + 1) (drop (i + 1) names) ≡ before ++ declared_from i (drop i names)
declared_step names i name kind before after at is =
    let later = declared_from (i + 1) (drop (i + 1) names) in
    ap (λ l. l ++ later) is
    ∙ append_assoc before (declared_at i name kind []) later
    ∙ ap (λ l. before ++ l) (parted i name kind later)
    ∙ ap (λ l. before ++ declared_from i l) (sym at)

one_id : (id : ℕ) (name : List ℕ) (kind : Kind) (later : List Declared)
    → map (λ d. d.id) (declared_at id name kind later) ≡ field_ids_at id kind (map (λ d. d.id) later)
one_id id name Field later = refl
one_id id name _ later = refl

-- the ids of the fields are the fields' ids
pub declared_ids : (id : ℕ) (names : List (List ℕ × Kind)) → map (λ d. d.id) (declared_from id names) ≡ field_ids_from id names
declared_ids id [] = refl
declared_ids id (name ∷ names) =
    one_id id name.0 name.1 (declared_from (id + 1) names)
    ∙ ap (field_ids_at id name.1) (declared_ids (id + 1) names)
