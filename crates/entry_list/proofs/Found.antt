-- Each entry of a joined list is the one that the databases have under its key.
use Rattle.std.proofs.Common.{◌≡◌, ℕ, Bool, true, false, cond, not, ◌&&◌, eq-eqb, List, [], ◌∷◌, ◌++◌, Option, Some, None, map, refl, sym, ap, ◌∙◌, append_assoc, subst}
use Rattle.std.specs.Prelude.{filter}
use Rattle.std.specs.Cmp.Lexicographic.{same_text}
use Rattle.std.specs.List.{AllByRecursion}
use Rattle.std.specs.Option.{option_and_then, option_map, option_to_list}
use Rattle.std.proofs.lemmas.Bool.{or_parts}
use Rattle.name_table.specs.Names.{same_name, lowered}
use Rattle.aux_read.specs.declared.aux.AuxItem.{AuxItem}
use Rattle.aux_read.specs.declared.aux.AuxItem.TheVariants.{All, Cite, Input}
use Rattle.bib_read.specs.Additions.{AreNew}
use Rattle.bib_read.specs.Names.{has_entry}
use Rattle.bib_read.specs.RawEntries.{RawEntry}
use Rattle.entry_list.specs.Apart.{IsFrom}
use Rattle.entry_list.specs.Citing.{asked_for, asks_same, cited_as, cited_list, is_cited}
use Rattle.entry_list.specs.Keys.{Listed, entry_of, firsts, own, same_key}
use Rattle.entry_list.specs.Parents.{appended, crossref_of, is_wanted, parent_of, parents_of, same_listed, whole_list}
use Rattle.entry_list.proofs.Keyed.{all_append, all_filter, all_firsts, all_flat_map}

name_refl : (name : List ℕ) → same_name name name ≡ true
name_refl [] = refl
name_refl (b ∷ name) = ap (λ v. v && same_name name name) (eq-eqb b b refl) ∙ name_refl name

pub key_refl : (key : List ℕ) → same_key key key ≡ true
key_refl key = name_refl (lowered key)

pub key_equal : (a b : List ℕ) → same_key a b ≡ true → lowered a ≡ lowered b
key_equal a b same = same_text (lowered a) (lowered b) (sym same)

-- two keys that aren't equal aren't equal the other way round
pub key_apart : (a b : List ℕ) → same_key a b ≡ false → same_key b a ≡ false
key_apart a b apart = by (same_key b a) refl
  where
    by : (v : Bool) → same_key b a ≡ v → v ≡ false
    by false e = refl
    by true e =
        sym (key_refl a) ∙ ap (λ t. same_name (lowered a) t) (sym (key_equal b a e)) ∙ apart

entry_past : (key : List ℕ) (before rest : List RawEntry) → has_entry (lowered key) before ≡ false
    → entry_of key (before ++ rest) ≡ entry_of key rest
entry_past key [] rest none = refl
entry_past key (e ∷ before) rest none =
    let apart = or_parts (same_key key e.key) (has_entry (lowered key) before) none in
    ap (λ v. cond v (Some e) (entry_of key (before ++ rest))) apart.0 ∙ entry_past key before rest apart.1

all_found : (before rest : List RawEntry) → AreNew before rest → AllByRecursion (λ e. entry_of e.key (before ++ rest) ≡ Some e) rest
all_found before [] new = tt
all_found before (e ∷ rest) new = (
  entry_past e.key before (e ∷ rest) new.1 ∙ ap (λ v. cond v (Some e) (entry_of e.key rest)) (key_refl e.key),
  subst (λ l. AllByRecursion (λ x. entry_of x.key l ≡ Some x) rest) (append_assoc before (e ∷ []) rest)
      (all_found (before ++ e ∷ []) rest new.2),
)

own_from : (entries es : List RawEntry) → AllByRecursion (λ e. entry_of e.key entries ≡ Some e) es
    → AllByRecursion (IsFrom entries) (map own es)
own_from entries [] found = tt
own_from entries (e ∷ es) found = (found.0, own_from entries es found.1)

entry_same : (a b : List ℕ) → lowered a ≡ lowered b → (entries : List RawEntry) → entry_of a entries ≡ entry_of b entries
entry_same a b e [] = refl
entry_same a b e (first ∷ entries) =
    ap (λ t. cond (same_name t (lowered first.key)) (Some first) (entry_of a entries)) e
    ∙ ap (λ o. cond (same_key b first.key) (Some first) o) (entry_same a b e entries)

found_key : (name : List ℕ) (entries : List RawEntry) (parent : RawEntry) → entry_of name entries ≡ Some parent
    → lowered name ≡ lowered parent.key
found_key name [] parent found = absurd cc
found_key name (first ∷ entries) parent found = by (same_key name first.key) refl found (found_key name entries parent)
  where
    by : (v : Bool) → same_key name first.key ≡ v → cond v (Some first) (entry_of name entries) ≡ Some parent
        → (entry_of name entries ≡ Some parent → lowered name ≡ lowered parent.key) → lowered name ≡ lowered parent.key
    by true same is later = let e : first ≡ parent = cc in key_equal name first.key same ∙ ap (λ p. lowered p.key) e
    by false same is later = later is

cited_from : (entries : List RawEntry) (key : List ℕ) (o : Option RawEntry) → entry_of key entries ≡ o
    → AllByRecursion (IsFrom entries) (option_to_list (option_map (cited_as key) o))
cited_from entries key None is = tt
cited_from entries key (Some e) is = (is, tt)

asked_from : (items : List AuxItem) (entries : List RawEntry) → AreNew [] entries → (item : AuxItem) → Unit {0}
    → AllByRecursion (IsFrom entries) (asked_for items entries item)
asked_from items entries new (Cite key) t = cited_from entries key (entry_of key entries) refl
asked_from items entries new All t =
    own_from entries (filter (λ e. not (is_cited e.key items)) entries)
    (all_filter (λ e. entry_of e.key entries ≡ Some e) (λ e. not (is_cited e.key items)) entries (all_found [] entries new))
asked_from items entries new (Input _ _) t = tt

found_from : (entries : List RawEntry) (name : List ℕ) (o : Option RawEntry) → entry_of name entries ≡ o
    → AllByRecursion (IsFrom entries) (option_to_list (option_map own o))
found_from entries name None is = tt
found_from entries name (Some parent) is =
    (sym (entry_same name parent.key (found_key name entries parent is) entries) ∙ is, tt)

parent_from : (entries : List RawEntry) (o : Option (List ℕ))
    → AllByRecursion (IsFrom entries) (option_to_list (option_map own (option_and_then (λ name. entry_of name entries) o)))
parent_from entries None = tt
parent_from entries (Some name) = found_from entries name (entry_of name entries) refl

parents_from : (entries : List RawEntry) (list : List Listed) → AllByRecursion (IsFrom entries) (parents_of entries list)
parents_from entries [] = tt
parents_from entries (l ∷ list) =
    all_append (IsFrom entries) (option_to_list (option_map own (parent_of entries l.entry))) (parents_of entries list)
    (parent_from entries (crossref_of l.entry)) (parents_from entries list)

all_any : {X : Type 0} (xs : List X) → AllByRecursion (λ _. Unit {0}) xs
all_any [] = tt
all_any (x ∷ xs) = (tt, all_any xs)

pub whole_from : (items : List AuxItem) (entries : List RawEntry) → AreNew [] entries
    → AllByRecursion (IsFrom entries) (whole_list items entries)
whole_from items entries new =
    let list = cited_list items entries in
    all_append (IsFrom entries) list (appended entries list)
    (all_flat_map (λ _. Unit {0}) (IsFrom entries) (asked_for items entries) (asked_from items entries new)
    (firsts asks_same items) (all_any (firsts asks_same items)))
    (all_filter (IsFrom entries) (is_wanted (parents_of entries list) list) (firsts same_listed (parents_of entries list))
    (all_firsts (IsFrom entries) same_listed (parents_of entries list) (parents_from entries list)))
