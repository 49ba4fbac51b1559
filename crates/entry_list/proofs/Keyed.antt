-- Each key of the joined list is a key.
use Rattle.std.proofs.Common.{arith, ◌≡◌, ℕ, zero, suc, ◌<◌, get_or, length, Bool, true, false, cond, not, List, [], ◌∷◌, ◌++◌, Option, Some, None, map}
use Rattle.std.specs.Prelude.{filter, flat_map}
use Rattle.std.specs.List.{AllByRecursion, list_all}
use Rattle.std.specs.Option.{option_and_then, option_map, option_to_list}
use Rattle.aux_read.specs.declared.aux.AuxItem.{AuxItem}
use Rattle.aux_read.specs.declared.aux.AuxItem.TheVariants.{Cite, All, Input}
use Rattle.aux_read.specs.Keys.{HaveKeys}
use Rattle.bib_read.specs.Additions.{AreKeyed}
use Rattle.bib_read.specs.RawEntries.{RawEntry}
use Rattle.bv_base.specs.Keys.{IsKey}
use Rattle.entry_list.specs.Citing.{asks_same, asked_for, cited_as, cited_list, is_cited}
use Rattle.entry_list.specs.Keys.{AreCitations, IsCitation, Listed, entry_of, firsts, is_no_input, own, same_key}
use Rattle.entry_list.specs.Parents.{appended, crossref_of, is_wanted, parent_of, parents_of, same_listed, whole_list}

pub all_append : {X : Type 0} (P : X → Type 0) (xs ys : List X) → AllByRecursion P xs → AllByRecursion P ys
    → AllByRecursion P (xs ++ ys)
all_append P [] ys a b = b
all_append P (x ∷ xs) ys a b = (a.0, all_append P xs ys a.1 b)

pub all_filter : {X : Type 0} (P : X → Type 0) (p : X → Bool) (xs : List X) → AllByRecursion P xs → AllByRecursion P (filter p xs)
all_filter P p [] a = tt
all_filter {X} P p (x ∷ xs) a = by (p x) (all_filter P p xs a.1)
  where
    by : (b : Bool) → AllByRecursion P (filter p xs) → AllByRecursion P (cond b (x ∷ filter p xs) (filter p xs))
    by true rest = (a.0, rest)
    by false rest = rest

pub all_firsts : {X : Type 0} (P : X → Type 0) (same : X → X → Bool) (xs : List X) → AllByRecursion P xs
    → AllByRecursion P (firsts same xs)
all_firsts P same [] a = tt
all_firsts P same (x ∷ xs) a = (a.0, all_filter P _ (firsts same xs) (all_firsts P same xs a.1))

pub all_flat_map : {X Y : Type 0} (Q : X → Type 0) (P : Y → Type 0) (f : X → List Y) → ((x : X) → Q x → AllByRecursion P (f x))
    → (xs : List X) → AllByRecursion Q xs → AllByRecursion P (flat_map f xs)
all_flat_map Q P f each [] a = tt
all_flat_map Q P f each (x ∷ xs) a = all_append P (f x) (flat_map f xs) (each x a.0) (all_flat_map Q P f each xs a.1)

pub all_at : {X : Type 0} (P : X → Type 0) (xs : List X) (i : ℕ) (d : X) → AllByRecursion P xs → i < length xs → P (get_or xs i d)
all_at P [] i d all within = absurd (omega (arith, within))
all_at P (x ∷ xs) zero d all within = all.0
all_at P (x ∷ xs) (suc i) d all within = all_at P xs i d all.1 (omega (arith, within))

-- an entry of a list has a key
abbrev pub IsKeyed : Listed → Type 0
IsKeyed listed = IsKey listed.key

own_keyed : (entries : List RawEntry) → AreKeyed entries → AllByRecursion IsKeyed (map own entries)
own_keyed [] a = tt
own_keyed (e ∷ entries) a = (a.0, own_keyed entries a.1)

found_keyed : (key : List ℕ) (entries : List RawEntry) → AreKeyed entries
    → AllByRecursion IsKeyed (option_to_list (option_map own (entry_of key entries)))
found_keyed key [] a = tt
found_keyed key (e ∷ entries) a = by (same_key key e.key) (found_keyed key entries a.1)
  where
    by : (b : Bool) → AllByRecursion IsKeyed (option_to_list (option_map own (entry_of key entries)))
        → AllByRecursion IsKeyed (option_to_list (option_map own (cond b (Some e) (entry_of key entries))))
    by true rest = (a.0, tt)
    by false rest = rest

cited_keyed : (key : List ℕ) (o : Option RawEntry) → IsKey key
    → AllByRecursion IsKeyed (option_to_list (option_map (cited_as key) o))
cited_keyed key None is = tt
cited_keyed key (Some e) is = (is, tt)

asked_keyed : (items : List AuxItem) (entries : List RawEntry) → AreKeyed entries → (item : AuxItem) → IsCitation item
    → AllByRecursion IsKeyed (asked_for items entries item)
asked_keyed items entries keyed (Cite key) is = cited_keyed key (entry_of key entries) is
asked_keyed items entries keyed All is =
    own_keyed (filter (λ e. not (is_cited e.key items)) entries) (all_filter (λ e. IsKey e.key) (λ e. not (is_cited e.key items)) entries keyed)
asked_keyed items entries keyed (Input _ _) is = absurd is

parent_keyed : (entries : List RawEntry) → AreKeyed entries → (o : Option (List ℕ))
    → AllByRecursion IsKeyed (option_to_list (option_map own (option_and_then (λ name. entry_of name entries) o)))
parent_keyed entries keyed None = tt
parent_keyed entries keyed (Some name) = found_keyed name entries keyed

parents_keyed : (entries : List RawEntry) → AreKeyed entries → (list : List Listed)
    → AllByRecursion IsKeyed (parents_of entries list)
parents_keyed entries keyed [] = tt
parents_keyed entries keyed (l ∷ list) =
    all_append IsKeyed (option_to_list (option_map own (parent_of entries l.entry))) (parents_of entries list)
    (parent_keyed entries keyed (crossref_of l.entry)) (parents_keyed entries keyed list)

pub whole_keyed : (items : List AuxItem) (entries : List RawEntry) → AreCitations items → AreKeyed entries
    → AllByRecursion IsKeyed (whole_list items entries)
whole_keyed items entries cited keyed =
    let list = cited_list items entries in
    all_append IsKeyed list (appended entries list)
    (all_flat_map IsCitation IsKeyed (asked_for items entries) (asked_keyed items entries keyed) (firsts asks_same items)
    (all_firsts IsCitation asks_same items cited))
    (all_filter IsKeyed (is_wanted (parents_of entries list) list) (firsts same_listed (parents_of entries list))
    (all_firsts IsKeyed same_listed (parents_of entries list) (parents_keyed entries keyed list)))

-- requests that have keys, and none of which is for a further file, are citations
pub citations_of : (items : List AuxItem) → HaveKeys items → list_all is_no_input items ≡ true → AreCitations items
citations_of [] keys none = tt
citations_of (Cite key ∷ items) keys none = (keys.0, citations_of items keys.1 none)
citations_of (All ∷ items) keys none = (tt, citations_of items keys.1 none)
citations_of (Input _ _ ∷ items) keys none = absurd cc
