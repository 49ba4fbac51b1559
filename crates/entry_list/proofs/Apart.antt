-- No two entries of a joined list have one key.
use Rattle.std.proofs.Common.{◌≡◌, ℕ, Bool, true, false, cond, not, ◌||◌, ◌&&◌, List, [], ◌∷◌, ◌++◌, Option, Some, None, map, refl, sym, ap, ◌∙◌, subst}
use Rattle.std.specs.Prelude.{filter, flat_map}
use Rattle.std.specs.List.{AllByRecursion}
use Rattle.std.specs.Option.{option_map, option_to_list}
use Rattle.std.proofs.lemmas.Bool.{not-true, or_parts}
use Rattle.name_table.specs.Names.{same_name, lowered}
use Rattle.aux_read.specs.declared.aux.AuxItem.{AuxItem}
use Rattle.aux_read.specs.declared.aux.AuxItem.TheVariants.{All, Cite, Input}
use Rattle.bib_read.specs.Additions.{AreNew}
use Rattle.bib_read.specs.Names.{has_entry}
use Rattle.bib_read.specs.RawEntries.{RawEntry}
use Rattle.entry_list.specs.Apart.{AreApart}
use Rattle.entry_list.specs.Citing.{asked_for, asks_same, cited_as, cited_list, cites, is_cited, uncited}
use Rattle.entry_list.specs.Keys.{Listed, entry_of, firsts, is_listed, own, same_key}
use Rattle.entry_list.specs.Parents.{appended, is_wanted, parents_of, same_listed, whole_list}
use Rattle.entry_list.proofs.Keyed.{all_filter, all_firsts}
use Rattle.entry_list.proofs.Found.{key_apart, key_equal, key_refl}

none_of : (a b : Bool) → a ≡ false → b ≡ false → (a || b) ≡ false
none_of true b e f = absurd cc
none_of false b e f = f

-- the keys of a list are none of another's
abbrev AreOthers : List Listed → List Listed → Type 0
AreOthers ys xs = AllByRecursion (λ x. is_listed x.key ys ≡ false) xs

listed_append : (key : List ℕ) (xs ys : List Listed) → is_listed key xs ≡ false → is_listed key ys ≡ false
    → is_listed key (xs ++ ys) ≡ false
listed_append key [] ys e f = f
listed_append key (x ∷ xs) ys e f =
    let apart = or_parts (same_key key x.key) (is_listed key xs) e in
    none_of (same_key key x.key) (is_listed key (xs ++ ys)) apart.0 (listed_append key xs ys apart.1 f)

apart_append : (xs ys : List Listed) → AreApart xs → AreApart ys → AreOthers ys xs → AreApart (xs ++ ys)
apart_append [] ys a b others = b
apart_append (x ∷ xs) ys a b others =
    (listed_append x.key xs ys a.0 others.0, apart_append xs ys a.1 b others.1)

-- two lists that have no key in common, the other way round
swapped : (xs ys : List Listed) → AreOthers xs ys → AreOthers ys xs
swapped [] ys others = tt
swapped (x ∷ xs) ys others = (head ys others, swapped xs ys (tail ys others))
  where
    head : (ys : List Listed) → AreOthers (x ∷ xs) ys → is_listed x.key ys ≡ false
    head [] others = refl
    head (y ∷ ys) others =
        none_of (same_key x.key y.key) (is_listed x.key ys)
        (key_apart y.key x.key (or_parts (same_key y.key x.key) (is_listed y.key xs) others.0).0) (head ys others.1)

    tail : (ys : List Listed) → AreOthers (x ∷ xs) ys → AreOthers xs ys
    tail [] others = tt
    tail (y ∷ ys) others = ((or_parts (same_key y.key x.key) (is_listed y.key xs) others.0).1, tail ys others.1)

-- no later one is the same as one before it
abbrev pub AreDistinct : {X : Type 0} → (X → X → Bool) → List X → Type 0
AreDistinct same [] = Unit {0}
AreDistinct same (x ∷ xs) = AllByRecursion (λ later. same later x ≡ false) xs × AreDistinct same xs

passing : {X : Type 0} (p : X → Bool) (xs : List X) → AllByRecursion (λ x. p x ≡ true) (filter p xs)
passing p [] = tt
passing {X} p (x ∷ xs) = by (p x) refl (passing p xs)
  where
    by : (b : Bool) → p x ≡ b → AllByRecursion (λ x. p x ≡ true) (filter p xs)
        → AllByRecursion (λ x. p x ≡ true) (cond b (x ∷ filter p xs) (filter p xs))
    by true e rest = (e, rest)
    by false e rest = rest

all_weaker : {X : Type 0} (P Q : X → Type 0) → ((x : X) → P x → Q x) → (xs : List X) → AllByRecursion P xs → AllByRecursion Q xs
all_weaker P Q weaker [] a = tt
all_weaker P Q weaker (x ∷ xs) a = (weaker x a.0, all_weaker P Q weaker xs a.1)

distinct_filter : {X : Type 0} (same : X → X → Bool) (p : X → Bool) (xs : List X) → AreDistinct same xs → AreDistinct same (filter p xs)
distinct_filter same p [] d = tt
distinct_filter {X} same p (x ∷ xs) d = by (p x) (distinct_filter same p xs d.1)
  where
    by : (b : Bool) → AreDistinct same (filter p xs) → AreDistinct same (cond b (x ∷ filter p xs) (filter p xs))
    by true rest = (all_filter (λ later. same later x ≡ false) p xs d.0, rest)
    by false rest = rest

firsts_distinct : {X : Type 0} (same : X → X → Bool) (xs : List X) → AreDistinct same (firsts same xs)
firsts_distinct same [] = tt
firsts_distinct same (x ∷ xs) = (
  all_weaker (λ y. not (same y x) ≡ true) (λ y. same y x ≡ false) (λ y e. not-true (same y x) e)
      (filter (λ y. not (same y x)) (firsts same xs)) (passing (λ y. not (same y x)) (firsts same xs)),
  distinct_filter same (λ y. not (same y x)) (firsts same xs) (firsts_distinct same xs),
)

-- distinct parents are apart
distinct_apart : (xs : List Listed) → AreDistinct same_listed xs → AreApart xs
distinct_apart [] d = tt
distinct_apart (x ∷ xs) d = (others xs d.0, distinct_apart xs d.1)
  where
    others : (ys : List Listed) → AllByRecursion (λ y. same_key y.key x.key ≡ false) ys → is_listed x.key ys ≡ false
    others [] a = refl
    others (y ∷ ys) a = none_of (same_key x.key y.key) (is_listed x.key ys) (key_apart y.key x.key a.0) (others ys a.1)

-- new entries are apart under their own keys
new_distinct : (before es : List RawEntry) → AreNew before es → AreDistinct same_listed (map own es)
new_distinct before [] new = tt
new_distinct before (e ∷ es) new =
    (later (before ++ e ∷ []) es (has_last before) new.2, new_distinct (before ++ e ∷ []) es new.2)
  where
    has_last : (before : List RawEntry) → (key : List ℕ) → has_entry (lowered key) (before ++ e ∷ []) ≡ false → same_key key e.key ≡ false
    has_last [] key none = (or_parts (same_key key e.key) false none).0
    has_last (b ∷ before) key none =
        has_last before key (or_parts (same_key key b.key) (has_entry (lowered key) (before ++ e ∷ [])) none).1

    longer : (key : List ℕ) (before more : List RawEntry) → has_entry (lowered key) (before ++ more) ≡ false
        → has_entry (lowered key) before ≡ false
    longer key [] more none = refl
    longer key (b ∷ before) more none =
        let apart = or_parts (same_key key b.key) (has_entry (lowered key) (before ++ more)) none in
        none_of (same_key key b.key) (has_entry (lowered key) before) apart.0 (longer key before more apart.1)

    later : (before es : List RawEntry) → ((key : List ℕ) → has_entry (lowered key) before ≡ false → same_key key e.key ≡ false)
        → AreNew before es → AllByRecursion (λ y. same_listed y (own e) ≡ false) (map own es)
    later before [] apart new = tt
    later before (x ∷ es) apart new =
        (apart x.key new.1, later (before ++ x ∷ []) es (λ key none. apart key (longer key before (x ∷ []) none)) new.2)

map_filter : (p : RawEntry → Bool) (es : List RawEntry) → map own (filter p es) ≡ filter (λ l. p l.entry) (map own es)
map_filter p [] = refl
map_filter p (e ∷ es) = by (p e) (map_filter p es)
  where
    by : (b : Bool) → map own (filter p es) ≡ filter (λ l. p l.entry) (map own es)
        → map own (cond b (e ∷ filter p es) (filter p es)) ≡ cond b (own e ∷ filter (λ l. p l.entry) (map own es)) (filter (λ l. p l.entry) (map own es))
    by true rest = ap (λ l. own e ∷ l) rest
    by false rest = rest

uncited_apart : (items : List AuxItem) (entries : List RawEntry) → AreNew [] entries → AreApart (uncited items entries)
uncited_apart items entries new =
    subst AreApart (sym (map_filter (λ e. not (is_cited e.key items)) entries))
    (distinct_apart (filter (λ l. not (is_cited l.entry.key items)) (map own entries))
    (distinct_filter same_listed (λ l. not (is_cited l.entry.key items)) (map own entries) (new_distinct [] entries new)))

asked_apart : (items : List AuxItem) (entries : List RawEntry) → AreNew [] entries → (item : AuxItem) → AreApart (asked_for items entries item)
asked_apart items entries new (Cite key) = one (entry_of key entries)
  where
    one : (o : Option RawEntry) → AreApart (option_to_list (option_map (cited_as key) o))
    one None = tt
    one (Some e) = (refl, tt)
asked_apart items entries new All = uncited_apart items entries new
asked_apart items entries new (Input _ _) = tt

-- a citation's key is cited
abbrev IsCited : List AuxItem → AuxItem → Type 0
IsCited items (Cite key) = is_cited key items ≡ true
IsCited items _ = Unit {0}

cited_same : (a b : List ℕ) → lowered a ≡ lowered b → (items : List AuxItem) → is_cited a items ≡ is_cited b items
cited_same a b e [] = refl
cited_same a b e (item ∷ items) = ap (λ v. v || is_cited a items) (one item) ∙ ap (λ v. cites b item || v) (cited_same a b e items)
  where
    one : (item : AuxItem) → cites a item ≡ cites b item
    one (Cite key) = ap (λ t. same_name t (lowered key)) e
    one All = refl
    one (Input _ _) = refl

-- a key that is cited and one that isn't
cited_other : (a b : List ℕ) (items : List AuxItem) → is_cited a items ≡ true → is_cited b items ≡ false → same_key a b ≡ false
cited_other a b items is other = by (same_key a b) refl
  where
    by : (v : Bool) → same_key a b ≡ v → v ≡ false
    by false e = refl
    by true e = sym is ∙ cited_same a b (key_equal a b e) items ∙ other

uncited_others : (items : List AuxItem) (entries : List RawEntry) (key : List ℕ) → is_cited key items ≡ true
    → is_listed key (uncited items entries) ≡ false
uncited_others items entries key is =
    all (filter (λ e. not (is_cited e.key items)) entries) (passing (λ e. not (is_cited e.key items)) entries)
  where
    all : (es : List RawEntry) → AllByRecursion (λ e. not (is_cited e.key items) ≡ true) es → is_listed key (map own es) ≡ false
    all [] a = refl
    all (e ∷ es) a =
        none_of (same_key key e.key) (is_listed key (map own es))
        (cited_other key e.key items is (not-true (is_cited e.key items) a.0)) (all es a.1)

-- what two requests that aren't the same put into the list has no key in common
asked_others : (items : List AuxItem) (entries : List RawEntry) (x y : AuxItem) → IsCited items x → IsCited items y
    → asks_same y x ≡ false → AreOthers (asked_for items entries y) (asked_for items entries x)
asked_others items entries (Cite key) (Cite other) cx cy apart = one (entry_of key entries) (entry_of other entries)
  where
    one : (o p : Option RawEntry)
        → AreOthers (option_to_list (option_map (cited_as other) p)) (option_to_list (option_map (cited_as key) o))
    one None p = tt
    one (Some e) None = (refl, tt)
    one (Some e) (Some f) = (none_of (same_key key other) false (key_apart other key apart) refl, tt)
asked_others items entries (Cite key) All cx cy apart = one (entry_of key entries)
  where
    one : (o : Option RawEntry) → AreOthers (uncited items entries) (option_to_list (option_map (cited_as key) o))
    one None = tt
    one (Some e) = (uncited_others items entries key cx, tt)
asked_others items entries All (Cite other) cx cy apart =
    swapped (uncited items entries) (option_to_list (option_map (cited_as other) (entry_of other entries))) (one (entry_of other entries))
  where
    one : (o : Option RawEntry) → AreOthers (uncited items entries) (option_to_list (option_map (cited_as other) o))
    one None = tt
    one (Some e) = (uncited_others items entries other cy, tt)
asked_others items entries All All cx cy apart = absurd cc
asked_others items entries (Input _ _) y cx cy apart = tt
asked_others items entries (Cite key) (Input _ _) cx cy apart =
    swapped (option_to_list (option_map (cited_as key) (entry_of key entries))) [] tt
asked_others items entries All (Input _ _) cx cy apart = swapped (uncited items entries) [] tt

others_append : (xs ys zs : List Listed) → AreOthers ys xs → AreOthers zs xs → AreOthers (ys ++ zs) xs
others_append [] ys zs a b = tt
others_append (x ∷ xs) ys zs a b = (listed_append x.key ys zs a.0 b.0, others_append xs ys zs a.1 b.1)

cited_apart : (items : List AuxItem) (entries : List RawEntry) → AreNew [] entries → (fs : List AuxItem)
    → AllByRecursion (IsCited items) fs → AreDistinct asks_same fs → AreApart (flat_map (asked_for items entries) fs)
cited_apart items entries new [] cited d = tt
cited_apart items entries new (x ∷ fs) cited d =
    apart_append (asked_for items entries x) (flat_map (asked_for items entries) fs) (asked_apart items entries new x)
    (cited_apart items entries new fs cited.1 d.1) (others fs cited.1 d.0)
  where
    others : (ys : List AuxItem) → AllByRecursion (IsCited items) ys → AllByRecursion (λ y. asks_same y x ≡ false) ys
        → AreOthers (flat_map (asked_for items entries) ys) (asked_for items entries x)
    others [] c a = swapped (asked_for items entries x) [] tt
    others (y ∷ ys) c a =
        others_append (asked_for items entries x) (asked_for items entries y) (flat_map (asked_for items entries) ys)
        (asked_others items entries x y cited.0 c.0 a.0) (others ys c.1 a.1)

or_true : (a : Bool) → (a || true) ≡ true
or_true true = refl
or_true false = refl

all_cited : (items : List AuxItem) → AllByRecursion (IsCited items) items
all_cited [] = tt
all_cited (x ∷ items) = (first x, all_weaker (IsCited items) (IsCited (x ∷ items)) more items (all_cited items))
  where
    first : (x : AuxItem) → IsCited (x ∷ items) x
    first (Cite key) = ap (λ v. v || is_cited key items) (key_refl key)
    first All = tt
    first (Input _ _) = tt

    more : (y : AuxItem) → IsCited items y → IsCited (x ∷ items) y
    more (Cite key) is = ap (λ v. cites key x || v) is ∙ or_true (cites key x)
    more All is = tt
    more (Input _ _) is = tt

unlisted : (parents list ws : List Listed) → AllByRecursion (λ w. is_wanted parents list w ≡ true) ws → AreOthers list ws
unlisted parents list [] a = tt
unlisted parents list (w ∷ ws) a = (by _ (is_listed w.key list) a.0, unlisted parents list ws a.1)
  where
    by : (t l : Bool) → (t && not l) ≡ true → l ≡ false
    by true l e = not-true l e
    by false l e = absurd cc

pub whole_apart : (items : List AuxItem) (entries : List RawEntry) → AreNew [] entries → AreApart (whole_list items entries)
whole_apart items entries new =
    let list = cited_list items entries in
    let parents = parents_of entries list in
    apart_append list (appended entries list)
    (cited_apart items entries new (firsts asks_same items) (all_firsts (IsCited items) asks_same items (all_cited items))
    (firsts_distinct asks_same items))
    (distinct_apart (appended entries list)
    (distinct_filter same_listed (is_wanted parents list) (firsts same_listed parents) (firsts_distinct same_listed parents)))
    (swapped list (appended entries list)
    (unlisted parents list (appended entries list) (passing (is_wanted parents list) (firsts same_listed parents))))
