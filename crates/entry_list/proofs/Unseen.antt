-- The citations that are left, and the entries that no citation names.
use Rattle.std.proofs.Common.{◌≡◌, ℕ, ◌+◌, Bool, true, false, cond, not, List, [], ◌∷◌, ◌++◌, map, drop, refl, sym, ap, ◌∙◌, append_assoc}
use Rattle.std.specs.Prelude.{filter}
use Rattle.bv_base.specs.KeySets.{has_lowered}
use Rattle.aux_read.specs.declared.aux.AuxItem.{AuxItem}
use Rattle.aux_read.specs.declared.aux.AuxItem.TheVariants.{Cite, All, Input}
use Rattle.bib_read.specs.RawEntries.{RawEntry}
use Rattle.entry_list.specs.declared.citing.Seen.{Seen}
use Rattle.entry_list.specs.Keys.{Listed, own}
use Rattle.entry_list.specs.Citing.{asks_same, is_cited, uncited}
use Rattle.entry_list.specs.Tables.{was_asked}
use Rattle.entry_list.proofs.Lists.{fresh}

-- the first requests that weren't asked for before
abbrev pub unseen : Seen → List AuxItem → List AuxItem
unseen seen items = fresh asks_same was_asked seen items

pub none_asked : (seen : Seen) → seen.keys ≡ [] → seen.all ≡ false → (item : AuxItem) → was_asked item seen ≡ false
none_asked seen keys all (Cite key) = ap (has_lowered key) keys
none_asked seen keys all All = all
none_asked seen keys all (Input _ _) = refl

parted : (b c : Bool) (entry : RawEntry) (rest : List RawEntry) → b ≡ c
    → cond b [] (own entry ∷ []) ++ map own rest ≡ map own (cond (not c) (entry ∷ rest) rest)
parted true true entry rest e = refl
parted false false entry rest e = refl
parted true false entry rest e = absurd cc
parted false true entry rest e = absurd cc

-- an entry is put into the list, where its key isn't cited
pub uncited_step : (items : List AuxItem) (entry : RawEntry) (entries : List RawEntry) (i : ℕ) (before after : List Listed) (there : Bool)
    → drop i entries ≡ entry ∷ drop (i + 1) entries → there ≡ is_cited entry.key items
    → after ≡ before ++ cond there [] (own entry ∷ [])
    → after ++ uncited items (drop (i + 1) entries) ≡ before ++ uncited items (drop i entries)
uncited_step items entry entries i before after there at agrees is =
    let left = drop (i + 1) entries in
    ap (λ l. l ++ uncited items left) is
    ∙ append_assoc before (cond there [] (own entry ∷ [])) (uncited items left)
    ∙ ap (λ l. before ++ l)
    (parted there (is_cited entry.key items) entry (filter (λ e. not (is_cited e.key items)) left) agrees)
    ∙ ap (λ l. before ++ uncited items l) (sym at)
