-- The places of what an .aux file asks for stand in its text: each is the start of a line.
use Rattle.std.proofs.Common.{◌≡◌, ℕ, ◌+◌, inl, inr, Bool, true, false, cond, nat_eq, List, [], ◌∷◌, ◌++◌, append_assoc, Result, Ok, Err, codes, refl, sym, ap, subst, ◌∙◌}
use Rattle.std.specs.Prelude.{IfOk}
use Rattle.std.specs.Cmp.Lexicographic.{pointwise}
use Rattle.bv_base.specs.declared.place.Place.{Place}
use Rattle.bv_base.specs.Places.{StandsIn, after_bytes, first_place}
use Rattle.bv_base.specs.Answers.{then_do}
use Rattle.name_table.specs.Sound.{Each}
use Rattle.aux_read.specs.declared.aux.Aux.{Aux}
use Rattle.aux_read.specs.declared.aux.AuxItem.{AuxItem}
use Rattle.aux_read.specs.declared.aux.AuxItem.TheVariants.{All, Cite, Input}
use Rattle.aux_read.specs.declared.fault.AuxFault.{AuxFault}
use Rattle.aux_read.specs.Grammar.{Ends}
use Rattle.aux_read.specs.Lines.{citation, nothing, take_line, with_item}
use Rattle.aux_read.specs.Reading.{aux_of, reading}
use Rattle.aux_read.specs.Meaning.{start_of}
use Rattle.aux_read.proofs.Lined.{Lined, as_lines, lines_are}
use Rattle.aux_read.proofs.FaultsStand.{after_joined, line_after, stands_before}
use Rattle.aux_read.proofs.Keeping.{Keeps, line_keeps}
use Rattle.bst_parse.proofs.Lists.{each_push}

-- an input stands in the text
abbrev pub ItemStands : List ℕ → AuxItem → Type 0
ItemStands source (Input name place) = StandsIn source place
ItemStands source _ = Unit {0}

-- the places of what was asked for stand in the text
pub record AuxStands (source : List ℕ) (aux : Aux) : Type 0 where
  pub style : StandsIn source aux.style_place
  pub databases : StandsIn source aux.data_place
  pub items : Each (ItemStands source) aux.items

module _ (source : List ℕ) where
  citation_stands : (item : List ℕ) → ItemStands source (citation item)
  citation_stands item = by (pointwise nat_eq item (codes "*"))
    where
      by : (t : Bool) → ItemStands source (cond t All (Cite item))
      by true = tt
      by false = tt

  item_added : (item : AuxItem) (aux : Aux) → ItemStands source item → AuxStands source aux → AuxStands source (with_item item aux)
  item_added item aux stands s =
      record { style = s.style; databases = s.databases; items = each_push (ItemStands source) aux.items item s.items stands }

  -- what each part of a line keeps, where its start stands in the text
  kept : (place : Place) → StandsIn source place → Keeps (AuxStands source) place
  kept place stands = record {
    cites = λ item aux is s. item_added (citation item) aux (citation_stands item) s;
    databases = λ names aux all s. record { style = s.style; databases = stands; items = s.items };
    style = λ name aux is s. record { style = stands; databases = s.databases; items = s.items };
    inputs = λ name aux is s. item_added (Input name place) aux stands s;
  }

-- the lines of what is left of a text after some bytes, at a line's start
reading_stands : (source before left : List ℕ) (number : ℕ) (lines : List (List ℕ)) (aux found : Aux)
    → source ≡ before ++ left → after_bytes before first_place ≡ start_of number → Lined lines left → AuxStands source aux
    → reading (start_of number) lines aux ≡ Ok found → AuxStands source found
reading_stands source before left number [] aux found all starts lined s e =
    let same : aux ≡ found = cc in
    subst (AuxStands source) same s
reading_stands source before left number (line ∷ lines) aux found all starts (rest, joined, ends, lined) s e =
    by (take_line (start_of number) line aux)
    (line_keeps (AuxStands source) (start_of number) (kept source (start_of number) (subst (StandsIn source) starts (stands_before source before left all))) line aux s) e ends
    (λ next next_stands after e. reading_stands source (before ++ line) rest (number + 1) lines next found whole after lined next_stands e)
  where
    whole : source ≡ (before ++ line) ++ rest
    whole = all ∙ ap (λ l. before ++ l) joined ∙ sym (append_assoc before line rest)

    After : Aux → Type 0
    After next = AuxStands source next → after_bytes (before ++ line) first_place ≡ start_of (number + 1)
        → reading (start_of (number + 1)) lines next ≡ Ok found → AuxStands source found

    by : (r : Result Aux AuxFault) → IfOk r (AuxStands source)
        → then_do r (reading (start_of (number + 1)) lines) ≡ Ok found → Ends line rest → ((next : Aux) → After next) → AuxStands source found
    by (Err fault) stands e ends more = absurd (cc)
    by (Ok next) stands e (text, without, inl ended) more =
        more next stands
        (after_joined before line first_place ∙ ap (λ (l : List ℕ). after_bytes l (after_bytes before first_place)) ended
        ∙ ap (after_bytes (text ++ 10 ∷ [])) starts ∙ line_after text (start_of number) without)
        e
    by (Ok next) stands e (text, without, inr ended) more =
        let empty : lines ≡ [] = sym (lines_are lines rest lined) ∙ lines_are [] rest ended.2 in
        let ok : Ok next ≡ Ok found = sym (ap (λ l. reading (start_of (number + 1)) l next) empty) ∙ e in
        let same : next ≡ found = cc in
        subst (AuxStands source) same stands

-- a text that was read
pub aux_stands : (source : List ℕ) (aux : Aux) → aux_of source ≡ Ok aux → AuxStands source aux
aux_stands source aux e =
    let cut = as_lines source in
    let same = ap (λ l. reading (start_of 1) l nothing) (lines_are cut.lines source cut.lined) in
    let first : StandsIn source first_place = stands_before source [] source refl in
    reading_stands source [] source 1 cut.lines nothing aux refl refl cut.lined (record { style = first; databases = first; items = tt }) (sym same ∙ e)
