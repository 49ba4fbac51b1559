-- Every fault stands in its text: at the start of a line.
use Rattle.std.proofs.Common.{◌≡◌, ℕ, ◌+◌, inl, inr, Bool, cond, not, nat_eq, List, [], ◌∷◌, ◌++◌, append_assoc, Option, None, Some, Result, Ok, Err, length, length-append, take, codes, refl, sym, ap, subst, ◌∙◌, arith}
use Rattle.std.specs.List.{list_all}
use Rattle.std.proofs.Math.Seq.{take-append_seam}
use Rattle.std.proofs.lemmas.Bool.{and_parts, not-true}
use Rattle.bstr.specs.Text.{lines_of}
use Rattle.bstr.proofs.lemmas.LineLemmas.{lines-nil}
use Rattle.bv_base.specs.declared.place.Place.{Place}
use Rattle.bv_base.specs.Places.{StandsIn, after_byte, after_bytes, first_place}
use Rattle.bv_base.specs.Answers.{then_do}
use Rattle.aux_read.specs.declared.aux.Aux.{Aux}
use Rattle.aux_read.specs.declared.fault.AuxFault.{AuxFault}
use Rattle.aux_read.specs.declared.fault.AuxFault.TheVariants.{BadCommand, NoMemory, SecondData, SecondStyle}
use Rattle.aux_read.specs.Faults.{IsFaultOf, place_of}
use Rattle.aux_read.specs.Grammar.{Ends, Without}
use Rattle.aux_read.specs.Items.{after_front, file_name_of, inside_of, item_of, stretches}
use Rattle.aux_read.specs.Lines.{add_citations, add_names, citation, file_name, file_names, nothing, take_line, with_databases, with_item, with_part, with_style}
use Rattle.aux_read.specs.Reading.{aux_of, next_line, reading}
use Rattle.aux_read.specs.Meaning.{start_of}
use Rattle.aux_read.proofs.Lined.{Lined, as_lines, lines_are}
use Rattle.std.specs.Prelude.{IfErr}
use Rattle.bv_base.proofs.ThenLemmas.{then_faulty}
use Rattle.aux_read.proofs.Keeping.{or_each}

-- a fault of the line that starts at a place stands there, and is no want of memory
abbrev pub IsAt : Place → AuxFault → Type 0
IsAt place NoMemory = ⊥
IsAt place fault = place_of fault ≡ place

-- a result whose fault, if any, stands at the place
abbrev pub Placed : {A : Type 0} → Place → Result A AuxFault → Type 0
Placed place r = IfErr r (IsAt place)

placed_part : {A B : Type 0} (place : Place) (o : Option A) (next : A → Result B AuxFault) → ((a : A) → Placed place (next a))
    → Placed place (with_part place o next)
placed_part place None next each = refl
placed_part place (Some a) next each = each a

citations_placed : (place : Place) (list : List (List ℕ)) (aux : Aux) → Placed place (add_citations place list aux)
citations_placed place [] aux = tt
citations_placed place (stretch ∷ list) aux =
    placed_part place (item_of stretch) _ (λ item. citations_placed place list (with_item (citation item) aux))

names_placed : (place : Place) (list names : List (List ℕ)) → Placed place (add_names place list names)
names_placed place [] names = tt
names_placed place (stretch ∷ list) names =
    placed_part place (file_name_of stretch) _ (λ name. names_placed place list (names ++ name ∷ []))

databases_placed : (place : Place) (names there : List (List ℕ)) (aux : Aux) → Placed place (with_databases place names there aux)
databases_placed place names [] aux = tt
databases_placed place names (_ ∷ _) aux = refl

style_placed : (place : Place) (name : List ℕ) (there : Option (List ℕ)) (aux : Aux) → Placed place (with_style place name there aux)
style_placed place name None aux = tt
style_placed place name (Some _) aux = refl

one_placed : (place : Place) (rest : List ℕ) → Placed place (file_name place rest)
one_placed place rest =
    placed_part place (inside_of rest) _ (λ inside. placed_part place (file_name_of inside) Ok (λ name. tt))

line_placed : (place : Place) (line : List ℕ) (aux : Aux) → Placed place (take_line place line aux)
line_placed place line aux =
    or_each (Placed place) _ (after_front (codes "\\citation{") line) _
    (λ rest. placed_part place (inside_of rest) _ (λ inside. citations_placed place (stretches inside) aux))
    (or_each (Placed place) _ (after_front (codes "\\bibdata{") line) _
    (λ rest. placed_part place (inside_of rest) _
    (λ inside. then_faulty (IsAt place) (file_names place inside) _ (names_placed place (stretches inside) [])
    (λ names _. databases_placed place names aux.databases aux)))
    (or_each (Placed place) _ (after_front (codes "\\bibstyle{") line) _
    (λ rest. then_faulty (IsAt place) (file_name place rest) _ (one_placed place rest) (λ name _. style_placed place name aux.style aux))
    (or_each (Placed place) _ (after_front (codes "\\@input{") line) _
    (λ rest. then_faulty (IsAt place) (file_name place rest) _ (one_placed place rest) (λ name _. tt))
    tt)))

pub after_joined : (first second : List ℕ) (place : Place) → after_bytes (first ++ second) place ≡ after_bytes second (after_bytes first place)
after_joined [] second place = refl
after_joined (b ∷ first) second place = after_joined first second (after_byte b place)

-- bytes without a line's end stay in their line
line_kept : (text : List ℕ) (place : Place) → Without 10 text → (after_bytes text place).line ≡ place.line
line_kept [] place without = refl
line_kept (b ∷ text) place without =
    let both = and_parts (not (nat_eq b 10)) (list_all (λ c. not (nat_eq c 10)) text) without in
    line_kept text (after_byte b place) both.1
    ∙ ap (λ (t : Bool). (cond {A = Place} t (record { line = place.line + 1; column = 1 }) (record { line = place.line; column = place.column + 1 })).line)
    (not-true (nat_eq b 10) both.0)

-- the line after one that ends
pub line_after : (text : List ℕ) (place : Place) → Without 10 text → after_bytes (text ++ 10 ∷ []) place ≡ next_line (record { line = place.line; column = 1 })
line_after text place without =
    after_joined text (10 ∷ []) place ∙ ap (λ (n : ℕ). record { line = n + 1; column = 1 }) (line_kept text place without)

-- what stands where a place does is a fault's place
placed_in : (source : List ℕ) (place : Place) (fault : AuxFault) → StandsIn source place → IsAt place fault → IsFaultOf source fault
placed_in source place NoMemory stands at = absurd at
placed_in source place _ stands at = subst (StandsIn source) (sym at) stands

-- the place after the bytes before what is left
pub stands_before : (source before left : List ℕ) → source ≡ before ++ left → StandsIn source (after_bytes before first_place)
stands_before source before left all =
    let long = ap length all ∙ length-append before left in (
      length before,
      omega arith,
      ap (λ (t : List ℕ). after_bytes t first_place) (sym (take-append_seam before left) ∙ ap (take (length before)) (sym all)),
    )

-- the lines of what is left of a text after some bytes, at a line's start
reading_placed : (source before left : List ℕ) (number : ℕ) (lines : List (List ℕ)) (aux : Aux) (fault : AuxFault)
    → source ≡ before ++ left → after_bytes before first_place ≡ start_of number → Lined lines left
    → reading (start_of number) lines aux ≡ Err fault → IsFaultOf source fault
reading_placed source before left number [] aux fault all starts lined e = absurd (cc)
reading_placed source before left number (line ∷ lines) aux fault all starts (rest, joined, ends, lined) e =
    by (take_line (start_of number) line aux) refl e ends
    (λ next whole after e. reading_placed source (before ++ line) rest (number + 1) lines next fault whole after lined e)
  where
    whole : source ≡ (before ++ line) ++ rest
    whole = all ∙ ap (λ l. before ++ l) joined ∙ sym (append_assoc before line rest)

    After : Aux → Type 0
    After next = source ≡ (before ++ line) ++ rest → after_bytes (before ++ line) first_place ≡ start_of (number + 1)
        → reading (start_of (number + 1)) lines next ≡ Err fault → IsFaultOf source fault

    by : (r : Result Aux AuxFault) → take_line (start_of number) line aux ≡ r
        → then_do r (reading (start_of (number + 1)) lines) ≡ Err fault → Ends line rest → ((next : Aux) → After next) → IsFaultOf source fault
    by (Err found) taken e ends more =
        let same : found ≡ fault = cc in
        placed_in source (start_of number) fault (subst (StandsIn source) starts (stands_before source before left all))
        (subst (IsAt (start_of number)) same (subst (Placed (start_of number)) taken (line_placed (start_of number) line aux)))
    by (Ok next) taken e (text, without, inl ended) more =
        more next whole
        (after_joined before line first_place ∙ ap (λ (l : List ℕ). after_bytes l (after_bytes before first_place)) ended
        ∙ ap (after_bytes (text ++ 10 ∷ [])) starts ∙ line_after text (start_of number) without)
        e
    by (Ok next) taken e (text, without, inr ended) more = no_more lines lined ended.2 e
      where
        no_more : (lines : List (List ℕ)) → Lined lines rest → rest ≡ [] → reading (start_of (number + 1)) lines next ≡ Err fault
            → IsFaultOf source fault
        no_more lines lined none e =
            let empty : lines ≡ [] = sym (lines_are lines rest lined) ∙ ap lines_of none ∙ lines-nil in
            let ok : Ok next ≡ Err fault = sym (ap (λ l. reading (start_of (number + 1)) l next) empty) ∙ e in absurd (cc)

pub fault_stands : (source : List ℕ) (fault : AuxFault) → aux_of source ≡ Err fault → IsFaultOf source fault
fault_stands source fault e =
    let cut = as_lines source in
    let same = ap (λ l. reading (start_of 1) l nothing) (lines_are cut.lines source cut.lined) in
    reading_placed source [] source 1 cut.lines nothing fault refl refl cut.lined (sym same ∙ e)
