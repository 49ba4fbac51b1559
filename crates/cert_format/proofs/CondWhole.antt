-- A condition that keeps the limits and the order is read from its spelling.
use Rattle.std.proofs.Common.{◌≡◌, ℕ, suc, ◌+◌, ◌-◌, Bool, true, false, ◌&&◌, List, [], ◌∷◌, ◌++◌, length, length-append, map, Option, Some, None, Ok, codes, refl, sym, ap, subst, ◌∙◌, append_assoc, arith}
use Rattle.std.specs.Option.{option_map}
use Rattle.std.specs.Prelude.{slice_get}
use Rattle.std.proofs.lemmas.Bool.{and_parts}
use Rattle.std.proofs.lemmas.List.{append-nil}
use Rattle.bst_meaning.specs.declared.condition.Cond.{Cond}
use Rattle.bst_meaning.specs.declared.condition.NamesLine.{NamesLine}
use Rattle.name_table.specs.Sound.{Each}
use Rattle.name_table.specs.declared.names.Kind.{Kind}
use Rattle.name_table.specs.declared.names.NameId.{NameId}
use Rattle.cert_format.specs.CondText.{ArePlain, IsField, IsNamesLine, is_chain}
use Rattle.cert_format.specs.Conditions as conditions
use Rattle.cert_format.specs.Items.{choice, expected, field_above, is_above, is_behind, is_type, is_word, last_of, type_above}
use Rattle.cert_format.specs.Lines.{Item, Line, line_end, next_item}
use Rattle.cert_format.specs.Spelling.{choice_text, cond_end, name_text, names_items, nonblank_items, type_items}
use Rattle.cert_format.specs.declared.cond_lines.CondSoFar.{CondSoFar}
use Rattle.cert_format.specs.declared.stages.CondStage.{CondStage}
use Rattle.cert_format.specs.declared.stages.CondStage.TheVariants.{Names, Nonblank, Types, End, Done}
use Rattle.cert_format.proofs.CondRead.{Has}
use Rattle.cert_format.proofs.CondTaken.{at_stage, expect_taken, line_taken, names_line_taken, other_word, take_end, take_first, then_go, word_taken}
use Rattle.cert_format.proofs.NamesTaken.{field_taken}
use Rattle.cert_format.proofs.Spelt.{AllHave}

and_false : (b : Bool) → b && false ≡ false
and_false true = refl
and_false false = refl

-- the stages in which a line of a list may come
abbrev pub IsListed : CondStage → Type 0
IsListed s = (names : List (List ℕ × Kind)) (word : Item) (rest : Line) (c : Cond)
    → conditions.worded_line names s word rest (at_stage s c) ≡ conditions.listed_line names word rest (at_stage s c)

to_nonblank : (names : List (List ℕ × Kind)) (s : CondStage) (word : Item) (rest : Line) (c : Cond) → is_word (codes "names") word ≡ false
    → conditions.may_have_nonblank s ≡ true → is_word (codes "nonblank") word ≡ true
    → conditions.listed_line names word rest (at_stage s c) ≡ conditions.nonblank_line names rest (at_stage s c)
to_nonblank names s word rest c differs may is = rw differs (rw (and_false (conditions.may_have_names s)) (rw may (rw is refl)))

to_type : (names : List (List ℕ × Kind)) (s : CondStage) (word : Item) (rest : Line) (c : Cond) → is_word (codes "names") word ≡ false
    → is_word (codes "nonblank") word ≡ false → is_word (codes "type") word ≡ true
    → conditions.listed_line names word rest (at_stage s c) ≡ conditions.type_line rest (at_stage s c)
to_type names s word rest c first second is =
    rw first (rw (and_false (conditions.may_have_names s)) (rw second (rw (and_false (conditions.may_have_nonblank s)) (rw is refl))))

to_othertype : (names : List (List ℕ × Kind)) (s : CondStage) (word : Item) (rest : Line) (c : Cond) → is_word (codes "names") word ≡ false
    → is_word (codes "nonblank") word ≡ false → is_word (codes "type") word ≡ false
    → conditions.listed_line names word rest (at_stage s c) ≡ conditions.othertype_line word rest (at_stage s c)
to_othertype names s word rest c first second third =
    rw first (rw (and_false (conditions.may_have_names s)) (rw second (rw (and_false (conditions.may_have_nonblank s)) (rw third refl))))

nonblank_line_taken : (names : List (List ℕ × Kind)) (line : Line) (s : CondStage) (c : Cond) (id : NameId) → ArePlain names → IsListed s
    → conditions.may_have_nonblank s ≡ true → IsField names id → is_above (last_of c.nonblank) id ≡ true → Has line (nonblank_items names id)
    → conditions.cond_line names line (at_stage s c) ≡ Ok (at_stage Nonblank (record c { nonblank = c.nonblank ++ id ∷ [] }))
nonblank_line_taken names line s c id plain listed may field above has =
    line_taken names line (codes "nonblank") (name_text names id ∷ []) (at_stage s c) _ has (λ word rest said more.
    let t = take_first rest (name_text names id) [] more in
    listed names word rest c
    ∙ to_nonblank names s word rest c (other_word (codes "nonblank") (codes "names") word said refl) may (word_taken (codes "nonblank") word said)
    ∙ then_go (next_item rest) (t.item, t.rest) _ _ t.gives
    (then_go (field_above (last_of c.nonblank) names t.item) id _ _ (field_taken (last_of c.nonblank) names t.item id plain field above t.said)
    (then_go (line_end t.rest) tt _ _ (take_end t.rest t.has) refl)))

type_taken : (last : Option (List ℕ)) (item : Item) → is_type item.text ≡ true → is_behind last item.text ≡ true → type_above last item ≡ Ok tt
type_taken last item is behind = rw is (rw behind refl)

type_line_taken : (names : List (List ℕ × Kind)) (line : Line) (s : CondStage) (c : Cond) (name : List ℕ) → IsListed s → is_type name ≡ true
    → is_behind (last_of c.types) name ≡ true → Has line (type_items name)
    → conditions.cond_line names line (at_stage s c) ≡ Ok (at_stage Types (record c { types = c.types ++ name ∷ [] }))
type_line_taken names line s c name listed is behind has =
    line_taken names line (codes "type") (name ∷ []) (at_stage s c) _ has (λ word rest said more.
    let t = take_first rest name [] more in
    listed names word rest c
    ∙ to_type names s word rest c (other_word (codes "type") (codes "names") word said refl) (other_word (codes "type") (codes "nonblank") word said refl)
    (word_taken (codes "type") word said)
    ∙ then_go (next_item rest) (t.item, t.rest) _ _ t.gives
    (then_go (type_above (last_of c.types) t.item) tt _ _
    (type_taken (last_of c.types) t.item (ap is_type t.said ∙ is) (ap (is_behind (last_of c.types)) t.said ∙ behind))
    (then_go (line_end t.rest) tt _ _ (take_end t.rest t.has) (ap (λ (n : List ℕ). Ok (at_stage Types (record c { types = c.types ++ n ∷ [] }))) t.said))))

choice_taken : (item : Item) (other : Bool) → item.text ≡ choice_text other → choice item ≡ Ok other
choice_taken item true said = rw (word_taken (codes "yes") item said) refl
choice_taken item false said = rw (other_word (codes "no") (codes "yes") item said refl) (rw (word_taken (codes "no") item said) refl)

othertype_taken : (names : List (List ℕ × Kind)) (line : Line) (s : CondStage) (c : Cond) (other : Bool) → IsListed s
    → Has line (codes "othertype" ∷ (choice_text other ∷ []))
    → conditions.cond_line names line (at_stage s c) ≡ Ok (at_stage End (record c { other = other }))
othertype_taken names line s c other listed has =
    line_taken names line (codes "othertype") (choice_text other ∷ []) (at_stage s c) _ has (λ word rest said more.
    let t = take_first rest (choice_text other) [] more in
    listed names word rest c
    ∙ to_othertype names s word rest c (other_word (codes "othertype") (codes "names") word said refl)
    (other_word (codes "othertype") (codes "nonblank") word said refl) (other_word (codes "othertype") (codes "type") word said refl)
    ∙ then_go (expected (codes "othertype") word) tt _ _ (expect_taken (codes "othertype") word said)
    (then_go (next_item rest) (t.item, t.rest) _ _ t.gives
    (then_go (choice t.item) other _ _ (choice_taken t.item other t.said)
    (then_go (line_end t.rest) tt _ _ (take_end t.rest t.has) refl))))

end_taken : (names : List (List ℕ × Kind)) (line : Line) (c : Cond) → Has line (codes "end" ∷ [])
    → conditions.cond_line names line (at_stage End c) ≡ Ok (at_stage Done c)
end_taken names line c has =
    line_taken names line (codes "end") [] (at_stage End c) _ has (λ word rest said more.
    then_go (expected (codes "end") word) tt _ _ (expect_taken (codes "end") word said)
    (then_go (line_end rest) tt _ _ (take_end rest more) refl))

-- each item may stand behind the one before it
abbrev pub Up : {A : Type 0} → (Option A → A → Bool) → Option A → List A → Type 0
Up fits last [] = Unit {0}
Up fits last (x ∷ xs) = (fits last x ≡ true) × Up fits (Some x) xs

up_from : {A : Type 0} (before : A → A → Bool) (fits : Option A → A → Bool) → ((a b : A) → before a b ≡ true → fits (Some a) b ≡ true)
    → (x : A) (xs : List A) → is_chain before (x ∷ xs) ≡ true → Up fits (Some x) xs
up_from before fits same x [] e = tt
up_from before fits same x (y ∷ xs) e =
    let both = and_parts (before x y) (is_chain before (y ∷ xs)) e in
    (same x y both.0, up_from before fits same y xs both.1)

pub up_of : {A : Type 0} (before : A → A → Bool) (fits : Option A → A → Bool) → ((a b : A) → before a b ≡ true → fits (Some a) b ≡ true)
    → ((b : A) → fits None b ≡ true) → (xs : List A) → is_chain before xs ≡ true → Up fits None xs
up_of before fits same first [] e = tt
up_of before fits same first (x ∷ xs) e = (first x, up_from before fits same x xs e)

pub last_snoc : {A : Type 0} (xs : List A) (x : A) → last_of (xs ++ x ∷ []) ≡ Some x
last_snoc [] x = refl
last_snoc {A} (y ∷ xs) x =
    let l : List A = xs ++ x ∷ [] in
    let long : length l ≡ length xs + length (x ∷ []) = length-append xs (x ∷ []) in
    let place : length (y ∷ l) - 1 ≡ suc (length l - 1) = omega (arith, long) in
    ap (λ (n : ℕ). slice_get (y ∷ l) n) place ∙ last_snoc xs x

abbrev pub fits_names : Option NamesLine → NamesLine → Bool
fits_names last x = is_above (option_map (λ line. line.field) last) x.field

-- what is wanted of the lines behind a list
abbrev pub Goes : List (List ℕ × Kind) → List (List (List ℕ)) → CondSoFar → CondSoFar → Type 0
Goes names more p q = (lines : List Line) → AllHave lines more → conditions.cond_lines names lines p ≡ Ok q

pub names_all : (names : List (List ℕ × Kind)) (ns : List NamesLine) (more : List (List (List ℕ))) (c : Cond) (q : CondSoFar) → ArePlain names
    → Each (IsNamesLine names) ns → Up fits_names (last_of c.names) ns
    → Goes names more (at_stage Names (record c { names = c.names ++ ns })) q
    → Goes names (map (names_items names) ns ++ more) (at_stage Names c) q
names_all names [] more c q plain each up next lines have =
    ap (λ (l : List NamesLine). conditions.cond_lines names lines (at_stage Names (record c { names = l }))) (sym (append-nil c.names)) ∙ next lines have
names_all names (x ∷ ns) more c q plain each up next [] have = absurd (have)
names_all names (x ∷ ns) more c q plain each up next (line ∷ lines) have =
    let d : Cond = record c { names = c.names ++ x ∷ [] } in
    let later = subst (λ last. Up fits_names last ns) (sym (last_snoc c.names x)) up.1 in
    let follow : Goes names more (at_stage Names (record d { names = d.names ++ ns })) q =
    subst (λ (l : List NamesLine). Goes names more (at_stage Names (record c { names = l })) q) (sym (append_assoc c.names (x ∷ []) ns)) next in
    then_go (conditions.cond_line names line (at_stage Names c)) (at_stage Names d) _ _ (names_line_taken names line c x plain each.0 up.0 have.0)
    (names_all names ns more d q plain each.1 later follow lines have.1)

-- what is wanted behind a list, at whichever stage of the lists
abbrev pub GoesListed : List (List ℕ × Kind) → List (List (List ℕ)) → Cond → CondSoFar → Type 0
GoesListed names more c q = (s : CondStage) → IsListed s → Goes names more (at_stage s c) q

pub nonblank_all : (names : List (List ℕ × Kind)) (ids : List NameId) (more : List (List (List ℕ))) (s : CondStage) (c : Cond) (q : CondSoFar) → ArePlain names
    → IsListed s → conditions.may_have_nonblank s ≡ true → Each (IsField names) ids → Up is_above (last_of c.nonblank) ids
    → GoesListed names more (record c { nonblank = c.nonblank ++ ids }) q
    → Goes names (map (nonblank_items names) ids ++ more) (at_stage s c) q
nonblank_all names [] more s c q plain listed may each up next lines have =
    ap (λ (l : List NameId). conditions.cond_lines names lines (at_stage s (record c { nonblank = l }))) (sym (append-nil c.nonblank)) ∙ next s listed lines have
nonblank_all names (x ∷ ids) more s c q plain listed may each up next [] have = absurd (have)
nonblank_all names (x ∷ ids) more s c q plain listed may each up next (line ∷ lines) have =
    let d : Cond = record c { nonblank = c.nonblank ++ x ∷ [] } in
    let later = subst (λ last. Up is_above last ids) (sym (last_snoc c.nonblank x)) up.1 in
    let follow : GoesListed names more (record d { nonblank = d.nonblank ++ ids }) q =
    subst (λ (l : List NameId). GoesListed names more (record c { nonblank = l }) q) (sym (append_assoc c.nonblank (x ∷ []) ids)) next in
    then_go (conditions.cond_line names line (at_stage s c)) (at_stage Nonblank d) _ _ (nonblank_line_taken names line s c x plain listed may each.0 up.0 have.0)
    (nonblank_all names ids more Nonblank d q plain (λ n w r e. refl) refl each.1 later follow lines have.1)

pub types_all : (names : List (List ℕ × Kind)) (types : List (List ℕ)) (more : List (List (List ℕ))) (s : CondStage) (c : Cond) (q : CondSoFar) → IsListed s
    → Each (λ name. is_type name ≡ true) types → Up is_behind (last_of c.types) types
    → GoesListed names more (record c { types = c.types ++ types }) q
    → Goes names (map type_items types ++ more) (at_stage s c) q
types_all names [] more s c q listed each up next lines have =
    ap (λ (l : List (List ℕ)). conditions.cond_lines names lines (at_stage s (record c { types = l }))) (sym (append-nil c.types)) ∙ next s listed lines have
types_all names (x ∷ types) more s c q listed each up next [] have = absurd (have)
types_all names (x ∷ types) more s c q listed each up next (line ∷ lines) have =
    let d : Cond = record c { types = c.types ++ x ∷ [] } in
    let later = subst (λ last. Up is_behind last types) (sym (last_snoc c.types x)) up.1 in
    let follow : GoesListed names more (record d { types = d.types ++ types }) q =
    subst (λ (l : List (List ℕ)). GoesListed names more (record c { types = l }) q) (sym (append_assoc c.types (x ∷ []) types)) next in
    then_go (conditions.cond_line names line (at_stage s c)) (at_stage Types d) _ _ (type_line_taken names line s c x listed each.0 up.0 have.0)
    (types_all names types more Types d q (λ n w r e. refl) each.1 later follow lines have.1)

pub end_all : (names : List (List ℕ × Kind)) (s : CondStage) (c : Cond) (other : Bool) → IsListed s
    → Goes names (cond_end other) (at_stage s c) (at_stage Done (record c { other = other }))
end_all names s c other listed [] have = absurd (have)
end_all names s c other listed (first ∷ []) have = absurd (have.1)
end_all names s c other listed (first ∷ (second ∷ [])) have =
    then_go (conditions.cond_line names first (at_stage s c)) (at_stage End (record c { other = other })) _ _ (othertype_taken names first s c other listed have.0)
    (then_go (conditions.cond_line names second (at_stage End (record c { other = other }))) (at_stage Done (record c { other = other })) _ _
    (end_taken names second (record c { other = other }) have.1.0) refl)
end_all names s c other listed (first ∷ (second ∷ (third ∷ lines))) have = absurd (have.1.1)
