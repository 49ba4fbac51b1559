-- The text of a condition is read as that condition.
use Rattle.std.proofs.Common.{◌≡◌, ℕ, ◌≤◌, Bool, true, false, not, List, [], ◌∷◌, ◌++◌, map, Ok, codes, lit≤, refl, sym, ap, subst, ◌∙◌, append_assoc, arith}
use Rattle.std.specs.Fmt.{decimal}
use Rattle.std.specs.List.{list_all}
use Rattle.std.specs.Cmp.Lexicographic.{slice_cmp}
use Rattle.std.specs.Ordering.{is_lt, nat_cmp}
use Rattle.std.proofs.lemmas.Bool.{and_from, and_parts}
use Rattle.std.proofs.lemmas.Bool.Decides.{nat_tests}
use Rattle.bst_meaning.specs.declared.condition.Cond.{Cond}
use Rattle.bst_meaning.specs.declared.condition.NamesLine.{NamesLine}
use Rattle.bv_base.specs.Runs.{is_black, is_digit}
use Rattle.name_table.specs.Sound.{Each}
use Rattle.name_table.specs.declared.names.Kind.{Kind}
use Rattle.name_table.specs.declared.names.NameId.{NameId}
use Rattle.name_table.specs.declared.style.Style.{Style}
use Rattle.cert_format.specs.CondText.{ArePlain, IsCond, IsField, IsNamesLine, is_below}
use Rattle.cert_format.specs.Conditions as conditions
use Rattle.cert_format.specs.Items.{is_above, is_behind, is_empty, is_type}
use Rattle.cert_format.specs.Lines.{lines_of}
use Rattle.cert_format.specs.Spelling.{choice_text, cond_end, cond_items, cond_lists, cond_numbers, name_text, names_items, nonblank_items, text_of, type_items}
use Rattle.cert_format.specs.Texts.{cond_of, told}
use Rattle.cert_format.specs.declared.cond_lines.CondSoFar.{CondSoFar}
use Rattle.cert_format.specs.declared.stages.CondStage.TheVariants.{Key, Preamble, Length, Names, Done}
use Rattle.cert_format.proofs.CondTaken.{at_stage, numbered, then_go}
use Rattle.cert_format.proofs.CondWhole.{Goes, end_all, fits_names, names_all, nonblank_all, types_all, up_of}
use Rattle.cert_format.proofs.NamesTaken.{field_solid, type_solid}
use Rattle.cert_format.proofs.Numerals.{decimal_digits}
use Rattle.cert_format.proofs.Spelt.{SolidLine, SolidLines, spelt}

pub digits_black : (text : List ℕ) → list_all is_digit text ≡ true → list_all is_black text ≡ true
digits_black [] e = refl
digits_black (b ∷ text) e =
    let both = and_parts (is_digit b) (list_all is_digit text) e in
    and_from (is_black b) (list_all is_black text) (black b both.0) (digits_black text both.1)
  where
    black : (b : ℕ) → is_digit b ≡ true → is_black b ≡ true
    black b e = grind (arith, nat_tests)

decimal_type : (n : ℕ) → n ≤ 1073741824 → is_type (decimal n) ≡ true
decimal_type n small =
    let digits = decimal_digits n (omega (arith, small)) in
    and_from (not (is_empty (decimal n))) (list_all is_black (decimal n)) digits.1 (digits_black (decimal n) digits.0)

pub solid_append : (a b : List (List (List ℕ))) → SolidLines a → SolidLines b → SolidLines (a ++ b)
solid_append [] b first second = second
solid_append (line ∷ a) b first second = (first.0, solid_append a b first.1 second)

names_solid : (names : List (List ℕ × Kind)) (ns : List NamesLine) → ArePlain names → Each (IsNamesLine names) ns → SolidLines (map (names_items names) ns)
names_solid names [] plain each = tt
names_solid names (x ∷ ns) plain each =
    let field : is_type (name_text names x.field) ≡ true = field_solid names x.field plain each.0.0 in (
      (type_solid (codes "names") refl, (type_solid (name_text names x.field) field, (type_solid (decimal x.most) (decimal_type x.most each.0.1), tt))),
      names_solid names ns plain each.1,
    )

nonblank_solid : (names : List (List ℕ × Kind)) (ids : List NameId) → ArePlain names → Each (IsField names) ids → SolidLines (map (nonblank_items names) ids)
nonblank_solid names [] plain each = tt
nonblank_solid names (x ∷ ids) plain each =
    ((type_solid (codes "nonblank") refl, (type_solid (name_text names x) (field_solid names x plain each.0), tt)), nonblank_solid names ids plain each.1)

types_solid : (types : List (List ℕ)) → Each (λ name. is_type name ≡ true) types → SolidLines (map type_items types)
types_solid [] each = tt
types_solid (x ∷ types) each = ((type_solid (codes "type") refl, (type_solid x each.0, tt)), types_solid types each.1)

choice_solid : (other : Bool) → is_type (choice_text other) ≡ true
choice_solid true = refl
choice_solid false = refl

end_solid : (other : Bool) → SolidLines (cond_end other)
end_solid other =
    ((type_solid (codes "othertype") refl, (type_solid (choice_text other) (choice_solid other), tt)), ((type_solid (codes "end") refl, tt), tt))

number_solid : (word : List ℕ) (n : ℕ) → is_type word ≡ true → n ≤ 1073741824 → SolidLine (word ∷ (decimal n ∷ []))
number_solid word n solid small = (type_solid word solid, (type_solid (decimal n) (decimal_type n small), tt))

numbers_solid : (names : List (List ℕ × Kind)) (c : Cond) → IsCond names c → SolidLines (cond_numbers c)
numbers_solid names c is =
    let few : c.entries ≤ 1073741824 = omega (arith, is.entries) in (
      number_solid (codes "entries") c.entries refl few,
      (
        number_solid (codes "key") c.key refl is.key,
        (number_solid (codes "preamble") c.preamble refl is.preamble, (number_solid (codes "length") c.length refl is.length, tt)),
      ),
    )

-- the lines of a condition can be lines
pub lines_solid : (names : List (List ℕ × Kind)) (c : Cond) → ArePlain names → IsCond names c → SolidLines (cond_items names c)
lines_solid names c plain is =
    solid_append (cond_numbers c) (cond_lists names c ++ cond_end c.other) (numbers_solid names c is)
    (solid_append (cond_lists names c) (cond_end c.other)
    (solid_append (map (names_items names) c.names) (map (nonblank_items names) c.nonblank ++ map type_items c.types) (names_solid names c.names plain is.bounds)
    (solid_append (map (nonblank_items names) c.nonblank) (map type_items c.types) (nonblank_solid names c.nonblank plain is.fields) (types_solid c.types is.types)))
    (end_solid c.other))

-- a condition of these numbers alone
abbrev numbers_only : Cond → Cond
numbers_only c =
    record { entries = c.entries; key = c.key; preamble = c.preamble; length = c.length; names = []; nonblank = []; types = []; other = false }

-- the first lines of a condition
numbers_all : (names : List (List ℕ × Kind)) (c : Cond) (more : List (List (List ℕ))) (q : CondSoFar) → IsCond names c
    → Goes names more (at_stage Names (numbers_only c)) q → Goes names (cond_numbers c ++ more) conditions.no_lines q
numbers_all names c more q is next [] have = absurd (have)
numbers_all names c more q is next (a ∷ []) have = absurd (have.1)
numbers_all names c more q is next (a ∷ (b ∷ [])) have = absurd (have.1.1)
numbers_all names c more q is next (a ∷ (b ∷ (d ∷ []))) have = absurd (have.1.1.1)
numbers_all names c more q is next (a ∷ (b ∷ (d ∷ (e ∷ lines)))) have =
    let c0 : Cond = conditions.no_lines.cond in
    let c1 : Cond = record c0 { entries = c.entries } in
    let c2 : Cond = record c1 { key = c.key } in
    let c3 : Cond = record c2 { preamble = c.preamble } in
    then_go (conditions.cond_line names a conditions.no_lines) (at_stage Key c1) (conditions.cond_lines names (b ∷ (d ∷ (e ∷ lines)))) (Ok q)
    (numbered names a (codes "entries") 1000000 c.entries conditions.no_lines (at_stage Key c1) (λ number. Ok (at_stage Key (record c0 { entries = number }))) (lit≤ tt) is.entries have.0 (λ word rest. refl) refl)
    (then_go (conditions.cond_line names b (at_stage Key c1)) (at_stage Preamble c2) (conditions.cond_lines names (d ∷ (e ∷ lines))) (Ok q)
    (numbered names b (codes "key") 1073741824 c.key (at_stage Key c1) (at_stage Preamble c2) (λ number. Ok (at_stage Preamble (record c1 { key = number }))) (lit≤ tt) is.key have.1.0 (λ word rest. refl) refl)
    (then_go (conditions.cond_line names d (at_stage Preamble c2)) (at_stage Length c3) (conditions.cond_lines names (e ∷ lines)) (Ok q)
    (numbered names d (codes "preamble") 1073741824 c.preamble (at_stage Preamble c2) (at_stage Length c3) (λ number. Ok (at_stage Length (record c2 { preamble = number }))) (lit≤ tt) is.preamble have.1.1.0 (λ word rest. refl) refl)
    (then_go (conditions.cond_line names e (at_stage Length c3)) (at_stage Names (numbers_only c)) (conditions.cond_lines names lines) (Ok q)
    (numbered names e (codes "length") 1073741824 c.length (at_stage Length c3) (at_stage Names (numbers_only c)) (λ number. Ok (at_stage Names (record c3 { length = number }))) (lit≤ tt) is.length have.1.1.1.0 (λ word rest. refl) refl)
    (next lines have.1.1.1.1))))

-- all lines of a condition
pub all_lines : (names : List (List ℕ × Kind)) (c : Cond) → ArePlain names → IsCond names c
    → Goes names (cond_items names c) conditions.no_lines (at_stage Done c)
all_lines names c plain is =
    let n = map (names_items names) c.names in
    let b = map (nonblank_items names) c.nonblank in
    let t = map type_items c.types in
    let end = cond_end c.other in
    let joined : (n ++ (b ++ t)) ++ end ≡ n ++ (b ++ (t ++ end)) = append_assoc n (b ++ t) end ∙ ap (λ l. n ++ l) (append_assoc b t end) in
    let lists : Goes names (n ++ (b ++ (t ++ end))) (at_stage Names (numbers_only c)) (at_stage Done c) =
    let named : Cond = record (numbers_only c) { names = c.names } in
    let inked : Cond = record named { nonblank = c.nonblank } in
    let typed : Cond = record inked { types = c.types } in
    names_all names c.names (b ++ (t ++ end)) (numbers_only c) (at_stage Done c) plain is.bounds
    (up_of (λ x y. is_below x.field y.field) fits_names (λ x y e. e) (λ y. refl) c.names is.names_rise)
    (nonblank_all names c.nonblank (t ++ end) Names named (at_stage Done c) plain (λ m w r e. refl) refl is.fields
    (up_of is_below is_above (λ x y e. e) (λ y. refl) c.nonblank is.nonblank_rise)
    (λ s listed. types_all names c.types end s inked (at_stage Done c) listed is.types
    (up_of (λ x y. is_lt (slice_cmp nat_cmp x y)) is_behind (λ x y e. e) (λ y. refl) c.types is.types_rise)
    (λ u also. end_all names u typed c.other also))) in
    numbers_all names c ((n ++ (b ++ t)) ++ end) (at_stage Done c) is
    (subst (λ (l : List (List (List ℕ))). Goes names l (at_stage Names (numbers_only c)) (at_stage Done c)) (sym joined) lists)

-- the text of a condition is read as that condition
pub cond_back : (style : Style) (c : Cond) → ArePlain style.names → IsCond style.names c → cond_of style (text_of (cond_items style.names c)) ≡ Ok c
cond_back style c plain is =
    let names = style.names in
    let text = text_of (cond_items names c) in
    let s = spelt (cond_items names c) (lines_solid names c plain is) in
    ap (told text)
    (then_go (conditions.cond_lines names (lines_of text) conditions.no_lines) (at_stage Done c) (λ p. conditions.finished p p.stage) (Ok c)
    (ap (λ l. conditions.cond_lines names l conditions.no_lines) s.are ∙ all_lines names c plain is s.lines s.have) refl)
