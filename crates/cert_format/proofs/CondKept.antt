-- A condition that is read keeps the limits and the order.
use Rattle.std.proofs.Common.{◌≡◌, ℕ, suc, ◌-◌, ◌≤◌, Bool, true, false, ◌&&◌, not, cond, List, [], ◌∷◌, ◌++◌, length, Option, Some, Ok, Err, codes, lit≤, refl, sym, ap, subst, ◌∙◌, arith}
use Rattle.std.specs.Prelude.{slice_get}
use Rattle.std.specs.Cmp.Lexicographic.{slice_cmp}
use Rattle.std.specs.Ordering.{is_lt, nat_cmp}
use Rattle.std.proofs.lemmas.Bool.{and_from, and_parts}
use Rattle.bst_meaning.specs.declared.condition.Cond.{Cond}
use Rattle.bst_meaning.specs.declared.condition.NamesLine.{NamesLine}
use Rattle.bv_base.proofs.ThenLemmas.{ok_is, then_ok, where_ok}
use Rattle.name_table.specs.Sound.{Each}
use Rattle.name_table.specs.declared.names.Kind.{Kind}
use Rattle.name_table.specs.declared.names.NameId.{NameId}
use Rattle.name_table.specs.declared.style.Style.{Style}
use Rattle.cert_format.specs.CondText.{IsCond, IsField, IsNamesLine, is_below, is_chain}
use Rattle.cert_format.specs.Conditions as conditions
use Rattle.cert_format.specs.Items.{choice, expected, field_above, field_in, is_above, is_behind, is_type, is_word, last_of, name_in, natural, type_above}
use Rattle.cert_format.specs.Lines.{Item, Line, line_end, lines_of, next_item}
use Rattle.cert_format.specs.Texts.{cond_of}
use Rattle.cert_format.specs.declared.cond_lines.CondSoFar.{CondSoFar}
use Rattle.cert_format.specs.declared.items.TheConstants.{MOST_NUMBER}
use Rattle.cert_format.specs.declared.stages.CondStage.{CondStage}
use Rattle.cert_format.specs.declared.stages.CondStage.TheVariants.{Entries, Key, Preamble, Length, Names, Nonblank, Types, End, Done}
use Rattle.cert_format.specs.declared.stop.Stop.{Stop}
use Rattle.cert_format.proofs.CondSteps.{told_ok}
use Rattle.cert_format.proofs.CondWhole.{fits_names}
use Rattle.cert_format.proofs.Numerals.{natural_read}

pub each_snoc : {A : Type 0} (P : A → Type 0) (xs : List A) (x : A) → Each P xs → P x → Each P (xs ++ x ∷ [])
each_snoc P [] x each is = (is, tt)
each_snoc P (y ∷ xs) x each is = (each.0, each_snoc P xs x each.1 is)

last_cons : {A : Type 0} (x y : A) (xs : List A) → last_of (x ∷ (y ∷ xs)) ≡ last_of (y ∷ xs)
last_cons x y xs =
    let place : length (x ∷ (y ∷ xs)) - 1 ≡ suc (length (y ∷ xs) - 1) = omega arith in
    ap (λ (n : ℕ). slice_get (x ∷ (y ∷ xs)) n) place

pub chain_snoc : {A : Type 0} (before : A → A → Bool) (fits : Option A → A → Bool) → ((a b : A) → fits (Some a) b ≡ true → before a b ≡ true)
    → (xs : List A) (x : A) → is_chain before xs ≡ true → fits (last_of xs) x ≡ true → is_chain before (xs ++ x ∷ []) ≡ true
chain_snoc before fits same [] x chain fit = refl
chain_snoc before fits same (y ∷ []) x chain fit = and_from (before y x) true (same y x fit) refl
chain_snoc before fits same (y ∷ (z ∷ xs)) x chain fit =
    let both = and_parts (before y z) (is_chain before (z ∷ xs)) chain in
    and_from (before y z) (is_chain before ((z ∷ xs) ++ x ∷ [])) both.0
    (chain_snoc before fits same (z ∷ xs) x both.1 (ap (λ last. fits last x) (sym (last_cons y z xs)) ∙ fit))

-- a field that is read is one, and is above the last one
field_kept : (last : Option NameId) (names : List (List ℕ × Kind)) (item : Item) (id : NameId) → field_above last names item ≡ Ok id
    → IsField names id × (is_above last id ≡ true)
field_kept last names item id e =
    let a = then_ok (field_in names item) _ _ e in
    let b = where_ok _ _ _ _ a.2 in
    let c = then_ok (name_in names item) _ _ a.1 in
    let d = where_ok _ _ _ _ c.2 in
    let same : id ≡ a.0 = ok_is a.0 id b.1 in
    let other : a.0 ≡ c.0 = ok_is c.0 a.0 d.1 in
    (subst (IsField names) (sym (same ∙ other)) d.0, subst (λ (i : NameId). is_above last i ≡ true) (sym same) b.0)

-- a number that is read is within its limit
pub last_kept : (most : ℕ) (line : Line) (n : ℕ) → most ≤ MOST_NUMBER → conditions.last_natural most line ≡ Ok n → n ≤ most
last_kept most line n bound e =
    let a = then_ok (next_item line) _ _ e in
    let b = then_ok (natural most a.0.0) _ _ a.2 in
    let c = then_ok (line_end a.0.1) _ _ b.2 in
    subst (λ (m : ℕ). m ≤ most) (sym (ok_is b.0 n c.2)) (natural_read most a.0.0 b.0 bound b.1).small

number_kept : (text : List ℕ) (most : ℕ) (word : Item) (line : Line) (n : ℕ) → most ≤ MOST_NUMBER → conditions.number_line text most word line ≡ Ok n → n ≤ most
number_kept text most word line n bound e = let a = then_ok (expected text word) _ _ e in last_kept most line n bound a.2

-- what has been read keeps the limits and the order
abbrev Kept : List (List ℕ × Kind) → CondSoFar → Type 0
Kept names q = IsCond names q.cond

-- a condition whose numbers and lists keep them
all_kept : (names : List (List ℕ × Kind)) (c : Cond) → c.entries ≤ 1000000 → c.key ≤ 1073741824 → c.preamble ≤ 1073741824 → c.length ≤ 1073741824
    → Each (IsNamesLine names) c.names → is_chain (λ a b. is_below a.field b.field) c.names ≡ true
    → Each (IsField names) c.nonblank → is_chain is_below c.nonblank ≡ true
    → Each (λ name. is_type name ≡ true) c.types → is_chain (λ a b. is_lt (slice_cmp nat_cmp a b)) c.types ≡ true
    → IsCond names c
all_kept names c few keys preambles longs lines names_rise fields nonblank_rise types types_rise =
    record {
      entries = few;
      key = keys;
      preamble = preambles;
      length = longs;
      bounds = lines;
      names_rise = names_rise;
      fields = fields;
      nonblank_rise = nonblank_rise;
      types = types;
      types_rise = types_rise;
    }

names_kept : (names : List (List ℕ × Kind)) (s : CondStage) (c : Cond) (rest : Line) (q : CondSoFar) → IsCond names c
    → conditions.names_line names rest (record { stage = s; cond = c }) ≡ Ok q → Kept names q
names_kept names s c rest q is e =
    let a = then_ok (next_item rest) _ _ e in
    let b = then_ok (field_above (conditions.last_field c.names) names a.0.0) _ _ a.2 in
    let n = then_ok (conditions.last_natural 1073741824 a.0.1) _ _ b.2 in
    let x : NamesLine = record { field = b.0; most = n.0 } in
    let next : CondSoFar = record { stage = s; cond = record c { names = c.names ++ x ∷ [] } } in
    let field = field_kept (conditions.last_field c.names) names a.0.0 b.0 b.1 in
    let small = last_kept 1073741824 a.0.1 n.0 (lit≤ tt) n.1 in
    let kept : Kept names next = all_kept names next.cond is.entries is.key is.preamble is.length (each_snoc (IsNamesLine names) c.names x is.bounds (field.0, small)) (chain_snoc (λ a b. is_below a.field b.field) fits_names (λ a b f. f) c.names x is.names_rise field.1) is.fields is.nonblank_rise is.types is.types_rise in
    subst (Kept names) (sym (ok_is next q n.2)) kept

nonblank_kept : (names : List (List ℕ × Kind)) (s : CondStage) (c : Cond) (rest : Line) (q : CondSoFar) → IsCond names c
    → conditions.nonblank_line names rest (record { stage = s; cond = c }) ≡ Ok q → Kept names q
nonblank_kept names s c rest q is e =
    let a = then_ok (next_item rest) _ _ e in
    let b = then_ok (field_above (last_of c.nonblank) names a.0.0) _ _ a.2 in
    let end = then_ok (line_end a.0.1) _ _ b.2 in
    let next : CondSoFar = record { stage = Nonblank; cond = record c { nonblank = c.nonblank ++ b.0 ∷ [] } } in
    let field = field_kept (last_of c.nonblank) names a.0.0 b.0 b.1 in
    let kept : Kept names next = all_kept names next.cond is.entries is.key is.preamble is.length is.bounds is.names_rise (each_snoc (IsField names) c.nonblank b.0 is.fields field.0) (chain_snoc is_below is_above (λ a b f. f) c.nonblank b.0 is.nonblank_rise field.1) is.types is.types_rise in
    subst (Kept names) (sym (ok_is next q end.2)) kept

type_is : (last : Option (List ℕ)) (item : Item) (u : Unit {0}) → type_above last item ≡ Ok u → (is_type item.text ≡ true) × (is_behind last item.text ≡ true)
type_is last item u e = by_type (is_type item.text) refl (is_behind last item.text) refl _ _ e
  where
    by_type : (t : Bool) → is_type item.text ≡ t → (b : Bool) → is_behind last item.text ≡ b → (x y : Stop)
        → cond (not t) (Err x) (cond b (Ok tt) (Err y)) ≡ Ok u → (is_type item.text ≡ true) × (is_behind last item.text ≡ true)
    by_type true is true behind x y e = (is, behind)
    by_type true is false behind x y e = absurd (cc)
    by_type false is b behind x y e = absurd (cc)

type_kept : (names : List (List ℕ × Kind)) (s : CondStage) (c : Cond) (rest : Line) (q : CondSoFar) → IsCond names c
    → conditions.type_line rest (record { stage = s; cond = c }) ≡ Ok q → Kept names q
type_kept names s c rest q is e =
    let a = then_ok (next_item rest) _ _ e in
    let b = then_ok (type_above (last_of c.types) a.0.0) _ _ a.2 in
    let end = then_ok (line_end a.0.1) _ _ b.2 in
    let name = a.0.0.text in
    let next : CondSoFar = record { stage = Types; cond = record c { types = c.types ++ name ∷ [] } } in
    let both = type_is (last_of c.types) a.0.0 b.0 b.1 in
    let kept : Kept names next = all_kept names next.cond is.entries is.key is.preamble is.length is.bounds is.names_rise is.fields is.nonblank_rise (each_snoc (λ n. is_type n ≡ true) c.types name is.types both.0) (chain_snoc (λ a b. is_lt (slice_cmp nat_cmp a b)) is_behind (λ a b f. f) c.types name is.types_rise both.1) in
    subst (Kept names) (sym (ok_is next q end.2)) kept

-- another choice or another stage changes no limit
same_lists : (names : List (List ℕ × Kind)) (s : CondStage) (c : Cond) (other : Bool) (q : CondSoFar) → IsCond names c
    → q ≡ record { stage = s; cond = record c { other = other } } → Kept names q
same_lists names s c other q is same =
    let next : CondSoFar = record { stage = s; cond = record c { other = other } } in
    let kept : Kept names next = all_kept names next.cond is.entries is.key is.preamble is.length is.bounds is.names_rise is.fields is.nonblank_rise is.types is.types_rise in
    subst (Kept names) (sym same) kept

othertype_kept : (names : List (List ℕ × Kind)) (s : CondStage) (c : Cond) (word : Item) (rest : Line) (q : CondSoFar) → IsCond names c
    → conditions.othertype_line word rest (record { stage = s; cond = c }) ≡ Ok q → Kept names q
othertype_kept names s c word rest q is e =
    let w = then_ok (expected (codes "othertype") word) _ _ e in
    let a = then_ok (next_item rest) _ _ w.2 in
    let b = then_ok (choice a.0.0) _ _ a.2 in
    let end = then_ok (line_end a.0.1) _ _ b.2 in
    same_lists names End c b.0 q is (ok_is (record { stage = End; cond = record c { other = b.0 } }) q end.2)

listed_kept : (names : List (List ℕ × Kind)) (s : CondStage) (c : Cond) (word : Item) (rest : Line) (q : CondSoFar) → IsCond names c → (t u v : Bool)
    → cond t (conditions.names_line names rest (record { stage = s; cond = c }))
    (cond u (conditions.nonblank_line names rest (record { stage = s; cond = c }))
    (cond v (conditions.type_line rest (record { stage = s; cond = c }))
    (conditions.othertype_line word rest (record { stage = s; cond = c })))) ≡ Ok q
    → Kept names q
listed_kept names s c word rest q is true u v e = names_kept names s c rest q is e
listed_kept names s c word rest q is false true v e = nonblank_kept names s c rest q is e
listed_kept names s c word rest q is false false true e = type_kept names s c rest q is e
listed_kept names s c word rest q is false false false e = othertype_kept names s c word rest q is e

with_numbers : (names : List (List ℕ × Kind)) (s : CondStage) (c : Cond) (q : CondSoFar) (entries key preamble long : ℕ) → IsCond names c
    → entries ≤ 1000000 → key ≤ 1073741824 → preamble ≤ 1073741824 → long ≤ 1073741824
    → q ≡ record { stage = s; cond = record c { entries = entries; key = key; preamble = preamble; length = long } } → Kept names q
with_numbers names s c q entries key preamble long is few keys preambles longs same =
    let next : CondSoFar = record { stage = s; cond = record c { entries = entries; key = key; preamble = preamble; length = long } } in
    let kept : Kept names next = all_kept names next.cond few keys preambles longs is.bounds is.names_rise is.fields is.nonblank_rise is.types is.types_rise in
    subst (Kept names) (sym same) kept

pub kept_at : (names : List (List ℕ × Kind)) (s : CondStage) (c : Cond) (word : Item) (rest : Line) (q : CondSoFar) → IsCond names c
    → conditions.worded_line names s word rest (record { stage = s; cond = c }) ≡ Ok q → Kept names q
kept_at names Entries c word rest q is e =
    let a = then_ok (conditions.number_line (codes "entries") 1000000 word rest) _ _ e in
    with_numbers names Key c q a.0 c.key c.preamble c.length is (number_kept (codes "entries") 1000000 word rest a.0 (lit≤ tt) a.1) is.key is.preamble is.length
    (ok_is (record { stage = Key; cond = record c { entries = a.0 } }) q a.2)
kept_at names Key c word rest q is e =
    let a = then_ok (conditions.number_line (codes "key") 1073741824 word rest) _ _ e in
    with_numbers names Preamble c q c.entries a.0 c.preamble c.length is is.entries (number_kept (codes "key") 1073741824 word rest a.0 (lit≤ tt) a.1) is.preamble is.length
    (ok_is (record { stage = Preamble; cond = record c { key = a.0 } }) q a.2)
kept_at names Preamble c word rest q is e =
    let a = then_ok (conditions.number_line (codes "preamble") 1073741824 word rest) _ _ e in
    with_numbers names Length c q c.entries c.key a.0 c.length is is.entries is.key (number_kept (codes "preamble") 1073741824 word rest a.0 (lit≤ tt) a.1) is.length
    (ok_is (record { stage = Length; cond = record c { preamble = a.0 } }) q a.2)
kept_at names Length c word rest q is e =
    let a = then_ok (conditions.number_line (codes "length") 1073741824 word rest) _ _ e in
    with_numbers names Names c q c.entries c.key c.preamble a.0 is is.entries is.key is.preamble (number_kept (codes "length") 1073741824 word rest a.0 (lit≤ tt) a.1)
    (ok_is (record { stage = Names; cond = record c { length = a.0 } }) q a.2)
kept_at names Names c word rest q is e =
    listed_kept names Names c word rest q is (conditions.may_have_names Names && is_word (codes "names") word)
    (conditions.may_have_nonblank Names && is_word (codes "nonblank") word) (is_word (codes "type") word) e
kept_at names Nonblank c word rest q is e =
    listed_kept names Nonblank c word rest q is (conditions.may_have_names Nonblank && is_word (codes "names") word)
    (conditions.may_have_nonblank Nonblank && is_word (codes "nonblank") word) (is_word (codes "type") word) e
kept_at names Types c word rest q is e =
    listed_kept names Types c word rest q is (conditions.may_have_names Types && is_word (codes "names") word)
    (conditions.may_have_nonblank Types && is_word (codes "nonblank") word) (is_word (codes "type") word) e
kept_at names End c word rest q is e =
    let w = then_ok (expected (codes "end") word) _ _ e in
    let end = then_ok (line_end rest) _ _ w.2 in
    same_lists names Done c c.other q is (ok_is (record { stage = Done; cond = c }) q end.2)
kept_at names Done c word rest q is e = absurd (cc)

lines_kept : (names : List (List ℕ × Kind)) (lines : List Line) (p q : CondSoFar) → Kept names p → conditions.cond_lines names lines p ≡ Ok q → Kept names q
lines_kept names [] p q is e = subst (Kept names) (sym (ok_is p q e)) is
lines_kept names (line ∷ lines) p q is e =
    let a = then_ok (conditions.cond_line names line p) _ _ e in
    let b = then_ok (next_item line) _ _ a.1 in
    lines_kept names lines a.0 q (kept_at names p.stage p.cond b.0.0 b.0.1 a.0 is b.2) a.2

finished_cond : (s : CondStage) (c : Cond) (condition : Cond) → conditions.finished (record { stage = s; cond = c }) s ≡ Ok condition → condition ≡ c
finished_cond Done c condition e = ok_is c condition e
finished_cond Entries c condition e = absurd (cc)
finished_cond Key c condition e = absurd (cc)
finished_cond Preamble c condition e = absurd (cc)
finished_cond Length c condition e = absurd (cc)
finished_cond Names c condition e = absurd (cc)
finished_cond Nonblank c condition e = absurd (cc)
finished_cond Types c condition e = absurd (cc)
finished_cond End c condition e = absurd (cc)

pub none_kept : (names : List (List ℕ × Kind)) → Kept names conditions.no_lines
none_kept names = all_kept names conditions.no_lines.cond (lit≤ tt) (lit≤ tt) (lit≤ tt) (lit≤ tt) tt refl tt refl tt refl

-- a condition that is read keeps the limits and the order
pub cond_kept : (style : Style) (source : List ℕ) (condition : Cond) → cond_of style source ≡ Ok condition → IsCond style.names condition
cond_kept style source condition e =
    let names = style.names in
    let a = then_ok (conditions.cond_lines names (lines_of source) conditions.no_lines) _ _ (told_ok source (conditions.cond_read names source) condition e) in
    subst (IsCond names) (sym (finished_cond a.0.stage a.0.cond condition a.2))
    (lines_kept names (lines_of source) conditions.no_lines a.0 (none_kept names) a.1)
