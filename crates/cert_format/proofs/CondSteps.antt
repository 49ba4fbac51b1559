-- Each line of a condition that is read is spelled by what has been read after it.
use Rattle.std.proofs.Common.{◌≡◌, ℕ, ◌≤◌, Bool, true, false, ◌&&◌, ◌||◌, cond, List, [], ◌∷◌, ◌++◌, map, Result, Ok, Err, codes, lit≤, refl, sym, ap, subst, ◌∙◌, append_assoc}
use Rattle.std.specs.Fmt.{decimal}
use Rattle.std.proofs.lemmas.Bool.{and_parts}
use Rattle.std.proofs.lemmas.List.{append-nil}
use Rattle.bst_meaning.specs.declared.condition.Cond.{Cond}
use Rattle.bst_meaning.specs.declared.condition.NamesLine.{NamesLine}
use Rattle.bv_base.specs.Answers.{then_do}
use Rattle.bv_base.proofs.ThenLemmas.{ok, ok_is, then_ok}
use Rattle.name_table.specs.declared.names.Kind.{Kind}
use Rattle.name_table.specs.declared.names.NameId.{NameId}
use Rattle.name_table.specs.declared.style.Style.{Style}
use Rattle.sym_state.proofs.Consequences.{same_bytes}
use Rattle.cert_format.specs.Conditions as conditions
use Rattle.cert_format.specs.Items.{choice, expected, field_above, is_word, last_of, type_above}
use Rattle.cert_format.specs.Lines.{Item, Line, line_end, lines_of, next_item, with_item}
use Rattle.cert_format.specs.Spelling.{choice_text, cond_items, cond_lists, cond_numbers, name_text, names_items, nonblank_items, text_of, type_items}
use Rattle.cert_format.specs.Texts.{cond_of, told}
use Rattle.cert_format.specs.declared.cond_lines.CondSoFar.{CondSoFar}
use Rattle.cert_format.specs.declared.items.TheConstants.{MOST_NUMBER}
use Rattle.cert_format.specs.declared.stages.CondStage.{CondStage}
use Rattle.cert_format.specs.declared.stages.CondStage.TheVariants.{Entries, Key, Preamble, Length, Names, Nonblank, Types, End, Done}
use Rattle.cert_format.specs.declared.stop.Stop.{Stop}
use Rattle.cert_format.proofs.CondRead.{Has, at_end, choice_read, item_before, next_is, none_left, number_read, numbered, word_is}
use Rattle.cert_format.proofs.Named.{field_read}
use Rattle.cert_format.proofs.Split.{AllEnded, Ended, split_text, texts}

-- a line of a number
abbrev number_items : List ℕ → ℕ → List (List ℕ)
number_items word n = word ∷ (decimal n ∷ [])

-- the lines that have been read before each stage
abbrev pub spelled : List (List ℕ × Kind) → CondStage → Cond → List (List (List ℕ))
spelled names Entries c = []
spelled names Key c = number_items (codes "entries") c.entries ∷ []
spelled names Preamble c = number_items (codes "entries") c.entries ∷ (number_items (codes "key") c.key ∷ [])
spelled names Length c =
    number_items (codes "entries") c.entries ∷ (number_items (codes "key") c.key ∷ (number_items (codes "preamble") c.preamble ∷ []))
spelled names Names c = cond_numbers c ++ cond_lists names c
spelled names Nonblank c = cond_numbers c ++ cond_lists names c
spelled names Types c = cond_numbers c ++ cond_lists names c
spelled names End c = cond_numbers c ++ (cond_lists names c ++ (codes "othertype" ∷ (choice_text c.other ∷ [])) ∷ [])
spelled names Done c = cond_items names c

-- no line on names has come
abbrev no_names : CondStage → Bool
no_names Entries = true
no_names Key = true
no_names Preamble = true
no_names Length = true
no_names _ = false

-- no `nonblank` line has come
abbrev no_nonblank : CondStage → Bool
no_nonblank s = no_names s || conditions.may_have_names s

-- no `type` line has come
abbrev no_types : CondStage → Bool
no_types s = no_names s || conditions.may_have_nonblank s

-- lists whose lines haven't come are empty
pub record Fits (s : CondStage) (c : Cond) : Type 0 where
  pub names : no_names s ≡ true → c.names ≡ []
  pub nonblank : no_nonblank s ≡ true → c.nonblank ≡ []
  pub types : no_types s ≡ true → c.types ≡ []

-- a line that is read is spelled behind those before it
pub record Stepped (names : List (List ℕ × Kind)) (s : CondStage) (c : Cond) (line : Line) (q : CondSoFar) : Type 0 where
  pub goes : spelled names q.stage q.cond ≡ spelled names s c ++ texts line ∷ []
  pub ends : Ended line
  pub fits : Fits q.stage q.cond

stepped : (names : List (List ℕ × Kind)) (s : CondStage) (c : Cond) (line : Line) (q next : CondSoFar) (items : List (List ℕ)) → q ≡ next
    → spelled names next.stage next.cond ≡ spelled names s c ++ items ∷ [] → Has line items → Fits next.stage next.cond
    → Stepped names s c line q
stepped names s c line q next items is goes has fits =
    record {
      goes = ap (λ (p : CondSoFar). spelled names p.stage p.cond) is ∙ goes ∙ ap (λ (i : List (List ℕ)). spelled names s c ++ i ∷ []) (sym has.items);
      ends = has.ends;
      fits = subst (λ (p : CondSoFar). Fits p.stage p.cond) (sym is) fits;
    }

pub map_snoc : {A B : Type 0} (f : A → B) (xs : List A) (x : A) → map f (xs ++ x ∷ []) ≡ map f xs ++ f x ∷ []
map_snoc f [] x = refl
map_snoc f (y ∷ xs) x = ap (λ l. f y ∷ l) (map_snoc f xs x)

pub snoc_left : {A : Type 0} (a : List A) (x : A) (m : List A) → m ≡ [] → (a ++ x ∷ []) ++ m ≡ (a ++ m) ++ x ∷ []
snoc_left a x m e =
    ap (λ l. (a ++ x ∷ []) ++ l) e ∙ append-nil (a ++ x ∷ [])
    ∙ sym (ap (λ l. (a ++ l) ++ x ∷ []) e ∙ ap (λ l. l ++ x ∷ []) (append-nil a))

no_lists : (names : List (List ℕ × Kind)) (c : Cond) → c.nonblank ≡ [] → c.types ≡ [] → map (nonblank_items names) c.nonblank ++ map type_items c.types ≡ []
no_lists names c b t = ap (λ l. map (nonblank_items names) l ++ map type_items c.types) b ∙ ap (λ l. map type_items l) t

pub empty_lists : (names : List (List ℕ × Kind)) (c : Cond) → c.names ≡ [] → c.nonblank ≡ [] → c.types ≡ [] → cond_lists names c ≡ []
empty_lists names c n b t = ap (λ l. map (names_items names) l ++ (map (nonblank_items names) c.nonblank ++ map type_items c.types)) n ∙ no_lists names c b t

more_names : (names : List (List ℕ × Kind)) (c : Cond) (x : NamesLine) → c.nonblank ≡ [] → c.types ≡ []
    → cond_lists names (record c { names = c.names ++ x ∷ [] }) ≡ cond_lists names c ++ names_items names x ∷ []
more_names names c x b t =
    ap (λ l. l ++ (map (nonblank_items names) c.nonblank ++ map type_items c.types)) (map_snoc (names_items names) c.names x)
    ∙ snoc_left (map (names_items names) c.names) (names_items names x) (map (nonblank_items names) c.nonblank ++ map type_items c.types) (no_lists names c b t)

pub more_nonblank : (names : List (List ℕ × Kind)) (c : Cond) (x : NameId) → c.types ≡ []
    → cond_lists names (record c { nonblank = c.nonblank ++ x ∷ [] }) ≡ cond_lists names c ++ nonblank_items names x ∷ []
more_nonblank names c x t =
    let front = map (names_items names) c.names in
    ap (λ l. front ++ (l ++ map type_items c.types)) (map_snoc (nonblank_items names) c.nonblank x)
    ∙ ap (λ l. front ++ l) (snoc_left (map (nonblank_items names) c.nonblank) (nonblank_items names x) (map type_items c.types) (ap (λ l. map type_items l) t))
    ∙ sym (append_assoc front (map (nonblank_items names) c.nonblank ++ map type_items c.types) (nonblank_items names x ∷ []))

pub more_types : (names : List (List ℕ × Kind)) (c : Cond) (x : List ℕ)
    → cond_lists names (record c { types = c.types ++ x ∷ [] }) ≡ cond_lists names c ++ type_items x ∷ []
more_types names c x =
    let front = map (names_items names) c.names in
    let middle = map (nonblank_items names) c.nonblank in
    ap (λ l. front ++ (middle ++ l)) (map_snoc type_items c.types x)
    ∙ ap (λ l. front ++ l) (sym (append_assoc middle (map type_items c.types) (type_items x ∷ [])))
    ∙ sym (append_assoc front (middle ++ map type_items c.types) (type_items x ∷ []))

-- the stages of the lists
abbrev Listed : List (List ℕ × Kind) → CondStage → Type 0
Listed names s = (c : Cond) → spelled names s c ≡ cond_numbers c ++ cond_lists names c

-- one more line of a list
one_more : (names : List (List ℕ × Kind)) (s next : CondStage) (c d : Cond) (items : List (List ℕ)) → Listed names s → Listed names next
    → cond_numbers d ≡ cond_numbers c → cond_lists names d ≡ cond_lists names c ++ items ∷ [] → spelled names next d ≡ spelled names s c ++ items ∷ []
one_more names s next c d items before after same more =
    after d ∙ ap (λ l. l ++ cond_lists names d) same ∙ ap (λ l. cond_numbers c ++ l) more
    ∙ sym (append_assoc (cond_numbers c) (cond_lists names c) (items ∷ []))
    ∙ ap (λ l. l ++ items ∷ []) (sym (before c))

may_names : (s : CondStage) → conditions.may_have_names s ≡ true → (no_names s ≡ false) × (no_nonblank s ≡ true) × (no_types s ≡ true)
may_names Names e = (refl, refl, refl)
may_names _ e = absurd (cc)

pub may_nonblank : (s : CondStage) → conditions.may_have_nonblank s ≡ true → no_types s ≡ true
may_nonblank Names e = refl
may_nonblank Nonblank e = refl
may_nonblank _ e = absurd (cc)

pub names_step : (names : List (List ℕ × Kind)) (s : CondStage) (c : Cond) (word : Item) (rest line : Line) (q : CondSoFar) → line ≡ with_item word rest
    → Listed names s → Fits s c → conditions.may_have_names s ≡ true → is_word (codes "names") word ≡ true
    → conditions.names_line names rest (record { stage = s; cond = c }) ≡ Ok q → Stepped names s c line q
names_step names s c word rest line q is listed fits may said e =
    let a = then_ok (next_item rest) _ _ e in
    let b = then_ok (field_above (conditions.last_field c.names) names a.0.0) _ _ a.2 in
    let n = then_ok (conditions.last_natural 1073741824 a.0.1) _ _ b.2 in
    let x : NamesLine = record { field = b.0; most = n.0 } in
    let ruled = may_names s may in
    let next : CondSoFar = record { stage = s; cond = record c { names = c.names ++ x ∷ [] } } in
    let inner : Has rest (name_text names b.0 ∷ (decimal n.0 ∷ [])) =
    item_before rest a.0.0 a.0.1 (name_text names b.0) (decimal n.0 ∷ []) (next_is rest a.0.0 a.0.1 a.1)
    (field_read (conditions.last_field c.names) names a.0.0 b.0 b.1) (number_read 1073741824 a.0.1 n.0 (lit≤ tt) n.1) in
    stepped names s c line q next (names_items names x) (ok_is next q n.2)
    (one_more names s s c next.cond (names_items names x) listed listed refl (more_names names c x (fits.nonblank ruled.1) (fits.types ruled.2)))
    (item_before line word rest (codes "names") _ is (same_bytes word.text (codes "names") said) inner)
    (record { names = λ f. absurd (true_false (sym f ∙ ruled.0)); nonblank = fits.nonblank; types = fits.types })
  where
    true_false : true ≡ false → ⊥
    true_false e = absurd (cc)

nonblank_step : (names : List (List ℕ × Kind)) (s : CondStage) (c : Cond) (word : Item) (rest line : Line) (q : CondSoFar) → line ≡ with_item word rest
    → Listed names s → Fits s c → conditions.may_have_nonblank s ≡ true → is_word (codes "nonblank") word ≡ true
    → conditions.nonblank_line names rest (record { stage = s; cond = c }) ≡ Ok q → Stepped names s c line q
nonblank_step names s c word rest line q is listed fits may said e =
    let a = then_ok (next_item rest) _ _ e in
    let b = then_ok (field_above (last_of c.nonblank) names a.0.0) _ _ a.2 in
    let end = then_ok (line_end a.0.1) _ _ b.2 in
    let next : CondSoFar = record { stage = Nonblank; cond = record c { nonblank = c.nonblank ++ b.0 ∷ [] } } in
    let t = fits.types (may_nonblank s may) in
    let inner : Has rest (name_text names b.0 ∷ []) =
    item_before rest a.0.0 a.0.1 (name_text names b.0) [] (next_is rest a.0.0 a.0.1 a.1) (field_read (last_of c.nonblank) names a.0.0 b.0 b.1)
    (none_left a.0.1 (at_end a.0.1 end.0 end.1)) in
    stepped names s c line q next (nonblank_items names b.0) (ok_is next q end.2)
    (one_more names s Nonblank c next.cond (nonblank_items names b.0) listed (λ d. refl) refl (more_nonblank names c b.0 t))
    (item_before line word rest (codes "nonblank") _ is (same_bytes word.text (codes "nonblank") said) inner)
    (record { names = λ f. absurd (cc); nonblank = λ f. absurd (cc); types = λ f. t })

type_step : (names : List (List ℕ × Kind)) (s : CondStage) (c : Cond) (word : Item) (rest line : Line) (q : CondSoFar) → line ≡ with_item word rest
    → Listed names s → is_word (codes "type") word ≡ true
    → conditions.type_line rest (record { stage = s; cond = c }) ≡ Ok q → Stepped names s c line q
type_step names s c word rest line q is listed said e =
    let a = then_ok (next_item rest) _ _ e in
    let b = then_ok (type_above (last_of c.types) a.0.0) _ _ a.2 in
    let end = then_ok (line_end a.0.1) _ _ b.2 in
    let name = a.0.0.text in
    let next : CondSoFar = record { stage = Types; cond = record c { types = c.types ++ name ∷ [] } } in
    let inner : Has rest (name ∷ []) =
    item_before rest a.0.0 a.0.1 name [] (next_is rest a.0.0 a.0.1 a.1) refl (none_left a.0.1 (at_end a.0.1 end.0 end.1)) in
    stepped names s c line q next (type_items name) (ok_is next q end.2)
    (one_more names s Types c next.cond (type_items name) listed (λ d. refl) refl (more_types names c name))
    (item_before line word rest (codes "type") _ is (same_bytes word.text (codes "type") said) inner)
    (record { names = λ f. absurd (cc); nonblank = λ f. absurd (cc); types = λ f. absurd (cc) })

othertype_step : (names : List (List ℕ × Kind)) (s : CondStage) (c : Cond) (word : Item) (rest line : Line) (q : CondSoFar) → line ≡ with_item word rest
    → Listed names s → conditions.othertype_line word rest (record { stage = s; cond = c }) ≡ Ok q → Stepped names s c line q
othertype_step names s c word rest line q is listed e =
    let w = then_ok (expected (codes "othertype") word) _ _ e in
    let a = then_ok (next_item rest) _ _ w.2 in
    let b = then_ok (choice a.0.0) _ _ a.2 in
    let end = then_ok (line_end a.0.1) _ _ b.2 in
    let next : CondSoFar = record { stage = End; cond = record c { other = b.0 } } in
    let items = codes "othertype" ∷ (choice_text b.0 ∷ []) in
    let inner : Has rest (choice_text b.0 ∷ []) =
    item_before rest a.0.0 a.0.1 (choice_text b.0) [] (next_is rest a.0.0 a.0.1 a.1) (choice_read a.0.0 b.0 b.1) (none_left a.0.1 (at_end a.0.1 end.0 end.1)) in
    stepped names s c line q next items (ok_is next q end.2)
    (sym (append_assoc (cond_numbers c) (cond_lists names c) (items ∷ [])) ∙ ap (λ l. l ++ items ∷ []) (sym (listed c)))
    (item_before line word rest (codes "othertype") _ is (word_is (codes "othertype") word w.0 w.1) inner)
    (record { names = λ f. absurd (cc); nonblank = λ f. absurd (cc); types = λ f. absurd (cc) })

listed_step : (names : List (List ℕ × Kind)) (s : CondStage) (c : Cond) (word : Item) (rest line : Line) (q : CondSoFar) → line ≡ with_item word rest
    → Listed names s → Fits s c
    → (t u v : Bool) → conditions.may_have_names s && is_word (codes "names") word ≡ t
    → conditions.may_have_nonblank s && is_word (codes "nonblank") word ≡ u → is_word (codes "type") word ≡ v
    → cond t (conditions.names_line names rest (record { stage = s; cond = c }))
    (cond u (conditions.nonblank_line names rest (record { stage = s; cond = c }))
    (cond v (conditions.type_line rest (record { stage = s; cond = c }))
    (conditions.othertype_line word rest (record { stage = s; cond = c })))) ≡ Ok q
    → Stepped names s c line q
listed_step names s c word rest line q is listed fits true u v first second third e =
    let both = and_parts (conditions.may_have_names s) (is_word (codes "names") word) first in
    names_step names s c word rest line q is listed fits both.0 both.1 e
listed_step names s c word rest line q is listed fits false true v first second third e =
    let both = and_parts (conditions.may_have_nonblank s) (is_word (codes "nonblank") word) second in
    nonblank_step names s c word rest line q is listed fits both.0 both.1 e
listed_step names s c word rest line q is listed fits false false true first second third e =
    type_step names s c word rest line q is listed third e
listed_step names s c word rest line q is listed fits false false false first second third e =
    othertype_step names s c word rest line q is listed e

end_step : (names : List (List ℕ × Kind)) (c : Cond) (word : Item) (rest line : Line) (q : CondSoFar) → line ≡ with_item word rest
    → conditions.end_line word rest (record { stage = End; cond = c }) ≡ Ok q → Stepped names End c line q
end_step names c word rest line q is e =
    let w = then_ok (expected (codes "end") word) _ _ e in
    let end = then_ok (line_end rest) _ _ w.2 in
    let next : CondSoFar = record { stage = Done; cond = c } in
    let other : List (List ℕ) = codes "othertype" ∷ (choice_text c.other ∷ []) in
    let last : List (List ℕ) = codes "end" ∷ [] in
    stepped names End c line q next last (ok_is next q end.2)
    (ap (λ l. cond_numbers c ++ l) (sym (append_assoc (cond_lists names c) (other ∷ []) (last ∷ [])))
    ∙ sym (append_assoc (cond_numbers c) (cond_lists names c ++ other ∷ []) (last ∷ [])))
    (item_before line word rest (codes "end") [] is (word_is (codes "end") word w.0 w.1) (none_left rest (at_end rest end.0 end.1)))
    (record { names = λ f. absurd (cc); nonblank = λ f. absurd (cc); types = λ f. absurd (cc) })

-- what has been read at a stage
abbrev next_of : CondStage → Cond → CondSoFar
next_of s c = record { stage = s; cond = c }

-- the numbers of a condition
abbrev with_entries : ℕ → Cond → Cond
with_entries n c = record c { entries = n }

abbrev with_key : ℕ → Cond → Cond
with_key n c = record c { key = n }

abbrev with_preamble : ℕ → Cond → Cond
with_preamble n c = record c { preamble = n }

abbrev with_length : ℕ → Cond → Cond
with_length n c = record c { length = n }

number_step : (names : List (List ℕ × Kind)) (s next : CondStage) (c : Cond) (with_number : ℕ → Cond → Cond) (text : List ℕ) (most : ℕ) (word : Item)
    (rest line : Line) (q : CondSoFar) → line ≡ with_item word rest → most ≤ MOST_NUMBER
    → ((n : ℕ) → spelled names next (with_number n c) ≡ spelled names s c ++ number_items text n ∷ [])
    → ((n : ℕ) → Fits next (with_number n c))
    → then_do (conditions.number_line text most word rest) (λ n. ok {E = Stop} (next_of next (with_number n c))) ≡ Ok q
    → Stepped names s c line q
number_step names s next c with_number text most word rest line q is bound goes fits e =
    let a = then_ok (conditions.number_line text most word rest) _ _ e in
    let n = numbered text most word rest a.0 bound a.1 in
    stepped names s c line q (next_of next (with_number a.0 c)) (number_items text a.0) (ok_is (next_of next (with_number a.0 c)) q a.2) (goes a.0)
    (item_before line word rest text (decimal a.0 ∷ []) is n.word_said n.has) (fits a.0)

-- a line of a condition that is read
pub step_at : (names : List (List ℕ × Kind)) (s : CondStage) (c : Cond) (word : Item) (rest line : Line) (q : CondSoFar) → line ≡ with_item word rest
    → Fits s c → conditions.worded_line names s word rest (record { stage = s; cond = c }) ≡ Ok q → Stepped names s c line q
step_at names Entries c word rest line q is fits e =
    number_step names Entries Key c with_entries (codes "entries") 1000000 word rest line q is (lit≤ tt) (λ n. refl)
    (λ n. record { names = λ f. fits.names refl; nonblank = λ f. fits.nonblank refl; types = λ f. fits.types refl }) e
step_at names Key c word rest line q is fits e =
    number_step names Key Preamble c with_key (codes "key") 1073741824 word rest line q is (lit≤ tt) (λ n. refl)
    (λ n. record { names = λ f. fits.names refl; nonblank = λ f. fits.nonblank refl; types = λ f. fits.types refl }) e
step_at names Preamble c word rest line q is fits e =
    number_step names Preamble Length c with_preamble (codes "preamble") 1073741824 word rest line q is (lit≤ tt) (λ n. refl)
    (λ n. record { names = λ f. fits.names refl; nonblank = λ f. fits.nonblank refl; types = λ f. fits.types refl }) e
step_at names Length c word rest line q is fits e =
    number_step names Length Names c with_length (codes "length") 1073741824 word rest line q is (lit≤ tt)
    (λ n. ap (λ l. cond_numbers (with_length n c) ++ l) (empty_lists names c (fits.names refl) (fits.nonblank refl) (fits.types refl)))
    (λ n. record { names = λ f. absurd (cc); nonblank = λ f. fits.nonblank refl; types = λ f. fits.types refl }) e
step_at names Names c word rest line q is fits e =
    listed_step names Names c word rest line q is (λ d. refl) fits _ _ _ refl refl refl e
step_at names Nonblank c word rest line q is fits e =
    listed_step names Nonblank c word rest line q is (λ d. refl) fits _ _ _ refl refl refl e
step_at names Types c word rest line q is fits e =
    listed_step names Types c word rest line q is (λ d. refl) fits _ _ _ refl refl refl e
step_at names End c word rest line q is fits e = end_step names c word rest line q is e
step_at names Done c word rest line q is fits e = absurd (cc)

-- lines that are read are spelled behind those before them
pub record Steps (names : List (List ℕ × Kind)) (p : CondSoFar) (lines : List Line) (q : CondSoFar) : Type 0 where
  pub goes : spelled names q.stage q.cond ≡ spelled names p.stage p.cond ++ map texts lines
  pub ends : AllEnded lines

pub steps : (names : List (List ℕ × Kind)) (lines : List Line) (p q : CondSoFar) → Fits p.stage p.cond → conditions.cond_lines names lines p ≡ Ok q
    → Steps names p lines q
steps names [] p q fits e =
    record {
      goes = ap (λ (r : CondSoFar). spelled names r.stage r.cond) (ok_is p q e) ∙ sym (append-nil (spelled names p.stage p.cond));
      ends = tt;
    }
steps names (line ∷ lines) p q fits e =
    let a = then_ok (conditions.cond_line names line p) _ _ e in
    let b = then_ok (next_item line) _ _ a.1 in
    let one = step_at names p.stage p.cond b.0.0 b.0.1 line a.0 (next_is line b.0.0 b.0.1 b.1) fits b.2 in
    let more = steps names lines a.0 q one.fits a.2 in
    record {
      goes = more.goes ∙ ap (λ l. l ++ map texts lines) one.goes
          ∙ append_assoc (spelled names p.stage p.cond) (texts line ∷ []) (map texts lines);
      ends = (one.ends, more.ends);
    }

finished_is : (s : CondStage) (c : Cond) (condition : Cond) → conditions.finished (record { stage = s; cond = c }) s ≡ Ok condition
    → (names : List (List ℕ × Kind)) → spelled names s c ≡ cond_items names condition
finished_is Done c condition e names = ap (cond_items names) (sym (ok_is c condition e))
finished_is Entries c condition e names = absurd (cc)
finished_is Key c condition e names = absurd (cc)
finished_is Preamble c condition e names = absurd (cc)
finished_is Length c condition e names = absurd (cc)
finished_is Names c condition e names = absurd (cc)
finished_is Nonblank c condition e names = absurd (cc)
finished_is Types c condition e names = absurd (cc)
finished_is End c condition e names = absurd (cc)

pub told_ok : {A : Type 0} (source : List ℕ) (r : Result A Stop) (value : A) → told source r ≡ Ok value → r ≡ Ok value
told_ok source (Ok v) value e = ap Ok (sym (ok_is v value e))
told_ok source (Err s) value e = absurd (cc)

-- a condition that is read spells the text
pub cond_spelled : (style : Style) (source : List ℕ) (condition : Cond) → cond_of style source ≡ Ok condition
    → source ≡ text_of (cond_items style.names condition)
cond_spelled style source condition e =
    let names = style.names in
    let a = then_ok (conditions.cond_lines names (lines_of source) conditions.no_lines) _ _ (told_ok source (conditions.cond_read names source) condition e) in
    let none : Fits Entries conditions.no_lines.cond = record { names = λ f. refl; nonblank = λ f. refl; types = λ f. refl } in
    let all = steps names (lines_of source) conditions.no_lines a.0 none a.1 in
    split_text source all.ends ∙ ap text_of (sym all.goes ∙ finished_is a.0.stage a.0.cond condition a.2 names)
