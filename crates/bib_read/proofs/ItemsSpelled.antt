-- The items of a text are what the grammar has, both ways.
use Rattle.std.proofs.Common.{◌≡◌, ℕ, zero, suc, ◌<◌, ◌≤◌, inl, inr, Bool, true, false, ◌&&◌, ◌||◌, not, cond, nat_eq, List, [], ◌∷◌, ◌++◌, length, take, drop, Option, None, Some, Result, Ok, Err, refl, sym, ap, subst, ◌∙◌, arith, eqb-true, codes}
use Rattle.std.proofs.lemmas.Bool.Decides.{nat_tests}
use Rattle.std.proofs.lemmas.List.{append-nil}
use Rattle.std.proofs.lemmas.Bool.{and_parts}
use Rattle.bv_base.specs.Bytes.{is_white}
use Rattle.bv_base.specs.Runs.{after_white, is_black, length_before, EndsBy, NoneOf}
use Rattle.bv_base.specs.Answers.{then_do}
use Rattle.name_table.specs.Names.{lowered, same_name}
use Rattle.bib_read.specs.declared.database.Database.{Database}
use Rattle.bib_read.specs.declared.stop.Stop.{Stop}
use Rattle.bib_read.specs.declared.stop.Stop.TheVariants.{Expected, RepeatedKey}
use Rattle.bib_read.specs.Entering.{entry_at, take_entry, take_fields, with_entry}
use Rattle.bib_read.specs.Grammar.{Piece, FieldTree, Item, Comment, Definition, Preamble, Entry, Gap, Identifier, IsFields, IsItem, IsType, IsValue, Mark, Opens, Run, Spells, is_word}
use Rattle.bib_read.specs.Meaning.{BibReads, and_item, and_items, value_text, value_warnings, where_some}
use Rattle.bib_read.specs.Names.{defined, has_entry}
use Rattle.bib_read.specs.Parts.{opening_at, take_identifier, take_mark, take_opening}
use Rattle.bib_read.specs.Progress.{Progress}
use Rattle.bib_read.specs.Reading.{database, database_of, finished, next_item, start, take_definition, take_item, take_items, take_opened, take_preamble, take_string, with_definition, with_preamble}
use Rattle.bib_read.specs.Runs.{after_at, after_first, ends_key, is_at}
use Rattle.bib_read.specs.Squeeze.{squeezed}
use Rattle.bib_read.specs.Stops.{unexpected}
use Rattle.bib_read.specs.Values.{take_equals, take_value}
use Rattle.bib_read.proofs.Enough.{same_fields}
use Rattle.bib_read.proofs.Gaps.{after_gap, at, gap_before, gap_joined, gap_passed, mark_first, mark_read, mark_taken, run_before, run_taken}
use Rattle.bib_read.proofs.FieldsSpelled.{IsCloser, closer, fields_read, fields_taken, mark_no_hash, with_fields}
use Rattle.bib_read.proofs.Pieces.{EqualsRead, equals_read, equals_taken, identifier_read, identifier_taken, valued, value_read, value_taken}
use Rattle.bib_read.proofs.Shorter.{Below, dropped, item_below}
use Rattle.bv_base.proofs.ThenLemmas.{ok, ok_is, then_ok, unless_ok}

-- an item that is read: what it spells, and what it adds
pub record ItemRead (p q : Progress) : Type 0 where
  pub item : Item
  pub spelled : IsItem item p.left q.left
  pub meant : and_item item (database p) ≡ Some (database q)

-- a byte of a key is no white space
white_ends : (t : Bool) (close b : ℕ) → is_white b ≡ t → ends_key close b ≡ false → is_black b ≡ true
white_ends false close b f e = ap not f
white_ends true close b f e =
    let ends : ends_key close b ≡ true = ap (λ (t : Bool). t || (nat_eq b 44 || (nat_eq b 125 && nat_eq close 125))) f in
    absurd (cc)

-- what opens an item
opening_case : (b : ℕ) (bytes : List ℕ) (p : Progress) (found : ℕ × Progress) → Gap p.left (b ∷ bytes) → (x y : Bool)
    → nat_eq b 123 ≡ x → nat_eq b 40 ≡ y
    → cond x (Ok (125, at bytes p)) (cond y (Ok (41, at bytes p)) (Err (Expected (length (b ∷ bytes))))) ≡ Ok found
    → Opens found.0 p.left found.1.left × (found ≡ (found.0, at found.1.left p))
opening_case b bytes p found gap true y f g e =
    let same : found ≡ (125, at bytes p) = ok_is (125, at bytes p) found e in
    let m : Mark 123 p.left bytes = subst (λ (k : ℕ). Gap p.left (k ∷ bytes)) (eqb-true b 123 f) gap in
    subst (λ (x : ℕ × Progress). Opens x.0 p.left x.1.left × (x ≡ (x.0, at x.1.left p))) (sym same) (inl (m, refl), refl)
opening_case b bytes p found gap false true f g e =
    let same : found ≡ (41, at bytes p) = ok_is (41, at bytes p) found e in
    let m : Mark 40 p.left bytes = subst (λ (k : ℕ). Gap p.left (k ∷ bytes)) (eqb-true b 40 g) gap in
    subst (λ (x : ℕ × Progress). Opens x.0 p.left x.1.left × (x ≡ (x.0, at x.1.left p))) (sym same) (inr (m, refl), refl)
opening_case b bytes p found gap false false f g e = absurd (cc)

opening_at_read : (bytes : List ℕ) (p : Progress) (found : ℕ × Progress) → Gap p.left bytes → opening_at bytes p ≡ Ok found
    → Opens found.0 p.left found.1.left × (found ≡ (found.0, at found.1.left p))
opening_at_read [] p found gap e = absurd (cc)
opening_at_read (b ∷ bytes) p found gap e = opening_case b bytes p found gap (nat_eq b 123) (nat_eq b 40) refl refl e

opening_read : (p : Progress) (found : ℕ × Progress) → take_opening p ≡ Ok found
    → Opens found.0 p.left found.1.left × (found ≡ (found.0, at found.1.left p))
opening_read p found e = opening_at_read (after_white p.left) p found (gap_before p.left) e

abbrev opened : ℕ → List ℕ → Progress → Result (ℕ × Progress) Stop
opened close rest p = Ok (close, at rest p)

opening_taken : (close : ℕ) (rest : List ℕ) (p : Progress) → Opens close p.left rest → take_opening p ≡ Ok (close, at rest p)
opening_taken close rest p (inl o) =
    ap (λ (l : List ℕ). opening_at l p) (mark_first 123 p.left rest refl o.0) ∙ ap (λ (c : ℕ). opened c rest p) (sym o.1)
opening_taken close rest p (inr o) =
    ap (λ (l : List ℕ). opening_at l p) (mark_first 40 p.left rest refl o.0) ∙ ap (λ (c : ℕ). opened c rest p) (sym o.1)

-- white space after a value may be passed over before the closing byte
close_after : (close : ℕ) (between rest : List ℕ) → Mark close (after_white between) rest → Mark close between rest
close_after close between rest m = gap_joined between (after_white between) (close ∷ rest) (gap_before between) m

close_before : (close : ℕ) (between rest : List ℕ) → IsCloser close → Mark close between rest → Mark close (after_white between) rest
close_before close between rest c m = gap_passed between (close ∷ rest) m c.black

-- the definition of a macro, after its name
record DefinitionRead (close : ℕ) (name : List ℕ) (p q : Progress) : Type 0 where
  between : Progress
  equals : EqualsRead p.left p between
  closes : Mark close equals.rest q.left
  is : database q ≡ record (database p) {
    macros = defined name (squeezed false (value_text p.macros equals.value)) p.macros;
    warnings = p.warnings ++ value_warnings p.macros equals.value;
  }

-- the closing byte stands behind a value, and maybe white space
closes_value : (close : ℕ) (value : List Piece) (rest left : List ℕ) (p q r : Progress) → q ≡ valued value (after_white rest) p
    → Mark close q.left r.left → left ≡ r.left → Mark close rest left
closes_value close value rest left p q r is m same =
    close_after close rest left
    (subst (λ (l : List ℕ). Mark close (after_white rest) l) (sym same)
    (subst (λ (l : List ℕ). Mark close l r.left) (ap (λ (x : Progress). x.left) is) m))

definition_read : (close : ℕ) (name : List ℕ) (p q : Progress) → take_definition close name p ≡ Ok q
    → DefinitionRead close name p q
definition_read close name p q e =
    let t = then_ok (take_equals p) (λ (x : Progress). then_do (take_mark close x) (λ (r : Progress). ok (with_definition name r))) q e in
    let v = equals_read p t.0 t.1 in
    let u = then_ok (take_mark close t.0) (λ (r : Progress). ok (with_definition name r)) q t.2 in
    let m = mark_read close t.0 u.0 u.1 in
    let same : q ≡ with_definition name u.0 = ok_is (with_definition name u.0) q u.2 in
    let b : u.0 ≡ valued v.value (u.0).left p = m.1 ∙ ap (λ (x : Progress). at (u.0).left x) v.is in
    let q_is : q ≡ with_definition name (valued v.value (u.0).left p) = same ∙ ap (λ (x : Progress). with_definition name x) b in
    let left : q.left ≡ (u.0).left = ap (λ (x : Progress). x.left) same in
    record {
      between = t.0;
      equals = v;
      closes = closes_value close v.value v.rest q.left p t.0 u.0 v.is m.0 left;
      is = ap (λ (x : Progress). database x) q_is;
    }

definition_taken : (close : ℕ) (name more between rest : List ℕ) (value : List Piece) (p : Progress) → IsCloser close
    → Mark 61 p.left more → IsValue value more between → Mark close between rest
    → take_definition close name p ≡ Ok (with_definition name (valued value rest p))
definition_taken close name more between rest value p c m v closes =
    let q = valued value (after_white between) p in
    ap (λ (r : Result Progress Stop). then_do r (λ (x : Progress). then_do (take_mark close x) (λ (y : Progress). ok (with_definition name y))))
    (equals_taken value more between p m v (mark_no_hash close between rest c.black c.no_hash closes))
    ∙ ap (λ (r : Result Progress Stop). then_do r (λ (y : Progress). ok (with_definition name y)))
    (mark_taken close q rest c.black (close_before close between rest c closes))

string_read : (close : ℕ) (word bytes : List ℕ) (p : Progress) (o q : Progress) → is_word (codes "string") word ≡ true
    → (a : List ℕ) → Identifier word bytes a → Opens close a o.left → p.left ≡ bytes → database o ≡ database p
    → take_string close o ≡ Ok q → ItemRead p q
string_read close word bytes p o q is a i opens left same e =
    let t = then_ok (take_identifier o) (λ (found : List ℕ × Progress). take_definition close found.0 found.1) q e in
    let n = identifier_read o t.0 t.1 in
    let l = (t.0).1.left in
    let e2 : take_definition close (lowered n.0) (at l o) ≡ Ok q =
    sym (ap (λ (f : List ℕ × Progress). take_definition close f.0 f.1) n.2) ∙ t.2 in
    let d = definition_read close (lowered n.0) (at l o) q e2 in
    let v = d.equals in
    record {
      item = Definition word n.0 v.value;
      spelled = subst (λ (b : List ℕ). IsItem (Definition word n.0 v.value) b q.left) (sym left)
          (close, a, o.left, l, v.more, v.rest, i, is, opens, n.1, v.mark, v.spelled, d.closes);
      meant = ap (λ (x : Database). and_item (Definition word n.0 v.value) x) (sym same) ∙ ap Some (sym d.is);
    }

preamble_read : (close : ℕ) (word bytes : List ℕ) (p : Progress) (o q : Progress) → is_word (codes "preamble") word ≡ true
    → (a : List ℕ) → Identifier word bytes a → Opens close a o.left → p.left ≡ bytes → database o ≡ database p
    → take_preamble close o ≡ Ok q → ItemRead p q
preamble_read close word bytes p o q is a i opens left same e =
    let t = then_ok (take_value o) (λ (x : Progress). then_do (take_mark close x) (λ (r : Progress). ok (with_preamble r))) q e in
    let v = value_read o t.0 t.1 in
    let u = then_ok (take_mark close t.0) (λ (r : Progress). ok (with_preamble r)) q t.2 in
    let m = mark_read close t.0 u.0 u.1 in
    let q_same : q ≡ with_preamble u.0 = ok_is (with_preamble u.0) q u.2 in
    let b : u.0 ≡ valued v.value (u.0).left o = m.1 ∙ ap (λ (x : Progress). at (u.0).left x) v.is in
    let q_left : q.left ≡ (u.0).left = ap (λ (x : Progress). x.left) q_same in
    let closes = closes_value close v.value v.rest q.left o t.0 u.0 v.is m.0 q_left in
    record {
      item = Preamble word v.value;
      spelled = subst (λ (l : List ℕ). IsItem (Preamble word v.value) l q.left) (sym left)
          (close, a, o.left, v.rest, i, is, opens, v.spelled, closes);
      meant = ap (λ (x : Database). and_item (Preamble word v.value) x) (sym same)
          ∙ ap (λ (x : Progress). Some (database x)) (sym (q_same ∙ ap (λ (x : Progress). with_preamble x) b));
    }

key_some : (key : List ℕ) (n : ℕ) → n ≡ length key → nat_eq n 0 ≡ false → 0 < length key
key_some key n e f = let some : 0 < n = grind (arith, nat_tests) in subst (λ (k : ℕ). 0 < k) e some

length_of_run : (test : ℕ → Bool) (bytes : List ℕ) → length_before test bytes ≡ length (take (length_before test bytes) bytes)
length_of_run test bytes =
    (run_taken test (take (length_before test bytes) bytes) bytes (drop (length_before test bytes) bytes) (run_before test bytes)).0

entry_read : (close : ℕ) (word bytes : List ℕ) (p : Progress) (o q : Progress) → IsType word
    → (a : List ℕ) → Identifier word bytes a → Opens close a o.left → p.left ≡ bytes → database o ≡ database p
    → take_entry close (lowered word) o ≡ Ok q → ItemRead p q
entry_read close word bytes p o q is a i opens left same e =
    let from = after_white o.left in
    let n = length_before (ends_key close) from in
    let key = take n from in
    let begun : Progress = record o { left = drop n from; fields = [] } in
    let add : Progress → Result Progress Stop = λ x. Ok (with_entry key (lowered word) x) in
    let fields : Result Progress Stop = then_do (take_fields (length (drop n from)) close key begun) add in
    let unrepeated : Result Progress Stop = cond (has_entry (lowered key) o.entries) (Err (RepeatedKey (length from))) fields in
    let u = unless_ok (nat_eq n 0) (unexpected from) unrepeated q e in
    let w = unless_ok (has_entry (lowered key) o.entries) (RepeatedKey (length from)) fields q u.1 in
    let t = then_ok (take_fields (length (drop n from)) close key begun) add q w.1 in
    let f = fields_read (length (drop n from)) close key begun t.0 t.1 in
    let q_same : q ≡ with_entry key (lowered word) t.0 = ok_is (with_entry key (lowered word) t.0) q t.2 in
    let q_left : q.left ≡ (t.0).left = ap (λ (x : Progress). x.left) q_same in
    let q_is : q ≡ with_entry key (lowered word) (with_fields key f.fields (t.0).left (t.0).text begun) =
    q_same ∙ ap (λ (x : Progress). with_entry key (lowered word) x) f.is in
    let item : Item = Entry word key f.fields in
    let next : Database = database (with_entry key (lowered word) (with_fields key f.fields (t.0).left (t.0).text begun)) in
    record {
      item = item;
      spelled = subst (λ (l : List ℕ). IsItem item l q.left) (sym left) (
        close,
        a,
        o.left,
        from,
        drop n from,
        i,
        is,
        opens,
        gap_before o.left,
        run_before (ends_key close) from,
        key_some key n (length_of_run (ends_key close) from) u.0,
        subst (λ (l : List ℕ). IsFields close f.fields (drop n from) l) (sym q_left) f.spelled,
      );
      meant = ap (λ (x : Database). and_item item x) (sym same)
          ∙ ap (λ (t : Bool). cond t None (Some next)) w.0
          ∙ ap (λ (x : Progress). Some (database x)) (sym q_is);
    }

opened_read : (close : ℕ) (word bytes : List ℕ) (p o q : Progress) → is_word (codes "comment") word ≡ false
    → (a : List ℕ) → Identifier word bytes a → Opens close a o.left → p.left ≡ bytes → database o ≡ database p
    → (x y : Bool) → is_word (codes "string") word ≡ x → is_word (codes "preamble") word ≡ y
    → cond x (take_string close o) (cond y (take_preamble close o) (take_entry close (lowered word) o)) ≡ Ok q → ItemRead p q
opened_read close word bytes p o q comment a i opens left same true y f g e =
    string_read close word bytes p o q f a i opens left same e
opened_read close word bytes p o q comment a i opens left same false true f g e =
    preamble_read close word bytes p o q g a i opens left same e
opened_read close word bytes p o q comment a i opens left same false false f g e =
    entry_read close word bytes p o q (record { comment = comment; definition = f; preamble = g }) a i opens left same e

abbrev after_word : List ℕ → Progress → Result Progress Stop
after_word name x = then_do (take_opening x) (λ (opened : ℕ × Progress). take_opened name opened.0 opened.1)

item_case : (word rest : List ℕ) (p q : Progress) → Identifier word p.left rest → (t : Bool) → is_word (codes "comment") word ≡ t
    → cond t (Ok (at rest p)) (after_word (lowered word) (at rest p)) ≡ Ok q → ItemRead p q
item_case word rest p q i true f e =
    let same : q ≡ at rest p = ok_is (at rest p) q e in
    record {
      item = Comment word;
      spelled = subst (λ (x : Progress). IsItem (Comment word) p.left x.left) (sym same) (i, f);
      meant = ap (λ (x : Progress). Some (database x)) (sym same);
    }
item_case word rest p q i false f e =
    let t = then_ok (take_opening (at rest p)) (λ (opened : ℕ × Progress). take_opened (lowered word) opened.0 opened.1) q e in
    let o = opening_read (at rest p) t.0 t.1 in
    let same : database (t.0).1 ≡ database p = ap (λ (x : ℕ × Progress). database x.1) o.1 in
    opened_read (t.0).0 word p.left p (t.0).1 q f rest i o.0 refl same
    (is_word (codes "string") word) (is_word (codes "preamble") word) refl refl t.2

pub item_read : (p q : Progress) → take_item p ≡ Ok q → ItemRead p q
item_read p q e =
    let then : List ℕ × Progress → Result Progress Stop =
    λ found. cond (same_name found.0 (codes "comment")) (Ok found.1) (after_word found.0 found.1) in
    let t = then_ok (take_identifier p) then q e in
    let n = identifier_read p t.0 t.1 in
    let l = (t.0).1.left in
    item_case n.0 l p q n.1 (is_word (codes "comment") n.0) refl (sym (ap then n.2) ∙ t.2)

-- items up to the end of the text
at_mark : (bytes left : List ℕ) → EndsBy is_at bytes → after_first bytes ≡ Some left → bytes ≡ 64 ∷ left
at_mark [] left ends e = absurd (cc)
at_mark (b ∷ bytes) left ends e =
    let same : bytes ≡ left = cc in ap (λ (k : ℕ). k ∷ bytes) (eqb-true b 64 ends) ∙ ap (λ (l : List ℕ). 64 ∷ l) same

none_first : (bytes : List ℕ) → after_first bytes ≡ None → bytes ≡ []
none_first [] e = refl
none_first (b ∷ bytes) e = absurd (cc)

no_bytes : (bytes : List ℕ) → length bytes ≤ 0 → bytes ≡ []
no_bytes [] le = refl
no_bytes (b ∷ bytes) le = absurd (omega arith)

record ItemsRead (p q : Progress) : Type 0 where
  items : List Item
  spelled : Spells items p.left
  meant : and_items items (database p) ≡ Some (database q)

items_case : (n : ℕ) (p q : Progress) (o : Option (List ℕ)) → after_at p.left ≡ o → length p.left ≤ suc n
    → ((x y : Progress) → length x.left ≤ n → take_items n x ≡ Ok y → ItemsRead x y)
    → next_item o p (take_items n) ≡ Ok q → ItemsRead p q
items_case n p q None found few more e =
    let r = run_before is_at p.left in
    let none = none_first (drop (length_before is_at p.left) p.left) found in
    let all : p.left ≡ take (length_before is_at p.left) p.left =
    r.spelled ∙ ap (λ (l : List ℕ). take (length_before is_at p.left) p.left ++ l) none
    ∙ append-nil (take (length_before is_at p.left) p.left) in
    record {
      items = [];
      spelled = subst (NoneOf is_at) (sym all) r.inside;
      meant = ap (λ (x : Progress). Some (database x)) (sym (ok_is p q e));
    }
items_case n p q (Some left) found few more e =
    let r = run_before is_at p.left in
    let between = take (length_before is_at p.left) p.left in
    let behind : drop (length_before is_at p.left) p.left ≡ 64 ∷ left =
    at_mark (drop (length_before is_at p.left) p.left) left r.ended found in
    let t = then_ok (take_item (at left p)) (take_items n) q e in
    let i = item_read (at left p) t.0 t.1 in
    let less : length (t.0).left < length left = subst (Below (length left)) t.1 (item_below (at left p)) in
    let le : length (drop (length_before is_at p.left) p.left) ≤ length p.left = dropped (length_before is_at p.left) p.left in
    let longer : length (drop (length_before is_at p.left) p.left) ≡ suc (length left) = ap (λ (l : List ℕ). length l) behind in
    let fewer : length (t.0).left ≤ n = omega arith in
    let s = more t.0 q fewer t.2 in
    record {
      items = i.item ∷ s.items;
      spelled = (
        between,
        left,
        (t.0).left,
        r.inside,
        r.spelled ∙ ap (λ (l : List ℕ). between ++ l) behind,
        i.spelled,
        s.spelled,
      );
      meant = ap (λ (x : Option Database). where_some x (and_items s.items)) i.meant ∙ s.meant;
    }

items_read : (n : ℕ) (p q : Progress) → length p.left ≤ n → take_items n p ≡ Ok q → ItemsRead p q
items_read zero p q few e =
    record {
      items = [];
      spelled = subst (NoneOf is_at) (sym (no_bytes p.left few)) tt;
      meant = ap (λ (x : Progress). Some (database x)) (sym (ok_is p q e));
    }
items_read (suc n) p q few e =
    items_case n p q (after_at p.left) refl few (λ x y less f. items_read n x y less f) e

-- the other way
record ItemTaken (item : Item) (rest : List ℕ) (d : Database) (p : Progress) : Type 0 where
  after : Progress
  taken : take_item p ≡ Ok after
  left : after.left ≡ rest
  is : database after ≡ d

some_is : (x y : Database) → Some x ≡ Some y → x ≡ y
some_is x y e = cc

word_taken : (word a : List ℕ) (p : Progress) (t : Bool) → Identifier word p.left a → is_word (codes "comment") word ≡ t
    → take_item p ≡ cond t (Ok (at a p)) (after_word (lowered word) (at a p))
word_taken word a p t i e =
    let then : List ℕ × Progress → Result Progress Stop =
    λ found. cond (same_name found.0 (codes "comment")) (Ok found.1) (after_word found.0 found.1) in
    ap (λ (r : Result (List ℕ × Progress) Stop). then_do r then) (identifier_taken word a p i)
    ∙ ap (λ (x : Bool). cond x (ok (at a p)) (after_word (lowered word) (at a p))) e

word_opened : (word a b : List ℕ) (close : ℕ) (p : Progress) (x y : Bool) → is_word (codes "comment") word ≡ false
    → is_word (codes "string") word ≡ x → is_word (codes "preamble") word ≡ y → Identifier word p.left a → Opens close a b
    → take_item p ≡ cond x (take_string close (at b p)) (cond y (take_preamble close (at b p)) (take_entry close (lowered word) (at b p)))
word_opened word a b close p x y comment f g i opens =
    let o = at b p in
    word_taken word a p false i comment
    ∙ ap (λ (r : Result (ℕ × Progress) Stop). then_do r (λ (opened : ℕ × Progress). take_opened (lowered word) opened.0 opened.1))
    (opening_taken close b (at a p) opens)
    ∙ ap (λ (t : Bool). cond t (take_string close o) (cond (is_word (codes "preamble") word) (take_preamble close o) (take_entry close (lowered word) o))) f
    ∙ ap (λ (t : Bool). cond x (take_string close o) (cond t (take_preamble close o) (take_entry close (lowered word) o))) g

-- one word isn't another
same_name_is : (a b : List ℕ) → same_name a b ≡ true → a ≡ b
same_name_is [] [] e = refl
same_name_is [] (y ∷ b) e = absurd (cc)
same_name_is (x ∷ a) [] e = absurd (cc)
same_name_is (x ∷ a) (y ∷ b) e =
    ap (λ (k : ℕ). k ∷ a) (eqb-true x y (and_parts (nat_eq x y) (same_name a b) e).0)
    ∙ ap (λ (l : List ℕ). y ∷ l) (same_name_is a b (and_parts (nat_eq x y) (same_name a b) e).1)

other_word : (word text other : List ℕ) → same_name text other ≡ false → is_word text word ≡ true → is_word other word ≡ false
other_word word text other differs e = ap (λ (w : List ℕ). same_name w other) (same_name_is (lowered word) text e) ∙ differs

key_black : (close : ℕ) (key rest : List ℕ) → NoneOf (ends_key close) key → 0 < length key → EndsBy is_black (key ++ rest)
key_black close [] rest none some = absurd (omega arith)
key_black close (b ∷ key) rest none some = white_ends (is_white b) close b refl none.0

entry_there : (close : ℕ) (word key from d rest : List ℕ) (fields : List FieldTree) (o : Progress) → IsCloser close
    → Run (ends_key close) key from d → 0 < length key → IsFields close fields d rest → has_entry (lowered key) o.entries ≡ false
    → (text : List ℕ) × (entry_at close (lowered word) from o
    ≡ Ok (with_entry key (lowered word) (with_fields key fields rest text (record o { left = d; fields = [] }))))
entry_there close word key from d rest fields o c run some f fresh =
    let n = length_before (ends_key close) from in
    let taken = run_taken (ends_key close) key from d run in
    let begun : Progress = record o { left = d; fields = [] } in
    let counted : nat_eq n 0 ≡ false = grind (arith, nat_tests, taken.0) in
    let r = fields_taken fields (length d) close key rest begun c f (omega arith) in
    let then : List ℕ → Progress → Result Progress Stop = λ k x. Ok (with_entry k (lowered word) x) in
    let whole : List ℕ → List ℕ → Result Progress Stop =
    λ k l. cond (has_entry (lowered k) o.entries) (Err (RepeatedKey (length from)))
    (then_do (take_fields (length l) close k (record o { left = l; fields = [] })) (then k)) in (
      r.0,
      ap (λ (t : Bool). cond t (Err (unexpected from)) (whole (take n from) (drop n from))) counted
          ∙ ap (λ (k : List ℕ). whole k (drop n from)) taken.1
          ∙ ap (λ (l : List ℕ). whole key l) taken.2
          ∙ ap (λ (t : Bool). cond t (Err (RepeatedKey (length from))) (then_do (take_fields (length d) close key begun) (then key))) fresh
          ∙ ap (λ (x : Result Progress Stop). then_do x (then key))
          (same_fields (length d) (suc (length d)) close key begun (omega arith) (omega arith) ∙ r.1),
    )

entry_taken : (close : ℕ) (word key from d rest : List ℕ) (fields : List FieldTree) (o : Progress) → IsCloser close
    → Gap o.left from → Run (ends_key close) key from d → 0 < length key → IsFields close fields d rest
    → has_entry (lowered key) o.entries ≡ false
    → (text : List ℕ) × (take_entry close (lowered word) o
    ≡ Ok (with_entry key (lowered word) (with_fields key fields rest text (record o { left = d; fields = [] }))))
entry_taken close word key from d rest fields o c gap run some f fresh =
    let black : EndsBy is_black from =
    subst (λ (l : List ℕ). EndsBy is_black l) (sym run.spelled) (key_black close key d run.inside some) in
    let r = entry_there close word key from d rest fields o c run some f fresh in
    (r.0, ap (λ (l : List ℕ). entry_at close (lowered word) l o) (after_gap o.left from gap black) ∙ r.1)

unrepeated : (t : Bool) (x d : Database) → cond t None (Some x) ≡ Some d → (t ≡ false) × (x ≡ d)
unrepeated true x d e = absurd (cc)
unrepeated false x d e = (refl, some_is x d e)

item_taken : (item : Item) (rest : List ℕ) (d : Database) (p : Progress) → IsItem item p.left rest
    → and_item item (database p) ≡ Some d → ItemTaken item rest d p
item_taken (Comment word) rest d p i m =
    record { after = at rest p; taken = word_taken word rest p true i.0 i.1; left = refl; is = some_is (database p) d m }
item_taken (Definition word name value) rest d p i m =
    let close = i.0 in
    let o = at i.2 p in
    let c = closer close i.1 i.2 i.8 in
    let then : List ℕ × Progress → Result Progress Stop = λ found. take_definition close found.0 found.1 in
    record {
      after = with_definition (lowered name) (valued value rest p);
      taken = word_opened word i.1 i.2 close p true (is_word (codes "preamble") word) (other_word word (codes "string") (codes "comment") refl i.7)
          i.7 refl i.6 i.8
          ∙ ap (λ (r : Result (List ℕ × Progress) Stop). then_do r then) (identifier_taken name i.3 o i.9)
          ∙ definition_taken close (lowered name) i.4 i.5 rest value (at i.3 p) c i.10 i.11 i.12;
      left = refl;
      is = some_is _ d m;
    }
item_taken (Preamble word value) rest d p i m =
    let close = i.0 in
    let o = at i.2 p in
    let c = closer close i.1 i.2 i.6 in
    let ends = mark_no_hash close i.3 rest c.black c.no_hash i.8 in
    record {
      after = with_preamble (valued value rest p);
      taken = word_opened word i.1 i.2 close p false true (other_word word (codes "preamble") (codes "comment") refl i.5)
          (other_word word (codes "preamble") (codes "string") refl i.5) i.5 i.4 i.6
          ∙ ap (λ (r : Result Progress Stop). then_do r (λ (x : Progress). then_do (take_mark close x) (λ (y : Progress). ok (with_preamble y))))
          (value_taken value o i.3 i.7 ends)
          ∙ ap (λ (r : Result Progress Stop). then_do r (λ (y : Progress). ok (with_preamble y)))
          (mark_taken close (valued value (after_white i.3) o) rest c.black (close_before close i.3 rest c i.8));
      left = refl;
      is = some_is _ d m;
    }
item_taken (Entry word key fields) rest d p i m =
    let close = i.0 in
    let c = closer close i.1 i.2 i.7 in
    let u = unrepeated (has_entry (lowered key) p.entries) _ d m in
    let r = entry_taken close word key i.3 i.4 rest fields (at i.2 p) c i.8 i.9 i.10 i.11 u.0 in
    record {
      after = with_entry key (lowered word) (with_fields key fields rest r.0 (record p { left = i.4; fields = [] }));
      taken = word_opened word i.1 i.2 close p false false (i.6).comment (i.6).definition (i.6).preamble i.5 i.7 ∙ r.1;
      left = refl;
      is = u.1;
    }

-- the next `@` and none
at_found : (between rest : List ℕ) → NoneOf is_at between → after_at (between ++ 64 ∷ rest) ≡ Some rest
at_found between rest none =
    ap after_first (run_taken is_at between (between ++ 64 ∷ rest) (64 ∷ rest) (record { spelled = refl; inside = none; ended = refl })).2

at_missing : (bytes : List ℕ) → NoneOf is_at bytes → after_at bytes ≡ None
at_missing bytes none =
    ap after_first (run_taken is_at bytes bytes [] (record { spelled = sym (append-nil bytes); inside = none; ended = tt })).2

where_is : (o : Option Database) (next : Database → Option Database) (d : Database) → where_some o next ≡ Some d
    → (x : Database) × (o ≡ Some x) × (next x ≡ Some d)
where_is None next d e = absurd (cc)
where_is (Some x) next d e = (x, refl, e)

record ItemsTaken (n : ℕ) (d : Database) (p : Progress) : Type 0 where
  after : Progress
  taken : take_items n p ≡ Ok after
  is : database after ≡ d

nothing_taken : (n : ℕ) (p : Progress) → NoneOf is_at p.left → take_items n p ≡ Ok p
nothing_taken zero p none = refl
nothing_taken (suc n) p none = ap (λ (o : Option (List ℕ)). next_item o p (take_items n)) (at_missing p.left none)

longer_by_mark : (between rest : List ℕ) → length rest < length (between ++ 64 ∷ rest)
longer_by_mark [] rest = omega arith
longer_by_mark (b ∷ between) rest = let more : length rest < length (between ++ 64 ∷ rest) = longer_by_mark between rest in omega arith

items_taken : (items : List Item) (n : ℕ) (d : Database) (p : Progress) → Spells items p.left → and_items items (database p) ≡ Some d
    → length p.left ≤ n → ItemsTaken n d p
items_taken [] n d p s m few = record { after = p; taken = nothing_taken n p s; is = some_is (database p) d m }
items_taken (item ∷ items) zero d p s m few =
    let more : length s.1 < length (s.0 ++ 64 ∷ s.1) = longer_by_mark s.0 s.1 in
    let same : length p.left ≡ length (s.0 ++ 64 ∷ s.1) = ap (λ (l : List ℕ). length l) s.4 in
    absurd (omega arith)
items_taken (item ∷ items) (suc n) d p s m few =
    let w = where_is (and_item item (database p)) (and_items items) d m in
    let i = item_taken item s.2 w.0 (at s.1 p) s.5 w.1 in
    let more : length s.1 < length (s.0 ++ 64 ∷ s.1) = longer_by_mark s.0 s.1 in
    let same : length p.left ≡ length (s.0 ++ 64 ∷ s.1) = ap (λ (l : List ℕ). length l) s.4 in
    let less : length i.after.left < length s.1 = subst (Below (length s.1)) i.taken (item_below (at s.1 p)) in
    let fewer : length i.after.left ≤ n = omega arith in
    let spelled : Spells items i.after.left = subst (Spells items) (sym i.left) s.6 in
    let meant : and_items items (database i.after) ≡ Some d = ap (and_items items) i.is ∙ w.2 in
    let r = items_taken items n d i.after spelled meant fewer in
    record {
      after = r.after;
      taken = ap (λ (o : Option (List ℕ)). next_item o p (take_items n)) (ap after_at s.4 ∙ at_found s.0 s.1 s.3)
          ∙ ap (λ (x : Result Progress Stop). then_do x (take_items n)) i.taken
          ∙ r.taken;
      is = r.is;
    }

finished_ok : (source : List ℕ) (r : Result Progress Stop) (d : Database) → finished source r ≡ Ok d
    → (q : Progress) × (r ≡ Ok q) × (database q ≡ d)
finished_ok source (Ok q) d e = (q, refl, cc)
finished_ok source (Err stop) d e = absurd (cc)

-- what is read is what the grammar has
pub reads_of : (source : List ℕ) (before d : Database) → database_of source before ≡ Ok d → BibReads source before d
reads_of source before d e =
    let f = finished_ok source (take_items (length source) (start source before)) d e in
    let r = items_read (length source) (start source before) f.0 (omega arith) f.1 in
    record { items = r.items; spelled = r.spelled; meant = r.meant ∙ ap Some f.2 }

pub of_reads : (source : List ℕ) (before d : Database) → BibReads source before d → database_of source before ≡ Ok d
of_reads source before d b =
    let r = items_taken b.items (length source) d (start source before) b.spelled b.meant (omega arith) in
    ap (finished source) r.taken ∙ ap Ok r.is
