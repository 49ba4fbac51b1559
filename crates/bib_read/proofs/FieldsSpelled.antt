-- The fields of an entry are what the grammar has, both ways.
use Rattle.std.proofs.Common.{◌≡◌, ℕ, zero, suc, ◌<◌, ◌≤◌, inl, inr, Bool, true, false, not, cond, nat_eq, List, [], ◌∷◌, ◌++◌, append_assoc, length, Result, Ok, refl, sym, ap, subst, ◌∙◌, arith}
use Rattle.std.proofs.lemmas.Bool.Decides.{nat_tests}
use Rattle.std.proofs.lemmas.List.{append-nil}
use Rattle.std.proofs.lemmas.Bool.{and_parts}
use Rattle.bv_base.specs.Bytes.{is_name_byte}
use Rattle.bv_base.specs.Runs.{after_white, is_black, is_digit, EndsBy}
use Rattle.bv_base.specs.Answers.{then_do}
use Rattle.name_table.specs.Names.{lowered}
use Rattle.bib_read.specs.declared.stop.Stop.{Stop}
use Rattle.bib_read.specs.Entering.{noted, take_field, take_fields, take_named, with_field}
use Rattle.bib_read.specs.Grammar.{Piece, FieldTree, Identifier, IsField, IsFields, Mark, Opens}
use Rattle.bib_read.specs.Meaning.{and_field, and_fields, field_warnings, fields_warnings, value_text, value_warnings}
use Rattle.bib_read.specs.Names.{has_field}
use Rattle.bib_read.specs.Parts.{is_first, passed, stands, take_identifier, take_mark}
use Rattle.bib_read.specs.Progress.{Progress}
use Rattle.bib_read.specs.Runs.{begins_name}
use Rattle.bib_read.specs.Squeeze.{trimmed}
use Rattle.bib_read.specs.Values.{take_equals}
use Rattle.bib_read.specs.Warnings.{second_field}
use Rattle.bib_read.proofs.Enough.{same_fields}
use Rattle.bib_read.proofs.Gaps.{after_gap, at, gap_before, gap_joined, gap_passed, IsBlack, mark_first, mark_missed, mark_read, mark_stands, mark_taken, mark_there, other_stands}
use Rattle.bib_read.proofs.Pieces.{equals_read, equals_taken, identifier_read, identifier_taken, NoHash, begins_black, valued}
use Rattle.bib_read.proofs.Shorter.{Below, field_below, mark_below, noted_left, passed_le}
use Rattle.bv_base.proofs.ThenLemmas.{ok, ok_is, then_ok}

-- after a field
abbrev pub fielded : List ℕ → FieldTree → List ℕ → Progress → Progress
fielded key field rest p =
    record p {
      left = rest;
      text = value_text p.macros field.value;
      fields = and_field p.macros field p.fields;
      warnings = p.warnings ++ field_warnings p.macros key field p.fields;
    }

field_case : (key name rest : List ℕ) (value : List Piece) (p : Progress) (t : Bool) → has_field name p.fields ≡ t
    → with_field name (valued value rest (cond t (record p { warnings = p.warnings ++ second_field name key ∷ [] }) p))
    ≡ record p {
      left = rest;
      text = value_text p.macros value;
      fields = cond t p.fields (p.fields ++ record { name = name; value = trimmed (value_text p.macros value) } ∷ []);
      warnings = p.warnings ++ (cond t (second_field name key ∷ []) [] ++ value_warnings p.macros value);
    }
field_case key name rest value p true e =
    let q = valued value rest (record p { warnings = p.warnings ++ second_field name key ∷ [] }) in
    ap (λ (t : Bool). cond t q (record q { fields = q.fields ++ record { name = name; value = trimmed q.text } ∷ [] })) e
    ∙ ap (λ (w : List (List ℕ)). record p { left = rest; text = value_text p.macros value; warnings = w })
    (append_assoc p.warnings (second_field name key ∷ []) (value_warnings p.macros value))
field_case key name rest value p false e =
    let q = valued value rest p in
    ap (λ (t : Bool). cond t q (record q { fields = q.fields ++ record { name = name; value = trimmed q.text } ∷ [] })) e

field_is : (key rest : List ℕ) (field : FieldTree) (p : Progress)
    → with_field (lowered field.name) (valued field.value rest (noted key (lowered field.name) p)) ≡ fielded key field rest p
field_is key rest field p =
    field_case key (lowered field.name) rest field.value p (has_field (lowered field.name) p.fields) refl

pub record FieldRead (key : List ℕ) (p q : Progress) : Type 0 where
  pub field : FieldTree
  pub rest : List ℕ
  pub spelled : IsField field p.left rest
  pub is : q ≡ fielded key field (after_white rest) p

pub field_read : (key : List ℕ) (p q : Progress) → take_field key p ≡ Ok q → FieldRead key p q
field_read key p q e =
    let t = then_ok (take_identifier p) (λ (found : List ℕ × Progress). take_named key found.0 found.1) q e in
    let i = identifier_read p t.0 t.1 in
    let name = lowered i.0 in
    let l = (t.0).1.left in
    let e2 : take_named key name (at l p) ≡ Ok q =
    sym (ap (λ (f : List ℕ × Progress). take_named key f.0 f.1) i.2) ∙ t.2 in
    let u = then_ok (take_equals (noted key name (at l p))) (λ (x : Progress). Ok (with_field name x)) q e2 in
    let v = equals_read (noted key name (at l p)) u.0 u.1 in
    let field : FieldTree = record { name = i.0; value = v.value } in
    let mark : Mark 61 l v.more = subst (λ (b : List ℕ). Mark 61 b v.more) (noted_left key name (at l p)) v.mark in
    record {
      field = field;
      rest = v.rest;
      spelled = (l, v.more, i.1, mark, v.spelled);
      is = ok_is (with_field name u.0) q u.2 ∙ ap (λ (x : Progress). with_field name x) v.is
          ∙ field_is key (after_white v.rest) field (at l p);
    }

pub field_taken : (key rest : List ℕ) (field : FieldTree) (p : Progress) → IsField field p.left rest → NoHash rest
    → take_field key p ≡ Ok (fielded key field (after_white rest) p)
field_taken key rest field p f ends =
    let name = lowered field.name in
    let q = noted key name (at f.0 p) in
    let then : List ℕ × Progress → Result Progress Stop = λ found. take_named key found.0 found.1 in
    let mark : Mark 61 q.left f.1 = subst (λ (b : List ℕ). Mark 61 b f.1) (sym (noted_left key name (at f.0 p))) f.3 in
    ap (λ (r : Result (List ℕ × Progress) Stop). then_do r then) (identifier_taken field.name f.0 p f.2)
    ∙ ap (λ (r : Result Progress Stop). then_do r (λ (x : Progress). ok (with_field name x)))
    (equals_taken field.value f.1 rest q mark f.4 ends)
    ∙ ap ok (field_is key (after_white rest) field (at f.0 p))

-- white space before fields may be passed over before
mark_white : (mark : ℕ) (bytes rest : List ℕ) → Mark mark (after_white bytes) rest → Mark mark bytes rest
mark_white mark bytes rest m = gap_joined bytes (after_white bytes) (mark ∷ rest) (gap_before bytes) m

field_white : (field : FieldTree) (bytes rest : List ℕ) → IsField field (after_white bytes) rest → IsField field bytes rest
field_white field bytes rest f =
    let i = f.2 in
    (f.0, f.1, (i.0, gap_joined bytes (after_white bytes) i.0 (gap_before bytes) i.1, i.2, i.3), f.3, f.4)

pub fields_white : (close : ℕ) (fields : List FieldTree) (bytes rest : List ℕ) → IsFields close fields (after_white bytes) rest
    → IsFields close fields bytes rest
fields_white close [] bytes rest (inl m) = inl (mark_white close bytes rest m)
fields_white close [] bytes rest (inr m) = inr (m.0, mark_white 44 bytes m.0 m.1, m.2)
fields_white close (field ∷ fields) bytes rest f = (f.0, f.1, mark_white 44 bytes f.0 f.2, f.3, f.4)

-- after fields: the text of the last value is left behind
abbrev pub with_fields : List ℕ → List FieldTree → List ℕ → List ℕ → Progress → Progress
with_fields key fields rest text p =
    record p {
      left = rest;
      text = text;
      fields = and_fields p.macros fields p.fields;
      warnings = p.warnings ++ fields_warnings p.macros key fields p.fields;
    }

pub record FieldsRead (close : ℕ) (key : List ℕ) (p q : Progress) : Type 0 where
  pub fields : List FieldTree
  pub spelled : IsFields close fields p.left q.left
  pub is : q ≡ with_fields key fields q.left q.text p

no_fields : (key rest : List ℕ) (p q : Progress) → q ≡ at rest p → q ≡ with_fields key [] q.left q.text p
no_fields key rest p q e =
    e
    ∙ ap (λ (l : List ℕ). at l p) (sym (ap (λ (x : Progress). x.left) e))
    ∙ ap (λ (t : List ℕ). record p { left = q.left; text = t }) (sym (ap (λ (x : Progress). x.text) e))
    ∙ ap (λ (w : List (List ℕ)). record p { left = q.left; text = q.text; warnings = w }) (sym (append-nil p.warnings))

more_fields : (key between rest text : List ℕ) (field : FieldTree) (fields : List FieldTree) (p : Progress)
    → with_fields key fields rest text (fielded key field between p) ≡ with_fields key (field ∷ fields) rest text p
more_fields key between rest text field fields p =
    ap (λ (w : List (List ℕ)). record p {
      left = rest;
      text = text;
      fields = and_fields p.macros fields (and_field p.macros field p.fields);
      warnings = w;
    })
    (append_assoc p.warnings (field_warnings p.macros key field p.fields)
    (fields_warnings p.macros key fields (and_field p.macros field p.fields)))

last_closed : (close : ℕ) (key : List ℕ) (p a q : Progress) → stands close a ≡ true → ok {E = Stop} (passed close a) ≡ Ok q
    → (l : List ℕ) → a ≡ at l p → (Mark close a.left q.left) × (q ≡ with_fields key [] q.left q.text p)
last_closed close key p a q there e l is =
    let same : q ≡ passed close a = ok_is (passed close a) q e in
    let left : q.left ≡ (passed close a).left = ap (λ (x : Progress). x.left) same in (
      subst (λ (b : List ℕ). Mark close a.left b) (sym left) (mark_there close a there),
      no_fields key (passed close a).left p q (same ∙ ap (λ (x : Progress). at (passed close a).left x) is),
    )

fields_then : (n close : ℕ) (key : List ℕ) (p a q : Progress) → Mark 44 p.left a.left → a ≡ at a.left p
    → ((x y : Progress) → take_fields n close key x ≡ Ok y → FieldsRead close key x y)
    → (t : Bool) → stands close a ≡ t
    → cond t (Ok (passed close a)) (then_do (take_field key (passed close a)) (take_fields n close key)) ≡ Ok q
    → FieldsRead close key p q
fields_then n close key p a q comma is more true there e =
    let c = last_closed close key p a q there e a.left is in
    record { fields = []; spelled = inr (a.left, comma, c.0); is = c.1 }
fields_then n close key p a q comma is more false there e =
    let t = then_ok (take_field key (passed close a)) (take_fields n close key) q e in
    let missed : passed close a ≡ at (after_white a.left) a = mark_missed close a there in
    let f = field_read key (passed close a) t.0 t.1 in
    let r = more t.0 q t.2 in
    let b : t.0 ≡ fielded key f.field (after_white f.rest) p =
    f.is ∙ ap (λ (x : Progress). fielded key f.field (after_white f.rest) x)
    (missed ∙ ap (λ (x : Progress). at (after_white a.left) x) is) in
    let first : IsField f.field a.left f.rest =
    field_white f.field a.left f.rest
    (subst (λ (l : List ℕ). IsField f.field l f.rest) (ap (λ (x : Progress). x.left) missed) f.spelled) in
    let others : IsFields close r.fields f.rest q.left =
    fields_white close r.fields f.rest q.left
    (subst (λ (l : List ℕ). IsFields close r.fields l q.left) (ap (λ (x : Progress). x.left) b) r.spelled) in
    record {
      fields = f.field ∷ r.fields;
      spelled = (a.left, f.rest, comma, first, others);
      is = r.is ∙ ap (λ (x : Progress). with_fields key r.fields q.left q.text x) b
          ∙ more_fields key (after_white f.rest) q.left q.text f.field r.fields p;
    }

abbrev after_comma : ℕ → ℕ → List ℕ → Progress → Result Progress Stop
after_comma n close key x =
    cond (stands close x) (Ok (passed close x)) (then_do (take_field key (passed close x)) (take_fields n close key))

fields_first : (n close : ℕ) (key : List ℕ) (p q : Progress)
    → ((x y : Progress) → take_fields n close key x ≡ Ok y → FieldsRead close key x y)
    → (t : Bool) → stands close p ≡ t
    → cond t (Ok (passed close p)) (then_do (take_mark 44 (passed close p)) (after_comma n close key)) ≡ Ok q
    → FieldsRead close key p q
fields_first n close key p q more true there e =
    let c = last_closed close key p p q there e p.left refl in
    record { fields = []; spelled = inl c.0; is = c.1 }
fields_first n close key p q more false there e =
    let t = then_ok (take_mark 44 (passed close p)) (after_comma n close key) q e in
    let missed : passed close p ≡ at (after_white p.left) p = mark_missed close p there in
    let m = mark_read 44 (passed close p) t.0 t.1 in
    let comma : Mark 44 p.left (t.0).left =
    mark_white 44 p.left (t.0).left
    (subst (λ (l : List ℕ). Mark 44 l (t.0).left) (ap (λ (x : Progress). x.left) missed) m.0) in
    fields_then n close key p t.0 q comma (m.1 ∙ ap (λ (x : Progress). at (t.0).left x) missed) more
    (stands close t.0) refl t.2

pub fields_read : (n close : ℕ) (key : List ℕ) (p q : Progress) → take_fields n close key p ≡ Ok q → FieldsRead close key p q
fields_read zero close key p q e = absurd (cc)
fields_read (suc n) close key p q e =
    fields_first n close key p q (λ x y f. fields_read n close key x y f) (stands close p) refl e

-- the other way: what closes an entry is no other mark, and no name begins with it
pub record IsCloser (close : ℕ) : Type 0 where
  pub black : IsBlack close
  pub no_hash : nat_eq close 35 ≡ false
  pub no_comma : nat_eq 44 close ≡ false
  pub no_name : (b : ℕ) → is_name_byte b ≡ true → nat_eq b close ≡ false

brace_closes : IsCloser 125
brace_closes = record { black = refl; no_hash = refl; no_comma = refl; no_name = λ b e. grind (arith, nat_tests) }

parenthesis_closes : IsCloser 41
parenthesis_closes = record { black = refl; no_hash = refl; no_comma = refl; no_name = λ b e. grind (arith, nat_tests) }

pub closer : (close : ℕ) (bytes rest : List ℕ) → Opens close bytes rest → IsCloser close
closer close bytes rest (inl o) = subst IsCloser (sym o.1) brace_closes
closer close bytes rest (inr o) = subst IsCloser (sym o.1) parenthesis_closes

pub mark_no_hash : (mark : ℕ) (bytes rest : List ℕ) → IsBlack mark → nat_eq mark 35 ≡ false → Mark mark bytes rest → NoHash bytes
mark_no_hash mark bytes rest black differs m = ap (λ (l : List ℕ). is_first 35 l) (mark_first mark bytes rest black m) ∙ differs

fields_no_hash : (close : ℕ) (fields : List FieldTree) (bytes rest : List ℕ) → IsCloser close → IsFields close fields bytes rest → NoHash bytes
fields_no_hash close [] bytes rest c (inl m) = mark_no_hash close bytes rest c.black c.no_hash m
fields_no_hash close [] bytes rest c (inr m) = mark_no_hash 44 bytes m.0 refl refl m.1
fields_no_hash close (field ∷ fields) bytes rest c f = mark_no_hash 44 bytes f.0 refl refl f.2

mark_passed : (mark : ℕ) (bytes rest : List ℕ) → IsBlack mark → Mark mark bytes rest → Mark mark (after_white bytes) rest
mark_passed mark bytes rest black m = gap_passed bytes (mark ∷ rest) m black

fields_passed : (close : ℕ) (fields : List FieldTree) (bytes rest : List ℕ) → IsCloser close → IsFields close fields bytes rest
    → IsFields close fields (after_white bytes) rest
fields_passed close [] bytes rest c (inl m) = inl (mark_passed close bytes rest c.black m)
fields_passed close [] bytes rest c (inr m) = inr (m.0, mark_passed 44 bytes m.0 refl m.1, m.2)
fields_passed close (field ∷ fields) bytes rest c f = (f.0, f.1, mark_passed 44 bytes f.0 refl f.2, f.3, f.4)

name_first : (close : ℕ) (name rest : List ℕ) → IsCloser close → begins_name name ≡ true → is_first close (name ++ rest) ≡ false
name_first close [] rest c e = absurd (cc)
name_first close (b ∷ name) rest c e = c.no_name b (and_parts (is_name_byte b) (not (is_digit b)) e).0

name_black : (name bytes rest : List ℕ) → (i : Identifier name bytes rest) → EndsBy is_black i.0
name_black name bytes rest i = subst (λ (l : List ℕ). EndsBy is_black l) (sym (i.2).spelled) (begins_black name rest i.3)

name_not_close : (close : ℕ) (name bytes rest : List ℕ) → IsCloser close → Identifier name bytes rest
    → is_first close (after_white bytes) ≡ false
name_not_close close name bytes rest c i =
    ap (λ (l : List ℕ). is_first close l) (after_gap bytes i.0 i.1 (name_black name bytes rest i) ∙ (i.2).spelled)
    ∙ name_first close name rest c i.3

field_passed : (field : FieldTree) (bytes rest : List ℕ) → IsField field bytes rest → IsField field (after_white bytes) rest
field_passed field bytes rest f =
    let i = f.2 in
    (f.0, f.1, (i.0, gap_passed bytes i.0 i.1 (name_black field.name bytes f.0 i), i.2, i.3), f.3, f.4)

-- the comma is taken, where the closing byte doesn't stand
comma_taken : (n close : ℕ) (key comma : List ℕ) (p : Progress) → IsCloser close → Mark 44 p.left comma
    → take_fields (suc n) close key p ≡ after_comma n close key (at comma p)
comma_taken n close key comma p c m =
    let o = other_stands close 44 p comma refl m c.no_comma in
    ap (λ (t : Bool). cond t (Ok (passed close p)) (then_do (take_mark 44 (passed close p)) (after_comma n close key))) o.0
    ∙ ap (λ (x : Progress). then_do (take_mark 44 x) (after_comma n close key)) o.1
    ∙ ap (λ (r : Result Progress Stop). then_do r (after_comma n close key))
    (mark_taken 44 (at (after_white p.left) p) comma refl (mark_passed 44 p.left comma refl m))

-- the closing byte is taken
close_taken : (close : ℕ) (key rest : List ℕ) (p : Progress) (other : Result Progress Stop) → IsCloser close → Mark close p.left rest
    → cond (stands close p) (Ok (passed close p)) other ≡ Ok (with_fields key [] rest p.text p)
close_taken close key rest p other c m =
    let s = mark_stands close p rest c.black m in
    ap (λ (t : Bool). cond t (Ok (passed close p)) other) s.0
    ∙ ap ok (s.1 ∙ ap (λ (w : List (List ℕ)). record p { left = rest; warnings = w }) (sym (append-nil p.warnings)))

pub fields_taken : (fields : List FieldTree) (n close : ℕ) (key rest : List ℕ) (p : Progress) → IsCloser close
    → IsFields close fields p.left rest → length p.left ≤ suc n
    → (text : List ℕ) × (take_fields (suc n) close key p ≡ Ok (with_fields key fields rest text p))
fields_taken [] n close key rest p c (inl m) few =
    (p.text, close_taken close key rest p (then_do (take_mark 44 (passed close p)) (after_comma n close key)) c m)
fields_taken [] n close key rest p c (inr m) few =
    let q = at m.0 p in (
      p.text,
      comma_taken n close key m.0 p c m.1
          ∙ close_taken close key rest q (then_do (take_field key (passed close q)) (take_fields n close key)) c m.2,
    )
fields_taken (field ∷ fields) n close key rest p c f few =
    let q = at f.0 p in
    let missed : passed close q ≡ at (after_white f.0) p =
    mark_missed close q (name_not_close close field.name f.0 (f.3).0 c (f.3).2) in
    let b = fielded key field (after_white f.1) p in
    let taken : take_field key (at (after_white f.0) p) ≡ Ok b =
    field_taken key f.1 field (at (after_white f.0) p) (field_passed field f.0 f.1 f.3) (fields_no_hash close fields f.1 rest c f.4) in
    let less : length (after_white f.1) < length (after_white f.0) =
    subst (Below (length (after_white f.0))) taken (field_below key (at (after_white f.0) p)) in
    let le : length (passed close q).left ≤ length f.0 = passed_le close q in
    let same_length : length (passed close q).left ≡ length (after_white f.0) = ap (λ (x : Progress). length x.left) missed in
    let comma : take_mark 44 p ≡ Ok q = mark_taken 44 p f.0 refl f.2 in
    let less2 : length f.0 < length p.left = subst (Below (length p.left)) comma (mark_below 44 p) in
    let fewer : length (after_white f.1) ≤ n = omega arith in
    let fewer2 : length (after_white f.1) ≤ suc n = omega arith in
    let r = fields_taken fields n close key rest b c (fields_passed close fields f.1 rest c f.4) fewer2 in (
      r.0,
      comma_taken n close key f.0 p c f.2
          ∙ ap (λ (t : Bool). cond t (Ok (passed close q)) (then_do (take_field key (passed close q)) (take_fields n close key)))
          (name_not_close close field.name f.0 (f.3).0 c (f.3).2)
          ∙ ap (λ (x : Progress). then_do (take_field key x) (take_fields n close key)) missed
          ∙ ap (λ (x : Result Progress Stop). then_do x (take_fields n close key)) taken
          ∙ same_fields n (suc n) close key b fewer fewer2
          ∙ r.1
          ∙ ap ok (more_fields key (after_white f.1) rest r.0 field fields p),
    )
