-- Names, variables and fields of certificates: what is read is what they spell, and what is spelled is read.
use Rattle.std.proofs.Common.{◌≡◌, ℕ, Bool, true, false, ◌&&◌, not, cond, Option, Some, None, is_some, Ok, List, [], ◌∷◌, refl, sym, ap, subst, ◌∙◌}
use Rattle.std.specs.Option.{option_map}
use Rattle.bv_base.proofs.ThenLemmas.{ok_is, then_ok, unless_ok, where_ok}
use Rattle.name_table.specs.Names.{id_of, kind_at, later, same_name}
use Rattle.name_table.specs.declared.names.Kind.{Kind}
use Rattle.name_table.specs.declared.names.NameId.{NameId}
use Rattle.cert_format.specs.CertText.{IsVariable}
use Rattle.cert_format.specs.CondText.{ArePlain, IsField}
use Rattle.cert_format.specs.Items.{field_in, found, is_above, is_empty, is_field, is_type, name_in}
use Rattle.cert_format.specs.Lines.{Item}
use Rattle.cert_format.specs.PieceItems as items
use Rattle.cert_format.specs.Spelling.{name_text}
use Rattle.cert_format.proofs.Named.{found_is, name_read}
use Rattle.cert_format.proofs.NamesTaken.{found_at, not_empty, solid_at}

-- the id is that of a name
abbrev pub IsNamed : List (List ℕ × Kind) → NameId → Type 0
IsNamed names id = is_some (kind_at id names) ≡ true

-- a name that is found has a kind
pub there : (name : List ℕ) (names : List (List ℕ × Kind)) (id : NameId) → id_of name names ≡ Some id → IsNamed names id
there name [] id e = absurd (cc)
there name (first ∷ rest) id e = by_name (same_name name first.0) (id_of name rest) (there name rest) e
  where
    some_is : {A : Type 0} (x y : A) → Some x ≡ Some y → y ≡ x
    some_is x y e = cc

    by_rest : (r : Option NameId) → ((k : NameId) → r ≡ Some k → IsNamed rest k) → option_map later r ≡ Some id → IsNamed (first ∷ rest) id
    by_rest (Some k) all e = subst (IsNamed (first ∷ rest)) (sym (some_is (later k) id e)) (all k refl)
    by_rest None all e = absurd (cc)

    by_name : (t : Bool) (r : Option NameId) → ((k : NameId) → r ≡ Some k → IsNamed rest k)
        → cond t (Some (record { 0 = 0 })) (option_map later r) ≡ Some id → IsNamed (first ∷ rest) id
    by_name true r all e =
        let zeroth : NameId = record { 0 = 0 } in
        subst (IsNamed (first ∷ rest)) (sym (some_is zeroth id e)) refl
    by_name false r all e = by_rest r all e

-- a name of the style
pub known_name : (names : List (List ℕ × Kind)) (item : Item) (id : NameId) → name_in names item ≡ Ok id
    → (item.text ≡ name_text names id) × IsNamed names id
known_name names item id e =
    let a = unless_ok (is_empty item.text) _ _ _ e in
    (name_read names item id e, there item.text names id (found_is item.left (id_of item.text names) id a.1))

some_kind : (k : Option Kind) → is_some k ≡ true → (kind : Kind) × (k ≡ Some kind)
some_kind (Some kind) e = (kind, refl)
some_kind None e = absurd (cc)

-- the spelling of a name has bytes, none of them white space
pub name_solid : (names : List (List ℕ × Kind)) (id : NameId) → ArePlain names → IsNamed names id → is_type (name_text names id) ≡ true
name_solid names id plain is = solid_at names id.0 plain.solid (some_kind (kind_at id names) is)

name_by : (names : List (List ℕ × Kind)) (text : List ℕ) (left : ℕ) (id : NameId) → is_empty text ≡ false → id_of text names ≡ Some id
    → name_in names (record { text = text; left = left }) ≡ Ok id
name_by names text left id some is = rw some (rw is refl)

pub name_taken : (names : List (List ℕ × Kind)) (item : Item) (id : NameId) → ArePlain names → IsNamed names id → item.text ≡ name_text names id
    → name_in names item ≡ Ok id
name_taken names item id plain is said =
    ap (λ (text : List ℕ). name_in names (record { text = text; left = item.left })) said
    ∙ name_by names (name_text names id) item.left id (not_empty (name_text names id) (name_solid names id plain is))
    (found_at names id.0 plain.apart (some_kind (kind_at id names) is))

-- what a variable of a line is: its spelling, its kind, and that it stands above the last one
pub record Variable (at_entry : Bool) (last : Option NameId) (names : List (List ℕ × Kind)) (text : List ℕ) (id : NameId) : Type 0 where
  pub said : text ≡ name_text names id
  pub is : IsVariable at_entry names id
  pub above : is_above last id ≡ true

not_not : (b : Bool) → not b ≡ false → b ≡ true
not_not true e = refl
not_not false e = absurd (cc)

pub variable_read : (at_entry : Bool) (last : Option NameId) (names : List (List ℕ × Kind)) (item : Item) (id : NameId)
    → items.variable_above at_entry last names item ≡ Ok id → Variable at_entry last names item.text id
variable_read at_entry last names item id e =
    let a = then_ok (items.variable_in at_entry names item) _ _ e in
    let b = where_ok (is_above last a.0) _ _ _ a.2 in
    let c = then_ok (name_in names item) _ _ a.1 in
    let d = unless_ok (not (items.is_variable (kind_at c.0 names))) _ _ _ c.2 in
    let f = unless_ok (items.is_of_entry (kind_at c.0 names) && not at_entry) _ _ _ d.1 in
    let same : id ≡ c.0 = ok_is a.0 id b.1 ∙ ok_is c.0 a.0 f.1 in
    record {
      said = name_read names item c.0 c.1 ∙ ap (name_text names) (sym same);
      is = subst (IsVariable at_entry names) (sym same) (not_not (items.is_variable (kind_at c.0 names)) d.0, f.0);
      above = ap (is_above last) (ok_is a.0 id b.1) ∙ b.0;
    }

variable_named : (k : Option Kind) → items.is_variable k ≡ true → is_some k ≡ true
variable_named (Some kind) e = refl
variable_named None e = absurd (cc)

-- a variable is a name
pub variable_name : (at_entry : Bool) (names : List (List ℕ × Kind)) (id : NameId) → IsVariable at_entry names id → IsNamed names id
variable_name at_entry names id is = variable_named (kind_at id names) is.0

variable_by : (at_entry : Bool) (last : Option NameId) (names : List (List ℕ × Kind)) (text : List ℕ) (left : ℕ) (id : NameId) → is_empty text ≡ false
    → id_of text names ≡ Some id → items.is_variable (kind_at id names) ≡ true → items.is_of_entry (kind_at id names) && not at_entry ≡ false
    → is_above last id ≡ true → items.variable_above at_entry last names (record { text = text; left = left }) ≡ Ok id
variable_by at_entry last names text left id some found is entry above = rw some (rw found (rw is (rw entry (rw above refl))))

pub variable_taken : (at_entry : Bool) (last : Option NameId) (names : List (List ℕ × Kind)) (item : Item) (id : NameId) → ArePlain names
    → IsVariable at_entry names id → is_above last id ≡ true → item.text ≡ name_text names id → items.variable_above at_entry last names item ≡ Ok id
variable_taken at_entry last names item id plain is above said =
    let named = variable_name at_entry names id is in
    ap (λ (text : List ℕ). items.variable_above at_entry last names (record { text = text; left = item.left })) said
    ∙ variable_by at_entry last names (name_text names id) item.left id (not_empty (name_text names id) (name_solid names id plain named))
    (found_at names id.0 plain.apart (some_kind (kind_at id names) named)) is.0 is.1 above

-- what a field of a line is, in the same way
pub record FieldOf (at_entry : Bool) (last : Option NameId) (names : List (List ℕ × Kind)) (text : List ℕ) (id : NameId) : Type 0 where
  pub said : text ≡ name_text names id
  pub is : IsField names id
  pub entry : at_entry ≡ true
  pub above : is_above last id ≡ true

pub entry_field_read : (at_entry : Bool) (last : Option NameId) (names : List (List ℕ × Kind)) (item : Item) (id : NameId)
    → items.entry_field at_entry last names item ≡ Ok id → FieldOf at_entry last names item.text id
entry_field_read at_entry last names item id e =
    let a = then_ok (field_in names item) _ _ e in
    let b = unless_ok (not at_entry) _ _ _ a.2 in
    let c = where_ok (is_above last a.0) _ _ _ b.1 in
    let d = then_ok (name_in names item) _ _ a.1 in
    let f = where_ok (is_field (kind_at d.0 names)) _ _ _ d.2 in
    let same : id ≡ d.0 = ok_is a.0 id c.1 ∙ ok_is d.0 a.0 f.1 in
    record {
      said = name_read names item d.0 d.1 ∙ ap (name_text names) (sym same);
      is = subst (IsField names) (sym same) f.0;
      entry = not_not at_entry b.0;
      above = ap (is_above last) (ok_is a.0 id c.1) ∙ c.0;
    }

field_named : (k : Option Kind) → is_field k ≡ true → is_some k ≡ true
field_named (Some kind) e = refl
field_named None e = absurd (cc)

field_by : (last : Option NameId) (names : List (List ℕ × Kind)) (text : List ℕ) (left : ℕ) (id : NameId) → is_empty text ≡ false
    → id_of text names ≡ Some id → is_field (kind_at id names) ≡ true → is_above last id ≡ true
    → items.entry_field true last names (record { text = text; left = left }) ≡ Ok id
field_by last names text left id some found is above = rw some (rw found (rw is (rw above refl)))

pub entry_field_taken : (at_entry : Bool) (last : Option NameId) (names : List (List ℕ × Kind)) (item : Item) (id : NameId) → ArePlain names
    → IsField names id → at_entry ≡ true → is_above last id ≡ true → item.text ≡ name_text names id → items.entry_field at_entry last names item ≡ Ok id
entry_field_taken at_entry last names item id plain is entry above said =
    let named = field_named (kind_at id names) is in
    ap (λ (b : Bool). items.entry_field b last names item) entry
    ∙ ap (λ (text : List ℕ). items.entry_field true last names (record { text = text; left = item.left })) said
    ∙ field_by last names (name_text names id) item.left id (not_empty (name_text names id) (name_solid names id plain named))
    (found_at names id.0 plain.apart (some_kind (kind_at id names) named)) is above
