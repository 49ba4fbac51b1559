-- Names by their ids, and what they spell.
use Rattle.std.proofs.Common.{◌≡◌, ℕ, Bool, true, false, cond, Option, Some, None, Ok, List, [], ◌∷◌, refl, sym, ap, ◌∙◌}
use Rattle.std.specs.Option.{option_map}
use Rattle.bv_base.proofs.ThenLemmas.{ok_is, then_ok, unless_ok, where_ok}
use Rattle.name_table.specs.Names.{id_of, later, same_name}
use Rattle.name_table.specs.declared.names.Kind.{Kind}
use Rattle.name_table.specs.declared.names.NameId.{NameId}
use Rattle.sym_state.proofs.Consequences.{same_bytes}
use Rattle.cert_format.specs.Items.{field_above, field_in, found, name_in}
use Rattle.cert_format.specs.Lines.{Item}
use Rattle.cert_format.specs.Spelling.{name_text}

some_is : {A : Type 0} (x y : A) → Some x ≡ Some y → y ≡ x
some_is x y e = cc

-- a name that is found is what its id spells
pub named : (name : List ℕ) (names : List (List ℕ × Kind)) (id : NameId) → id_of name names ≡ Some id → name ≡ name_text names id
named name [] id e = absurd (cc)
named name (first ∷ rest) id e = by_name (same_name name first.0) refl (id_of name rest) (named name rest) e
  where
    by_rest : (r : Option NameId) → ((k : NameId) → r ≡ Some k → name ≡ name_text rest k) → option_map later r ≡ Some id → name ≡ name_text (first ∷ rest) id
    by_rest (Some k) all e = all k refl ∙ ap (name_text (first ∷ rest)) (sym (some_is (later k) id e))
    by_rest None all e = absurd (cc)

    by_name : (t : Bool) → same_name name first.0 ≡ t → (r : Option NameId) → ((k : NameId) → r ≡ Some k → name ≡ name_text rest k)
        → cond t (Some (record { 0 = 0 })) (option_map later r) ≡ Some id → name ≡ name_text (first ∷ rest) id
    by_name true same r all e =
        let zeroth : NameId = record { 0 = 0 } in
        same_bytes name first.0 same ∙ ap (name_text (first ∷ rest)) (sym (some_is zeroth id e))
    by_name false same r all e = by_rest r all e

pub found_is : (left : ℕ) (r : Option NameId) (id : NameId) → found left r ≡ Ok id → r ≡ Some id
found_is left (Some k) id e = ap Some (sym (ok_is k id e))
found_is left None id e = absurd (cc)

-- a name of the style is what its id spells
pub name_read : (names : List (List ℕ × Kind)) (item : Item) (id : NameId) → name_in names item ≡ Ok id → item.text ≡ name_text names id
name_read names item id e =
    let a = unless_ok _ _ _ _ e in
    named item.text names id (found_is item.left (id_of item.text names) id a.1)

pub field_read : (last : Option NameId) (names : List (List ℕ × Kind)) (item : Item) (id : NameId) → field_above last names item ≡ Ok id
    → item.text ≡ name_text names id
field_read last names item id e =
    let a = then_ok (field_in names item) _ _ e in
    let b = where_ok _ _ _ _ a.2 in
    let c = then_ok (name_in names item) _ _ a.1 in
    let d = where_ok _ _ _ _ c.2 in
    name_read names item c.0 c.1
    ∙ ap (name_text names) (sym (ok_is c.0 a.0 d.1) ∙ sym (ok_is a.0 id b.1))
