-- What holds where a rule's function gives a value.
use Rattle.std.proofs.Common.{◌≡◌, ℕ, ◌<◌, true, false, nat_le, List, [], ◌∷◌, ◌++◌, Option, None, Some, is_some, Ok, length, refl, ap, subst, ◌∙◌, arith}
use Rattle.std.proofs.lemmas.Bool.Decides.{nat_tests}
use Rattle.bv_base.specs.declared.place.Place.{Place}
use Rattle.name_table.specs.declared.names.Kind.{Kind}
use Rattle.name_table.specs.Names.{id_of, lowered, is_definable}
use Rattle.bst_lex.specs.declared.lexeme.Shape.{Shape}
use Rattle.bst_lex.specs.declared.lexeme.Shape.TheVariants.{OpenBrace, CloseBrace, Integer, Text, Quoted, Name}
use Rattle.bst_parse.specs.Parts.{definable, defined, define}
use Rattle.name_table.specs.declared.names.TheConstants.{MOST_NAMES}
use Rattle.bst_parse.specs.Progress.{Progress}
use Rattle.bv_base.proofs.ThenLemmas.{ok, ok_is, then_ok, unless_ok, where_ok}

pub none_is : {A : Type 0} (o : Option A) → is_some o ≡ false → o ≡ None
none_is None e = refl
none_is (Some x) e = absurd (cc)

pub below : (a b : ℕ) → nat_le a b ≡ false → b < a
below a b e = grind (arith, nat_tests)

pub definable_ok : (shape : Shape) (place : Place) (text name : List ℕ) → definable shape place text ≡ Ok name
    → (is_definable text ≡ true) × (name ≡ lowered text)
definable_ok Name place text name e =
    let w = where_ok (is_definable text) (Ok (lowered text)) _ name e in
    (w.0, ok_is (lowered text) name w.1)
definable_ok _ place text name e = absurd (cc)

pub defined_ok : (name : List ℕ) (kind : Kind) (place : Place) (names new : List (List ℕ × Kind)) → defined name kind place names ≡ Ok new
    → (id_of name names ≡ None) × (length names < MOST_NAMES) × (new ≡ names ++ (name, kind) ∷ [])
defined_ok name kind place names new e =
    let u = unless_ok (is_some (id_of name names)) _ _ new e in
    let v = unless_ok (nat_le MOST_NAMES (length names)) _ _ new u.1 in
    (none_is (id_of name names) u.0, below MOST_NAMES (length names) v.0, ok_is _ new v.1)

-- a name was defined
pub record Defined (kind : Kind) (text : List ℕ) (p m : Progress) : Type 0 where
  pub definable : is_definable text ≡ true
  pub none : id_of (lowered text) p.names ≡ None
  pub room : length p.names < MOST_NAMES
  pub is : m ≡ record p { names = p.names ++ (lowered text, kind) ∷ [] }

pub define_ok : (kind : Kind) (shape : Shape) (place : Place) (text : List ℕ) (p m : Progress) → define kind shape place text p ≡ Ok m
    → Defined kind text p m
define_ok kind shape place text p m e =
    let a = then_ok (definable shape place text) _ m e in
    let d = definable_ok shape place text a.0 a.1 in
    let b = then_ok (defined a.0 kind place p.names) (λ (names : List (List ℕ × Kind)). ok (record p { names = names })) m a.2 in
    let c = defined_ok a.0 kind place p.names b.0 b.1 in
    record {
      definable = d.0;
      none = subst (λ (t : List ℕ). id_of t p.names ≡ None) d.1 c.0;
      room = c.1;
      is =
          ok_is (record p { names = b.0 }) m b.2
          ∙ ap (λ (names : List (List ℕ × Kind)). record p { names = names }) (c.2 ∙ ap (λ (t : List ℕ). p.names ++ (t, kind) ∷ []) d.1);
    }
