-- What a rule's function leaves of the parts to come and of the open bodies, and the shape of its lexeme.
use Rattle.std.proofs.Common.{◌≡◌, ℕ, true, nat_le, nat_lt, List, [], ◌∷◌, ◌++◌, Option, None, Some, Ok, Err, length, drop, refl, ap, ◌∙◌}
use Rattle.std.specs.Option.{option_map_or}
use Rattle.bv_base.specs.declared.place.Place.{Place}
use Rattle.bst_parse.specs.declared.tokens.TheConstants.{DEEPEST}
use Rattle.name_table.specs.declared.style.TheConstants.{MOST_BODIES}
use Rattle.name_table.specs.declared.names.Kind.{Kind}
use Rattle.name_table.specs.declared.names.Kind.TheVariants.{Wizard}
use Rattle.name_table.specs.declared.names.NameId.{NameId}
use Rattle.name_table.specs.declared.style.BodyId.{BodyId}
use Rattle.name_table.specs.declared.style.Command.TheVariants as command
use Rattle.name_table.specs.declared.style.Token.TheVariants.{Int, Quote, Call}
use Rattle.name_table.specs.Names.{id_of, kind_at, lowered}
use Rattle.name_table.specs.Sound.{is_callable}
use Rattle.bst_lex.specs.declared.lexeme.Shape.{Shape}
use Rattle.bst_lex.specs.declared.lexeme.Shape.TheVariants.{OpenBrace, CloseBrace, Integer, Text, Quoted, Name}
use Rattle.bst_lex.specs.Lexemes.{Seen}
use Rattle.bst_parse.specs.declared.fault.StyleFault.{StyleFault}
use Rattle.bst_parse.specs.declared.grammar.Caller.{Caller}
use Rattle.bst_parse.specs.declared.grammar.Word.{Word}
use Rattle.bst_parse.specs.Bodies.{next_body}
use Rattle.bst_parse.specs.Commands.{word_of, parts_of, call_of}
use Rattle.bst_parse.specs.Grammar.{is_leaf}
use Rattle.bst_parse.specs.Names.{has_macro}
use Rattle.bst_parse.specs.Parts.{take_open, take_close, definable, define, next_name, take_function_name, called, take_target, take_macro_name, unmarked, take_macro_text, take_body}
use Rattle.bst_parse.specs.Progress.{Progress}
use Rattle.bst_parse.specs.Tokens.{used, with_token, with_text, begin_block, take_token}
use Rattle.bst_parse.specs.Words.{order_fault, begun, begin, begin_named, take_word}
use Rattle.bst_parse.proofs.Rules.{define_ok}
use Rattle.bv_base.proofs.ThenLemmas.{ok, ok_is, then_ok, unless_ok, where_ok}

-- the parts to come and the open bodies stay
pub record Kept (p q : Progress) : Type 0 where
  pub parts : q.parts ≡ p.parts
  pub opened : q.opened ≡ p.opened

kept_is : (p r q : Progress) → q ≡ r → r.parts ≡ p.parts → r.opened ≡ p.opened → Kept p q
kept_is p r q e f g = record { parts = ap (λ (x : Progress). x.parts) e ∙ f; opened = ap (λ (x : Progress). x.opened) e ∙ g }

pub open_kept : (shape : Shape) (place : Place) (p q : Progress) → take_open shape place p ≡ Ok q → (shape ≡ OpenBrace) × Kept p q
open_kept OpenBrace place p q e = (refl, kept_is p p q (ok_is p q e) refl refl)
open_kept _ place p q e = absurd (cc)

pub close_kept : (shape : Shape) (place : Place) (p q : Progress) → take_close shape place p ≡ Ok q → (shape ≡ CloseBrace) × Kept p q
close_kept CloseBrace place p q e = (refl, kept_is p p q (ok_is p q e) refl refl)
close_kept _ place p q e = absurd (cc)

definable_name : (shape : Shape) (place : Place) (text name : List ℕ) → definable shape place text ≡ Ok name → shape ≡ Name
definable_name Name place text name e = refl
definable_name _ place text name e = absurd (cc)

pub define_kept : (kind : Kind) (shape : Shape) (place : Place) (text : List ℕ) (p q : Progress) → define kind shape place text p ≡ Ok q
    → (shape ≡ Name) × Kept p q
define_kept kind shape place text p q e =
    let a = then_ok (definable shape place text) _ q e in
    let d = define_ok kind shape place text p q e in
    (definable_name shape place text a.0 a.1, kept_is p (record p { names = p.names ++ (lowered text, kind) ∷ [] }) q d.is refl refl)

pub function_kept : (shape : Shape) (place : Place) (text : List ℕ) (p q : Progress) → take_function_name shape place text p ≡ Ok q
    → (shape ≡ Name) × Kept p q
function_kept shape place text p q e =
    let a = then_ok (define (Wizard (next_body p.bodies)) shape place text p) (λ (m : Progress). ok (record m { function = Some (next_name p.names); commands = p.commands ++ record { command = command.Function (next_name p.names); place = p.place } ∷ [] })) q e in
    let d = define_kept (Wizard (next_body p.bodies)) shape place text p a.0 a.1 in
    (d.0, kept_is p (record (a.0) { function = Some (next_name p.names); commands = p.commands ++ record { command = command.Function (next_name p.names); place = p.place } ∷ [] }) q (ok_is _ q a.2) (d.1).parts (d.1).opened)

called_kept : (c : Caller) (found : Option NameId) (place : Place) (p q : Progress) → called c found place p ≡ Ok q → Kept p q
called_kept c None place p q e = absurd (cc)
called_kept c (Some id) place p q e =
    let w = where_ok (is_callable (kind_at id p.names)) (ok (record p { commands = p.commands ++ record { command = call_of c id; place = p.place } ∷ [] })) _ q e in
    kept_is p (record p { commands = p.commands ++ record { command = call_of c id; place = p.place } ∷ [] }) q (ok_is _ q w.1) refl refl

pub target_kept : (c : Caller) (shape : Shape) (place : Place) (text : List ℕ) (p q : Progress) → take_target c shape place text p ≡ Ok q
    → (shape ≡ Name) × Kept p q
target_kept c Name place text p q e = (refl, called_kept c (id_of (lowered text) p.names) place p q e)
target_kept c _ place text p q e = absurd (cc)

pub macro_name_kept : (shape : Shape) (place : Place) (text : List ℕ) (p q : Progress) → take_macro_name shape place text p ≡ Ok q
    → (shape ≡ Name) × Kept p q
macro_name_kept shape place text p q e =
    let a = then_ok (definable shape place text) _ q e in
    let u = unless_ok (has_macro a.0 p.macros) _ (ok (record p { macro_name = a.0 })) q a.2 in
    (definable_name shape place text a.0 a.1, kept_is p (record p { macro_name = a.0 }) q (ok_is _ q u.1) refl refl)

pub macro_text_kept : (shape : Shape) (place : Place) (text : List ℕ) (p q : Progress) → take_macro_text shape place text p ≡ Ok q
    → (shape ≡ Text) × Kept p q
macro_text_kept Text place text p q e =
    (refl, kept_is p (record p { macros = p.macros ++ record { name = p.macro_name; value = unmarked text } ∷ [] }) q (ok_is _ q e) refl refl)
macro_text_kept _ place text p q e = absurd (cc)

-- a body was opened
pub record Entered (p q : Progress) : Type 0 where
  pub parts : q.parts ≡ p.parts
  pub opened : q.opened ≡ next_body p.bodies ∷ p.opened

pub body_kept : (shape : Shape) (place : Place) (p q : Progress) → take_body shape place p ≡ Ok q → (shape ≡ OpenBrace) × Entered p q
body_kept OpenBrace place p q e =
    let u = unless_ok (nat_le MOST_BODIES (length p.bodies)) _ _ q e in
    let is = ok_is _ q u.1 in
    (refl, record { parts = ap (λ (x : Progress). x.parts) is; opened = ap (λ (x : Progress). x.opened) is })
body_kept _ place p q e = absurd (cc)

pub block_kept : (inside : BodyId) (place : Place) (p q : Progress) → begin_block inside place p ≡ Ok q → Entered p q
block_kept inside place p q e =
    let u = unless_ok (nat_lt DEEPEST (length p.opened)) _ _ q e in
    let v = unless_ok (nat_le MOST_BODIES (length p.bodies)) _ _ q u.1 in
    let is = ok_is _ q v.1 in
    record { parts = ap (λ (x : Progress). x.parts) is; opened = ap (λ (x : Progress). x.opened) is }

pub leaf_kept : (source : List ℕ) (inside : BodyId) (shape : Shape) (l : Seen) (p q : Progress) → is_leaf shape ≡ true
    → take_token source inside shape l p ≡ Ok q → Kept p q
leaf_kept source inside OpenBrace l p q leaf e = absurd (cc)
leaf_kept source inside CloseBrace l p q leaf e = absurd (cc)
leaf_kept source inside (Integer value) l p q leaf e = kept_is p (with_token inside (Int value) l.place p) q (ok_is _ q e) refl refl
leaf_kept source inside Text l p q leaf e = kept_is p (with_text inside l p) q (ok_is _ q e) refl refl
leaf_kept source inside Quoted l p q leaf e =
    let a = then_ok (used source l (drop 1 l.text) p) (λ (id : NameId). ok (with_token inside (Quote id) l.place p)) q e in
    kept_is p (with_token inside (Quote (a.0)) l.place p) q (ok_is _ q a.2) refl refl
leaf_kept source inside Name l p q leaf e =
    let a = then_ok (used source l l.text p) (λ (id : NameId). ok (with_token inside (Call id) l.place p)) q e in
    kept_is p (with_token inside (Call (a.0)) l.place p) q (ok_is _ q a.2) refl refl

-- a command began
pub record Began (text : List ℕ) (p q : Progress) : Type 0 where
  pub word : Word
  pub is : word_of (lowered text) ≡ Some word
  pub parts : q.parts ≡ parts_of word
  pub opened : q.opened ≡ p.opened

begin_kept : (word : Word) (place : Place) (p q : Progress) → begin word place p ≡ Ok q → q ≡ begun word place p
begin_kept word place p q e = by (order_fault word place p) e
  where
    by : (o : Option StyleFault) → option_map_or Err o (ok (begun word place p)) ≡ Ok q → q ≡ begun word place p
    by (Some fault) e = absurd (cc)
    by None e = ok_is (begun word place p) q e

named_kept : (text : List ℕ) (word : Option Word) (place : Place) (p q : Progress) → word_of (lowered text) ≡ word
    → begin_named word place p ≡ Ok q → Began text p q
named_kept text None place p q is e = absurd (cc)
named_kept text (Some word) place p q is e =
    let same = begin_kept word place p q e in
    record { word = word; is = is; parts = ap (λ (x : Progress). x.parts) same; opened = ap (λ (x : Progress). x.opened) same }

pub word_kept : (shape : Shape) (place : Place) (text : List ℕ) (p q : Progress) → take_word shape place text p ≡ Ok q
    → (shape ≡ Name) × Began text p q
word_kept Name place text p q e = (refl, named_kept text (word_of (lowered text)) place p q refl e)
word_kept _ place text p q e = absurd (cc)
