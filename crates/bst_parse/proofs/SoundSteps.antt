-- Each lexeme keeps what holds of what has been read.
use Rattle.std.proofs.Common.{◌≡◌, ℕ, suc, ◌+◌, ◌-◌, ◌<◌, true, nat_le, nat_lt, List, [], ◌∷◌, ◌++◌, Option, None, Some, Result, Ok, Err, length, length-append, drop, refl, sym, ap, subst, ◌∙◌, arith}
use Rattle.std.proofs.lemmas.List.{length-take, length-drop}
use Rattle.std.specs.Option.{option_map, option_map_or}
use Rattle.bv_base.specs.declared.place.Place.{Place}
use Rattle.name_table.specs.declared.names.Kind.{Kind}
use Rattle.name_table.specs.declared.names.Kind.TheVariants.{Wizard}
use Rattle.name_table.specs.declared.names.NameId.{NameId}
use Rattle.name_table.specs.declared.style.BodyId.{BodyId}
use Rattle.name_table.specs.declared.style.Command.TheVariants as command
use Rattle.name_table.specs.declared.style.Token.TheVariants.{Int, Str, Quote, Call}
use Rattle.name_table.specs.Names.{id_of, kind_at, lowered}
use Rattle.name_table.specs.Sound.{IsCommandSound, is_callable}
use Rattle.name_table.proofs.ByteLists.{bytes_dropped, bytes_lowered, bytes_taken}
use Rattle.name_table.proofs.Within.{id_within}
use Rattle.bst_lex.specs.declared.lexeme.Shape.{Shape}
use Rattle.bst_lex.specs.declared.lexeme.Shape.TheVariants.{OpenBrace, CloseBrace, Integer, Text, Quoted, Name}
use Rattle.bst_lex.specs.Lexemes.{Seen}
use Rattle.bst_parse.specs.declared.fault.StyleFault.{StyleFault}
use Rattle.bst_parse.specs.declared.grammar.Caller.{Caller}
use Rattle.bst_parse.specs.declared.grammar.Caller.TheVariants as caller
use Rattle.bst_parse.specs.declared.grammar.Part.{Part}
use Rattle.bst_parse.specs.declared.grammar.Part.TheVariants.{Open, Close, Names, Target, FunctionName, Body as BodyPart, MacroName, MacroText}
use Rattle.bst_parse.specs.declared.grammar.Word.{Word}
use Rattle.bst_parse.specs.declared.grammar.Word.TheVariants.{Entry, Execute, Function, Integers, Iterate, Macro, Read, Reverse, Sort, Strings}
use Rattle.bst_parse.specs.Bodies.{next_body, innermost}
use Rattle.bst_parse.specs.Commands.{word_of, parts_of, call_of}
use Rattle.bst_parse.specs.Names.{has_macro}
use Rattle.bst_parse.specs.Parts.{take_open, take_close, definable, define, take_names, next_name, take_function_name, called, take_target, take_macro_name, unmarked, take_macro_text, take_body, pass, take_part}
use Rattle.bv_base.specs.Answers.{then_do}
use Rattle.bst_parse.specs.declared.tokens.TheConstants.{DEEPEST}
use Rattle.name_table.specs.declared.style.TheConstants.{MOST_BODIES}
use Rattle.bst_parse.specs.Progress.{Progress}
use Rattle.bst_parse.specs.Reading.{take_outside, take_within, take_lexeme}
use Rattle.bst_parse.specs.Tokens.{begins_block, is_own, not_own, used, with_token, with_text, take_token}
use Rattle.bst_parse.specs.Words.{order_fault, begun, begin, begin_named, take_word}
use Rattle.bst_parse.proofs.Lexed.{IsShapeSmall, TextFine}
use Rattle.bst_parse.proofs.Lists.{get-last}
use Rattle.bst_parse.proofs.Lowered.{declared-lowered}
use Rattle.bst_parse.proofs.Rules.{below, define_ok, Defined}
use Rattle.bst_parse.proofs.SoFar.{coming, PartsFine, IsBusy, IsKindSoFar, SoFar, named, commanded, later_on, worded, left, token_put, function_put, block_put, passed, started}
use Rattle.bv_base.proofs.ThenLemmas.{ok, ok_is, then_ok, unless_ok, where_ok}

-- what holds of what has been read
abbrev pub Now : ℕ → Progress → Type 0
Now n p = SoFar n p.names p.commands p.bodies p.texts p.parts p.opened

on : (n : ℕ) (p : Progress) → Now n p → Now (suc n) p
on n p s = later_on n p.names p.commands p.bodies p.texts p.parts p.opened s

-- a part's lexeme leaves the parts and the open bodies
record Stepped (n : ℕ) (p q : Progress) : Type 0 where
  now : Now (suc n) q
  parts : q.parts ≡ p.parts
  opened : q.opened ≡ p.opened

stands : (n : ℕ) (p q : Progress) → Now n p → q ≡ p → Stepped n p q
stands n p q s e =
    record {
      now = subst (Now (suc n)) (sym e) (on n p s);
      parts = ap (λ (r : Progress). r.parts) e;
      opened = ap (λ (r : Progress). r.opened) e;
    }

open_steps : (n : ℕ) (shape : Shape) (place : Place) (p q : Progress) → Now n p → take_open shape place p ≡ Ok q → Stepped n p q
open_steps n OpenBrace place p q s e = stands n p q s (ok_is p q e)
open_steps n _ place p q s e = absurd (cc)

close_steps : (n : ℕ) (shape : Shape) (place : Place) (p q : Progress) → Now n p → take_close shape place p ≡ Ok q → Stepped n p q
close_steps n CloseBrace place p q s e = stands n p q s (ok_is p q e)
close_steps n _ place p q s e = absurd (cc)

-- a name is defined
named_now : (n : ℕ) (kind : Kind) (text : List ℕ) (p q : Progress) → Now n p → TextFine text
    → IsKindSoFar p.bodies (coming p.parts) kind → Defined kind text p q
    → SoFar n (p.names ++ (lowered text, kind) ∷ []) p.commands p.bodies p.texts p.parts p.opened
named_now n kind text p q s words fine d =
    named n p.names p.commands p.bodies p.texts p.parts p.opened s (lowered text) kind (declared-lowered text d.definable words.short) (bytes_lowered text words.bytes) d.none d.room fine

define_steps : (n : ℕ) (kind : Kind) (shape : Shape) (place : Place) (text : List ℕ) (p q : Progress) → Now n p → TextFine text
    → IsKindSoFar p.bodies (coming p.parts) kind → define kind shape place text p ≡ Ok q → Stepped n p q
define_steps n kind shape place text p q s words fine e =
    let d = define_ok kind shape place text p q e in
    record {
      now = subst (Now (suc n)) (sym d.is) (on n (record p { names = p.names ++ (lowered text, kind) ∷ [] }) (named_now n kind text p q s words fine d));
      parts = ap (λ (r : Progress). r.parts) d.is;
      opened = ap (λ (r : Progress). r.opened) d.is;
    }

-- the name of a function
function_steps : (n : ℕ) (shape : Shape) (place : Place) (text : List ℕ) (p q : Progress) → Now n p → TextFine text
    → coming p.parts ≡ 1 → take_function_name shape place text p ≡ Ok q → Stepped n p q
function_steps n shape place text p q s words owed e =
    let kind : Kind = Wizard (next_body p.bodies) in
    let a = then_ok (define kind shape place text p) (λ (m : Progress). ok (record m { function = Some (next_name p.names); commands = p.commands ++ record { command = command.Function (next_name p.names); place = p.place } ∷ [] })) q e in
    let d = define_ok kind shape place text p a.0 a.1 in
    let is : q ≡ record p { names = p.names ++ (lowered text, kind) ∷ []; function = Some (next_name p.names); commands = p.commands ++ record { command = command.Function (next_name p.names); place = p.place } ∷ [] } =
    ok_is (record (a.0) { function = Some (next_name p.names); commands = p.commands ++ record { command = command.Function (next_name p.names); place = p.place } ∷ [] }) q a.2
    ∙ ap (λ (m : Progress). record m { function = Some (next_name p.names); commands = p.commands ++ record { command = command.Function (next_name p.names); place = p.place } ∷ [] }) d.is in
    let fine : IsKindSoFar p.bodies (coming p.parts) kind = (omega (arith, owed), λ within. absurd (omega arith)) in
    record {
      now =
          subst (Now (suc n)) (sym is)
          (commanded n (p.names ++ (lowered text, kind) ∷ []) p.commands p.bodies p.texts p.parts p.opened (named_now n kind text p a.0 s words fine d)
          (command.Function (next_name p.names)) p.place
          (next_body p.bodies, ap (option_map (λ (entry : List ℕ × Kind). entry.1)) (get-last p.names (lowered text, kind))));
      parts = ap (λ (r : Progress). r.parts) is;
      opened = ap (λ (r : Progress). r.opened) is;
    }

-- the name that a command calls
call_sound : (names : List (List ℕ × Kind)) (c : Caller) (id : NameId) → is_callable (kind_at id names) ≡ true
    → IsCommandSound names (call_of c id)
call_sound names caller.Execute id h = h
call_sound names caller.Iterate id h = h
call_sound names caller.Reverse id h = h

called_steps : (n : ℕ) (c : Caller) (found : Option NameId) (place : Place) (p q : Progress) → Now n p → called c found place p ≡ Ok q
    → Stepped n p q
called_steps n c None place p q s e = absurd (cc)
called_steps n c (Some id) place p q s e =
    let w = where_ok (is_callable (kind_at id p.names)) (ok (record p { commands = p.commands ++ record { command = call_of c id; place = p.place } ∷ [] })) _ q e in
    let is = ok_is (record p { commands = p.commands ++ record { command = call_of c id; place = p.place } ∷ [] }) q w.1 in
    record {
      now = subst (Now (suc n)) (sym is) (commanded n p.names p.commands p.bodies p.texts p.parts p.opened s (call_of c id) p.place (call_sound p.names c id w.0));
      parts = ap (λ (r : Progress). r.parts) is;
      opened = ap (λ (r : Progress). r.opened) is;
    }

target_steps : (n : ℕ) (c : Caller) (shape : Shape) (place : Place) (text : List ℕ) (p q : Progress) → Now n p
    → take_target c shape place text p ≡ Ok q → Stepped n p q
target_steps n c Name place text p q s e = called_steps n c (id_of (lowered text) p.names) place p q s e
target_steps n c _ place text p q s e = absurd (cc)

-- a macro
macro_name_steps : (n : ℕ) (shape : Shape) (place : Place) (text : List ℕ) (p q : Progress) → Now n p
    → take_macro_name shape place text p ≡ Ok q → Stepped n p q
macro_name_steps n shape place text p q s e =
    let a = then_ok (definable shape place text) _ q e in
    let u = unless_ok (has_macro a.0 p.macros) _ (ok (record p { macro_name = a.0 })) q a.2 in
    let is = ok_is (record p { macro_name = a.0 }) q u.1 in
    record {
      now = subst (Now (suc n)) (sym is) (on n p s);
      parts = ap (λ (r : Progress). r.parts) is;
      opened = ap (λ (r : Progress). r.opened) is;
    }

macro_text_steps : (n : ℕ) (shape : Shape) (place : Place) (text : List ℕ) (p q : Progress) → Now n p
    → take_macro_text shape place text p ≡ Ok q → Stepped n p q
macro_text_steps n Text place text p q s e =
    let is = ok_is (record p { macros = p.macros ++ record { name = p.macro_name; value = unmarked text } ∷ [] }) q e in
    record {
      now = subst (Now (suc n)) (sym is) (on n p s);
      parts = ap (λ (r : Progress). r.parts) is;
      opened = ap (λ (r : Progress). r.opened) is;
    }
macro_text_steps n _ place text p q s e = absurd (cc)

-- a part is done after its lexeme
done : (n : ℕ) (part : Part) (rest : List Part) (p m : Progress) (r : Result Progress StyleFault)
    → p.parts ≡ part ∷ rest → p.opened ≡ [] → coming (part ∷ rest) ≡ coming rest → (PartsFine (part ∷ rest) → PartsFine rest)
    → then_do r (pass rest) ≡ Ok m → ((q : Progress) → r ≡ Ok q → Stepped n p q) → Now (suc n) m
done n part rest p m r is idle same fine e steps =
    let a = then_ok r (pass rest) m e in
    let st = steps a.0 a.1 in
    subst (Now (suc n)) (sym (ok_is (record (a.0) { parts = rest }) m a.2))
    (passed (suc n) (a.0).names (a.0).commands (a.0).bodies (a.0).texts (a.0).parts (a.0).opened st.now part rest (st.parts ∙ is) same fine (st.opened ∙ idle))

-- a name of a list, or the brace after it
names_keep : (n : ℕ) (kind : Kind) (rest : List Part) (shape : Shape) (place : Place) (text : List ℕ) (p m : Progress) → Now n p
    → TextFine text → p.parts ≡ Names kind ∷ rest → p.opened ≡ [] → take_names kind rest shape place text p ≡ Ok m → Now (suc n) m
names_keep n kind rest CloseBrace place text p m s words is idle e =
    subst (Now (suc n)) (sym (ok_is (record p { parts = rest }) m e))
    (on n (record p { parts = rest }) (passed n p.names p.commands p.bodies p.texts p.parts p.opened s (Names kind) rest is refl (λ fine. fine.1) idle))
names_keep n kind rest OpenBrace place text p m s words is idle e =
    (define_steps n kind OpenBrace place text p m s words ((subst PartsFine is s.parts).0 p.bodies (coming p.parts)) e).now
names_keep n kind rest (Integer k) place text p m s words is idle e =
    (define_steps n kind (Integer k) place text p m s words ((subst PartsFine is s.parts).0 p.bodies (coming p.parts)) e).now
names_keep n kind rest Text place text p m s words is idle e =
    (define_steps n kind Text place text p m s words ((subst PartsFine is s.parts).0 p.bodies (coming p.parts)) e).now
names_keep n kind rest Quoted place text p m s words is idle e =
    (define_steps n kind Quoted place text p m s words ((subst PartsFine is s.parts).0 p.bodies (coming p.parts)) e).now
names_keep n kind rest Name place text p m s words is idle e =
    (define_steps n kind Name place text p m s words ((subst PartsFine is s.parts).0 p.bodies (coming p.parts)) e).now

-- the opening brace of a function's body
body_keeps : (n : ℕ) (rest : List Part) (shape : Shape) (place : Place) (p m : Progress) → Now n p → p.parts ≡ BodyPart ∷ rest
    → then_do (take_body shape place p) (pass rest) ≡ Ok m → Now (suc n) m
body_keeps n rest OpenBrace place p m s is e =
    let a = then_ok (take_body OpenBrace place p) (pass rest) m e in
    let q : Progress = record p { bodies = p.bodies ++ record { tokens = []; block = None; place = place } ∷ []; opened = next_body p.bodies ∷ p.opened } in
    let u = unless_ok (nat_le MOST_BODIES (length p.bodies)) _ (ok q) a.0 a.1 in
    let same = ok_is (record (a.0) { parts = rest }) m a.2 ∙ ap (λ (r : Progress). record r { parts = rest }) (ok_is q (a.0) u.1) in
    subst (Now (suc n)) (sym same)
    (on n (record q { parts = rest })
    (function_put n p.names p.commands p.bodies p.texts p.parts p.opened s rest place (next_body p.bodies ∷ p.opened) is (below MOST_BODIES (length p.bodies) u.0)))
body_keeps n rest _ place p m s is e = absurd (cc)

part_keeps : (n : ℕ) (part : Part) (rest : List Part) (shape : Shape) (place : Place) (text : List ℕ) (p m : Progress) → Now n p
    → TextFine text → p.parts ≡ part ∷ rest → p.opened ≡ [] → take_part part rest shape place text p ≡ Ok m → Now (suc n) m
part_keeps n (Names kind) rest shape place text p m s words is idle e = names_keep n kind rest shape place text p m s words is idle e
part_keeps n Open rest shape place text p m s words is idle e =
    done n Open rest p m (take_open shape place p) is idle refl (λ fine. fine) e (λ q. open_steps n shape place p q s)
part_keeps n Close rest shape place text p m s words is idle e =
    done n Close rest p m (take_close shape place p) is idle refl (λ fine. fine) e (λ q. close_steps n shape place p q s)
part_keeps n (Target c) rest shape place text p m s words is idle e =
    done n (Target c) rest p m (take_target c shape place text p) is idle refl (λ fine. fine) e (λ q. target_steps n c shape place text p q s)
part_keeps n FunctionName rest shape place text p m s words is idle e =
    done n FunctionName rest p m (take_function_name shape place text p) is idle refl (λ fine. fine.1) e
    (λ q. function_steps n shape place text p q s words (ap coming is ∙ (subst PartsFine is s.parts).0))
part_keeps n BodyPart rest shape place text p m s words is idle e = body_keeps n rest shape place p m s is e
part_keeps n MacroName rest shape place text p m s words is idle e =
    done n MacroName rest p m (take_macro_name shape place text p) is idle refl (λ fine. fine) e (λ q. macro_name_steps n shape place text p q s)
part_keeps n MacroText rest shape place text p m s words is idle e =
    done n MacroText rest p m (take_macro_text shape place text p) is idle refl (λ fine. fine) e (λ q. macro_text_steps n shape place text p q s)

-- a command begins
begun_keeps : (n : ℕ) (word : Word) (place : Place) (p : Progress) → Now n p → p.parts ≡ [] → p.opened ≡ [] → Now (suc n) (begun word place p)
begun_keeps n Entry place p s none idle =
    started (suc n) p.names _ p.bodies p.texts p.parts p.opened (commanded n p.names p.commands p.bodies p.texts p.parts p.opened s command.Entry place tt) (parts_of Entry) none idle
    (λ bodies owed. tt, (λ bodies owed. tt, (λ bodies owed. tt, tt)))
begun_keeps n Integers place p s none idle =
    started (suc n) p.names _ p.bodies p.texts p.parts p.opened (commanded n p.names p.commands p.bodies p.texts p.parts p.opened s command.Integers place tt) (parts_of Integers) none idle
    (λ bodies owed. tt, tt)
begun_keeps n Strings place p s none idle =
    started (suc n) p.names _ p.bodies p.texts p.parts p.opened (commanded n p.names p.commands p.bodies p.texts p.parts p.opened s command.Strings place tt) (parts_of Strings) none idle
    (λ bodies owed. tt, tt)
begun_keeps n Macro place p s none idle =
    started (suc n) p.names _ p.bodies p.texts p.parts p.opened (commanded n p.names p.commands p.bodies p.texts p.parts p.opened s command.Macro place tt) (parts_of Macro) none idle tt
begun_keeps n Read place p s none idle =
    started (suc n) p.names _ p.bodies p.texts p.parts p.opened (commanded n p.names p.commands p.bodies p.texts p.parts p.opened s command.Read place tt) (parts_of Read) none idle tt
begun_keeps n Sort place p s none idle =
    started (suc n) p.names _ p.bodies p.texts p.parts p.opened (commanded n p.names p.commands p.bodies p.texts p.parts p.opened s command.Sort place tt) (parts_of Sort) none idle tt
begun_keeps n Execute place p s none idle =
    started (suc n) p.names p.commands p.bodies p.texts p.parts p.opened (on n p s) (parts_of Execute) none idle tt
begun_keeps n Iterate place p s none idle =
    started (suc n) p.names p.commands p.bodies p.texts p.parts p.opened (on n p s) (parts_of Iterate) none idle tt
begun_keeps n Reverse place p s none idle =
    started (suc n) p.names p.commands p.bodies p.texts p.parts p.opened (on n p s) (parts_of Reverse) none idle tt
begun_keeps n Function place p s none idle =
    started (suc n) p.names p.commands p.bodies p.texts p.parts p.opened (on n p s) (parts_of Function) none idle (refl, refl)

begin_keeps : (n : ℕ) (word : Word) (place : Place) (p m : Progress) → Now n p → p.parts ≡ [] → p.opened ≡ [] → begin word place p ≡ Ok m
    → Now (suc n) m
begin_keeps n word place p m s none idle e = by (order_fault word place p) e
  where
    by : (o : Option StyleFault) → option_map_or Err o (ok (begun word place p)) ≡ Ok m → Now (suc n) m
    by (Some fault) e = absurd (cc)
    by None e = subst (Now (suc n)) (sym (ok_is (begun word place p) m e)) (begun_keeps n word place p s none idle)

named_keeps : (n : ℕ) (word : Option Word) (place : Place) (p m : Progress) → Now n p → p.parts ≡ [] → p.opened ≡ []
    → begin_named word place p ≡ Ok m → Now (suc n) m
named_keeps n None place p m s none idle e = absurd (cc)
named_keeps n (Some word) place p m s none idle e = begin_keeps n word place p m s none idle e

word_keeps : (n : ℕ) (shape : Shape) (place : Place) (text : List ℕ) (p m : Progress) → Now n p → p.parts ≡ [] → p.opened ≡ []
    → take_word shape place text p ≡ Ok m → Now (suc n) m
word_keeps n Name place text p m s none idle e = named_keeps n (word_of (lowered text)) place p m s none idle e
word_keeps n _ place text p m s none idle e = absurd (cc)

-- a name that is used is there
found_within : (found function : Option NameId) (place : Place) (id : NameId) → not_own found function place ≡ Ok id → found ≡ Some id
found_within None function place id e = absurd (cc)
found_within (Some i) function place id e =
    let u = unless_ok (is_own i function) _ (ok i) id e in
    ap (λ (j : NameId). Some j) (sym (ok_is i id u.1))

used_within : (source : List ℕ) (l : Seen) (name : List ℕ) (p : Progress) (id : NameId) → used source l name p ≡ Ok id
    → id.0 < length p.names
used_within source l name p id e =
    let u = unless_ok (begins_block (drop (l.start + length l.text) source)) _ (not_own (id_of (lowered name) p.names) p.function l.place) id e in
    id_within (lowered name) p.names id (found_within (id_of (lowered name) p.names) p.function l.place id u.1)

-- a token of a body
token_keeps : (n : ℕ) (source : List ℕ) (inside : BodyId) (shape : Shape) (l : Seen) (p m : Progress) → Now n p
    → TextFine l.text → IsShapeSmall shape → p.parts ≡ [] → take_token source inside shape l p ≡ Ok m → Now (suc n) m
token_keeps n source inside OpenBrace l p m s words fits none e =
    let u = unless_ok (nat_lt DEEPEST (length p.opened)) _ _ m e in
    let v = unless_ok (nat_le MOST_BODIES (length p.bodies)) _ _ m u.1 in
    subst (Now (suc n)) (sym (ok_is _ m v.1))
    (later_on n p.names p.commands _ p.texts p.parts (next_body p.bodies ∷ p.opened)
    (block_put n p.names p.commands p.bodies p.texts p.parts p.opened s inside l.place (next_body p.bodies ∷ p.opened) none (below MOST_BODIES (length p.bodies) v.0)))
token_keeps n source inside CloseBrace l p m s words fits none e =
    subst (Now (suc n)) (sym (ok_is (record p { opened = drop 1 p.opened }) m e))
    (on n (record p { opened = drop 1 p.opened }) (left n p.names p.commands p.bodies p.texts p.parts p.opened s))
token_keeps n source inside (Integer value) l p m s words fits none e =
    subst (Now (suc n)) (sym (ok_is (with_token inside (Int value) l.place p) m e))
    (on n (with_token inside (Int value) l.place p) (token_put n p.names p.commands p.bodies p.texts p.parts p.opened s inside (Int value) l.place fits))
token_keeps n source inside Text l p m s words fits none e =
    let text : List ℕ = unmarked l.text in
    let fine : TextFine text = record {
      short = omega (arith, words.short, length-take (length l.text - 2) (drop 1 l.text), length-drop 1 l.text);
      bytes = bytes_taken (length l.text - 2) (drop 1 l.text) (bytes_dropped 1 l.text words.bytes);
    } in
    subst (Now (suc n)) (sym (ok_is (with_text inside l p) m e))
    (on n (with_text inside l p)
    (token_put n p.names p.commands p.bodies (p.texts ++ text ∷ []) p.parts p.opened
    (worded n p.names p.commands p.bodies p.texts p.parts p.opened s text fine)
    inside (Str (record { 0 = length p.texts })) l.place (omega (arith, length-append {A = List ℕ}))))
token_keeps n source inside Quoted l p m s words fits none e =
    let a = then_ok (used source l (drop 1 l.text) p) (λ (id : NameId). ok (with_token inside (Quote id) l.place p)) m e in
    subst (Now (suc n)) (sym (ok_is (with_token inside (Quote (a.0)) l.place p) m a.2))
    (on n (with_token inside (Quote (a.0)) l.place p)
    (token_put n p.names p.commands p.bodies p.texts p.parts p.opened s inside (Quote (a.0)) l.place (used_within source l (drop 1 l.text) p a.0 a.1)))
token_keeps n source inside Name l p m s words fits none e =
    let a = then_ok (used source l l.text p) (λ (id : NameId). ok (with_token inside (Call id) l.place p)) m e in
    subst (Now (suc n)) (sym (ok_is (with_token inside (Call (a.0)) l.place p) m a.2))
    (on n (with_token inside (Call (a.0)) l.place p)
    (token_put n p.names p.commands p.bodies p.texts p.parts p.opened s inside (Call (a.0)) l.place (used_within source l l.text p a.0 a.1)))

outside_keeps : (n : ℕ) (parts : List Part) (l : Seen) (p m : Progress) → p.parts ≡ parts → p.opened ≡ [] → Now n p
    → TextFine l.text → take_outside parts l p ≡ Ok m → Now (suc n) m
outside_keeps n [] l p m is idle s words e = word_keeps n l.shape l.place l.text p m s is idle e
outside_keeps n (part ∷ rest) l p m is idle s words e = part_keeps n part rest l.shape l.place l.text p m s words is idle e

within_keeps : (n : ℕ) (opened : List BodyId) (source : List ℕ) (l : Seen) (p m : Progress) → p.opened ≡ opened → Now n p
    → TextFine l.text → IsShapeSmall l.shape → take_within (innermost opened) source l p ≡ Ok m → Now (suc n) m
within_keeps n [] source l p m is s words fits e = outside_keeps n p.parts l p m refl is s words e
within_keeps n (inside ∷ outer) source l p m is s words fits e =
    token_keeps n source inside l.shape l p m s words fits (subst (λ (o : List BodyId). IsBusy o p.parts) is s.busy) e

-- a lexeme keeps what holds
pub lexeme_keeps : (n : ℕ) (source : List ℕ) (l : Seen) (p m : Progress) → Now n p → TextFine l.text → IsShapeSmall l.shape
    → take_lexeme source l p ≡ Ok m → Now (suc n) m
lexeme_keeps n source l p m s words fits e = within_keeps n p.opened source l p m refl s words fits e
