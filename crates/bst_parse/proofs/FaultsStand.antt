-- Every fault stands in its source.
use Rattle.std.proofs.Common.{◌≡◌, ℕ, ◌+◌, Bool, true, false, cond, nat_le, nat_lt, List, [], ◌∷◌, ◌++◌, Option, None, Some, is_some, Result, Ok, Err, length, take, drop, refl, sym, ap, subst, ◌∙◌, arith}
use Rattle.std.specs.Option.{option_map_or, IfSome}
use Rattle.bv_base.specs.declared.place.Place.{Place}
use Rattle.name_table.specs.declared.names.Kind.{Kind}
use Rattle.name_table.specs.declared.names.Kind.TheVariants.{Wizard}
use Rattle.name_table.specs.declared.names.NameId.{NameId}
use Rattle.name_table.specs.declared.style.BodyId.{BodyId}
use Rattle.name_table.specs.Names.{id_of, kind_at, lowered, is_definable}
use Rattle.name_table.specs.Sound.{is_callable}
use Rattle.bst_lex.specs.declared.lexeme.LexFault.{LexFault}
use Rattle.bst_lex.specs.declared.lexeme.Shape.{Shape}
use Rattle.bst_lex.specs.declared.lexeme.Shape.TheVariants.{OpenBrace, CloseBrace, Integer, Text, Quoted, Name}
use Rattle.bst_lex.specs.Lexemes.{Seen, lexed}
use Rattle.bst_lex.specs.Order.{InOrder, IsNext}
use Rattle.bst_lex.specs.Fault.{place_of}
use Rattle.bst_lex.specs.Grammar.{IsLexeme, Spells, is_line_end}
use Rattle.bst_lex.specs.Pieces.{ends_clean}
use Rattle.bv_base.specs.Places.{after_bytes, along, first_place, StandsIn}
use Rattle.bst_lex.proofs.Placing.{along_line, clean_plain, none_weaker}
use Rattle.std.proofs.Math.Seq.{take-add}
use Rattle.name_table.specs.Sound.{Each}
use Rattle.bst_parse.specs.declared.fault.StyleFault.{StyleFault}
use Rattle.bst_parse.specs.declared.grammar.Caller.{Caller}
use Rattle.bst_parse.specs.declared.grammar.Part.{Part}
use Rattle.bst_parse.specs.declared.grammar.Part.TheVariants.{Open, Close, Names, Target, FunctionName, Body, MacroName, MacroText}
use Rattle.bst_parse.specs.declared.grammar.Word.{Word}
use Rattle.bst_parse.specs.declared.grammar.Word.TheVariants.{Entry, Execute, Function, Integers, Iterate, Macro, Read, Reverse, Sort, Strings}
use Rattle.bst_parse.specs.Bodies.{innermost, next_body}
use Rattle.bst_parse.specs.Commands.{word_of}
use Rattle.bst_parse.specs.Fault.{IsFaultOf}
use Rattle.bst_parse.specs.Names.{has_macro}
use Rattle.bst_parse.specs.Parts.{take_open, take_close, definable, defined, define, take_names, take_function_name, called, take_target, take_macro_name, take_macro_text, take_body, pass, take_part}
use Rattle.bv_base.specs.Answers.{then_do}
use Rattle.bst_parse.specs.declared.tokens.TheConstants.{DEEPEST}
use Rattle.name_table.specs.declared.style.TheConstants.{MOST_BODIES}
use Rattle.name_table.specs.declared.names.TheConstants.{MOST_NAMES}
use Rattle.bst_parse.specs.Progress.{Progress}
use Rattle.bst_parse.specs.Reading.{take_outside, take_within, take_lexeme, is_idle, ended, reading, opening_progress, style_of}
use Rattle.bst_parse.specs.Tokens.{begins_block, is_own, not_own, used, take_token}
use Rattle.bst_parse.specs.Words.{order_fault, begun, begin_named, take_word}
use Rattle.bv_base.specs.Runs.{NoneOf}
use Rattle.bst_lex.proofs.Reading.{after_append}
use Rattle.bv_base.proofs.ThenLemmas.{then_faulty}
use Rattle.std.specs.Prelude.{IfErr}

-- a result whose fault, if any, is one of the source
abbrev pub Placed : {A : Type 0} → List ℕ → Result A StyleFault → Type 0
Placed source r = IfErr r (IsFaultOf source)

placed_either : {A : Type 0} (source : List ℕ) (t : Bool) (r s : Result A StyleFault) → Placed source r → Placed source s
    → Placed source (cond t r s)
placed_either source true r s h g = h
placed_either source false r s h g = g

-- a name or a quoted name
abbrev pub is_run : Shape → Bool
is_run Name = true
is_run Quoted = true
is_run _ = false

-- a lexeme stands in its source, and so does the byte after a name
pub record AtLexeme (source : List ℕ) (l : Seen) : Type 0 where
  pub stands : StandsIn source l.place
  pub after : is_run l.shape ≡ true → StandsIn source (along l.place (length l.text))

open_placed : (source : List ℕ) (shape : Shape) (place : Place) (p : Progress) → StandsIn source place → Placed source (take_open shape place p)
open_placed source OpenBrace place p at = tt
open_placed source _ place p at = at

close_placed : (source : List ℕ) (shape : Shape) (place : Place) (p : Progress) → StandsIn source place → Placed source (take_close shape place p)
close_placed source CloseBrace place p at = tt
close_placed source _ place p at = at

definable_placed : (source : List ℕ) (shape : Shape) (place : Place) (text : List ℕ) → StandsIn source place → Placed source (definable shape place text)
definable_placed source Name place text at = placed_either source (is_definable text) (Ok (lowered text)) _ tt at
definable_placed source _ place text at = at

defined_placed : (source name : List ℕ) (kind : Kind) (place : Place) (names : List (List ℕ × Kind)) → StandsIn source place
    → Placed source (defined name kind place names)
defined_placed source name kind place names at =
    placed_either source (is_some (id_of name names)) _ _ at (placed_either source (nat_le MOST_NAMES (length names)) _ (Ok (names ++ (name, kind) ∷ [])) at tt)

define_placed : (source : List ℕ) (kind : Kind) (shape : Shape) (place : Place) (text : List ℕ) (p : Progress) → StandsIn source place
    → Placed source (define kind shape place text p)
define_placed source kind shape place text p at =
    then_faulty (IsFaultOf source) (definable shape place text) _ (definable_placed source shape place text at)
    (λ name _. then_faulty (IsFaultOf source) (defined name kind place p.names) _ (defined_placed source name kind place p.names at) (λ names _. tt))

names_placed : (source : List ℕ) (kind : Kind) (rest : List Part) (shape : Shape) (place : Place) (text : List ℕ) (p : Progress)
    → StandsIn source place → Placed source (take_names kind rest shape place text p)
names_placed source kind rest CloseBrace place text p at = tt
names_placed source kind rest OpenBrace place text p at = define_placed source kind OpenBrace place text p at
names_placed source kind rest (Integer k) place text p at = define_placed source kind (Integer k) place text p at
names_placed source kind rest Text place text p at = define_placed source kind Text place text p at
names_placed source kind rest Quoted place text p at = define_placed source kind Quoted place text p at
names_placed source kind rest Name place text p at = define_placed source kind Name place text p at

called_placed : (source : List ℕ) (c : Caller) (found : Option NameId) (place : Place) (p : Progress) → StandsIn source place
    → Placed source (called c found place p)
called_placed source c None place p at = at
called_placed source c (Some id) place p at = placed_either source (is_callable (kind_at id p.names)) (Ok _) _ tt at

target_placed : (source : List ℕ) (c : Caller) (shape : Shape) (place : Place) (text : List ℕ) (p : Progress) → StandsIn source place
    → Placed source (take_target c shape place text p)
target_placed source c Name place text p at = called_placed source c (id_of (lowered text) p.names) place p at
target_placed source c _ place text p at = at

macro_name_placed : (source : List ℕ) (shape : Shape) (place : Place) (text : List ℕ) (p : Progress) → StandsIn source place
    → Placed source (take_macro_name shape place text p)
macro_name_placed source shape place text p at =
    then_faulty (IsFaultOf source) (definable shape place text) _ (definable_placed source shape place text at)
    (λ name _. placed_either source (has_macro name p.macros) _ (Ok (record p { macro_name = name })) at tt)

macro_text_placed : (source : List ℕ) (shape : Shape) (place : Place) (text : List ℕ) (p : Progress) → StandsIn source place
    → Placed source (take_macro_text shape place text p)
macro_text_placed source Text place text p at = tt
macro_text_placed source _ place text p at = at

body_placed : (source : List ℕ) (shape : Shape) (place : Place) (p : Progress) → StandsIn source place → Placed source (take_body shape place p)
body_placed source OpenBrace place p at = placed_either source (nat_le MOST_BODIES (length p.bodies)) _ _ at tt
body_placed source _ place p at = at

part_placed : (source : List ℕ) (part : Part) (rest : List Part) (shape : Shape) (place : Place) (text : List ℕ) (p : Progress)
    → StandsIn source place → Placed source (take_part part rest shape place text p)
part_placed source (Names kind) rest shape place text p at = names_placed source kind rest shape place text p at
part_placed source Open rest shape place text p at =
    then_faulty (IsFaultOf source) (take_open shape place p) (pass rest) (open_placed source shape place p at) (λ q _. tt)
part_placed source Close rest shape place text p at =
    then_faulty (IsFaultOf source) (take_close shape place p) (pass rest) (close_placed source shape place p at) (λ q _. tt)
part_placed source (Target c) rest shape place text p at =
    then_faulty (IsFaultOf source) (take_target c shape place text p) (pass rest) (target_placed source c shape place text p at) (λ q _. tt)
part_placed source FunctionName rest shape place text p at =
    then_faulty (IsFaultOf source) (take_function_name shape place text p) (pass rest)
    (then_faulty (IsFaultOf source) (define (Wizard (next_body p.bodies)) shape place text p) _ (define_placed source (Wizard (next_body p.bodies)) shape place text p at) (λ q _. tt))
    (λ q _. tt)
part_placed source Body rest shape place text p at =
    then_faulty (IsFaultOf source) (take_body shape place p) (pass rest) (body_placed source shape place p at) (λ q _. tt)
part_placed source MacroName rest shape place text p at =
    then_faulty (IsFaultOf source) (take_macro_name shape place text p) (pass rest) (macro_name_placed source shape place text p at) (λ q _. tt)
part_placed source MacroText rest shape place text p at =
    then_faulty (IsFaultOf source) (take_macro_text shape place text p) (pass rest) (macro_text_placed source shape place text p at) (λ q _. tt)

-- where a command may begin
refused : (source : List ℕ) (found : Option StyleFault) (next : Progress) → IfSome found (IsFaultOf source)
    → Placed source (option_map_or Err found (Ok next))
refused source None next h = tt
refused source (Some fault) next h = h

if_fault : (source : List ℕ) (t : Bool) (a b : Option StyleFault) → IfSome a (IsFaultOf source) → IfSome b (IsFaultOf source)
    → IfSome (cond t a b) (IsFaultOf source)
if_fault source true a b h g = h
if_fault source false a b h g = g

order_placed : (source : List ℕ) (word : Word) (place : Place) (p : Progress) → StandsIn source place
    → IfSome (order_fault word place p) (IsFaultOf source)
order_placed source Entry place p at = if_fault source p.has_entry _ None at tt
order_placed source Read place p at = if_fault source p.has_read _ _ at (if_fault source p.has_entry None _ tt at)
order_placed source Macro place p at = if_fault source p.has_read _ None at tt
order_placed source Function place p at = tt
order_placed source Integers place p at = tt
order_placed source Strings place p at = tt
order_placed source _ place p at = if_fault source p.has_read None _ tt at

named_placed : (source : List ℕ) (word : Option Word) (place : Place) (p : Progress) → StandsIn source place
    → Placed source (begin_named word place p)
named_placed source None place p at = at
named_placed source (Some word) place p at = refused source (order_fault word place p) (begun word place p) (order_placed source word place p at)

word_placed : (source : List ℕ) (shape : Shape) (place : Place) (text : List ℕ) (p : Progress) → StandsIn source place
    → Placed source (take_word shape place text p)
word_placed source Name place text p at = named_placed source (word_of (lowered text)) place p at
word_placed source _ place text p at = at

-- in a body
not_own_placed : (source : List ℕ) (found function : Option NameId) (place : Place) → StandsIn source place
    → Placed source (not_own found function place)
not_own_placed source None function place at = at
not_own_placed source (Some id) function place at = placed_either source (is_own id function) _ (Ok id) at tt

used_placed : (source : List ℕ) (l : Seen) (name : List ℕ) (p : Progress) → StandsIn source l.place
    → StandsIn source (along l.place (length l.text)) → Placed source (used source l name p)
used_placed source l name p at after =
    placed_either source (begins_block (drop (l.start + length l.text) source)) _ (not_own (id_of (lowered name) p.names) p.function l.place) after
    (not_own_placed source (id_of (lowered name) p.names) p.function l.place at)

token_placed : (source : List ℕ) (inside : BodyId) (shape : Shape) (l : Seen) (p : Progress) → l.shape ≡ shape → AtLexeme source l
    → Placed source (take_token source inside shape l p)
token_placed source inside OpenBrace l p is at =
    placed_either source (nat_lt DEEPEST (length p.opened)) _ _ at.stands (placed_either source (nat_le MOST_BODIES (length p.bodies)) _ _ at.stands tt)
token_placed source inside Quoted l p is at =
    then_faulty (IsFaultOf source) (used source l (drop 1 l.text) p) _ (used_placed source l (drop 1 l.text) p at.stands (at.after (ap is_run is))) (λ id _. tt)
token_placed source inside Name l p is at =
    then_faulty (IsFaultOf source) (used source l l.text p) _ (used_placed source l l.text p at.stands (at.after (ap is_run is))) (λ id _. tt)
token_placed source inside _ l p is at = tt

outside_placed : (source : List ℕ) (parts : List Part) (l : Seen) (p : Progress) → AtLexeme source l → Placed source (take_outside parts l p)
outside_placed source [] l p at = word_placed source l.shape l.place l.text p at.stands
outside_placed source (part ∷ rest) l p at = part_placed source part rest l.shape l.place l.text p at.stands

within_placed : (source : List ℕ) (inside : Option BodyId) (l : Seen) (p : Progress) → AtLexeme source l → Placed source (take_within inside source l p)
within_placed source None l p at = outside_placed source p.parts l p at
within_placed source (Some inside) l p at = token_placed source inside l.shape l p refl at

ended_placed : (source : List ℕ) (fault : Option LexFault) (p : Progress) → IfSome fault (λ f. StandsIn source (place_of f))
    → Placed source (ended source fault p)
ended_placed source (Some fault) p h = h
ended_placed source None p h = placed_either source (is_idle p) (Ok _) _ tt (length source, omega arith, refl)

reading_placed : (source : List ℕ) (lexemes : List Seen) (fault : Option LexFault) (p : Progress) → Each (AtLexeme source) lexemes
    → IfSome fault (λ f. StandsIn source (place_of f)) → Placed source (reading source lexemes fault p)
reading_placed source [] fault p each h = ended_placed source fault p h
reading_placed source (l ∷ rest) fault p each h =
    then_faulty (IsFaultOf source) (take_lexeme source l p) (reading source rest fault) (within_placed source (innermost p.opened) l p each.0)
    (λ q _. reading_placed source rest fault q each.1 h)

-- a run has no line end
run_clean : (shape : Shape) (text rest : List ℕ) → is_run shape ≡ true → IsLexeme shape text rest → NoneOf is_line_end text
run_clean Name text rest run h = none_weaker ends_clean is_line_end text clean_plain h.3
run_clean Quoted text rest run h = none_weaker ends_clean is_line_end text clean_plain h.1
run_clean _ text rest run h = absurd (cc)

each_stands : (source : List ℕ) (from start : ℕ) (place : Place) (bytes : List ℕ) (lexemes : List Seen) (fault : Option LexFault)
    → InOrder source from lexemes → Spells start place bytes lexemes fault → Each (AtLexeme source) lexemes
each_stands source from start place bytes [] fault order spells = tt
each_stands source from start place bytes (l ∷ rest) fault order spells =
    let next : IsNext source from l = order.0 in (
      record {
        stands = (l.start, omega (arith, next.within), next.place_is);
        after =
            λ run. (
              l.start + length l.text,
              next.within,
              sym (along_line l.text l.place (run_clean l.shape l.text spells.1 run spells.6))
                  ∙ ap (after_bytes l.text) next.place_is
                  ∙ sym (after_append (take l.start source) l.text first_place)
                  ∙ ap (λ (t : List ℕ). after_bytes (take l.start source ++ t) first_place) next.slice
                  ∙ sym (ap (λ (t : List ℕ). after_bytes t first_place) (take-add l.start (length l.text) source)),
            );
      },
      each_stands source (l.start + length l.text) (l.start + length l.text) (after_bytes l.text l.place) spells.1 rest fault order.1 spells.7,
    )

pub fault_stands : (source : List ℕ) (fault : StyleFault) → InOrder source 0 (lexed source).left
    → Spells 0 first_place source (lexed source).left (lexed source).fault
    → IfSome (lexed source).fault (λ f. StandsIn source (place_of f)) → style_of source ≡ Err fault → IsFaultOf source fault
fault_stands source fault order spells lexical e =
    subst (Placed source) e
    (reading_placed source (lexed source).left (lexed source).fault opening_progress
    (each_stands source 0 0 first_place source (lexed source).left (lexed source).fault order spells) lexical)
