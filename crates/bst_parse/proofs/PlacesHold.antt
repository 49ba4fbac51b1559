-- Every place of a style that was read is that of a byte of its text.
use Rattle.std.proofs.Common.{◌≡◌, ℕ, zero, suc, ◌+◌, Bool, true, false, cond, nat_le, List, [], ◌∷◌, ◌++◌, Option, None, Some, Result, Ok, Err, length, drop, refl, subst, arith}
use Rattle.std.specs.Prelude.{IfOk}
use Rattle.std.specs.Option.{option_map_or}
use Rattle.bv_base.specs.declared.place.Place.{Place}
use Rattle.bv_base.specs.Answers.{then_do}
use Rattle.name_table.specs.Names.{id_of, kind_at, lowered}
use Rattle.name_table.specs.Sound.{Each, is_callable}
use Rattle.name_table.specs.declared.names.Kind.{Kind}
use Rattle.name_table.specs.declared.names.Kind.TheVariants.{Wizard}
use Rattle.name_table.specs.declared.names.NameId.{NameId}
use Rattle.name_table.specs.declared.style.Body.{Body}
use Rattle.name_table.specs.declared.style.BodyId.{BodyId}
use Rattle.name_table.specs.declared.style.Command.{Command}
use Rattle.name_table.specs.declared.style.Command.TheVariants as command
use Rattle.name_table.specs.declared.style.CommandAt.{CommandAt}
use Rattle.name_table.specs.declared.style.Style.{Style}
use Rattle.name_table.specs.declared.style.Token.{Token}
use Rattle.name_table.specs.declared.style.Token.TheVariants.{Block, Call, Int, Quote, Str}
use Rattle.name_table.specs.declared.style.TokenAt.{TokenAt}
use Rattle.bst_lex.specs.Lexemes.{Seen, lexed}
use Rattle.bst_lex.specs.Order.{InOrder, IsNext}
use Rattle.bst_lex.specs.declared.lexeme.LexFault.{LexFault}
use Rattle.bst_lex.specs.declared.lexeme.Shape.{Shape}
use Rattle.bst_lex.specs.declared.lexeme.Shape.TheVariants.{CloseBrace, Integer, Name, OpenBrace, Quoted, Text}
use Rattle.bst_parse.specs.Bodies.{block_count, changed_at, innermost, next_body, token_added}
use Rattle.bst_parse.specs.Commands.{call_of, declaration_of, parts_of, word_of}
use Rattle.bst_parse.specs.Names.{has_macro}
use Rattle.bst_parse.specs.Parts.{called, definable, define, defined, next_name, pass, take_part, take_step}
use Rattle.bst_parse.specs.PlacesStand.{BodyStands, IsOfByte, PlacesStand}
use Rattle.bst_parse.specs.Progress.{Progress}
use Rattle.bst_parse.specs.Reading.{is_idle, opening_progress, reading, style_of, take_lexeme, take_outside, take_within}
use Rattle.bst_parse.specs.Tokens.{take_token, used, with_token}
use Rattle.bst_parse.specs.Words.{begin_named, begun, order_fault, take_word, with_declaration}
use Rattle.bst_parse.proofs.Lists.{each_push}
use Rattle.bst_parse.specs.declared.fault.StyleFault.{StyleFault}
use Rattle.bst_parse.specs.declared.grammar.Caller.{Caller}
use Rattle.bst_parse.specs.declared.grammar.Part.{Part}
use Rattle.bst_parse.specs.declared.grammar.Part.TheVariants.{Body as BodyPart, Close, FunctionName, MacroName, MacroText, Names, Open, Target}
use Rattle.bst_parse.specs.declared.grammar.Word.{Word}
use Rattle.bv_base.proofs.ThenLemmas.{then_any, then_holds}

either_stands : {A : Type 0} (Q : A → Type 0) (t : Bool) (r s : Result A StyleFault) → IfOk r Q → IfOk s Q → IfOk (cond t r s) Q
either_stands Q true r s h g = h
either_stands Q false r s h g = g

each_changed : {X : Type 0} (P : X → Type 0) (f : X → X) → ((x : X) → P x → P (f x)) → (k : ℕ) (xs : List X) → Each P xs
    → Each P (changed_at k f xs)
each_changed P f keeps k [] each = tt
each_changed P f keeps zero (x ∷ xs) each = (keeps x each.0, each.1)
each_changed P f keeps (suc k) (x ∷ xs) each = (each.0, each_changed P f keeps k xs each.1)

-- the commands and bodies so far, and the command whose parts are to come
pub record Begun (source : List ℕ) (p : Progress) : Type 0 where
  pub commands : Each (λ command. IsOfByte source command.place) p.commands
  pub bodies : Each (BodyStands source) p.bodies
  pub place : IsOfByte source p.place

-- where parts are to come, a command began at a byte
abbrev pub Waits : List ℕ → List Part → Place → Type 0
Waits source [] place = Unit {0}
Waits source (part ∷ parts) place = IsOfByte source place

waits : (source : List ℕ) (parts : List Part) (place : Place) → IsOfByte source place → Waits source parts place
waits source [] place is = tt
waits source (part ∷ parts) place is = is

-- the commands and bodies so far
pub record Stands (source : List ℕ) (p : Progress) : Type 0 where
  pub commands : Each (λ command. IsOfByte source command.place) p.commands
  pub bodies : Each (BodyStands source) p.bodies
  pub place : Waits source p.parts p.place

stands_of : (source : List ℕ) (parts : List Part) (p : Progress) → Begun source p → Stands source (record p { parts = parts })
stands_of source parts p b = record { commands = b.commands; bodies = b.bodies; place = waits source parts p.place b.place }

define_stands : (source : List ℕ) (kind : Kind) (shape : Shape) (place : Place) (text : List ℕ) (p : Progress) → Begun source p
    → IfOk (define kind shape place text p) (Begun source)
define_stands source kind shape place text p b =
    then_any (Begun source) (definable shape place text) _
    (λ name. then_any (Begun source) (defined name kind place p.names) _
    (λ names. record { commands = b.commands; bodies = b.bodies; place = b.place }))

-- a command that its word's place stands for
and_command : (source : List ℕ) (command : Command) (p : Progress) → Begun source p
    → Begun source (record p { commands = p.commands ++ record { command = command; place = p.place } ∷ [] })
and_command source command p b =
    record {
      commands = each_push (λ (c : CommandAt). IsOfByte source c.place) p.commands (record { command = command; place = p.place }) b.commands b.place;
      bodies = b.bodies;
      place = b.place;
    }

called_stands : (source : List ℕ) (caller : Caller) (found : Option NameId) (place : Place) (p : Progress) → Begun source p
    → IfOk (called caller found place p) (Begun source)
called_stands source caller None place p b = tt
called_stands source caller (Some id) place p b =
    either_stands (Begun source) (is_callable (kind_at id p.names)) _ _ (and_command source (call_of caller id) p b) tt

body_stands : (source : List ℕ) (place : Place) → IsOfByte source place → (block : Option ℕ)
    → BodyStands source (record { tokens = []; block = block; place = place })
body_stands source place at block = record { place = at; tokens = tt }

step_stands : (source : List ℕ) (part : Part) (shape : Shape) (place : Place) (text : List ℕ) (p : Progress) → Begun source p
    → IsOfByte source place → IfOk (take_step part shape place text p) (Begun source)
step_stands source Open OpenBrace place text p b at = b
step_stands source Close CloseBrace place text p b at = b
step_stands source (Names kind) shape place text p b at = define_stands source kind shape place text p b
step_stands source (Target caller) Name place text p b at = called_stands source caller (id_of (lowered text) p.names) place p b
step_stands source FunctionName shape place text p b at =
    then_holds (Begun source) (Begun source) (define (Wizard (next_body p.bodies)) shape place text p) _
    (define_stands source (Wizard (next_body p.bodies)) shape place text p b)
    (λ q after.
    record {
      commands =
          each_push (λ (c : CommandAt). IsOfByte source c.place) p.commands
          (record { command = command.Function (next_name p.names); place = p.place }) b.commands b.place;
      bodies = after.bodies;
      place = after.place;
    })
step_stands source BodyPart OpenBrace place text p b at =
    either_stands (Begun source) (nat_le 65536 (length p.bodies)) _ _ tt
    (record {
      commands = b.commands;
      bodies = each_push (BodyStands source) p.bodies (record { tokens = []; block = None; place = place }) b.bodies (body_stands source place at None);
      place = b.place;
    })
step_stands source BodyPart _ place text p b at = tt
step_stands source MacroName shape place text p b at =
    then_any (Begun source) (definable shape place text) _
    (λ name. either_stands (Begun source) (has_macro name p.macros) _ _ tt
    (record { commands = b.commands; bodies = b.bodies; place = b.place }))
step_stands source MacroText Text place text p b at = record { commands = b.commands; bodies = b.bodies; place = b.place }
step_stands source MacroText _ place text p b at = tt
step_stands source _ _ place text p b at = tt

-- after a part that is done with one lexeme
passed : (source : List ℕ) (part : Part) (rest : List Part) (shape : Shape) (place : Place) (text : List ℕ) (p : Progress)
    → Begun source p → IsOfByte source place → IfOk (then_do (take_step part shape place text p) (pass rest)) (Stands source)
passed source part rest shape place text p b at =
    then_holds (Begun source) (Stands source) (take_step part shape place text p) (pass rest)
    (step_stands source part shape place text p b at) (λ q after. stands_of source rest q after)

name_stands : (source : List ℕ) (kind : Kind) (shape : Shape) (place : Place) (text : List ℕ) (p : Progress) → Begun source p
    → IfOk (define kind shape place text p) (Stands source)
name_stands source kind shape place text p b =
    by (define kind shape place text p) (define_stands source kind shape place text p b)
  where
    by : (r : Result Progress StyleFault) → IfOk r (Begun source) → IfOk r (Stands source)
    by (Ok q) after = stands_of source q.parts q after
    by (Err fault) after = tt

part_stands : (source : List ℕ) (part : Part) (rest : List Part) (shape : Shape) (place : Place) (text : List ℕ) (p : Progress)
    → Begun source p → IsOfByte source place → IfOk (take_part part rest shape place text p) (Stands source)
part_stands source (Names kind) rest CloseBrace place text p b at = stands_of source rest p b
part_stands source (Names kind) rest OpenBrace place text p b at = name_stands source kind OpenBrace place text p b
part_stands source (Names kind) rest (Integer n) place text p b at = name_stands source kind (Integer n) place text p b
part_stands source (Names kind) rest Text place text p b at = name_stands source kind Text place text p b
part_stands source (Names kind) rest Quoted place text p b at = name_stands source kind Quoted place text p b
part_stands source (Names kind) rest Name place text p b at = name_stands source kind Name place text p b
part_stands source Open rest shape place text p b at = passed source Open rest shape place text p b at
part_stands source Close rest shape place text p b at = passed source Close rest shape place text p b at
part_stands source (Target caller) rest shape place text p b at = passed source (Target caller) rest shape place text p b at
part_stands source FunctionName rest shape place text p b at = passed source FunctionName rest shape place text p b at
part_stands source BodyPart rest shape place text p b at = passed source BodyPart rest shape place text p b at
part_stands source MacroName rest shape place text p b at = passed source MacroName rest shape place text p b at
part_stands source MacroText rest shape place text p b at = passed source MacroText rest shape place text p b at

declared_stands : (source : List ℕ) (found : Option Command) (place : Place) (commands : List CommandAt) → IsOfByte source place
    → Each (λ command. IsOfByte source command.place) commands
    → Each (λ command. IsOfByte source command.place) (with_declaration found place commands)
declared_stands source None place commands at each = each
declared_stands source (Some command) place commands at each =
    each_push (λ (c : CommandAt). IsOfByte source c.place) commands (record { command = command; place = place }) each at

begin_stands : (source : List ℕ) (found : Option Word) (place : Place) (p : Progress) → Stands source p → IsOfByte source place
    → IfOk (begin_named found place p) (Stands source)
begin_stands source None place p s at = tt
begin_stands source (Some word) place p s at = by (order_fault word place p)
  where
    by : (o : Option StyleFault) → IfOk (option_map_or Err o (Ok (begun word place p))) (Stands source)
    by (Some fault) = tt
    by None =
        record {
          commands = declared_stands source (declaration_of word) place p.commands at s.commands;
          bodies = s.bodies;
          place = waits source (parts_of word) place at;
        }

word_stands : (source : List ℕ) (shape : Shape) (place : Place) (text : List ℕ) (p : Progress) → Stands source p → IsOfByte source place
    → IfOk (take_word shape place text p) (Stands source)
word_stands source Name place text p s at = begin_stands source (word_of (lowered text)) place p s at
word_stands source _ place text p s at = tt

-- the bodies after a token at the end of one
token_stands : (source : List ℕ) (inside : BodyId) (token : Token) (place : Place) (bodies : List Body) → Each (BodyStands source) bodies
    → IsOfByte source place → Each (BodyStands source) (token_added inside (record { token = token; place = place }) bodies)
token_stands source inside token place bodies each at =
    each_changed (BodyStands source) (λ (body : Body). record body { tokens = body.tokens ++ record { token = token; place = place } ∷ [] })
    (λ body is.
    record {
      place = is.place;
      tokens = each_push (λ (t : TokenAt). IsOfByte source t.place) body.tokens (record { token = token; place = place }) is.tokens at;
    })
    inside.0 bodies each

with_stands : (source : List ℕ) (inside : BodyId) (token : Token) (place : Place) (p : Progress) → Stands source p → IsOfByte source place
    → Stands source (with_token inside token place p)
with_stands source inside token place p s at =
    record { commands = s.commands; bodies = token_stands source inside token place p.bodies s.bodies at; place = s.place }

within_stands : (source : List ℕ) (inside : BodyId) (shape : Shape) (l : Seen) (p : Progress) → Stands source p
    → IsOfByte source l.place → IfOk (take_token source inside shape l p) (Stands source)
within_stands source inside OpenBrace l p s at =
    either_stands (Stands source) (nat_le 257 (length p.opened)) _ _ tt
    (either_stands (Stands source) (nat_le 65536 (length p.bodies)) _ _ tt
    (record {
      commands = s.commands;
      bodies =
          each_push (BodyStands source) (token_added inside (record { token = Block (next_body p.bodies); place = l.place }) p.bodies)
          (record { tokens = []; block = Some (block_count p.bodies); place = l.place })
          (token_stands source inside (Block (next_body p.bodies)) l.place p.bodies s.bodies at)
          (body_stands source l.place at (Some (block_count p.bodies)));
      place = s.place;
    }))
within_stands source inside CloseBrace l p s at = record { commands = s.commands; bodies = s.bodies; place = s.place }
within_stands source inside (Integer n) l p s at = with_stands source inside (Int n) l.place p s at
within_stands source inside Text l p s at =
    record {
      commands = s.commands;
      bodies = token_stands source inside (Str (record { 0 = length p.texts })) l.place p.bodies s.bodies at;
      place = s.place;
    }
within_stands source inside Quoted l p s at =
    then_any (Stands source) (used source l (drop 1 l.text) p) _ (λ id. with_stands source inside (Quote id) l.place p s at)
within_stands source inside Name l p s at =
    then_any (Stands source) (used source l l.text p) _ (λ id. with_stands source inside (Call id) l.place p s at)

outside_stands : (source : List ℕ) (parts : List Part) (l : Seen) (p : Progress) → p.parts ≡ parts → Stands source p
    → IsOfByte source l.place → IfOk (take_outside parts l p) (Stands source)
outside_stands source [] l p is s at = word_stands source l.shape l.place l.text p s at
outside_stands source (part ∷ rest) l p is s at =
    part_stands source part rest l.shape l.place l.text p
    (record { commands = s.commands; bodies = s.bodies; place = subst (λ (parts : List Part). Waits source parts p.place) is s.place })
    at

lexeme_stands : (source : List ℕ) (inside : Option BodyId) (l : Seen) (p : Progress) → Stands source p → IsOfByte source l.place
    → IfOk (take_within inside source l p) (Stands source)
lexeme_stands source None l p s at = outside_stands source p.parts l p refl s at
lexeme_stands source (Some inside) l p s at = within_stands source inside l.shape l p s at

-- the lexemes that are left, in their order
reading_stands : (source : List ℕ) (from : ℕ) (lexemes : List Seen) (fault : Option LexFault) (p : Progress) → InOrder source from lexemes
    → Stands source p → IfOk (reading source lexemes fault p) (PlacesStand source)
reading_stands source from [] (Some fault) p order s = tt
reading_stands source from [] None p order s =
    either_stands (PlacesStand source) (is_idle p) _ _ (record { commands = s.commands; bodies = s.bodies }) tt
reading_stands source from (l ∷ rest) fault p order s =
    let next : IsNext source from l = order.0 in
    then_holds (Stands source) (PlacesStand source) (take_lexeme source l p) (reading source rest fault)
    (lexeme_stands source (innermost p.opened) l p s (l.start, omega (arith, next.some, next.within), next.place_is))
    (λ q after. reading_stands source (l.start + length l.text) rest fault q order.1 after)

pub places_stand : (source : List ℕ) (style : Style) → InOrder source 0 (lexed source).left → style_of source ≡ Ok style
    → PlacesStand source style
places_stand source style order e =
    subst (λ (r : Result Style StyleFault). IfOk r (PlacesStand source)) e
    (reading_stands source 0 (lexed source).left (lexed source).fault opening_progress order
    (record { commands = tt; bodies = tt; place = tt }))
