-- Reading the spelling of commands is keeping the rules along their trees.
use Rattle.std.proofs.Common.{◌≡◌, ℕ, List, [], ◌∷◌, ◌++◌, append_assoc, Option, None, Some, Result, Ok, Err, drop, refl, sym, ap, subst, ◌∙◌}
use Rattle.name_table.specs.declared.names.Kind.{Kind}
use Rattle.name_table.specs.declared.style.BodyId.{BodyId}
use Rattle.name_table.specs.Names.{lowered}
use Rattle.name_table.specs.Sound.{Each}
use Rattle.bst_lex.specs.declared.lexeme.LexFault.{LexFault}
use Rattle.bst_lex.specs.declared.lexeme.Shape.{Shape}
use Rattle.bst_lex.specs.declared.lexeme.Shape.TheVariants.{CloseBrace, Name}
use Rattle.bst_lex.specs.Lexemes.{Seen}
use Rattle.bst_parse.specs.declared.fault.StyleFault.{StyleFault}
use Rattle.bst_parse.specs.declared.grammar.Part.{Part}
use Rattle.bst_parse.specs.declared.grammar.Part.TheVariants.{Open, Close, Names, Target, FunctionName, Body, MacroName, MacroText}
use Rattle.bst_parse.specs.declared.grammar.Word.{Word}
use Rattle.bst_parse.specs.Bodies.{innermost, next_body}
use Rattle.bst_parse.specs.Commands.{word_of, parts_of}
use Rattle.bst_parse.specs.Grammar.{Tokens, End, Leaf, Block, PartTree, One, Several, Braced, Tree, spelled_tokens, spelled_part, spelled_parts, spelled, AreTokens, IsPart, AreParts, IsCommand, hold_tokens, hold_names, hold_part, hold_parts, hold_commands}
use Rattle.bst_parse.specs.Parts.{take_open, take_close, take_function_name, take_target, take_macro_name, take_macro_text, take_body, pass, take_part}
use Rattle.bv_base.specs.Answers.{then_do}
use Rattle.bst_parse.specs.Progress.{Progress}
use Rattle.bst_parse.specs.Reading.{take_outside, take_within, take_lexeme, reading}
use Rattle.bst_parse.specs.Tokens.{take_token, begin_block}
use Rattle.bst_parse.specs.Words.{take_word}
use Rattle.bst_parse.proofs.Kept.{Kept, open_kept, close_kept, define_kept, function_kept, target_kept, macro_name_kept, macro_text_kept, body_kept, block_kept, leaf_kept, word_kept}
use Rattle.bv_base.proofs.ThenLemmas.{ok, ok_is, then_ok}

-- after a part, the rest of the parts are to come and no body is open
record Passed (rest : List Part) (q : Progress) : Type 0 where
  parts : q.parts ≡ rest
  opened : q.opened ≡ []

-- one of two steps at a time
in_steps : {A B C : Type 0} (r : Result A StyleFault) (f : A → Result B StyleFault) (g : B → Result C StyleFault) (h : A → Result C StyleFault)
    → ((a : A) → r ≡ Ok a → h a ≡ then_do (f a) g) → then_do r h ≡ then_do (then_do r f) g
in_steps (Ok a) f g h same = same a refl
in_steps (Err fault) f g h same = refl

-- the tokens of a body leave the parts to come and the open bodies
tokens_kept : (source : List ℕ) (inside : BodyId) (t : Tokens) (p q : Progress) → AreTokens t → hold_tokens source inside t p ≡ Ok q → Kept p q
tokens_kept source inside End p q fine e =
    let same = ok_is p q e in
    record { parts = ap (λ (x : Progress). x.parts) same; opened = ap (λ (x : Progress). x.opened) same }
tokens_kept source inside (Leaf l rest) p q fine e =
    let a = then_ok (take_token source inside l.shape l p) (hold_tokens source inside rest) q e in
    let k = leaf_kept source inside l.shape l p a.0 fine.0 a.1 in
    let m = tokens_kept source inside rest a.0 q fine.1 a.2 in
    record { parts = m.parts ∙ k.parts; opened = m.opened ∙ k.opened }
tokens_kept source inside (Block opens inner closes rest) p q fine e =
    let a = then_ok (begin_block inside opens.place p) _ q e in
    let k = block_kept inside opens.place p a.0 a.1 in
    let b = then_ok (hold_tokens source (next_body p.bodies) inner a.0) (λ (n : Progress). hold_tokens source inside rest (record n { opened = drop 1 n.opened })) q a.2 in
    let i = tokens_kept source (next_body p.bodies) inner a.0 b.0 fine.1 b.1 in
    let m = tokens_kept source inside rest (record (b.0) { opened = drop 1 (b.0).opened }) q fine.3 b.2 in
    record {
      parts = m.parts ∙ i.parts ∙ k.parts;
      opened = m.opened ∙ ap (λ (o : List BodyId). drop 1 o) (i.opened ∙ k.opened);
    }

in_body : (source : List ℕ) (inside : BodyId) (outer : List BodyId) (l : Seen) (p : Progress) → p.opened ≡ inside ∷ outer
    → take_lexeme source l p ≡ take_token source inside l.shape l p
in_body source inside outer l p opened = ap (λ (o : List BodyId). take_within (innermost o) source l p) opened

tokens_held : (source : List ℕ) (inside : BodyId) (outer : List BodyId) (t : Tokens) (left : List Seen) (fault : Option LexFault) (p : Progress)
    → AreTokens t → p.opened ≡ inside ∷ outer
    → reading source (spelled_tokens t ++ left) fault p ≡ then_do (hold_tokens source inside t p) (reading source left fault)
tokens_held source inside outer End left fault p fine opened = refl
tokens_held source inside outer (Leaf l rest) left fault p fine opened =
    ap (λ (r : Result Progress StyleFault). then_do r (reading source (spelled_tokens rest ++ left) fault)) (in_body source inside outer l p opened)
    ∙ in_steps (take_token source inside l.shape l p) (hold_tokens source inside rest) (reading source left fault) (reading source (spelled_tokens rest ++ left) fault)
    (λ m e. tokens_held source inside outer rest left fault m fine.1 ((leaf_kept source inside l.shape l p m fine.0 e).opened ∙ opened))
tokens_held source inside outer (Block opens inner closes rest) left fault p fine opened =
    ap (λ (r : Result Progress StyleFault). then_do r (reading source ((spelled_tokens inner ++ (closes ∷ spelled_tokens rest)) ++ left) fault))
    (in_body source inside outer opens p opened ∙ ap (λ (s : Shape). take_token source inside s opens p) fine.0)
    ∙ in_steps (begin_block inside opens.place p)
    (λ (m : Progress). then_do (hold_tokens source (next_body p.bodies) inner m) (λ (n : Progress). hold_tokens source inside rest (record n { opened = drop 1 n.opened })))
    (reading source left fault) (reading source ((spelled_tokens inner ++ (closes ∷ spelled_tokens rest)) ++ left) fault)
    (λ m e.
    let k = block_kept inside opens.place p m e in
    ap (λ (ls : List Seen). reading source ls fault m) (append_assoc (spelled_tokens inner) (closes ∷ spelled_tokens rest) left)
    ∙ tokens_held source (next_body p.bodies) p.opened inner (closes ∷ (spelled_tokens rest ++ left)) fault m fine.1 k.opened
    ∙ in_steps (hold_tokens source (next_body p.bodies) inner m) (λ (n : Progress). hold_tokens source inside rest (record n { opened = drop 1 n.opened }))
    (reading source left fault) (reading source (closes ∷ (spelled_tokens rest ++ left)) fault)
    (λ n f.
    let i = tokens_kept source (next_body p.bodies) inner m n fine.1 f in
    ap (λ (r : Result Progress StyleFault). then_do r (reading source (spelled_tokens rest ++ left) fault))
    (in_body source (next_body p.bodies) p.opened closes n (i.opened ∙ k.opened) ∙ ap (λ (s : Shape). take_token source (next_body p.bodies) s closes n) fine.2)
    ∙ tokens_held source inside outer rest left fault (record n { opened = drop 1 n.opened }) fine.3
    (ap (λ (o : List BodyId). drop 1 o) (i.opened ∙ k.opened) ∙ opened)))

-- a lexeme of a part
in_part : (source : List ℕ) (part : Part) (rest : List Part) (l : Seen) (p : Progress) → p.parts ≡ part ∷ rest → p.opened ≡ []
    → take_lexeme source l p ≡ take_part part rest l.shape l.place l.text p
in_part source part rest l p parts opened =
    ap (λ (o : List BodyId). take_within (innermost o) source l p) opened ∙ ap (λ (ps : List Part). take_outside ps l p) parts

name_kept : (kind : Kind) (rest : List Part) (l : Seen) (p m : Progress) → l.shape ≡ Name
    → take_part (Names kind) rest l.shape l.place l.text p ≡ Ok m → Kept p m
name_kept kind rest l p m is e =
    (define_kept kind Name l.place l.text p m (ap (λ (s : Shape). take_part (Names kind) rest s l.place l.text p) (sym is) ∙ e)).1

names_held : (source : List ℕ) (kind : Kind) (rest : List Part) (names : List Seen) (left : List Seen) (fault : Option LexFault) (p : Progress)
    → Each (λ name. name.shape ≡ Name) names → p.parts ≡ Names kind ∷ rest → p.opened ≡ []
    → reading source (names ++ left) fault p ≡ then_do (hold_names (Names kind) rest names p) (reading source left fault)
names_held source kind rest [] left fault p fine parts opened = refl
names_held source kind rest (l ∷ names) left fault p fine parts opened =
    ap (λ (r : Result Progress StyleFault). then_do r (reading source (names ++ left) fault)) (in_part source (Names kind) rest l p parts opened)
    ∙ in_steps (take_part (Names kind) rest l.shape l.place l.text p) (hold_names (Names kind) rest names) (reading source left fault) (reading source (names ++ left) fault)
    (λ m e.
    let k = name_kept kind rest l p m fine.0 e in
    names_held source kind rest names left fault m fine.1 (k.parts ∙ parts) (k.opened ∙ opened))

names_kept : (kind : Kind) (rest : List Part) (names : List Seen) (p q : Progress) → Each (λ name. name.shape ≡ Name) names
    → hold_names (Names kind) rest names p ≡ Ok q → Kept p q
names_kept kind rest [] p q fine e =
    let same = ok_is p q e in
    record { parts = ap (λ (x : Progress). x.parts) same; opened = ap (λ (x : Progress). x.opened) same }
names_kept kind rest (l ∷ names) p q fine e =
    let a = then_ok (take_part (Names kind) rest l.shape l.place l.text p) (hold_names (Names kind) rest names) q e in
    let k = name_kept kind rest l p a.0 fine.0 a.1 in
    let m = names_kept kind rest names a.0 q fine.1 a.2 in
    record { parts = m.parts ∙ k.parts; opened = m.opened ∙ k.opened }

-- a part of one lexeme is done with it
one_passed : (part : Part) (rest : List Part) (l : Seen) (p q : Progress) (r : Result Progress StyleFault) → p.opened ≡ []
    → then_do r (pass rest) ≡ Ok q → ((m : Progress) → r ≡ Ok m → IsPart part (One l) × Kept p m) → Passed rest q
one_passed part rest l p q r opened e kept =
    let a = then_ok r (pass rest) q e in
    let k = kept a.0 a.1 in
    let same = ok_is (record (a.0) { parts = rest }) q a.2 in
    record { parts = ap (λ (x : Progress). x.parts) same; opened = ap (λ (x : Progress). x.opened) same ∙ (k.1).opened ∙ opened }

closed_passed : (kind : Kind) (rest : List Part) (l : Seen) (p q : Progress) → l.shape ≡ CloseBrace → p.opened ≡ []
    → take_part (Names kind) rest l.shape l.place l.text p ≡ Ok q → Passed rest q
closed_passed kind rest l p q is opened e =
    let same = ok_is (record p { parts = rest }) q (ap (λ (s : Shape). take_part (Names kind) rest s l.place l.text p) (sym is) ∙ e) in
    record { parts = ap (λ (x : Progress). x.parts) same; opened = ap (λ (x : Progress). x.opened) same ∙ opened }

-- the body of a function is open after its brace
record InBody (rest : List Part) (p m : Progress) : Type 0 where
  parts : m.parts ≡ rest
  opened : m.opened ≡ next_body p.bodies ∷ []

body_open : (rest : List Part) (l : Seen) (p m : Progress) → p.opened ≡ [] → take_part Body rest l.shape l.place l.text p ≡ Ok m
    → InBody rest p m
body_open rest l p m opened e =
    let a = then_ok (take_body l.shape l.place p) (pass rest) m e in
    let k = body_kept l.shape l.place p a.0 a.1 in
    let same = ok_is (record (a.0) { parts = rest }) m a.2 in
    record {
      parts = ap (λ (x : Progress). x.parts) same;
      opened = ap (λ (x : Progress). x.opened) same ∙ (k.1).opened ∙ ap (λ (o : List BodyId). next_body p.bodies ∷ o) opened;
    }

part_passed : (source : List ℕ) (part : Part) (rest : List Part) (tree : PartTree) (p q : Progress) → IsPart part tree → p.opened ≡ []
    → hold_part source part rest tree p ≡ Ok q → Passed rest q
part_passed source Open rest (One l) p q fine opened e = one_passed Open rest l p q (take_open l.shape l.place p) opened e (λ m. open_kept l.shape l.place p m)
part_passed source Close rest (One l) p q fine opened e = one_passed Close rest l p q (take_close l.shape l.place p) opened e (λ m. close_kept l.shape l.place p m)
part_passed source (Target c) rest (One l) p q fine opened e = one_passed (Target c) rest l p q (take_target c l.shape l.place l.text p) opened e (λ m. target_kept c l.shape l.place l.text p m)
part_passed source FunctionName rest (One l) p q fine opened e = one_passed FunctionName rest l p q (take_function_name l.shape l.place l.text p) opened e (λ m. function_kept l.shape l.place l.text p m)
part_passed source MacroName rest (One l) p q fine opened e = one_passed MacroName rest l p q (take_macro_name l.shape l.place l.text p) opened e (λ m. macro_name_kept l.shape l.place l.text p m)
part_passed source MacroText rest (One l) p q fine opened e = one_passed MacroText rest l p q (take_macro_text l.shape l.place l.text p) opened e (λ m. macro_text_kept l.shape l.place l.text p m)
part_passed source (Names kind) rest (Several names closes) p q fine opened e =
    let a = then_ok (hold_names (Names kind) rest names p) (take_part (Names kind) rest closes.shape closes.place closes.text) q e in
    let k = names_kept kind rest names p a.0 fine.0 a.1 in
    closed_passed kind rest closes a.0 q fine.1 (k.opened ∙ opened) a.2
part_passed source Body rest (Braced opens tokens closes) p q fine opened e =
    let a = then_ok (take_part Body rest opens.shape opens.place opens.text p) _ q e in
    let b = body_open rest opens p a.0 opened a.1 in
    let c = then_ok (hold_tokens source (next_body p.bodies) tokens a.0) (λ (n : Progress). ok (record n { opened = drop 1 n.opened })) q a.2 in
    let k = tokens_kept source (next_body p.bodies) tokens a.0 c.0 fine.1 c.1 in
    let same = ok_is (record (c.0) { opened = drop 1 (c.0).opened }) q c.2 in
    record {
      parts = ap (λ (x : Progress). x.parts) same ∙ k.parts ∙ b.parts;
      opened = ap (λ (x : Progress). x.opened) same ∙ ap (λ (o : List BodyId). drop 1 o) (k.opened ∙ b.opened);
    }
part_passed source Open rest (Several names closes) p q fine opened e = absurd fine
part_passed source Open rest (Braced opens tokens closes) p q fine opened e = absurd fine
part_passed source Close rest (Several names closes) p q fine opened e = absurd fine
part_passed source Close rest (Braced opens tokens closes) p q fine opened e = absurd fine
part_passed source (Target c) rest (Several names closes) p q fine opened e = absurd fine
part_passed source (Target c) rest (Braced opens tokens closes) p q fine opened e = absurd fine
part_passed source FunctionName rest (Several names closes) p q fine opened e = absurd fine
part_passed source FunctionName rest (Braced opens tokens closes) p q fine opened e = absurd fine
part_passed source MacroName rest (Several names closes) p q fine opened e = absurd fine
part_passed source MacroName rest (Braced opens tokens closes) p q fine opened e = absurd fine
part_passed source MacroText rest (Several names closes) p q fine opened e = absurd fine
part_passed source MacroText rest (Braced opens tokens closes) p q fine opened e = absurd fine
part_passed source (Names kind) rest (One l) p q fine opened e = absurd fine
part_passed source (Names kind) rest (Braced opens tokens closes) p q fine opened e = absurd fine
part_passed source Body rest (One l) p q fine opened e = absurd fine
part_passed source Body rest (Several names closes) p q fine opened e = absurd fine

-- a part
one_held : (source : List ℕ) (part : Part) (rest : List Part) (l : Seen) (left : List Seen) (fault : Option LexFault) (p : Progress)
    → p.parts ≡ part ∷ rest → p.opened ≡ []
    → reading source (l ∷ left) fault p ≡ then_do (take_part part rest l.shape l.place l.text p) (reading source left fault)
one_held source part rest l left fault p parts opened =
    ap (λ (r : Result Progress StyleFault). then_do r (reading source left fault)) (in_part source part rest l p parts opened)

part_held : (source : List ℕ) (part : Part) (rest : List Part) (tree : PartTree) (left : List Seen) (fault : Option LexFault) (p : Progress)
    → IsPart part tree → p.parts ≡ part ∷ rest → p.opened ≡ []
    → reading source (spelled_part tree ++ left) fault p ≡ then_do (hold_part source part rest tree p) (reading source left fault)
part_held source part rest (One l) left fault p fine parts opened = one_held source part rest l left fault p parts opened
part_held source (Names kind) rest (Several names closes) left fault p fine parts opened =
    ap (λ (ls : List Seen). reading source ls fault p) (append_assoc names (closes ∷ []) left)
    ∙ names_held source kind rest names (closes ∷ left) fault p fine.0 parts opened
    ∙ in_steps (hold_names (Names kind) rest names p) (take_part (Names kind) rest closes.shape closes.place closes.text) (reading source left fault) (reading source (closes ∷ left) fault)
    (λ m e.
    let k = names_kept kind rest names p m fine.0 e in
    one_held source (Names kind) rest closes left fault m (k.parts ∙ parts) (k.opened ∙ opened))
part_held source Body rest (Braced opens tokens closes) left fault p fine parts opened =
    ap (λ (r : Result Progress StyleFault). then_do r (reading source ((spelled_tokens tokens ++ closes ∷ []) ++ left) fault)) (in_part source Body rest opens p parts opened)
    ∙ in_steps (take_part Body rest opens.shape opens.place opens.text p)
    (λ (m : Progress). then_do (hold_tokens source (next_body p.bodies) tokens m) (λ (n : Progress). ok (record n { opened = drop 1 n.opened })))
    (reading source left fault) (reading source ((spelled_tokens tokens ++ closes ∷ []) ++ left) fault)
    (λ m e.
    let b = body_open rest opens p m opened e in
    ap (λ (ls : List Seen). reading source ls fault m) (append_assoc (spelled_tokens tokens) (closes ∷ []) left)
    ∙ tokens_held source (next_body p.bodies) [] tokens (closes ∷ left) fault m fine.1 b.opened
    ∙ in_steps (hold_tokens source (next_body p.bodies) tokens m) (λ (n : Progress). ok (record n { opened = drop 1 n.opened }))
    (reading source left fault) (reading source (closes ∷ left) fault)
    (λ n f.
    let k = tokens_kept source (next_body p.bodies) tokens m n fine.1 f in
    ap (λ (r : Result Progress StyleFault). then_do r (reading source left fault))
    (in_body source (next_body p.bodies) [] closes n (k.opened ∙ b.opened) ∙ ap (λ (s : Shape). take_token source (next_body p.bodies) s closes n) fine.2)))
part_held source Open rest (Several names closes) left fault p fine parts opened = absurd fine
part_held source Open rest (Braced opens tokens closes) left fault p fine parts opened = absurd fine
part_held source Close rest (Several names closes) left fault p fine parts opened = absurd fine
part_held source Close rest (Braced opens tokens closes) left fault p fine parts opened = absurd fine
part_held source (Target c) rest (Several names closes) left fault p fine parts opened = absurd fine
part_held source (Target c) rest (Braced opens tokens closes) left fault p fine parts opened = absurd fine
part_held source FunctionName rest (Several names closes) left fault p fine parts opened = absurd fine
part_held source FunctionName rest (Braced opens tokens closes) left fault p fine parts opened = absurd fine
part_held source MacroName rest (Several names closes) left fault p fine parts opened = absurd fine
part_held source MacroName rest (Braced opens tokens closes) left fault p fine parts opened = absurd fine
part_held source MacroText rest (Several names closes) left fault p fine parts opened = absurd fine
part_held source MacroText rest (Braced opens tokens closes) left fault p fine parts opened = absurd fine
part_held source (Names kind) rest (Braced opens tokens closes) left fault p fine parts opened = absurd fine
part_held source Body rest (Several names closes) left fault p fine parts opened = absurd fine

-- the parts of a command
parts_held : (source : List ℕ) (parts : List Part) (trees : List PartTree) (left : List Seen) (fault : Option LexFault) (p : Progress)
    → AreParts parts trees → p.parts ≡ parts → p.opened ≡ []
    → reading source (spelled_parts trees ++ left) fault p ≡ then_do (hold_parts source parts trees p) (reading source left fault)
parts_held source [] [] left fault p fine is opened = refl
parts_held source [] (tree ∷ trees) left fault p fine is opened = absurd fine
parts_held source (part ∷ parts) [] left fault p fine is opened = absurd fine
parts_held source (part ∷ parts) (tree ∷ trees) left fault p fine is opened =
    ap (λ (ls : List Seen). reading source ls fault p) (append_assoc (spelled_part tree) (spelled_parts trees) left)
    ∙ part_held source part parts tree (spelled_parts trees ++ left) fault p fine.0 is opened
    ∙ in_steps (hold_part source part parts tree p) (hold_parts source parts trees) (reading source left fault) (reading source (spelled_parts trees ++ left) fault)
    (λ m e.
    let k = part_passed source part parts tree p m fine.0 opened e in
    parts_held source parts trees left fault m fine.1 k.parts k.opened)

parts_passed : (source : List ℕ) (parts : List Part) (trees : List PartTree) (p q : Progress) → AreParts parts trees → p.parts ≡ parts
    → p.opened ≡ [] → hold_parts source parts trees p ≡ Ok q → Passed [] q
parts_passed source [] [] p q fine is opened e =
    let same = ok_is p q e in
    record { parts = ap (λ (x : Progress). x.parts) same ∙ is; opened = ap (λ (x : Progress). x.opened) same ∙ opened }
parts_passed source [] (tree ∷ trees) p q fine is opened e = absurd fine
parts_passed source (part ∷ parts) [] p q fine is opened e = absurd fine
parts_passed source (part ∷ parts) (tree ∷ trees) p q fine is opened e =
    let a = then_ok (hold_part source part parts tree p) (hold_parts source parts trees) q e in
    let k = part_passed source part parts tree p a.0 fine.0 opened a.1 in
    parts_passed source parts trees a.0 q fine.1 k.parts k.opened a.2

same_word : (o : Option Word) (v w : Word) → o ≡ Some v → o ≡ Some w → v ≡ w
same_word o v w e f = cc

then_same : {A B : Type 0} (r : Result A StyleFault) (f g : A → Result B StyleFault) → ((a : A) → r ≡ Ok a → f a ≡ g a)
    → then_do r f ≡ then_do r g
then_same (Ok a) f g same = same a refl
then_same (Err fault) f g same = refl

command_held : (source : List ℕ) (tree : Tree) (trees : List Tree) (p m : Progress) → IsCommand tree → p.opened ≡ []
    → take_word tree.word.shape tree.word.place tree.word.text p ≡ Ok m
    → ((q : Progress) → q.parts ≡ [] → q.opened ≡ [] → reading source (spelled trees) None q ≡ hold_commands source trees q)
    → reading source (spelled_parts tree.parts ++ spelled trees) None m
    ≡ then_do (hold_parts source m.parts tree.parts m) (hold_commands source trees)
command_held source tree trees p m fine opened e more =
    let k = (word_kept tree.word.shape tree.word.place tree.word.text p m e).1 in
    let same = same_word (word_of (lowered tree.word.text)) fine.0 k.word fine.2 k.is in
    let are : AreParts m.parts tree.parts = subst (λ (ps : List Part). AreParts ps tree.parts) (ap parts_of same ∙ sym k.parts) fine.3 in
    parts_held source m.parts tree.parts (spelled trees) None m are refl (k.opened ∙ opened)
    ∙ then_same (hold_parts source m.parts tree.parts m) (reading source (spelled trees) None) (hold_commands source trees)
    (λ q f.
    let z = parts_passed source m.parts tree.parts m q are refl (k.opened ∙ opened) f in
    more q z.parts z.opened)

-- the commands
pub commands_held : (source : List ℕ) (trees : List Tree) (p : Progress) → Each IsCommand trees → p.parts ≡ [] → p.opened ≡ []
    → reading source (spelled trees) None p ≡ hold_commands source trees p
commands_held source [] p fine parts opened = refl
commands_held source (tree ∷ trees) p fine parts opened =
    ap (λ (r : Result Progress StyleFault). then_do r (reading source (spelled_parts tree.parts ++ spelled trees) None))
    (ap (λ (o : List BodyId). take_within (innermost o) source tree.word p) opened ∙ ap (λ (ps : List Part). take_outside ps tree.word p) parts)
    ∙ then_same (take_word tree.word.shape tree.word.place tree.word.text p) (reading source (spelled_parts tree.parts ++ spelled trees) None)
    (λ (m : Progress). then_do (hold_parts source m.parts tree.parts m) (hold_commands source trees))
    (λ m e. command_held source tree trees p m fine.0 opened e (λ q. commands_held source trees q fine.1))
