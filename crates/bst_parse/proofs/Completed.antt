-- The lexemes of a style are the spelling of commands.
use Rattle.std.proofs.Common.{◌≡◌, ℕ, true, nat_eq, List, [], ◌∷◌, ◌++◌, append_assoc, Option, None, Some, Result, Ok, length, drop, refl, sym, ap, subst, ◌∙◌}
use Rattle.std.proofs.lemmas.Bool.{and_parts}
use Rattle.name_table.specs.declared.names.Kind.{Kind}
use Rattle.name_table.specs.declared.style.BodyId.{BodyId}
use Rattle.name_table.specs.declared.style.Style.{Style}
use Rattle.name_table.specs.Sound.{Each}
use Rattle.bst_lex.specs.declared.lexeme.LexFault.{LexFault}
use Rattle.bst_lex.specs.declared.lexeme.Shape.{Shape}
use Rattle.bst_lex.specs.declared.lexeme.Shape.TheVariants.{OpenBrace, CloseBrace, Integer, Text, Quoted, Name}
use Rattle.bst_lex.specs.Lexemes.{Seen}
use Rattle.bst_parse.specs.declared.fault.StyleFault.{StyleFault}
use Rattle.bst_parse.specs.declared.grammar.Part.{Part}
use Rattle.bst_parse.specs.declared.grammar.Part.TheVariants.{Open, Close, Names, Target, FunctionName, Body, MacroName, MacroText}
use Rattle.bst_parse.specs.Bodies.{innermost, next_body}
use Rattle.bst_parse.specs.Commands.{parts_of}
use Rattle.bst_parse.specs.Grammar.{Tokens, End, Leaf, Block, PartTree, One, Several, Braced, Tree, spelled_tokens, spelled_part, spelled_parts, spelled, is_leaf, AreTokens, IsPart, AreParts, IsCommand}
use Rattle.bst_parse.specs.Parts.{take_open, take_close, take_names, take_function_name, take_target, take_macro_name, take_macro_text, take_body, pass, take_part}
use Rattle.bv_base.specs.Answers.{then_do}
use Rattle.bst_parse.specs.Progress.{Progress}
use Rattle.bst_parse.specs.Reading.{take_outside, take_within, take_lexeme, is_idle, ended, reading}
use Rattle.bst_parse.specs.Tokens.{take_token}
use Rattle.bst_parse.specs.Words.{take_word}
use Rattle.bst_parse.proofs.Kept.{Kept, open_kept, close_kept, define_kept, function_kept, target_kept, macro_name_kept, macro_text_kept, body_kept, block_kept, leaf_kept, word_kept}
use Rattle.bst_parse.proofs.SoundStyle.{none_left}
use Rattle.bv_base.proofs.ThenLemmas.{ok_is, then_ok, where_ok}

-- lexemes that are left, as commands
pub record CommandsLeft (left : List Seen) : Type 0 where
  pub trees : List Tree
  pub commands : Each IsCommand trees
  pub are : left ≡ spelled trees

-- lexemes that are left, as the parts to come and commands
abbrev pub PartsLeft : List Part → List Seen → Type 0
PartsLeft [] left = CommandsLeft left
PartsLeft (part ∷ parts) left =
    (tree : PartTree) × (rest : List Seen) × IsPart part tree × (left ≡ spelled_part tree ++ rest) × PartsLeft parts rest

-- lexemes that are left, as the rests of the open bodies, the parts to come and commands
abbrev pub BodiesLeft : List BodyId → List Part → List Seen → Type 0
BodiesLeft [] parts left = PartsLeft parts left
BodiesLeft (_ ∷ outer) parts left =
    (tokens : Tokens) × (closes : Seen) × (rest : List Seen) × AreTokens tokens × (closes.shape ≡ CloseBrace)
    × (left ≡ spelled_tokens tokens ++ closes ∷ rest) × BodiesLeft outer parts rest

-- the parts of a command, once they are all there
record PartsRead (parts : List Part) (left : List Seen) : Type 0 where
  trees : List PartTree
  rest : List Seen
  are_parts : AreParts parts trees
  are : left ≡ spelled_parts trees ++ rest
  more : CommandsLeft rest

parts_read : (parts : List Part) (left : List Seen) → PartsLeft parts left → PartsRead parts left
parts_read [] left h = record { trees = []; rest = left; are_parts = tt; are = refl; more = h }
parts_read (part ∷ parts) left h =
    let r = parts_read parts h.1 h.4 in
    record {
      trees = h.0 ∷ r.trees;
      rest = r.rest;
      are_parts = (h.2, r.are_parts);
      are = h.3 ∙ ap (λ (l : List Seen). spelled_part h.0 ++ l) r.are ∙ sym (append_assoc (spelled_part h.0) (spelled_parts r.trees) r.rest);
      more = r.more;
    }

-- a lexeme in a body
leaf_completes : (source : List ℕ) (inside : BodyId) (outer : List BodyId) (l : Seen) (shape : Shape) (rest : List Seen) (p m : Progress)
    → l.shape ≡ shape → is_leaf shape ≡ true → p.opened ≡ inside ∷ outer → take_token source inside shape l p ≡ Ok m
    → BodiesLeft m.opened m.parts rest → BodiesLeft (inside ∷ outer) p.parts (l ∷ rest)
leaf_completes source inside outer l shape rest p m is leaf opened e h =
    let k = leaf_kept source inside shape l p m leaf e in
    let g : BodiesLeft (inside ∷ outer) p.parts rest =
    subst (λ (o : List BodyId). BodiesLeft o p.parts rest) (k.opened ∙ opened) (subst (λ (ps : List Part). BodiesLeft m.opened ps rest) k.parts h) in
    (Leaf l g.0, g.1, g.2, (ap is_leaf is ∙ leaf, g.3), g.4, ap (λ (t : List Seen). l ∷ t) g.5, g.6)

token_completes : (source : List ℕ) (inside : BodyId) (outer : List BodyId) (l : Seen) (shape : Shape) (rest : List Seen) (p m : Progress)
    → l.shape ≡ shape → p.opened ≡ inside ∷ outer → take_token source inside shape l p ≡ Ok m → BodiesLeft m.opened m.parts rest
    → BodiesLeft (inside ∷ outer) p.parts (l ∷ rest)
token_completes source inside outer l (Integer k) rest p m is opened e h = leaf_completes source inside outer l (Integer k) rest p m is refl opened e h
token_completes source inside outer l Text rest p m is opened e h = leaf_completes source inside outer l Text rest p m is refl opened e h
token_completes source inside outer l Quoted rest p m is opened e h = leaf_completes source inside outer l Quoted rest p m is refl opened e h
token_completes source inside outer l Name rest p m is opened e h = leaf_completes source inside outer l Name rest p m is refl opened e h
token_completes source inside outer l CloseBrace rest p m is opened e h =
    let same = ok_is (record p { opened = drop 1 p.opened }) m e in
    let g : BodiesLeft outer p.parts rest =
    subst (λ (o : List BodyId). BodiesLeft o p.parts rest) (ap (λ (x : Progress). x.opened) same ∙ ap (λ (o : List BodyId). drop 1 o) opened)
    (subst (λ (ps : List Part). BodiesLeft m.opened ps rest) (ap (λ (x : Progress). x.parts) same) h) in
    (End, l, rest, tt, is, refl, g)
token_completes source inside outer l OpenBrace rest p m is opened e h =
    let k = block_kept inside l.place p m e in
    let g : BodiesLeft (next_body p.bodies ∷ (inside ∷ outer)) p.parts rest =
    subst (λ (o : List BodyId). BodiesLeft o p.parts rest) (k.opened ∙ ap (λ (o : List BodyId). next_body p.bodies ∷ o) opened)
    (subst (λ (ps : List Part). BodiesLeft m.opened ps rest) k.parts h) in
    let after = g.6 in (
      Block l g.0 g.1 after.0,
      after.1,
      after.2,
      (is, g.3, g.4, after.3),
      after.4,
      ap (λ (t : List Seen). l ∷ t)
          (g.5 ∙ ap (λ (t : List Seen). spelled_tokens g.0 ++ g.1 ∷ t) after.5
          ∙ sym (append_assoc (spelled_tokens g.0) (g.1 ∷ spelled_tokens after.0) (after.1 ∷ after.2))),
      after.6,
    )

-- a lexeme of a list of names
one_more_name : (kind : Kind) (more : List Part) (l : Seen) (rest : List Seen) → l.shape ≡ Name → PartsLeft (Names kind ∷ more) rest
    → PartsLeft (Names kind ∷ more) (l ∷ rest)
one_more_name kind more l rest is h = by h.0 h.2 h.3
  where
    by : (tree : PartTree) → IsPart (Names kind) tree → rest ≡ spelled_part tree ++ h.1 → PartsLeft (Names kind ∷ more) (l ∷ rest)
    by (Several names closes) fine e = (Several (l ∷ names) closes, h.1, ((is, fine.0), fine.1), ap (λ (t : List Seen). l ∷ t) e, h.4)
    by (One lexeme) fine e = absurd fine
    by (Braced opens tokens closes) fine e = absurd fine

name_completes : (kind : Kind) (more : List Part) (l : Seen) (shape : Shape) (rest : List Seen) (p m : Progress) → l.shape ≡ shape
    → p.parts ≡ Names kind ∷ more → p.opened ≡ [] → (shape ≡ Name) × Kept p m
    → BodiesLeft m.opened m.parts rest → PartsLeft (Names kind ∷ more) (l ∷ rest)
name_completes kind more l shape rest p m is parts opened k h =
    one_more_name kind more l rest (is ∙ k.0)
    (subst (λ (o : List BodyId). BodiesLeft o (Names kind ∷ more) rest) ((k.1).opened ∙ opened)
    (subst (λ (ps : List Part). BodiesLeft m.opened ps rest) ((k.1).parts ∙ parts) h))

names_complete : (kind : Kind) (more : List Part) (l : Seen) (shape : Shape) (rest : List Seen) (p m : Progress) → l.shape ≡ shape
    → p.parts ≡ Names kind ∷ more → p.opened ≡ [] → take_names kind more shape l.place l.text p ≡ Ok m
    → BodiesLeft m.opened m.parts rest → PartsLeft (Names kind ∷ more) (l ∷ rest)
names_complete kind more l CloseBrace rest p m is parts opened e h =
    let same = ok_is (record p { parts = more }) m e in (
      Several [] l,
      rest,
      (tt, is),
      refl,
      subst (λ (o : List BodyId). BodiesLeft o more rest) (ap (λ (x : Progress). x.opened) same ∙ opened)
          (subst (λ (ps : List Part). BodiesLeft m.opened ps rest) (ap (λ (x : Progress). x.parts) same) h),
    )
names_complete kind more l OpenBrace rest p m is parts opened e h = name_completes kind more l OpenBrace rest p m is parts opened (define_kept kind OpenBrace l.place l.text p m e) h
names_complete kind more l (Integer k) rest p m is parts opened e h = name_completes kind more l (Integer k) rest p m is parts opened (define_kept kind (Integer k) l.place l.text p m e) h
names_complete kind more l Text rest p m is parts opened e h = name_completes kind more l Text rest p m is parts opened (define_kept kind Text l.place l.text p m e) h
names_complete kind more l Quoted rest p m is parts opened e h = name_completes kind more l Quoted rest p m is parts opened (define_kept kind Quoted l.place l.text p m e) h
names_complete kind more l Name rest p m is parts opened e h = name_completes kind more l Name rest p m is parts opened (define_kept kind Name l.place l.text p m e) h

-- a part of one lexeme
one_completes : (part : Part) (more : List Part) (l : Seen) (rest : List Seen) (p m : Progress) (r : Result Progress StyleFault)
    → p.opened ≡ [] → then_do r (pass more) ≡ Ok m → ((q : Progress) → r ≡ Ok q → IsPart part (One l) × Kept p q)
    → BodiesLeft m.opened m.parts rest → PartsLeft (part ∷ more) (l ∷ rest)
one_completes part more l rest p m r opened e kept h =
    let a = then_ok r (pass more) m e in
    let k = kept a.0 a.1 in
    let same = ok_is (record (a.0) { parts = more }) m a.2 in (
      One l,
      rest,
      k.0,
      refl,
      subst (λ (o : List BodyId). BodiesLeft o more rest) (ap (λ (x : Progress). x.opened) same ∙ (k.1).opened ∙ opened)
          (subst (λ (ps : List Part). BodiesLeft m.opened ps rest) (ap (λ (x : Progress). x.parts) same) h),
    )

part_completes : (part : Part) (more : List Part) (l : Seen) (rest : List Seen) (p m : Progress) → p.parts ≡ part ∷ more → p.opened ≡ []
    → take_part part more l.shape l.place l.text p ≡ Ok m → BodiesLeft m.opened m.parts rest → PartsLeft (part ∷ more) (l ∷ rest)
part_completes (Names kind) more l rest p m parts opened e h = names_complete kind more l l.shape rest p m refl parts opened e h
part_completes Open more l rest p m parts opened e h =
    one_completes Open more l rest p m (take_open l.shape l.place p) opened e (λ q. open_kept l.shape l.place p q) h
part_completes Close more l rest p m parts opened e h =
    one_completes Close more l rest p m (take_close l.shape l.place p) opened e (λ q. close_kept l.shape l.place p q) h
part_completes (Target c) more l rest p m parts opened e h =
    one_completes (Target c) more l rest p m (take_target c l.shape l.place l.text p) opened e (λ q. target_kept c l.shape l.place l.text p q) h
part_completes FunctionName more l rest p m parts opened e h =
    one_completes FunctionName more l rest p m (take_function_name l.shape l.place l.text p) opened e (λ q. function_kept l.shape l.place l.text p q) h
part_completes MacroName more l rest p m parts opened e h =
    one_completes MacroName more l rest p m (take_macro_name l.shape l.place l.text p) opened e (λ q. macro_name_kept l.shape l.place l.text p q) h
part_completes MacroText more l rest p m parts opened e h =
    one_completes MacroText more l rest p m (take_macro_text l.shape l.place l.text p) opened e (λ q. macro_text_kept l.shape l.place l.text p q) h
part_completes Body more l rest p m parts opened e h =
    let a = then_ok (take_body l.shape l.place p) (pass more) m e in
    let k = body_kept l.shape l.place p a.0 a.1 in
    let same = ok_is (record (a.0) { parts = more }) m a.2 in
    let g : BodiesLeft (next_body p.bodies ∷ []) more rest =
    subst (λ (o : List BodyId). BodiesLeft o more rest)
    (ap (λ (x : Progress). x.opened) same ∙ (k.1).opened ∙ ap (λ (o : List BodyId). next_body p.bodies ∷ o) opened)
    (subst (λ (ps : List Part). BodiesLeft m.opened ps rest) (ap (λ (x : Progress). x.parts) same) h) in (
      Braced l g.0 g.1,
      g.2,
      (k.0, g.3, g.4),
      ap (λ (t : List Seen). l ∷ t) (g.5 ∙ sym (append_assoc (spelled_tokens g.0) (g.1 ∷ []) g.2)),
      g.6,
    )

-- a command's word
word_completes : (l : Seen) (rest : List Seen) (p m : Progress) → p.opened ≡ [] → take_word l.shape l.place l.text p ≡ Ok m
    → BodiesLeft m.opened m.parts rest → CommandsLeft (l ∷ rest)
word_completes l rest p m opened e h =
    let k = word_kept l.shape l.place l.text p m e in
    let g : PartsLeft (parts_of (k.1).word) rest =
    subst (λ (o : List BodyId). BodiesLeft o (parts_of (k.1).word) rest) ((k.1).opened ∙ opened)
    (subst (λ (ps : List Part). BodiesLeft m.opened ps rest) (k.1).parts h) in
    let r = parts_read (parts_of (k.1).word) rest g in
    record {
      trees = record { word = l; parts = r.trees } ∷ (r.more).trees;
      commands = (((k.1).word, k.0, (k.1).is, r.are_parts), (r.more).commands);
      are = ap (λ (t : List Seen). l ∷ t) (r.are ∙ ap (λ (t : List Seen). spelled_parts r.trees ++ t) (r.more).are);
    }

outside_completes : (parts : List Part) (l : Seen) (rest : List Seen) (p m : Progress) → p.parts ≡ parts → p.opened ≡ []
    → take_outside parts l p ≡ Ok m → BodiesLeft m.opened m.parts rest → PartsLeft parts (l ∷ rest)
outside_completes [] l rest p m parts opened e h = word_completes l rest p m opened e h
outside_completes (part ∷ more) l rest p m parts opened e h = part_completes part more l rest p m parts opened e h

within_completes : (source : List ℕ) (opened : List BodyId) (l : Seen) (rest : List Seen) (p m : Progress) → p.opened ≡ opened
    → take_within (innermost opened) source l p ≡ Ok m → BodiesLeft m.opened m.parts rest → BodiesLeft opened p.parts (l ∷ rest)
within_completes source [] l rest p m opened e h = outside_completes p.parts l rest p m refl opened e h
within_completes source (inside ∷ outer) l rest p m opened e h = token_completes source inside outer l l.shape rest p m refl opened e h

nothing_left : (opened : List BodyId) (parts : List Part) → opened ≡ [] → parts ≡ [] → BodiesLeft opened parts []
nothing_left [] [] e f = record { trees = []; commands = tt; are = refl }
nothing_left (x ∷ xs) parts e f = absurd (cc)
nothing_left [] (x ∷ xs) e f = absurd (cc)

ended_completes : (source : List ℕ) (fault : Option LexFault) (p : Progress) (style : Style) → ended source fault p ≡ Ok style
    → (fault ≡ None) × BodiesLeft p.opened p.parts []
ended_completes source (Some fault) p style e = absurd (cc)
ended_completes source None p style e =
    let w = where_ok (is_idle p) _ _ style e in (
      refl,
      nothing_left p.opened p.parts
          (none_left p.opened (and_parts (nat_eq (length p.parts) 0) (nat_eq (length p.opened) 0) w.0).1)
          (none_left p.parts (and_parts (nat_eq (length p.parts) 0) (nat_eq (length p.opened) 0) w.0).0),
    )

-- what is read to its end has no lexical fault, and its lexemes are those of trees
pub completed : (source : List ℕ) (left : List Seen) (fault : Option LexFault) (p : Progress) (style : Style)
    → reading source left fault p ≡ Ok style → (fault ≡ None) × BodiesLeft p.opened p.parts left
completed source [] fault p style e = ended_completes source fault p style e
completed source (l ∷ rest) fault p style e =
    let a = then_ok (take_lexeme source l p) (reading source rest fault) style e in
    let more = completed source rest fault a.0 style a.2 in
    (more.0, within_completes source p.opened l rest p a.0 refl a.1 more.1)
