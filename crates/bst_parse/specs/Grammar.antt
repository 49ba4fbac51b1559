-- The grammar of styles: commands as trees, how they are spelled, and the rules along a tree
-- (docs/LANGUAGE.md, "Commands").
use Rattle.std.specs.Prelude.{◌≡◌, ℕ, Bool, true, false, List, [], ◌∷◌, ◌++◌, length, drop, None, Some, Result, Ok}
use Rattle.name_table.specs.declared.style.BodyId.{BodyId}
use Rattle.name_table.specs.declared.style.Style.{Style}
use Rattle.name_table.specs.Sound.{Each}
use Rattle.bst_lex.specs.declared.lexeme.Shape.{Shape}
use Rattle.bst_lex.specs.declared.lexeme.Shape.TheVariants.{OpenBrace, CloseBrace, Text, Name}
use Rattle.bst_lex.specs.Grammar.{Spells}
use Rattle.bst_lex.specs.Lexemes.{Seen}
use Rattle.bv_base.specs.Places.{first_place, place_at}
use Rattle.bst_parse.specs.declared.fault.StyleFault.{StyleFault}
use Rattle.bst_parse.specs.declared.grammar.Part.{Part}
use Rattle.bst_parse.specs.declared.grammar.Part.TheVariants.{Open, Close, Names, Target, FunctionName, Body, MacroName, MacroText}
use Rattle.bst_parse.specs.declared.grammar.Word.{Word}
use Rattle.bst_parse.specs.Bodies.{next_body}
use Rattle.bst_parse.specs.Commands.{word_of, parts_of}
use Rattle.bst_parse.specs.Names.{lowered}
use Rattle.bst_parse.specs.Parts.{take_part}
use Rattle.bv_base.specs.Answers.{then_do}
use Rattle.bst_parse.specs.Progress.{Progress}
use Rattle.bst_parse.specs.Reading.{complete, opening_progress}
use Rattle.bst_parse.specs.Tokens.{begin_block, take_token}
use Rattle.bst_parse.specs.Words.{take_word}

-- the tokens between two braces: none, a lexeme and the tokens after it, or a block in braces and the tokens after it
pub data Tokens : Type 0 where
  End : Tokens
  Leaf : (lexeme : Seen) (rest : Tokens) → Tokens
  Block : (opens : Seen) (inner : Tokens) (closes : Seen) (rest : Tokens) → Tokens

-- a part of a command: one lexeme, names and the brace after them, or a body in braces
pub data PartTree : Type 0 where
  One : (lexeme : Seen) → PartTree
  Several : (names : List Seen) (closes : Seen) → PartTree
  Braced : (opens : Seen) (tokens : Tokens) (closes : Seen) → PartTree

-- a command: its word and its parts
pub record Tree : Type 0 where
  pub word : Seen
  pub parts : List PartTree

-- the lexemes of tokens, in order
abbrev pub spelled_tokens : Tokens → List Seen
spelled_tokens End = []
spelled_tokens (Leaf lexeme rest) = lexeme ∷ spelled_tokens rest
spelled_tokens (Block opens inner closes rest) = opens ∷ (spelled_tokens inner ++ (closes ∷ spelled_tokens rest))

-- the lexemes of a part, in order
abbrev pub spelled_part : PartTree → List Seen
spelled_part (One lexeme) = lexeme ∷ []
spelled_part (Several names closes) = names ++ closes ∷ []
spelled_part (Braced opens tokens closes) = opens ∷ (spelled_tokens tokens ++ closes ∷ [])

-- the lexemes of parts, in order
abbrev pub spelled_parts : List PartTree → List Seen
spelled_parts [] = []
spelled_parts (part ∷ parts) = spelled_part part ++ spelled_parts parts

-- the lexemes of commands, in order
abbrev pub spelled : List Tree → List Seen
spelled [] = []
spelled (tree ∷ trees) = tree.word ∷ (spelled_parts tree.parts ++ spelled trees)

-- an integer, a text, a quoted name or a name
abbrev pub is_leaf : Shape → Bool
is_leaf OpenBrace = false
is_leaf CloseBrace = false
is_leaf _ = true

-- the braces of blocks are braces, and what stands between them is none
abbrev pub AreTokens : Tokens → Type 0
AreTokens End = Unit {0}
AreTokens (Leaf lexeme rest) = (is_leaf lexeme.shape ≡ true) × AreTokens rest
AreTokens (Block opens inner closes rest) =
    (opens.shape ≡ OpenBrace) × AreTokens inner × (closes.shape ≡ CloseBrace) × AreTokens rest

-- a tree of a part of this sort
abbrev pub IsPart : Part → PartTree → Type 0
IsPart Open (One lexeme) = lexeme.shape ≡ OpenBrace
IsPart Close (One lexeme) = lexeme.shape ≡ CloseBrace
IsPart (Names kind) (Several names closes) = Each (λ name. name.shape ≡ Name) names × (closes.shape ≡ CloseBrace)
IsPart (Target caller) (One lexeme) = lexeme.shape ≡ Name
IsPart FunctionName (One lexeme) = lexeme.shape ≡ Name
IsPart Body (Braced opens tokens closes) = (opens.shape ≡ OpenBrace) × AreTokens tokens × (closes.shape ≡ CloseBrace)
IsPart MacroName (One lexeme) = lexeme.shape ≡ Name
IsPart MacroText (One lexeme) = lexeme.shape ≡ Text
IsPart _ _ = ⊥

-- trees of these parts, one for each
abbrev pub AreParts : List Part → List PartTree → Type 0
AreParts [] [] = Unit {0}
AreParts (part ∷ parts) (tree ∷ trees) = IsPart part tree × AreParts parts trees
AreParts _ _ = ⊥

-- a command's word, and the parts that the table has for it
abbrev pub IsCommand : Tree → Type 0
IsCommand tree =
    (word : Word) × (tree.word.shape ≡ Name) × (word_of (lowered tree.word.text) ≡ Some word) × AreParts (parts_of word) tree.parts

-- the rules along the tokens of a body
abbrev pub hold_tokens : List ℕ → BodyId → Tokens → Progress → Result Progress StyleFault
hold_tokens source inside End p = Ok p
hold_tokens source inside (Leaf lexeme rest) p =
    then_do (take_token source inside lexeme.shape lexeme p) (hold_tokens source inside rest)
hold_tokens source inside (Block opens inner closes rest) p =
    then_do (begin_block inside opens.place p) (λ m.
    then_do (hold_tokens source (next_body p.bodies) inner m) (λ n.
    hold_tokens source inside rest (record n { opened = drop 1 n.opened })))

-- the rules along the names of a list
abbrev pub hold_names : Part → List Part → List Seen → Progress → Result Progress StyleFault
hold_names part rest [] p = Ok p
hold_names part rest (name ∷ names) p =
    then_do (take_part part rest name.shape name.place name.text p) (hold_names part rest names)

-- the rules along a part, after which the rest of the parts are to come
abbrev pub hold_part : List ℕ → Part → List Part → PartTree → Progress → Result Progress StyleFault
hold_part source part rest (One lexeme) p = take_part part rest lexeme.shape lexeme.place lexeme.text p
hold_part source part rest (Several names closes) p =
    then_do (hold_names part rest names p) (take_part part rest closes.shape closes.place closes.text)
hold_part source part rest (Braced opens tokens closes) p =
    then_do (take_part part rest opens.shape opens.place opens.text p) (λ m.
    then_do (hold_tokens source (next_body p.bodies) tokens m) (λ n. Ok (record n { opened = drop 1 n.opened })))

-- the rules along the parts of a command
abbrev pub hold_parts : List ℕ → List Part → List PartTree → Progress → Result Progress StyleFault
hold_parts source (part ∷ parts) (tree ∷ trees) p = then_do (hold_part source part parts tree p) (hold_parts source parts trees)
hold_parts source _ _ p = Ok p

-- the rules along the commands
abbrev pub hold_commands : List ℕ → List Tree → Progress → Result Style StyleFault
hold_commands source [] p = complete (place_at source (length source)) p
hold_commands source (tree ∷ trees) p =
    then_do (take_word tree.word.shape tree.word.place tree.word.text p) (λ m.
    then_do (hold_parts source m.parts tree.parts m) (hold_commands source trees))

-- a text is a style: its lexemes are the spelling of commands, with nothing but white space and comments between them,
-- and the commands keep the rules of names and of order
pub record Reads (source : List ℕ) (style : Style) : Type 0 where
  pub trees : List Tree
  pub commands : Each IsCommand trees
  pub lexemes : Spells 0 first_place source (spelled trees) None
  pub rules : hold_commands source trees opening_progress ≡ Ok style
