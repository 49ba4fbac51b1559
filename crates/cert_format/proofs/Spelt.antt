-- The lines of a text that spells lines are these.
use Rattle.std.proofs.Common.{◌≡◌, ℕ, suc, ◌+◌, ◌<◌, Bool, true, false, cond, List, [], ◌∷◌, ◌++◌, length, map, refl, sym, ap, ◌∙◌, append_assoc, arith}
use Rattle.bv_base.specs.Runs.{NoneOf}
use Rattle.bv_base.proofs.RunLemmas.{none_joined}
use Rattle.cert_format.specs.Lines.{Item, Line, begun, is_newline, is_space, items_of, line_of, lines_of, longer, stretches}
use Rattle.cert_format.specs.Spelling.{after_item, text_of}
use Rattle.cert_format.proofs.CondRead.{Has}
use Rattle.cert_format.proofs.Split.{texts, texts_of}

-- bytes that can be an item
pub record Solid (item : List ℕ) : Type 0 where
  pub space : NoneOf is_space item
  pub newline : NoneOf is_newline item

-- each of these can be an item
abbrev pub AllSolid : List (List ℕ) → Type 0
AllSolid [] = Unit {0}
AllSolid (item ∷ items) = Solid item × AllSolid items

-- a line has an item, and each can be one
abbrev pub SolidLine : List (List ℕ) → Type 0
SolidLine [] = ⊥
SolidLine (item ∷ items) = Solid item × AllSolid items

-- each of these can be a line
abbrev pub SolidLines : List (List (List ℕ)) → Type 0
SolidLines [] = Unit {0}
SolidLines (line ∷ lines) = SolidLine line × SolidLines lines

-- the bytes behind an item, without the line's end
abbrev tail_of : List (List ℕ) → List ℕ
tail_of [] = []
tail_of (item ∷ items) = 32 ∷ (item ++ tail_of items)

tail_text : (items : List (List ℕ)) → after_item items ≡ tail_of items ++ 10 ∷ []
tail_text [] = refl
tail_text (item ∷ items) =
    ap (λ t. 32 ∷ (item ++ t)) (tail_text items) ∙ ap (λ t. 32 ∷ t) (sym (append_assoc item (tail_of items) (10 ∷ [])))

-- a byte before the first of some texts
abbrev with_first : ℕ → List (List ℕ) → List (List ℕ)
with_first b [] = []
with_first b (text ∷ texts) = (b ∷ text) ∷ texts

begun_texts : (b : ℕ) (items : List Item) → texts_of (begun b items) ≡ with_first b (texts_of items)
begun_texts b [] = refl
begun_texts b (item ∷ items) = refl

byte_texts : (end b : ℕ) (bytes : List ℕ) (t : Bool) → t ≡ false
    → texts_of (cond t (record { text = []; left = length (b ∷ bytes) + end } ∷ items_of end bytes) (begun b (items_of end bytes)))
    ≡ with_first b (texts_of (items_of end bytes))
byte_texts end b bytes true e = absurd (cc)
byte_texts end b bytes false e = begun_texts b (items_of end bytes)

-- the items of spelled items are these
items_are : (end : ℕ) (first : List ℕ) (rest : List (List ℕ)) → Solid first → AllSolid rest
    → texts_of (items_of end (first ++ tail_of rest)) ≡ first ∷ rest
items_are end [] [] solid more = refl
items_are end [] (item ∷ items) solid more = ap (λ t. [] ∷ t) (items_are end item items more.0 more.1)
items_are end (b ∷ first) rest solid more =
    let inner : Solid first = record { space = solid.space.1; newline = solid.newline.1 } in
    byte_texts end b (first ++ tail_of rest) (is_space b) solid.space.0 ∙ ap (with_first b) (items_are end first rest inner more)

newline_of : (rest : List (List ℕ)) → AllSolid rest → NoneOf is_newline (tail_of rest)
newline_of [] solid = tt
newline_of (item ∷ items) solid = (refl, none_joined is_newline item (tail_of items) solid.0.newline (newline_of items solid.1))

line_case : (b : ℕ) (bytes : List ℕ) (t : Bool) → t ≡ false
    → cond t (record { bytes = []; end = length (b ∷ bytes) } ∷ stretches bytes) (longer b (stretches bytes)) ≡ longer b (stretches bytes)
line_case b bytes true e = absurd (cc)
line_case b bytes false e = refl

-- a line that ends, before more
first_stretch : (line rest : List ℕ) → NoneOf is_newline line
    → stretches (line ++ 10 ∷ rest) ≡ record { bytes = line; end = suc (length rest) } ∷ stretches rest
first_stretch [] rest none = refl
first_stretch (b ∷ line) rest none =
    line_case b (line ++ 10 ∷ rest) (is_newline b) none.0 ∙ ap (longer b) (first_stretch line rest none.1)

-- lines have these items
abbrev pub AllHave : List Line → List (List (List ℕ)) → Type 0
AllHave [] [] = Unit {0}
AllHave (line ∷ lines) (items ∷ more) = Has line items × AllHave lines more
AllHave _ _ = ⊥

-- lines that a text has
pub record Spelt (text : List ℕ) (wanted : List (List (List ℕ))) : Type 0 where
  pub lines : List Line
  pub are : lines_of text ≡ lines
  pub have : AllHave lines wanted

positive : (n : ℕ) → 0 < suc n
positive n = omega arith

-- the lines of a text that spells lines
pub spelt : (wanted : List (List (List ℕ))) → SolidLines wanted → Spelt (text_of wanted) wanted
spelt [] solid = record { lines = []; are = refl; have = tt }
spelt ([] ∷ more) solid = absurd (solid.0)
spelt ((first ∷ rest) ∷ more) solid =
    let others = spelt more solid.1 in
    let line : List ℕ = first ++ tail_of rest in
    let after = text_of more in
    let none = none_joined is_newline first (tail_of rest) solid.0.0.newline (newline_of rest solid.0.1) in
    let bytes : text_of ((first ∷ rest) ∷ more) ≡ line ++ 10 ∷ after =
    ap (λ t. (first ++ t) ++ after) (tail_text rest)
    ∙ ap (λ t. t ++ after) (sym (append_assoc first (tail_of rest) (10 ∷ [])))
    ∙ append_assoc line (10 ∷ []) after in
    let end = suc (length after) in
    record {
      lines = record { items = items_of end line; end = end } ∷ others.lines;
      are = ap lines_of bytes ∙ ap (λ l. map line_of l) (first_stretch line after none)
          ∙ ap (λ l. record { items = items_of end line; end = end } ∷ l) others.are;
      have = (record { items = items_are end first rest solid.0.0 solid.0.1; ends = positive (length after) }, others.have);
    }
