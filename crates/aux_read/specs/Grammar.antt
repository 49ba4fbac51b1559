-- The grammar of `.aux` files over whole texts: lines as data, and how they are spelled (docs/DATA.md, "Lines of an .aux file").
use Rattle.std.specs.Prelude.{◌≡◌, ℕ, ◌<◌, ◌⊎◌, true, not, nat_eq, List, [], ◌∷◌, ◌++◌, length, codes}
use Rattle.std.specs.List.{AllByRecursion, list_all}
use Rattle.bv_base.specs.Bytes.{is_white}
use Rattle.bv_base.specs.Keys.{IsKey}
use Rattle.aux_read.specs.FileNames.{IsFileName}

-- a line, by what it asks for: citations, databases, a style, a further file, or nothing
pub data Line : Type 0 where
  Citations : (items : List (List ℕ)) → Line
  Databases : (names : List (List ℕ)) → Line
  Style : (name : List ℕ) → Line
  Input : (name : List ℕ) → Line
  Other : Line

-- the byte stands nowhere in a text
abbrev pub Without : ℕ → List ℕ → Type 0
Without byte text = list_all (λ b. not (nat_eq b byte)) text ≡ true

-- white space, which may be none
abbrev pub Blank : List ℕ → Type 0
Blank text = list_all is_white text ≡ true

-- an item: one or more bytes without white space, with white space before and after them
pub record IsItem (item text : List ℕ) : Type 0 where
  pub before : List ℕ
  pub after : List ℕ
  pub spelled : text ≡ before ++ (item ++ after)
  pub blank_before : Blank before
  pub blank_after : Blank after
  pub solid : IsKey item

-- the name of a file: an item that is UTF-8
abbrev pub IsName : List ℕ → List ℕ → Type 0
IsName name text = IsItem name text × IsFileName name

-- items with a comma between them, at least one
abbrev pub AreItems : (List ℕ → List ℕ → Type 0) → List (List ℕ) → List ℕ → Type 0
AreItems IsOne [] text = ⊥
AreItems IsOne (item ∷ []) text = Without 44 text × IsOne item text
AreItems IsOne (item ∷ (next ∷ items)) text =
    (first : List ℕ) × (rest : List ℕ) × (text ≡ first ++ 44 ∷ rest) × Without 44 first × IsOne item first
    × AreItems IsOne (next ∷ items) rest

-- a line begins with these bytes
abbrev pub Begins : List ℕ → List ℕ → Type 0
Begins front line = (rest : List ℕ) × (line ≡ front ++ rest)

-- a line is these bytes, a text, the first `}` after them, and more that doesn't count
abbrev pub Holds : List ℕ → List ℕ → List ℕ → Type 0
Holds front text line = (rest : List ℕ) × (line ≡ front ++ (text ++ 125 ∷ rest)) × Without 125 text

-- the four words with their opening braces; a line that begins with none of them doesn't count
abbrev pub words : List (List ℕ)
words = codes "\\citation{" ∷ codes "\\bibdata{" ∷ codes "\\bibstyle{" ∷ codes "\\@input{" ∷ []

-- how a line is spelled
abbrev pub IsLine : Line → List ℕ → Type 0
IsLine (Citations items) line = (text : List ℕ) × Holds (codes "\\citation{") text line × AreItems IsItem items text
IsLine (Databases names) line = (text : List ℕ) × Holds (codes "\\bibdata{") text line × AreItems IsName names text
IsLine (Style name) line = (text : List ℕ) × Holds (codes "\\bibstyle{") text line × IsName name text
IsLine (Input name) line = (text : List ℕ) × Holds (codes "\\@input{") text line × IsName name text
IsLine Other line = AllByRecursion (λ word. ¬ Begins word line) words

-- a line ends with its one byte 10; the last one of a text may end without it, and has a byte then
abbrev pub Ends : List ℕ → List ℕ → Type 0
Ends line rest =
    (text : List ℕ) × Without 10 text × ((line ≡ text ++ 10 ∷ []) ⊎ ((line ≡ text) × (0 < length text) × (rest ≡ [])))

-- a text is these lines, one after the other
abbrev pub Spells : List Line → List ℕ → Type 0
Spells [] text = text ≡ []
Spells (line ∷ lines) text =
    (first : List ℕ) × (rest : List ℕ) × (text ≡ first ++ rest) × Ends first rest × IsLine line first × Spells lines rest
