-- The lines that a condition spells are read as that condition.
use Rattle.std.proofs.Common.{◌≡◌, ℕ, ◌<◌, ◌≤◌, true, false, nat_eq, List, [], ◌∷◌, ◌++◌, Result, Ok, codes, lit≤, refl, ap, ◌∙◌, arith}
use Rattle.std.specs.Fmt.{decimal}
use Rattle.std.proofs.lemmas.Bool.Decides.{nat_tests}
use Rattle.std.specs.Cmp.Lexicographic.{bytes_decides}
use Rattle.bst_meaning.specs.declared.condition.Cond.{Cond}
use Rattle.bst_meaning.specs.declared.condition.NamesLine.{NamesLine}
use Rattle.bv_base.specs.Answers.{then_do}
use Rattle.name_table.specs.declared.names.Kind.{Kind}
use Rattle.cert_format.specs.CondText.{ArePlain, IsNamesLine}
use Rattle.cert_format.specs.Conditions as conditions
use Rattle.cert_format.specs.Items.{expected, field_above, is_above, is_word, natural}
use Rattle.cert_format.specs.Lines.{Item, Line, ended_by, line_end, next_item}
use Rattle.cert_format.specs.Spelling.{name_text, names_items}
use Rattle.cert_format.specs.declared.cond_lines.CondSoFar.{CondSoFar}
use Rattle.cert_format.specs.declared.items.TheConstants.{MOST_NUMBER}
use Rattle.cert_format.specs.declared.stages.CondStage.{CondStage}
use Rattle.cert_format.specs.declared.stages.CondStage.TheVariants.{Names}
use Rattle.cert_format.specs.declared.stop.Stop.{Stop}
use Rattle.cert_format.proofs.CondRead.{Has}
use Rattle.cert_format.proofs.NamesTaken.{field_taken}
use Rattle.cert_format.proofs.Numerals.{natural_taken}
use Rattle.cert_format.proofs.Split.{texts_of}

-- the first item of a line
pub record Taken (line : Line) (text : List ℕ) (more : List (List ℕ)) : Type 0 where
  pub item : Item
  pub rest : Line
  pub gives : next_item line ≡ Ok (item, rest)
  pub said : item.text ≡ text
  pub has : Has rest more

-- the first of some texts, and those after it
abbrev pub first_text : List (List ℕ) → List ℕ
first_text [] = []
first_text (text ∷ texts) = text

abbrev pub other_texts : List (List ℕ) → List (List ℕ)
other_texts [] = []
other_texts (text ∷ texts) = texts

taken_by : (end : ℕ) (items : List Item) (text : List ℕ) (more : List (List ℕ)) → texts_of items ≡ text ∷ more → 0 < end
    → Taken (record { items = items; end = end }) text more
taken_by end [] text more e ends = absurd (cc)
taken_by end (item ∷ items) text more e ends =
    record {
      item = item;
      rest = record { items = items; end = end };
      gives = refl;
      said = ap first_text e;
      has = record { items = ap other_texts e; ends = ends };
    }

pub take_first : (line : Line) (text : List ℕ) (more : List (List ℕ)) → Has line (text ∷ more) → Taken line text more
take_first line text more has = taken_by line.end line.items text more has.items has.ends

end_by : (end : ℕ) (items : List Item) → texts_of items ≡ [] → 0 < end → ended_by end items ≡ Ok tt
end_by end [] e ends = rw (no_zero end ends) refl
  where
    no_zero : (n : ℕ) → 0 < n → nat_eq n 0 ≡ false
    no_zero n some = grind (arith, nat_tests)
end_by end (item ∷ items) e ends = absurd (cc)

-- a line without items left ends
pub take_end : (line : Line) → Has line [] → line_end line ≡ Ok tt
take_end line has = end_by line.end line.items has.items has.ends

-- what comes next, where what comes first is there
pub then_go : {A B : Type 0} (r : Result A Stop) (a : A) (next : A → Result B Stop) (b : Result B Stop) → r ≡ Ok a → next a ≡ b → then_do r next ≡ b
then_go {A} r a next b e f = ap (λ (x : Result A Stop). then_do x next) e ∙ f

-- the item is a word
pub word_taken : (text : List ℕ) (item : Item) → item.text ≡ text → is_word text item ≡ true
word_taken text item said = (bytes_decides item.text text).1 said

pub expect_taken : (text : List ℕ) (item : Item) → item.text ≡ text → expected text item ≡ Ok tt
expect_taken text item said = rw (word_taken text item said) refl

pub number_taken : (most n : ℕ) (line : Line) → most ≤ MOST_NUMBER → n ≤ most → Has line (decimal n ∷ []) → conditions.last_natural most line ≡ Ok n
number_taken most n line bound small has =
    let t = take_first line (decimal n) [] has in
    then_go (next_item line) (t.item, t.rest) _ _ t.gives
    (then_go (natural most t.item) n _ _ (natural_taken most t.item n bound small t.said)
    (then_go (line_end t.rest) tt _ _ (take_end t.rest t.has) refl))

number_line_taken : (text : List ℕ) (most n : ℕ) (word : Item) (line : Line) → most ≤ MOST_NUMBER → n ≤ most → word.text ≡ text → Has line (decimal n ∷ [])
    → conditions.number_line text most word line ≡ Ok n
number_line_taken text most n word line bound small said has =
    then_go (expected text word) tt _ _ (expect_taken text word said) (number_taken most n line bound small has)

-- a line whose first word is known
pub line_taken : (names : List (List ℕ × Kind)) (line : Line) (text : List ℕ) (more : List (List ℕ)) (p q : CondSoFar) → Has line (text ∷ more)
    → ((word : Item) (rest : Line) → word.text ≡ text → Has rest more → conditions.worded_line names p.stage word rest p ≡ Ok q)
    → conditions.cond_line names line p ≡ Ok q
line_taken names line text more p q has next =
    let t = take_first line text more has in
    then_go (next_item line) (t.item, t.rest) _ _ t.gives (next t.item t.rest t.said t.has)

-- what has been read at a stage
abbrev pub at_stage : CondStage → Cond → CondSoFar
at_stage s c = record { stage = s; cond = c }

-- a line of a word and a number, at the stage that takes it
pub numbered : (names : List (List ℕ × Kind)) (line : Line) (text : List ℕ) (most n : ℕ) (p q : CondSoFar) (next : ℕ → Result CondSoFar Stop)
    → most ≤ MOST_NUMBER → n ≤ most → Has line (text ∷ (decimal n ∷ []))
    → ((word : Item) (rest : Line) → conditions.worded_line names p.stage word rest p ≡ then_do (conditions.number_line text most word rest) next)
    → next n ≡ Ok q → conditions.cond_line names line p ≡ Ok q
numbered names line text most n p q next bound small has by goes =
    line_taken names line text (decimal n ∷ []) p q has (λ word rest said more.
    by word rest
    ∙ then_go (conditions.number_line text most word rest) n next (Ok q) (number_line_taken text most n word rest bound small said more) goes)

-- the test of another word
pub other_word : (text word : List ℕ) (item : Item) → item.text ≡ text → is_word word (record { text = text; left = item.left }) ≡ false
    → is_word word item ≡ false
other_word text word item said differs = ap (λ (t : List ℕ). is_word word (record { text = t; left = item.left })) said ∙ differs

pub names_line_taken : (names : List (List ℕ × Kind)) (line : Line) (c : Cond) (x : NamesLine) → ArePlain names → IsNamesLine names x
    → is_above (conditions.last_field c.names) x.field ≡ true → Has line (names_items names x)
    → conditions.cond_line names line (at_stage Names c) ≡ Ok (at_stage Names (record c { names = c.names ++ x ∷ [] }))
names_line_taken names line c x plain is above has =
    line_taken names line (codes "names") (name_text names x.field ∷ (decimal x.most ∷ [])) (at_stage Names c) _ has (λ word rest said more.
    let t = take_first rest (name_text names x.field) (decimal x.most ∷ []) more in
    rw (word_taken (codes "names") word said)
    (then_go (next_item rest) (t.item, t.rest) _ _ t.gives
    (then_go (field_above (conditions.last_field c.names) names t.item) x.field _ _ (field_taken (conditions.last_field c.names) names t.item x.field plain is.0 above t.said)
    (then_go (conditions.last_natural 1073741824 t.rest) x.most _ _ (number_taken 1073741824 x.most t.rest (lit≤ tt) is.1 t.has) refl))))
