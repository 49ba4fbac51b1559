-- Places, chains and lines of one more item, for what pieces keep.
use Rattle.std.proofs.Common.{◌≡◌, ℕ, ◌+◌, ◌<◌, ◌≤◌, Bool, true, false, cond, nat_le, List, [], ◌∷◌, ◌++◌, length, length-append, map, Option, Some, None, Result, Ok, codes, refl, sym, ap, subst, ◌∙◌, arith}
use Rattle.std.specs.Option.{option_and_then}
use Rattle.std.proofs.lemmas.Bool.{and_from, and_parts}
use Rattle.std.proofs.lemmas.Bool.Decides.{nat_tests}
use Rattle.bv_base.specs.Answers.{then_do}
use Rattle.bv_base.proofs.ThenLemmas.{ok_is, then_ok}
use Rattle.name_table.specs.Names.{same_name}
use Rattle.name_table.specs.Sound.{Each}
use Rattle.sym_state.specs.declared.symbol.Sym.{Sym}
use Rattle.sym_state.proofs.Consequences.{same_bytes}
use Rattle.cert_format.specs.CertText.{are_placed, next_behind}
use Rattle.cert_format.specs.Items.{among}
use Rattle.cert_format.specs.Lines.{Item, Line, line_end, next_item}
use Rattle.cert_format.specs.PieceItems as items
use Rattle.cert_format.specs.Pieces as pieces
use Rattle.cert_format.specs.declared.items.TheConstants.{MOST_NUMBER}
use Rattle.cert_format.specs.declared.stages.PieceStage.{PieceStage}
use Rattle.cert_format.specs.declared.stages.PieceWord.{PieceWord}
use Rattle.cert_format.specs.declared.stages.PieceWord.TheVariants.{Stack, Var, Field, Is, Int, Text, Call, Block, Blank, Nonblank, Wellformed, Row}
use Rattle.cert_format.specs.declared.stop.Stop.{Stop}
use Rattle.cert_format.proofs.CondRead.{Has, at_end, item_before, next_is, none_left}
use Rattle.cert_format.proofs.CondTaken.{first_text, other_texts, take_end, take_first, then_go}
use Rattle.cert_format.proofs.Split.{Ended}

-- an item that ends its line
pub record Last {A B : Type 0} (f : Item → Result A Stop) (make : A → B) (line : Line) (b : B) : Type 0 where
  pub item : Item
  pub value : A
  pub got : f item ≡ Ok value
  pub is : b ≡ make value
  pub has : (text : List ℕ) → item.text ≡ text → Has line (text ∷ [])

abbrev pub last_item : {A B : Type 0} → (Item → Result A Stop) → (A → B) → Line → Result B Stop
last_item f make line = then_do (next_item line) (λ item. then_do (f item.0) (λ a. pieces.at_end item.1 (make a)))

pub last_read : {A B : Type 0} (f : Item → Result A Stop) (make : A → B) (line : Line) (b : B) → last_item f make line ≡ Ok b → Last f make line b
last_read f make line b e =
    let a = then_ok (next_item line) _ _ e in
    let v = then_ok (f a.0.0) _ _ a.2 in
    let end = then_ok (line_end a.0.1) _ _ v.2 in
    record {
      item = a.0.0;
      value = v.0;
      got = v.1;
      is = ok_is (make v.0) b end.2;
      has = λ text said. item_before line a.0.0 a.0.1 text [] (next_is line a.0.0 a.0.1 a.1) said (none_left a.0.1 (at_end a.0.1 end.0 end.1));
    }

pub last_taken : {A B : Type 0} (f : Item → Result A Stop) (make : A → B) (line : Line) (a : A) (text : List ℕ) → Has line (text ∷ [])
    → ((item : Item) → item.text ≡ text → f item ≡ Ok a) → last_item f make line ≡ Ok (make a)
last_taken f make line a text has got =
    let t = take_first line text [] has in
    then_go (next_item line) (t.item, t.rest) _ _ t.gives
    (then_go (f t.item) a _ _ (got t.item t.said)
    (then_go (line_end t.rest) tt _ _ (take_end t.rest t.has) refl))

-- a line that ends
pub ended_read : {A : Type 0} (line : Line) (value a : A) → pieces.at_end line value ≡ Ok a → (a ≡ value) × Has line []
ended_read line value a e =
    let end = then_ok (line_end line) _ _ e in
    (ok_is value a end.2, none_left line (at_end line end.0 end.1))

pub ended_taken : {A : Type 0} (line : Line) (value : A) → Has line [] → pieces.at_end line value ≡ Ok value
ended_taken line value has = then_go (line_end line) tt _ _ (take_end line has) refl

-- all items of a line that are left
pub all_read : {A : Type 0} (line : Line) (read : List Item → Result A Stop) (a : A) → pieces.with_all line read ≡ Ok a → (read line.items ≡ Ok a) × Ended line
all_read line read a e =
    let r = then_ok (read line.items) _ _ e in
    let end = ended_read (record { items = []; end = line.end }) r.0 a r.2 in
    (r.1 ∙ ap Ok (sym end.0), end.1.ends)

pub all_taken : {A : Type 0} (line : Line) (read : List Item → Result A Stop) (a : A) → Ended line → read line.items ≡ Ok a → pieces.with_all line read ≡ Ok a
all_taken line read a ends e =
    then_go (read line.items) a _ _ e (ended_taken (record { items = []; end = line.end }) a (record { items = refl; ends = ends }))

-- lists with one more item
pub each_none : {A : Type 0} (P : A → Type 0) (xs : List A) → xs ≡ [] → Each P xs
each_none P xs none = subst (λ l. Each P l) (sym none) tt

pub more_few : {A : Type 0} (most : ℕ) (xs : List A) (x : A) → nat_le most (length xs) ≡ false → length (xs ++ x ∷ []) ≤ most
more_few most xs x e =
    let long : length (xs ++ x ∷ []) ≡ length xs + length (x ∷ []) = length-append xs (x ∷ []) in
    let below = under most (length xs) e in
    omega (arith, long, below)
  where
    under : (most n : ℕ) → nat_le most n ≡ false → n < most
    under most n e = grind (arith, nat_tests)

-- symbols at places, and one more
pub placed_snoc : (next : ℕ) (syms : List Sym) (s : Sym) → are_placed next syms ≡ true → s.0 ≤ next_behind next syms → are_placed next (syms ++ s ∷ []) ≡ true
placed_snoc next [] s placed small = and_from (nat_le s.0 next) true (within s.0 next small) refl
  where
    within : (a b : ℕ) → a ≤ b → nat_le a b ≡ true
    within a b small = grind (arith, nat_tests)
placed_snoc next (t ∷ syms) s placed small =
    let both = and_parts (nat_le t.0 next) (are_placed (items.next_after next t) syms) placed in
    and_from (nat_le t.0 next) (are_placed (items.next_after next t) (syms ++ s ∷ [])) both.0 (placed_snoc (items.next_after next t) syms s both.1 small)

pub behind_snoc : (next : ℕ) (syms : List Sym) (s : Sym) → next_behind next (syms ++ s ∷ []) ≡ items.next_after (next_behind next syms) s
behind_snoc next [] s = refl
behind_snoc next (t ∷ syms) s = behind_snoc (items.next_after next t) syms s

pub next_small : (next : ℕ) (s : Sym) → items.next_after next s ≤ MOST_NUMBER
next_small next s = omega arith

-- the words of the lines of a piece
abbrev pub word_text : PieceWord → List ℕ
word_text k = elim k [
  | Stack ↦ codes "stack"
  | Var ↦ codes "var"
  | Field ↦ codes "field"
  | Is ↦ codes "is"
  | Int ↦ codes "int"
  | Text ↦ codes "text"
  | Call ↦ codes "call"
  | Block ↦ codes "block"
  | Blank ↦ codes "blank"
  | Nonblank ↦ codes "nonblank"
  | Wellformed ↦ codes "wellformed"
  | Row ↦ codes "row"
]

-- the first of some words, or what comes for another one
named_word : {A : Type 0} (P : A → Type 0) (text word : List ℕ) (value : A) (rest : Option A) (k : A)
    → cond (same_name text word) (Some value) rest ≡ Some k → (text ≡ word → P value) → (rest ≡ Some k → P k) → P k
named_word {A} P text word value rest k e here next = by_test (same_name text word) refl e
  where
    some_of : (x y : A) → Some x ≡ Some y → y ≡ x
    some_of x y e = cc

    by_test : (t : Bool) → same_name text word ≡ t → cond t (Some value) rest ≡ Some k → P k
    by_test true is f = subst P (sym (some_of value k f)) (here (same_bytes text word is))
    by_test false is f = next f

-- a word that is found in a table has its name, where each word of the table has
pub among_said : {A : Type 0} (name : A → List ℕ) (text : List ℕ) (table : List (List ℕ × A)) (k : A)
    → map (λ e. e.0) table ≡ map (λ e. name e.1) table → among text table ≡ Some k → text ≡ name k
among_said name text [] k are e = absurd (cc)
among_said name text (first ∷ table) k are e =
    named_word (λ w. text ≡ name w) text first.0 first.1 (among text table) k e (λ s. s ∙ ap first_text are)
    (among_said name text table k (ap other_texts are))

word_said : (text : List ℕ) (k : PieceWord) → among text pieces.piece_words ≡ Some k → text ≡ word_text k
word_said text k = among_said word_text text pieces.piece_words k refl

-- the word of a line of a piece, and that the line may come
pub due : (s : PieceStage) (text : List ℕ) (k : PieceWord) → pieces.piece_word s text ≡ Some k
    → (text ≡ word_text k) × (pieces.stage_rank s ≤ pieces.word_rank k)
due s text k e = by_word (among text pieces.piece_words) refl e
  where
    in_order : (a b : ℕ) → nat_le a b ≡ true → a ≤ b
    in_order a b e = grind (arith, nat_tests)

    some_of : (x y : PieceWord) → Some x ≡ Some y → y ≡ x
    some_of x y e = cc

    by_rank : (w : PieceWord) (t : Bool) → nat_le (pieces.stage_rank s) (pieces.word_rank w) ≡ t → text ≡ word_text w → cond t (Some w) None ≡ Some k
        → (text ≡ word_text k) × (pieces.stage_rank s ≤ pieces.word_rank k)
    by_rank w true is said f =
        subst (λ (x : PieceWord). (text ≡ word_text x) × (pieces.stage_rank s ≤ pieces.word_rank x)) (sym (some_of w k f))
        (said, in_order (pieces.stage_rank s) (pieces.word_rank w) is)
    by_rank w false is said f = absurd (cc)

    by_word : (o : Option PieceWord) → among text pieces.piece_words ≡ o → option_and_then (pieces.where_due s) o ≡ Some k
        → (text ≡ word_text k) × (pieces.stage_rank s ≤ pieces.word_rank k)
    by_word (Some w) is f = by_rank w (nat_le (pieces.stage_rank s) (pieces.word_rank w)) refl (word_said text w is) f
    by_word None is f = absurd (cc)

pub due_taken : (s : PieceStage) (k : PieceWord) (text : List ℕ) → text ≡ word_text k → pieces.stage_rank s ≤ pieces.word_rank k
    → pieces.piece_word s text ≡ Some k
due_taken s k text said small = ap (pieces.piece_word s) said ∙ by_kind k (ordered (pieces.stage_rank s) (pieces.word_rank k) small)
  where
    ordered : (a b : ℕ) → a ≤ b → nat_le a b ≡ true
    ordered a b small = grind (arith, nat_tests)

    by_kind : (k : PieceWord) → nat_le (pieces.stage_rank s) (pieces.word_rank k) ≡ true → pieces.piece_word s (word_text k) ≡ Some k
    by_kind Stack e = rw e refl
    by_kind _ e = rw e refl
