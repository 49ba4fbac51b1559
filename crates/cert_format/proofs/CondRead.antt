-- The lines of a condition that are read are those that it spells.
use Rattle.std.proofs.Common.{◌≡◌, ℕ, ◌<◌, ◌≤◌, Bool, true, false, cond, nat_eq, List, [], ◌∷◌, Ok, Err, codes, refl, sym, ap, subst, ◌∙◌, arith}
use Rattle.std.specs.Fmt.{decimal}
use Rattle.std.proofs.lemmas.Bool.Decides.{nat_tests}
use Rattle.bv_base.proofs.ThenLemmas.{ok_is, then_ok, unless_ok, where_ok}
use Rattle.sym_state.proofs.Consequences.{same_bytes}
use Rattle.cert_format.specs.Conditions as conditions
use Rattle.cert_format.specs.Items.{choice, expected, is_word, natural}
use Rattle.cert_format.specs.Lines.{Item, Line, ended_by, line_end, next_item, next_of, with_item}
use Rattle.cert_format.specs.Spelling.{choice_text}
use Rattle.cert_format.specs.declared.items.TheConstants.{MOST_NUMBER}
use Rattle.cert_format.specs.declared.stop.Stop.{Stop}
use Rattle.cert_format.proofs.Numerals.{natural_read}
use Rattle.cert_format.proofs.Split.{Ended, texts, texts_of}

-- a line gives its first item
item_is : (end : ℕ) (items : List Item) (item : Item) (rest : Line) → next_of end items ≡ Ok (item, rest)
    → record { items = items; end = end } ≡ with_item item rest
item_is end [] item rest e = absurd (cc)
item_is end (first ∷ items) item rest e =
    let given : Item × Line = (first, record { items = items; end = end }) in
    let wanted : Item × Line = (item, rest) in
    let same : wanted ≡ given = ok_is given wanted e in
    sym (ap (λ (p : Item × Line). with_item p.0 p.1) same)

pub next_is : (line : Line) (item : Item) (rest : Line) → next_item line ≡ Ok (item, rest) → line ≡ with_item item rest
next_is line item rest e = item_is line.end line.items item rest e

-- no item is left, and the line ends with byte 10
pub record AtEnd (line : Line) : Type 0 where
  pub none : line.items ≡ []
  pub ends : Ended line

above_zero : (n : ℕ) → nat_eq n 0 ≡ false → 0 < n
above_zero n e = grind (arith, nat_tests)

ended_is : (end : ℕ) (items : List Item) (u : Unit {0}) → ended_by end items ≡ Ok u → (items ≡ []) × (0 < end)
ended_is end [] u e = (refl, above_zero end (unless_ok (nat_eq end 0) _ _ _ e).0)
ended_is end (item ∷ items) u e = absurd (cc)

pub at_end : (line : Line) (u : Unit {0}) → line_end line ≡ Ok u → AtEnd line
at_end line u e = let both = ended_is line.end line.items u e in record { none = both.0; ends = both.1 }

-- the item is the word that is expected
pub word_is : (text : List ℕ) (word : Item) (u : Unit {0}) → expected text word ≡ Ok u → word.text ≡ text
word_is text word u e = same_bytes word.text text (where_ok _ _ _ _ e).0

-- the items of a line from its first on
pub record Has (line : Line) (wanted : List (List ℕ)) : Type 0 where
  pub items : texts line ≡ wanted
  pub ends : Ended line

-- an item before the last ones
pub item_before : (line : Line) (item : Item) (rest : Line) (text : List ℕ) (more : List (List ℕ)) → line ≡ with_item item rest → item.text ≡ text
    → Has rest more → Has line (text ∷ more)
item_before line item rest text more is said has =
    record {
      items = ap texts is ∙ ap (λ (t : List ℕ). t ∷ texts rest) said ∙ ap (λ (l : List (List ℕ)). text ∷ l) has.items;
      ends = subst Ended (sym is) has.ends;
    }

pub none_left : (line : Line) → AtEnd line → Has line []
none_left line at = record { items = ap texts_of at.none; ends = at.ends }

-- a number that ends its line
pub number_read : (most : ℕ) (line : Line) (n : ℕ) → most ≤ MOST_NUMBER → conditions.last_natural most line ≡ Ok n → Has line (decimal n ∷ [])
number_read most line n bound e =
    let a = then_ok (next_item line) _ _ e in
    let b = then_ok (natural most a.0.0) _ _ a.2 in
    let c = then_ok (line_end a.0.1) _ _ b.2 in
    let said = (natural_read most a.0.0 b.0 bound b.1).spelled in
    item_before line a.0.0 a.0.1 (decimal n) [] (next_is line a.0.0 a.0.1 a.1) (said ∙ ap decimal (sym (ok_is b.0 n c.2))) (none_left a.0.1 (at_end a.0.1 c.0 c.1))

-- a word and a number
pub record Numbered (text : List ℕ) (word : Item) (line : Line) (n : ℕ) : Type 0 where
  pub word_said : word.text ≡ text
  pub has : Has line (decimal n ∷ [])

pub numbered : (text : List ℕ) (most : ℕ) (word : Item) (line : Line) (n : ℕ) → most ≤ MOST_NUMBER → conditions.number_line text most word line ≡ Ok n
    → Numbered text word line n
numbered text most word line n bound e =
    let a = then_ok (expected text word) _ _ e in
    record { word_said = word_is text word a.0 a.1; has = number_read most line n bound a.2 }

-- a choice is spelled so
pub choice_read : (item : Item) (other : Bool) → choice item ≡ Ok other → item.text ≡ choice_text other
choice_read item other e = by_yes (is_word (codes "yes") item) refl (is_word (codes "no") item) refl _ e
  where
    by_no : (t : Bool) → is_word (codes "no") item ≡ t → (s : Stop) → cond t (Ok false) (Err s) ≡ Ok other → item.text ≡ choice_text other
    by_no true is s e = same_bytes item.text (codes "no") is ∙ ap choice_text (sym (ok_is false other e))
    by_no false is s e = absurd (cc)

    by_yes : (t : Bool) → is_word (codes "yes") item ≡ t → (f : Bool) → is_word (codes "no") item ≡ f → (s : Stop)
        → cond t (Ok true) (cond f (Ok false) (Err s)) ≡ Ok other → item.text ≡ choice_text other
    by_yes true is f ruled s e = same_bytes item.text (codes "yes") is ∙ ap choice_text (sym (ok_is true other e))
    by_yes false is f ruled s e = by_no f ruled s e
