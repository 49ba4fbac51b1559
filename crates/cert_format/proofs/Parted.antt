-- The coefficients and terms of a row, one after the other.
use Rattle.std.proofs.Common.{◌≡◌, ℕ, ℤ, ◌<◌, Bool, true, false, cond, nat_le, Result, Ok, Err, List, [], ◌∷◌, ◌++◌, length, refl, sym, ap, ◌∙◌, arith}
use Rattle.lin_facts.specs.declared.row.Part.{Part}
use Rattle.lin_facts.specs.declared.row.Term.{Term}
use Rattle.bv_base.proofs.ThenLemmas.{ok, ok_is}
use Rattle.bv_base.specs.Answers.{then_do}
use Rattle.cert_format.specs.Items.{last_of}
use Rattle.cert_format.specs.Lines.{Item, Line}
use Rattle.cert_format.specs.PieceItems.{coefficient, term_behind}
use Rattle.cert_format.specs.declared.limits.TheConstants.{MOST_TERMS}
use Rattle.cert_format.specs.declared.stop.Stop.TheVariants.{Syntax, TooMany}
use Rattle.cert_format.specs.Pieces.{part, parts}
use Rattle.cert_format.specs.declared.stop.Stop.{Stop}

-- a part takes the item after its first
pub record Parted (has_pos : Bool) (next : ℕ) (first : Item) (items : List Item) (end : ℕ) (before : List Part) (found : Part) (line : Line) : Type 0 where
  pub goes : parts has_pos next end (first ∷ items) before ≡ parts has_pos next line.end line.items (before ++ found ∷ [])
  pub ends : line.end ≡ end
  pub shorter : length line.items < length items

parted_pair : (has_pos : Bool) (next : ℕ) (first second : Item) (more : List Item) (end : ℕ) (before : List Part) (found : Part) (line : Line)
    → line ≡ record { items = more; end = end }
    → part has_pos next before first (record { items = second ∷ more; end = end }) ≡ Ok (found, line)
    → Parted has_pos next first (second ∷ more) end before found line
parted_pair has_pos next first second more end before found line is read =
    record {
      goes = ap (λ r. then_do r (λ f. parts has_pos next end more (before ++ f.0 ∷ []))) read
          ∙ ap (λ (l : Line). parts has_pos next l.end l.items (before ++ found ∷ [])) (sym is);
      ends = ap (λ (l : Line). l.end) is;
      shorter = omega (arith, ap (λ (l : Line). length l.items) is);
    }

-- a part without an item after its first is at fault
never : {A B : Type 0} (r : Result A Stop) (t : Bool) (x y : Stop) (b : B) → then_do r (λ _. cond t (Err x) (Err y)) ≡ Ok b → ⊥
never (Ok a) true x y b e = absurd (cc)
never (Ok a) false x y b e = absurd (cc)
never (Err f) t x y b e = absurd (cc)

-- what is left after a part
took : (r : Result ℤ Stop) (t : Bool) (x : Stop) (s : Result Term Stop) (left line : Line) (found : Part)
    → then_do {B = Part × Line} r (λ c. cond t (Err x) (then_do {B = Part × Line} s (λ u. Ok (record { coefficient = c; term = u }, left)))) ≡ Ok (found, line) → line ≡ left
took (Ok c) true x s left line found e = absurd (cc)
took (Ok c) false x (Ok u) left line found e =
    let given : Part × Line = (record { coefficient = c; term = u }, left) in
    let wanted : Part × Line = (found, line) in
    ap (λ (q : Part × Line). q.1) (ok_is given wanted e)
took (Ok c) false x (Err f) left line found e = absurd (cc)
took (Err f) t x s left line found e = absurd (cc)

pub parted : (has_pos : Bool) (next : ℕ) (first : Item) (items : List Item) (end : ℕ) (before : List Part) (found : Part) (line : Line)
    → part has_pos next before first (record { items = items; end = end }) ≡ Ok (found, line)
    → Parted has_pos next first items end before found line
parted has_pos next first [] end before found line read =
    absurd (never (coefficient first) (nat_le MOST_TERMS (length before)) (TooMany first.left) (Syntax end) (found, line) read)
parted has_pos next first (second ∷ more) end before found line read =
    parted_pair has_pos next first second more end before found line
    (took (coefficient first) (nat_le MOST_TERMS (length before)) (TooMany first.left) (term_behind has_pos next (last_of before) second)
    (record { items = more; end = end }) line found read)
    read

none_left : (has_pos : Bool) (next end : ℕ) (first : Item) (before : List Part) (r : Result (Part × Line) Stop)
    → part has_pos next before first (record { items = []; end = end }) ≡ r
    → then_do r (λ found. ok {E = Stop} (before ++ found.0 ∷ []))
    ≡ then_do r (λ found. parts has_pos next found.1.end found.1.items (before ++ found.0 ∷ []))
none_left has_pos next end first before (Ok found) e =
    absurd (nothing_below (length found.1.items) (parted has_pos next first [] end before found.0 found.1 e).shorter)
  where
    nothing_below : (n : ℕ) → n < 0 → ⊥
    nothing_below n h = omega (arith, h)
none_left has_pos next end first before (Err stop) e = refl

some_left : (has_pos : Bool) (next end : ℕ) (first second : Item) (more : List Item) (before : List Part) (r : Result (Part × Line) Stop)
    → part has_pos next before first (record { items = second ∷ more; end = end }) ≡ r
    → then_do r (λ found. parts has_pos next end more (before ++ found.0 ∷ []))
    ≡ then_do r (λ found. parts has_pos next found.1.end found.1.items (before ++ found.0 ∷ []))
some_left has_pos next end first second more before (Ok found) e =
    ap (λ r. then_do r (λ f. parts has_pos next end more (before ++ f.0 ∷ []))) (sym e)
    ∙ (parted has_pos next first (second ∷ more) end before found.0 found.1 e).goes
some_left has_pos next end first second more before (Err stop) e = refl

parts_by : (has_pos : Bool) (next end : ℕ) (first : Item) (items : List Item) (before : List Part)
    → parts has_pos next end (first ∷ items) before
    ≡ then_do (part has_pos next before first (record { items = items; end = end })) (λ found. parts has_pos next found.1.end found.1.items (before ++ found.0 ∷ []))
parts_by has_pos next end first [] before = none_left has_pos next end first before _ refl
parts_by has_pos next end first (second ∷ more) before = some_left has_pos next end first second more before _ refl

-- the rest of a row from its first item on
pub one_part : (has_pos : Bool) (next : ℕ) (first : Item) (line : Line) (before : List Part)
    → parts has_pos next line.end (first ∷ line.items) before
    ≡ then_do (part has_pos next before first line) (λ found. parts has_pos next found.1.end found.1.items (before ++ found.0 ∷ []))
one_part has_pos next first line before = parts_by has_pos next line.end first line.items before
