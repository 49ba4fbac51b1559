-- Hints: what is read is what they spell within their limits, and what is spelled is read.
use Rattle.std.proofs.Common.{◌≡◌, ℕ, ◌+◌, ◌<◌, ◌≤◌, Bool, true, false, cond, nat_le, List, [], ◌∷◌, ◌++◌, length, length-append, map, Result, Ok, codes, lit≤, refl, sym, ap, subst, ◌∙◌, append_assoc, arith}
use Rattle.std.specs.Fmt.{decimal}
use Rattle.std.proofs.lemmas.Bool.Decides.{nat_tests}
use Rattle.std.proofs.lemmas.List.{append-nil}
use Rattle.bv_base.specs.Answers.{then_do}
use Rattle.bv_base.proofs.ThenLemmas.{ok, ok_is, then_ok, unless_ok}
use Rattle.name_table.specs.Sound.{Each}
use Rattle.sym_state.specs.declared.hint.Hint.{Hint}
use Rattle.sym_state.specs.declared.hint.Hint.TheVariants as hint
use Rattle.sym_state.specs.declared.proof.Proof.{Proof}
use Rattle.sym_state.specs.declared.proof.Use.{Use}
use Rattle.sym_state.proofs.Consequences.{same_bytes}
use Rattle.cert_format.specs.declared.items.TheConstants.{MOST_NUMBER}
use Rattle.cert_format.specs.CertText.{IsHint, IsProof, IsUse}
use Rattle.cert_format.specs.Conditions.{last_natural}
use Rattle.cert_format.specs.HintSpelling.{hint_items, proof_items, use_text}
use Rattle.cert_format.specs.Hints.{add_uses, hint_line, proof_line, use_item}
use Rattle.cert_format.specs.Items.{is_word, positive}
use Rattle.cert_format.specs.Lines.{Item, Line, next_item, with_item}
use Rattle.cert_format.specs.Pieces as pieces
use Rattle.cert_format.specs.declared.stop.Stop.{Stop}
use Rattle.cert_format.proofs.CertItems.{positive_read, positive_taken}
use Rattle.cert_format.proofs.CertKept.{all_read, all_taken, ended_read, ended_taken, more_few}
use Rattle.cert_format.proofs.CertUses.{use_read, use_taken}
use Rattle.cert_format.proofs.CondKept.{each_snoc, last_kept}
use Rattle.cert_format.proofs.CondRead.{Has, item_before, next_is, number_read}
use Rattle.cert_format.proofs.CondTaken.{first_text, number_taken, other_texts, take_first, then_go}
use Rattle.cert_format.proofs.Split.{texts_of}

-- uses that are read behind others
record Added (before all : List Use) (texts_here : List (List ℕ)) : Type 0 where
  pub added : List Use
  pub is : all ≡ before ++ added
  pub said : texts_here ≡ map use_text added
  pub each : Each IsUse all
  pub few : length all ≤ 64

uses_read : (more : List Item) (before all : List Use) → Each IsUse before → length before ≤ 64 → add_uses more before ≡ Ok all
    → Added before all (texts_of more)
uses_read [] before all each few e =
    let is : all ≡ before = ok_is before all e in
    record {
      added = [];
      is = is ∙ sym (append-nil before);
      said = refl;
      each = subst (Each IsUse) (sym is) each;
      few = subst (λ (l : List Use). length l ≤ 64) (sym is) few;
    }
uses_read (item ∷ more) before all each few e =
    let a = then_ok (use_item item) _ _ e in
    let b = unless_ok (nat_le 64 (length before)) _ _ _ a.2 in
    let u = use_read item a.0 a.1 in
    let r = uses_read more (before ++ a.0 ∷ []) all (each_snoc IsUse before a.0 each u.1) (more_few 64 before a.0 b.0) b.1 in
    record {
      added = a.0 ∷ r.added;
      is = r.is ∙ append_assoc before (a.0 ∷ []) r.added;
      said = ap (λ (t : List ℕ). t ∷ texts_of more) u.0 ∙ ap (λ (l : List (List ℕ)). use_text a.0 ∷ l) r.said;
      each = r.each;
      few = r.few;
    }

proof_read : (line : Line) (proof : Proof) → proof_line line ≡ Ok proof → Has line (proof_items proof) × IsProof proof
proof_read line proof e =
    let a = then_ok (next_item line) _ _ e in
    let b = then_ok (positive MOST_NUMBER a.0.0) _ _ a.2 in
    let c = then_ok (pieces.with_all a.0.1 (λ more. add_uses more [])) _ _ b.2 in
    let d = all_read a.0.1 (λ more. add_uses more []) c.0 c.1 in
    let r = uses_read a.0.1.items [] c.0 tt (lit≤ tt) d.0 in
    let p = positive_read MOST_NUMBER a.0.0 b.0 (omega arith) b.1 in
    let given : Proof = record { divisor = b.0; uses = c.0 } in
    let is : proof ≡ given = ok_is given proof c.2 in
    let good : IsProof given = record { divisor = (p.1, p.2); uses = r.each; few = r.few } in
    let has : Has line (proof_items given) =
    item_before line a.0.0 a.0.1 (decimal b.0) (map use_text c.0) (next_is line a.0.0 a.0.1 a.1) p.0
    (record { items = r.said ∙ ap (λ (l : List Use). map use_text l) (sym r.is); ends = d.1 }) in
    (subst (λ (x : Proof). Has line (proof_items x)) (sym is) has, subst IsProof (sym is) good)

full : (n : ℕ) → n < 64 → nat_le 64 n ≡ false
full n small = grind (arith, nat_tests)

uses_taken : (more : List Item) (uses before : List Use) → Each IsUse uses → length before + length uses ≤ 64 → texts_of more ≡ map use_text uses
    → add_uses more before ≡ Ok (before ++ uses)
uses_taken [] [] before each few said = ap Ok (sym (append-nil before))
uses_taken (item ∷ more) [] before each few said = absurd (cc)
uses_taken [] (x ∷ uses) before each few said = absurd (cc)
uses_taken (item ∷ more) (x ∷ uses) before each few said =
    let long : length (before ++ x ∷ []) ≡ length before + length (x ∷ []) = length-append before (x ∷ []) in
    then_go (use_item item) x _ _ (use_taken item x each.0 (ap first_text said))
    (rw (full (length before) (omega (arith, few)))
    (uses_taken more uses (before ++ x ∷ []) each.1 (omega (arith, long, few)) (ap other_texts said) ∙ ap Ok (append_assoc before (x ∷ []) uses)))

proof_taken : (line : Line) (proof : Proof) → IsProof proof → Has line (proof_items proof) → proof_line line ≡ Ok proof
proof_taken line proof is has =
    let t = take_first line (decimal proof.divisor) (map use_text proof.uses) has in
    then_go (next_item line) (t.item, t.rest) _ _ t.gives
    (then_go (positive MOST_NUMBER t.item) proof.divisor _ _ (positive_taken MOST_NUMBER t.item proof.divisor (omega arith) is.divisor.0 is.divisor.1 t.said)
    (then_go (pieces.with_all t.rest (λ more. add_uses more [])) proof.uses _ _
    (all_taken t.rest (λ more. add_uses more []) proof.uses t.has.ends
    (uses_taken t.rest.items proof.uses [] is.uses (alone (length proof.uses) is.few) t.has.items)) refl))
  where
    alone : (n : ℕ) → n ≤ 64 → 0 + n ≤ 64
    alone n few = omega (arith, few)

-- the line of a hint: its spelling, and that it is within its limits
record Hinted (line : Line) (h : Hint) : Type 0 where
  pub has : Has line (hint_items h)
  pub is : IsHint h

-- the first of some words, or what comes for another one
branch : {A : Type 0} (P : Type 0) (word : Item) (text : List ℕ) (here rest : Result A Stop) (a : A) → cond (is_word text word) here rest ≡ Ok a
    → (word.text ≡ text → here ≡ Ok a → P) → (rest ≡ Ok a → P) → P
branch {A} P word text here rest a e first next = by_test (is_word text word) refl e
  where
    by_test : (t : Bool) → is_word text word ≡ t → cond t here rest ≡ Ok a → P
    by_test true is f = first (same_bytes word.text text is) f
    by_test false is f = next f

-- a hint with a number
number_hint : (make : ℕ → Hint) (text : List ℕ) (word : Item) (rest line : Line) (h : Hint) → line ≡ with_item word rest
    → ((n : ℕ) → hint_items (make n) ≡ text ∷ (decimal n ∷ [])) → ((n : ℕ) → n ≤ 1073741824 → IsHint (make n)) → word.text ≡ text
    → then_do (last_natural 1073741824 rest) (λ n. ok {E = Stop} (make n)) ≡ Ok h → Hinted line h
number_hint make text word rest line h is spelled within said e =
    let a = then_ok (last_natural 1073741824 rest) _ _ e in
    let same : h ≡ make a.0 = ok_is (make a.0) h a.2 in
    let has : Has line (text ∷ (decimal a.0 ∷ [])) = item_before line word rest text (decimal a.0 ∷ []) is said (number_read 1073741824 rest a.0 (lit≤ tt) a.1) in
    let good : Hinted line (make a.0) =
    record {
      has = record { items = has.items ∙ sym (spelled a.0); ends = has.ends };
      is = within a.0 (last_kept 1073741824 rest a.0 (lit≤ tt) a.1);
    } in
    subst (Hinted line) (sym same) good

-- a hint with a proof
proof_hint : (make : Proof → Hint) (text : List ℕ) (word : Item) (rest line : Line) (h : Hint) → line ≡ with_item word rest
    → ((p : Proof) → hint_items (make p) ≡ text ∷ proof_items p) → ((p : Proof) → IsProof p → IsHint (make p)) → word.text ≡ text
    → then_do (proof_line rest) (λ p. ok {E = Stop} (make p)) ≡ Ok h → Hinted line h
proof_hint make text word rest line h is spelled within said e =
    let a = then_ok (proof_line rest) _ _ e in
    let r = proof_read rest a.0 a.1 in
    let same : h ≡ make a.0 = ok_is (make a.0) h a.2 in
    let has : Has line (text ∷ proof_items a.0) = item_before line word rest text (proof_items a.0) is said r.0 in
    let good : Hinted line (make a.0) = record { has = record { items = has.items ∙ sym (spelled a.0); ends = has.ends }; is = within a.0 r.1 } in
    subst (Hinted line) (sym same) good

-- a hint without a number
plain_hint : (value : Hint) (text : List ℕ) (word : Item) (rest line : Line) (h : Hint) → line ≡ with_item word rest → hint_items value ≡ text ∷ []
    → IsHint value → word.text ≡ text → pieces.at_end rest value ≡ Ok h → Hinted line h
plain_hint value text word rest line h is spelled within said e =
    let r = ended_read rest value h e in
    let has : Has line (text ∷ []) = item_before line word rest text [] is said r.1 in
    let good : Hinted line value = record { has = record { items = has.items ∙ sym spelled; ends = has.ends }; is = within } in
    subst (Hinted line) (sym r.0) good

pub hint_read : (word : Item) (rest line : Line) (h : Hint) → line ≡ with_item word rest → hint_line word rest ≡ Ok h
    → Has line (hint_items h) × IsHint h
hint_read word rest line h is e =
    let all : Hinted line h =
    branch (Hinted line h) word (codes "step") _ _ h e
    (λ s f. proof_hint hint.Step (codes "step") word rest line h is (λ p. refl) (λ p g. g) s f) (λ e1.
    branch (Hinted line h) word (codes "case") _ _ h e1
    (λ s f. number_hint hint.Case (codes "case") word rest line h is (λ n. refl) (λ n g. g) s f) (λ e2.
    branch (Hinted line h) word (codes "use") _ _ h e2
    (λ s f. number_hint hint.Apply (codes "use") word rest line h is (λ n. refl) (λ n g. g) s f) (λ e3.
    branch (Hinted line h) word (codes "loop") _ _ h e3
    (λ s f. number_hint hint.Loop (codes "loop") word rest line h is (λ n. refl) (λ n g. g) s f) (λ e4.
    branch (Hinted line h) word (codes "drop") _ _ h e4
    (λ s f. proof_hint hint.Drop (codes "drop") word rest line h is (λ p. refl) (λ p g. g) s f) (λ e5.
    branch (Hinted line h) word (codes "walk") _ _ h e5
    (λ s f. plain_hint hint.Walk (codes "walk") word rest line h is refl tt s f) (λ e6.
    branch (Hinted line h) word (codes "plain") _ _ h e6
    (λ s f. plain_hint hint.Plain (codes "plain") word rest line h is refl tt s f) (λ e7.
    branch (Hinted line h) word (codes "keep") _ _ h e7
    (λ s f. plain_hint hint.Keep (codes "keep") word rest line h is refl tt s f) (λ e8. absurd (cc))))))))) in
    (all.has, all.is)

-- the word of a hint, and what stands behind it
abbrev pub hint_word : Hint → List ℕ
hint_word (hint.Apply n) = codes "use"
hint_word hint.Walk = codes "walk"
hint_word (hint.Loop n) = codes "loop"
hint_word (hint.Case n) = codes "case"
hint_word hint.Plain = codes "plain"
hint_word hint.Keep = codes "keep"
hint_word (hint.Drop p) = codes "drop"
hint_word (hint.Step p) = codes "step"

abbrev pub hint_more : Hint → List (List ℕ)
hint_more (hint.Apply n) = decimal n ∷ []
hint_more hint.Walk = []
hint_more (hint.Loop n) = decimal n ∷ []
hint_more (hint.Case n) = decimal n ∷ []
hint_more hint.Plain = []
hint_more hint.Keep = []
hint_more (hint.Drop p) = proof_items p
hint_more (hint.Step p) = proof_items p

pub hint_spelled : (h : Hint) → hint_items h ≡ hint_word h ∷ hint_more h
hint_spelled (hint.Apply n) = refl
hint_spelled hint.Walk = refl
hint_spelled (hint.Loop n) = refl
hint_spelled (hint.Case n) = refl
hint_spelled hint.Plain = refl
hint_spelled hint.Keep = refl
hint_spelled (hint.Drop p) = refl
hint_spelled (hint.Step p) = refl

-- a word by its text
abbrev worded : List ℕ → ℕ → Item
worded text left = record { text = text; left = left }

hint_by : (left : ℕ) (rest : Line) (h : Hint) → IsHint h → Has rest (hint_more h) → hint_line (worded (hint_word h) left) rest ≡ Ok h
hint_by left rest (hint.Apply n) is has = then_go (last_natural 1073741824 rest) n _ _ (number_taken 1073741824 n rest (lit≤ tt) is has) refl
hint_by left rest hint.Walk is has = ended_taken rest hint.Walk has
hint_by left rest (hint.Loop n) is has = then_go (last_natural 1073741824 rest) n _ _ (number_taken 1073741824 n rest (lit≤ tt) is has) refl
hint_by left rest (hint.Case n) is has = then_go (last_natural 1073741824 rest) n _ _ (number_taken 1073741824 n rest (lit≤ tt) is has) refl
hint_by left rest hint.Plain is has = ended_taken rest hint.Plain has
hint_by left rest hint.Keep is has = ended_taken rest hint.Keep has
hint_by left rest (hint.Drop p) is has = then_go (proof_line rest) p _ _ (proof_taken rest p is has) refl
hint_by left rest (hint.Step p) is has = then_go (proof_line rest) p _ _ (proof_taken rest p is has) refl

pub hint_taken : (word : Item) (rest : Line) (h : Hint) → IsHint h → word.text ≡ hint_word h → Has rest (hint_more h) → hint_line word rest ≡ Ok h
hint_taken word rest h is said has =
    ap (λ (t : List ℕ). hint_line (worded t word.left) rest) said ∙ hint_by word.left rest h is has

-- no hint is the end of the hints
pub not_end : (h : Hint) (left : ℕ) → is_word (codes "end") (worded (hint_word h) left) ≡ false
not_end (hint.Apply n) left = refl
not_end hint.Walk left = refl
not_end (hint.Loop n) left = refl
not_end (hint.Case n) left = refl
not_end hint.Plain left = refl
not_end hint.Keep left = refl
not_end (hint.Drop p) left = refl
not_end (hint.Step p) left = refl
