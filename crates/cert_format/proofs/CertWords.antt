-- Words, texts, terms and references of certificates: what is read is what they spell, and what is spelled is read.
use Rattle.std.proofs.Common.{◌≡◌, ℕ, ◌+◌, ◌*◌, ◌-◌, ◌/◌, ◌%◌, ◌<◌, ◌≤◌, Bool, true, false, ◌&&◌, cond, nat_eq, nat_lt, nat_le, List, [], ◌∷◌, ◌++◌, length, take, drop, Option, Some, None, Result, Ok, Err, codes, refl, sym, ap, subst, ◌∙◌, arith}
use Rattle.std.specs.Fmt.{decimal}
use Rattle.std.specs.Option.{option_map, option_map_or}
use Rattle.std.proofs.lemmas.Bool.Decides.{nat_tests}
use Rattle.std.proofs.lemmas.List.{take-append-drop}
use Rattle.std.specs.Cmp.Lexicographic.{pointwise}
use Rattle.bv_base.specs.Answers.{then_do}
use Rattle.bv_base.proofs.ThenLemmas.{ok, ok_is, then_ok}
use Rattle.bv_base.specs.Runs.{is_digit}
use Rattle.lin_facts.specs.declared.row.Term.{Term}
use Rattle.lin_facts.specs.declared.row.Term.TheVariants.{Value, Length, Names, Pos, Count}
use Rattle.name_table.specs.Numbers.{IsByteList}
use Rattle.sym_state.specs.declared.symbol.Kinds.{Kinds}
use Rattle.sym_state.specs.declared.symbol.Kinds.TheVariants.{Int as IntKind, Str, Missing, Optional, Func, Any}
use Rattle.sym_state.specs.declared.symbol.Sym.{Sym}
use Rattle.sym_state.proofs.Consequences.{same_bytes}
use Rattle.cert_format.specs.CertText.{IsTerm, has_word}
use Rattle.cert_format.specs.Items.{is_word}
use Rattle.cert_format.specs.Lines.{Item}
use Rattle.cert_format.specs.PieceItems as items
use Rattle.cert_format.specs.PieceSpelling.{hex_digit, hex_digits, hex_text, kind_text, term_text}
use Rattle.cert_format.specs.declared.items.TheConstants.{MOST_NUMBER}
use Rattle.cert_format.specs.declared.stop.Stop.{Stop}
use Rattle.cert_format.specs.declared.stop.Stop.TheVariants.{Syntax}
use Rattle.cert_format.proofs.CertItems.{known_read, known_taken}

-- the first of some words, or what comes for another one
pub pick : {A : Type 0} (P : A → Type 0) (word : List ℕ) (item : Item) (value : A) (rest : Result A Stop) (a : A)
    → cond (is_word word item) (Ok value) rest ≡ Ok a → (item.text ≡ word → P value) → (rest ≡ Ok a → P a) → P a
pick {A} P word item value rest a e here there = by_test (is_word word item) refl e
  where
    by_test : (t : Bool) → is_word word item ≡ t → cond t (Ok value) rest ≡ Ok a → P a
    by_test true is f = subst P (sym (ok_is value a f)) (here (same_bytes item.text word is))
    by_test false is f = there f

-- a kind
abbrev Kinded : Item → Kinds → Type 0
Kinded item k = (item.text ≡ kind_text k) × (has_word k ≡ true)

pub kind_read : (item : Item) (k : Kinds) → items.kind item ≡ Ok k → (item.text ≡ kind_text k) × (has_word k ≡ true)
kind_read item k e =
    pick (Kinded item) (codes "int") item IntKind _ k e (λ s. (s, refl)) (λ e1.
    pick (Kinded item) (codes "str") item Str _ k e1 (λ s. (s, refl)) (λ e2.
    pick (Kinded item) (codes "miss") item Missing _ k e2 (λ s. (s, refl)) (λ e3.
    pick (Kinded item) (codes "opt") item Optional _ k e3 (λ s. (s, refl)) (λ e4.
    pick (Kinded item) (codes "func") item Func _ k e4 (λ s. (s, refl)) (λ e5. absurd (cc))))))

kind_by : (left : ℕ) (k : Kinds) → has_word k ≡ true → items.kind (record { text = kind_text k; left = left }) ≡ Ok k
kind_by left IntKind e = refl
kind_by left Str e = refl
kind_by left Missing e = refl
kind_by left Optional e = refl
kind_by left Func e = refl
kind_by left Any e = absurd (cc)

pub kind_taken : (item : Item) (k : Kinds) → has_word k ≡ true → item.text ≡ kind_text k → items.kind item ≡ Ok k
kind_taken item k has said = ap (λ (t : List ℕ). items.kind (record { text = t; left = item.left })) said ∙ kind_by item.left k has

-- digits of base 16
low_digit : (b : ℕ) → is_digit b ≡ true → nat_lt (b - 48) 10 ≡ true
low_digit b e = grind (arith, nat_tests)

low_back : (b : ℕ) → is_digit b ≡ true → (b ≡ 48 + (b - 48)) × (b - 48 < 16)
low_back b e = (grind (arith, nat_tests), grind (arith, nat_tests))

high_digit : (b : ℕ) → nat_le 97 b && nat_le b 102 ≡ true → nat_lt (b - 87) 10 ≡ false
high_digit b e = grind (arith, nat_tests)

high_back : (b : ℕ) → nat_le 97 b && nat_le b 102 ≡ true → (b ≡ 87 + (b - 87)) × (b - 87 < 16)
high_back b e = (grind (arith, nat_tests), grind (arith, nat_tests))

some_of : {A : Type 0} (x y : A) → Some x ≡ Some y → y ≡ x
some_of x y e = cc

-- what a digit of base 16 is
abbrev Digit : ℕ → ℕ → Type 0
Digit b n = (b ≡ hex_digit n) × (n < 16)

pub digit_read : (b n : ℕ) → items.hex_value b ≡ Some n → Digit b n
digit_read b n e = by_low (is_digit b) refl (nat_le 97 b && nat_le b 102) refl e
  where
    by_low : (t : Bool) → is_digit b ≡ t → (u : Bool) → nat_le 97 b && nat_le b 102 ≡ u
        → cond t (Some (b - 48)) (cond u (Some (b - 87)) None) ≡ Some n → Digit b n
    by_low true is u also f =
        let back = low_back b is in
        subst (Digit b) (sym (some_of (b - 48) n f)) (rw (low_digit b is) back.0, back.1)
    by_low false is true also f =
        let back = high_back b also in
        subst (Digit b) (sym (some_of (b - 87) n f)) (rw (high_digit b also) back.0, back.1)
    by_low false is false also f = absurd (cc)

digit_low : (n : ℕ) → nat_lt n 10 ≡ true → is_digit (48 + n) ≡ true
digit_low n e = grind (arith, nat_tests)

digit_high : (n : ℕ) → nat_lt n 10 ≡ false → n < 16 → (is_digit (87 + n) ≡ false) × (nat_le 97 (87 + n) && nat_le (87 + n) 102 ≡ true)
digit_high n e small = (grind (arith, nat_tests), grind (arith, nat_tests))

pub digit_taken : (n : ℕ) → n < 16 → items.hex_value (hex_digit n) ≡ Some n
digit_taken n small = by_low (nat_lt n 10) refl
  where
    by_low : (t : Bool) → nat_lt n 10 ≡ t → items.hex_value (cond t (48 + n) (87 + n)) ≡ Some n
    by_low true is = let same : 48 + n - 48 ≡ n = omega arith in rw (digit_low n is) (ap Some same)
    by_low false is =
        let both = digit_high n is small in
        let same : 87 + n - 87 ≡ n = omega arith in
        rw both.0 (rw both.1 (ap Some same))

-- bytes by their digits
abbrev Bytes : List ℕ → List ℕ → Type 0
Bytes digits bytes = (digits ≡ hex_digits bytes) × IsByteList bytes

two_digits : (h l : ℕ) → h < 16 → l < 16 → ((16 * h + l) / 16 ≡ h) × ((16 * h + l) % 16 ≡ l) × (16 * h + l < 256)
two_digits h l high low = (omega (arith, high, low), omega (arith, high, low), omega (arith, high, low))

pair_read : (high low : ℕ) (digits bytes : List ℕ) (h l : Option ℕ) (r : Option (List ℕ)) → items.hex_value high ≡ h → items.hex_value low ≡ l
    → ((more : List ℕ) → r ≡ Some more → Bytes digits more) → items.with_byte (items.byte_of h l) r ≡ Some bytes → Bytes (high ∷ (low ∷ digits)) bytes
pair_read high low digits bytes (Some h) (Some l) (Some more) first second rest e =
    let a = digit_read high h first in
    let b = digit_read low l second in
    let n = two_digits h l a.1 b.1 in
    let c = rest more refl in
    let byte : ℕ = 16 * h + l in
    subst (Bytes (high ∷ (low ∷ digits))) (sym (some_of (byte ∷ more) bytes e)) (
      ap (λ (x : ℕ). x ∷ (low ∷ digits)) (a.0 ∙ ap hex_digit (sym n.0))
          ∙ ap (λ (x : ℕ). hex_digit (byte / 16) ∷ (x ∷ digits)) (b.0 ∙ ap hex_digit (sym n.1))
          ∙ ap (λ (x : List ℕ). hex_digit (byte / 16) ∷ (hex_digit (byte % 16) ∷ x)) c.0,
      (n.2, c.1),
    )
pair_read high low digits bytes (Some h) (Some l) None first second rest e = absurd (cc)
pair_read high low digits bytes (Some h) None r first second rest e = absurd (cc)
pair_read high low digits bytes None l r first second rest e = absurd (cc)

bytes_read : (digits bytes : List ℕ) → items.hex_bytes digits ≡ Some bytes → Bytes digits bytes
bytes_read [] bytes e = subst (Bytes []) (sym (some_of [] bytes e)) (refl, tt)
bytes_read (digit ∷ []) bytes e = absurd (cc)
bytes_read (high ∷ (low ∷ digits)) bytes e =
    pair_read high low digits bytes (items.hex_value high) (items.hex_value low) (items.hex_bytes digits) refl refl (bytes_read digits) e

whole_byte : (b : ℕ) → b < 256 → (16 * (b / 16) + b % 16 ≡ b) × (b / 16 < 16) × (b % 16 < 16)
whole_byte b small = (omega (arith, small), omega (arith, small), omega (arith, small))

bytes_taken : (bytes : List ℕ) → IsByteList bytes → items.hex_bytes (hex_digits bytes) ≡ Some bytes
bytes_taken [] is = refl
bytes_taken (b ∷ bytes) is =
    let n = whole_byte b is.0 in
    ap (λ (r : Option (List ℕ)). items.with_byte (items.byte_of (items.hex_value (hex_digit (b / 16))) (items.hex_value (hex_digit (b % 16)))) r) (bytes_taken bytes is.1)
    ∙ ap (λ (h : Option ℕ). items.with_byte (items.byte_of h (items.hex_value (hex_digit (b % 16)))) (Some bytes)) (digit_taken (b / 16) n.1)
    ∙ ap (λ (l : Option ℕ). items.with_byte (items.byte_of (Some (b / 16)) l) (Some bytes)) (digit_taken (b % 16) n.2)
    ∙ ap (λ (x : ℕ). Some (x ∷ bytes)) n.0

-- a text by its digits, or `-`
some_digits : (b : ℕ) (digits bytes : List ℕ) → Bytes (b ∷ digits) bytes → (b ∷ digits ≡ hex_text bytes) × IsByteList bytes
some_digits b digits [] is = absurd (nothing is.0)
  where
    nothing : b ∷ digits ≡ [] → ⊥
    nothing e = absurd (cc)
some_digits b digits (x ∷ bytes) is = is

text_bytes_read : (text bytes : List ℕ) → items.text_bytes text ≡ Some bytes → (text ≡ hex_text bytes) × IsByteList bytes
text_bytes_read [] bytes e = absurd (cc)
text_bytes_read (b ∷ digits) bytes e = by_sign (pointwise nat_eq (b ∷ digits) (codes "-")) refl e
  where
    by_sign : (t : Bool) → pointwise nat_eq (b ∷ digits) (codes "-") ≡ t → cond t (Some []) (items.hex_bytes (b ∷ digits)) ≡ Some bytes
        → (b ∷ digits ≡ hex_text bytes) × IsByteList bytes
    by_sign true is f =
        subst (λ (x : List ℕ). (b ∷ digits ≡ hex_text x) × IsByteList x) (sym (some_of [] bytes f)) (same_bytes (b ∷ digits) (codes "-") is, tt)
    by_sign false is f = some_digits b digits bytes (bytes_read (b ∷ digits) bytes f)

text_there : (o : Option (List ℕ)) (stop : Stop) (bytes : List ℕ) → option_map_or Ok o (Err stop) ≡ Ok bytes → o ≡ Some bytes
text_there (Some x) stop bytes e = ap Some (sym (ok_is x bytes e))
text_there None stop bytes e = absurd (cc)

pub text_read : (item : Item) (bytes : List ℕ) → items.text item ≡ Ok bytes → (item.text ≡ hex_text bytes) × IsByteList bytes
text_read item bytes e = text_bytes_read item.text bytes (text_there (items.text_bytes item.text) _ bytes e)

and_false : (b : Bool) → b && false ≡ false
and_false true = refl
and_false false = refl

text_bytes_taken : (bytes : List ℕ) → IsByteList bytes → items.text_bytes (hex_text bytes) ≡ Some bytes
text_bytes_taken [] is = refl
text_bytes_taken (b ∷ bytes) is =
    ap (λ (t : Bool). cond t (Some []) (items.hex_bytes (hex_digits (b ∷ bytes)))) (and_false (nat_eq (hex_digit (b / 16)) 45)) ∙ bytes_taken (b ∷ bytes) is

pub text_taken : (item : Item) (bytes : List ℕ) → IsByteList bytes → item.text ≡ hex_text bytes → items.text item ≡ Ok bytes
text_taken item bytes is said =
    ap (λ (t : List ℕ). items.text (record { text = t; left = item.left })) said
    ∙ ap (λ (o : Option (List ℕ)). option_map_or Ok o (Err (stop_at item.left))) (text_bytes_taken bytes is)
  where
    stop_at : ℕ → Stop
    stop_at left = Syntax left

-- what follows a prefix
pub after_read : (prefix text rest : List ℕ) → items.after prefix text ≡ Some rest → text ≡ prefix ++ rest
after_read prefix text rest e = by_test (pointwise nat_eq (take (length prefix) text) prefix) refl e
  where
    by_test : (t : Bool) → pointwise nat_eq (take (length prefix) text) prefix ≡ t → cond t (Some (drop (length prefix) text)) None ≡ Some rest → text ≡ prefix ++ rest
    by_test true is f =
        sym (take-append-drop (length prefix) text)
        ∙ ap (λ (front : List ℕ). front ++ drop (length prefix) text) (same_bytes (take (length prefix) text) prefix is)
        ∙ ap (λ (back : List ℕ). prefix ++ back) (sym (some_of (drop (length prefix) text) rest f))
    by_test false is f = absurd (cc)

-- a term with a symbol behind its word, or what comes for another one
prefixed : (P : Term → Type 0) (prefix : List ℕ) (of_symbol : ℕ → Term) (next : ℕ) (item : Item) (rest : Result Term Stop) (t : Term) → next ≤ MOST_NUMBER
    → option_map_or (items.symbol_term of_symbol next) (items.after_in prefix item) rest ≡ Ok t
    → ((s : ℕ) → item.text ≡ prefix ++ decimal s → s < next → P (of_symbol s)) → (rest ≡ Ok t → P t) → P t
prefixed P prefix of_symbol next item rest t bound e here there = by_rest (items.after prefix item.text) refl e
  where
    by_rest : (o : Option (List ℕ)) → items.after prefix item.text ≡ o
        → option_map_or (items.symbol_term of_symbol next) (option_map (items.part_of item) o) rest ≡ Ok t → P t
    by_rest (Some more) is f =
        let a = then_ok (items.known next (items.part_of item more)) _ _ f in
        let k = known_read next (items.part_of item more) a.0 bound a.1 in
        subst P (sym (ok_is (of_symbol a.0.0) t a.2))
        (here a.0.0 (after_read prefix item.text more is ∙ ap (λ (x : List ℕ). prefix ++ x) k.0) k.1)
    by_rest None is f = there f

-- a term: its spelling, and that it may stand here
abbrev pub Termed : Bool → ℕ → Item → Term → Type 0
Termed has_pos next item t = (item.text ≡ term_text t) × IsTerm has_pos next t

bare_read : (has_pos : Bool) (next : ℕ) (item : Item) (t : Term) → items.bare_term has_pos item ≡ Ok t → Termed has_pos next item t
bare_read has_pos next item t e = by_pos (is_word (codes "pos") item) refl has_pos refl _ e
  where
    by_pos : (w : Bool) → is_word (codes "pos") item ≡ w → (h : Bool) → has_pos ≡ h → (s : Stop)
        → cond w (cond h (Ok Pos) (Err s)) (cond (is_word (codes "count") item) (Ok Count) (Err (Syntax item.left))) ≡ Ok t
        → Termed has_pos next item t
    by_pos true is true has s f = subst (Termed has_pos next item) (sym (ok_is Pos t f)) (same_bytes item.text (codes "pos") is, has)
    by_pos true is false has s f = absurd (cc)
    by_pos false is h has s f = pick (Termed has_pos next item) (codes "count") item Count _ t f (λ said. (said, tt)) (λ g. absurd (cc))

pub term_read : (has_pos : Bool) (next : ℕ) (item : Item) (t : Term) → next ≤ MOST_NUMBER → items.term has_pos next item ≡ Ok t → Termed has_pos next item t
term_read has_pos next item t bound e =
    prefixed (Termed has_pos next item) (codes "value:") Value next item _ t bound e (λ s said small. (said, small)) (λ e1.
    prefixed (Termed has_pos next item) (codes "length:") Length next item _ t bound e1 (λ s said small. (said, small)) (λ e2.
    prefixed (Termed has_pos next item) (codes "names:") Names next item _ t bound e2 (λ s said small. (said, small)) (λ e3.
    bare_read has_pos next item t e3)))

symbol_by : (of_symbol : ℕ → Term) (next s left : ℕ) → next ≤ MOST_NUMBER → s < next
    → items.symbol_term of_symbol next (record { text = decimal s; left = left }) ≡ Ok (of_symbol s)
symbol_by of_symbol next s left bound small =
    ap (λ (r : Result Sym Stop). then_do r (λ x. ok {E = Stop} (of_symbol x.0))) (known_taken next (record { text = decimal s; left = left }) (record { 0 = s }) bound small refl)

term_by : (has_pos : Bool) (next left : ℕ) (t : Term) → next ≤ MOST_NUMBER → IsTerm has_pos next t
    → items.term has_pos next (record { text = term_text t; left = left }) ≡ Ok t
term_by has_pos next left (Value s) bound is = symbol_by Value next s left bound is
term_by has_pos next left (Length s) bound is = symbol_by Length next s left bound is
term_by has_pos next left (Names s) bound is = symbol_by Names next s left bound is
term_by has_pos next left Pos bound is = rw is refl
term_by has_pos next left Count bound is = refl

pub term_taken : (has_pos : Bool) (next : ℕ) (item : Item) (t : Term) → next ≤ MOST_NUMBER → IsTerm has_pos next t → item.text ≡ term_text t
    → items.term has_pos next item ≡ Ok t
term_taken has_pos next item t bound is said =
    ap (λ (x : List ℕ). items.term has_pos next (record { text = x; left = item.left })) said ∙ term_by has_pos next item.left t bound is
