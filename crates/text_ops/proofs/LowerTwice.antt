-- A text in small letters stays as it is when it is put into small letters again.
use Rattle.std.proofs.Common.{◌≡◌, ◌∙◌, ℕ, inl, inr, List, [], ◌∷◌, ◌++◌, length, drop, map, reverse, refl, ap, arith, sym, subst, Bool, true, false, nat_eq, append_assoc}
use Rattle.std.specs.Prelude.{◌&&◌, not, if◌then◌else◌}
use Rattle.std.specs.List.{flat_map, list_all}
use Rattle.std.proofs.Math.Seq.{drop-append_seam}
use Rattle.std.proofs.lemmas.Bool.{and_parts}
use Rattle.std.proofs.lemmas.List.{append-nil}
use Rattle.std.proofs.lemmas.Bool.Decides.{nat_tests}
use Rattle.bv_base.specs.Bytes.{is_white, lower}
use Rattle.bv_base.specs.Levels.{next_level, level_after, is_brace, is_ascii_letter, is_closing, inside, closing, beyond, run, word_letters, word_space, parts_after, special_parts, is_foreign, pieces_after, begins_special, Piece, Special, spelling}
use Rattle.text_ops.specs.ChangeCase.{changed_part, changed_piece, changed_plain, changed_pieces, case_changed}
use Rattle.text_ops.specs.declared.change_case.Case.TheVariants.{Lower}
use Rattle.text_ops.proofs.PartSteps.{parts_drop, word_length, same_word, drop_word, letter_no_brace, white_no_brace, no_brace_closing, no_brace_level}
use Rattle.text_ops.proofs.CaseSteps.{closed_or_last}
use Rattle.text_ops.proofs.Induction.{by_pieces, by_parts}
use Rattle.text_ops.proofs.PieceSteps.{pieces_beyond, special_level}
use Rattle.text_ops.proofs.LawsOfPurify.{all_append}
use Rattle.text_ops.proofs.LawsOfCase.{word_whole, lowered_letters, lower_twice}

-- ---- runs

run_all : (test : ℕ → Bool) (bs : List ℕ) → list_all test (run test bs) ≡ true
run_all test [] = refl
run_all test (b ∷ bs) =
    let M : Bool → Type 0 = λ v. test b ≡ v → list_all test (if v then b ∷ run test bs else []) ≡ true in
    (elim (test b) as M [ true ↦ λ e. rw e (run_all test bs) | false ↦ λ e. refl ]) refl

run_stops : (test : ℕ → Bool) (bs : List ℕ) → run test (drop (length (run test bs)) bs) ≡ []
run_stops test [] = refl
run_stops test (b ∷ bs) =
    let M : Bool → Type 0 = λ v. test b ≡ v → run test (drop (length (if v then b ∷ run test bs else [])) (b ∷ bs)) ≡ [] in
    (elim (test b) as M [ true ↦ λ e. run_stops test bs | false ↦ λ e. rw e refl ]) refl

run_through : (test : ℕ → Bool) (xs ys : List ℕ) → list_all test xs ≡ true → run test (xs ++ ys) ≡ xs ++ run test ys
run_through test [] ys h = refl
run_through test (x ∷ xs) ys h =
    let M : Bool → Type 0 = λ v. test x ≡ v → run test ((x ∷ xs) ++ ys) ≡ (x ∷ xs) ++ run test ys in
    (elim (test x) as M [
      | true ↦ λ e. rw e (ap (λ zs. x ∷ zs) (run_through test xs ys (let rest : (test x && list_all test xs) ≡ true = h in rw e at rest)))
      | false ↦ λ e. absurd (let rest : (test x && list_all test xs) ≡ true = h in cc (rw e at rest))
    ]) refl

run_none : (test : ℕ → Bool) (x : ℕ) (xs : List ℕ) → run test (x ∷ xs) ≡ [] → test x ≡ false
run_none test x xs h =
    let M : Bool → Type 0 = λ v. test x ≡ v → (if v then x ∷ run test xs else []) ≡ [] → test x ≡ false in
    (elim (test x) as M [ true ↦ λ e k. absurd (cc) | false ↦ λ e k. e ]) refl h

-- ---- bytes

lower_mark : (b : ℕ) → nat_eq (lower b) 92 ≡ nat_eq b 92
lower_mark b = grind (arith, nat_tests)

lower_open : (b : ℕ) → nat_eq (lower b) 123 ≡ nat_eq b 123
lower_open b = grind (arith, nat_tests)

lower_close : (b : ℕ) → nat_eq (lower b) 125 ≡ nat_eq b 125
lower_close b = grind (arith, nat_tests)

lower_closing : (level b : ℕ) → is_closing level (lower b) ≡ is_closing level b
lower_closing level b = ap (λ v. v && nat_eq level 1) (lower_close b)

lower_level : (level b : ℕ) → next_level level (lower b) ≡ next_level level b
lower_level level b = rw (lower_open b, lower_close b) refl

lower_white : (b : ℕ) → is_white b ≡ false → is_white (lower b) ≡ false
lower_white b h = grind (arith, nat_tests)

lower_other : (b : ℕ) → is_ascii_letter b ≡ false → is_ascii_letter (lower b) ≡ false
lower_other b h = grind (arith, nat_tests)

lower_letter : (b : ℕ) → is_ascii_letter b ≡ true → is_ascii_letter (lower b) ≡ true
lower_letter b h = grind (arith, nat_tests)

-- ---- control words

abbrev pub lowered_word : List ℕ → List ℕ
lowered_word letters = if is_foreign letters then map lower letters else letters

abbrev pub lowered_special : List ℕ → List ℕ
lowered_special inner = flat_map (changed_part Lower) (special_parts inner)

word_stays : (letters : List ℕ) → lowered_word (lowered_word letters) ≡ lowered_word letters
word_stays letters =
    let M : Bool → Type 0 = λ v. is_foreign letters ≡ v → lowered_word (if v then map lower letters else letters) ≡ (if v then map lower letters else letters) in
    (elim (is_foreign letters) as M [
      | true ↦ λ e. elim (is_foreign (map lower letters)) as (λ v. (if v then map lower (map lower letters) else map lower letters) ≡ map lower letters) [ true ↦ lowered_letters letters | false ↦ refl ]
      | false ↦ λ e. rw e refl
    ]) refl

map_letters : (xs : List ℕ) → list_all is_ascii_letter xs ≡ true → list_all is_ascii_letter (map lower xs) ≡ true
map_letters [] h = refl
map_letters (x ∷ xs) h =
    let M : Bool → Type 0 = λ v. is_ascii_letter x ≡ v → list_all is_ascii_letter (map lower (x ∷ xs)) ≡ true in
    (elim (is_ascii_letter x) as M [
      | true ↦ λ e. rw (lower_letter x e) (map_letters xs (let rest : (is_ascii_letter x && list_all is_ascii_letter xs) ≡ true = h in rw e at rest))
      | false ↦ λ e. absurd (let rest : (is_ascii_letter x && list_all is_ascii_letter xs) ≡ true = h in cc (rw e at rest))
    ]) refl

word_of_letters : (bs : List ℕ) → list_all is_ascii_letter (lowered_word (word_letters bs)) ≡ true
word_of_letters bs =
    elim (is_foreign (word_letters bs)) as (λ v. list_all is_ascii_letter (if v then map lower (word_letters bs) else word_letters bs) ≡ true) [
      | true ↦ map_letters (word_letters bs) (run_all is_ascii_letter bs)
      | false ↦ run_all is_ascii_letter bs
    ]

-- ---- what a special character begins with

-- none of the bytes that it begins with passes a test that small letters don't pass either
none_first : (test : ℕ → Bool) → ((b : ℕ) → test b ≡ false → test (lower b) ≡ false) → (inner : List ℕ) → run test inner ≡ []
    → test 92 ≡ false → run test (lowered_special inner) ≡ []
none_first test stays [] h mark = refl
none_first test stays (b ∷ bs) h mark =
    let M : Bool → Type 0 = λ v. nat_eq b 92 ≡ v → run test (lowered_special (b ∷ bs)) ≡ [] in
    (elim (nat_eq b 92) as M [
      | true ↦ λ e. rw (e, mark) refl
      | false ↦ λ e. rw (e, stays b (run_none test b bs h)) refl
    ]) refl

no_letter_first : (inner : List ℕ) → run is_ascii_letter inner ≡ [] → run is_ascii_letter (lowered_special inner) ≡ []
no_letter_first inner h = none_first is_ascii_letter lower_other inner h refl

no_white_first : (inner : List ℕ) → run is_white inner ≡ [] → run is_white (lowered_special inner) ≡ []
no_white_first inner h = none_first is_white lower_white inner h refl

-- ---- a control word in small letters is cut where it was

behind_letters : (bs : List ℕ) → run is_ascii_letter bs ≡ [] → run is_ascii_letter (run is_white bs ++ lowered_special (drop (length (run is_white bs)) bs)) ≡ []
behind_letters [] h = refl
behind_letters (b ∷ bs) h =
    let M : Bool → Type 0 = λ v. is_white b ≡ v → run is_ascii_letter ((if v then b ∷ run is_white bs else []) ++ lowered_special (drop (length (if v then b ∷ run is_white bs else [])) (b ∷ bs))) ≡ [] in
    (elim (is_white b) as M [
      | true ↦ λ e. rw (run_none is_ascii_letter b bs h) refl
      | false ↦ λ e. no_letter_first (b ∷ bs) h
    ]) refl

letters_again : (bs rest : List ℕ) → run is_ascii_letter (word_space bs ++ rest) ≡ [] → word_letters ((lowered_word (word_letters bs) ++ word_space bs) ++ rest) ≡ lowered_word (word_letters bs)
letters_again bs rest h =
    rw (append_assoc (lowered_word (word_letters bs)) (word_space bs) rest)
    (run_through is_ascii_letter (lowered_word (word_letters bs)) (word_space bs ++ rest) (word_of_letters bs) ∙ (ap (λ xs. lowered_word (word_letters bs) ++ xs) h ∙ append-nil (lowered_word (word_letters bs))))

space_again : (bs rest : List ℕ) → run is_white rest ≡ [] → run is_white (word_space bs ++ rest) ≡ word_space bs
space_again bs rest h =
    run_through is_white (word_space bs) rest (run_all is_white (drop (length (word_letters bs)) bs)) ∙ (ap (λ xs. word_space bs ++ xs) h ∙ append-nil (word_space bs))

cut_again : (letters space rest bs : List ℕ) → word_letters bs ≡ letters → word_space bs ≡ space → drop (length (letters ++ space)) bs ≡ rest
    → lowered_special (92 ∷ bs) ≡ (92 ∷ lowered_word letters ++ space) ++ lowered_special rest
cut_again letters space rest bs e f g =
    ap (flat_map (changed_part Lower)) (same_word (word_letters bs) letters (word_space bs) space bs e f)
    ∙ ap (λ ps. (92 ∷ lowered_word letters ++ space) ++ flat_map (changed_part Lower) ps) (parts_drop (length (letters ++ space)) bs ∙ ap (parts_after 0) g)

word_again : (bs rest : List ℕ) → run is_ascii_letter (word_space bs ++ rest) ≡ [] → run is_white rest ≡ []
    → lowered_special (92 ∷ (lowered_word (word_letters bs) ++ word_space bs) ++ rest) ≡ (92 ∷ lowered_word (word_letters bs) ++ word_space bs) ++ lowered_special rest
word_again bs rest h k =
    let w = lowered_word (word_letters bs) in
    let letters : word_letters ((lowered_word (word_letters bs) ++ word_space bs) ++ rest) ≡ lowered_word (word_letters bs) = letters_again bs rest h in
    let behind : drop (length (lowered_word (word_letters bs))) ((lowered_word (word_letters bs) ++ word_space bs) ++ rest) ≡ word_space bs ++ rest
    = rw (append_assoc (lowered_word (word_letters bs)) (word_space bs) rest) (drop-append_seam (lowered_word (word_letters bs)) (word_space bs ++ rest)) in
    let space : word_space ((lowered_word (word_letters bs) ++ word_space bs) ++ rest) ≡ word_space bs
    = ap (λ xs. run is_white (drop (length xs) ((lowered_word (word_letters bs) ++ word_space bs) ++ rest))) letters ∙ (ap (run is_white) behind ∙ space_again bs rest k) in
    cut_again (lowered_word (word_letters bs)) (word_space bs) rest ((lowered_word (word_letters bs) ++ word_space bs) ++ rest) letters space (drop-append_seam (lowered_word (word_letters bs) ++ word_space bs) rest)
    ∙ ap (λ xs. (92 ∷ xs ++ word_space bs) ++ lowered_special rest) (word_stays (word_letters bs))

first_word : (bs : List ℕ) → lowered_special (92 ∷ bs) ≡ 92 ∷ (lowered_word (word_letters bs) ++ word_space bs) ++ lowered_special (drop (word_length bs) bs)
first_word bs = rw (parts_drop (word_length bs) bs) refl

special_again : (inner : List ℕ) → lowered_special (lowered_special inner) ≡ lowered_special inner
special_again = by_parts word_length (λ inner. lowered_special (lowered_special inner) ≡ lowered_special inner) refl
    (λ b bs e rest. rw (e, lower_mark b, e, lower_twice b, rest) refl)
    (λ b bs e rest.
    let mark : b ≡ 92 = grind (arith, nat_tests) in
    let later = lowered_special (drop (word_length bs) bs) in
    let past : drop (word_length bs) bs ≡ drop (length (word_space bs)) (drop (length (word_letters bs)) bs) = drop_word bs bs in
    let no_letter : run is_ascii_letter (word_space bs ++ lowered_special (drop (word_length bs) bs)) ≡ []
    = rw past (behind_letters (drop (length (word_letters bs)) bs) (run_stops is_ascii_letter bs)) in
    let no_white : run is_white (lowered_special (drop (word_length bs) bs)) ≡ []
    = no_white_first (drop (word_length bs) bs) (rw past (run_stops is_white (drop (length (word_letters bs)) bs))) in
    let whole : lowered_special (92 ∷ bs) ≡ 92 ∷ (lowered_word (word_letters bs) ++ word_space bs) ++ lowered_special (drop (word_length bs) bs) = first_word bs in
    rw mark (ap lowered_special whole ∙ (word_again bs (lowered_special (drop (word_length bs) bs)) no_letter no_white ∙ (ap (λ xs. (92 ∷ lowered_word (word_letters bs) ++ word_space bs) ++ xs) rest ∙ sym whole))))

-- ---- a special character in small letters ends where it did

abbrev pub is_flat : ℕ → Bool
is_flat b = not (is_brace b)

all_weaker : (test weaker : ℕ → Bool) → ((b : ℕ) → test b ≡ true → weaker b ≡ true) → (xs : List ℕ) → list_all test xs ≡ true → list_all weaker xs ≡ true
all_weaker test weaker so [] h = refl
all_weaker test weaker so (x ∷ xs) h =
    let M : Bool → Type 0 = λ v. test x ≡ v → list_all weaker (x ∷ xs) ≡ true in
    (elim (test x) as M [
      | true ↦ λ e. rw (so x e) (all_weaker test weaker so xs (let rest : (test x && list_all test xs) ≡ true = h in rw e at rest))
      | false ↦ λ e. absurd (let rest : (test x && list_all test xs) ≡ true = h in cc (rw e at rest))
    ]) refl

flat_word : (bs : List ℕ) → list_all is_flat (lowered_word (word_letters bs) ++ word_space bs) ≡ true
flat_word bs =
    all_append is_flat (lowered_word (word_letters bs)) (word_space bs)
    (all_weaker is_ascii_letter is_flat (λ b h. rw (letter_no_brace b h) refl) (lowered_word (word_letters bs)) (word_of_letters bs))
    (all_weaker is_white is_flat (λ b h. rw (white_no_brace b h) refl) (word_space bs) (run_all is_white (drop (length (word_letters bs)) bs)))

flat_letters : (bs : List ℕ) → list_all is_flat (word_letters bs ++ word_space bs) ≡ true
flat_letters bs =
    all_append is_flat (word_letters bs) (word_space bs)
    (all_weaker is_ascii_letter is_flat (λ b h. rw (letter_no_brace b h) refl) (word_letters bs) (run_all is_ascii_letter bs))
    (all_weaker is_white is_flat (λ b h. rw (white_no_brace b h) refl) (word_space bs) (run_all is_white (drop (length (word_letters bs)) bs)))

flat_byte : (b : ℕ) → is_flat b ≡ true → is_brace b ≡ false
flat_byte b h = grind (arith, nat_tests)

module _ (level : ℕ) (ys : List ℕ) where
  inside_flat : (xs : List ℕ) → list_all is_flat xs ≡ true → inside level (xs ++ ys) ≡ xs ++ inside level ys
  inside_flat [] h = refl
  inside_flat (x ∷ xs) h =
      let M : Bool → Type 0 = λ v. is_flat x ≡ v → inside level ((x ∷ xs) ++ ys) ≡ (x ∷ xs) ++ inside level ys in
      (elim (is_flat x) as M [
        | true ↦ λ e. rw (no_brace_closing level x (flat_byte x e), no_brace_level level x (flat_byte x e)) (ap (λ zs. x ∷ zs) (inside_flat xs (let rest : (is_flat x && list_all is_flat xs) ≡ true = h in rw e at rest)))
        | false ↦ λ e. absurd (let rest : (is_flat x && list_all is_flat xs) ≡ true = h in cc (rw e at rest))
      ]) refl

-- what a byte that is no brace leaves alone, bytes without a brace do
flat_passed : {X : Type 0} (f : ℕ → List ℕ → X) → ((level b : ℕ) (bs : List ℕ) → is_brace b ≡ false → f level (b ∷ bs) ≡ f level bs)
    → (level : ℕ) (ys xs : List ℕ) → list_all is_flat xs ≡ true → f level (xs ++ ys) ≡ f level ys
flat_passed f same level ys [] h = refl
flat_passed f same level ys (x ∷ xs) h =
    let both = and_parts (is_flat x) (list_all is_flat xs) h in
    same level x (xs ++ ys) (flat_byte x both.0) ∙ flat_passed f same level ys xs both.1

closing_flat : (level : ℕ) (ys xs : List ℕ) → list_all is_flat xs ≡ true → closing level (xs ++ ys) ≡ closing level ys
closing_flat = flat_passed closing (λ level b bs e. rw (no_brace_closing level b e, no_brace_level level b e) refl)

level_flat : (level : ℕ) (ys xs : List ℕ) → list_all is_flat xs ≡ true → level_after level (xs ++ ys) ≡ level_after level ys
level_flat = flat_passed level_after (λ level b bs e. ap (λ l. level_after l bs) (no_brace_level level b e))

pub stays_open : (level b : ℕ) (bs : List ℕ) → closing level (b ∷ bs) ≡ [] → is_closing level b ≡ false
stays_open level b bs h =
    let M : Bool → Type 0 = λ v. is_closing level b ≡ v → (if v then b ∷ [] else closing (next_level level b) bs) ≡ [] → is_closing level b ≡ false in
    (elim (is_closing level b) as M [ true ↦ λ e k. absurd (cc) | false ↦ λ e k. e ]) refl h

-- inner bytes that do not close keep their place
pub record KeepsEnd (level : ℕ) (inner : List ℕ) (ys : List ℕ) : Type 0 where
  pub body : inside level (lowered_special inner ++ ys) ≡ lowered_special inner ++ inside (level_after level inner) ys
  pub close : closing level (lowered_special inner ++ ys) ≡ closing (level_after level inner) ys

inside_front : (level : ℕ) (front rest ys tail : List ℕ) → list_all is_flat front ≡ true → inside level (rest ++ ys) ≡ rest ++ tail → inside level ((front ++ rest) ++ ys) ≡ (front ++ rest) ++ tail
inside_front level front rest ys tail h e =
    rw (append_assoc front rest ys) (inside_flat level (rest ++ ys) front h ∙ (ap (λ zs. front ++ zs) e ∙ sym (append_assoc front rest tail)))

closing_front : (level : ℕ) (front rest ys : List ℕ) → list_all is_flat front ≡ true → closing level ((front ++ rest) ++ ys) ≡ closing level (rest ++ ys)
closing_front level front rest ys h = rw (append_assoc front rest ys) (closing_flat level (rest ++ ys) front h)

keeps_word : (level : ℕ) (bs ys : List ℕ) → level_after level (drop (word_length bs) bs) ≡ level_after level bs → KeepsEnd level (drop (word_length bs) bs) ys → KeepsEnd level (92 ∷ bs) ys
keeps_word level bs ys same later =
    let front : list_all is_flat (92 ∷ lowered_word (word_letters bs) ++ word_space bs) ≡ true = flat_word bs in
    let rest = lowered_special (drop (word_length bs) bs) in
    let e : inside level (rest ++ ys) ≡ rest ++ inside (level_after level bs) ys = later.body ∙ ap (λ l. lowered_special (drop (word_length bs) bs) ++ inside l ys) same in
    let f : closing level (rest ++ ys) ≡ closing (level_after level bs) ys = later.close ∙ ap (λ l. closing l ys) same in
    record {
      body = subst (λ zs. inside level (zs ++ ys) ≡ zs ++ inside (level_after level bs) ys) (sym (first_word bs)) (inside_front level (92 ∷ lowered_word (word_letters bs) ++ word_space bs) (lowered_special (drop (word_length bs) bs)) ys (inside (level_after level bs) ys) front e);
      close = subst (λ zs. closing level (zs ++ ys) ≡ closing (level_after level bs) ys) (sym (first_word bs)) (closing_front level (92 ∷ lowered_word (word_letters bs) ++ word_space bs) (lowered_special (drop (word_length bs) bs)) ys front ∙ f);
    }

keeps_end : (inner : List ℕ) → (level : ℕ) (ys : List ℕ) → closing level inner ≡ [] → KeepsEnd level inner ys
keeps_end = by_parts word_length (λ inner. (level : ℕ) (ys : List ℕ) → closing level inner ≡ [] → KeepsEnd level inner ys) (λ level ys h. record { body = refl; close = refl })
    (λ b bs e rest level ys h.
    let within : is_closing level b ≡ false = stays_open level b bs h in
    let below : closing (next_level level b) bs ≡ [] = rw within at h in
    let later : KeepsEnd (next_level level b) bs ys = rest (next_level level b) ys below in
    record {
      body = rw (e, lower_closing level b, within, lower_level level b) (ap (λ zs. lower b ∷ zs) later.body);
      close = rw (e, lower_closing level b, within, lower_level level b) later.close;
    })
    (λ b bs e rest level ys h.
    let mark : b ≡ 92 = grind (arith, nat_tests) in
    let whole : (word_letters bs ++ word_space bs) ++ drop (word_length bs) bs ≡ bs = word_whole bs in
    let below : closing level (drop (word_length bs) bs) ≡ []
    = sym (closing_flat level (drop (word_length bs) bs) (word_letters bs ++ word_space bs) (flat_letters bs)) ∙ (ap (closing level) whole ∙ rw mark at h) in
    let same_level : level_after level (drop (word_length bs) bs) ≡ level_after level bs
    = sym (level_flat level (drop (word_length bs) bs) (word_letters bs ++ word_space bs) (flat_letters bs)) ∙ ap (level_after level) whole in
    subst (λ x. KeepsEnd level (x ∷ bs) ys) (sym mark) (keeps_word level bs ys same_level (rest level ys below)))

-- ---- whole texts

pub inside_open : (level : ℕ) (bs : List ℕ) → closing level (inside level bs) ≡ []
inside_open level [] = refl
inside_open level (b ∷ bs) =
    let M : Bool → Type 0 = λ v. is_closing level b ≡ v → closing level (if v then [] else b ∷ inside (next_level level b) bs) ≡ [] in
    (elim (is_closing level b) as M [ true ↦ λ e. refl | false ↦ λ e. rw e (inside_open (next_level level b) bs) ]) refl

-- at the closing brace one level is left
pub level_before_end : (level : ℕ) (bs : List ℕ) → closing level bs ≡ 125 ∷ [] → level_after level (inside level bs) ≡ 1
level_before_end level [] h = absurd (cc)
level_before_end level (b ∷ bs) h =
    let M : Bool → Type 0 = λ v. is_closing level b ≡ v → (if v then b ∷ [] else closing (next_level level b) bs) ≡ 125 ∷ [] → level_after level (if v then [] else b ∷ inside (next_level level b) bs) ≡ 1 in
    (elim (is_closing level b) as M [ true ↦ λ e k. grind (arith, nat_tests) | false ↦ λ e k. level_before_end (next_level level b) bs k ]) refl h

abbrev pub lowered_pieces : ℕ → List ℕ → List ℕ
lowered_pieces level text = flat_map (changed_piece Lower) (pieces_after 0 level text)

-- what ends a special character, with the changed text behind it
abbrev pub EndsAgain : ℕ → List ℕ → List ℕ → Type 0
EndsAgain level close later = (inside level (close ++ later) ≡ []) × (closing level (close ++ later) ≡ close)

closed_again : (level : ℕ) (close later : List ℕ) → level ≡ 1 → close ≡ 125 ∷ [] → EndsAgain level close later
closed_again level close later e f = rw (e, f) (refl, refl)

open_again : (level : ℕ) (close later : List ℕ) → close ≡ [] → later ≡ [] → EndsAgain level close later
open_again level close later e f = rw (e, f) (refl, refl)

end_again : (bs : List ℕ) (level : ℕ) → EndsAgain (level_after 1 (inside 1 bs)) (closing 1 bs) (lowered_pieces level (beyond 1 bs))
end_again bs level =
    elim (closed_or_last 1 bs) [
      | inl e ↦ closed_again (level_after 1 (inside 1 bs)) (closing 1 bs) (lowered_pieces level (beyond 1 bs)) (level_before_end 1 bs e) e
      | inr e ↦ open_again (level_after 1 (inside 1 bs)) (closing 1 bs) (lowered_pieces level (beyond 1 bs)) e.0 (ap (lowered_pieces level) e.1)
    ]

lowered_inside : (bs : List ℕ) (level : ℕ) → inside 1 ((lowered_special (inside 1 bs) ++ closing 1 bs) ++ lowered_pieces level (beyond 1 bs)) ≡ lowered_special (inside 1 bs)
lowered_inside bs level =
    ap (inside 1) (append_assoc (lowered_special (inside 1 bs)) (closing 1 bs) (lowered_pieces level (beyond 1 bs)))
    ∙ ((keeps_end (inside 1 bs) 1 (closing 1 bs ++ lowered_pieces level (beyond 1 bs)) (inside_open 1 bs)).body
    ∙ (ap (λ zs. lowered_special (inside 1 bs) ++ zs) (end_again bs level).0 ∙ append-nil (lowered_special (inside 1 bs))))

lowered_closing : (bs : List ℕ) (level : ℕ) → closing 1 ((lowered_special (inside 1 bs) ++ closing 1 bs) ++ lowered_pieces level (beyond 1 bs)) ≡ closing 1 bs
lowered_closing bs level =
    ap (closing 1) (append_assoc (lowered_special (inside 1 bs)) (closing 1 bs) (lowered_pieces level (beyond 1 bs)))
    ∙ ((keeps_end (inside 1 bs) 1 (closing 1 bs ++ lowered_pieces level (beyond 1 bs)) (inside_open 1 bs)).close ∙ (end_again bs level).1)

-- a special character of these parts, and the text behind it, in small letters
again_at : (bs inner close later : List ℕ) → inside 1 bs ≡ inner → closing 1 bs ≡ close → bs ≡ (inner ++ close) ++ later
    → flat_map (changed_piece Lower) (Special (inside 1 bs) (closing 1 bs) ∷ pieces_after 0 0 (beyond 1 bs)) ≡ (123 ∷ lowered_special inner ++ close) ++ lowered_pieces 0 later
again_at bs inner close later e f g =
    let behind : beyond 1 bs ≡ later = ap (λ xs. drop (length xs) bs) (ap (λ xs. xs ++ closing 1 bs) e ∙ ap (λ xs. inner ++ xs) f) ∙ (ap (drop (length (inner ++ close))) g ∙ drop-append_seam (inner ++ close) later) in
    ap (λ xs. (123 ∷ lowered_special xs ++ closing 1 bs) ++ lowered_pieces 0 (beyond 1 bs)) e
    ∙ (ap (λ xs. (123 ∷ lowered_special inner ++ xs) ++ lowered_pieces 0 (beyond 1 bs)) f ∙ ap (λ xs. (123 ∷ lowered_special inner ++ close) ++ lowered_pieces 0 xs) behind)

pub begins_with_mark : (level b : ℕ) (bs : List ℕ) → begins_special level (b ∷ bs) ≡ true → (cs : List ℕ) × (bs ≡ 92 ∷ cs)
begins_with_mark level b [] h = absurd (cc)
begins_with_mark level b (c ∷ bs) h = let mark : c ≡ 92 = grind (arith, nat_tests) in (bs, ap (λ x. x ∷ bs) mark)

begins_again : (bs cs rest : List ℕ) → bs ≡ 92 ∷ cs → begins_special 0 (123 ∷ (lowered_special (inside 1 bs) ++ closing 1 bs) ++ rest) ≡ true
begins_again bs cs rest e = rw e refl

first_open : (level b : ℕ) → nat_eq (changed_plain Lower level b) 123 ≡ nat_eq b 123
first_open level b = elim (nat_eq level 0) as (λ v. nat_eq (if v then lower b else b) 123 ≡ nat_eq b 123) [ true ↦ lower_open b | false ↦ refl ]

first_mark : (level b : ℕ) → nat_eq (changed_plain Lower level b) 92 ≡ nat_eq b 92
first_mark level b = elim (nat_eq level 0) as (λ v. nat_eq (if v then lower b else b) 92 ≡ nat_eq b 92) [ true ↦ lower_mark b | false ↦ refl ]

first_level : (level b : ℕ) → next_level level (changed_plain Lower level b) ≡ next_level level b
first_level level b = elim (nat_eq level 0) as (λ v. next_level level (if v then lower b else b) ≡ next_level level b) [ true ↦ lower_level level b | false ↦ refl ]

first_twice : (level b : ℕ) → changed_plain Lower level (changed_plain Lower level b) ≡ changed_plain Lower level b
first_twice level b = elim (nat_eq level 0) as (λ v. (if v then lower (if v then lower b else b) else (if v then lower b else b)) ≡ (if v then lower b else b)) [ true ↦ lower_twice b | false ↦ refl ]

pub and_false : (v w : Bool) → (v && false && w) ≡ false
and_false true w = refl
and_false false w = refl

plain_again : (level next b : ℕ) (bs : List ℕ) → begins_special level (b ∷ bs) ≡ false → begins_special level (changed_plain Lower level b ∷ lowered_pieces next bs) ≡ false
plain_again level next b [] h = refl
plain_again level next b (c ∷ bs) h =
    let M : Bool → Type 0 = λ v. begins_special next (c ∷ bs) ≡ v → begins_special level (changed_plain Lower level b ∷ lowered_pieces next (c ∷ bs)) ≡ false in
    (elim (begins_special next (c ∷ bs)) as M [
      | true ↦ λ e. rw e (and_false (nat_eq (changed_plain Lower level b) 123) (nat_eq level 0))
      | false ↦ λ e. rw (e, first_open level b, first_mark next c) h
    ]) refl

-- what a special character and the text behind it become
abbrev pub lowered_behind : List ℕ → List ℕ
lowered_behind bs = (lowered_special (inside 1 bs) ++ closing 1 bs) ++ lowered_pieces 0 (beyond 1 bs)

behind_again : (bs cs : List ℕ) → bs ≡ 92 ∷ cs → lowered_pieces 0 (lowered_pieces 0 (beyond 1 bs)) ≡ lowered_pieces 0 (beyond 1 bs) → lowered_pieces 0 (123 ∷ lowered_behind bs) ≡ 123 ∷ lowered_behind bs
behind_again bs cs e rest =
    let begins : begins_special 0 (123 ∷ lowered_behind bs) ≡ true = begins_again bs cs (lowered_pieces 0 (beyond 1 bs)) e in
    let pieces : lowered_pieces 0 (123 ∷ lowered_behind bs) ≡ flat_map (changed_piece Lower) (Special (inside 1 (lowered_behind bs)) (closing 1 (lowered_behind bs)) ∷ pieces_after 0 0 (beyond 1 (lowered_behind bs)))
    = rw (begins, pieces_beyond 1 (lowered_behind bs) (omega arith)) refl in
    pieces
    ∙ (again_at (lowered_behind bs) (lowered_special (inside 1 bs)) (closing 1 bs) (lowered_pieces 0 (beyond 1 bs)) (lowered_inside bs 0) (lowered_closing bs 0) refl
    ∙ (ap (λ xs. (123 ∷ xs ++ closing 1 bs) ++ lowered_pieces 0 (lowered_pieces 0 (beyond 1 bs))) (special_again (inside 1 bs))
    ∙ ap (λ xs. (123 ∷ lowered_special (inside 1 bs) ++ closing 1 bs) ++ xs) rest))

pieces_again : (level : ℕ) (text : List ℕ) → lowered_pieces level (lowered_pieces level text) ≡ lowered_pieces level text
pieces_again = by_pieces (λ level text. lowered_pieces level (lowered_pieces level text) ≡ lowered_pieces level text) (λ level. refl)
    (λ level b bs e rest.
    let c = changed_plain Lower level b in
    let whole : lowered_pieces level (b ∷ bs) ≡ changed_plain Lower level b ∷ lowered_pieces (next_level level b) bs = rw e refl in
    let again : lowered_pieces level (changed_plain Lower level b ∷ lowered_pieces (next_level level b) bs) ≡ changed_plain Lower level b ∷ lowered_pieces (next_level level b) bs
    = rw (plain_again level (next_level level b) b bs e, first_twice level b, first_level level b, rest) refl in
    ap (lowered_pieces level) whole ∙ (again ∙ sym whole))
    (λ level b bs e rest.
    let zero_level : level ≡ 0 = special_level level (b ∷ bs) e in
    let mark = begins_with_mark level b bs e in
    let behind : lowered_pieces 0 (lowered_pieces 0 (beyond 1 bs)) ≡ lowered_pieces 0 (beyond 1 bs) = rw zero_level at rest in
    let whole : lowered_pieces level (b ∷ bs) ≡ 123 ∷ lowered_behind bs = rw (e, pieces_beyond 1 bs (omega arith)) refl in
    let again : lowered_pieces level (123 ∷ lowered_behind bs) ≡ 123 ∷ lowered_behind bs
    = subst (λ l. lowered_pieces l (123 ∷ lowered_behind bs) ≡ 123 ∷ lowered_behind bs) (sym zero_level) (behind_again bs mark.0 mark.1 behind) in
    ap (lowered_pieces level) whole ∙ (again ∙ sym whole))

any_before : (before : List ℕ) (ps : List Piece) → changed_pieces Lower before ps ≡ flat_map (changed_piece Lower) ps
any_before before [] = refl
any_before before (p ∷ ps) = ap (λ xs. changed_piece Lower p ++ xs) (any_before (reverse (spelling p) ++ before) ps)

pub lower_again : (text : List ℕ) → case_changed Lower (case_changed Lower text) ≡ case_changed Lower text
lower_again text =
    let once : case_changed Lower text ≡ lowered_pieces 0 text = any_before [] (pieces_after 0 0 text) in
    ap (case_changed Lower) once ∙ (any_before [] (pieces_after 0 0 (lowered_pieces 0 text)) ∙ (pieces_again 0 text ∙ sym once))
