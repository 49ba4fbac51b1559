-- The laws of prefixes.
use Rattle.std.proofs.Common.{◌≡◌, ◌∙◌, ℕ, zero, suc, ◌-◌, ◌≤◌, List, [], ◌∷◌, ◌++◌, length, drop, replicate, refl, ap, arith, sym, subst, ℤ, pos, negsuc, Bool, true, false, nat_eq, inl, inr, append_assoc}
use Rattle.std.specs.Prelude.{if◌then◌else◌}
use Rattle.std.specs.List.{flat_map, filter}
use Rattle.std.proofs.Math.Seq.{drop-append_seam}
use Rattle.std.proofs.lemmas.List.{append-nil, drop-replicate}
use Rattle.bv_base.specs.Levels.{next_level, level_after, is_closing, inside, closing, beyond, begins_special, is_text_character, Piece, Plain, Special, pieces_after, spelling}
use Rattle.text_ops.specs.TextLength.{text_length_of}
use Rattle.text_ops.specs.TextPrefix.{first_characters, prefix_of, text_prefix_of}
use Rattle.text_ops.proofs.CaseSteps.{closed_or_last}
use Rattle.text_ops.proofs.Induction.{by_pieces, special_whole}
use Rattle.text_ops.proofs.LevelSteps.{level_after_append}
use Rattle.text_ops.proofs.LawsOfCase.{special_brace}
use Rattle.text_ops.proofs.LowerTwice.{inside_open, level_before_end, stays_open, begins_with_mark, and_false}
use Rattle.text_ops.proofs.PieceSteps.{pieces_beyond, special_level}

-- ---- the levels are ended

all_closed : (level : ℕ) → level_after level (replicate level 125) ≡ 0
all_closed zero = refl
all_closed (suc level) = let below : suc level - 1 ≡ level = omega arith in subst (λ l. level_after l (replicate level 125) ≡ 0) (sym below) (all_closed level)

pub closed_prefix : (text : List ℕ) (count : ℤ) → level_after 0 (text_prefix_of text count) ≡ 0
closed_prefix text (pos n) = level_after_append 0 (prefix_of text n) _ ∙ all_closed (level_after 0 (prefix_of text n))
closed_prefix text (negsuc n) = refl

-- ---- the pieces spell the text

pub spelled : (level : ℕ) (text : List ℕ) → flat_map spelling (pieces_after 0 level text) ≡ text
spelled = by_pieces (λ level text. flat_map spelling (pieces_after 0 level text) ≡ text) (λ level. refl)
    (λ level b bs e rest. rw e (ap (λ xs. b ∷ xs) rest))
    (λ level b bs e rest.
    let brace : b ≡ 123 = special_brace level b bs e in
    let later : flat_map spelling (pieces_after 0 0 (beyond 1 bs)) ≡ beyond 1 bs = rw (special_level level (b ∷ bs) e) at rest in
    rw (e, pieces_beyond 1 bs (omega arith), brace) (ap (λ xs. (123 ∷ inside 1 bs ++ closing 1 bs) ++ xs) later ∙ ap (λ xs. 123 ∷ xs) (special_whole 1 bs)))

-- ---- no more text characters than were asked for

abbrev pub count : List Piece → ℕ
count ps = length (filter is_text_character ps)

not_special : (level b : ℕ) (bs : List ℕ) → nat_eq b 123 ≡ false → begins_special level (b ∷ bs) ≡ false
not_special level b [] h = refl
not_special level b (c ∷ bs) h = rw h refl

closers : (level k : ℕ) → filter is_text_character (pieces_after 0 level (replicate k 125)) ≡ []
closers level zero = refl
closers level (suc k) = rw (not_special level 125 (replicate k 125) refl) (closers (next_level level 125) k)

-- bytes that do not close keep their place before others
pub record Stays (level : ℕ) (xs ys : List ℕ) : Type 0 where
  pub body : inside level (xs ++ ys) ≡ xs ++ inside (level_after level xs) ys
  pub close : closing level (xs ++ ys) ≡ closing (level_after level xs) ys

stays : (level : ℕ) (xs ys : List ℕ) → closing level xs ≡ [] → Stays level xs ys
stays level [] ys h = record { body = refl; close = refl }
stays level (x ∷ xs) ys h =
    let within : is_closing level x ≡ false = stays_open level x xs h in
    let below : closing (next_level level x) xs ≡ [] = rw within at h in
    let later : Stays (next_level level x) xs ys = stays (next_level level x) xs ys below in
    record { body = rw within (ap (λ zs. x ∷ zs) later.body); close = rw within later.close }

abbrev pub taken : ℕ → ℕ → List ℕ → List ℕ
taken n level text = flat_map spelling (first_characters n (pieces_after 0 level text))

none_first : (n level : ℕ) → taken n level [] ≡ []
none_first zero level = refl
none_first (suc n) level = refl

before_closers : (level k b : ℕ) → begins_special level (b ∷ replicate k 125) ≡ false
before_closers level zero b = refl
before_closers level (suc k) b = and_false (nat_eq b 123) (nat_eq level 0)

-- a byte that begins no special character begins none before what is taken of the bytes behind it
still_plain : (n level next k b : ℕ) (bs : List ℕ) → begins_special level (b ∷ bs) ≡ false → begins_special level (b ∷ taken n next bs ++ replicate k 125) ≡ false
still_plain zero level next k b bs h = before_closers level k b
still_plain (suc n) level next k b [] h = before_closers level k b
still_plain (suc n) level next k b (c ∷ bs) h =
    let M : Bool → Type 0 = λ v. begins_special next (c ∷ bs) ≡ v → begins_special level (b ∷ taken (suc n) next (c ∷ bs) ++ replicate k 125) ≡ false in
    (elim (begins_special next (c ∷ bs)) as M [
      | true ↦ λ e. rw e (and_false (nat_eq b 123) (nat_eq level 0))
      | false ↦ λ e. rw e h
    ]) refl

one_more : (v : Bool) (n m : ℕ) (p : Piece) (ps : List Piece) → count ps ≤ (if v then n else suc n) → is_text_character p ≡ v → count (p ∷ ps) ≤ suc n
one_more true n m p ps h e = rw e (omega arith)
one_more false n m p ps h e = rw e (omega arith)

-- what follows a special character whose bytes were all taken
behind_taken : (bs rest : List ℕ) (k : ℕ) → (closing 1 bs ≡ 125 ∷ []) → beyond 1 ((inside 1 bs ++ closing 1 bs) ++ rest) ≡ rest
behind_taken bs rest k e =
    let same = stays 1 (inside 1 bs) (125 ∷ rest) (inside_open 1 bs) in
    let body : inside 1 ((inside 1 bs ++ closing 1 bs) ++ rest) ≡ inside 1 bs ++ []
    = rw (e, append_assoc (inside 1 bs) (125 ∷ []) rest) (same.body ∙ ap (λ l. inside 1 bs ++ inside l (125 ∷ rest)) (level_before_end 1 bs e)) in
    let close : closing 1 ((inside 1 bs ++ closing 1 bs) ++ rest) ≡ 125 ∷ []
    = rw (e, append_assoc (inside 1 bs) (125 ∷ []) rest) (same.close ∙ ap (λ l. closing l (125 ∷ rest)) (level_before_end 1 bs e)) in
    let whole : inside 1 ((inside 1 bs ++ closing 1 bs) ++ rest) ++ closing 1 ((inside 1 bs ++ closing 1 bs) ++ rest) ≡ inside 1 bs ++ closing 1 bs
    = ap (λ xs. xs ++ closing 1 ((inside 1 bs ++ closing 1 bs) ++ rest)) (body ∙ append-nil (inside 1 bs)) ∙ ap (λ xs. inside 1 bs ++ xs) (close ∙ sym e) in
    ap (λ xs. drop (length xs) ((inside 1 bs ++ closing 1 bs) ++ rest)) whole ∙ drop-append_seam (inside 1 bs ++ closing 1 bs) rest

drop_front : (xs us vs ys : List ℕ) → drop (length ((xs ++ us) ++ vs)) (xs ++ ys) ≡ drop (length (us ++ vs)) ys
drop_front [] us vs ys = refl
drop_front (x ∷ xs) us vs ys = drop_front xs us vs ys

-- what follows a special character that was open and was closed
behind_open : (bs : List ℕ) (k : ℕ) → closing 1 bs ≡ [] → (i : ℕ) × (beyond 1 ((inside 1 bs ++ closing 1 bs) ++ replicate k 125) ≡ replicate i 125)
behind_open bs k e =
    let level = level_after 1 (inside 1 bs) in
    let same = stays 1 (inside 1 bs) (replicate k 125) (inside_open 1 bs) in
    let cut : (inside 1 bs ++ closing 1 bs) ++ replicate k 125 ≡ inside 1 bs ++ replicate k 125 = ap (λ xs. xs ++ replicate k 125) (ap (λ xs. inside 1 bs ++ xs) e ∙ append-nil (inside 1 bs)) in
    let whole : inside 1 (inside 1 bs ++ replicate k 125) ++ closing 1 (inside 1 bs ++ replicate k 125) ≡ (inside 1 bs ++ inside level (replicate k 125)) ++ closing level (replicate k 125)
    = ap (λ xs. xs ++ closing 1 (inside 1 bs ++ replicate k 125)) same.body ∙ ap (λ xs. (inside 1 bs ++ inside level (replicate k 125)) ++ xs) same.close in (
      k - length (inside level (replicate k 125) ++ closing level (replicate k 125)),
      ap (beyond 1) cut ∙ (ap (λ xs. drop (length xs) (inside 1 bs ++ replicate k 125)) whole
          ∙ (drop_front (inside 1 bs) (inside level (replicate k 125)) (closing level (replicate k 125)) (replicate k 125)
          ∙ drop-replicate (length (inside level (replicate k 125) ++ closing level (replicate k 125))) k 125)),
    )

abbrev pub FewTaken : ℕ → List ℕ → Type 0
FewTaken level text = (n k : ℕ) → count (pieces_after 0 level (taken n level text ++ replicate k 125)) ≤ n

none_taken : (level : ℕ) (text : List ℕ) (k : ℕ) → count (pieces_after 0 level (taken 0 level text ++ replicate k 125)) ≤ 0
none_taken level text k = rw (closers level k) (omega arith)

few_behind : (bs : List ℕ) (n k : ℕ) → FewTaken 0 (beyond 1 bs) → count (pieces_after 0 0 (beyond 1 ((inside 1 bs ++ closing 1 bs) ++ (taken n 0 (beyond 1 bs) ++ replicate k 125)))) ≤ n
few_behind bs n k rest =
    let M : List ℕ → Type 0 = λ xs. count (pieces_after 0 0 xs) ≤ n in
    elim (closed_or_last 1 bs) [
      | inl e ↦ subst M (sym (behind_taken bs (taken n 0 (beyond 1 bs) ++ replicate k 125) k e)) (rest n k)
      | inr e ↦
          let nothing : taken n 0 (beyond 1 bs) ++ replicate k 125 ≡ replicate k 125 = ap (λ xs. taken n 0 xs ++ replicate k 125) e.1 ∙ ap (λ xs. xs ++ replicate k 125) (none_first n 0) in
          let ended = behind_open bs k e.0 in
          subst M (sym (ap (λ xs. beyond 1 ((inside 1 bs ++ closing 1 bs) ++ xs)) nothing ∙ ended.1)) (rw (closers 0 ended.0) (omega arith))
    ]

few_special : (bs cs : List ℕ) → bs ≡ 92 ∷ cs → begins_special 0 (123 ∷ bs) ≡ true → FewTaken 0 (beyond 1 bs) → FewTaken 0 (123 ∷ bs)
few_special bs cs e h rest zero k = none_taken 0 (123 ∷ bs) k
few_special bs cs e h rest (suc n) k =
    let first : pieces_after 0 0 (123 ∷ bs) ≡ Special (inside 1 bs) (closing 1 bs) ∷ pieces_after (length (inside 1 bs ++ closing 1 bs)) 1 bs = rw h refl in
    let pieces : pieces_after 0 0 (123 ∷ bs) ≡ Special (inside 1 bs) (closing 1 bs) ∷ pieces_after 0 0 (beyond 1 bs) = first ∙ ap (λ ps. Special (inside 1 bs) (closing 1 bs) ∷ ps) (pieces_beyond 1 bs (omega arith)) in
    let all : taken (suc n) 0 (123 ∷ bs) ≡ (123 ∷ inside 1 bs ++ closing 1 bs) ++ taken n 0 (beyond 1 bs) = ap (λ ps. flat_map spelling (first_characters (suc n) ps)) pieces in
    let whole : taken (suc n) 0 (123 ∷ bs) ++ replicate k 125 ≡ 123 ∷ (inside 1 bs ++ closing 1 bs) ++ (taken n 0 (beyond 1 bs) ++ replicate k 125)
    = ap (λ xs. xs ++ replicate k 125) all ∙ append_assoc (123 ∷ inside 1 bs ++ closing 1 bs) (taken n 0 (beyond 1 bs)) (replicate k 125) in
    let begins : begins_special 0 (123 ∷ (inside 1 bs ++ closing 1 bs) ++ (taken n 0 (beyond 1 bs) ++ replicate k 125)) ≡ true
    = subst (λ xs. begins_special 0 (123 ∷ (inside 1 xs ++ closing 1 xs) ++ (taken n 0 (beyond 1 xs) ++ replicate k 125)) ≡ true) (sym e) refl in
    let M : List ℕ → Type 0 = λ xs. count (pieces_after 0 0 xs) ≤ suc n in
    subst M (sym whole) (rw (begins, pieces_beyond 1 ((inside 1 bs ++ closing 1 bs) ++ (taken n 0 (beyond 1 bs) ++ replicate k 125)) (omega arith)) (omega (arith, few_behind bs n k rest)))

few_plain : (level b : ℕ) (bs : List ℕ) → begins_special level (b ∷ bs) ≡ false → FewTaken (next_level level b) bs → FewTaken level (b ∷ bs)
few_plain level b bs e rest zero k = none_taken level (b ∷ bs) k
few_plain level b bs e rest (suc n) k =
    let all : taken (suc n) level (b ∷ bs) ≡ b ∷ taken (if is_text_character (Plain level b) then n else suc n) (next_level level b) bs = rw e refl in
    let plain = still_plain (if is_text_character (Plain level b) then n else suc n) level (next_level level b) k b bs e in
    let M : List ℕ → Type 0 = λ xs. count (pieces_after 0 level (xs ++ replicate k 125)) ≤ suc n in
    subst M (sym all) (rw plain (one_more (is_text_character (Plain level b)) n (suc n) (Plain level b) (pieces_after 0 (next_level level b) (taken (if is_text_character (Plain level b) then n else suc n) (next_level level b) bs ++ replicate k 125)) (rest (if is_text_character (Plain level b) then n else suc n) k) refl))

few_taken : (level : ℕ) (text : List ℕ) → FewTaken level text
few_taken = by_pieces FewTaken
    (λ level n k. rw (none_first n level, closers level k) (omega arith))
    few_plain
    (λ level b bs e rest.
    let zero_level : level ≡ 0 = special_level level (b ∷ bs) e in
    let brace : b ≡ 123 = special_brace level b bs e in
    let mark = begins_with_mark level b bs e in
    let begins : begins_special 0 (123 ∷ bs) ≡ true = subst (λ x. begins_special 0 (x ∷ bs) ≡ true) brace (subst (λ l. begins_special l (b ∷ bs) ≡ true) zero_level e) in
    let here : FewTaken 0 (123 ∷ bs) = few_special bs mark.0 mark.1 begins (subst (λ l. FewTaken l (beyond 1 bs)) zero_level rest) in
    subst (λ l. FewTaken l (b ∷ bs)) (sym zero_level) (subst (λ x. FewTaken 0 (x ∷ bs)) (sym brace) here))

pub few_characters : (text : List ℕ) (n : ℕ) → text_length_of (text_prefix_of text (pos n)) ≤ n
few_characters text n = few_taken 0 text n (level_after 0 (prefix_of text n))
