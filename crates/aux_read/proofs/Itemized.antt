-- What the parts of a line are, as the grammar has them.
use Rattle.std.proofs.Common.{◌≡◌, ℕ, suc, ◌+◌, ◌<◌, Bool, true, false, cond, ◌&&◌, not, nat_eq, nat_lt, List, [], ◌∷◌, ◌++◌, Option, None, Some, length, length-append, take, drop, refl, sym, ap, subst, ◌∙◌, arith, IfSome}
use Rattle.std.specs.Prelude.{if◌then◌else◌}
use Rattle.std.specs.List.{list_all}
use Rattle.std.specs.Option.{option_and_then}
use Rattle.std.proofs.Math.Seq.{drop-append_seam, take-append_seam}
use Rattle.std.proofs.lemmas.Bool.{and_from, and_parts, eq-eqb, eqb-true, lt-ltb, ltb-true, ne_eqb, not-false, not-true, not_from_false, not_from_true}
use Rattle.std.proofs.lemmas.List.{take-append-drop}
use Rattle.bv_base.specs.Bytes.{is_white}
use Rattle.bv_base.specs.Keys.{IsKey}
use Rattle.bv_base.specs.Runs.{is_black, length_before, EndsBy}
use Rattle.std.specs.Str.{is_utf8}
use Rattle.aux_read.specs.FileNames.{IsFileName}
use Rattle.aux_read.specs.Grammar.{Begins, Blank, IsItem, IsName, Without}
use Rattle.aux_read.specs.Items.{after_front, begun_item, file_name_of, inside_of, is_blank, is_close, item_of}
use Rattle.aux_read.proofs.Keeping.{begun_key}

-- a run of bytes of which none passes the test is as long as the run up to the first that does
run_length : (inside test : ℕ → Bool) → ((b : ℕ) → inside b ≡ true → test b ≡ false) → (run rest : List ℕ)
    → list_all inside run ≡ true → EndsBy test rest → length_before test (run ++ rest) ≡ length run
run_length inside test apart [] [] all ends = refl
run_length inside test apart [] (b ∷ rest) all ends = ap (λ t. cond t 0 (suc (length_before test rest))) ends
run_length inside test apart (b ∷ run) rest all ends =
    let both = and_parts (inside b) (list_all inside run) all in
    ap (λ t. cond t 0 (suc (length_before test (run ++ rest)))) (apart b both.0)
    ∙ ap suc (run_length inside test apart run rest both.1 ends)

-- the run up to the first that passes the test has none that does
run_inside : (inside test : ℕ → Bool) → ((b : ℕ) → test b ≡ false → inside b ≡ true) → (bytes : List ℕ)
    → list_all inside (take (length_before test bytes) bytes) ≡ true
run_inside inside test other [] = refl
run_inside inside test other (b ∷ bytes) = by (test b) refl (run_inside inside test other bytes)
  where
    by : (t : Bool) → test b ≡ t → list_all inside (take (length_before test bytes) bytes) ≡ true
        → list_all inside (take (cond t 0 (suc (length_before test bytes))) (b ∷ bytes)) ≡ true
    by true is rest = refl
    by false is rest = and_from (inside b) (list_all inside (take (length_before test bytes) bytes)) (other b is) rest

blank_is : (bytes : List ℕ) → is_blank bytes ≡ list_all is_white bytes
blank_is [] = refl
blank_is (b ∷ bytes) = ap (λ t. is_white b && t) (blank_is bytes)

-- an item that has no white space before it, as it is read
begun_read : (bytes item : List ℕ) → begun_item bytes ≡ Some item
    → (item ≡ take (length_before is_white bytes) bytes) × Blank (drop (length_before is_white bytes) bytes)
begun_read bytes item is =
    by (not (nat_eq (length_before is_white bytes) 0)) (is_blank (drop (length_before is_white bytes) bytes)) refl is
  where
    by : (some blank : Bool) → is_blank (drop (length_before is_white bytes) bytes) ≡ blank
        → cond (some && blank) (Some (take (length_before is_white bytes) bytes)) None ≡ Some item
        → (item ≡ take (length_before is_white bytes) bytes) × Blank (drop (length_before is_white bytes) bytes)
    by true true e found = (cc, sym (blank_is (drop (length_before is_white bytes) bytes)) ∙ e)
    by true false e found = absurd (cc)
    by false blank e found = absurd (cc)

pub item_read : (text item : List ℕ) → item_of text ≡ Some item → IsItem item text
item_read text item is =
    let count = length_before is_black text in
    let begun = drop count text in
    let length = length_before is_white begun in
    let found = begun_read begun item is in
    record {
      before = take count text;
      after = drop length begun;
      spelled =
          sym (take-append-drop count text)
          ∙ ap (λ l. take count text ++ l) (sym (take-append-drop length begun))
          ∙ ap (λ l. take count text ++ (l ++ drop length begun)) (sym found.0);
      blank_before = run_inside is_white is_black (λ b e. not-false (is_white b) e) text;
      blank_after = found.1;
      solid = subst (λ o. IfSome o IsKey) is (begun_key begun);
    }

-- white space ends an item
blank_ends : (bytes : List ℕ) → Blank bytes → EndsBy is_white bytes
blank_ends [] blank = tt
blank_ends (b ∷ bytes) blank = (and_parts (is_white b) (list_all is_white bytes) blank).0

-- an item begins with no white space
item_ends : (item rest : List ℕ) → IsKey item → EndsBy is_black (item ++ rest)
item_ends [] rest solid = absurd solid
item_ends (b ∷ item) rest solid = (and_parts (not (is_white b)) (list_all (λ c. not (is_white c)) item) solid).0

item_all : (item : List ℕ) → IsKey item → list_all (λ c. not (is_white c)) item ≡ true
item_all [] solid = absurd solid
item_all (b ∷ item) solid = solid

item_some : (item : List ℕ) → IsKey item → not (nat_eq (length item) 0) ≡ true
item_some [] solid = absurd solid
item_some (b ∷ item) solid =
    not_from_false (nat_eq (suc (length item)) 0) (ne_eqb (suc (length item)) 0 (λ e. omega arith))

begun_taken : (item after : List ℕ) → IsKey item → Blank after → begun_item (item ++ after) ≡ Some item
begun_taken item after solid blank =
    let run : length_before is_white (item ++ after) ≡ length item =
    run_length (λ c. not (is_white c)) is_white (λ b e. not-true (is_white b) e) item after (item_all item solid) (blank_ends after blank) in
    ap
    (λ n. cond (not (nat_eq n 0) && is_blank (drop n (item ++ after))) (Some (take n (item ++ after))) None)
    run
    ∙ ap (λ t. cond (t && is_blank (drop (length item) (item ++ after))) (Some (take (length item) (item ++ after))) None)
    (item_some item solid)
    ∙ ap (λ l. cond (is_blank l) (Some (take (length item) (item ++ after))) None) (drop-append_seam item after)
    ∙ ap (λ t. cond t (Some (take (length item) (item ++ after))) None) (blank_is after ∙ blank)
    ∙ ap Some (take-append_seam item after)

pub item_taken : (text item : List ℕ) → IsItem item text → item_of text ≡ Some item
item_taken text item is =
    let rest = item ++ is.after in
    let run : length_before is_black (is.before ++ rest) ≡ length is.before =
    run_length is_white is_black (λ b e. not_from_true (is_white b) e) is.before rest is.blank_before (item_ends item is.after is.solid) in
    ap item_of is.spelled
    ∙ ap (λ n. begun_item (drop n (is.before ++ rest))) run
    ∙ ap begun_item (drop-append_seam is.before rest)
    ∙ begun_taken item is.after is.solid is.blank_after

-- the name of a file
pub name_read : (text name : List ℕ) → file_name_of text ≡ Some name → IsName name text
name_read text name is = by (item_of text) refl is
  where
    tested : (item : List ℕ) → item_of text ≡ Some item → (b : Bool) → is_utf8 item ≡ b → cond b (Some item) None ≡ Some name
        → IsName name text
    tested item found true utf8 is =
        let same : item ≡ name = cc in
        (item_read text name (found ∙ ap Some same), subst IsFileName same utf8)
    tested item found false utf8 is = absurd (cc)

    by : (o : Option (List ℕ)) → item_of text ≡ o → option_and_then (λ item. if is_utf8 item then Some item else None) o ≡ Some name
        → IsName name text
    by None found is = absurd (cc)
    by (Some item) found is = tested item found (is_utf8 item) refl is

pub name_taken : (text name : List ℕ) → IsName name text → file_name_of text ≡ Some name
name_taken text name is =
    ap (option_and_then (λ item. if is_utf8 item then Some item else None)) (item_taken text name is.0)
    ∙ ap (λ t. cond t (Some name) None) is.1

-- what stands before the first `}`, and what follows it
abbrev pub Inside : List ℕ → List ℕ → Type 0
Inside inside bytes = (rest : List ℕ) × (bytes ≡ inside ++ 125 ∷ rest) × Without 125 inside

inside_at : (bytes : List ℕ) → nat_lt (length_before is_close bytes) (length bytes) ≡ true
    → Inside (take (length_before is_close bytes) bytes) bytes
inside_at [] = λ e. absurd (cc)
inside_at (b ∷ bytes) = by (is_close b) refl (inside_at bytes)
  where
    by : (t : Bool) → is_close b ≡ t
        → (nat_lt (length_before is_close bytes) (length bytes) ≡ true → Inside (take (length_before is_close bytes) bytes) bytes)
        → nat_lt (cond t 0 (suc (length_before is_close bytes))) (suc (length bytes)) ≡ true
        → Inside (take (cond t 0 (suc (length_before is_close bytes))) (b ∷ bytes)) (b ∷ bytes)
    by true is after e = (bytes, ap (λ c. c ∷ bytes) (eqb-true b 125 is), refl)
    by false is after e =
        let below : suc (length_before is_close bytes) < suc (length bytes) = ltb-true (suc (length_before is_close bytes)) (suc (length bytes)) e in
        let more = after (lt-ltb (length_before is_close bytes) (length bytes) (omega arith)) in
        let inside = take (length_before is_close bytes) bytes in (
          more.0,
          ap (λ l. b ∷ l) more.1,
          and_from (not (nat_eq b 125)) (list_all (λ c. not (nat_eq c 125)) inside) (not_from_false (nat_eq b 125) is) more.2,
        )

pub inside_read : (bytes inside : List ℕ) → inside_of bytes ≡ Some inside → Inside inside bytes
inside_read bytes inside is = by (nat_lt (length_before is_close bytes) (length bytes)) refl is
  where
    by : (t : Bool) → nat_lt (length_before is_close bytes) (length bytes) ≡ t
        → cond t (Some (take (length_before is_close bytes) bytes)) None ≡ Some inside → Inside inside bytes
    by true e is =
        let same : take (length_before is_close bytes) bytes ≡ inside = cc in
        subst (λ (l : List ℕ). Inside l bytes) same (inside_at bytes e)
    by false e is = absurd (cc)

pub inside_taken : (bytes inside : List ℕ) → Inside inside bytes → inside_of bytes ≡ Some inside
inside_taken bytes inside (rest, is, without) =
    let all = inside ++ 125 ∷ rest in
    let run : length_before is_close all ≡ length inside =
    run_length (λ c. not (nat_eq c 125)) is_close (λ b e. not-true (nat_eq b 125) e) inside (125 ∷ rest) without refl in
    let long : length all ≡ length inside + suc (length rest) = length-append inside (125 ∷ rest) in
    ap inside_of is
    ∙ ap (λ n. cond (nat_lt n (length all)) (Some (take n all)) None) run
    ∙ ap (λ t. cond t (Some (take (length inside) all)) None) (lt-ltb (length inside) (length all) (omega arith))
    ∙ ap Some (take-append_seam inside (125 ∷ rest))

-- what follows some bytes at the front of others
pub front_read : (front bytes rest : List ℕ) → after_front front bytes ≡ Some rest → bytes ≡ front ++ rest
front_read [] bytes rest is = cc
front_read (mark ∷ front) [] rest is = absurd (cc)
front_read (mark ∷ front) (b ∷ bytes) rest is = by (nat_eq b mark) refl is (front_read front bytes rest)
  where
    by : (t : Bool) → nat_eq b mark ≡ t → cond t (after_front front bytes) None ≡ Some rest
        → (after_front front bytes ≡ Some rest → bytes ≡ front ++ rest) → b ∷ bytes ≡ mark ∷ (front ++ rest)
    by true e is more = ap (λ c. c ∷ bytes) (eqb-true b mark e) ∙ ap (λ l. mark ∷ l) (more is)
    by false e is more = absurd (cc)

pub front_taken : (front rest : List ℕ) → after_front front (front ++ rest) ≡ Some rest
front_taken [] rest = refl
front_taken (mark ∷ front) rest =
    ap (λ t. cond t (after_front front (front ++ rest)) None) (eq-eqb mark mark refl) ∙ front_taken front rest

pub front_missed : (front bytes : List ℕ) → (¬ Begins front bytes) → after_front front bytes ≡ None
front_missed front bytes misses = by (after_front front bytes) refl
  where
    by : (o : Option (List ℕ)) → after_front front bytes ≡ o → o ≡ None
    by None is = refl
    by (Some rest) is = absurd (misses (rest, front_read front bytes rest is))

pub front_missing : (front bytes : List ℕ) → after_front front bytes ≡ None → ¬ Begins front bytes
front_missing front bytes none (rest, is) =
    let some : None ≡ Some rest = sym none ∙ ap (after_front front) is ∙ front_taken front rest in absurd (cc)
