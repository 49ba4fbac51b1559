-- Each rule leaves fewer bytes than it finds.
use Rattle.std.proofs.Common.{◌≡◌, ℕ, zero, suc, ◌<◌, ◌≤◌, Bool, true, false, not, cond, nat_eq, List, [], ◌∷◌, ◌++◌, length, drop, take, Option, None, Some, Result, Ok, Err, refl, sym, subst, arith, length-drop}
use Rattle.bib_read.specs.declared.stop.Stop.{Stop}
use Rattle.bib_read.specs.declared.stop.Stop.TheVariants.{RepeatedKey}
use Rattle.bib_read.specs.Entering.{entry_at, noted, take_entry, take_field, take_fields, take_named, with_entry, with_field}
use Rattle.bib_read.specs.Names.{has_entry, has_field, value_of}
use Rattle.bib_read.specs.Parts.{identifier_at, is_first, opening_at, passed, stands, take_identifier, take_mark, take_opening, without_first}
use Rattle.bib_read.specs.Progress.{Progress}
use Rattle.bib_read.specs.Reading.{take_definition, take_item, take_opened, take_preamble, take_string, with_definition, with_preamble}
use Rattle.bib_read.specs.Runs.{begins_name, ends_key, ends_name, inside_length}
use Rattle.bib_read.specs.Stops.{unexpected}
use Rattle.bib_read.specs.Values.{closed, joined, macro_joined, piece_at, take_closed, take_digits, take_equals, take_macro, take_piece, take_pieces, take_value, with_macro}
use Rattle.bib_read.specs.Squeeze.{trimmed}
use Rattle.bib_read.specs.Warnings.{second_field}
use Rattle.bv_base.specs.Bytes.{is_name_byte}
use Rattle.std.specs.Prelude.{codes, IfOk}
use Rattle.bv_base.specs.Runs.{after_white, ends_digits, is_black, is_digit, length_before}
use Rattle.name_table.specs.Names.{lowered, same_name}
use Rattle.bv_base.proofs.ThenLemmas.{then_holds}
use Rattle.std.proofs.lemmas.Bool.{cond_both, and_parts, not_from_true}

-- fewer bytes than these are left
abbrev pub Under : ℕ → Progress → Type 0
Under n q = length q.left < n

-- the same where a part of the value is given too
abbrev pub UnderAfter : {T : Type 0} → ℕ → T × Progress → Type 0
UnderAfter n found = Under n found.1

-- fewer are left, where there is a value
abbrev pub Below : ℕ → Result Progress Stop → Type 0
Below n r = IfOk r (Under n)

abbrev pub GivesBelow : {T : Type 0} → ℕ → Result (T × Progress) Stop → Type 0
GivesBelow n r = IfOk r (UnderAfter n)

pub weaker : (n m : ℕ) (r : Result Progress Stop) → n ≤ m → Below n r → Below m r
weaker n m (Ok q) le below = omega arith
weaker n m (Err stop) le below = tt

-- what is dropped is no more
pub dropped : (n : ℕ) (bytes : List ℕ) → length (drop n bytes) ≤ length bytes
dropped n bytes = omega (arith, length-drop n bytes)

-- a run that has a byte takes one
run_taken : (test : ℕ → Bool) (b : ℕ) (bytes : List ℕ) → test b ≡ false
    → length (drop (length_before test (b ∷ bytes)) (b ∷ bytes)) < length (b ∷ bytes)
run_taken test b bytes fails = by (test b) fails
  where
    by : (t : Bool) → t ≡ false
        → length (drop (cond t 0 (suc (length_before test bytes))) (b ∷ bytes)) < length (b ∷ bytes)
    by true e = absurd (cc)
    by false e = let less : length (drop (length_before test bytes) bytes) ≤ length bytes = dropped _ bytes in omega arith

pub without_le : (mark : ℕ) (bytes : List ℕ) → length (without_first mark bytes) ≤ length bytes
without_le mark [] = omega arith
without_le mark (b ∷ bytes) = by (nat_eq b mark)
  where
    by : (t : Bool) → length (cond t bytes (b ∷ bytes)) ≤ length (b ∷ bytes)
    by true = omega arith
    by false = omega arith

without_less : (mark : ℕ) (bytes : List ℕ) → is_first mark bytes ≡ true → length (without_first mark bytes) < length bytes
without_less mark [] first = absurd (cc)
without_less mark (b ∷ bytes) first = by (nat_eq b mark) first
  where
    by : (t : Bool) → t ≡ true → length (cond t bytes (b ∷ bytes)) < length (b ∷ bytes)
    by true e = omega arith
    by false e = absurd (cc)

pub passed_le : (mark : ℕ) (p : Progress) → length (passed mark p).left ≤ length p.left
passed_le mark p =
    let white : length (after_white p.left) ≤ length p.left = dropped (length_before is_black p.left) p.left in
    let mark_passed : length (without_first mark (after_white p.left)) ≤ length (after_white p.left) =
    without_le mark (after_white p.left) in
    omega arith

pub passed_less : (mark : ℕ) (p : Progress) → stands mark p ≡ true → length (passed mark p).left < length p.left
passed_less mark p first =
    let white : length (after_white p.left) ≤ length p.left = dropped (length_before is_black p.left) p.left in
    let mark_passed : length (without_first mark (after_white p.left)) < length (after_white p.left) =
    without_less mark (after_white p.left) first in
    omega arith

pub mark_below : (mark : ℕ) (p : Progress) → Below (length p.left) (take_mark mark p)
mark_below mark p =
    cond_both (stands mark p) (Ok (passed mark p)) (Err (unexpected (passed mark p).left)) (Below (length p.left))
    (λ first. passed_less mark p first) (λ fails. tt)

identifier_at_below : (bytes : List ℕ) (p : Progress) (n : ℕ) → length bytes ≤ n → GivesBelow n (identifier_at bytes p)
identifier_at_below [] p n le = tt
identifier_at_below (b ∷ bytes) p n le = by (begins_name (b ∷ bytes)) refl
  where
    by : (t : Bool) → begins_name (b ∷ bytes) ≡ t
        → GivesBelow {T = List ℕ} n (cond t
        (Ok (lowered (take (length_before ends_name (b ∷ bytes)) (b ∷ bytes)), record p { left = drop (length_before ends_name (b ∷ bytes)) (b ∷ bytes) }))
        (Err (unexpected (b ∷ bytes))))
    by true e =
        let taken : length (drop (length_before ends_name (b ∷ bytes)) (b ∷ bytes)) < length (b ∷ bytes) =
        run_taken ends_name b bytes (not_from_true (is_name_byte b) (and_parts (is_name_byte b) (not (is_digit b)) e).0) in
        omega arith
    by false e = tt

pub identifier_below : (p : Progress) → GivesBelow (length p.left) (take_identifier p)
identifier_below p =
    identifier_at_below (after_white p.left) p (length p.left) (dropped (length_before is_black p.left) p.left)

opening_at_below : (bytes : List ℕ) (p : Progress) (n : ℕ) → length bytes ≤ n → GivesBelow n (opening_at bytes p)
opening_at_below [] p n le = tt
opening_at_below (b ∷ bytes) p n le = by (nat_eq b 123) (nat_eq b 40)
  where
    by : (s t : Bool) → GivesBelow {T = ℕ} n (cond s (Ok (125, record p { left = bytes }))
        (cond t (Ok (41, record p { left = bytes })) (Err (unexpected (b ∷ bytes)))))
    by true t = omega arith
    by false true = omega arith
    by false false = tt

pub opening_below : (p : Progress) → GivesBelow (length p.left) (take_opening p)
opening_below p =
    opening_at_below (after_white p.left) p (length p.left) (dropped (length_before is_black p.left) p.left)

closed_below : (mark : ℕ) (text left : List ℕ) (p : Progress) (n : ℕ) → length left ≤ n → Below n (closed mark text left p)
closed_below mark text [] p n le = tt
closed_below mark text (b ∷ left) p n le =
    cond_both (nat_eq b mark) (Ok (joined text left p)) _ (Below n) (λ holds. omega arith) (λ fails. tt)

macro_left : (name : List ℕ) (value : Option (List ℕ)) (p : Progress) → (macro_joined name value p).left ≡ p.left
macro_left name (Some value) p = refl
macro_left name None p = refl

macro_below : (p : Progress) → Below (length p.left) (take_macro p)
macro_below p =
    then_holds (UnderAfter (length p.left)) (Under (length p.left)) (take_identifier p) (λ found. Ok (with_macro found.0 found.1))
    (identifier_below p)
    (λ found less. subst (λ left. length left < length p.left)
    (sym (macro_left found.0 (value_of found.0 found.1.macros) found.1)) less)

digits_false : (b : ℕ) → is_digit b ≡ true → ends_digits b ≡ false
digits_false b e = not_from_true (is_digit b) e

piece_at_below : (bytes : List ℕ) (p : Progress) → length bytes ≤ length p.left → Below (length p.left) (piece_at bytes p)
piece_at_below [] p le = tt
piece_at_below (b ∷ bytes) p le =
    let shorter : length bytes < length p.left = omega arith in
    cond_both (nat_eq b 123) (take_closed 125 bytes p) _ (Below (length p.left))
    (λ holds. closed_below 125 (take (inside_length 125 0 bytes) bytes) (drop (inside_length 125 0 bytes) bytes) p (length p.left)
    (let less : length (drop (inside_length 125 0 bytes) bytes) ≤ length bytes = dropped (inside_length 125 0 bytes) bytes in omega arith))
    (λ fails. cond_both (nat_eq b 34) (take_closed 34 bytes p) _ (Below (length p.left))
    (λ holds. closed_below 34 (take (inside_length 34 0 bytes) bytes) (drop (inside_length 34 0 bytes) bytes) p (length p.left)
    (let less : length (drop (inside_length 34 0 bytes) bytes) ≤ length bytes = dropped (inside_length 34 0 bytes) bytes in omega arith))
    (λ fails2. cond_both (is_digit b) (Ok (take_digits (b ∷ bytes) p)) (take_macro p) (Below (length p.left))
    (λ holds. let taken : length (drop (length_before ends_digits (b ∷ bytes)) (b ∷ bytes)) < length (b ∷ bytes) =
    run_taken ends_digits b bytes (digits_false b holds) in omega arith)
    (λ fails3. macro_below p)))

pub piece_below : (p : Progress) → Below (length p.left) (take_piece p)
piece_below p = piece_at_below (after_white p.left) p (dropped (length_before is_black p.left) p.left)

pub pieces_below : (n : ℕ) (p : Progress) → Below (length p.left) (take_pieces n p)
pieces_below zero p = tt
pieces_below (suc n) p =
    then_holds (Under (length p.left)) (Under (length p.left)) (take_piece p) _ (piece_below p)
    (λ q less. cond_both (stands 35 q) (take_pieces n (passed 35 q)) (Ok (passed 35 q)) (Below (length p.left))
    (λ holds. weaker (length (passed 35 q).left) (length p.left) (take_pieces n (passed 35 q))
    (let le : length (passed 35 q).left ≤ length q.left = passed_le 35 q in omega arith) (pieces_below n (passed 35 q)))
    (λ fails. let le : length (passed 35 q).left ≤ length q.left = passed_le 35 q in omega arith))

value_below : (p : Progress) → Below (length p.left) (take_value p)
value_below p = pieces_below (length p.left) (record p { text = [] })

equals_below : (p : Progress) → Below (length p.left) (take_equals p)
equals_below p =
    then_holds (Under (length p.left)) (Under (length p.left)) (take_mark 61 p) take_value (mark_below 61 p)
    (λ q less. weaker (length q.left) (length p.left) (take_value q) (omega arith) (value_below q))

cond_left : (t : Bool) (x y : Progress) (left : List ℕ) → x.left ≡ left → y.left ≡ left → (cond t x y).left ≡ left
cond_left true x y left e f = e
cond_left false x y left e f = f

pub noted_left : (key name : List ℕ) (p : Progress) → (noted key name p).left ≡ p.left
noted_left key name p =
    cond_left (has_field name p.fields) (record p { warnings = p.warnings ++ second_field name key ∷ [] }) p p.left
    refl refl

pub with_field_left : (name : List ℕ) (p : Progress) → (with_field name p).left ≡ p.left
with_field_left name p =
    cond_left (has_field name p.fields) p
    (record p { fields = p.fields ++ record { name = name; value = trimmed p.text } ∷ [] }) p.left refl refl

named_below : (key name : List ℕ) (p : Progress) → Below (length p.left) (take_named key name p)
named_below key name p =
    then_holds (Under (length p.left)) (Under (length p.left)) (take_equals (noted key name p)) (λ q. Ok (with_field name q))
    (subst (λ left. Below (length left) (take_equals (noted key name p))) (noted_left key name p)
    (equals_below (noted key name p)))
    (λ q less. subst (λ left. length left < length p.left) (sym (with_field_left name q)) less)

pub field_below : (key : List ℕ) (p : Progress) → Below (length p.left) (take_field key p)
field_below key p =
    then_holds (UnderAfter (length p.left)) (Under (length p.left)) (take_identifier p) (λ found. take_named key found.0 found.1)
    (identifier_below p)
    (λ found less. weaker (length found.1.left) (length p.left) (take_named key found.0 found.1) (omega arith)
    (named_below key found.0 found.1))

pub fields_below : (n close : ℕ) (key : List ℕ) (p : Progress) → Below (length p.left) (take_fields n close key p)
fields_below zero close key p = tt
fields_below (suc n) close key p =
    let le : length (passed close p).left ≤ length p.left = passed_le close p in
    cond_both (stands close p) (Ok (passed close p)) _ (Below (length p.left)) (λ holds. passed_less close p holds)
    (λ fails. then_holds (Under (length (passed close p).left)) (Under (length p.left)) (take_mark 44 (passed close p)) _
    (mark_below 44 (passed close p))
    (λ q less.
    let le2 : length (passed close q).left ≤ length q.left = passed_le close q in
    cond_both (stands close q) (Ok (passed close q)) _ (Below (length p.left)) (λ holds. omega arith)
    (λ fails2. then_holds (Under (length (passed close q).left)) (Under (length p.left)) (take_field key (passed close q))
    (take_fields n close key) (field_below key (passed close q))
    (λ r less2. weaker (length r.left) (length p.left) (take_fields n close key r) (omega arith)
    (fields_below n close key r)))))

entry_at_below : (close : ℕ) (entry_type bytes : List ℕ) (p : Progress) (n : ℕ) → length bytes ≤ n
    → Below n (entry_at close entry_type bytes p)
entry_at_below close entry_type bytes p n le =
    let left : List ℕ = drop (length_before (ends_key close) bytes) bytes in
    let less : length left ≤ length bytes = dropped (length_before (ends_key close) bytes) bytes in
    let key : List ℕ = take (length_before (ends_key close) bytes) bytes in
    let begun : Progress = record p { left = left; fields = [] } in
    cond_both (nat_eq (length_before (ends_key close) bytes) 0) (Err (unexpected bytes)) _ (Below n) (λ holds. tt)
    (λ fails. cond_both (has_entry (lowered key) p.entries) (Err (RepeatedKey (length bytes))) _ (Below n) (λ holds. tt)
    (λ fails2. then_holds (Under (length left)) (Under n) (take_fields (length left) close key begun)
    (λ q. Ok (with_entry key entry_type q)) (fields_below (length left) close key begun)
    (λ q shorter. omega arith)))

entry_below : (close : ℕ) (entry_type : List ℕ) (p : Progress) → Below (length p.left) (take_entry close entry_type p)
entry_below close entry_type p =
    entry_at_below close entry_type (after_white p.left) p (length p.left) (dropped (length_before is_black p.left) p.left)

definition_below : (close : ℕ) (name : List ℕ) (p : Progress) → Below (length p.left) (take_definition close name p)
definition_below close name p =
    then_holds (Under (length p.left)) (Under (length p.left)) (take_equals p) _ (equals_below p)
    (λ q less. then_holds (Under (length q.left)) (Under (length p.left)) (take_mark close q) (λ r. Ok (with_definition name r))
    (mark_below close q) (λ r less2. omega arith))

string_below : (close : ℕ) (p : Progress) → Below (length p.left) (take_string close p)
string_below close p =
    then_holds (UnderAfter (length p.left)) (Under (length p.left)) (take_identifier p) (λ found. take_definition close found.0 found.1)
    (identifier_below p)
    (λ found less. weaker (length found.1.left) (length p.left) (take_definition close found.0 found.1) (omega arith)
    (definition_below close found.0 found.1))

preamble_below : (close : ℕ) (p : Progress) → Below (length p.left) (take_preamble close p)
preamble_below close p =
    then_holds (Under (length p.left)) (Under (length p.left)) (take_value p) _ (value_below p)
    (λ q less. then_holds (Under (length q.left)) (Under (length p.left)) (take_mark close q) (λ r. Ok (with_preamble r))
    (mark_below close q) (λ r less2. omega arith))

opened_below : (word : List ℕ) (close : ℕ) (p : Progress) → Below (length p.left) (take_opened word close p)
opened_below word close p =
    cond_both (same_name word (codes "string")) (take_string close p) _ (Below (length p.left)) (λ holds. string_below close p)
    (λ fails. cond_both (same_name word (codes "preamble")) (take_preamble close p) (take_entry close word p) (Below (length p.left))
    (λ holds. preamble_below close p) (λ fails2. entry_below close word p))

pub item_below : (p : Progress) → Below (length p.left) (take_item p)
item_below p =
    then_holds (UnderAfter (length p.left)) (Under (length p.left)) (take_identifier p) _ (identifier_below p)
    (λ found less. cond_both (same_name found.0 (codes "comment")) (Ok found.1) _ (Below (length p.left)) (λ holds. less)
    (λ fails. then_holds (UnderAfter (length found.1.left)) (Under (length p.left)) (take_opening found.1)
    (λ opened. take_opened found.0 opened.0 opened.1) (opening_below found.1)
    (λ opened less2. weaker (length opened.1.left) (length p.left) (take_opened found.0 opened.0 opened.1) (omega arith)
    (opened_below found.0 opened.0 opened.1))))
