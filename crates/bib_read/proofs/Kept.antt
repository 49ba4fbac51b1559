-- Values and fields keep the macros, the entries and the preamble that are there, and add warnings alone; values keep the fields too.
use Rattle.std.proofs.Common.{◌≡◌, ℕ, zero, suc, Bool, true, false, cond, nat_eq, List, [], ◌∷◌, ◌++◌, length, drop, take, Option, None, Some, Result, Ok, Err, ap, ◌∙◌, append-nil, append_assoc, refl, subst, sym}
use Rattle.bv_base.specs.Runs.{after_white, is_digit, length_before}
use Rattle.name_table.specs.Names.{lowered}
use Rattle.bib_read.specs.declared.stop.Stop.{Stop}
use Rattle.bib_read.specs.Additions.{IsLonger}
use Rattle.bib_read.specs.Entering.{noted, take_field, take_fields, take_named, with_field}
use Rattle.bib_read.specs.Names.{has_field, value_of}
use Rattle.bib_read.specs.RawFields.{RawField}
use Rattle.bib_read.specs.Parts.{identifier_at, opening_at, passed, stands, take_identifier, take_mark, take_opening}
use Rattle.bib_read.specs.Progress.{Progress}
use Rattle.bib_read.specs.Runs.{begins_name, ends_name, inside_length}
use Rattle.bib_read.specs.Squeeze.{trimmed}
use Rattle.bib_read.specs.Stops.{unexpected}
use Rattle.bib_read.specs.Values.{closed, joined, macro_joined, piece_at, take_closed, take_digits, take_equals, take_macro, take_piece, take_pieces, take_value, with_macro}
use Rattle.bib_read.specs.Warnings.{second_field, undefined_macro}
use Rattle.bv_base.proofs.ThenLemmas.{then_holds}
use Rattle.std.specs.Prelude.{IfOk}

-- the same macros, entries and preamble, and maybe more warnings; what is kept of the fields is open
abbrev pub Still : (List RawField → Type 0) → Progress → Progress → Type 0
Still F s q = (q.macros ≡ s.macros) × (q.entries ≡ s.entries) × (q.preamble ≡ s.preamble) × IsLonger s.warnings q.warnings × F q.fields

-- nothing is kept of the fields
abbrev pub Any : List RawField → Type 0
Any fields = Unit {0}

abbrev pub Same : Progress → Progress → Type 0
Same s q = Still Any s q

abbrev pub Kept : (List RawField → Type 0) → Progress → Result Progress Stop → Type 0
Kept F s r = IfOk r (Still F s)

abbrev pub SameAfter : {T : Type 0} → (List RawField → Type 0) → Progress → T × Progress → Type 0
SameAfter F s found = Still F s found.1

abbrev pub GivesKept : {T : Type 0} → (List RawField → Type 0) → Progress → Result (T × Progress) Stop → Type 0
GivesKept F s r = IfOk r (SameAfter F s)

cond_kept : (F : List RawField → Type 0) (b : Bool) (s : Progress) (x y : Result Progress Stop) → Kept F s x → Kept F s y → Kept F s (cond b x y)
cond_kept F true s x y a b = a
cond_kept F false s x y a b = b

cond_same : (F : List RawField → Type 0) (b : Bool) (s x y : Progress) → Still F s x → Still F s y → Still F s (cond b x y)
cond_same F true s x y a b = a
cond_same F false s x y a b = b

-- one more warning
warned : (F : List RawField → Type 0) (s p : Progress) (warning : List ℕ) → Still F s p → Still F s (record p { warnings = p.warnings ++ warning ∷ [] })
warned F s p warning same = (
  same.0,
  same.1,
  same.2,
  (same.3.0 ++ warning ∷ [], ap (λ w. w ++ warning ∷ []) same.3.1 ∙ append_assoc s.warnings same.3.0 (warning ∷ [])),
  same.4,
)

pub mark_kept : (F : List RawField → Type 0) (s : Progress) (mark : ℕ) (p : Progress) → Still F s p → Kept F s (take_mark mark p)
mark_kept F s mark p same = cond_kept F (stands mark p) s (Ok (passed mark p)) (Err (unexpected (passed mark p).left)) same tt

identifier_at_kept : (F : List RawField → Type 0) (s : Progress) (bytes : List ℕ) (p : Progress) → Still F s p → GivesKept F s (identifier_at bytes p)
identifier_at_kept F s bytes p same = by (begins_name bytes)
  where
    by : (t : Bool)
        → GivesKept {T = List ℕ} F s (cond t
        (Ok (lowered (take (length_before ends_name bytes) bytes), record p { left = drop (length_before ends_name bytes) bytes }))
        (Err (unexpected bytes)))
    by true = same
    by false = tt

pub identifier_kept : (F : List RawField → Type 0) (s p : Progress) → Still F s p → GivesKept F s (take_identifier p)
identifier_kept F s p same = identifier_at_kept F s (after_white p.left) p same

opening_at_kept : (F : List RawField → Type 0) (s : Progress) (bytes : List ℕ) (p : Progress) → Still F s p → GivesKept F s (opening_at bytes p)
opening_at_kept F s [] p same = tt
opening_at_kept F s (b ∷ bytes) p same = by (nat_eq b 123) (nat_eq b 40)
  where
    by : (x y : Bool) → GivesKept {T = ℕ} F s (cond x (Ok (125, record p { left = bytes }))
        (cond y (Ok (41, record p { left = bytes })) (Err (unexpected (b ∷ bytes)))))
    by true y = same
    by false true = same
    by false false = tt

pub opening_kept : (F : List RawField → Type 0) (s p : Progress) → Still F s p → GivesKept F s (take_opening p)
opening_kept F s p same = opening_at_kept F s (after_white p.left) p same

closed_kept : (F : List RawField → Type 0) (s : Progress) (mark : ℕ) (text left : List ℕ) (p : Progress) → Still F s p → Kept F s (closed mark text left p)
closed_kept F s mark text [] p same = tt
closed_kept F s mark text (b ∷ left) p same = cond_kept F (nat_eq b mark) s (Ok (joined text left p)) _ same tt

macro_same : (F : List RawField → Type 0) (s : Progress) (name : List ℕ) (value : Option (List ℕ)) (p : Progress) → Still F s p → Still F s (macro_joined name value p)
macro_same F s name (Some value) p same = same
macro_same F s name None p same = warned F s p (undefined_macro name) same

macro_kept : (F : List RawField → Type 0) (s p : Progress) → Still F s p → Kept F s (take_macro p)
macro_kept F s p same =
    then_holds (SameAfter F s) (Still F s) (take_identifier p) (λ found. Ok (with_macro found.0 found.1)) (identifier_kept F s p same)
    (λ found kept. macro_same F s found.0 (value_of found.0 found.1.macros) found.1 kept)

piece_at_kept : (F : List RawField → Type 0) (s : Progress) (bytes : List ℕ) (p : Progress) → Still F s p → Kept F s (piece_at bytes p)
piece_at_kept F s [] p same = tt
piece_at_kept F s (b ∷ bytes) p same =
    cond_kept F (nat_eq b 123) s (take_closed 125 bytes p) _
    (closed_kept F s 125 (take (inside_length 125 0 bytes) bytes) (drop (inside_length 125 0 bytes) bytes) p same)
    (cond_kept F (nat_eq b 34) s (take_closed 34 bytes p) _
    (closed_kept F s 34 (take (inside_length 34 0 bytes) bytes) (drop (inside_length 34 0 bytes) bytes) p same)
    (cond_kept F (is_digit b) s (Ok (take_digits (b ∷ bytes) p)) (take_macro p) same (macro_kept F s p same)))

pieces_kept : (F : List RawField → Type 0) (n : ℕ) (s p : Progress) → Still F s p → Kept F s (take_pieces n p)
pieces_kept F zero s p same = tt
pieces_kept F (suc n) s p same =
    then_holds (Still F s) (Still F s) (take_piece p) _ (piece_at_kept F s (after_white p.left) p same)
    (λ q kept. cond_kept F (stands 35 q) s (take_pieces n (passed 35 q)) (Ok (passed 35 q)) (pieces_kept F n s (passed 35 q) kept) kept)

pub value_kept : (F : List RawField → Type 0) (s p : Progress) → Still F s p → Kept F s (take_value p)
value_kept F s p same = pieces_kept F (length p.left) s (record p { text = [] }) same

pub equals_kept : (F : List RawField → Type 0) (s p : Progress) → Still F s p → Kept F s (take_equals p)
equals_kept F s p same =
    then_holds (Still F s) (Still F s) (take_mark 61 p) take_value (mark_kept F s 61 p same) (λ q kept. value_kept F s q kept)

-- a value leaves the fields as they are
pub fields_stay : (p q : Progress) → take_equals p ≡ Ok q → q.fields ≡ p.fields
fields_stay p q taken =
    let as_before : List RawField → Type 0 = λ fields. fields ≡ p.fields in
    (subst (Kept as_before p) taken (equals_kept as_before p p (refl, refl, refl, ([], sym (append-nil p.warnings)), refl))).4

named_kept : (s : Progress) (key name : List ℕ) (p : Progress) → Same s p → Kept Any s (take_named key name p)
named_kept s key name p same =
    then_holds (Same s) (Same s) (take_equals (noted key name p)) (λ q. Ok (with_field name q))
    (equals_kept Any s (noted key name p)
    (cond_same Any (has_field name p.fields) s (record p { warnings = p.warnings ++ second_field name key ∷ [] }) p
    (warned Any s p (second_field name key) same) same))
    (λ q kept. cond_same Any (has_field name q.fields) s q
    (record q { fields = q.fields ++ record { name = name; value = trimmed q.text } ∷ [] }) kept kept)

field_kept : (s : Progress) (key : List ℕ) (p : Progress) → Same s p → Kept Any s (take_field key p)
field_kept s key p same =
    then_holds (SameAfter Any s) (Same s) (take_identifier p) (λ found. take_named key found.0 found.1) (identifier_kept Any s p same)
    (λ found kept. named_kept s key found.0 found.1 kept)

pub fields_kept : (n : ℕ) (s : Progress) (close : ℕ) (key : List ℕ) (p : Progress) → Same s p → Kept Any s (take_fields n close key p)
fields_kept zero s close key p same = tt
fields_kept (suc n) s close key p same =
    cond_kept Any (stands close p) s (Ok (passed close p)) _ same
    (then_holds (Same s) (Same s) (take_mark 44 (passed close p)) _ (mark_kept Any s 44 (passed close p) same)
    (λ q kept. cond_kept Any (stands close q) s (Ok (passed close q)) _ kept
    (then_holds (Same s) (Same s) (take_field key (passed close q)) (take_fields n close key) (field_kept s key (passed close q) kept)
    (λ r more. fields_kept n s close key r more))))

-- fields leave the entries as they are
pub entries_stay : (n close : ℕ) (key : List ℕ) (p q : Progress) → take_fields n close key p ≡ Ok q → q.entries ≡ p.entries
entries_stay n close key p q taken =
    (subst (Kept Any p) taken (fields_kept n p close key p (refl, refl, refl, ([], sym (append-nil p.warnings)), tt))).1
