-- How hints are read (docs/CERTIFICATES.md, "Hints").
use Rattle.std.specs.Prelude.{ℕ, min, Bool, ◌||◌, not, nat_eq, nat_lt, nat_le, if◌then◌else◌, List, [], ◌∷◌, ◌++◌, length, take, drop, codes, Option, None, Some, Result, Ok, Err}
use Rattle.bv_base.specs.Answers.{then_do}
use Rattle.bv_base.specs.Runs.{length_before, number_from}
use Rattle.sym_state.specs.declared.hint.Hint.{Hint}
use Rattle.sym_state.specs.declared.hint.Hint.TheVariants as hint
use Rattle.sym_state.specs.declared.proof.Proof.{Proof}
use Rattle.sym_state.specs.declared.proof.Reference.{Reference}
use Rattle.sym_state.specs.declared.proof.Reference.TheVariants.{Row, ValueLow, ValueHigh, LengthLow, NamesLow, NamesHigh, ExactLow, ExactHigh, NonblankLength, NonblankNames, TextLow, TextHigh, PosLow, PosHigh, CountLow, CountHigh}
use Rattle.sym_state.specs.declared.proof.Use.{Use}
use Rattle.cert_format.specs.Conditions.{last_natural}
use Rattle.cert_format.specs.Items.{has_leading_zero, is_empty, is_numeral, is_word, positive}
use Rattle.cert_format.specs.Lines.{Item, Line, next_item}
use Rattle.cert_format.specs.Pieces.{at_end, with_all}
use Rattle.cert_format.specs.declared.items.TheConstants.{MOST_NUMBER}
use Rattle.cert_format.specs.declared.limits.TheConstants.{MOST, MOST_ITEMS}
use Rattle.cert_format.specs.declared.stop.Stop.{Stop}
use Rattle.cert_format.specs.declared.stop.Stop.TheVariants.{Syntax, OutOfRange, NotCanonical, TooMany}

-- the references with a number, by their letters
abbrev pub numbered : ℕ → ℕ → Option Reference
numbered letter n =
    if nat_eq letter 114 then Some (Row n)
    else if nat_eq letter 118 then Some (ValueLow (record { 0 = n }))
    else if nat_eq letter 119 then Some (ValueHigh (record { 0 = n }))
    else if nat_eq letter 108 then Some (LengthLow (record { 0 = n }))
    else if nat_eq letter 110 then Some (NamesLow (record { 0 = n }))
    else if nat_eq letter 109 then Some (NamesHigh (record { 0 = n }))
    else if nat_eq letter 101 then Some (ExactLow (record { 0 = n }))
    else if nat_eq letter 102 then Some (ExactHigh (record { 0 = n }))
    else if nat_eq letter 98 then Some (NonblankLength (record { 0 = n }))
    else if nat_eq letter 99 then Some (NonblankNames (record { 0 = n }))
    else if nat_eq letter 116 then Some (TextLow (record { 0 = n }))
    else if nat_eq letter 117 then Some (TextHigh (record { 0 = n }))
    else None

-- the references without one
abbrev pub bare : ℕ → Option Reference
bare letter =
    if nat_eq letter 112 then Some PosLow
    else if nat_eq letter 113 then Some PosHigh
    else if nat_eq letter 111 then Some CountLow
    else if nat_eq letter 122 then Some CountHigh
    else None

-- the reference of a letter and digits; a number that is too great is told as the greatest
abbrev pub reference_of : List ℕ → Option Reference
reference_of [] = None
reference_of (letter ∷ digits) =
    if is_empty digits then bare letter
    else if is_numeral digits then numbered letter (min MOST_NUMBER (number_from 0 digits))
    else None

-- a number that a proof may not have
abbrev pub is_out : List ℕ → List ℕ → Bool
is_out times reference =
    nat_eq (number_from 0 times) 0 || nat_lt MOST_NUMBER (number_from 0 times)
    || nat_lt MOST_NUMBER (number_from 0 (drop 1 reference))

-- what is wanted of a part of an item that it must have
abbrev pub with_part : {A B : Type 0} → ℕ → Option A → (A → Result B Stop) → Result B Stop
with_part left (Some value) next = next value
with_part left None next = Err (Syntax left)

-- how often a row is taken, and the row, by their texts
abbrev pub use_of : List ℕ → List ℕ → ℕ → Result Use Stop
use_of times text left =
    if not (is_numeral times) then Err (Syntax left)
    else with_part left (reference_of text) (λ reference.
    if is_out times text then Err (OutOfRange left)
    else if has_leading_zero times || has_leading_zero (drop 1 text) then Err (NotCanonical left)
    else Ok (record { reference = reference; times = number_from 0 times }))

-- `:`
abbrev pub is_colon : ℕ → Bool
is_colon b = nat_eq b 58

-- M:REF
abbrev pub use_item : Item → Result Use Stop
use_item item =
    let count = length_before is_colon item.text in
    use_of (take count item.text) (drop 1 (drop count item.text)) item.left

-- what is added up, after what stands before it
abbrev pub add_uses : List Item → List Use → Result (List Use) Stop
add_uses [] before = Ok before
add_uses (item ∷ more) before =
    then_do (use_item item) (λ one.
    if nat_le MOST_ITEMS (length before) then Err (TooMany item.left) else add_uses more (before ++ one ∷ []))

-- D {M:REF}, after the word of the line
abbrev pub proof_line : Line → Result Proof Stop
proof_line line =
    then_do (next_item line) (λ item.
    then_do (positive MOST_NUMBER item.0) (λ divisor.
    then_do (with_all item.1 (λ more. add_uses more [])) (λ uses. Ok (record { divisor = divisor; uses = uses }))))

-- a hint without a number
abbrev pub bare_hint : Item → Line → Result Hint Stop
bare_hint word line =
    if is_word (codes "walk") word then at_end line hint.Walk
    else if is_word (codes "plain") word then at_end line hint.Plain
    else if is_word (codes "keep") word then at_end line hint.Keep
    else Err (Syntax word.left)

-- a hint by its first word
abbrev pub hint_line : Item → Line → Result Hint Stop
hint_line word line =
    if is_word (codes "step") word then then_do (proof_line line) (λ proof. Ok (hint.Step proof))
    else if is_word (codes "case") word then then_do (last_natural MOST line) (λ n. Ok (hint.Case n))
    else if is_word (codes "use") word then then_do (last_natural MOST line) (λ n. Ok (hint.Apply n))
    else if is_word (codes "loop") word then then_do (last_natural MOST line) (λ n. Ok (hint.Loop n))
    else if is_word (codes "drop") word then then_do (proof_line line) (λ proof. Ok (hint.Drop proof))
    else bare_hint word line
