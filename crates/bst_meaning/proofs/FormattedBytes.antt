-- A name that is formatted is a string of bytes, and formatting gives one where its demands are met.
use Rattle.std.proofs.Common.{◌≡◌, ℕ, zero, suc, ◌+◌, ◌-◌, ◌<◌, Bool, true, false, ◌&&◌, ◌||◌, not, cond, nat_eq, List, [], ◌∷◌, ◌++◌, length, take, drop, refl, sym, subst, arith, Option, None, Some, Result, Ok, Err}
use Rattle.std.specs.Prelude.{ℤ, pos, negsuc, ◌≤ℤ◌, nat_lt, slice_get, slice_index, is_ok, IfSome}
use Rattle.std.proofs.lemmas.Bool.{and_parts}
use Rattle.std.proofs.lemmas.Int.{ints}
use Rattle.bv_base.specs.Levels.{closing, inside, is_closing, is_letter, next_level}
use Rattle.name_table.specs.Numbers.{IsByteList}
use Rattle.name_split.specs.declared.parts.NameFault.{NameFault}
use Rattle.name_split.specs.declared.spans.Parts.{Parts}
use Rattle.name_split.specs.declared.spans.Span.{Span}
use Rattle.name_split.specs.declared.tokens.Token.{Token}
use Rattle.name_split.specs.AllParts.{all_have_parts, names_ok}
use Rattle.name_split.specs.Formatted.{BadPattern, Manner, behind_between, between_of, but_last_byte, characters, ends_with, formatted, group_written, initial, is_alone, joined, joint_text, name_written, part_of, part_written, pattern_written, period, span_written, tied, token_bytes, token_text, tokens_written}
use Rattle.name_split.specs.Names.{names_of}
use Rattle.name_split.specs.Parts.{parts_of}
use Rattle.name_split.specs.Patterns.{before_run, letter_runs, pattern_ok}
use Rattle.name_split.specs.Spans.{slice}
use Rattle.name_split.specs.Tokens.{first_is, tokens_of}
use Rattle.name_table.proofs.ByteLists.{bytes_joined, bytes_taken, bytes_dropped}

-- a choice of two strings of bytes, a byte and a slice of one
bytes_chosen : (t : Bool) (xs ys : List ℕ) → IsByteList xs → IsByteList ys → IsByteList (cond t xs ys)
bytes_chosen true xs ys h k = h
bytes_chosen false xs ys h k = k

byte_within : (xs : List ℕ) (n : ℕ) → IsByteList xs → slice_index xs n < 256
byte_within [] n h = omega arith
byte_within (x ∷ xs) zero h = h.0
byte_within (x ∷ xs) (suc n) h = byte_within xs n h.1

bytes_sliced : (text : List ℕ) (span : Span) → IsByteList text → IsByteList (slice text span)
bytes_sliced text span h = bytes_taken (span.end - span.start) (drop span.start text) (bytes_dropped span.start text h)

-- what stands within braces
bytes_inside : (level : ℕ) (bs : List ℕ) → IsByteList bs → IsByteList (inside level bs)
bytes_inside level [] h = tt
bytes_inside level (b ∷ bs) h =
    bytes_chosen (is_closing level b) [] (b ∷ inside (next_level level b) bs) tt (h.0, bytes_inside (next_level level b) bs h.1)

bytes_closing : (level : ℕ) (bs : List ℕ) → IsByteList bs → IsByteList (closing level bs)
bytes_closing level [] h = tt
bytes_closing level (b ∷ bs) h =
    bytes_chosen (is_closing level b) (b ∷ []) (closing (next_level level b) bs) (h.0, tt) (bytes_closing (next_level level b) bs h.1)

-- a token, whole or by its initial
bytes_initial : (token : List ℕ) → IsByteList token → IsByteList (initial token)
bytes_initial [] h = tt
bytes_initial (b ∷ bytes) h =
    bytes_chosen (nat_eq b 123 && first_is 92 bytes) (123 ∷ (inside 1 bytes ++ closing 1 bytes)) (cond (is_letter b) (b ∷ []) (initial bytes))
    (omega arith, bytes_joined (inside 1 bytes) (closing 1 bytes) (bytes_inside 1 bytes h.1) (bytes_closing 1 bytes h.1))
    (bytes_chosen (is_letter b) (b ∷ []) (initial bytes) (h.0, tt) (bytes_initial bytes h.1))

bytes_token : (manner : Manner) (token : List ℕ) → IsByteList token → IsByteList (token_text manner token)
bytes_token manner token h = bytes_chosen manner.is_whole token (initial token) h (bytes_initial token h)

-- tokens with what joins them
bytes_joint : (b : ℕ) (is_last : Bool) (written : List ℕ) → b < 256 → IsByteList (joint_text b is_last written)
bytes_joint b is_last written h =
    bytes_chosen (nat_eq b 126 || nat_eq b 45) (b ∷ []) (cond (is_last || nat_lt (characters written) 3) (126 ∷ []) (32 ∷ [])) (h, tt)
    (bytes_chosen (is_last || nat_lt (characters written) 3) (126 ∷ []) (32 ∷ []) (omega arith, tt) (omega arith, tt))

bytes_dotted : (manner : Manner) (written : List ℕ) → IsByteList written → IsByteList (written ++ period manner)
bytes_dotted manner written h =
    bytes_joined written (period manner) h (bytes_chosen manner.is_whole [] (46 ∷ []) tt (omega arith, tt))

bytes_between : (manner : Manner) (between : Option (List ℕ)) (b : ℕ) (is_last : Bool) (written : List ℕ) → IfSome between IsByteList → b < 256
    → IsByteList written → IsByteList (joined manner between b is_last written)
bytes_between manner (Some text) b is_last written k below h = bytes_joined written text h k
bytes_between manner None b is_last written k below h =
    bytes_joined (written ++ period manner) (joint_text b is_last (written ++ period manner)) (bytes_dotted manner written h)
    (bytes_joint b is_last (written ++ period manner) below)

bytes_tokens : (manner : Manner) (text written : List ℕ) (tokens : List Token) → IfSome manner.between IsByteList → IsByteList text
    → IsByteList written → IsByteList (tokens_written manner text written tokens)
bytes_tokens manner text written [] k h so_far = so_far
bytes_tokens manner text written (token ∷ []) k h so_far =
    bytes_joined written (token_text manner (token_bytes text token)) so_far
    (bytes_token manner (token_bytes text token) (bytes_sliced text (record { start = token.start; end = token.end }) h))
bytes_tokens manner text written (token ∷ next ∷ tokens) k h so_far =
    let more : List ℕ = written ++ token_text manner (token_bytes text token) in
    let fine : IsByteList more =
    bytes_joined written (token_text manner (token_bytes text token)) so_far
    (bytes_token manner (token_bytes text token) (bytes_sliced text (record { start = token.start; end = token.end }) h)) in
    bytes_tokens manner text (joined manner manner.between (slice_index text token.end) (is_alone tokens) more) (next ∷ tokens) k h
    (bytes_between manner manner.between (slice_index text token.end) (is_alone tokens) more k (byte_within text token.end h) fine)

-- the end of a group
bytes_but_last : (text : List ℕ) → IsByteList text → IsByteList (but_last_byte text)
bytes_but_last text h = bytes_taken (length text - 1) text h

bytes_tied : (before since : List ℕ) → IsByteList before → IsByteList since → IsByteList (tied before since)
bytes_tied before since h k =
    let whole : List ℕ = before ++ since in
    let shorter : List ℕ = but_last_byte whole in
    let fine : IsByteList whole = bytes_joined before since h k in
    let less : IsByteList shorter = bytes_but_last whole fine in
    bytes_chosen (not (ends_with 126 whole)) whole
    (cond (ends_with 126 shorter) shorter (cond (nat_lt (characters (but_last_byte since)) 3) whole (shorter ++ 32 ∷ []))) fine
    (bytes_chosen (ends_with 126 shorter) shorter (cond (nat_lt (characters (but_last_byte since)) 3) whole (shorter ++ 32 ∷ [])) less
    (bytes_chosen (nat_lt (characters (but_last_byte since)) 3) whole (shorter ++ 32 ∷ []) fine
    (bytes_joined shorter (32 ∷ []) less (omega arith, tt))))

-- what follows the letters of a group
between_chosen : (t : Bool) (bytes : List ℕ) → IsByteList bytes → IfSome (cond t (Some (inside 1 bytes)) None) IsByteList
between_chosen true bytes h = bytes_inside 1 bytes h
between_chosen false bytes h = tt

bytes_between_of : (bytes : List ℕ) → IsByteList bytes → IfSome (between_of bytes) IsByteList
bytes_between_of [] h = tt
bytes_between_of (b ∷ bytes) h = between_chosen (nat_eq b 123) bytes h.1

bytes_behind : (bytes : List ℕ) → IsByteList bytes → IsByteList (behind_between bytes)
bytes_behind [] h = tt
bytes_behind (b ∷ bytes) h =
    bytes_chosen (nat_eq b 123) (drop (length (inside 1 bytes) + 1) bytes) (b ∷ bytes) (bytes_dropped (length (inside 1 bytes) + 1) bytes h.1) h

-- a part, a group and a pattern
bytes_part : (manner : Manner) (text : List ℕ) (tokens : List Token) (before behind : List ℕ) → IfSome manner.between IsByteList
    → IsByteList text → IsByteList before → IsByteList behind → IsByteList (part_written manner text tokens before behind)
bytes_part manner text [] before behind k h front end = tt
bytes_part manner text (token ∷ tokens) before behind k h front end =
    bytes_tied before (tokens_written manner text [] (token ∷ tokens) ++ behind) front
    (bytes_joined (tokens_written manner text [] (token ∷ tokens)) behind (bytes_tokens manner text [] (token ∷ tokens) k h tt) end)

bytes_group : (name : List ℕ) (parts : Parts) (group : List ℕ) (runs : List (List ℕ)) → IsByteList name → IsByteList group
    → IsByteList (group_written name parts group runs)
bytes_group name parts group [] h k = k
bytes_group name parts group (run ∷ runs) h k =
    let text : List ℕ = slice name (part_of (slice_index run 0) parts) in
    let behind : List ℕ = drop (before_run 1 group + length run) group in
    let fine : IsByteList behind = bytes_dropped (before_run 1 group + length run) group k in
    bytes_part (record { is_whole = nat_lt 1 (length run); between = between_of behind }) text (tokens_of 0 text)
    (take (before_run 1 group) group) (behind_between behind) (bytes_between_of behind fine)
    (bytes_sliced name (part_of (slice_index run 0) parts) h) (bytes_taken (before_run 1 group) group k) (bytes_behind behind fine)

bytes_pattern : (name : List ℕ) (parts : Parts) (passed : ℕ) (pattern : List ℕ) → IsByteList name → IsByteList pattern
    → IsByteList (pattern_written name parts passed pattern)
bytes_pattern name parts passed [] h k = tt
bytes_pattern name parts (suc passed) (b ∷ bytes) h k = bytes_pattern name parts passed bytes h k.1
bytes_pattern name parts zero (b ∷ bytes) h k =
    let group : List ℕ = inside 1 bytes in
    let written : List ℕ = group_written name parts group (letter_runs 1 group) in
    let later : List ℕ = pattern_written name parts (length group + 1) bytes in
    bytes_chosen (nat_eq b 123) (written ++ later) (b ∷ pattern_written name parts zero bytes)
    (bytes_joined written later (bytes_group name parts group (letter_runs 1 group) h (bytes_inside 1 bytes k.1))
    (bytes_pattern name parts (length group + 1) bytes h k.1))
    (k.0, bytes_pattern name parts zero bytes h k.1)

-- a name that is written
bytes_where : (well : Bool) (written result : List ℕ) → IsByteList written → cond well (Ok written) (Err BadPattern) ≡ Ok result → IsByteList result
bytes_where true written result h e = let same : written ≡ result = cc in subst (λ (bytes : List ℕ). IsByteList bytes) same h
bytes_where false written result h e = absurd (cc)

bytes_name : (name : List ℕ) (parts : Result Parts NameFault) (pattern result : List ℕ) → IsByteList name → IsByteList pattern
    → name_written name parts pattern ≡ Ok result → IsByteList result
bytes_name name (Err fault) pattern result h k e = absurd (cc)
bytes_name name (Ok parts) pattern result h k e =
    bytes_where (pattern_ok pattern) (pattern_written name parts zero pattern) result (bytes_pattern name parts zero pattern h k) e

bytes_span : (text : List ℕ) (span : Option Span) (pattern result : List ℕ) → IsByteList text → IsByteList pattern
    → span_written text span pattern ≡ Ok result → IsByteList result
bytes_span text None pattern result h k e = absurd (cc)
bytes_span text (Some span) pattern result h k e =
    bytes_name (slice text span) (parts_of (slice text span)) pattern result (bytes_sliced text span h) k e

pub formatted_bytes : (text : List ℕ) (index : ℤ) (pattern result : List ℕ) → IsByteList text → IsByteList pattern
    → formatted text index pattern ≡ Ok result → IsByteList result
formatted_bytes text (negsuc n) pattern result h k e = absurd (cc)
formatted_bytes text (pos zero) pattern result h k e = absurd (cc)
formatted_bytes text (pos (suc n)) pattern result h k e = bytes_span text (slice_get (names_of text) n) pattern result h k e

-- a name is written where it is there, has parts, and the pattern is well formed
name_given : (name : List ℕ) (parts : Result Parts NameFault) (pattern : List ℕ) → is_ok parts ≡ true → pattern_ok pattern ≡ true
    → (result : List ℕ) × (name_written name parts pattern ≡ Ok result)
name_given name (Err fault) pattern ok well = absurd (cc)
name_given name (Ok parts) pattern ok well =
    let written : List ℕ = pattern_written name parts zero pattern in
    (written, subst (λ (t : Bool). cond t (Ok written) (Err BadPattern) ≡ Ok written) (sym well) refl)

one_given : (text : List ℕ) (spans : List Span) (n : ℕ) (pattern : List ℕ) → n < length spans → all_have_parts text spans ≡ true
    → pattern_ok pattern ≡ true → (result : List ℕ) × (span_written text (slice_get spans n) pattern ≡ Ok result)
one_given text [] n pattern there all well = absurd (omega arith)
one_given text (span ∷ spans) zero pattern there all well =
    name_given (slice text span) (parts_of (slice text span)) pattern (and_parts _ _ all).0 well
one_given text (span ∷ spans) (suc n) pattern there all well = one_given text spans n pattern (omega arith) (and_parts _ _ all).1 well

pub formatted_ok : (text : List ℕ) (index : ℤ) (pattern : List ℕ) → pos 1 ≤ℤ index → index ≤ℤ pos (length (names_of text))
    → names_ok text ≡ true → pattern_ok pattern ≡ true → (result : List ℕ) × (formatted text index pattern ≡ Ok result)
formatted_ok text (negsuc n) pattern low high all well = absurd (omega (arith, ints))
formatted_ok text (pos zero) pattern low high all well = absurd (omega (arith, ints))
formatted_ok text (pos (suc n)) pattern low high all well = one_given text (names_of text) n pattern (omega (arith, ints)) all well
