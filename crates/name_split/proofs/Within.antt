-- The parts of a name stand in it.
use Rattle.std.proofs.Common.{◌≡◌, ℕ, zero, suc, ◌+◌, ◌-◌, ◌≤◌, Bool, true, false, cond, nat_eq, nat_lt, min, List, [], ◌∷◌, length, take, drop, Ok, Err, IfOk, refl, sym, ap, ◌∙◌, subst, arith}
use Rattle.std.proofs.lemmas.List.{length-drop, length-take}
use Rattle.name_split.specs.declared.parts.NameFault.{NameFault}
use Rattle.name_split.specs.declared.spans.Parts.{Parts}
use Rattle.name_split.specs.declared.tokens.Token.{Token}
use Rattle.name_split.specs.Order.{AreWithin, IsWithin}
use Rattle.name_split.specs.Parts.{chain_start, commas, ends_in_comma, empty, last_end, parts_of, parts_with, tokens_between, von_end, von_start, whole, with_von, without_von}
use Rattle.name_split.specs.Spans.{front, slice}
use Rattle.name_split.specs.Tokens.{ends_token, token_length, tokens_of}
use Rattle.name_split.proofs.Cutting.{front_within}
use Rattle.name_split.proofs.Taking.{taken, ended, leveled_within}

-- tokens stand in order, from a byte of the name up to another
abbrev TokensIn : ℕ → List Token → ℕ → Type 0
TokensIn from [] end = Unit {0}
TokensIn from (token ∷ tokens) end =
    (from ≤ token.start) × (token.start ≤ token.end) × (token.end ≤ end) × TokensIn token.end tokens end

sooner : (from other : ℕ) (tokens : List Token) (end : ℕ) → other ≤ from → TokensIn from tokens end → TokensIn other tokens end
sooner from other [] end h k = tt
sooner from other (token ∷ tokens) end h (a, b, c, more) = (omega arith, b, c, more)

later : (from : ℕ) (tokens : List Token) (end other : ℕ) → end ≤ other → TokensIn from tokens end → TokensIn from tokens other
later from [] end other h k = tt
later from (token ∷ tokens) end other h (a, b, c, more) = (a, b, omega arith, later token.end tokens end other h more)

taken_in : (from count : ℕ) (tokens : List Token) (end : ℕ) → TokensIn from tokens end → TokensIn from (take count tokens) end
taken_in from zero tokens end h = tt
taken_in from (suc count) [] end h = tt
taken_in from (suc count) (token ∷ tokens) end (a, b, c, more) = (a, b, c, taken_in token.end count tokens end more)

dropped_in : (from count : ℕ) (tokens : List Token) (end : ℕ) → TokensIn from tokens end → TokensIn from (drop count tokens) end
dropped_in from zero tokens end h = h
dropped_in from (suc count) [] end h = tt
dropped_in from (suc count) (token ∷ tokens) end (a, b, c, more) =
    sooner token.end from (drop count tokens) end (omega arith) (dropped_in token.end count tokens end more)

last_in : (token : Token) (tokens : List Token) (end : ℕ) → token.end ≤ end → TokensIn token.end tokens end
    → (token.end ≤ last_end token tokens) × (last_end token tokens ≤ end)
last_in token [] end h k = (omega arith, h)
last_in token (next ∷ tokens) end h (a, b, c, more) =
    let rest = last_in next tokens end c more in
    let low : next.end ≤ last_end next tokens = rest.0 in
    (omega arith, rest.1)

-- the stretch of tokens that stand in order
whole_in : (from : ℕ) (tokens : List Token) (end : ℕ) → TokensIn from tokens end → IsWithin 0 end (whole tokens)
whole_in from [] end h = record { after = omega arith; forward = omega arith; before = omega arith }
whole_in from (token ∷ tokens) end (a, b, c, more) =
    let last = last_in token tokens end c more in
    let low : token.end ≤ last_end token tokens = last.0 in
    record { after = omega arith; forward = omega arith; before = last.1 }

-- the next token, and those after it
tokens_case : (n at : ℕ) (bytes : List ℕ) (gap count : ℕ) (rest after : List ℕ)
    → gap ≡ front (ends_token 0) bytes → rest ≡ drop gap bytes → count ≡ token_length 0 rest → after ≡ drop count rest
    → length bytes ≤ suc n
    → ((at : ℕ) (bytes : List ℕ) → length bytes ≤ n → TokensIn at (tokens_of at bytes) (at + length bytes))
    → TokensIn at (tokens_of at bytes) (at + length bytes)
tokens_case n at bytes gap zero rest after g r c a h more =
    subst (λ ts. TokensIn at ts (at + length bytes)) (sym (ended bytes rest after at gap 0 at g r c a refl).0) tt
tokens_case n at bytes gap (suc count) rest after g r c a h more =
    let close : gap ≤ length bytes = subst (λ k. k ≤ length bytes) (sym g) (front_within (ends_token 0) bytes) in
    let fits : suc count ≤ length rest = subst (λ k. k ≤ length rest) (sym c) (leveled_within ends_token 0 rest) in
    let long : length rest ≡ length bytes - gap = ap length r ∙ length-drop gap bytes in
    let left : length after ≡ length rest - suc count = ap length a ∙ length-drop (suc count) rest in
    subst (λ ts. TokensIn at ts (at + length bytes))
    (sym (taken bytes rest after at gap (suc count) g r c a (λ e. absurd (omega arith)))) (
      omega arith,
      omega arith,
      omega arith,
      later (at + gap + suc count) (tokens_of (at + gap + suc count) after) (at + gap + suc count + length after) (at + length bytes)
          (omega arith) (more (at + gap + suc count) after (omega arith)),
    )

tokens_in : (n at : ℕ) (bytes : List ℕ) → length bytes ≤ n → TokensIn at (tokens_of at bytes) (at + length bytes)
tokens_in n at [] h = tt
tokens_in zero at (b ∷ bytes) h = absurd (omega arith)
tokens_in (suc n) at (b ∷ bytes) h =
    tokens_case n at (b ∷ bytes) (front (ends_token 0) (b ∷ bytes))
    (token_length 0 (drop (front (ends_token 0) (b ∷ bytes)) (b ∷ bytes)))
    (drop (front (ends_token 0) (b ∷ bytes)) (b ∷ bytes)) _ refl refl refl refl h (tokens_in n)

slice_case : (name bytes : List ℕ) (from to : ℕ) → bytes ≡ slice name (record { start = from; end = to })
    → TokensIn from (tokens_of from bytes) (length name)
slice_case name [] from to e = tt
slice_case name (b ∷ bytes) from to e =
    let long : suc (length bytes) ≡ min (to - from) (length (drop from name)) =
    ap length e ∙ length-take (to - from) (drop from name) in
    let left : length (drop from name) ≡ length name - from = length-drop from name in
    later from (tokens_of from (b ∷ bytes)) (from + suc (length bytes)) (length name) (omega arith)
    (tokens_in (suc (length bytes)) from (b ∷ bytes) (omega arith))

between_in : (name : List ℕ) (from to : ℕ) → TokensIn from (tokens_between name from to) (length name)
between_in name from to = slice_case name (slice name (record { start = from; end = to })) from to refl

empty_in : (end : ℕ) → IsWithin 0 end empty
empty_in end = record { after = omega arith; forward = omega arith; before = omega arith }

plain_in : (tokens : List Token) (end : ℕ) (test : Bool) → TokensIn 0 tokens end
    → AreWithin end (cond test (without_von tokens) (with_von tokens))
plain_in tokens end true h = record {
  first = whole_in 0 _ end (taken_in 0 (chain_start tokens) tokens end h);
  von = empty_in end;
  last = whole_in 0 _ end (dropped_in 0 (chain_start tokens) tokens end h);
  jr = empty_in end;
}
plain_in tokens end false h = record {
  first = whole_in 0 _ end (taken_in 0 (von_start tokens) tokens end h);
  von = whole_in 0 _ end (taken_in 0 (von_end tokens - von_start tokens) _ end (dropped_in 0 (von_start tokens) tokens end h));
  last = whole_in 0 _ end (dropped_in 0 (von_end tokens) tokens end h);
  jr = empty_in end;
}

commas_in : (name found : List ℕ) → AreWithin (length name) (parts_with name found)
commas_in name [] =
    plain_in (tokens_of 0 name) (length name) (nat_eq (von_end (tokens_of 0 name)) 0)
    (later 0 (tokens_of 0 name) (0 + length name) (length name) (omega arith) (tokens_in (length name) 0 name (omega arith)))
commas_in name (comma ∷ []) = record {
  first = whole_in (comma + 1) _ _ (between_in name (comma + 1) (length name));
  von = whole_in 0 _ _ (taken_in 0 (von_end (tokens_between name 0 comma)) _ _ (between_in name 0 comma));
  last = whole_in 0 _ _ (dropped_in 0 (von_end (tokens_between name 0 comma)) _ _ (between_in name 0 comma));
  jr = empty_in (length name);
}
commas_in name (comma ∷ second ∷ found) = record {
  first = whole_in (second + 1) _ _ (between_in name (second + 1) (length name));
  von = whole_in 0 _ _ (taken_in 0 (von_end (tokens_between name 0 comma)) _ _ (between_in name 0 comma));
  last = whole_in 0 _ _ (dropped_in 0 (von_end (tokens_between name 0 comma)) _ _ (between_in name 0 comma));
  jr = whole_in (comma + 1) _ _ (between_in name (comma + 1) second);
}

if_in : (end : ℕ) (many ends : Bool) (fault other : NameFault) (spans : Parts) → AreWithin end spans
    → IfOk (cond many (Err fault) (cond ends (Err other) (Ok spans))) (AreWithin end)
if_in end true ends fault other spans h = tt
if_in end false true fault other spans h = tt
if_in end false false fault other spans h = h

pub parts_in : (name : List ℕ) → IfOk (parts_of name) (AreWithin (length name))
parts_in name =
    if_in (length name) (nat_lt 2 (length (commas 0 0 name))) (ends_in_comma 0 name) _ _ _ (commas_in name (commas 0 0 name))
