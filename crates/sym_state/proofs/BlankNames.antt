-- The one name of a blank text is well formed.
use Rattle.std.proofs.Common.{◌≡◌, ℕ, zero, suc, ◌+◌, ◌-◌, ◌⊎◌, inl, inr, Bool, true, false, cond, ap, sym, ◌∙◌, subst, refl, List, [], ◌∷◌, length, take, drop, arith, nat_eq, ◌&&◌}
use Rattle.std.specs.Prelude.{is_ok}
use Rattle.std.specs.List.{list_all}
use Rattle.std.proofs.Math.Bool.{and-false}
use Rattle.std.proofs.lemmas.Bool.{and_parts, and_from}
use Rattle.std.proofs.lemmas.Bool.Decides.{nat_tests}
use Rattle.bv_base.specs.Bytes.{is_white, lower}
use Rattle.bv_base.specs.Levels.{next_level}
use Rattle.name_split.specs.declared.spans.Span.{Span}
use Rattle.name_split.specs.Spans.{slice, trimmed}
use Rattle.name_split.specs.Names.{separators, begins_separator, begins_and}
use Rattle.name_split.specs.Parts.{commas, ends_in_comma, parts_of}
use Rattle.name_split.specs.Tokens.{is_joint}
use Rattle.name_split.specs.AllParts.{names_ok}

white_is : (b : ℕ) → is_white b ≡ true → (b ≡ 9) ⊎ ((b ≡ 10) ⊎ ((b ≡ 13) ⊎ (b ≡ 32)))
white_is b e = grind (arith, nat_tests)

-- what is white is no letter and no comma
white_no_a : (b : ℕ) → is_white b ≡ true → nat_eq (lower b) 97 ≡ false
white_no_a b e = elim (white_is b e) [
  | inl h ↦ subst (λ (n : ℕ). nat_eq (lower n) 97 ≡ false) (sym h) refl
  | inr h ↦ elim h [
    | inl i ↦ subst (λ (n : ℕ). nat_eq (lower n) 97 ≡ false) (sym i) refl
    | inr i ↦ elim i [
      | inl j ↦ subst (λ (n : ℕ). nat_eq (lower n) 97 ≡ false) (sym j) refl
      | inr j ↦ subst (λ (n : ℕ). nat_eq (lower n) 97 ≡ false) (sym j) refl
    ]
  ]
]

white_no_comma : (b : ℕ) → is_white b ≡ true → nat_eq b 44 ≡ false
white_no_comma b e = elim (white_is b e) [
  | inl h ↦ subst (λ (n : ℕ). nat_eq n 44 ≡ false) (sym h) refl
  | inr h ↦ elim h [
    | inl i ↦ subst (λ (n : ℕ). nat_eq n 44 ≡ false) (sym i) refl
    | inr i ↦ elim i [
      | inl j ↦ subst (λ (n : ℕ). nat_eq n 44 ≡ false) (sym j) refl
      | inr j ↦ subst (λ (n : ℕ). nat_eq n 44 ≡ false) (sym j) refl
    ]
  ]
]

-- no `and` begins with what is white
no_and : (b : ℕ) (bytes : List ℕ) → is_white b ≡ true → begins_and (b ∷ bytes) ≡ false
no_and b [] e = refl
no_and b (n ∷ []) e = refl
no_and b (n ∷ d ∷ []) e = refl
no_and b (n ∷ d ∷ w ∷ bytes) e = ap (λ (t : Bool). t && nat_eq (lower n) 110 && nat_eq (lower d) 100 && is_white w) (white_no_a b e)

no_separator : (level : ℕ) (after : Bool) (b : ℕ) (bytes : List ℕ) → is_white b ≡ true → begins_separator level after (b ∷ bytes) ≡ false
no_separator level after b bytes e =
    ap (λ (t : Bool). nat_eq level 0 && after && t) (no_and b bytes e) ∙ and-false (nat_eq level 0 && after)

blank_separators : (at level : ℕ) (after : Bool) (bytes : List ℕ) → list_all is_white bytes ≡ true → separators at level after bytes ≡ []
blank_separators at level after [] e = refl
blank_separators at level after (b ∷ bytes) e =
    let both = and_parts (is_white b) (list_all is_white bytes) e in
    let more = separators (at + 1) (next_level level b) (is_white b) bytes in
    ap (λ (t : Bool). cond t (at ∷ more) more) (no_separator level after b bytes both.0)
    ∙ blank_separators (at + 1) (next_level level b) (is_white b) bytes both.1

blank_take : (n : ℕ) (bytes : List ℕ) → list_all is_white bytes ≡ true → list_all is_white (take n bytes) ≡ true
blank_take zero bytes e = refl
blank_take (suc n) [] e = refl
blank_take (suc n) (b ∷ bytes) e =
    let both = and_parts (is_white b) (list_all is_white bytes) e in and_from _ _ both.0 (blank_take n bytes both.1)

blank_drop : (n : ℕ) (bytes : List ℕ) → list_all is_white bytes ≡ true → list_all is_white (drop n bytes) ≡ true
blank_drop zero bytes e = e
blank_drop (suc n) [] e = refl
blank_drop (suc n) (b ∷ bytes) e =
    let both = and_parts (is_white b) (list_all is_white bytes) e in blank_drop n bytes both.1

blank_commas : (at level : ℕ) (bytes : List ℕ) → list_all is_white bytes ≡ true → commas at level bytes ≡ []
blank_commas at level [] e = refl
blank_commas at level (b ∷ bytes) e =
    let both = and_parts (is_white b) (list_all is_white bytes) e in
    let more = commas (at + 1) (next_level level b) bytes in
    ap (λ (t : Bool). cond (nat_eq level 0 && t) (at ∷ more) more) (white_no_comma b both.0)
    ∙ ap (λ (t : Bool). cond t (at ∷ more) more) (and-false (nat_eq level 0))
    ∙ blank_commas (at + 1) (next_level level b) bytes both.1

blank_end : (level : ℕ) (bytes : List ℕ) → list_all is_white bytes ≡ true → ends_in_comma level bytes ≡ false
blank_end level [] e = refl
blank_end level (b ∷ bytes) e =
    let both = and_parts (is_white b) (list_all is_white bytes) e in
    elim (list_all is_joint bytes) as (λ t. cond t (nat_eq level 0 && nat_eq b 44) (ends_in_comma (next_level level b) bytes) ≡ false) [
      | true ↦ ap (λ (t : Bool). nat_eq level 0 && t) (white_no_comma b both.0) ∙ and-false (nat_eq level 0)
      | false ↦ blank_end (next_level level b) bytes both.1
    ]

blank_parts : (name : List ℕ) → list_all is_white name ≡ true → is_ok (parts_of name) ≡ true
blank_parts name e = rw (blank_commas 0 0 name e, blank_end 0 name e) refl

-- where a text is blank its names are well formed
pub blank_names : (text : List ℕ) → list_all is_white text ≡ true → names_ok text ≡ true
blank_names [] e = refl
blank_names (b ∷ bytes) e =
    let text = b ∷ bytes in
    let span : Span = trimmed is_white text (record { start = 0; end = length text }) in
    rw (blank_separators 0 0 false (b ∷ bytes) e)
    (and_from _ _ (blank_parts (slice text span) (blank_take (span.end - span.start) (drop span.start text) (blank_drop span.start text e))) refl)
