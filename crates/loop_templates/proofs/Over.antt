-- The sums over the terms of a loop are over names that have a value.
use Rattle.std.proofs.Common.{◌≡◌, ℕ, zero, suc, Bool, true, false, ◌||◌, ap, ◌∙◌, refl, List, [], ◌∷◌, ◌++◌, map, Option}
use Rattle.std.specs.List.{All}
use Rattle.std.specs.Option.{option_map_or}
use Rattle.std.proofs.lemmas.List.Elements.{All-nil, All-cons, All-head, All-tail, All-append, All-filter, All-map, All-weaker}
use Rattle.lin_facts.specs.declared.row.Part.{Part}
use Rattle.lin_facts.specs.declared.row.Term.{Term}
use Rattle.lin_facts.specs.declared.row.Term.TheVariants.{Value, Length, Names, Pos}
use Rattle.name_table.specs.Sound.{Each}
use Rattle.name_table.specs.declared.names.Kind.{Kind}
use Rattle.name_table.specs.declared.names.Kind.TheVariants as kind
use Rattle.name_table.specs.declared.names.NameId.{NameId}
use Rattle.name_table.specs.declared.style.Style.{Style}
use Rattle.cert_format.specs.PieceItems.{is_zero}
use Rattle.sym_state.specs.WellMade.{ids_from}
use Rattle.loop_templates.specs.Bound.{all_bound, is_bound}
use Rattle.loop_templates.specs.Cases.{IsSumOver, IsTermOver, has_value}
use Rattle.loop_templates.specs.Reaching.{Marks, Occurring, command_terms, has_length, is_integer, is_marked, occurring_of, stays, strings_of, terms_over, values_over}
use Rattle.loop_templates.specs.declared.cases.Bound.{Bound}
use Rattle.loop_templates.specs.Sums.{choices, first_added, less, plus, signed, sums}
use Rattle.loop_templates.proofs.Fit.{all_flat}
use Rattle.loop_templates.proofs.Written.{ids_hold}

-- a term that is taken once has a property
abbrev Once : (Term → Type 0) → Part → Type 0
Once P part = (is_zero part.coefficient ≡ false) × P part.term

-- terms that are chosen have what all of them have
choices_hold : (P : Term → Type 0) (n : ℕ) (terms : List Term) → All P terms → All (All P) (choices n terms)
choices_hold P zero terms all = All-cons (All P) [] [] (All-nil P) (All-nil (All P))
choices_hold P (suc n) [] all = All-nil (All P)
choices_hold P (suc n) (term ∷ terms) all =
    let here = All-head P term terms all in
    let rest = All-tail P term terms all in
    All-append (All P) (map (λ chosen. term ∷ chosen) (choices n terms)) (choices (suc n) terms)
    (All-map (All P) (λ chosen. term ∷ chosen) (choices n terms)
    (All-weaker (All P) (λ chosen. All P (term ∷ chosen)) (λ chosen h. All-cons P term chosen here h) (choices n terms) (choices_hold P n terms rest)))
    (choices_hold P (suc n) terms rest)

one_before : (P : Term → Type 0) (part : Part) (sums : List (List Part)) → Once P part → All (All (Once P)) sums → All (All (Once P)) (map (λ sum. part ∷ sum) sums)
one_before P part sums h all =
    All-map (All (Once P)) (λ sum. part ∷ sum) sums
    (All-weaker (All (Once P)) (λ sum. All (Once P) (part ∷ sum)) (λ sum hold. All-cons (Once P) part sum h hold) sums all)

signed_hold : (P : Term → Type 0) (terms : List Term) → All P terms → All (All (Once P)) (signed terms)
signed_hold P [] all = All-cons (All (Once P)) [] [] (All-nil (Once P)) (All-nil (All (Once P)))
signed_hold P (term ∷ terms) all =
    let here = All-head P term terms all in
    let rest = signed_hold P terms (All-tail P term terms all) in
    All-append (All (Once P)) (map (λ sum. plus term ∷ sum) (signed terms)) (map (λ sum. less term ∷ sum) (signed terms))
    (one_before P (plus term) (signed terms) (refl, here) rest) (one_before P (less term) (signed terms) (refl, here) rest)

added_hold : (P : Term → Type 0) (terms : List Term) → All P terms → All (All (Once P)) (first_added terms)
added_hold P [] all = All-nil (All (Once P))
added_hold P (term ∷ terms) all =
    one_before P (plus term) (signed terms) (refl, All-head P term terms all) (signed_hold P terms (All-tail P term terms all))

-- sums have what their terms have
sums_hold : (P : Term → Type 0) (terms : List Term) → All P terms → All (All (Once P)) (sums terms)
sums_hold P terms all =
    all_flat (All (Once P)) (All P) first_added (choices 1 terms ++ (choices 2 terms ++ choices 3 terms)) (added_hold P)
    (All-append (All P) (choices 1 terms) (choices 2 terms ++ choices 3 terms) (choices_hold P 1 terms all)
    (All-append (All P) (choices 2 terms) (choices 3 terms) (choices_hold P 2 terms all) (choices_hold P 3 terms all)))

-- integers and strings that occur have values
integer_takes : (bound : Bound) (k : Kind) → is_integer bound k ≡ true → is_bound bound k ≡ true
integer_takes bound kind.IntEntry e = ap (λ (b : Bool). b || false) e
integer_takes bound kind.IntGlobal e = ap (λ (b : Bool). b || false) e
integer_takes bound kind.StrEntry e = absurd (cc)
integer_takes bound kind.StrGlobal e = absurd (cc)
integer_takes bound kind.Field e = absurd (cc)
integer_takes bound (kind.Builtin op) e = absurd (cc)
integer_takes bound (kind.Wizard body) e = absurd (cc)

string_takes : (at_entry : Bool) (k : Kind) → has_length at_entry k ≡ true → is_bound (all_bound at_entry) k ≡ true
string_takes true kind.StrEntry e = refl
string_takes false kind.StrEntry e = absurd (cc)
string_takes at_entry kind.StrGlobal e = refl
string_takes true kind.Field e = refl
string_takes false kind.Field e = absurd (cc)
string_takes at_entry kind.IntEntry e = absurd (cc)
string_takes at_entry kind.IntGlobal e = absurd (cc)
string_takes at_entry (kind.Builtin op) e = absurd (cc)
string_takes at_entry (kind.Wizard body) e = absurd (cc)

-- a name is bound
abbrev HasValue : Style → Bound → NameId → Type 0
HasValue style bound name = has_value style bound name.0 ≡ true

all_of_each : {X : Type 0} (P : X → Type 0) (xs : List X) → Each P xs → All P xs
all_of_each P [] each = All-nil P
all_of_each P (x ∷ xs) each = All-cons P x xs each.0 (all_of_each P xs each.1)

occurring_have : (style : Style) (bound : Bound) (test : Kind → Bool) (marks : Marks) → ((k : Kind) → test k ≡ true → is_bound bound k ≡ true)
    → All (HasValue style bound) (occurring_of test style marks)
occurring_have style bound test marks takes =
    All-filter (λ name. is_marked marks name.0) (HasValue style bound) (ids_from test 0 style.names)
    (all_of_each (HasValue style bound) (ids_from test 0 style.names)
    (ids_hold test (HasValue style bound) style.names style.names 0
    (λ name k is passes. ap (λ (found : Option Kind). option_map_or (is_bound bound) found false) is ∙ takes k passes) refl))

named : (style : Style) (bound : Bound) (has_pos : Bool) (term : ℕ → Term) (names : List NameId) → ((id : ℕ) → has_value style bound id ≡ true → IsTermOver style bound has_pos (term id))
    → All (HasValue style bound) names → All (IsTermOver style bound has_pos) (map (λ name. term name.0) names)
named style bound has_pos term names shows have =
    All-map (IsTermOver style bound has_pos) (λ (name : NameId). term name.0) names
    (All-weaker (HasValue style bound) (λ name. IsTermOver style bound has_pos (term name.0)) (λ name h. shows name.0 h) names have)

values_have : (style : Style) (found : Occurring) (bound : Bound) (has_pos : Bool) → All (IsTermOver style bound has_pos) (values_over style found bound)
values_have style found bound has_pos =
    let integers = occurring_of (is_integer bound) style found.named in
    named style bound has_pos (λ id. Value id) integers (λ id h. h) (occurring_have style bound (is_integer bound) found.named (integer_takes bound))

terms_have : (style : Style) (found : Occurring) (at_entry has_pos : Bool) → All (IsTermOver style (all_bound at_entry) has_pos) (terms_over style found at_entry)
terms_have style found at_entry has_pos =
    let bound = all_bound at_entry in
    let strings = strings_of style found at_entry in
    let lengths = All-filter (stays style found.quoted at_entry) (HasValue style bound) (occurring_of (has_length at_entry) style found.named)
    (occurring_have style bound (has_length at_entry) found.named (string_takes at_entry)) in
    All-append (IsTermOver style bound has_pos) (values_over style found bound) (map (λ name. Length name.0) strings ++ map (λ name. Names name.0) strings)
    (values_have style found bound has_pos)
    (All-append (IsTermOver style bound has_pos) (map (λ name. Length name.0) strings) (map (λ name. Names name.0) strings)
    (named style bound has_pos (λ id. Length id) strings (λ id h. h) lengths) (named style bound has_pos (λ id. Names id) strings (λ id h. h) lengths))

pub sums_over_names : (style : Style) (found : Occurring) (at_entry has_pos : Bool)
    → All (IsSumOver style (all_bound at_entry) has_pos) (sums (terms_over style found at_entry))
sums_over_names style found at_entry has_pos =
    sums_hold (IsTermOver style (all_bound at_entry) has_pos) (terms_over style found at_entry) (terms_have style found at_entry has_pos)

command_terms_have : (style : Style) (found : Occurring) (bound : Bound) (has_pos : Bool) → All (IsTermOver style bound has_pos) (command_terms style found bound has_pos)
command_terms_have style found bound true =
    All-append (IsTermOver style bound true) (values_over style found bound) (Pos ∷ []) (values_have style found bound true)
    (All-cons (IsTermOver style bound true) Pos [] refl (All-nil (IsTermOver style bound true)))
command_terms_have style found bound false =
    All-append (IsTermOver style bound false) (values_over style found bound) [] (values_have style found bound false) (All-nil (IsTermOver style bound false))

pub command_sums_over : (style : Style) (found : Occurring) (bound : Bound) (has_pos : Bool)
    → All (IsSumOver style bound has_pos) (sums (command_terms style found bound has_pos))
command_sums_over style found bound has_pos =
    sums_hold (IsTermOver style bound has_pos) (command_terms style found bound has_pos) (command_terms_have style found bound has_pos)
