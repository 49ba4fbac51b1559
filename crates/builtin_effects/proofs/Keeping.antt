-- Where a built-in function has an effect on a well-made state, the state after it is well made.
use Rattle.std.proofs.Common.{◌≡◌, ℕ, ◌<◌, ◌≤◌, ◌+◌, ◌^◌, Bool, true, false, cond, ◌||◌, List, [], ◌∷◌, Option, None, Some, Ok, refl, subst, arith}
use Rattle.std.specs.Prelude.{ℤ, pos, negsuc, neg_ℤ, ◌+ℤ◌, ◌-ℤ◌, codes}
use Rattle.std.proofs.lemmas.Bool.{leb-true}
use Rattle.std.proofs.lemmas.Bool.Decides.{nat_tests}
use Rattle.std.proofs.lemmas.List.Elements.{All-nil}
use Rattle.lin_facts.specs.declared.row.Row.{Row}
use Rattle.lin_facts.specs.declared.row.Term.{Term}
use Rattle.lin_facts.specs.declared.row.Term.TheVariants.{Value, Length, Names}
use Rattle.name_table.specs.declared.builtin.Builtin.{Builtin}
use Rattle.name_table.specs.declared.builtin.Builtin.TheVariants as op
use Rattle.name_table.specs.declared.names.Kind.{Kind}
use Rattle.name_table.specs.declared.names.Kind.TheVariants.{IntEntry, StrEntry, IntGlobal, StrGlobal}
use Rattle.name_table.specs.declared.names.NameId.{NameId}
use Rattle.name_table.specs.declared.style.Style.{Style}
use Rattle.bst_meaning.specs.declared.condition.Cond.{Cond}
use Rattle.bst_meaning.specs.Entries.{IsByteList}
use Rattle.bst_meaning.specs.Operands.{has_32_bits}
use Rattle.bst_meaning.specs.StyleParts.{kind_of}
use Rattle.sym_state.specs.declared.hint.Hint.{Hint}
use Rattle.sym_state.specs.State.{State}
use Rattle.sym_state.specs.declared.symbol.Fact.{Fact}
use Rattle.sym_state.specs.declared.symbol.Fact.TheVariants.{Int as IntFact, Text as TextFact, Nonblank}
use Rattle.sym_state.specs.declared.symbol.Kinds.{Kinds}
use Rattle.sym_state.specs.declared.symbol.Kinds.TheVariants.{Int, Str, Any}
use Rattle.sym_state.specs.declared.symbol.Sym.{Sym}
use Rattle.sym_state.specs.Changes.{with_bind}
use Rattle.sym_state.specs.Decided.{ByName, ByNumber, Function, exact_function, exact_integer, exact_text, is_known_nonblank}
use Rattle.sym_state.specs.Demands.{After, Chooses, Gives, OneOperand, Rule}
use Rattle.sym_state.specs.Effects.{assigned, assigned_to, at_most_known, byte_number, counted, cut_bound, effect_of, exact_sum, fits_exactly, join, known_size, nonblank_where, num_names, one_byte, rule_of, string_assigned, substring, sum, summed, text_length, width}
use Rattle.sym_state.specs.References.{at_least, at_most, exceeds}
use Rattle.sym_state.specs.Results.{next_of, sum_of_three, sum_of_two, with_result, with_symbol, with_top}
use Rattle.sym_state.specs.WellMade.{HasSmallLimits, IsTermBelow, WellMade, size}
use Rattle.sym_state.proofs.Exact.{exact_bytes, exact_small}
use Rattle.sym_state.proofs.Below.{one_below, three_below, two_below}
use Rattle.sym_state.proofs.Ensured.{Ensures, ensured}
use Rattle.sym_state.proofs.Pushing.{without}
use Rattle.sym_state.specs.Fitting.{RowFits}
use Rattle.sym_state.proofs.Resulting.{Fits, at_least_fits, at_most_fits, bind_made, both_fit, exceeds_fits, nothing_fits, one_fits, rest_made, result_made, row_fits, rows_fit, symbol_made, three_fits, top_made, two_fits}

-- every state that a rule gives is well made
abbrev Keeps : Style → Cond → State → Rule → Type 0
Keeps style admits state rule = Ensures admits state (WellMade style) rule

-- results without a fact, with one row and with two
bare : (style : Style) (state : State) (kind : Kinds) → WellMade style state → WellMade style (with_result kind [] [] state)
bare style state kind made = result_made style state kind [] [] made (nothing_fits style (state.next + 1))

with_row : (style : Style) (state : State) (kind : Kinds) (row : Row) → WellMade style state → RowFits (state.next + 1) row
    → WellMade style (with_result kind [] (row ∷ []) state)
with_row style state kind row made fits = result_made style state kind [] (row ∷ []) made (row_fits style (state.next + 1) row fits)

with_rows : (style : Style) (state : State) (kind : Kinds) (first second : Row) → WellMade style state → RowFits (state.next + 1) first
    → RowFits (state.next + 1) second → WellMade style (with_result kind [] (first ∷ (second ∷ [])) state)
with_rows style state kind first second made f s =
    result_made style state kind [] (first ∷ (second ∷ [])) made (rows_fit style (state.next + 1) first second f s)

-- results with facts too
with_facts : (style : Style) (state : State) (kind : Kinds) (facts : List Fact) (first second : Row) → WellMade style state
    → Fits style (state.next + 1) facts [] → RowFits (state.next + 1) first → RowFits (state.next + 1) second
    → WellMade style (with_result kind facts (first ∷ (second ∷ [])) state)
with_facts style state kind facts first second made fits f s =
    let rows = rows_fit style (state.next + 1) first second f s in
    result_made style state kind facts (first ∷ (second ∷ [])) made (record { facts = fits.facts; rows = rows.rows })

nonblank_fits : (style : Style) (next : ℕ) (t : Bool) (s : Sym) → s.0 < next → Fits style next (nonblank_where t s) []
nonblank_fits style next true s below = one_fits style next (Nonblank s) below tt tt tt tt
nonblank_fits style next false s below = nothing_fits style next

known_kept : (style : Style) (n : ℤ) (rest : State) → WellMade style rest → has_32_bits n ≡ true
    → WellMade style (with_result Int (IntFact (next_of rest) n ∷ []) [] rest)
known_kept style n rest made small =
    let exact : Fact = IntFact (next_of rest) n in
    result_made style rest Int (exact ∷ []) [] made (one_fits style (rest.next + 1) exact (omega arith) tt small tt tt)

-- `+` and `-`
summed_kept : (style : Style) (admits : Cond) (state : State) (sign : ℤ) (a b : Sym) (rest : State) (found : Option ℤ) → WellMade style rest
    → a.0 < rest.next → b.0 < rest.next → size sign ≤ 2 ^ 40 → size (neg_ℤ sign) ≤ 2 ^ 40 → Keeps style admits state (summed sign a b rest found)
summed_kept style admits state sign a b rest (Some n) made lower upper plus minus = λ small. known_kept style n rest made small
summed_kept style admits state sign a b rest None made lower upper plus minus = λ low_shown high_shown.
    let n = rest.next + 1 in
    let low = sum_of_three (pos 0) (pos 1) (Value rest.next) (negsuc 0) (Value a.0) (neg_ℤ sign) (Value b.0) in
    let high = sum_of_three (pos 0) (negsuc 0) (Value rest.next) (pos 1) (Value a.0) sign (Value b.0) in
    with_rows style rest Int low high made
    (three_fits n (pos 0) (pos 1) (Value rest.next) (negsuc 0) (Value a.0) (neg_ℤ sign) (Value b.0)
    (omega arith) (omega arith) (omega arith) (omega arith) (omega arith) (omega arith) minus)
    (three_fits n (pos 0) (negsuc 0) (Value rest.next) (pos 1) (Value a.0) sign (Value b.0)
    (omega arith) (omega arith) (omega arith) (omega arith) (omega arith) (omega arith) plus)

sum_kept : (style : Style) (admits : Cond) (state : State) (sign : ℤ) (rule : ℤ → ℤ → ℤ) → WellMade style state
    → size sign ≤ 2 ^ 40 → size (neg_ℤ sign) ≤ 2 ^ 40 → Keeps style admits state (sum state sign rule)
sum_kept style admits state sign rule made plus minus = λ a b rest tops lower_met upper_met.
    let below = two_below style state a b rest made tops in
    summed_kept style admits state sign a b (without rest state) (exact_sum (exact_integer state.facts a.0) (exact_integer state.facts b.0) rule)
    below.made below.lower below.upper plus minus

-- `*`
abbrev joined_low : Sym → Sym → State → Row
joined_low a b rest = sum_of_three (pos 0) (pos 1) (Length rest.next) (negsuc 0) (Length a.0) (negsuc 0) (Length b.0)

abbrev joined_high : Sym → Sym → State → Row
joined_high a b rest = sum_of_three (pos 0) (negsuc 0) (Length rest.next) (pos 1) (Length a.0) (pos 1) (Length b.0)

joined_kept : (style : Style) (t : Bool) (a b : Sym) (rest : State) → WellMade style rest → a.0 < rest.next → b.0 < rest.next
    → WellMade style (with_result Str (nonblank_where t (next_of rest)) (joined_low a b rest ∷ (joined_high a b rest ∷ [])) rest)
joined_kept style t a b rest made lower upper =
    let n = rest.next + 1 in
    with_facts style rest Str (nonblank_where t (next_of rest)) (joined_low a b rest) (joined_high a b rest) made
    (nonblank_fits style n t (next_of rest) (omega arith))
    (three_fits n (pos 0) (pos 1) (Length rest.next) (negsuc 0) (Length a.0) (negsuc 0) (Length b.0)
    (omega arith) (omega arith) (omega arith) (omega arith) (omega arith) (omega arith) (omega arith))
    (three_fits n (pos 0) (negsuc 0) (Length rest.next) (pos 1) (Length a.0) (pos 1) (Length b.0)
    (omega arith) (omega arith) (omega arith) (omega arith) (omega arith) (omega arith) (omega arith))

join_kept : (style : Style) (admits : Cond) (state : State) → WellMade style state → Keeps style admits state (join state)
join_kept style admits state made = λ a b rest tops lower_met upper_met.
    let below = two_below style state a b rest made tops in
    joined_kept style (is_known_nonblank state.facts a.0 || is_known_nonblank state.facts b.0) a b (without rest state) below.made below.lower below.upper

-- `:=`
cut_kept : (style : Style) (name : NameId) (most : ℕ) (rest : State) → WellMade style rest → most ≤ 2 ^ 45
    → WellMade style (with_bind name (next_of rest) (with_symbol Str [] (at_most (Length rest.next) (pos most) ∷ []) rest))
cut_kept style name most rest made few =
    let row = at_most (Length rest.next) (pos most) in
    bind_made style (with_symbol Str [] (row ∷ []) rest) name (next_of rest)
    (symbol_made style rest Str [] (row ∷ []) made
    (row_fits style (rest.next + 1) row (at_most_fits (rest.next + 1) (Length rest.next) (pos most) (omega arith) few))) (omega arith)

string_assigned_kept : (style : Style) (admits : Cond) (state : State) (name : NameId) (most : ℕ) (a : Sym) (rest : State)
    → WellMade style rest → a.0 < rest.next → most ≤ 2 ^ 45 → Keeps style admits state (string_assigned state name most a rest)
string_assigned_kept style admits state name most a rest made below few =
    let bound = bind_made style rest name a made below in
    let row = at_most (Length a.0) (pos most) in
    elim (fits_exactly (exact_text state.facts a.0) most) as (λ (t : Bool). Keeps style admits state
    (cond t (Gives (with_bind name a rest)) (Chooses true row (Gives (with_bind name a rest)) (cut_bound name most rest)))) [
      | true ↦ bound
      | false ↦ (λ wanted shown. bound, cut_kept style name most rest made few)
    ]

assigned_kept : (style : Style) (admits : Cond) (state : State) (kind : Option Kind) (name : NameId) (a : Sym) (rest : State)
    → WellMade style rest → a.0 < rest.next → Keeps style admits state (assigned state kind name a rest)
assigned_kept style admits state (Some IntGlobal) name a rest made below = λ met. bind_made style rest name a made below
assigned_kept style admits state (Some StrGlobal) name a rest made below = λ met.
    string_assigned_kept style admits state name 20000 a rest made below (omega arith)
assigned_kept style admits state (Some IntEntry) name a rest made below = λ there met. bind_made style rest name a made below
assigned_kept style admits state (Some StrEntry) name a rest made below = λ there met.
    string_assigned_kept style admits state name 250 a rest made below (omega arith)
assigned_kept style admits state _ name a rest made below = tt

assigned_to_kept : (style : Style) (admits : Cond) (state : State) (found : Option Function) (a : Sym) (rest : State)
    → WellMade style rest → a.0 < rest.next → Keeps style admits state (assigned_to style state found a rest)
assigned_to_kept style admits state (Some (ByName name)) a rest made below =
    assigned_kept style admits state (kind_of style name) name a rest made below
assigned_to_kept style admits state (Some (ByNumber number)) a rest made below = tt
assigned_to_kept style admits state None a rest made below = tt

-- texts
abbrev period_low : Sym → State → Row
period_low a rest = exceeds (Length rest.next) (Length a.0) (pos 0)

abbrev period_high : Sym → State → Row
period_high a rest = exceeds (Length a.0) (Length rest.next) (negsuc 0)

period_kept : (style : Style) (t : Bool) (a : Sym) (rest : State) → WellMade style rest → a.0 < rest.next
    → WellMade style (with_result Str (nonblank_where t (next_of rest)) (period_low a rest ∷ (period_high a rest ∷ [])) rest)
period_kept style t a rest made below =
    let n = rest.next + 1 in
    with_facts style rest Str (nonblank_where t (next_of rest)) (period_low a rest) (period_high a rest) made
    (nonblank_fits style n t (next_of rest) (omega arith))
    (exceeds_fits n (Length rest.next) (Length a.0) (pos 0) (omega arith) (omega arith) (omega arith))
    (exceeds_fits n (Length a.0) (Length rest.next) (negsuc 0) (omega arith) (omega arith) (omega arith))

no_longer_kept : (style : Style) (a : Sym) (rest : State) → WellMade style rest → a.0 < rest.next
    → WellMade style (with_result Str [] (exceeds (Length a.0) (Length rest.next) (pos 0) ∷ []) rest)
no_longer_kept style a rest made below =
    with_row style rest Str (exceeds (Length a.0) (Length rest.next) (pos 0)) made
    (exceeds_fits (rest.next + 1) (Length a.0) (Length rest.next) (pos 0) (omega arith) (omega arith) (omega arith))

quote_kept : (style : Style) (state : State) → WellMade style state → WellMade style (with_result Str (TextFact (next_of state) (codes "\"") ∷ []) [] state)
quote_kept style state made =
    let exact : Fact = TextFact (next_of state) (codes "\"") in
    result_made style state Str (exact ∷ []) [] made (one_fits style (state.next + 1) exact (omega arith) tt tt (omega arith, tt) (omega arith))

limited_kept : (style : Style) (limit : ℕ) (state : State) → WellMade style state → limit ≤ 2 ^ 45
    → WellMade style (with_result Str [] (at_most (Length state.next) (pos limit) ∷ []) state)
limited_kept style limit state made few =
    with_row style state Str (at_most (Length state.next) (pos limit)) made (at_most_fits (state.next + 1) (Length state.next) (pos limit) (omega arith) few)

-- a term of the new symbol that lies between two numbers
between_kept : (style : Style) (rest : State) (kind : Kinds) (t : Term) (low high : ℕ) → WellMade style rest → IsTermBelow (rest.next + 1) t
    → low ≤ 2 ^ 45 → high ≤ 2 ^ 45 → WellMade style (with_result kind [] (at_least t (pos low) ∷ (at_most t (pos high) ∷ [])) rest)
between_kept style rest kind t low high made below few many =
    with_rows style rest kind (at_least t (pos low)) (at_most t (pos high)) made
    (at_least_fits (rest.next + 1) t (pos low) below few) (at_most_fits (rest.next + 1) t (pos high) below many)

-- numbers
byte_small : (b : ℕ) → b < 256 → has_32_bits (pos b) ≡ true
byte_small b h = grind (arith, nat_tests)

one_byte_small : (found : Option (List ℕ)) (b : ℕ) → ((text : List ℕ) → found ≡ Some text → IsByteList text) → one_byte found ≡ Some b
    → has_32_bits (pos b) ≡ true
one_byte_small None b bytes e = absurd (cc)
one_byte_small (Some []) b bytes e = absurd (cc)
one_byte_small (Some (x ∷ [])) b bytes e =
    let all = bytes (x ∷ []) refl in
    let same : x ≡ b = cc in subst (λ (n : ℕ). has_32_bits (pos n) ≡ true) same (byte_small x all.0)
one_byte_small (Some (x ∷ (y ∷ text))) b bytes e = absurd (cc)

byte_number_kept : (style : Style) (admits : Cond) (state : State) (a : Sym) (rest : State) (found : Option ℕ) → WellMade style rest
    → ((b : ℕ) → found ≡ Some b → has_32_bits (pos b) ≡ true) → Keeps style admits state (byte_number a rest found)
byte_number_kept style admits state a rest (Some b) made small = known_kept style (pos b) rest made (small b refl)
byte_number_kept style admits state a rest None made small = λ low high.
    between_kept style rest Int (Value rest.next) 0 255 made (omega arith) (omega arith) (omega arith)

abbrev numeral_low : State → Row
numeral_low rest = at_least (Length rest.next) (pos 1)

abbrev numeral_high : State → Row
numeral_high rest = at_most (Length rest.next) (pos 11)

numeral_kept : (style : Style) (rest : State) → WellMade style rest
    → WellMade style (with_result Str (Nonblank (next_of rest) ∷ []) (numeral_low rest ∷ (numeral_high rest ∷ [])) rest)
numeral_kept style rest made =
    let n = rest.next + 1 in
    with_facts style rest Str (Nonblank (next_of rest) ∷ []) (numeral_low rest) (numeral_high rest) made
    (one_fits style n (Nonblank (next_of rest)) (omega arith) tt tt tt tt) (at_least_fits n (Length rest.next) (pos 1) (omega arith) (omega arith))
    (at_most_fits n (Length rest.next) (pos 11) (omega arith) (omega arith))

-- a step on a string, and an integer with two rows
counted_kept : (style : Style) (admits : Cond) (state : State) (enough : Sym → Row) (first second : Sym → Sym → Row) → WellMade style state
    → ((a r : Sym) (next : ℕ) → a.0 < next → r.0 < next → RowFits next (first a r))
    → ((a r : Sym) (next : ℕ) → a.0 < next → r.0 < next → RowFits next (second a r))
    → Keeps style admits state (counted enough first second)
counted_kept style admits state enough first second made f s = λ a rest tops met shown.
    let below = one_below style state a rest made tops in
    let left : State = without rest state in
    let old : a.0 < left.next = below.old in
    let r = next_of left in
    with_rows style left Int (first a r) (second a r) below.made
    (f a r (left.next + 1) (omega (arith, old)) (omega arith)) (s a r (left.next + 1) (omega (arith, old)) (omega arith))

num_names_kept : (style : Style) (admits : Cond) (state : State) → WellMade style state → Keeps style admits state num_names
num_names_kept style admits state made =
    counted_kept style admits state (λ a. at_most (Names a.0) (pos 2147483647))
    (λ a r. exceeds (Value r.0) (Names a.0) (pos 0)) (λ a r. exceeds (Names a.0) (Value r.0) (pos 0)) made
    (λ a r n old new. exceeds_fits n (Value r.0) (Names a.0) (pos 0) new old (omega arith))
    (λ a r n old new. exceeds_fits n (Names a.0) (Value r.0) (pos 0) old new (omega arith))

text_length_kept : (style : Style) (admits : Cond) (state : State) → WellMade style state → Keeps style admits state text_length
text_length_kept style admits state made =
    counted_kept style admits state (λ a. at_most (Length a.0) (pos 2147483647))
    (λ a r. at_least (Value r.0) (pos 0)) (λ a r. exceeds (Length a.0) (Value r.0) (pos 0)) made
    (λ a r n old new. at_least_fits n (Value r.0) (pos 0) new (omega arith))
    (λ a r n old new. exceeds_fits n (Length a.0) (Value r.0) (pos 0) old new (omega arith))

width_kept : (style : Style) (admits : Cond) (state : State) → WellMade style state → Keeps style admits state width
width_kept style admits state made =
    counted_kept style admits state (λ a. sum_of_two (pos 2147483647) (negsuc 1027) (Length a.0) (pos 0) (Length a.0))
    (λ a r. at_least (Value r.0) (pos 0)) (λ a r. sum_of_two (pos 0) (pos 1028) (Length a.0) (negsuc 0) (Value r.0)) made
    (λ a r n old new. at_least_fits n (Value r.0) (pos 0) new (omega arith))
    (λ a r n old new. two_fits n (pos 0) (pos 1028) (Length a.0) (negsuc 0) (Value r.0) old new (omega arith) (omega arith) (omega arith))

-- `substring$`: an integer of 32 bits is small enough for a row
abbrev AreSmall : Option ℤ → Type 0
AreSmall found = (n : ℤ) → found ≡ Some n → has_32_bits n ≡ true

small_size : (n : ℤ) → has_32_bits n ≡ true → size n ≤ 2 ^ 32
small_size (pos n) e = let h = leb-true n 2147483647 e in omega arith
small_size (negsuc n) e = let h = leb-true n 2147483647 e in omega arith

same_size : (n : ℤ) → known_size (Some n) ≡ size n
same_size (pos n) = refl
same_size (negsuc n) = refl

known_size_small : (found : Option ℤ) → AreSmall found → known_size found ≤ 2 ^ 32
known_size_small (Some n) small = let h = small_size n (small n refl) in let e = same_size n in omega arith
known_size_small None small = omega arith

known_fits : (style : Style) (next : ℕ) (len : Option ℤ) (r : Sym) → r.0 < next → AreSmall len → Fits style next [] (at_most_known len r)
known_fits style next None r below small = nothing_fits style next
known_fits style next (Some (pos n)) r below small =
    let h = small_size (pos n) (small (pos n) refl) in
    row_fits style next (at_most (Length r.0) (pos n)) (at_most_fits next (Length r.0) (pos n) below (omega arith))
known_fits style next (Some (negsuc n)) r below small =
    row_fits style next (at_most (Length r.0) (pos 0)) (at_most_fits next (Length r.0) (pos 0) below (omega arith))

shorter_kept : (style : Style) (a : Sym) (len : Option ℤ) (rest : State) → WellMade style rest → a.0 < rest.next → AreSmall len
    → WellMade style (with_result Str [] (exceeds (Length a.0) (Length rest.next) (pos 0) ∷ at_most_known len (next_of rest)) rest)
shorter_kept style a len rest made below small =
    let n = rest.next + 1 in
    let row = exceeds (Length a.0) (Length rest.next) (pos 0) in
    result_made style rest Str [] (row ∷ at_most_known len (next_of rest)) made
    (both_fit style n [] [] (row ∷ []) (at_most_known len (next_of rest))
    (row_fits style n row (exceeds_fits n (Length a.0) (Length rest.next) (pos 0) (omega arith) (omega arith) (omega arith)))
    (known_fits style n len (next_of rest) (omega arith) small))

substring_kept : (style : Style) (admits : Cond) (state : State) → WellMade style state → Keeps style admits state (substring state)
substring_kept style admits state made = λ a b c rest tops lowest_met middle_met top_met.
    let below = three_below style state a b c rest made tops in
    let len = exact_integer state.facts c.0 in
    let small : AreSmall len = λ n e. exact_small state.facts c.0 n made.integers e in
    let few = known_size_small len small in (
      λ wanted shown. between_kept style (without rest state) Str (Length (without rest state).next) (known_size len) (known_size len) below.made
          (omega arith) (omega (arith, few)) (omega (arith, few)),
      shorter_kept style a len (without rest state) below.made below.lower small,
    )

-- one operand is taken
taken_kept : (style : Style) (admits : Cond) (state : State) (kind : Kinds) → WellMade style state
    → Keeps style admits state (OneOperand kind (λ a rest. Gives rest))
taken_kept style admits state kind made = λ a rest tops met. (one_below style state a rest made tops).made

-- the rule of each built-in function
rule_kept : (style : Style) (admits : Cond) (state : State) (o : Builtin) → HasSmallLimits admits → WellMade style state
    → Keeps style admits state (rule_of style admits state o)
rule_kept style admits state op.Plus limits made = sum_kept style admits state (pos 1) (λ a b. a +ℤ b) made (omega arith) (omega arith)
rule_kept style admits state op.Minus limits made = sum_kept style admits state (negsuc 0) (λ a b. a -ℤ b) made (omega arith) (omega arith)
rule_kept style admits state op.Join limits made = join_kept style admits state made
rule_kept style admits state op.Assign limits made = λ a f rest tops lower_met upper_met.
    let below = two_below style state a f rest made tops in
    assigned_to_kept style admits state (exact_function state.facts f.0) a (without rest state) below.made below.lower
rule_kept style admits state op.AddPeriod limits made = λ a rest tops met.
    let below = one_below style state a rest made tops in
    period_kept style (is_known_nonblank state.facts a.0) a (without rest state) below.made below.old
rule_kept style admits state op.ChangeCase limits made = λ a c rest tops lower_met upper_met mode.
    let below = two_below style state a c rest made tops in no_longer_kept style a (without rest state) below.made below.lower
rule_kept style admits state op.ChrToInt limits made = λ a rest tops met.
    byte_number_kept style admits state a (without rest state) (one_byte (exact_text state.facts a.0)) (one_below style state a rest made tops).made
    (λ b e. one_byte_small (exact_text state.facts a.0) b (λ text is. exact_bytes state.facts a.0 text made.bytes is) e)
rule_kept style admits state op.Cite limits made = λ met. limited_kept style admits.key state made limits.key
rule_kept style admits state op.Duplicate limits made = λ a rest tops met. top_made style state a made (one_below style state a rest made tops).old
rule_kept style admits state op.FormatName limits made = λ s i p rest tops lowest_met middle_met top_met low high formed known.
    bare style (without rest state) Str (three_below style state s i p rest made tops).made
rule_kept style admits state op.IntToChr limits made = λ a rest tops met low high.
    between_kept style (without rest state) Str (Length (without rest state).next) 1 1 (one_below style state a rest made tops).made (omega arith) (omega arith) (omega arith)
rule_kept style admits state op.IntToStr limits made = λ a rest tops met.
    numeral_kept style (without rest state) (one_below style state a rest made tops).made
rule_kept style admits state op.Newline limits made = made
rule_kept style admits state op.NumNames limits made = num_names_kept style admits state made
rule_kept style admits state op.Pop limits made = taken_kept style admits state Any made
rule_kept style admits state op.Preamble limits made = limited_kept style admits.preamble state made limits.preamble
rule_kept style admits state op.Purify limits made = λ a rest tops met.
    let below = one_below style state a rest made tops in no_longer_kept style a (without rest state) below.made below.old
rule_kept style admits state op.Quote limits made = quote_kept style state made
rule_kept style admits state op.Skip limits made = made
rule_kept style admits state op.Stack limits made = λ whole. rest_made style state [] made (All-nil (λ (s : Sym). s.0 < state.next))
rule_kept style admits state op.Substring limits made = substring_kept style admits state made
rule_kept style admits state op.Swap limits made = λ a b rest tops lower_met upper_met.
    let below = two_below style state a b rest made tops in
    top_made style (with_top b (without rest state)) a (top_made style (without rest state) b below.made below.upper) below.lower
rule_kept style admits state op.TextLength limits made = text_length_kept style admits state made
rule_kept style admits state op.TextPrefix limits made = λ a n rest tops lower_met upper_met.
    bare style (without rest state) Str (two_below style state a n rest made tops).made
rule_kept style admits state op.Top limits made = taken_kept style admits state Any made
rule_kept style admits state op.TypeName limits made = λ met. bare style state Str made
rule_kept style admits state op.Warning limits made = taken_kept style admits state Str made
rule_kept style admits state op.Width limits made = width_kept style admits state made
rule_kept style admits state op.Write limits made = taken_kept style admits state Str made
rule_kept style admits state _ limits made = tt

pub effects_keep : (style : Style) (admits : Cond) (state : State) (o : Builtin) (hints : List Hint) (after : After) → HasSmallLimits admits
    → WellMade style state → effect_of style admits state o hints ≡ Ok after → WellMade style after.state
effects_keep style admits state o hints after limits made e =
    ensured admits state (WellMade style) (rule_of style admits state o) hints after (rule_kept style admits state o limits made) e
