-- Of the cases of each test on two operands, one covers what the machine does.
use Rattle.std.proofs.Common.{◌≡◌, ℕ, ◌<◌, ◌≤◌, ◌^◌, Bool, true, false, cond, List, [], ◌∷◌, reverse, Option, None, Some, Ok, Err, refl, sym, ap, subst, ◌∙◌, arith, nat_eq, nat_le, ◌&&◌}
use Rattle.std.specs.Prelude.{ℤ, pos, negsuc, ◌+ℤ◌, ◌-ℤ◌, ◌≤ℤ◌}
use Rattle.std.specs.List.{AllByRecursion}
use Rattle.std.specs.Cmp.Lexicographic.{pointwise}
use Rattle.std.proofs.lemmas.Bool.{leb-true}
use Rattle.std.proofs.lemmas.Bool.Decides.{nat_tests}
use Rattle.std.proofs.lemmas.Int.{ints}
use Rattle.lin_facts.specs.Rows.{Holds}
use Rattle.lin_facts.specs.declared.row.Row.{Row}
use Rattle.lin_facts.specs.declared.row.Term.TheVariants.{Value as ValueOf}
use Rattle.name_table.specs.declared.builtin.Builtin.{Builtin}
use Rattle.name_table.specs.declared.style.Style.{Style}
use Rattle.name_table.specs.declared.builtin.Builtin.TheVariants as op
use Rattle.bst_meaning.specs.Operands.{is_positive, is_zero}
use Rattle.bst_meaning.specs.declared.value.Value.TheVariants.{Int as IntValue, Str as StrValue}
use Rattle.sym_state.specs.declared.hint.Hint.{Hint}
use Rattle.sym_state.specs.State.{State}
use Rattle.sym_state.specs.declared.symbol.Fact.TheVariants.{Text as TextFact}
use Rattle.sym_state.specs.declared.symbol.Kinds.{Kinds}
use Rattle.sym_state.specs.declared.symbol.Kinds.TheVariants.{Int, Str, Any}
use Rattle.sym_state.specs.declared.symbol.Sym.{Sym}
use Rattle.sym_state.specs.Cases.{Cases, answer, answer_of, at_least_rows, equal, equal_by, equal_rows, greater, integer_cases, integers_decided, is_equal, is_less, less, less_cases, less_rows, passed, passed_both, text_cases, texts_decided}
use Rattle.sym_state.specs.Decided.{exact_integer, exact_text, known_kind}
use Rattle.sym_state.specs.Demands.{fails, is_of_kind}
use Rattle.sym_state.specs.Facts.{FactHolds, has_kind}
use Rattle.sym_state.specs.References.{exceeds}
use Rattle.sym_state.specs.Symbols.{integer_of, numbers}
use Rattle.sym_state.specs.WellMade.{WellMade, size}
use Rattle.sym_state.proofs.Consequences.{same_bytes}
use Rattle.sym_state.proofs.Exact.{exact_bytes, exact_short}
use Rattle.sym_state.proofs.Deciding.{exact_integer_is, exact_text_is, same_number}
use Rattle.sym_state.proofs.KnownKinds.{integer_is, known_kind_holds, of_kind_holds, string_is}
use Rattle.sym_state.proofs.Pushing.{without}
use Rattle.sym_state.proofs.Resulting.{Fits, both_fit, exceeds_fits, nothing_fits, one_fits, row_fits, rows_fit}
use Rattle.sym_state.proofs.Saying.{exceeds_holds}
use Rattle.sym_state.specs.declared.demand.DemandKind.TheVariants.{WrongKind}
use Rattle.sym_state.proofs.Frames.{joined}
use Rattle.sym_state.proofs.Spots.{Spot}
use Rattle.sym_state.proofs.Below.{two_below}
use Rattle.sym_state.proofs.Ensured.{two_taken}
use Rattle.refinements.proofs.Taking.{AtSpot, Found, at_two, both_found, decided_found, taken_two, weighed_found}
use Rattle.bst_meaning.specs.declared.value.Value.{Value}

-- rows on two integers hold
pub above_zero : (z : ℤ) → is_positive z ≡ true → pos 1 ≤ℤ z
above_zero (pos n) e = let h = leb-true 1 n e in omega (arith, ints)
above_zero (negsuc n) e = absurd (cc)

few : (n : ℕ) → nat_le 1 n ≡ false → n ≤ 0
few n e = grind (arith, nat_tests)

pub not_above : (z : ℤ) → is_positive z ≡ false → z ≤ℤ pos 0
not_above (pos n) e = let h = few n e in omega (arith, ints)
not_above (negsuc n) e = omega (arith, ints)

zero_is : (z : ℤ) → is_zero z ≡ true → z ≡ pos 0
zero_is (pos n) e = let h = leb-true n 0 e in omega (arith, ints)
zero_is (negsuc n) e = absurd (cc)

nothing : (x : ℤ) → x -ℤ x ≡ pos 0
nothing x = omega (arith, ints)

never_less : (x : ℤ) → is_positive (x -ℤ x) ≡ false
never_less x = ap is_positive (nothing x)

always_equal : (x : ℤ) → is_zero (x -ℤ x) ≡ true
always_equal x = ap is_zero (nothing x)

-- the integers of two symbols
record Known (p : Spot) (a b : Sym) (x y : ℤ) : Type 0 where
  pub lower : p.v.value a.0 ≡ IntValue x
  pub upper : p.v.value b.0 ≡ IntValue y

-- the first of two integers is so much greater than the second, and so are the values of the symbols
exceeds_known : (p : Spot) (a b : Sym) (x y n : ℤ) → p.v.value a.0 ≡ IntValue x → p.v.value b.0 ≡ IntValue y → (y +ℤ n) ≤ℤ x
    → Holds (numbers p.v) (exceeds (ValueOf a.0) (ValueOf b.0) n)
exceeds_known p a b x y n first second h =
    let xa : numbers p.v (ValueOf a.0) ≡ x = ap integer_of first in
    let yb : numbers p.v (ValueOf b.0) ≡ y = ap integer_of second in
    exceeds_holds (numbers p.v) (ValueOf a.0) (ValueOf b.0) n (omega (arith, ints))

less_hold : (p : Spot) (a b : Sym) (x y : ℤ) → Known p a b x y → is_positive (y -ℤ x) ≡ true → AllByRecursion (Holds (numbers p.v)) (less_rows a b)
less_hold p a b x y known e =
    let h = above_zero (y -ℤ x) e in (exceeds_known p b a y x (pos 1) known.upper known.lower (omega (arith, ints)), tt)

at_least_hold : (p : Spot) (a b : Sym) (x y : ℤ) → Known p a b x y → is_positive (y -ℤ x) ≡ false → AllByRecursion (Holds (numbers p.v)) (at_least_rows a b)
at_least_hold p a b x y known e =
    let h = not_above (y -ℤ x) e in (exceeds_known p a b x y (pos 0) known.lower known.upper (omega (arith, ints)), tt)

equal_hold : (p : Spot) (a b : Sym) (x y : ℤ) → Known p a b x y → is_zero (x -ℤ y) ≡ true → AllByRecursion (Holds (numbers p.v)) (equal_rows a b)
equal_hold p a b x y known e =
    let h = zero_is (x -ℤ y) e in (
      exceeds_known p a b x y (pos 0) known.lower known.upper (omega (arith, ints)),
      (exceeds_known p b a y x (pos 0) known.upper known.lower (omega (arith, ints)), tt),
    )

-- rows on two symbols fit
pub exceeding : (style : Style) (next : ℕ) (a b : Sym) (n : ℤ) → a.0 < next → b.0 < next → size n ≤ 2 ^ 45
    → Fits style next [] (exceeds (ValueOf a.0) (ValueOf b.0) n ∷ [])
exceeding style next a b n lower upper few =
    row_fits style next (exceeds (ValueOf a.0) (ValueOf b.0) n) (exceeds_fits next (ValueOf a.0) (ValueOf b.0) n lower upper few)

pub equal_fit : (style : Style) (next : ℕ) (a b : Sym) → a.0 < next → b.0 < next → Fits style next [] (equal_rows a b)
equal_fit style next a b lower upper =
    rows_fit style next (exceeds (ValueOf a.0) (ValueOf b.0) (pos 0)) (exceeds (ValueOf b.0) (ValueOf a.0) (pos 0))
    (exceeds_fits next (ValueOf a.0) (ValueOf b.0) (pos 0) lower upper (omega arith))
    (exceeds_fits next (ValueOf b.0) (ValueOf a.0) (pos 0) upper lower (omega arith))

-- what decides a test of two values is what the machine gives: both are of one symbol, or both are known
sure : {X : Type 0} (p : Spot) (made : X → Value) (found : ℕ → Option X) (test : X → X → Bool) (reflexive : Bool) (a b : Sym) (x y : X) (t : Bool)
    → ((m n : X) → made m ≡ made n → m ≡ n) → ((s : ℕ) (n : X) → found s ≡ Some n → p.v.value s ≡ made n) → ((n : X) → test n n ≡ reflexive)
    → p.v.value a.0 ≡ made x → p.v.value b.0 ≡ made y → answer_of (nat_eq a.0 b.0) reflexive (answer test (found a.0) (found b.0)) ≡ Some t → test x y ≡ t
sure {X} p made found test reflexive a b x y t one_value is_found same lower upper e =
    elim (nat_eq a.0 b.0) as (λ (one : Bool). nat_eq a.0 b.0 ≡ one
    → answer_of one reflexive (answer test (found a.0) (found b.0)) ≡ Some t → test x y ≡ t) [
      | true ↦ λ one all.
          let xy : x ≡ y = one_value x y (sym lower ∙ ap p.v.value (same_number a.0 b.0 one) ∙ upper) in
          let is : reflexive ≡ t = cc in
          subst (λ (n : X). test x n ≡ reflexive) xy (same x) ∙ is
      | false ↦ λ one all. elim (found a.0) as (λ (o : Option X). found a.0 ≡ o → answer test o (found b.0) ≡ Some t → test x y ≡ t) [
        | None ↦ λ none some. absurd (cc)
        | Some m ↦ λ low some. elim (found b.0) as (λ (o : Option X). found b.0 ≡ o → answer test (Some m) o ≡ Some t → test x y ≡ t) [
          | None ↦ λ none both. absurd (cc)
          | Some n ↦ λ high both.
              let xm : x ≡ m = one_value x m (sym lower ∙ is_found a.0 m low) in
              let yn : y ≡ n = one_value y n (sym upper ∙ is_found b.0 n high) in
              let is : test m n ≡ t = cc in
              ap (λ (k : X). test k y) xm ∙ ap (λ (k : X). test m k) yn ∙ is
        ] refl some
      ] refl all
    ] refl e

one_integer : (m n : ℤ) → IntValue m ≡ IntValue n → m ≡ n
one_integer m n e = cc

one_text : (m n : List ℕ) → StrValue m ≡ StrValue n → m ≡ n
one_text m n e = cc

integers_sure : (p : Spot) (test : ℤ → ℤ → Bool) (reflexive : Bool) (a b : Sym) (x y : ℤ) (t : Bool) → ((n : ℤ) → test n n ≡ reflexive) → Known p a b x y
    → integers_decided test reflexive p.state.facts a b ≡ Some t → test x y ≡ t
integers_sure p test reflexive a b x y t same known e =
    sure p (λ n. IntValue n) (λ s. exact_integer p.state.facts s) test reflexive a b x y t one_integer
    (λ s n is. exact_integer_is p.style p.v s p.state.facts n p.stands.satisfied.facts is) same known.lower known.upper e

integers_found : (p : Spot) (op : Builtin) (rest : List Sym) (test : ℤ → ℤ → Bool) (reflexive : Bool) (a b : Sym) (x y : ℤ)
    (holds refuted : List Row) (hints : List Hint) (cases : Cases) → Known p a b x y → ((n : ℤ) → test n n ≡ reflexive)
    → AtSpot p rest op (test x y) → Fits p.style p.state.next [] holds → Fits p.style p.state.next [] refuted
    → (test x y ≡ true → AllByRecursion (Holds (numbers p.v)) holds) → (test x y ≡ false → AllByRecursion (Holds (numbers p.v)) refuted)
    → integer_cases p.admits (integers_decided test reflexive p.state.facts a b) holds refuted (without rest p.state) hints ≡ Ok cases
    → Found p op cases
integers_found p op rest test reflexive a b x y holds refuted hints cases known same at fits others granted denied e =
    elim (integers_decided test reflexive p.state.facts a b) as (λ (o : Option Bool). integers_decided test reflexive p.state.facts a b ≡ o
    → integer_cases p.admits o holds refuted (without rest p.state) hints ≡ Ok cases → Found p op cases) [
      | Some t ↦ λ is found. decided_found p op rest (test x y) t hints cases at (integers_sure p test reflexive a b x y t same known is) found
      | None ↦ λ is found. weighed_found p op rest (test x y) holds refuted hints cases at fits others granted denied found
    ] refl e

record Values (p : Spot) (a b : Sym) : Type 0 where
  pub x : ℤ
  pub y : ℤ
  pub known : Known p a b x y

values_of_two : (p : Spot) (a b : Sym) → is_of_kind p.state Int a ≡ true → is_of_kind p.state Int b ≡ true → Values p a b
values_of_two p a b lower upper =
    let one = integer_is (p.v.value a.0) (of_kind_holds p.style p.v a.0 p.state.facts Int p.stands.satisfied.facts lower) in
    let two = integer_is (p.v.value b.0) (of_kind_holds p.style p.v b.0 p.state.facts Int p.stands.satisfied.facts upper) in
    record { x = one.0; y = two.0; known = record { lower = one.1; upper = two.1 } }

-- the first of two integers is less: the machine's test is of these two, in either order
less_cases_found : (p : Spot) (op : Builtin) (a b : Sym) (rest : List Sym) (x y : ℤ) (hints : List Hint) (cases : Cases) → Known p a b x y
    → AtSpot p rest op (is_less x y) → a.0 < p.state.next → b.0 < p.state.next → less_cases p.admits p.state.facts a b (without rest p.state) hints ≡ Ok cases
    → Found p op cases
less_cases_found p op a b rest x y hints cases known at lower upper e =
    integers_found p op rest is_less false a b x y (less_rows a b) (at_least_rows a b) hints cases known never_less at
    (exceeding p.style p.state.next b a (pos 1) upper lower (omega arith)) (exceeding p.style p.state.next a b (pos 0) lower upper (omega arith))
    (less_hold p a b x y known) (at_least_hold p a b x y known) e

-- `<`
pub less_found : (p : Spot) (hints : List Hint) (cases : Cases) → less p.admits p.state hints ≡ Ok cases → Found p op.Less cases
less_found p hints cases e =
    let f = two_taken Int Int p.state (λ two. less_cases p.admits p.state.facts two.lower two.upper two.rest hints) cases e in
    let below = two_below p.style p.state f.a f.b f.rest p.made f.tops in
    let values = values_of_two p f.a f.b f.lower_met f.upper_met in
    less_cases_found p op.Less f.a f.b f.rest values.x values.y hints cases values.known
    (at_two p op.Less f.a f.b f.rest (IntValue values.x) (IntValue values.y) (is_less values.x values.y) f.tops values.known.lower values.known.upper refl)
    below.lower below.upper f.given

-- `>`
pub greater_found : (p : Spot) (hints : List Hint) (cases : Cases) → greater p.admits p.state hints ≡ Ok cases → Found p op.Greater cases
greater_found p hints cases e =
    let f = two_taken Int Int p.state (λ two. less_cases p.admits p.state.facts two.upper two.lower two.rest hints) cases e in
    let below = two_below p.style p.state f.a f.b f.rest p.made f.tops in
    let values = values_of_two p f.a f.b f.lower_met f.upper_met in
    less_cases_found p op.Greater f.b f.a f.rest values.y values.x hints cases (record { lower = values.known.upper; upper = values.known.lower })
    (at_two p op.Greater f.a f.b f.rest (IntValue values.x) (IntValue values.y) (is_less values.y values.x) f.tops values.known.lower values.known.upper refl)
    below.upper below.lower f.given

-- `=` of two integers
equal_integers_found : (p : Spot) (a b : Sym) (rest : List Sym) (hints : List Hint) (cases : Cases) → reverse p.state.stack ≡ b ∷ (a ∷ rest)
    → is_of_kind p.state Int a ≡ true → has_kind Int (p.v.value b.0) ≡ true
    → integer_cases p.admits (integers_decided is_equal true p.state.facts a b) (equal_rows a b) [] (without rest p.state) hints ≡ Ok cases
    → Found p op.Equal cases
equal_integers_found p a b rest hints cases tops lower_kind upper_kind e =
    let below = two_below p.style p.state a b rest p.made tops in
    let one = integer_is (p.v.value a.0) (of_kind_holds p.style p.v a.0 p.state.facts Int p.stands.satisfied.facts lower_kind) in
    let two = integer_is (p.v.value b.0) upper_kind in
    let known : Known p a b one.0 two.0 = record { lower = one.1; upper = two.1 } in
    integers_found p op.Equal rest is_equal true a b one.0 two.0 (equal_rows a b) [] hints cases known always_equal
    (at_two p op.Equal a b rest (IntValue one.0) (IntValue two.0) (is_equal one.0 two.0) tops one.1 two.1 refl)
    (equal_fit p.style p.state.next a b below.lower below.upper) (nothing_fits p.style p.state.next)
    (equal_hold p a b one.0 two.0 known) (λ unequal. tt) e

-- `=` of two strings
same_self : (bytes : List ℕ) → pointwise nat_eq bytes bytes ≡ true
same_self [] = refl
same_self (b ∷ bytes) =
    let head : nat_eq b b ≡ true = grind (arith, nat_tests) in
    ap (λ (t : Bool). t && pointwise nat_eq bytes bytes) head ∙ same_self bytes

record Texts (p : Spot) (a b : Sym) (x y : List ℕ) : Type 0 where
  pub lower : p.v.value a.0 ≡ StrValue x
  pub upper : p.v.value b.0 ≡ StrValue y

texts_sure : (p : Spot) (a b : Sym) (x y : List ℕ) (t : Bool) → Texts p a b x y → texts_decided p.state.facts a b ≡ Some t → pointwise nat_eq x y ≡ t
texts_sure p a b x y t known e =
    sure p (λ n. StrValue n) (λ s. exact_text p.state.facts s) (pointwise nat_eq) true a b x y t one_text
    (λ s n is. exact_text_is p.style p.v s p.state.facts n p.stands.satisfied.facts is) same_self known.lower known.upper e

-- a text that passes to another symbol
passed_holds : (p : Spot) (a b : Sym) → p.v.value a.0 ≡ p.v.value b.0 → AllByRecursion (FactHolds p.style p.v) (passed (exact_text p.state.facts a.0) b)
passed_holds p a b same =
    elim (exact_text p.state.facts a.0) as (λ (o : Option (List ℕ)). exact_text p.state.facts a.0 ≡ o → AllByRecursion (FactHolds p.style p.v) (passed o b)) [
      | None ↦ λ is. tt
      | Some text ↦ λ is. (sym same ∙ exact_text_is p.style p.v a.0 p.state.facts text p.stands.satisfied.facts is, tt)
    ] refl

pub passed_fits : (style : Style) (state : State) (a b : Sym) → WellMade style state → b.0 < state.next
    → Fits style state.next (passed (exact_text state.facts a.0) b) []
passed_fits style state a b made less =
    elim (exact_text state.facts a.0) as (λ (o : Option (List ℕ)). exact_text state.facts a.0 ≡ o → Fits style state.next (passed o b) []) [
      | None ↦ λ is. nothing_fits style state.next
      | Some text ↦ λ is. one_fits style state.next (TextFact b text) less tt tt
          (exact_bytes state.facts a.0 text made.bytes is) (exact_short state.facts a.0 text made.bounds.facts is)
    ] refl

equal_texts_found : (p : Spot) (a b : Sym) (rest : List Sym) (hints : List Hint) (cases : Cases) → reverse p.state.stack ≡ b ∷ (a ∷ rest)
    → is_of_kind p.state Str a ≡ true → has_kind Str (p.v.value b.0) ≡ true
    → text_cases (texts_decided p.state.facts a b) (passed_both p.state.facts a b) (without rest p.state) hints ≡ Ok cases → Found p op.Equal cases
equal_texts_found p a b rest hints cases tops lower_kind upper_kind e =
    let below = two_below p.style p.state a b rest p.made tops in
    let lower = below.lower in
    let upper = below.upper in
    let one = string_is (p.v.value a.0) (of_kind_holds p.style p.v a.0 p.state.facts Str p.stands.satisfied.facts lower_kind) in
    let two = string_is (p.v.value b.0) upper_kind in
    let known : Texts p a b one.0 two.0 = record { lower = one.1; upper = two.1 } in
    let at = at_two p op.Equal a b rest (StrValue one.0) (StrValue two.0) (pointwise nat_eq one.0 two.0) tops one.1 two.1 refl in
    elim (texts_decided p.state.facts a b) as (λ (o : Option Bool). texts_decided p.state.facts a b ≡ o
    → text_cases o (passed_both p.state.facts a b) (without rest p.state) hints ≡ Ok cases → Found p op.Equal cases) [
      | Some t ↦ λ is found. decided_found p op.Equal rest (pointwise nat_eq one.0 two.0) t hints cases at (texts_sure p a b one.0 two.0 t known is) found
      | None ↦ λ is found.
          both_found p op.Equal rest (pointwise nat_eq one.0 two.0) (passed_both p.state.facts a b) [] hints cases at
          (both_fit p.style p.state.next (passed (exact_text p.state.facts a.0) b) (passed (exact_text p.state.facts b.0) a) [] []
          (passed_fits p.style p.state a b p.made upper) (passed_fits p.style p.state b a p.made lower))
          (nothing_fits p.style p.state.next)
          (λ same.
          let values : p.v.value a.0 ≡ p.v.value b.0 = one.1 ∙ ap (λ (bytes : List ℕ). StrValue bytes) (same_bytes one.0 two.0 same) ∙ sym two.1 in
          joined (FactHolds p.style p.v) (passed (exact_text p.state.facts a.0) b) (passed (exact_text p.state.facts b.0) a)
          (passed_holds p a b values) (passed_holds p b a (sym values)))
          (λ unequal. tt) found
    ] refl e

equal_of_kind : (p : Spot) (a b : Sym) (rest : List Sym) (hints : List Hint) (cases : Cases) (kind : Kinds) → reverse p.state.stack ≡ b ∷ (a ∷ rest)
    → has_kind kind (p.v.value b.0) ≡ true → equal_by p.admits p.state kind (taken_two a b rest p.state) hints ≡ Ok cases → Found p op.Equal cases
equal_of_kind p a b rest hints cases Int tops upper e =
    elim (is_of_kind p.state Int a) as (λ (t : Bool). is_of_kind p.state Int a ≡ t
    → cond t (integer_cases p.admits (integers_decided is_equal true p.state.facts a b) (equal_rows a b) [] (without rest p.state) hints) (Err (fails WrongKind 2)) ≡ Ok cases
    → Found p op.Equal cases) [
      | true ↦ λ lower found. equal_integers_found p a b rest hints cases tops lower upper found
      | false ↦ λ lower found. absurd (cc)
    ] refl e
equal_of_kind p a b rest hints cases Str tops upper e =
    elim (is_of_kind p.state Str a) as (λ (t : Bool). is_of_kind p.state Str a ≡ t
    → cond t (text_cases (texts_decided p.state.facts a b) (passed_both p.state.facts a b) (without rest p.state) hints) (Err (fails WrongKind 2)) ≡ Ok cases
    → Found p op.Equal cases) [
      | true ↦ λ lower found. equal_texts_found p a b rest hints cases tops lower upper found
      | false ↦ λ lower found. absurd (cc)
    ] refl e
equal_of_kind p a b rest hints cases _ tops upper e = absurd (cc)

-- `=`
pub equal_found : (p : Spot) (hints : List Hint) (cases : Cases) → equal p.admits p.state hints ≡ Ok cases → Found p op.Equal cases
equal_found p hints cases e =
    let f = two_taken Any Any p.state (λ two. equal_by p.admits p.state (known_kind p.state.facts two.upper.0) two hints) cases e in
    equal_of_kind p f.a f.b f.rest hints cases (known_kind p.state.facts f.b.0) f.tops
    (known_kind_holds p.style p.v f.b.0 p.state.facts p.stands.satisfied.facts) f.given
