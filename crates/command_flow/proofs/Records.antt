-- The records of commands, which are taken one after the other.
use Rattle.std.proofs.Common.{◌≡◌, ◌≢◌, ℕ, suc, ◌≤◌, ◌<◌, ◌+◌, Bool, true, false, cond, nat_eq, nat_lt, List, [], ◌∷◌, None, Some, refl, sym, ap, subst, ◌∙◌, add-one, arith}
use Rattle.std.proofs.lemmas.Bool.{and_parts}
use Rattle.std.specs.List.{All}
use Rattle.std.proofs.lemmas.Bool.Decides.{nat_tests}
use Rattle.std.proofs.lemmas.List.Elements.{All-cons, All-head, All-nil, All-tail, All-weaker}
use Rattle.cert_format.specs.CondText.{is_chain}
use Rattle.cert_format.specs.declared.cert.CommandPart.{CommandPart}
use Rattle.command_flow.specs.Records.{AreFrom, record_at}

abbrev is_rising : List CommandPart → Bool
is_rising parts = is_chain (λ a b. nat_lt a.index b.index) parts

less_is : (m n : ℕ) → nat_lt m n ≡ true → m < n
less_is m n e = grind (arith, nat_tests)

self_is : (n : ℕ) → nat_eq n n ≡ true
self_is n = grind (arith, nat_tests)

apart : (m n : ℕ) → n < m → nat_eq m n ≡ false
apart m n less = grind (arith, nat_tests)

below : (m n : ℕ) → m < n → nat_eq m n ≡ false
below m n less = grind (arith, nat_tests)

apart_is : (m n : ℕ) → m ≢ n → nat_eq m n ≡ false
apart_is m n other = grind (arith, nat_tests)

-- behind one record all have a greater number
pub above_first : (index : ℕ) (first : CommandPart) (rest : List CommandPart) → index ≤ first.index → is_rising (first ∷ rest) ≡ true
    → All (λ part. suc index ≤ part.index) rest
above_first index first [] from rise = All-nil _
above_first index first (second ∷ rest) from rise =
    let parts = and_parts (nat_lt first.index second.index) (is_rising (second ∷ rest)) rise in
    let less = less_is first.index second.index parts.0 in
    let here : suc index ≤ second.index = omega (arith, from, less) in
    All-cons (λ (p : CommandPart). suc index ≤ p.index) second rest here (above_first index second rest (omega (arith, here)) parts.1)

rising_behind : (first : CommandPart) (rest : List CommandPart) → is_rising (first ∷ rest) ≡ true → is_rising rest ≡ true
rising_behind first [] rise = refl
rising_behind first (second ∷ rest) rise = (and_parts (nat_lt first.index second.index) (is_rising (second ∷ rest)) rise).1

-- no record of greater numbers is that of this one
none_above : (index : ℕ) (parts : List CommandPart) → All (λ part. suc index ≤ part.index) parts → record_at index parts ≡ None
none_above index [] above = refl
none_above index (part ∷ parts) above =
    let greater = All-head (λ (p : CommandPart). suc index ≤ p.index) part parts above in
    ap (λ (t : Bool). cond t (Some part) (record_at index parts)) (apart part.index index (omega (arith, greater)))
    ∙ none_above index parts (All-tail (λ (p : CommandPart). suc index ≤ p.index) part parts above)

-- the first record is that of the number: those behind it are from the next
pub first_is : (index : ℕ) (first : CommandPart) (rest : List CommandPart) → AreFrom index (first ∷ rest) → first.index ≡ index
    → record_at index (first ∷ rest) ≡ Some first
first_is index first rest from same =
    ap (λ (t : Bool). cond t (Some first) (record_at index rest)) (ap (λ (n : ℕ). nat_eq n index) same ∙ self_is index)

pub rest_from : (index : ℕ) (first : CommandPart) (rest : List CommandPart) → AreFrom index (first ∷ rest) → AreFrom (suc index) rest
rest_from index first rest from =
    let here : index ≤ first.index = All-head (λ (p : CommandPart). index ≤ p.index) first rest from.behind in
    record { behind = above_first index first rest here from.rise; rise = rising_behind first rest from.rise }

pub rest_has : (index : ℕ) (first : CommandPart) (rest : List CommandPart) → first.index ≡ index → (later : ℕ) → suc index ≤ later
    → record_at later (first ∷ rest) ≡ record_at later rest
rest_has index first rest same later greater =
    ap (λ (t : Bool). cond t (Some first) (record_at later rest)) (below first.index later (omega (arith, same, greater)))

-- it isn't: none is
pub passed : (index : ℕ) (first : CommandPart) (rest : List CommandPart) → AreFrom index (first ∷ rest) → nat_eq first.index index ≡ false
    → AreFrom (suc index) (first ∷ rest)
passed index first rest from other =
    let here : index ≤ first.index = All-head (λ (p : CommandPart). index ≤ p.index) first rest from.behind in
    let greater : suc index ≤ first.index = grind (arith, nat_tests) in
    let later = above_first (suc index) first rest greater from.rise in
    record {
      behind = All-cons (λ (p : CommandPart). suc index ≤ p.index) first rest greater (All-weaker (λ (p : CommandPart). suc (suc index) ≤ p.index) (λ p. suc index ≤ p.index)
          (λ p more. omega (arith, more)) rest later);
      rise = from.rise;
    }

pub none_is : (index : ℕ) (parts : List CommandPart) → AreFrom (suc index) parts → record_at index parts ≡ None
none_is index parts from = none_above index parts from.behind

-- all of them are from the first number
pub all_from : (parts : List CommandPart) → is_rising parts ≡ true → AreFrom 0 parts
all_from parts rise = record { behind = every parts; rise = rise }
  where
    every : (ps : List CommandPart) → All (λ part. 0 ≤ part.index) ps
    every [] = All-nil _
    every (p ∷ ps) = All-cons (λ (part : CommandPart). 0 ≤ part.index) p ps (omega arith) (every ps)

-- of no records
pub empty_from : (index : ℕ) (parts : List CommandPart) → parts ≡ [] → AreFrom index parts
empty_from index parts none = subst (AreFrom index) (sym none) (record { behind = All-nil _; rise = refl })

-- the same for the next number as it is written in code
pub taken_from : (index : ℕ) (parts rest : List CommandPart) (first : CommandPart) → parts ≡ first ∷ rest → AreFrom index parts → AreFrom (index + 1) rest
taken_from index parts rest first is from =
    subst (λ (n : ℕ). AreFrom n rest) (sym (add-one index)) (rest_from index first rest (subst (AreFrom index) is from))

pub taken_has : (index : ℕ) (parts rest : List CommandPart) (first : CommandPart) → parts ≡ first ∷ rest → first.index ≡ index
    → (later : ℕ) → index + 1 ≤ later → record_at later parts ≡ record_at later rest
taken_has index parts rest first is same later above =
    ap (λ (l : List CommandPart). record_at later l) is ∙ rest_has index first rest same later (omega (arith, above))

pub passed_from : (index : ℕ) (parts rest : List CommandPart) (first : CommandPart) → parts ≡ first ∷ rest → AreFrom index parts
    → first.index ≢ index → AreFrom (index + 1) parts
passed_from index parts rest first is from other =
    subst (λ (n : ℕ). AreFrom n parts) (sym (add-one index)) (subst (AreFrom (suc index)) (sym is)
    (passed index first rest (subst (AreFrom index) is from) (apart_is first.index index other)))

pub passed_none : (index : ℕ) (parts rest : List CommandPart) (first : CommandPart) → parts ≡ first ∷ rest → AreFrom index parts
    → first.index ≢ index → None ≡ record_at index parts
passed_none index parts rest first is from other =
    sym (none_is index parts (subst (λ (n : ℕ). AreFrom n parts) (add-one index) (passed_from index parts rest first is from other)))
