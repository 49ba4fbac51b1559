-- What facts decide, by the first that decides it.
use Rattle.std.proofs.Common.{◌≡◌, ℕ, Bool, true, false, cond, ◌&&◌, ◌||◌, nat_eq, refl, ap, ◌∙◌, List, [], ◌∷◌, Option, None, Some, is_some, option_map}
use Rattle.std.specs.List.{find, list_any}
use Rattle.std.specs.Option.{MatchOption, option_and_then, option_or}
use Rattle.sym_state.specs.declared.symbol.Fact.{Fact}
use Rattle.sym_state.specs.Decided.{first_said}
use Rattle.sym_state.specs.Facts.{subject}

-- a fact on a symbol that decides something
abbrev pub decides : {X : Type 0} → (Fact → Option X) → ℕ → Fact → Bool
decides said s fact = nat_eq (subject fact) s && is_some (said fact)

-- the first fact that decides something says what is decided
said_first : {X : Type 0} (said : Fact → Option X) (s : ℕ) (facts : List Fact) → option_and_then said (find (decides said s) facts) ≡ first_said said s facts
said_first said s [] = refl
said_first {X} said s (fact ∷ facts) = by_fact (nat_eq (subject fact) s) (said fact) refl (said_first said s facts)
  where
    by_fact : (on : Bool) (o : Option X) → said fact ≡ o → option_and_then said (find (decides said s) facts) ≡ first_said said s facts
        → option_and_then said (cond (on && is_some o) (Some fact) (find (decides said s) facts)) ≡ cond on (option_or o (first_said said s facts)) (first_said said s facts)
    by_fact true (Some x) is e = is
    by_fact true None is e = e
    by_fact false o is e = e

-- the same behind a reference
pub found_said : {B X : Type 0} (now : B → Fact) (said : Fact → Option X) (s : ℕ) (facts : List Fact) (found : Option B)
    → option_map now found ≡ find (decides said s) facts → option_and_then (λ b. said (now b)) found ≡ first_said said s facts
found_said {B} {X} now said s facts found e = through found ∙ ap (option_and_then said) e ∙ said_first said s facts
  where
    through : (o : Option B) → option_and_then (λ b. said (now b)) o ≡ option_and_then said (option_map now o)
    through (Some b) = refl
    through None = refl

-- what is asked of what is found, where something is
asked_of : {B X : Type 0} (ask : B → Option X) (found : Option B) (result : Option X) (Asked : B → Type 0) → ((b : B) → Asked b → result ≡ ask b)
    → MatchOption found (result ≡ None) Asked → result ≡ option_and_then ask found
asked_of ask (Some b) result Asked is asked = is b asked
asked_of ask None result Asked is asked = asked

-- what the found fact is asked for is what the first fact that decides it says
pub said_of : {B X : Type 0} (now : B → Fact) (said : Fact → Option X) (s : ℕ) (facts : List Fact) (found : Option B) (result : Option X) (Asked : B → Type 0)
    → ((b : B) → Asked b → result ≡ said (now b)) → MatchOption found (result ≡ None) Asked → option_map now found ≡ find (decides said s) facts
    → result ≡ first_said said s facts
said_of now said s facts found result Asked is asked e = asked_of (λ b. said (now b)) found result Asked is asked ∙ found_said now said s facts found e

-- the same of what is taken from what it says
pub found_then : {B X Y : Type 0} (now : B → Fact) (said : Fact → Option X) (next : X → Option Y) (s : ℕ) (facts : List Fact) (found : Option B) (result : Option Y)
    (Asked : B → Type 0) → ((b : B) → Asked b → result ≡ option_and_then next (said (now b))) → MatchOption found (result ≡ None) Asked
    → option_map now found ≡ find (decides said s) facts → result ≡ option_and_then next (first_said said s facts)
found_then {B} now said next s facts found result Asked is asked e =
    asked_of (λ b. option_and_then next (said (now b))) found result Asked is asked ∙ through found ∙ ap (option_and_then next) (found_said now said s facts found e)
  where
    through : (o : Option B) → option_and_then (λ b. option_and_then next (said (now b))) o ≡ option_and_then next (option_and_then (λ b. said (now b)) o)
    through (Some b) = refl
    through None = refl

-- an item passes a test where one is found
any_found : {X : Type 0} (test : X → Bool) (xs : List X) → is_some (find test xs) ≡ list_any test xs
any_found test [] = refl
any_found {X} test (x ∷ xs) = by_test (test x) (any_found test xs)
  where
    by_test : (b : Bool) → is_some (find test xs) ≡ list_any test xs → is_some (cond b (Some x) (find test xs)) ≡ (b || list_any test xs)
    by_test true e = refl
    by_test false e = e

-- the same behind a reference
pub found_any : {B X : Type 0} (now : B → X) (test : X → Bool) (xs : List X) (found : Option B)
    → option_map now found ≡ find test xs → is_some found ≡ list_any test xs
found_any {B} now test xs found e = through found ∙ ap is_some e ∙ any_found test xs
  where
    through : (o : Option B) → is_some o ≡ is_some (option_map now o)
    through (Some b) = refl
    through None = refl
