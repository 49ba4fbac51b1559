-- What two steps one after the other give, and what a test gives that stops with a fault.
use Rattle.std.proofs.Common.{◌≡◌, Bool, true, false, cond, Result, Ok, Err, IfOk, IfErr, refl}
use Rattle.bv_base.specs.Answers.{then_do}

pub then_ok : {A B E : Type 0} (r : Result A E) (next : A → Result B E) (b : B) → then_do r next ≡ Ok b
    → (a : A) × (r ≡ Ok a) × (next a ≡ Ok b)
then_ok (Ok a) next b e = (a, refl, e)
then_ok (Err fault) next b e = absurd (cc)

-- what holds of the value, where there is one
pub then_holds : {A B E : Type 0} (P : A → Type 0) (Q : B → Type 0) (r : Result A E) (next : A → Result B E) → IfOk r P
    → ((a : A) → P a → IfOk (next a) Q) → IfOk (then_do r next) Q
then_holds P Q (Ok a) next first rest = rest a first
then_holds P Q (Err fault) next first rest = tt

-- the same where it holds of every value of the second step
pub then_any : {A B E : Type 0} (Q : B → Type 0) (r : Result A E) (next : A → Result B E) → ((a : A) → IfOk (next a) Q)
    → IfOk (then_do r next) Q
then_any Q (Ok a) next rest = rest a
then_any Q (Err fault) next rest = tt

-- what holds of the fault, where there is one
pub then_faulty : {A B E : Type 0} (P : E → Type 0) (r : Result A E) (next : A → Result B E) → IfErr r P
    → ((a : A) → r ≡ Ok a → IfErr (next a) P) → IfErr (then_do r next) P
then_faulty P (Ok a) next first rest = rest a refl
then_faulty P (Err fault) next first rest = first

-- a value, of whatever fault
abbrev pub ok : {A E : Type 0} → A → Result A E
ok x = Ok x

pub ok_is : {A E : Type 0} (x y : A) → ok {E = E} x ≡ ok y → y ≡ x
ok_is x y e = cc

pub where_ok : {A E : Type 0} (t : Bool) (r : Result A E) (fault : E) (a : A) → cond t r (Err fault) ≡ Ok a
    → (t ≡ true) × (r ≡ Ok a)
where_ok true r fault a e = (refl, e)
where_ok false r fault a e = absurd (cc)

pub unless_ok : {A E : Type 0} (t : Bool) (fault : E) (r : Result A E) (a : A) → cond t (Err fault) r ≡ Ok a
    → (t ≡ false) × (r ≡ Ok a)
unless_ok true fault r a e = absurd (cc)
unless_ok false fault r a e = (refl, e)
