-- What a call answers where a definition gives what is wanted: that, or want of memory.
use Rattle.std.specs.Prelude.{◌≡◌, ◌≢◌, Result, Ok, Err}
use Rattle.std.specs.Result.{MatchResult}

-- what is wanted first, and what is wanted of its value; a fault ends both
abbrev pub then_do : {A B E : Type 0} → Result A E → (A → Result B E) → Result B E
then_do (Ok value) next = next value
then_do (Err fault) next = Err fault

-- a call's fault is the one that is wanted, but for want of memory, which is free
abbrev pub Refuses : {A E : Type 0} → E → Result A E → E → Type 0
Refuses memory wanted fault = fault ≢ memory → wanted ≡ Err fault

-- the call gives the value that is wanted, or its fault
abbrev pub Gives : {A E : Type 0} → E → Result A E → Result A E → Type 0
Gives memory wanted result = MatchResult result (λ value. wanted ≡ Ok value) (Refuses memory wanted)

-- the value that is wanted is there after the call, or it gives the fault that is wanted
abbrev pub Leaves : {A T E : Type 0} → E → Result A E → A → Result T E → Type 0
Leaves memory wanted after result = MatchResult result (λ _. wanted ≡ Ok after) (Refuses memory wanted)

-- the call gives the first part of what is wanted and the second is there after it, or it gives the fault that is wanted
abbrev pub GivesAndLeaves : {A T E : Type 0} → E → Result (T × A) E → A → Result T E → Type 0
GivesAndLeaves memory wanted after result =
    MatchResult result (λ value. wanted ≡ Ok (value, after)) (Refuses memory wanted)
