-- What calls on files keep in turn.
use Rattle.std.proofs.Common.{◌≡◌, ℕ, ◌≤◌, inl, inr, List, [], ◌∷◌, ◌++◌, Option, None, Some, Result, Ok, Err, refl, ◌∙◌, subst, arith}
use Rattle.std.specs.Prelude.{IfSome, IfErr}
use Rattle.std.specs.List.{last_or}
use Rattle.bv_base.specs.Outside.{Listing, Rose, last_begun}
use Rattle.bv_base.specs.declared.files.Begun.{Begun}
use Rattle.bv_base.specs.declared.files.Files.{Ghosts}
use Rattle.bst_run.specs.declared.stop.Stop.{Stop}
use Rattle.bst_run.specs.declared.stop.Stop.TheVariants.{Told, Failed, NoMemory}
use Rattle.bst_run.specs.declared.outcome.Outcome.{Outcome}
use Rattle.bv_base.specs.Answers.{then_do}
use Rattle.bst_run.specs.Reads.{Reads}
use Rattle.bst_run.specs.Stops.{outcome_of, Gives, Decides, HasCause, IsInside}

-- what was begun last is what was added last
pub last_added : (before : List Begun) (file : Begun) → last_begun (before ++ file ∷ []) ≡ Some file
last_added before file = after None before
  where
    after : (last : Option Begun) (before : List Begun) → last_or last (before ++ file ∷ []) ≡ Some file
    after last [] = refl
    after last (first ∷ rest) = after (Some first) rest

-- a value, and then what is given next
pub then_given : {A B : Type 0} (told : Option Listing) (first : Listing → Result A Outcome) (value : A) (next : Listing → A → Result B Outcome) (result : Result B Stop)
    → Gives {A = A} told first (Ok value) → Gives {A = B} told (λ t. next t value) result
    → Gives {A = B} told (λ t. then_do (first t) (next t)) result
then_given None first value next (Ok b) e h = tt
then_given None first value next (Err stop) e h = tt
then_given (Some t) first value next (Ok b) e h = rw e h
then_given (Some t) first value next (Err stop) e h = rw e h

-- a stop that stands for an outcome ends what comes after it
pub stopped : {A B : Type 0} (o : Option Outcome) (r : Result A Outcome) (next : A → Result B Outcome)
    → IfSome o (λ outcome. r ≡ Err outcome) → IfSome o (λ outcome. then_do r next ≡ Err outcome)
stopped None r next h = tt
stopped (Some outcome) r next h = rw h refl

-- a stop ends what comes after it
pub stop_given : {A B : Type 0} (told : Option Listing) (first : Listing → Result A Outcome) (next : Listing → A → Result B Outcome) (stop : Stop)
    → Gives {A = A} told first (Err stop) → Gives {A = B} told (λ t. then_do (first t) (next t)) (Err stop)
stop_given None first next stop h = tt
stop_given (Some t) first next stop h = stopped (outcome_of stop) (first t) (next t) h

-- what needs no files
pub decided_given : {A : Type 0} (told : Option Listing) (wanted : Result A Outcome) (result : Result A Stop)
    → Decides {A = A} wanted result → Gives {A = A} told (λ t. wanted) result
decided_given None wanted (Ok value) h = tt
decided_given None wanted (Err stop) h = tt
decided_given (Some t) wanted (Ok value) h = h
decided_given (Some t) wanted (Err stop) h = h

-- a value that needs no files, and then what is wanted of it
pub then_decided : {A B : Type 0} (first : Result A Outcome) (value : A) (next : A → Result B Outcome) (result : Result B Stop)
    → Decides {A = A} first (Ok value) → Decides {A = B} (next value) result → Decides {A = B} (then_do first next) result
then_decided first value next (Ok b) e h = rw e h
then_decided first value next (Err stop) e h = rw e h

-- a count that rose later rose
rose_later : (f0 f1 f2 : ℕ) → f0 ≤ f1 → Rose f1 f2 → Rose f0 f2
rose_later f0 f1 f2 le (inl more) = inl (omega arith)
rose_later f0 f1 f2 le (inr end) = inr end

-- what an inner call shows of its stop, the outer call shows too
pub later_cause : (stop : Stop) (begun : Option Begun) (f0 f1 f2 : ℕ) → f0 ≤ f1 → HasCause stop begun f1 f2 → HasCause stop begun f0 f2
later_cause (Failed name) begun f0 f1 f2 le h = (h.0, rose_later f0 f1 f2 le h.1)
later_cause NoMemory begun f0 f1 f2 le h = tt
later_cause _ begun f0 f1 f2 le h = h

-- what needs no files has its cause
pub inside_cause : (stop : Stop) (begun : Option Begun) (f f' : ℕ) → IsInside stop → HasCause stop begun f f'
inside_cause (Told outcome) begun f f' h = h
inside_cause NoMemory begun f f' h = tt
inside_cause _ begun f f' h = absurd h

-- the same of a result
later : {B : Type 0} (result : Result B Stop) (begun : Option Begun) (f0 f1 f2 : ℕ) → f0 ≤ f1
    → IfErr result (λ stop. HasCause stop begun f1 f2) → IfErr result (λ stop. HasCause stop begun f0 f2)
later (Ok value) begun f0 f1 f2 le h = tt
later (Err stop) begun f0 f1 f2 le h = later_cause stop begun f0 f1 f2 le h

-- the same of a result
inside : {B : Type 0} (result : Result B Stop) (begun : Option Begun) (f f' : ℕ)
    → IfErr result IsInside → IfErr result (λ stop. HasCause stop begun f f')
inside (Ok value) begun f f' h = tt
inside (Err stop) begun f f' h = inside_cause stop begun f f' h

-- what needs no files reads none
pub reads_nothing : {F A : Type 0} (see : Ghosts F) (files : F) (wanted : Result A Outcome) (result : Result A Stop)
    → Decides {A = A} wanted result → IfErr result IsInside → Reads {F = F} {A = A} see files files (λ t. wanted) result
reads_nothing see files wanted result decides is = record {
  gives = decided_given (see.told files) wanted result decides;
  cause = inside result (last_begun (see.begun files)) (see.faults files) (see.faults files) is;
  told = refl;
  count = omega arith;
}

-- a value is read, and then what is wanted of it
pub reads_next : {F A B : Type 0} (see : Ghosts F) (old mid new : F) (first : Listing → Result A Outcome) (value : A) (next : Listing → A → Result B Outcome) (result : Result B Stop)
    → Reads {F = F} {A = A} see old mid first (Ok value) → Reads {F = F} {A = B} see mid new (λ t. next t value) result
    → Reads {F = F} {A = B} see old new (λ t. then_do (first t) (next t)) result
reads_next {B = B} see old mid new first value next result h k =
    let rose = h.count in
    let more = k.count in
    record {
      gives = then_given (see.told old) first value next result h.gives
          (subst (λ (o : Option Listing). Gives {A = B} o (λ t. next t value) result) h.told k.gives);
      cause = later result (last_begun (see.begun new)) (see.faults old) (see.faults mid) (see.faults new) h.count k.cause;
      told = k.told ∙ h.told;
      count = omega arith;
    }

-- a stop ends the reading
pub reads_stopped : {F A B : Type 0} (see : Ghosts F) (old new : F) (first : Listing → Result A Outcome) (next : Listing → A → Result B Outcome) (stop : Stop)
    → Reads {F = F} {A = A} see old new first (Err stop) → Reads {F = F} {A = B} see old new (λ t. then_do (first t) (next t)) (Err stop)
reads_stopped see old new first next stop h =
    record { gives = stop_given (see.told old) first next stop h.gives; cause = h.cause; told = h.told; count = h.count }

-- memory is wanting
pub reads_wanting : {F : Type 0} (A : Type 0) (see : Ghosts F) (old new : F) (wanted : Listing → Result A Outcome)
    → see.told new ≡ see.told old → see.faults old ≤ see.faults new → Reads {F = F} {A = A} see old new wanted (Err NoMemory)
reads_wanting A see old new wanted same count =
    record { gives = by (see.told old); cause = tt; told = same; count = count }
  where
    by : (told : Option Listing) → Gives {A = A} told wanted (Err NoMemory)
    by None = tt
    by (Some t) = tt
