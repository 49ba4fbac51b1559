-- What calls on files begin in turn.
use Rattle.std.proofs.Common.{◌≡◌, inl, inr, Bool, true, false, List, [], ◌∷◌, ◌++◌, Option, None, Some, Result, Ok, Err, refl, sym, ◌∙◌, ap, subst, append_assoc}
use Rattle.std.specs.Prelude.{IfSome, IfOk, IfErr, is_some}
use Rattle.std.specs.String.{string_bytes}
use Rattle.std.proofs.lemmas.List.{append-nil}
use Rattle.bv_base.specs.Outside.{Listing, last_begun}
use Rattle.bv_base.specs.declared.files.Begun.{Begun}
use Rattle.bv_base.specs.declared.files.Files.{Ghosts}
use Rattle.bv_base.specs.declared.memory.NoMemory.{NoMemory}
use Rattle.bv_base.specs.declared.status.Status.{Status}
use Rattle.bv_base.specs.declared.status.Status.TheVariants as status
use Rattle.bst_run.specs.declared.outcome.Outcome.{Outcome}
use Rattle.bst_run.specs.declared.stop.Stop.{Stop}
use Rattle.bst_run.specs.declared.stop.Stop.TheVariants.{Told, Absent, Failed, TooLong, NoMemory as Wanted}
use Rattle.bst_run.specs.Delivery.{Sunk, Whole, OutFailed, ErrFailed, OutWanting, ErrWanting, Delivers}
use Rattle.bst_run.specs.FilesBegun.{AreFirst, Begins, BeginsBy, BeginsFirst, HasBegun, All, Unread, Wanting, given_of, is_decided, then_begun}
use Rattle.bst_run.specs.Forms.{Form}
use Rattle.bst_run.specs.Report.{unread}
use Rattle.bst_run.specs.Stops.{Decides, Gives, HasCause, outcome_of, told_of}
use Rattle.bst_run.specs.Top.{CausedBy, IsAnswer}
use Rattle.bst_run.proofs.ReadsLemmas.{decided_given}

-- the first of some files are the first of those and more
pub first_more : (begun wanted more : List Begun) → AreFirst begun wanted → AreFirst begun (wanted ++ more)
first_more [] wanted more h = tt
first_more (file ∷ begun) [] more h = absurd h
first_more (file ∷ begun) (first ∷ wanted) more h = (h.0, first_more begun wanted more h.1)

-- and behind others
first_behind : (done begun wanted : List Begun) → AreFirst begun wanted → AreFirst (done ++ begun) (done ++ wanted)
first_behind [] begun wanted h = h
first_behind (file ∷ done) begun wanted h = (refl, first_behind done begun wanted h)

first_all : (begun : List Begun) → AreFirst begun begun
first_all [] = tt
first_all (file ∷ begun) = (refl, first_all begun)

-- all files that are wanted were begun
pub all_begun : (decided : Bool) (wanted before after : List Begun) → after ≡ before ++ wanted → BeginsBy decided wanted before after
all_begun true wanted before after is = is
all_begun false wanted before after is = record { begun = wanted; is = is; first = first_all wanted }

-- of all files that are wanted some were begun, and these are left
pub record SoFar (all left before now : List Begun) : Type 0 where
  pub done : List Begun
  pub is : now ≡ before ++ done
  pub rest : all ≡ done ++ left

-- the same where the files tell
abbrev pub AreSoFar : Option Listing → (Listing → List Begun) → (Listing → List Begun) → List Begun → List Begun → Type 0
AreSoFar told all left before now = IfSome told (λ t. SoFar (all t) (left t) before now)

-- before the first file
pub none_so_far : (all begun : List Begun) → SoFar all all begun begun
none_so_far all begun = record { done = []; is = sym (append-nil begun); rest = refl }

-- what was left is begun
pub ends : (decided : Bool) (all left before now after : List Begun) → SoFar all left before now → BeginsBy decided left now after → BeginsBy decided all before after
ends true all left before now after s h =
    h ∙ ap (λ (b : List Begun). b ++ left) s.is ∙ append_assoc before s.done left ∙ ap (λ (l : List Begun). before ++ l) (sym s.rest)
ends false all left before now after s h = record {
  begun = s.done ++ h.begun;
  is = h.is ∙ ap (λ (b : List Begun). b ++ h.begun) s.is ∙ append_assoc before s.done h.begun;
  first = subst (λ (w : List Begun). AreFirst (s.done ++ h.begun) w) (sym s.rest) (first_behind s.done h.begun left h.first);
}

-- the next of what was left are begun
pub goes_on : (all next left before now after : List Begun) → SoFar all (next ++ left) before now → after ≡ now ++ next → SoFar all left before after
goes_on all next left before now after s h = record {
  done = s.done ++ next;
  is = h ∙ ap (λ (b : List Begun). b ++ next) s.is ∙ append_assoc before s.done next;
  rest = s.rest ∙ sym (append_assoc s.done next left);
}

-- what begins nothing
pub begins_nothing : {A : Type 0} (told : Option Listing) (begun : List Begun) (result : Result A Stop) → Begins {A = A} told (λ t. []) begun begun result
begins_nothing None begun result = tt
begins_nothing (Some t) begun result = all_begun (is_decided result) [] begun begun (sym (append-nil begun))

-- what follows begins nothing
pub begins_last : {A B : Type 0} (told : Option Listing) (wanted : Listing → List Begun) (before after : List Begun) (value : A) (result : Result B Stop)
    → Begins {A = A} told wanted before after (Ok value) → Begins {A = B} told wanted before after result
begins_last None wanted before after value result h = tt
begins_last (Some t) wanted before after value result h = all_begun (is_decided result) (wanted t) before after h

-- a value is found, and then more is begun
pub begins_next : {A B : Type 0} (told told' : Option Listing) (first : Listing → Result A Outcome) (value value' : A) (begun : Listing → List Begun) (more : Listing → A → List Begun)
    (before now after : List Begun) (result : Result B Stop)
    → told' ≡ told → value' ≡ value → Gives {A = A} told first (Ok value) → Begins {A = A} told begun before now (Ok value)
    → Begins {A = B} told' (λ t. more t value') now after result
    → Begins {A = B} told (λ t. begun t ++ then_begun {A = A} (first t) (more t)) before after result
begins_next {A = A} {B = B} told told' first value value' begun more before now after result same is gives h k =
    by told gives h (subst (λ (o : Option Listing). Begins {A = B} o (λ t. more t value) now after result) same (subst (λ (v : A). Begins {A = B} told' (λ t. more t v) now after result) is k))
  where
    by : (o : Option Listing) → Gives {A = A} o first (Ok value) → Begins {A = A} o begun before now (Ok value) → Begins {A = B} o (λ t. more t value) now after result
        → Begins {A = B} o (λ t. begun t ++ then_begun {A = A} (first t) (more t)) before after result
    by None gives h k = tt
    by (Some t) gives h k =
        rw gives (ends (is_decided {A = B} result) (begun t ++ more t value) (more t value) before now after (record { done = begun t; is = h; rest = refl }) k)

-- a stop ends what is begun
ended_by : {A : Type 0} (o : Option Outcome) (r : Result A Outcome) (begun : List Begun) (more : A → List Begun) (before after : List Begun)
    → IfSome o (λ outcome. r ≡ Err outcome) → BeginsBy (is_some o) begun before after → BeginsBy (is_some o) (begun ++ then_begun {A = A} r more) before after
ended_by {A = A} None r begun more before after gives h =
    record { begun = h.begun; is = h.is; first = first_more h.begun begun (then_begun {A = A} r more) h.first }
ended_by (Some outcome) r begun more before after gives h = rw gives (h ∙ ap (λ (l : List Begun). before ++ l) (sym (append-nil begun)))

pub begins_stopped : {A : Type 0} (B : Type 0) (told : Option Listing) (first : Listing → Result A Outcome) (begun : Listing → List Begun) (more : Listing → A → List Begun)
    (before after : List Begun) (stop : Stop)
    → Gives {A = A} told first (Err stop) → Begins {A = A} told begun before after (Err stop)
    → Begins {A = B} told (λ t. begun t ++ then_begun {A = A} (first t) (more t)) before after (Err stop)
begins_stopped B None first begun more before after stop gives h = tt
begins_stopped {A = A} B (Some t) first begun more before after stop gives h = ended_by {A = A} (outcome_of stop) (first t) (begun t) (more t) before after gives h

-- what needs no files stops
pub begins_refused : {A : Type 0} (B : Type 0) (told : Option Listing) (wanted : Result A Outcome) (more : Listing → A → List Begun) (begun : List Begun) (stop : Stop)
    → Decides {A = A} wanted (Err stop) → Begins {A = B} told (λ t. then_begun {A = A} wanted (more t)) begun begun (Err stop)
begins_refused {A = A} B told wanted more begun stop decides =
    begins_stopped {A = A} B told (λ t. wanted) (λ t. []) more begun begun stop (decided_given {A = A} told wanted (Err stop) decides) (begins_nothing {A = A} told begun (Err stop))

-- what needs no files is found, and then more is begun
pub begins_after : {A B : Type 0} (told : Option Listing) (wanted : Result A Outcome) (value : A) (more : Listing → A → List Begun) (before after : List Begun) (result : Result B Stop)
    → Decides {A = A} wanted (Ok value) → Begins {A = B} told (λ t. more t value) before after result
    → Begins {A = B} told (λ t. then_begun {A = A} wanted (more t)) before after result
begins_after {A = A} {B = B} told wanted value more before after result decides h =
    begins_next {A = A} {B = B} told told (λ t. wanted) value value (λ t. []) more before before after result refl refl (decided_given {A = A} told wanted (Ok value) decides)
    (begins_nothing {A = A} told before (Ok value)) h

-- a value is found of what was left, and its files are begun
pub so_far_next : {A : Type 0} (told told' : Option Listing) (all : Listing → List Begun) (first : Listing → Result A Outcome) (value : A) (next : Listing → List Begun) (more : Listing → A → List Begun)
    (before now after : List Begun)
    → told' ≡ told → AreSoFar told all (λ t. next t ++ then_begun {A = A} (first t) (more t)) before now → Gives {A = A} told' first (Ok value) → Begins {A = A} told' next now after (Ok value)
    → AreSoFar told all (λ t. more t value) before after
so_far_next {A = A} told told' all first value next more before now after same so_far gives h =
    by told so_far (subst (λ (o : Option Listing). Gives {A = A} o first (Ok value)) same gives) (subst (λ (o : Option Listing). Begins {A = A} o next now after (Ok value)) same h)
  where
    by : (o : Option Listing) → AreSoFar o all (λ t. next t ++ then_begun {A = A} (first t) (more t)) before now → Gives {A = A} o first (Ok value) → Begins {A = A} o next now after (Ok value)
        → AreSoFar o all (λ t. more t value) before after
    by None so_far gives h = tt
    by (Some t) so_far gives h =
        goes_on (all t) (next t) (more t value) before now after
        (subst (λ (r : Result A Outcome). SoFar (all t) (next t ++ then_begun {A = A} r (more t)) before now) gives so_far) h

-- it isn't found, and no more is begun
pub so_far_stopped : {A : Type 0} (B : Type 0) (told told' : Option Listing) (all : Listing → List Begun) (first : Listing → Result A Outcome) (next : Listing → List Begun) (more : Listing → A → List Begun)
    (before now after : List Begun) (stop : Stop)
    → told' ≡ told → AreSoFar told all (λ t. next t ++ then_begun {A = A} (first t) (more t)) before now → Gives {A = A} told' first (Err stop) → Begins {A = A} told' next now after (Err stop)
    → Begins {A = B} told all before after (Err stop)
so_far_stopped {A = A} B told told' all first next more before now after stop same so_far gives h =
    by told so_far (subst (λ (o : Option Listing). Gives {A = A} o first (Err stop)) same gives) (subst (λ (o : Option Listing). Begins {A = A} o next now after (Err stop)) same h)
  where
    by : (o : Option Listing) → AreSoFar o all (λ t. next t ++ then_begun {A = A} (first t) (more t)) before now → Gives {A = A} o first (Err stop) → Begins {A = A} o next now after (Err stop)
        → Begins {A = B} o all before after (Err stop)
    by None so_far gives h = tt
    by (Some t) so_far gives h =
        ends (is_some (outcome_of stop)) (all t) (next t ++ then_begun {A = A} (first t) (more t)) before now after so_far
        (ended_by {A = A} (outcome_of stop) (first t) (next t) (more t) now after gives h)

-- nothing is left
pub so_far_ended : {B : Type 0} (told : Option Listing) (all : Listing → List Begun) (before now : List Begun) (result : Result B Stop)
    → AreSoFar told all (λ t. []) before now → Begins {A = B} told all before now result
so_far_ended None all before now result so_far = tt
so_far_ended {B = B} (Some t) all before now result so_far =
    ends (is_decided {A = B} result) (all t) [] before now now so_far (all_begun (is_decided {A = B} result) [] now now (sym (append-nil now)))

-- memory is wanting for what is left
pub so_far_wanting : (B : Type 0) (told : Option Listing) (all left : Listing → List Begun) (before now : List Begun)
    → AreSoFar told all left before now → Begins {A = B} told all before now (Err Wanted)
so_far_wanting B None all left before now so_far = tt
so_far_wanting B (Some t) all left before now so_far =
    ends false (all t) (left t) before now now so_far (record { begun = []; is = sym (append-nil now); first = tt })

-- the first of what is wanted were begun, whatever is given
begun_first : (decided : Bool) (wanted before after : List Begun) → BeginsBy decided wanted before after → BeginsFirst wanted before after
begun_first true wanted before after is = record { begun = wanted; is = is; first = first_all wanted }
begun_first false wanted before after h = h

-- what begins nothing, whatever it gives
pub nothing_begun : {F : Type 0} (see : Ghosts F) (files : F) (told : Option Listing) (given : Status)
    → IfSome told (λ t. HasBegun {F = F} see files files [] given)
nothing_begun see files None given = tt
nothing_begun see files (Some t) given = All (sym (append-nil (see.begun files)))

module _ {F : Type 0} (see : Ghosts F) (old new : F) (wanted : Listing → List Begun) where
  -- what a command's result has begun, its outcome has
  pub told_begun : (told : Option Listing) (result : Result Outcome Stop) (found : Result Outcome NoMemory)
      → Begins {A = Outcome} told wanted (see.begun old) (see.begun new) result
      → IfErr result (λ stop. HasCause stop (last_begun (see.begun new)) (see.faults old) (see.faults new))
      → IfOk found (λ o. told_of result ≡ Some o) → IfSome told (λ t. HasBegun {F = F} see old new (wanted t) (given_of found))
  told_begun None result found begins cause is = tt
  told_begun (Some t) result (Err refused) begins cause is =
      Wanting refl (begun_first (is_decided {A = Outcome} result) (wanted t) (see.begun old) (see.begun new) begins)
  told_begun (Some t) (Ok outcome) (Ok o) begins cause is = All begins
  told_begun (Some t) (Err (Told outcome)) (Ok o) begins cause is = All begins
  told_begun (Some t) (Err (Absent name)) (Ok o) begins cause is = All begins
  told_begun (Some t) (Err (TooLong name)) (Ok o) begins cause is = All begins
  told_begun (Some t) (Err (Failed name)) (Ok o) begins cause is =
      let same : unread (string_bytes name) ≡ o = cc in
      Unread cause.1 (inl (ap (λ (x : Outcome). x.status) (sym same))) begins
  told_begun (Some t) (Err Wanted) (Ok o) begins cause is = absurd (cc)

  -- what an outcome has begun, the answer has once it is delivered
  pub delivered_begun : (files : List Begun) (found : Result Outcome NoMemory) (given : Status) (out err : Sunk)
      → IfOk found (λ o. o.status ≡ status.NoMemory → ⊥) → HasBegun {F = F} see old new files (given_of found) → Delivers found given out err
      → HasBegun {F = F} see old new files given
  delivered_begun files found given out err held (All is) delivered = All is
  delivered_begun files (Err refused) given out err held (Unread rose is first) delivered = Wanting delivered.0 first
  delivered_begun files (Err refused) given out err held (Wanting is first) delivered = Wanting delivered.0 first
  delivered_begun files (Ok o) given out err held (Wanting is first) delivered = absurd (held is)
  delivered_begun files (Ok o) given out err held (Unread rose (inl is) first) (Whole e put last) = Unread rose (inl (e ∙ is)) first
  delivered_begun files (Ok o) given out err held (Unread rose (inr is) first) (Whole e put last) = Unread rose (inr (e ∙ is)) first
  delivered_begun files (Ok o) given out err held (Unread rose is first) (OutFailed e cut last) = Unread rose (inr e) first
  delivered_begun files (Ok o) given out err held (Unread rose is first) (ErrFailed e put cut) = Unread rose (inr e) first
  delivered_begun files (Ok o) given out err held (Unread rose is first) (OutWanting e front last) = Wanting e first
  delivered_begun files (Ok o) given out err held (Unread rose is first) (ErrWanting e put front) = Wanting e first

  -- the same where the files tell
  pub form_begun : (told : Option Listing) (form : Form) (found : Result Outcome NoMemory) (given : Status) (out err : Sunk)
      → IfOk found (λ o. IsAnswer {F = F} see old new form o) → IfSome told (λ t. HasBegun {F = F} see old new (wanted t) (given_of found))
      → Delivers found given out err → IfSome told (λ t. HasBegun {F = F} see old new (wanted t) given)
  form_begun None form found given out err answer begun delivered = tt
  form_begun (Some t) form found given out err answer begun delivered =
      delivered_begun (wanted t) found given out err (held found answer) begun delivered
    where
      held : (found : Result Outcome NoMemory) → IfOk found (λ o. IsAnswer {F = F} see old new form o) → IfOk found (λ o. o.status ≡ status.NoMemory → ⊥)
      held (Err refused) answer = tt
      held (Ok o) answer = λ is. subst (λ (s : Status). CausedBy s o (last_begun (see.begun new)) (see.faults old) (see.faults new)) is answer.cause
