-- From what a command's words come to and what was delivered to what is promised of a call.
use Rattle.std.proofs.Common.{◌≡◌, ◌≢◌, ℕ, ◌⊎◌, List, [], Bool, true, false, ◌++◌, codes, get_or, nat_eq, Option, None, Some, Result, Ok, Err, refl, sym, ◌∙◌, ap, subst, inl, inr}
use Rattle.std.specs.Prelude.{IfSome, IsSomeAnd, IfOk, IfErr}
use Rattle.std.specs.String.{string_bytes}
use Rattle.bv_base.specs.Outside.{Listing, Rose, appended, last_begun}
use Rattle.bv_base.specs.declared.files.Begun.{Begun}
use Rattle.bv_base.specs.declared.files.Files.{Ghosts}
use Rattle.bv_base.specs.declared.memory.NoMemory.{NoMemory}
use Rattle.bv_base.specs.declared.status.Status.{Status}
use Rattle.bv_base.specs.declared.status.Status.TheVariants as status
use Rattle.bst_run.specs.declared.outcome.Outcome.{Outcome}
use Rattle.bst_run.specs.declared.stop.Stop.{Stop}
use Rattle.bst_run.specs.declared.stop.Stop.TheVariants.{Told, Absent, Failed, TooLong, NoMemory as Wanting}
use Rattle.bst_run.specs.Delivery.{Sunk, IsFront, IsDelivered, Whole, OutFailed, ErrFailed, OutWanting, ErrWanting, Delivers}
use Rattle.bst_run.specs.Forms.{Form, Check, Infer, Run, RunUnder, Gen}
use Rattle.bst_run.specs.Generated.{IsGenerating, gen_outcome}
use Rattle.bst_run.specs.Reads.{Reads}
use Rattle.bst_run.specs.Report.{usage, absent, unread, too_long}
use Rattle.bst_run.specs.Stops.{Gives, Decides, HasCause, IsDecided, IsInside as IsFromInside, IsRefusal, IsRefusing, told_of}
use Rattle.bst_run.specs.Top.{CausedBy, IsWanted, IsAnswer, IsAnswered, Promises, IsPromised, IsDoneWell, IsInside, IsMade, IsMadeOf, IsMaking, Makes, IsUnder, SaysDone, ended, outcome_in}
use Rattle.bst_run.specs.Under.{FaultsOutside}
use Rattle.std.proofs.lemmas.List.{append_cancel_left}
use Rattle.bst_run.proofs.DeliveryLemmas.{appended_nothing, delivered_front, delivered_whole, silent, wanting}

-- a status that the files decide has no cause outside
decided_cause : (given : Status) (outcome : Outcome) (begun : Option Begun) (f f' : ℕ) → IsDecided given → CausedBy given outcome begun f f'
decided_cause status.Usage outcome begun f f' decided = absurd decided
decided_cause status.NoFile outcome begun f f' decided = absurd decided
decided_cause status.ReadFailed outcome begun f f' decided = absurd decided
decided_cause status.WriteFailed outcome begun f f' decided = absurd decided
decided_cause status.NoMemory outcome begun f f' decided = absurd decided
decided_cause _ outcome begun f f' decided = tt

-- a status of a refusal is one that the files decide
refusing_decided : (given : Status) → IsRefusing given → IsDecided given
refusing_decided status.Done refusing = absurd refusing
refusing_decided status.Fault refusing = absurd refusing
refusing_decided status.Budget refusing = absurd refusing
refusing_decided _ refusing = refusing

-- the outcome that is told is the one that comes of it
same_told : (o outcome : Outcome) → Some o ≡ Some outcome → o ≡ outcome
same_told o outcome is = cc

-- what the outside shows of a command's result, it shows of the outcome
told_cause : (result : Result Outcome Stop) (outcome : Outcome) (begun : Option Begun) (f f' : ℕ) → told_of result ≡ Some outcome
    → IfOk result (λ o. IsDecided o.status) → IfErr result (λ stop. HasCause stop begun f f') → CausedBy outcome.status outcome begun f f'
told_cause (Ok o) outcome begun f f' is decided cause =
    decided_cause outcome.status outcome begun f f' (subst (λ (x : Outcome). IsDecided x.status) (same_told o outcome is) decided)
told_cause (Err (Told o)) outcome begun f f' is decided cause =
    decided_cause outcome.status outcome begun f f'
    (subst (λ (x : Outcome). IsDecided x.status) (same_told o outcome is) (refusing_decided o.status cause.1))
told_cause (Err (Absent name)) outcome begun f f' is decided cause =
    subst (λ (x : Outcome). CausedBy x.status x begun f f') (same_told (absent (string_bytes name)) outcome is) (rw cause (refl, refl))
told_cause (Err (Failed name)) outcome begun f f' is decided cause =
    let opened = cause.0 in
    subst (λ (x : Outcome). CausedBy x.status x begun f f') (same_told (unread (string_bytes name)) outcome is) (rw opened (cause.1, (refl, refl)))
told_cause (Err (TooLong name)) outcome begun f f' is decided cause =
    subst (λ (x : Outcome). CausedBy x.status x begun f f') (same_told (too_long (string_bytes name)) outcome is) tt
told_cause (Err Wanting) outcome begun f f' is decided cause = absurd (cc)

-- the outcome of a command's result is the one that is wanted of the files, where they tell
told_wanted : (t : Option Listing) (wanted : Listing → Result Outcome Outcome) (result : Result Outcome Stop) (outcome : Outcome) → told_of result ≡ Some outcome
    → Gives {A = Outcome} t wanted result → IfSome t (λ told. IsWanted (ended (wanted told)) outcome)
told_wanted None wanted result outcome is gives = tt
told_wanted (Some t) wanted (Ok o) outcome is gives = inl (sym (same_told o outcome is) ∙ sym (ap ended gives))
told_wanted (Some t) wanted (Err (Told o)) outcome is gives = inl (sym (same_told o outcome is) ∙ sym (ap ended gives))
told_wanted (Some t) wanted (Err (Absent name)) outcome is gives =
    inl (sym (same_told (absent (string_bytes name)) outcome is) ∙ sym (ap ended gives))
told_wanted (Some t) wanted (Err (Failed name)) outcome is gives =
    inr (string_bytes name, sym (same_told (unread (string_bytes name)) outcome is))
told_wanted (Some t) wanted (Err (TooLong name)) outcome is gives =
    inl (sym (same_told (too_long (string_bytes name)) outcome is) ∙ sym (ap ended gives))
told_wanted (Some t) wanted (Err Wanting) outcome is gives = absurd (cc)

-- an outcome has no text for standard output, and is neither that of something done nor an execution error
record IsBare (outcome : Outcome) : Type 0 where
  none : outcome.out ≡ []
  not_done : outcome.status ≡ status.Done → ⊥
  no_fault : outcome.status ≡ status.Fault → ⊥

-- so is one that the bytes of the files decide and that stops a command, and that of each stop
refusal_bare : (outcome : Outcome) → IsRefusal outcome → IsBare outcome
refusal_bare outcome refusal =
    record { none = refusal.0; not_done = λ done. subst IsRefusing done refusal.1; no_fault = λ fault. subst IsRefusing fault refusal.1 }

stop_bare : (stop : Stop) (outcome : Outcome) (begun : Option Begun) (f f' : ℕ) → told_of (Err stop) ≡ Some outcome → HasCause stop begun f f' → IsBare outcome
stop_bare (Told o) outcome begun f f' is cause = subst IsBare (same_told o outcome is) (refusal_bare o cause)
stop_bare (Absent name) outcome begun f f' is cause =
    subst IsBare (same_told (absent (string_bytes name)) outcome is) (record { none = refl; not_done = λ done. cc; no_fault = λ fault. cc })
stop_bare (Failed name) outcome begun f f' is cause =
    subst IsBare (same_told (unread (string_bytes name)) outcome is) (record { none = refl; not_done = λ done. cc; no_fault = λ fault. cc })
stop_bare (TooLong name) outcome begun f f' is cause =
    subst IsBare (same_told (too_long (string_bytes name)) outcome is) (record { none = refl; not_done = λ done. cc; no_fault = λ fault. cc })
stop_bare Wanting outcome begun f f' is cause = absurd (cc)

-- such an outcome doesn't say that something was done
says_nothing : (outcome : Outcome) → IsBare outcome → SaysDone outcome → ⊥
says_nothing outcome bare (inl done) = bare.not_done done
says_nothing outcome bare (inr some) = some bare.none

-- so what a command promises of an outcome that does is promised of the outcome
told_safe : (t : Option Listing) (form : Form) (result : Result Outcome Stop) (outcome : Outcome) (begun : Option Begun) (f f' : ℕ) → told_of result ≡ Some outcome
    → IfErr result (λ stop. HasCause stop begun f f') → IfOk result (λ o. IfSome t (λ told. Promises told form o))
    → IfSome t (λ told. SaysDone outcome → Promises told form outcome)
told_safe None form result outcome begun f f' is cause safe = tt
told_safe (Some t) form (Ok o) outcome begun f f' is cause safe = λ says. subst (λ (x : Outcome). Promises t form x) (same_told o outcome is) safe
told_safe (Some t) form (Err stop) outcome begun f f' is cause safe =
    λ says. absurd (says_nothing outcome (stop_bare stop outcome begun f f' is cause) says)

-- and what holds of the execution errors of a command's result holds of those of its outcome
told_outside : (result : Result Outcome Stop) (outcome : Outcome) (begun : Option Begun) (f f' : ℕ) → told_of result ≡ Some outcome
    → IfErr result (λ stop. HasCause stop begun f f') → IfOk result FaultsOutside → FaultsOutside outcome
told_outside (Ok o) outcome begun f f' is cause outside = subst FaultsOutside (same_told o outcome is) outside
told_outside (Err stop) outcome begun f f' is cause outside = λ fault. absurd ((stop_bare stop outcome begun f f' is cause).no_fault fault)

-- what the words of a form come to
pub told_answer : {F : Type 0} (see : Ghosts F) (old new : F) (form : Form) (wanted : Listing → Result Outcome Outcome) (result : Result Outcome Stop) (found : Result Outcome NoMemory)
    → Reads {F = F} {A = Outcome} see old new wanted result → IfOk result (λ o. IsDecided o.status)
    → IfOk result (λ o. IfSome (see.told old) (λ told. Promises told form o))
    → (IsUnder form → IfOk result FaultsOutside) → ((t : Listing) → ended (wanted t) ≡ outcome_in t form) → ((o : Outcome) → IsMade form o)
    → IfOk found (λ o. told_of result ≡ Some o) → IfOk found (λ o. IsAnswer {F = F} see old new form o)
told_answer see old new form wanted result (Ok o) reads decided safe outside same made is = record {
  wanted = as_wanted (see.told old) (told_wanted (see.told old) wanted result o is reads.gives);
  cause = told_cause result o (last_begun (see.begun new)) (see.faults old) (see.faults new) is decided reads.cause;
  safe = told_safe (see.told old) form result o (last_begun (see.begun new)) (see.faults old) (see.faults new) is reads.cause safe;
  outside = λ under. told_outside result o (last_begun (see.begun new)) (see.faults old) (see.faults new) is reads.cause (outside under);
  made = made o;
}
  where
    as_wanted : (t : Option Listing) → IfSome t (λ told. IsWanted (ended (wanted told)) o) → IfSome t (λ told. IsWanted (outcome_in told form) o)
    as_wanted None w = tt
    as_wanted (Some t) w = subst (λ (x : Outcome). IsWanted x o) (same t) w
told_answer see old new form wanted result (Err refused) reads decided safe outside same made is = tt

-- the words have no form
pub usage_delivered : (found : Result Outcome NoMemory) (given : Status) (out err : Sunk) → IfOk found (λ o. o ≡ usage) → Delivers found given out err → IsDelivered usage given out err
usage_delivered (Ok o) given out err is delivered = subst (λ (x : Outcome). IsDelivered x given out err) is delivered
usage_delivered (Err refused) given out err is delivered = wanting usage given out err delivered.0 delivered.1 delivered.2

module _ {F : Type 0} (see : Ghosts F) (old new : F) (form : Form) where
  -- the answer is the one that is wanted
  pub form_answered : (found : Result Outcome NoMemory) (given : Status) (out err : Sunk) → IfOk found (λ o. IsAnswer {F = F} see old new form o) → Delivers found given out err
      → IfSome (see.told old) (λ told. IsAnswered (outcome_in told form) given out err)
  form_answered (Ok o) given out err answer delivered = as_answered (see.told old) answer.wanted
    where
      as_answered : (t : Option Listing) → IfSome t (λ told. IsWanted (outcome_in told form) o) → IfSome t (λ told. IsAnswered (outcome_in told form) given out err)
      as_answered None w = tt
      as_answered (Some t) (inl same) = inl (subst (λ (x : Outcome). IsDelivered x given out err) same delivered)
      as_answered (Some t) (inr named) = inr (named.0, subst (λ (x : Outcome). IsDelivered x given out err) named.1 delivered)
  form_answered (Err refused) given out err answer delivered = as_answered (see.told old)
    where
      as_answered : (t : Option Listing) → IfSome t (λ told. IsAnswered (outcome_in told form) given out err)
      as_answered None = tt
      as_answered (Some t) = inl (wanting (outcome_in t form) given out err delivered.0 delivered.1 delivered.2)

-- what an outcome names of the file that was begun last stands on standard error
named_shown : (missed : Bool) (naming : List ℕ → Outcome) (o : Outcome) (err : Sunk) → err.after ≡ appended err.before o.err → (begun : Option Begun)
    → IsSomeAnd begun (λ b. (b.absent ≡ missed) × (o ≡ naming b.name)) → IsSomeAnd begun (λ b. (b.absent ≡ missed) × (err.after ≡ appended err.before (naming b.name).err))
named_shown missed naming o err taken None cause = absurd cause
named_shown missed naming o err taken (Some b) cause = (cause.0, taken ∙ ap (λ (x : Outcome). appended err.before x.err) cause.1)

-- an answer NoFile names the file that isn't there
pub no_file_shown : {F : Type 0} (see : Ghosts F) (old new : F) (form : Form) (found : Result Outcome NoMemory) (given : Status) (out err : Sunk)
    → IfOk found (λ o. IsAnswer {F = F} see old new form o) → Delivers found given out err → given ≡ status.NoFile
    → IsSomeAnd (last_begun (see.begun new)) (λ b. (b.absent ≡ true) × (err.after ≡ appended err.before (absent b.name).err))
no_file_shown see old new form (Err refused) given out err answer delivered is = let e = delivered.0 in absurd (cc)
no_file_shown see old new form (Ok o) given out err answer delivered is =
    let whole = delivered_whole o given out err delivered (λ e. cc) (λ e. cc) in
    named_shown true absent o err whole.1.taken (last_begun (see.begun new))
    (subst (λ (s : Status). CausedBy s o (last_begun (see.begun new)) (see.faults old) (see.faults new)) (sym whole.0 ∙ is) answer.cause)

-- an answer ReadFailed names the file that couldn't be read
pub read_failed_shown : {F : Type 0} (see : Ghosts F) (old new : F) (form : Form) (found : Result Outcome NoMemory) (given : Status) (out err : Sunk)
    → IfOk found (λ o. IsAnswer {F = F} see old new form o) → Delivers found given out err → given ≡ status.ReadFailed
    → Rose (see.faults old) (see.faults new) × IsSomeAnd (last_begun (see.begun new)) (λ b. (b.absent ≡ false) × (err.after ≡ appended err.before (unread b.name).err))
read_failed_shown see old new form (Err refused) given out err answer delivered is = let e = delivered.0 in absurd (cc)
read_failed_shown see old new form (Ok o) given out err answer delivered is =
    let whole = delivered_whole o given out err delivered (λ e. cc) (λ e. cc) in
    let cause : CausedBy status.ReadFailed o (last_begun (see.begun new)) (see.faults old) (see.faults new) =
    subst (λ (s : Status). CausedBy s o (last_begun (see.begun new)) (see.faults old) (see.faults new)) (sym whole.0 ∙ is) answer.cause in
    (cause.0, named_shown false unread o err whole.1.taken (last_begun (see.begun new)) cause.1)

-- an answer WriteFailed comes from a sink
pub write_failed_shown : {F : Type 0} (see : Ghosts F) (old new : F) (form : Form) (found : Result Outcome NoMemory) (given : Status) (out err : Sunk)
    → IfOk found (λ o. IsAnswer {F = F} see old new form o) → Delivers found given out err → given ≡ status.WriteFailed
    → Rose out.faults out.faults' ⊎ Rose err.faults err.faults'
write_failed_shown see old new form (Err refused) given out err answer delivered is = let e = delivered.0 in absurd (cc)
write_failed_shown see old new form (Ok o) given out err answer (OutFailed e cut last) is = inl cut.failed
write_failed_shown see old new form (Ok o) given out err answer (ErrFailed e put cut) is = inr cut.failed
write_failed_shown see old new form (Ok o) given out err answer (OutWanting e front last) is = absurd (cc)
write_failed_shown see old new form (Ok o) given out err answer (ErrWanting e put front) is = absurd (cc)
write_failed_shown see old new form (Ok o) given out err answer (Whole e put last) is =
    absurd (subst (λ (s : Status). CausedBy s o (last_begun (see.begun new)) (see.faults old) (see.faults new)) (sym e ∙ is) answer.cause)

-- words of a form aren't answered by Usage
pub form_not_usage : {F : Type 0} (see : Ghosts F) (old new : F) (form : Form) (found : Result Outcome NoMemory) (given : Status) (out err : Sunk)
    → IfOk found (λ o. IsAnswer {F = F} see old new form o) → Delivers found given out err → given ≡ status.Usage → ⊥
form_not_usage see old new form (Err refused) given out err answer delivered is = let e = delivered.0 in cc
form_not_usage see old new form (Ok o) given out err answer delivered is =
    let whole = delivered_whole o given out err delivered (λ e. cc) (λ e. cc) in
    subst (λ (s : Status). CausedBy s o (last_begun (see.begun new)) (see.faults old) (see.faults new)) (sym whole.0 ∙ is) answer.cause

-- what an outcome promises, a front of its text on standard output promises
promised : (told : Listing) (form : Form) (o : Outcome) (out : Sunk) → IsFront o.out out → Promises told form o → IsPromised told form out
promised told (Check style cert) o out front acceptance =
    record { found = acceptance.found; printed = subst (λ (x : Outcome). IsFront x.out out) acceptance.printed front }
promised told (Infer style cond) o out front writing =
    record { found = writing.found; printed = subst (λ (x : Outcome). IsFront x.out out) writing.printed front }
promised told (Run aux steps) o out front acceptance = tt
promised told (RunUnder aux steps cert) o out front acceptance = tt
promised told (Gen seed count) o out front generating =
    record { made = generating.made; printed = subst (λ (x : Outcome). IsFront x.out out) generating.printed front }

-- a text on standard output promises what the outcome does
pub form_safe : {F : Type 0} (see : Ghosts F) (old new : F) (form : Form) (found : Result Outcome NoMemory) (given : Status) (out err : Sunk)
    → IfOk found (λ o. IsAnswer {F = F} see old new form o) → Delivers found given out err → out.after ≢ out.before
    → IfSome (see.told old) (λ told. IsPromised told form out)
form_safe see old new form (Err refused) given out err answer delivered more =
    absurd (more (delivered.1.taken ∙ sym (appended_nothing out.before)))
form_safe see old new form (Ok o) given out err answer delivered more =
    shown (see.told old) answer.safe
  where
    shown : (t : Option Listing) → IfSome t (λ told. SaysDone o → Promises told form o) → IfSome t (λ told. IsPromised told form out)
    shown None safe = tt
    shown (Some t) safe =
        promised t form o out (delivered_front o given out err delivered)
        (safe (inr (λ none. more (silent o given out err none delivered))))

-- what an outcome promises, Done promises
done_well : (told : Listing) (form : Form) (o : Outcome) → Promises told form o → IsDoneWell told form
done_well told (Check style cert) o acceptance = acceptance.found
done_well told (Infer style cond) o writing = writing.found
done_well told (Run aux steps) o acceptance = tt
done_well told (RunUnder aux steps cert) o acceptance = tt
done_well told (Gen seed count) o generating = generating.made

-- a status that is delivered as Done is that of the outcome
given_done : (o : Outcome) (given : Status) (out err : Sunk) → IsDelivered o given out err → given ≡ status.Done → o.status ≡ status.Done
given_done o given out err delivered is = sym (delivered_whole o given out err delivered (λ e. cc) (λ e. cc)).0 ∙ is

-- the answer Done promises what the outcome does
pub form_done : {F : Type 0} (see : Ghosts F) (old new : F) (form : Form) (found : Result Outcome NoMemory) (given : Status) (out err : Sunk)
    → IfOk found (λ o. IsAnswer {F = F} see old new form o) → Delivers found given out err → given ≡ status.Done
    → IfSome (see.told old) (λ told. IsDoneWell told form)
form_done see old new form (Err refused) given out err answer delivered is = let e = delivered.0 in absurd (cc)
form_done see old new form (Ok o) given out err answer delivered is = shown (see.told old) answer.safe
  where
    shown : (t : Option Listing) → IfSome t (λ told. SaysDone o → Promises told form o) → IfSome t (λ told. IsDoneWell told form)
    shown None safe = tt
    shown (Some t) safe = done_well t form o (safe (inl (given_done o given out err delivered is)))

-- two logs behind the same bytes of which one begins with `inside` and the other with `outside`
apart : (before inside outside : List ℕ) (log : List ℕ) → log ≡ codes "outside\n" ++ outside
    → Some (before ++ log) ≡ Some (before ++ (codes "inside\n" ++ inside)) → ⊥
apart before inside outside log is same =
    differ (sym is ∙ append_cancel_left before log (codes "inside\n" ++ inside) (unwrapped same))
  where
    unwrapped : {x y : List ℕ} → Some x ≡ Some y → x ≡ y
    unwrapped e = cc

    is_o : List ℕ → Bool
    is_o log = nat_eq (get_or log 0 0) 111

    differ : codes "outside\n" ++ outside ≡ codes "inside\n" ++ inside → ⊥
    differ e =
        let both : true ≡ false = ap is_o e in
        cc

-- where a log was put that begins with `inside`, the answer is no execution error
pub form_inside : {F : Type 0} (see : Ghosts F) (old new : F) (form : Form) (found : Result Outcome NoMemory) (given : Status) (out err : Sunk)
    → IfOk found (λ o. IsAnswer {F = F} see old new form o) → Delivers found given out err → IsInside form err → given ≡ status.Fault → ⊥
form_inside see old new form (Err refused) given out err answer delivered inside is = let e = delivered.0 in cc
form_inside see old new form (Ok o) given out err answer delivered inside is =
    let whole = delivered_whole o given out err delivered (λ e. cc) (λ e. cc) in
    let log = answer.outside inside.under (sym whole.0 ∙ is) in
    apart inside.before inside.rest log.0 o.err log.1
    (ap (λ (b : Option (List ℕ)). appended b o.err) (sym inside.was) ∙ sym whole.1.taken ∙ inside.is)

-- the words `run AUX N` and `run AUX N CERT` promise nothing of a text
pub nothing_promised : (t : Option Listing) (form : Form) (result : Result Outcome Stop) → ((told : Listing) (o : Outcome) → Promises told form o)
    → IfOk result (λ o. IfSome t (λ told. Promises told form o))
nothing_promised None form (Ok o) none = tt
nothing_promised (Some t) form (Ok o) none = none t o
nothing_promised t form (Err stop) none = tt

-- what the words `gen SEED COUNT` come to
pub gen_told : (seed count : ℕ) (result : Result Outcome Stop) (found : Result Outcome NoMemory)
    → Decides {A = Outcome} (gen_outcome seed count) result → IfOk result (λ o. IsDecided o.status) → IfOk result (IsGenerating seed count)
    → IfErr result IsFromInside → IfOk found (λ o. told_of result ≡ Some o) → IfOk found (IsMadeOf seed count)
gen_told seed count result (Err refused) decides decided safe inside is = tt
gen_told seed count (Ok o) (Ok outcome) decides decided safe inside is =
    let same : o ≡ outcome = same_told o outcome is in
    record {
      wanted = sym same ∙ sym (ap ended decides);
      decided = subst (λ (x : Outcome). IsDecided x.status) same decided;
      safe = λ says. subst (IsGenerating seed count) same safe;
    }
gen_told seed count (Err (Told o)) (Ok outcome) decides decided safe inside is =
    let same : o ≡ outcome = same_told o outcome is in
    record {
      wanted = sym same ∙ sym (ap ended decides);
      decided = subst (λ (x : Outcome). IsDecided x.status) same (refusing_decided o.status inside.1);
      safe = λ says. absurd (says_nothing outcome (subst IsBare same (refusal_bare o inside)) says);
    }
gen_told seed count (Err (Absent name)) (Ok outcome) decides decided safe inside is = absurd inside
gen_told seed count (Err (Failed name)) (Ok outcome) decides decided safe inside is = absurd inside
gen_told seed count (Err (TooLong name)) (Ok outcome) decides decided safe inside is = absurd inside
gen_told seed count (Err Wanting) (Ok outcome) decides decided safe inside is = absurd (cc)

-- it is what they come to over all files, which are left alone
pub gen_answer : {F : Type 0} (see : Ghosts F) (files : F) (seed count : ℕ) (form : Form) (found : Result Outcome NoMemory)
    → form ≡ Gen seed count → IfOk found (IsMadeOf seed count) → IfOk found (λ o. IsAnswer {F = F} see files files form o)
gen_answer see files seed count form (Err refused) same made = tt
gen_answer {F = F} see files seed count form (Ok o) same made = subst (λ (f : Form). IsAnswer {F = F} see files files f o) (sym same) (record {
  wanted = as_wanted (see.told files);
  cause = decided_cause o.status o (last_begun (see.begun files)) (see.faults files) (see.faults files) made.decided;
  safe = as_safe (see.told files);
  outside = λ under. absurd under;
  made = made;
})
  where
    as_wanted : (t : Option Listing) → IfSome t (λ told. IsWanted (outcome_in told (Gen seed count)) o)
    as_wanted None = tt
    as_wanted (Some t) = inl made.wanted

    as_safe : (t : Option Listing) → IfSome t (λ told. SaysDone o → Promises told (Gen seed count) o)
    as_safe None = tt
    as_safe (Some t) = made.safe

-- what they come to is delivered, and says of the style that is made what it promises
making : (seed count : ℕ) (found : Result Outcome NoMemory) (given : Status) (out err : Sunk)
    → IfOk found (IsMadeOf seed count) → Delivers found given out err → IsMaking seed count given out err
making seed count (Err refused) given out err made delivered = record {
  delivered = wanting (ended (gen_outcome seed count)) given out err delivered.0 delivered.1 delivered.2;
  done = λ is.
      let e = delivered.0 in
      absurd (cc);
  safe = λ more. absurd (more (delivered.1.taken ∙ sym (appended_nothing out.before)));
}
making seed count (Ok o) given out err made delivered = record {
  delivered = subst (λ (x : Outcome). IsDelivered x given out err) made.wanted delivered;
  done = λ is. (made.safe (inl (given_done o given out err delivered is))).made;
  safe = λ more.
      let generating = made.safe (inr (λ none. more (silent o given out err none delivered))) in
      record {
        made = generating.made;
        printed = subst (λ (x : Outcome). IsFront x.out out) generating.printed (delivered_front o given out err delivered);
      };
}

-- the same where the words have that form
pub form_made : {F : Type 0} (see : Ghosts F) (old new : F) (form : Form) (found : Result Outcome NoMemory) (given : Status) (out err : Sunk)
    → IfOk found (λ o. IsAnswer {F = F} see old new form o) → Delivers found given out err → Makes form given out err
form_made see old new (Check style cert) found given out err answer delivered = tt
form_made see old new (Infer style cond) found given out err answer delivered = tt
form_made see old new (Run aux steps) found given out err answer delivered = tt
form_made see old new (RunUnder aux steps cert) found given out err answer delivered = tt
form_made see old new (Gen seed count) (Ok o) given out err answer delivered = making seed count (Ok o) given out err answer.made delivered
form_made see old new (Gen seed count) (Err refused) given out err answer delivered = making seed count (Err refused) given out err tt delivered

-- words of no form are answered by Usage, or the sinks decide
pub usage_given : (given : Status) (out err : Sunk) → IsDelivered usage given out err
    → (given ≢ status.NoFile) × ((given ≢ status.ReadFailed) × (given ≡ status.WriteFailed → Rose out.faults out.faults' ⊎ Rose err.faults err.faults'))
usage_given given out err (Whole e put last) =
    let said : given ≡ status.Usage = e in
    (λ is. cc, (λ is. cc, λ is. absurd (cc)))
usage_given given out err (OutFailed e cut last) = (λ is. cc, (λ is. cc, λ is. inl cut.failed))
usage_given given out err (ErrFailed e put cut) = (λ is. cc, (λ is. cc, λ is. inr cut.failed))
usage_given given out err (OutWanting e front last) = (λ is. cc, (λ is. cc, λ is. absurd (cc)))
usage_given given out err (ErrWanting e put front) = (λ is. cc, (λ is. cc, λ is. absurd (cc)))
