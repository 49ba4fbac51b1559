-- What comes of an outcome that is delivered.
use Rattle.std.proofs.Common.{◌≡◌, ◌≢◌, ◌⊎◌, ℕ, zero, suc, List, [], length, take, Option, None, Some, Result, Ok, Err, refl, sym, ◌∙◌, ap, arith, append-nil}
use Rattle.std.proofs.Math.Seq.{take_all}
use Rattle.bv_base.specs.Outside.{Rose, appended}
use Rattle.bv_base.specs.declared.memory.NoMemory.{NoMemory}
use Rattle.bv_base.specs.declared.status.Status.{Status}
use Rattle.bv_base.specs.declared.status.Status.TheVariants as status
use Rattle.bst_run.specs.declared.outcome.Outcome.{Outcome}
use Rattle.bst_run.specs.Delivery.{Sunk, IsPut, IsFront, IsDelivered, Whole, OutFailed, ErrFailed, OutWanting, ErrWanting, Delivers, TellsOfSinks}

-- nothing more is written
pub appended_nothing : (written : Option (List ℕ)) → written ≡ appended written []
appended_nothing None = refl
appended_nothing (Some bytes) = ap Some (sym (append-nil bytes))

-- where nothing was put, a front was
front_nothing : (text : List ℕ) (sink : Sunk) → IsPut [] sink → IsFront text sink
front_nothing text sink put = (0, omega arith, put.taken)

-- a whole text is a front of itself
whole_front : (text : List ℕ) (sink : Sunk) → IsPut text sink → IsFront text sink
whole_front text sink put =
    (length text, omega arith, put.taken ∙ ap (appended sink.before) (sym (take_all (length text) text (omega arith))))

-- whatever came of an outcome, a front of its text for standard output was put
pub delivered_front : (outcome : Outcome) (given : Status) (out err : Sunk) → IsDelivered outcome given out err → IsFront outcome.out out
delivered_front outcome given out err (Whole e put last) = whole_front outcome.out out put
delivered_front outcome given out err (OutFailed e cut last) = cut.front
delivered_front outcome given out err (ErrFailed e put cut) = whole_front outcome.out out put
delivered_front outcome given out err (OutWanting e held last) = held.front
delivered_front outcome given out err (ErrWanting e put held) = whole_front outcome.out out put

-- a status that neither a sink nor want of memory makes is the outcome's, whose text for standard error was taken
pub delivered_whole : (outcome : Outcome) (given : Status) (out err : Sunk) → IsDelivered outcome given out err → given ≢ status.WriteFailed
    → given ≢ status.NoMemory → (given ≡ outcome.status) × IsPut outcome.err err
delivered_whole outcome given out err (Whole e put last) taken held = (e, last)
delivered_whole outcome given out err (OutFailed e cut last) taken held = absurd (taken e)
delivered_whole outcome given out err (ErrFailed e put cut) taken held = absurd (taken e)
delivered_whole outcome given out err (OutWanting e front last) taken held = absurd (held e)
delivered_whole outcome given out err (ErrWanting e put front) taken held = absurd (held e)

-- nothing has no front but itself
take_nothing : (n : ℕ) → take {A = ℕ} n [] ≡ []
take_nothing zero = refl
take_nothing (suc n) = refl

-- an outcome without a text for standard output leaves it as it was
pub silent : (outcome : Outcome) (given : Status) (out err : Sunk) → outcome.out ≡ [] → IsDelivered outcome given out err → out.after ≡ out.before
silent outcome given out err none delivered =
    let front = delivered_front outcome given out err delivered in
    front.2 ∙ ap (λ (text : List ℕ). appended out.before (take front.0 text)) none
    ∙ ap (appended out.before) (take_nothing front.0) ∙ sym (appended_nothing out.before)

-- memory was wanting before anything was put
pub wanting : (outcome : Outcome) (given : Status) (out err : Sunk) → given ≡ status.NoMemory → IsPut [] out → IsPut [] err → IsDelivered outcome given out err
wanting outcome given out err e none last = OutWanting e (record { front = front_nothing outcome.out out none; steady = none.steady }) last

-- where the faults of standard output changed the answer is WriteFailed, and nothing was put on standard error
pub out_failed : (outcome : Outcome) (given : Status) (out err : Sunk) → IsDelivered outcome given out err → out.faults' ≢ out.faults
    → (given ≡ status.WriteFailed) × (err.after ≡ err.before)
out_failed outcome given out err (Whole e put last) failed = absurd (failed put.steady)
out_failed outcome given out err (OutFailed e cut last) failed = (e, last.taken ∙ sym (appended_nothing err.before))
out_failed outcome given out err (ErrFailed e put cut) failed = absurd (failed put.steady)
out_failed outcome given out err (OutWanting e held last) failed = absurd (failed held.steady)
out_failed outcome given out err (ErrWanting e put held) failed = absurd (failed put.steady)

-- where the faults of standard error changed the answer is WriteFailed
pub err_failed : (outcome : Outcome) (given : Status) (out err : Sunk) → IsDelivered outcome given out err → err.faults' ≢ err.faults
    → given ≡ status.WriteFailed
err_failed outcome given out err (Whole e put last) failed = absurd (failed last.steady)
err_failed outcome given out err (OutFailed e cut last) failed = e
err_failed outcome given out err (ErrFailed e put cut) failed = e
err_failed outcome given out err (OutWanting e held last) failed = absurd (failed last.steady)
err_failed outcome given out err (ErrWanting e put held) failed = absurd (failed held.steady)

-- what is told of the sinks, where an answer WriteFailed comes from one
pub sinks_told : (found : Result Outcome NoMemory) (given : Status) (out err : Sunk) → Delivers found given out err
    → (given ≡ status.WriteFailed → Rose out.faults out.faults' ⊎ Rose err.faults err.faults') → TellsOfSinks given out err
sinks_told (Ok o) given out err delivered risen = record {
  write_failed = risen;
  out_failed = λ failed. (out_failed o given out err delivered failed).0;
  err_failed = err_failed o given out err delivered;
  out_first = λ failed. (out_failed o given out err delivered failed).1;
}
sinks_told (Err refused) given out err delivered risen = record {
  write_failed = risen;
  out_failed = λ failed. absurd (failed delivered.1.steady);
  err_failed = λ failed. absurd (failed delivered.2.steady);
  out_first = λ failed. absurd (failed delivered.1.steady);
}
