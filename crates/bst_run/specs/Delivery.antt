-- What a call leaves on standard output and standard error (docs/COMMANDS.md, "Answers").
use Rattle.std.specs.Prelude.{◌≡◌, ◌≢◌, ◌⊎◌, ◌<◌, ◌≤◌, ℕ, List, [], length, take, Option, Result, Ok, Err}
use Rattle.bv_base.specs.Outside.{Rose, appended}
use Rattle.bv_base.specs.declared.memory.NoMemory.{NoMemory}
use Rattle.bv_base.specs.declared.sink.Sink.{Ghosts}
use Rattle.bv_base.specs.declared.status.Status.{Status}
use Rattle.bv_base.specs.declared.status.Status.TheVariants as status
use Rattle.bst_run.specs.declared.outcome.Outcome.{Outcome}

-- a sink before and after a call: what it has taken, where that is told, and its count of faults
pub record Sunk : Type 0 where
  pub before : Option (List ℕ)
  pub after : Option (List ℕ)
  pub faults : ℕ
  pub faults' : ℕ

-- what is seen of a sink before and after a call
abbrev pub sunk : {S : Type 0} → Ghosts S → S → S → Sunk
sunk see old new = record { before = see.written old; after = see.written new; faults = see.faults old; faults' = see.faults new }

-- the whole text was taken, and nothing else, and the sink didn't fail
pub record IsPut (text : List ℕ) (sink : Sunk) : Type 0 where
  pub taken : sink.after ≡ appended sink.before text
  pub steady : sink.faults' ≡ sink.faults

-- a front of the text was taken
abbrev pub IsFront : List ℕ → Sunk → Type 0
IsFront text sink = (n : ℕ) × (n ≤ length text) × (sink.after ≡ appended sink.before (take n text))

-- the sink failed in a text that has bytes, and a front of it was taken
pub record IsCut (text : List ℕ) (sink : Sunk) : Type 0 where
  pub some : 0 < length text
  pub failed : Rose sink.faults sink.faults'
  pub front : IsFront text sink

-- memory was wanting for a text of which a front was taken, and the sink didn't fail
pub record IsHeld (text : List ℕ) (sink : Sunk) : Type 0 where
  pub front : IsFront text sink
  pub steady : sink.faults' ≡ sink.faults

-- what comes of an outcome whose texts are put, that for standard output first
pub data IsDelivered (outcome : Outcome) (given : Status) (out err : Sunk) : Type 0 where
  -- both texts were taken, and its status is answered
  Whole : given ≡ outcome.status → IsPut outcome.out out → IsPut outcome.err err → IsDelivered outcome given out err
  -- a sink failed
  OutFailed : given ≡ status.WriteFailed → IsCut outcome.out out → IsPut [] err → IsDelivered outcome given out err
  ErrFailed : given ≡ status.WriteFailed → IsPut outcome.out out → IsCut outcome.err err → IsDelivered outcome given out err
  -- memory was wanting
  OutWanting : given ≡ status.NoMemory → IsHeld outcome.out out → IsPut [] err → IsDelivered outcome given out err
  ErrWanting : given ≡ status.NoMemory → IsPut outcome.out out → IsHeld outcome.err err → IsDelivered outcome given out err

-- what comes of an outcome for which memory may have been wanting
abbrev pub Delivers : Result Outcome NoMemory → Status → Sunk → Sunk → Type 0
Delivers (Ok outcome) given out err = IsDelivered outcome given out err
Delivers (Err _) given out err = (given ≡ status.NoMemory) × IsPut [] out × IsPut [] err

-- what an answer tells of the sinks: it is WriteFailed where the faults of one rose and nowhere else, and where those of standard
-- output did nothing was put on standard error
pub record TellsOfSinks (given : Status) (out err : Sunk) : Type 0 where
  pub write_failed : given ≡ status.WriteFailed → Rose out.faults out.faults' ⊎ Rose err.faults err.faults'
  pub out_failed : out.faults' ≢ out.faults → given ≡ status.WriteFailed
  pub err_failed : err.faults' ≢ err.faults → given ≡ status.WriteFailed
  pub out_first : out.faults' ≢ out.faults → err.after ≡ err.before
