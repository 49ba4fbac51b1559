-- Files and a sink in memory, and which of their calls fail (docs/COMMANDS.md, "Files and sinks").
use Rattle.std.specs.Prelude.{ℕ, ◌+◌, min, Bool, List, [], ◌∷◌, ◌++◌, take, drop, Result, Ok, Err, nat_eq, refl}
use Rattle.std.specs.List.{list_any}
use Rattle.std.specs.FinMap as map
use Rattle.std.specs.Coded.{Coded, code_by, coded×, coded_ℕ, coded_bool, coded_list}
use Rattle.bv_base.specs.Outside.{Listing, opened, missing}
use Rattle.bv_base.specs.declared.files.Begun.{Begun}
use Rattle.bv_base.specs.declared.files.BeginAnswer.{BeginAnswer}
use Rattle.bv_base.specs.declared.files.BeginAnswer.TheVariants.{Absent, Failed as BeginFailed, NoMemory as BeginNoMemory}
use Rattle.bv_base.specs.declared.files.Failed.{Failed}
use Rattle.bv_base.specs.declared.sink.PutAnswer.{PutAnswer}
use Rattle.bv_base.specs.declared.sink.PutAnswer.TheVariants.{Failed as PutFailed, NoMemory as PutNoMemory}

-- one more, where a count stands still at the end of its type
abbrev pub counted : ℕ → ℕ
counted count = min (count + 1) 18446744073709551615

-- whether the call after so many is one of those that fail
abbrev pub fails_after : List ℕ → ℕ → Bool
fails_after failing calls = list_any (λ call. nat_eq call (counted calls)) failing

-- files in memory: the files, how many calls were made, which fail, what was begun, in order, what is left of
-- the file that was begun, and the count of faults
pub record FileMemory : Type 0 where
  pub listing : Listing
  pub calls : ℕ
  pub failing : List ℕ
  pub begun : List Begun
  pub rest : List ℕ
  pub faults : ℕ

-- no file, no call, none that fails
abbrev pub no_files : FileMemory
no_files = record { listing = map.empty; calls = 0; failing = []; begun = []; rest = []; faults = 0 }

-- how proofs tell these values apart: each is stored as the tuple of its fields
abbrev pub begun_code : Coded Begun
begun_code = code_by (List ℕ × Bool) (coded× (coded_list coded_ℕ) coded_bool) (λ b. (b.name, b.absent)) (λ p. record { name = p.0; absent = p.1 }) (λ _. refl)

-- of files by their names
abbrev pub listing_code : Coded Listing
listing_code = map.code (coded_list coded_ℕ) (coded_list coded_ℕ)

-- of all that is known of files in memory
abbrev pub file_memory_code : Coded FileMemory
file_memory_code =
    code_by (Listing × (ℕ × (List ℕ × (List Begun × (List ℕ × ℕ)))))
    (coded× listing_code (coded× coded_ℕ (coded× (coded_list coded_ℕ) (coded× (coded_list begun_code) (coded× (coded_list coded_ℕ) coded_ℕ)))))
    (λ m. (m.listing, (m.calls, (m.failing, (m.begun, (m.rest, m.faults))))))
    (λ p. record { listing = p.0; calls = p.1.0; failing = p.1.1.0; begun = p.1.1.1.0; rest = p.1.1.1.1.0; faults = p.1.1.1.1.1 })
    (λ _. refl)

-- the files after a `begin` of a name with this answer, where the file has these bytes
abbrev pub after_begin : FileMemory → List ℕ → List ℕ → Result (Unit {0}) BeginAnswer → FileMemory
after_begin m name bytes (Ok _) = record m { calls = counted m.calls; begun = m.begun ++ opened name ∷ []; rest = bytes }
after_begin m name bytes (Err Absent) = record m { calls = counted m.calls; begun = m.begun ++ missing name ∷ [] }
after_begin m name bytes (Err BeginFailed) = record m { calls = counted m.calls; begun = m.begun ++ opened name ∷ []; faults = counted m.faults }
after_begin m name bytes (Err BeginNoMemory) = record m { calls = counted m.calls }

-- the files after a `read` with this answer
abbrev pub after_read : FileMemory → Result ℕ Failed → FileMemory
after_read m (Ok count) = record m { calls = counted m.calls; rest = drop count m.rest }
after_read m (Err _) = record m { calls = counted m.calls; faults = counted m.faults }

-- a sink in memory: what was written, how many calls were made, which fail, and the count of faults
pub record SinkMemory : Type 0 where
  pub written : List ℕ
  pub calls : ℕ
  pub failing : List ℕ
  pub faults : ℕ

-- the sink after a `put` of this piece with this answer
abbrev pub after_put : SinkMemory → List ℕ → Result ℕ PutAnswer → SinkMemory
after_put m piece (Ok count) = record m { calls = counted m.calls; written = m.written ++ take count piece }
after_put m piece (Err PutFailed) = record m { calls = counted m.calls; faults = counted m.faults }
after_put m piece (Err PutNoMemory) = record m { calls = counted m.calls }
