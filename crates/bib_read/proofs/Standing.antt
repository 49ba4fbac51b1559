-- Faults stand in the text or at its end.
use Rattle.std.proofs.Common.{◌≡◌, ◌≢◌, ℕ, ◌-◌, List, length, take, Result, Ok, Err, refl, sym, ap, subst, ◌∙◌, arith}
use Rattle.std.proofs.lemmas.List.{take_all}
use Rattle.bv_base.specs.Places.{StandsIn, after_bytes, first_place, place_before}
use Rattle.bib_read.specs.Faults.{FaultStandsIn}
use Rattle.bib_read.specs.declared.database.Database.{Database}
use Rattle.bib_read.specs.declared.fault.BibFault.{BibFault}
use Rattle.bib_read.specs.declared.fault.BibFault.TheVariants.{NoMemory as WantOfMemory}
use Rattle.bib_read.specs.declared.stop.Stop.{Stop}
use Rattle.bib_read.specs.declared.stop.Stop.TheVariants.{Expected, EndOfFile, Unbalanced, RepeatedKey, NoMemory}
use Rattle.bib_read.specs.Progress.{Progress}
use Rattle.bib_read.specs.Reading.{database_of, finished, start, take_items}
use Rattle.bib_read.specs.Stops.{fault_of}

before_left : (source : List ℕ) (left : ℕ) → StandsIn source (place_before source left)
before_left source left = (length source - left, omega arith, refl)

stop_stands : (source : List ℕ) (stop : Stop) → FaultStandsIn source (fault_of source stop)
stop_stands source (Expected left) = before_left source left
stop_stands source EndOfFile =
    let all : length source - 0 ≡ length source = omega arith in
    ap (λ (n : ℕ). after_bytes (take n source) first_place) all
    ∙ ap (λ (l : List ℕ). after_bytes l first_place) (take_all (length source) source (omega arith))
stop_stands source (Unbalanced left) = before_left source left
stop_stands source (RepeatedKey left) = before_left source left
stop_stands source NoMemory = tt

fault_is : (x y : BibFault) (d : Result Database BibFault) → d ≡ Err x → d ≡ Err y → x ≡ y
fault_is x y d e f = cc

finished_stands : (source : List ℕ) (r : Result Progress Stop) (fault : BibFault) → finished source r ≡ Err fault → FaultStandsIn source fault
finished_stands source (Ok p) fault e = absurd (cc)
finished_stands source (Err stop) fault e =
    subst (FaultStandsIn source) (fault_is (fault_of source stop) fault (Err (fault_of source stop)) refl e) (stop_stands source stop)

pub fault_stands : (source : List ℕ) (before : Database) (fault : BibFault) → database_of source before ≡ Err fault → FaultStandsIn source fault
fault_stands source before fault e = finished_stands source (take_items (length source) (start source before)) fault e

-- a text for which the reader stops, but for want of memory, has the fault of that
pub stopped : (source left : List ℕ) (before : Database) (p : Progress) (stop : Stop) (fault : BibFault) → p ≡ start source before → left ≡ source
    → (stop ≢ NoMemory → take_items (length left) p ≡ Err stop) → fault ≡ fault_of source stop → fault ≢ WantOfMemory
    → database_of source before ≡ Err fault
stopped source left before p stop fault begun all refused is other =
    let read : take_items (length source) (start source before) ≡ Err stop =
    ap (λ (l : List ℕ). take_items (length l) (start source before)) (sym all)
    ∙ ap (λ (q : Progress). take_items (length left) q) (sym begun)
    ∙ refused (λ wanting. other (is ∙ ap (λ (s : Stop). fault_of source s) wanting)) in
    ap (λ (r : Result Progress Stop). finished source r) read ∙ ap (λ (f : BibFault). Err f) (sym is)
