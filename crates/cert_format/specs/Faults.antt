-- The faults of certificates: their names and places (docs/CERTIFICATES.md, "Faults").
use Rattle.std.specs.Prelude.{ℕ, List, codes}
use Rattle.bv_base.specs.Places.{first_place, place_before}
use Rattle.bv_base.specs.declared.place.Place.{Place}
use Rattle.cert_format.specs.declared.fault.CertFault.{CertFault}
use Rattle.cert_format.specs.declared.fault.CertFault.TheVariants.{Syntax, UnknownName, OutOfRange, NotCanonical, TooMany, NoMemory}
use Rattle.cert_format.specs.declared.stop.Stop.{Stop}
use Rattle.cert_format.specs.declared.stop.Stop.TheVariants.{Syntax as SyntaxBefore, UnknownName as UnknownNameBefore, OutOfRange as OutOfRangeBefore, NotCanonical as NotCanonicalBefore, TooMany as TooManyBefore, NoMemory as WantOfMemory}

-- the name of a fault and where it stands; want of memory, which no answer tells, has the first place
abbrev pub told_of : CertFault → List ℕ × Place
told_of (Syntax place) = (codes "Syntax", place)
told_of (UnknownName place) = (codes "UnknownName", place)
told_of (OutOfRange place) = (codes "OutOfRange", place)
told_of (NotCanonical place) = (codes "NotCanonical", place)
told_of (TooMany place) = (codes "TooMany", place)
told_of NoMemory = (codes "NoMemory", first_place)

-- the name that a last line tells
abbrev pub name_of : CertFault → List ℕ
name_of fault = (told_of fault).0

-- where a fault stands
abbrev pub place_of : CertFault → Place
place_of fault = (told_of fault).1

-- the fault of a text for which the reader stops
abbrev pub fault_of : List ℕ → Stop → CertFault
fault_of source (SyntaxBefore left) = Syntax (place_before source left)
fault_of source (UnknownNameBefore left) = UnknownName (place_before source left)
fault_of source (OutOfRangeBefore left) = OutOfRange (place_before source left)
fault_of source (NotCanonicalBefore left) = NotCanonical (place_before source left)
fault_of source (TooManyBefore left) = TooMany (place_before source left)
fault_of source WantOfMemory = NoMemory
