-- Faults of data files (docs/COMMANDS.md, "Faults of data"): their names and places.
use Rattle.std.specs.Prelude.{ℕ, List, codes}
use Rattle.bv_base.specs.declared.place.Place.{Place}
use Rattle.aux_read.specs.Faults as aux
use Rattle.bib_read.specs.Faults as bib
use Rattle.bst_run.specs.declared.data_fault.DataFault.{DataFault}
use Rattle.bst_run.specs.declared.data_fault.DataFault.TheVariants.{Aux, TooDeep, NoStyle, NoData, Bib}

-- the name that a last line tells; a fault of one file has its own
abbrev pub name_of : DataFault → List ℕ
name_of (Aux fault) = aux.name_of fault
name_of (TooDeep place) = codes "TooDeep"
name_of (NoStyle place) = codes "NoStyle"
name_of (NoData place) = codes "NoData"
name_of (Bib fault) = bib.name_of fault

-- where a fault stands
abbrev pub place_of : DataFault → Place
place_of (Aux fault) = aux.place_of fault
place_of (TooDeep place) = place
place_of (NoStyle place) = place
place_of (NoData place) = place
place_of (Bib fault) = bib.place_of fault
